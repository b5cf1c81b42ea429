-- Bytes written one after another to the front of a list: each write goes on where the last one ended.
use Rattle.std.proofs.Common.{◌≡◌, ℕ, ◌-◌, List, ◌++◌, length, take, drop, sym, ap, ◌∙◌}
use Rattle.snapshot.specs.Overwriting.{overwritten}
use Rattle.snapshot.proofs.Overwritten.{part_more}
use Rattle.book.specs.Bytes.{highest_first}
use Rattle.byteorder.specs.Endian.{big_bytes}
use Rattle.book.proofs.Numbers.{big_bytes_are, length_big_endian}

-- a number more
pub number_more : (old front : List ℕ) {mid part : List ℕ} (at k n : ℕ) → at ≡ length front → mid ≡ overwritten front old → part ≡ big_bytes k n ++ drop k (take (length mid - at) (drop at mid)) → take at mid ++ (part ++ drop (length mid - at) (drop at mid)) ≡ overwritten (front ++ highest_first k n) old
number_more old front {mid} {part} at k n ends is written =
    let rest = take (length mid - at) (drop at mid) in
    part_more old front at ends is (highest_first k n)
    (written ∙ ap (λ bs. bs ++ drop k rest) (big_bytes_are k n) ∙ ap (λ m. highest_first k n ++ drop m rest) (sym (length_big_endian k n)))
