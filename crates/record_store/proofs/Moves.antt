-- A run of records that moves down inside a part of the memory of its own moves down in the whole memory.
use Rattle.std.proofs.Common.{◌≡◌, ℕ, ◌+◌, ◌-◌, ◌≤◌, List, ◌++◌, length, take, drop, sym, ap, ◌∙◌, arith}
use Rattle.std.specs.List.{copy_within}
use Rattle.std.proofs.lemmas.List.{append_assoc, drop-drop, drop-take, length-drop, length-take-le, take-append-drop, take-take}
use borrow.Rule.Slice.PartMut.{put_mid}
use Rattle.records.specs.declared.record.Record.{Record}

pub gap_closed :
    (xs ys : List Record) (gap start end : ℕ) → gap ≤ start → start ≤ end → end ≤ length xs →
    ys ≡ copy_within (take (end - (start - gap)) (drop (start - gap) xs)) gap (length (take (end - (start - gap)) (drop (start - gap) xs))) 0 →
    put_mid (start - gap) (end - (start - gap)) xs ys ≡ copy_within xs start end (start - gap)
gap_closed xs ys gap start end down rising within is =
    let to : ℕ = start - gap in
    let n : ℕ = end - start in
    let k : ℕ = end - to in
    let part : List Record = drop to xs in
    let mid : List Record = take k part in
    let fits : k ≤ length part = omega (arith, length-drop to xs, down, rising, within) in
    let size : length mid - gap ≡ n = omega (arith, length-take-le k part fits, down, rising) in
    let front : k ≡ gap + n = omega (arith, down, rising) in
    let back : k ≡ n + gap = omega (arith, down, rising) in
    let from : to + gap ≡ start = omega (arith, down) in
    let moved : take (length mid - gap) (drop gap mid) ≡ take n (drop start xs) =
    ap (λ m. take m (drop gap mid)) size
    ∙ ap (λ j. take n (drop gap (take j part))) front
    ∙ ap (take n) (drop-take gap n part)
    ∙ take-take n n (drop gap part) (omega arith)
    ∙ ap (take n) (drop-drop gap to xs ∙ ap (λ j. drop j xs) from)
    in
    let rest : drop (length mid - gap) mid ++ drop k part ≡ drop (to + n) xs =
    ap (λ m. drop m mid ++ drop k part) size
    ∙ ap (λ j. drop n (take j part) ++ drop j part) back
    ∙ ap (λ zs. zs ++ drop (n + gap) part) (drop-take n gap part)
    ∙ ap (λ zs. take gap (drop n part) ++ zs) (sym (drop-drop gap n part))
    ∙ take-append-drop gap (drop n part)
    ∙ drop-drop n to xs
    in
    let zero_more : 0 + (length mid - gap) ≡ length mid - gap = omega arith in
    ap (put_mid to k xs) (is ∙ ap (λ j. take (length mid - gap) (drop gap mid) ++ drop j mid) zero_more)
    ∙ ap (λ zs. take to xs ++ zs)
    (append_assoc (take (length mid - gap) (drop gap mid)) (drop (length mid - gap) mid) (drop k part)
    ∙ ap (λ zs. zs ++ (drop (length mid - gap) mid ++ drop k part)) moved
    ∙ ap (λ zs. take n (drop start xs) ++ zs) rest)
    ∙ sym (append_assoc (take to xs) (take n (drop start xs)) (drop (to + n) xs))
