-- The zeros after a slice's records: after one more record, a move to lower places, and the clearing of some.
use Rattle.std.proofs.Common.{◌≡◌, ℕ, zero, suc, ◌+◌, ◌-◌, ◌≤◌, true, List, [], ◌∷◌, ◌++◌, length, take, drop, replicate, set, sym, refl, ap, ◌∙◌, subst, append_assoc, arith}
use Rattle.std.proofs.lemmas.Bool.{and_from, and_parts}
use Rattle.std.proofs.lemmas.List.{drop-drop, drop-set-lt, drop_at, length-drop, length-replicate, length-take-le, take-append-drop}
use Rattle.std.proofs.lemmas.List.Edits.{drop-paste}
use Rattle.std.proofs.lemmas.List.Folds.{list_all-append}
use Rattle.std.proofs.lemmas.Slice.{drop-put_mid, take-put_mid}
use Rattle.std.proofs.Math.Seq.{paste}
use Rattle.std.specs.List.{copy_within, list_all}
use borrow.Rule.Slice.PartMut.{put_mid}
use Rattle.records.specs.Records.{no_record}
use Rattle.records.specs.declared.record.Record.{Record}
use Rattle.records.specs.Slices.{is_zero, zeros_after}

pub zeroed : (n : ℕ) → list_all is_zero (replicate n no_record) ≡ true
zeroed zero = refl
zeroed (suc n) = zeroed n

tail : (xs : List Record) → list_all is_zero xs ≡ true → list_all is_zero (drop 1 xs) ≡ true
tail [] e = refl
tail (x ∷ xs) e = (and_parts (is_zero x) (list_all is_zero xs) e).1

pub put_tidy : (mem : List Record) (n : ℕ) (r : Record) → zeros_after mem n ≡ true → zeros_after (set mem n r) (n + 1) ≡ true
put_tidy mem n r e =
    ap (list_all is_zero) (drop-set-lt (n + 1) mem n r (omega arith))
    ∙ subst (λ xs. list_all is_zero xs ≡ true) (drop-drop 1 n mem) (tail (drop n mem) e)

-- what a copy to lower places leaves behind its end is as it was
pub moved_tidy : (mem mem' : List Record) (start end to n : ℕ) → mem' ≡ copy_within mem start end to → to ≤ start → start ≤ end → end ≤ length mem → end ≤ n → zeros_after mem n ≡ true → zeros_after mem' n ≡ true
moved_tidy mem mem' start end to n is down rising within behind e =
    let size : end - start ≤ length (drop start mem) = omega (arith, length-drop start mem, within, rising) in
    let past : to + (end - start) + (n - (to + (end - start))) ≡ n = omega (arith, down, rising, behind) in
    let there : drop n mem' ≡ drop n mem =
    ap (drop n) is
    ∙ ap (λ k. drop k (paste mem to (drop start mem) (end - start))) (sym past)
    ∙ sym (drop-drop (n - (to + (end - start))) (to + (end - start)) (paste mem to (drop start mem) (end - start)))
    ∙ ap (drop (n - (to + (end - start)))) (drop-paste mem to (drop start mem) (end - start) (omega (arith, down, rising, within)) size)
    ∙ drop-drop (n - (to + (end - start))) (to + (end - start)) mem
    ∙ ap (λ k. drop k mem) past
    in
    ap (list_all is_zero) there ∙ e

-- what is filled is as long as the part
part_length : (mem ys : List Record) (start end : ℕ) → start ≤ end → end ≤ length mem → ys ≡ replicate (length (take (end - start) (drop start mem))) no_record → length ys ≡ end - start
part_length mem ys start end rising within is =
    let part = drop start mem in
    ap length is
    ∙ length-replicate (length (take (end - start) part)) no_record
    ∙ length-take-le (end - start) part (omega (arith, length-drop start mem, within, rising))

pub cleared_rest : (mem ys : List Record) (start end : ℕ) → start ≤ end → end ≤ length mem → ys ≡ replicate (length (take (end - start) (drop start mem))) no_record → drop end (put_mid start (end - start) mem ys) ≡ drop end mem
cleared_rest mem ys start end rising within is =
    drop-put_mid start (end - start) mem ys end (omega (arith, rising)) (omega (arith, rising, within)) (part_length mem ys start end rising within is)

pub cleared_tidy : (mem ys : List Record) (start end : ℕ) → start ≤ end → end ≤ length mem → ys ≡ replicate (length (take (end - start) (drop start mem))) no_record → zeros_after mem end ≡ true → zeros_after (put_mid start (end - start) mem ys) start ≡ true
cleared_tidy mem ys start end rising within is e =
    let n = end - start in
    let mem' = put_mid start n mem ys in
    let whole : start + n ≡ end = omega (arith, rising) in
    let long = part_length mem ys start end rising within is in
    let front : take end mem' ≡ take start mem ++ ys = take-put_mid start n mem ys end (omega (arith, whole, long)) (omega (arith, rising, within)) in
    let back = cleared_rest mem ys start end rising within is in
    let first : length (take start mem) ≡ start = length-take-le start mem (omega (arith, rising, within)) in
    let behind : drop start mem' ≡ ys ++ drop end mem =
    ap (drop start) (sym (take-append-drop end mem') ∙ ap (λ xs. xs ++ drop end mem') front ∙ ap (λ xs. (take start mem ++ ys) ++ xs) back ∙ append_assoc (take start mem) ys (drop end mem))
    ∙ drop_at (take start mem) (ys ++ drop end mem) start first
    in
    ap (list_all is_zero) behind
    ∙ list_all-append is_zero ys (drop end mem)
    ∙ and_from (list_all is_zero ys) (list_all is_zero (drop end mem)) (ap (list_all is_zero) is ∙ zeroed (length (take n (drop start mem)))) e
