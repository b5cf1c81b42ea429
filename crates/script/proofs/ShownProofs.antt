-- Numbers, each behind a space.
use Rattle.std.proofs.Common.{◌≡◌, ℕ, ◌+◌, ◌-◌, ◌<◌, ◌≤◌, List, [], ◌∷◌, ◌++◌, length, get_or, drop, set, decimal, refl, sym, ap, ◌∙◌, arith, append-nil}
use Rattle.std.proofs.lemmas.List.{at_drop_more, drop-set}
use Rattle.script.specs.Shown.{numbers_text}

more : (n : ℕ) (ns : List ℕ) → numbers_text (n ∷ ns) ≡ 32 ∷ (decimal n ++ numbers_text ns)
more n [] = ap (λ ds. 32 ∷ ds) (sym (append-nil (decimal n)))
more n (m ∷ ns) = refl

-- with one number more before them
one_more : (ns : List ℕ) (i : ℕ) → i < length ns → numbers_text (drop i ns) ≡ 32 ∷ (decimal (get_or ns i 0) ++ numbers_text (drop (i + 1) ns))
one_more ns i lt = at_drop_more numbers_text ns i 0 lt ∙ more (get_or ns i 0) (drop (i + 1) ns)

-- one number more is written before those that stand at the buffer's end, and a space before it
pub one_more_written : (ns buf : List ℕ) (i start : ℕ) → i < length ns → 0 < start → start ≤ length buf → drop start buf ≡ decimal (get_or ns i 0) ++ numbers_text (drop (i + 1) ns) → drop (start - 1) (set buf (start - 1) 32) ≡ numbers_text (drop i ns)
one_more_written ns buf i start lt some fits so_far =
    let e : start - 1 + 1 ≡ start = omega arith in
    drop-set buf (start - 1) 32 (omega arith) ∙ ap (λ ds. 32 ∷ ds) (ap (λ k. drop k buf) e ∙ so_far) ∙ sym (one_more ns i lt)
