-- What is noted of the keys that a chain has read, as a reading more is made and as one is looked for.
use Rattle.std.proofs.Common.{◌≡◌, ℕ, ◌<◌, Bool, true, false, ◌==◌, List, [], ◌∷◌, ◌++◌, length, set, get_or, None, refl, ap, ◌∙◌, ◌⊎◌, inr, ⊎_elim, arith}
use Rattle.std.proofs.lemmas.Bool.{cases_Bool}
use Rattle.std.proofs.lemmas.Bool.Decides.{nat_tests}
use Rattle.std.proofs.lemmas.List.{get_or-set_same, get_or-set_other}
use Rattle.snapshot.specs.Limits.{key_count}
use Rattle.engine_model.specs.Steps.{own_reading}
use Rattle.engine_model.specs.declared.records.LegReading.{LegReading}
use Rattle.engine_parts.specs.KeysRead.{reads_key, KnowsKeys}

-- a key of which there is no reading has none by the leg
pub none_own : (l k : ℕ) (rs : List LegReading) → reads_key k rs ≡ false → own_reading l k rs ≡ None
none_own l k [] e = refl
none_own l k (r ∷ rs) e = let rest = none_own l k rs in grind (arith, nat_tests, rest)

reads_more : (k : ℕ) (rs : List LegReading) (r : LegReading) → reads_key k (rs ++ r ∷ []) ≡ true → (reads_key k rs ≡ true) ⊎ (r.made.key ≡ k)
reads_more k [] r e = inr (grind (arith, nat_tests))
reads_more k (x ∷ xs) r e =
    let rest = reads_more k xs r in
    grind (arith, nat_tests, rest)

-- a reading more, of a key that is noted
pub noted_more :
    (noted : List Bool) (rs : List LegReading) (r : LegReading) → length noted ≡ key_count → KnowsKeys noted rs →
    KnowsKeys (set noted r.made.key true) (rs ++ r ∷ [])
noted_more noted rs r size knows k within e =
    ⊎_elim
    (λ same. ap (λ j. get_or (set noted j true) k false) (grind (arith, nat_tests)) ∙ get_or-set_same noted k true false (omega (arith, size, within)))
    (λ other.
    get_or-set_other noted r.made.key k true false (grind (arith, nat_tests))
    ∙ knows k within (⊎_elim (λ h. h) (λ h. absurd (grind (arith, nat_tests, h, other))) (reads_more k rs r e)))
    (cases_Bool (k == r.made.key))

-- or of none that is one
pub not_noted :
    (noted : List Bool) (rs : List LegReading) (r : LegReading) → (r.made.key < key_count → ⊥) → KnowsKeys noted rs →
    KnowsKeys noted (rs ++ r ∷ [])
not_noted noted rs r no_key knows k within e =
    knows k within (⊎_elim (λ h. h) (λ h. absurd (no_key (omega (arith, h, within)))) (reads_more k rs r e))
