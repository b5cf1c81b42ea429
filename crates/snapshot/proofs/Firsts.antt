-- A place whose element passes, with none before it, is the first; where none passes there is no first.
use Rattle.std.proofs.Common.{◌≡◌, ℕ, zero, suc, ◌<◌, Bool, true, List, [], ◌∷◌, length, get_or, Some, None, Option, refl, sym, ap, ◌∙◌, le_of_suc-le-suc, not-suc-le-zero, arith}
use Rattle.std.proofs.lemmas.Bool.{cond-true, cond-false}
use Rattle.std.specs.Option.{option_map}
use Rattle.snapshot.specs.Finding.{first_with, NonePassesBelow, FirstMeans}

module _ {X : Type 0} (test : X → Bool) where
  first_at : (xs : List X) (i : ℕ) → i < length xs → ((d : X) → test (get_or xs i d) ≡ true) → NonePassesBelow test xs i → first_with test xs ≡ Some i
  first_at [] i lt t n = absurd (not-suc-le-zero lt)
  first_at (x ∷ xs) zero lt t n = cond-true (test x) _ _ (t x)
  first_at (x ∷ xs) (suc i) lt t n =
      cond-false (test x) _ _ (n 0 x (omega arith))
      ∙ ap (option_map suc) (first_at xs i (le_of_suc-le-suc lt) t (λ k d h. n (suc k) d (omega arith)))

  first_none : (xs : List X) → NonePassesBelow test xs (length xs) → first_with test xs ≡ None
  first_none [] n = refl
  first_none (x ∷ xs) n =
      cond-false (test x) _ _ (n 0 x (omega arith))
      ∙ ap (option_map suc) (first_none xs (λ k d h. n (suc k) d (omega arith)))

  pub first_is : (xs : List X) (r : Option ℕ) → FirstMeans test xs r → r ≡ first_with test xs
  first_is xs None none = sym (first_none xs none)
  first_is xs (Some i) (lt, here, before) = sym (first_at xs i lt here before)
