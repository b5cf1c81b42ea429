-- Records one after another: one record more, and where it stands.
use Rattle.std.proofs.Common.{◌≡◌, ℕ, zero, suc, ◌+◌, ◌*◌, ◌<◌, ◌≤◌, List, [], ◌∷◌, ◌++◌, length, get_or, take, drop, sym, refl, ap, ◌∙◌, mul-zero, mul-suc, arith}
use Rattle.std.specs.List.{flat_map}
use Rattle.std.proofs.lemmas.List.{take_more, flat_map_more, length-append, length-take-le, drop-drop}
use Rattle.book.specs.Bytes.{records_from}

module _ {X : Type 0} (pack : X → List ℕ) where
  pub length_joined : (size : ℕ) → ((x : X) → length (pack x) ≡ size) → (xs : List X) → length (flat_map pack xs) ≡ size * length xs
  length_joined size sized [] = sym (mul-zero size)
  length_joined size sized (x ∷ xs) =
      omega (arith, length-append (pack x) (flat_map pack xs), sized x, length_joined size sized xs, mul-suc size (length xs))

  pub length_joined_front : (size : ℕ) → ((x : X) → length (pack x) ≡ size) → (xs : List X) (i : ℕ) → i ≤ length xs → length (flat_map pack (take i xs)) ≡ size * i
  length_joined_front size sized xs i h =
      length_joined size sized (take i xs) ∙ ap (λ n. size * n) (length-take-le i xs h)

  pub joined_next : (xs : List X) (i : ℕ) (d : X) → i < length xs → flat_map pack (take (i + 1) xs) ≡ flat_map pack (take i xs) ++ pack (get_or xs i d)
  joined_next xs i d lt = ap (flat_map pack) (take_more xs i d lt) ∙ sym (flat_map_more pack [] (take i xs) (get_or xs i d))

module _ {X : Type 0} (one : List ℕ → X) (size : ℕ) where
  pub records_next : (i : ℕ) (bs : List ℕ) → records_from one size (suc i) bs ≡ records_from one size i bs ++ (one (drop (size * i) bs) ∷ [])
  records_next zero bs = rw (mul-zero size) refl
  records_next (suc i) bs =
      ap (λ rest. one bs ∷ rest)
      (records_next i (drop size bs)
      ∙ ap (λ rest. records_from one size i (drop size bs) ++ (one rest ∷ []))
      (drop-drop (size * i) size bs ∙ ap (λ n. drop n bs) (omega (arith, mul-suc size i))))
