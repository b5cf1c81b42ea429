-- What moving the items of an array does to its first ones, and the first entry that passes a test.
use Rattle.std.proofs.Common.{◌≡◌, ℕ, suc, ◌+◌, ◌-◌, ◌<◌, ◌≤◌, min, Bool, true, false, cond, List, [], ◌∷◌, ◌++◌, length, take, drop, set, add-one, Some, None, Option, refl, sym, ap, ◌∙◌, arith}
use Rattle.std.specs.List.{slice_get, find, remove, insert, copy_within}
use Rattle.std.specs.Option.{option_map, option_and_then}
use Rattle.std.proofs.lemmas.List.{append_assoc, length-take, length-drop, length-take-le, take_min, take_more_set, drop-take, drop_min, take-take, set-append_left}
use Rattle.std.proofs.lemmas.List.Edits.{take-paste}
use Rattle.std.proofs.Math.Seq.{take-set-lt}
use Rattle.snapshot.specs.Finding.{first_with}

module _ {X : Type 0} where
  drop_of_front : (k n : ℕ) (xs : List X) → k ≤ n → drop k (take n xs) ≡ take (n - k) (drop k xs)
  drop_of_front k n xs h =
      let e : n ≡ k + (n - k) = omega arith in
      ap (λ m. drop k (take m xs)) e ∙ drop-take k (n - k) xs

  -- as many as the front has
  whole_front : (xs : List X) (n k : ℕ) → k ≡ length (take n xs) → take k xs ≡ take n xs
  whole_front xs n k e = ap (λ m. take m xs) (e ∙ length-take n xs) ∙ take_min n xs

  up : (xs : List X) (n i : ℕ) → i < n → n ≤ length xs → take (n - 1) (copy_within xs (i + 1) n i) ≡ remove (take n xs) i
  up xs n i lt le =
      let e : n - 1 ≡ i + (n - (i + 1)) = omega arith in
      ap (λ m. take m (copy_within xs (i + 1) n i)) e
      ∙ take-paste xs i (drop (i + 1) xs) (n - (i + 1)) (omega arith) (omega (arith, length-drop (i + 1) xs))
      ∙ ap (λ ys. take i xs ++ ys) (sym (drop_of_front (i + 1) n xs (omega arith)))
      ∙ ap (λ ys. ys ++ drop (i + 1) (take n xs)) (sym (take-take i n xs (omega arith)))
      ∙ ap (λ k. take i (take n xs) ++ drop k (take n xs)) (add-one i)

  -- an item of the front gives way, and later ones move up
  pub moved_up :
      (xs : List X) (n k i : ℕ) → k ≡ length (take n xs) → i < k →
      take (k - 1) (copy_within xs (i + 1) k i) ≡ remove (take n xs) i
  moved_up xs n k i e lt =
      up xs k i lt (omega (arith, length-take n xs)) ∙ ap (λ ys. remove ys i) (whole_front xs n k e)

  pub put_in_front : (xs : List X) (n i : ℕ) (x : X) → i < length (take n xs) → take n (set xs i x) ≡ set (take n xs) i x
  put_in_front xs n i x lt = take-set-lt n xs i x (omega (arith, length-take n xs))

  down :
      (xs : List X) (n i : ℕ) (x : X) → i ≤ n → n < length xs →
      take (n + 1) (set (copy_within xs i n (i + 1)) i x) ≡ insert (take n xs) i x
  down xs n i x le lt =
      let moved = copy_within xs i n (i + 1) in
      let e : n + 1 ≡ (i + 1) + (n - i) = omega arith in
      let front : take (n + 1) moved ≡ take (i + 1) xs ++ take (n - i) (drop i xs) =
      ap (λ m. take m moved) e ∙ take-paste xs (i + 1) (drop i xs) (n - i) (omega arith) (omega (arith, length-drop i xs)) in
      let there : i < length (take (i + 1) xs) = omega (arith, length-take-le (i + 1) xs (omega arith)) in
      let one : set (take (i + 1) xs) i x ≡ take i xs ++ x ∷ [] =
      sym (take-set-lt (i + 1) xs i x (omega arith)) ∙ take_more_set xs i x (omega arith) in
      take-set-lt (n + 1) moved i x (omega arith)
      ∙ ap (λ ys. set ys i x) front
      ∙ set-append_left (take (i + 1) xs) (take (n - i) (drop i xs)) i x there
      ∙ ap (λ ys. ys ++ take (n - i) (drop i xs)) one
      ∙ append_assoc (take i xs) (x ∷ []) (take (n - i) (drop i xs))
      ∙ ap (λ ys. take i xs ++ x ∷ ys) (sym (drop_of_front i n xs le))
      ∙ ap (λ ys. ys ++ x ∷ drop i (take n xs)) (sym (take-take i n xs le))

  -- past the end is at the end
  at_the_end : (xs : List X) (i : ℕ) (x : X) → insert xs (min i (length xs)) x ≡ insert xs i x
  at_the_end xs i x = ap (λ ys. ys ++ x ∷ drop (min i (length xs)) xs) (take_min i xs) ∙ ap (λ ys. take i xs ++ x ∷ ys) (drop_min i xs)

  -- an item is put in the front, or at its end, and later ones move down
  pub inserted_there :
      (xs : List X) (n k i at : ℕ) (x : X) → k ≡ length (take n xs) → at ≡ min i k → k < length xs →
      take (k + 1) (set (copy_within xs at k (at + 1)) at x) ≡ insert (take n xs) i x
  inserted_there xs n k i at x e is lt =
      let there : at ≡ min i (length (take n xs)) = is ∙ ap (min i) e in
      down xs k at x (omega arith) lt
      ∙ ap (λ ys. insert ys at x) (whole_front xs n k e)
      ∙ ap (λ j. insert (take n xs) j x) there
      ∙ at_the_end (take n xs) i x

  -- the place of the first that passes leads to it
  found : (test : X → Bool) (xs : List X) → option_and_then (slice_get xs) (first_with test xs) ≡ find test xs
  found test [] = refl
  found test (x ∷ xs) = at_head (test x) (first_with test xs) (found test xs)
    where
      at_head :
          (b : Bool) (r : Option ℕ) → option_and_then (slice_get xs) r ≡ find test xs →
          option_and_then (slice_get (x ∷ xs)) (cond b (Some 0) (option_map suc r)) ≡ cond b (Some x) (find test xs)
      at_head true r e = refl
      at_head false None e = e
      at_head false (Some i) e = e

  pub leads_nowhere : (test : X → Bool) (xs : List X) → first_with test xs ≡ None → None ≡ find test xs
  leads_nowhere test xs e = ap (option_and_then (slice_get xs)) (sym e) ∙ found test xs

  pub leads_to_it : (test : X → Bool) (xs : List X) (i : ℕ) → first_with test xs ≡ Some i → slice_get xs i ≡ find test xs
  leads_to_it test xs i e = ap (option_and_then (slice_get xs)) (sym e) ∙ found test xs
