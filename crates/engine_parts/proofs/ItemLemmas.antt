-- An array as a function of its places: what a write to it changes, and what stands at a place.
use mathlib.Core.Path.{fun_ext}
use Rattle.std.proofs.Common.{◌≡◌, ℕ, ◌+◌, ◌<◌, ◌≤◌, ◌==◌, List, [], ◌∷◌, ◌++◌, length, set, get_or, map, sym, ap, ◌∙◌, subst, ⊎_elim, arith}
use Rattle.std.proofs.Math.ListN.{get_or-map, get_or-append}
use Rattle.std.proofs.Math.Seq.{get_or-append_seam}
use Rattle.std.proofs.lemmas.Bool.{cond-true, cond-false, eqb-true, cases_Bool, cases_lt}
use Rattle.std.proofs.lemmas.Bool.Decides.{nat_tests}
use Rattle.std.proofs.lemmas.List.{map-append, map-set, length-append, length-map, get_or_default, get_or_past, get_or-set_same, get_or-set_other}
use Rattle.engine_model.specs.Updates.{with_at}
use Rattle.engine_parts.specs.Lists.{item_at}

module _ {X Y : Type 0} (f : X → Y) (d : Y) where
  set_at : (xs : List X) (i : ℕ) (x : X) (j : ℕ) → i < length xs → item_at f d (set xs i x) j ≡ with_at i (f x) (item_at f d xs) j
  set_at xs i x j lt =
      let ys = map f xs in
      let within : i < length ys = omega (arith, length-map xs f) in
      ap (λ zs. get_or zs j d) (map-set f xs i x)
      ∙ ⊎_elim
      (λ e.
      let P : ℕ → Type 0 = λ k. get_or (set ys i (f x)) k d ≡ f x in
      rw (cond-true (j == i) (f x) (get_or ys j d) e) (subst P (sym (eqb-true j i e)) (get_or-set_same ys i (f x) d within)))
      (λ e. rw (cond-false (j == i) (f x) (get_or ys j d) e) (get_or-set_other ys i j (f x) d (grind (arith, nat_tests))))
      (cases_Bool (j == i))

  -- a write changes the function at one place
  pub item_set : (xs : List X) (i : ℕ) (x : X) → i < length xs → item_at f d (set xs i x) ≡ with_at i (f x) (item_at f d xs)
  item_set xs i x lt = fun_ext (λ j. set_at xs i x j lt)

  -- what stands at a place of the array
  pub item_there : (xs : List X) (i : ℕ) (e : X) → i < length xs → item_at f d xs i ≡ f (get_or xs i e)
  item_there xs i e lt = get_or_default (map f xs) i d (f e) (omega (arith, length-map xs f)) ∙ get_or-map f xs i e

  -- and past its end
  pub item_past : (xs : List X) (i : ℕ) → length xs ≤ i → item_at f d xs i ≡ d
  item_past xs i le = get_or_past (map f xs) i d (omega (arith, length-map xs f))

  pushed_at : (xs : List X) (x : X) (j : ℕ) → item_at f d (xs ++ x ∷ []) j ≡ with_at (length xs) (f x) (item_at f d xs) j
  pushed_at xs x j =
      let ys = map f xs in
      let n = length xs in
      let lengths = length-map xs f in
      let all = length-map (xs ++ x ∷ []) f in
      let n_more : length (xs ++ x ∷ []) ≡ n + 1 = length-append xs (x ∷ []) in
      ⊎_elim
      (λ e.
      let P : ℕ → Type 0 = λ k. get_or (ys ++ f x ∷ []) k d ≡ f x in
      ap (λ zs. get_or zs j d) (map-append f xs (x ∷ []))
      ∙ rw (cond-true (j == n) (f x) (get_or ys j d) e) (subst P (lengths ∙ sym (eqb-true j n e)) (get_or-append_seam ys (f x) [] d)))
      (λ e.
      rw (cond-false (j == n) (f x) (get_or ys j d) e)
      (⊎_elim
      (λ lt. ap (λ zs. get_or zs j d) (map-append f xs (x ∷ [])) ∙ get_or-append ys (f x ∷ []) d j (omega (arith, lt, lengths)))
      (λ le. item_past (xs ++ x ∷ []) j (grind (arith, nat_tests)) ∙ sym (item_past xs j le))
      (cases_lt j n)))
      (cases_Bool (j == n))

  -- an item more at the end is one more place
  pub item_pushed : (xs : List X) (x : X) → item_at f d (xs ++ x ∷ []) ≡ with_at (length xs) (f x) (item_at f d xs)
  item_pushed xs x = fun_ext (pushed_at xs x)
