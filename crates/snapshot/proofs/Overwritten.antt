-- A list whose first elements were replaced: what replacing some more of them makes of it.
use Rattle.std.proofs.Common.{◌≡◌, ℕ, ◌-◌, ◌<◌, List, [], ◌∷◌, ◌++◌, length, take, drop, set, sym, ap, ◌∙◌, add-one, arith}
use Rattle.std.proofs.lemmas.List.{append_assoc, append-nil, length-append, length-drop, take_at, take_rest, drop_all, drop_at, drop-drop, set_split}
use Rattle.snapshot.specs.Overwriting.{overwritten}

module _ {X : Type 0} (old front : List X) {mid : List X} (at : ℕ) (ends : at ≡ length front) (is : mid ≡ overwritten front old) where
  -- some elements more
  more : (xs : List X) → take at mid ++ overwritten xs (drop at mid) ≡ overwritten (front ++ xs) old
  more xs =
      let rest = drop (length front) old in
      let t : take at mid ≡ front = ap (take at) is ∙ take_at front rest at (sym ends) in
      let d : drop at mid ≡ rest = ap (drop at) is ∙ drop_at front rest at (sym ends) in
      let f : drop (length xs) rest ≡ drop (length (front ++ xs)) old =
      drop-drop (length xs) (length front) old ∙ ap (λ n. drop n old) (sym (length-append front xs)) in
      rw (t, d) (ap (λ z. front ++ (xs ++ z)) f ∙ sym (append_assoc front xs (drop (length (front ++ xs)) old)))

  -- the same, written to the part from a place on
  pub part_more : (xs : List X) {part : List X} → part ≡ overwritten xs (take (length mid - at) (drop at mid)) → take at mid ++ (part ++ drop (length mid - at) (drop at mid)) ≡ overwritten (front ++ xs) old
  part_more xs {part} written =
      let whole : part ≡ overwritten xs (drop at mid) = written ∙ ap (overwritten xs) (take_rest mid at) in
      let none : drop (length mid - at) (drop at mid) ≡ [] = drop_all (length mid - at) (drop at mid) (omega (arith, length-drop at mid)) in
      ap (λ z. take at mid ++ (part ++ z)) none ∙ ap (λ l. take at mid ++ l) (append-nil part ∙ whole) ∙ more xs

  -- one element more
  pub one_more : (x : X) → at < length old → set mid at x ≡ overwritten (front ++ (x ∷ [])) old
  one_more x lt =
      let inside : at < length mid = omega (arith, ap length is, length-append front (drop (length front) old), length-drop (length front) old) in
      set_split mid at x inside
      ∙ ap (λ l. take at mid ++ (x ∷ l)) (ap (λ n. drop n mid) (sym (add-one at)) ∙ sym (drop-drop 1 at mid))
      ∙ more (x ∷ [])
