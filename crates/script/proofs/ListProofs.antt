-- Lists of three or four words, and lists whose elements are shown one after another.
use Rattle.std.proofs.Common.{◌≡◌, ℕ, ◌+◌, ◌<◌, List, [], ◌∷◌, ◌++◌, length, get_or, take, refl, sym, ap, ◌∙◌, arith}
use Rattle.std.proofs.lemmas.List.{flat_map_more, take_more}
use Rattle.std.specs.List.{flat_map}

pub three : {A : Type 0} (xs : List A) (d : A) → length xs ≡ 3 → xs ≡ get_or xs 0 d ∷ get_or xs 1 d ∷ get_or xs 2 d ∷ []
three [] d e = absurd (omega arith)
three (x ∷ []) d e = absurd (omega arith)
three (x ∷ y ∷ []) d e = absurd (omega arith)
three (x ∷ y ∷ z ∷ []) d e = refl
three (x ∷ y ∷ z ∷ w ∷ ws) d e = absurd (omega arith)

pub four : {A : Type 0} (xs : List A) (d : A) → length xs ≡ 4 → xs ≡ get_or xs 0 d ∷ get_or xs 1 d ∷ get_or xs 2 d ∷ get_or xs 3 d ∷ []
four [] d e = absurd (omega arith)
four (x ∷ xs) d e = ap (λ ys. x ∷ ys) (three xs d (omega arith))

-- the lines of the elements, one after another
pub lines_more : {X : Type 0} (f : X → List ℕ) (xs : List X) (i : ℕ) (d : X) → i < length xs → flat_map f (take i xs) ++ f (get_or xs i d) ≡ flat_map f (take (i + 1) xs)
lines_more f xs i d lt = flat_map_more f [] (take i xs) (get_or xs i d) ∙ ap (λ ys. flat_map f ys) (sym (take_more xs i d lt))
