-- An input that is read only so far as its bytes count has the same first bytes.
use Rattle.std.proofs.Common.{◌≡◌, ℕ, List, take, Option, Some, None, Ok, Err, Result, ap, ◌∙◌, subst, arith}
use Rattle.std.specs.Option.{option_map}
use Rattle.std.specs.Prelude.{IfSome, OnErr}
use Rattle.book.specs.Books.{most_bytes}
use Rattle.book.proofs.Outputs.{take_of_take}

-- what holds of the first bytes of the one holds of those of the other
pub of_front : (P : List ℕ → Type 0) (given known : Option (List ℕ)) (limit : ℕ) → limit ≡ most_bytes → given ≡ known → IfSome (option_map (take limit) given) (λ rest. P (take most_bytes rest)) → IfSome known (λ rest. P (take most_bytes rest))
of_front P None known limit is same holds = subst (λ k. IfSome k (λ rest. P (take most_bytes rest))) same tt
of_front P (Some xs) known limit is same holds =
    let front : take most_bytes (take limit xs) ≡ take most_bytes xs =
    ap (λ n. take most_bytes (take n xs)) is ∙ take_of_take most_bytes most_bytes xs (omega arith) in
    subst (λ k. IfSome k (λ rest. P (take most_bytes rest))) same (subst P front holds)

-- what holds at all holds after an error
pub on_err : {T E P : Type 0} (r : Result T E) → P → OnErr r P
on_err (Ok x) p = tt
on_err (Err e) p = p
