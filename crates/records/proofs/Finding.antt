-- The last record of a key before a place.
use Rattle.std.proofs.Common.{◌≡◌, ℕ, ◌+◌, ◌-◌, ◌<◌, ◌≤◌, if◌then◌else◌, List, [], ◌∷◌, ◌++◌, length, get_or, take, Some, None, filter, Option, sym, refl, ap, ◌∙◌, arith}
use Rattle.std.specs.List.{last_or}
use Rattle.std.proofs.lemmas.Bool.{eq-eqb}
use Rattle.std.proofs.lemmas.List.Elements.{filter_more}
use Rattle.records.specs.Records.{has_key, no_record}
use Rattle.records.specs.declared.record.Record.{Record}

last_push : {X : Type 0} (o : Option X) (xs : List X) (x : X) → last_or o (xs ++ x ∷ []) ≡ Some x
last_push o [] x = refl
last_push o (y ∷ xs) x = last_push (Some y) xs x

-- where the record before the place is of the key, it is the last one
pub last_found :
    (k place : ℕ) (xs : List Record) (r : Record) → 0 < place → place ≤ length xs → r ≡ get_or xs (place - 1) no_record → r.key ≡ k →
    last_or None (filter (has_key k) (take place xs)) ≡ Some r
last_found k place xs r some within is e =
    let next : place ≡ place - 1 + 1 = omega (arith, some) in
    let lt : place - 1 < length xs = omega (arith, some, within) in
    let before = filter (has_key k) (take (place - 1) xs) in
    let whole : filter (has_key k) (take place xs) ≡ before ++ r ∷ [] =
    ap (λ n. filter (has_key k) (take n xs)) next
    ∙ filter_more (has_key k) xs (place - 1) no_record lt
    ∙ ap (λ q. before ++ (if has_key k q then q ∷ [] else [])) (sym is)
    ∙ ap (λ b. before ++ (if b then r ∷ [] else [])) (eq-eqb r.key k e)
    in
    ap (last_or None) whole ∙ last_push None before r
