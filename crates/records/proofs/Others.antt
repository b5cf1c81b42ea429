-- A record that is not of a key changes nothing of what there is of the key.
use Rattle.std.proofs.Common.{◌≡◌, ℕ, ◌+◌, ◌<◌, if◌then◌else◌, List, [], ◌∷◌, ◌++◌, length, get_or, take, filter, sym, ap, ◌∙◌}
use Rattle.std.proofs.lemmas.Bool.{ne_eqb}
use Rattle.std.proofs.lemmas.List.{append-nil}
use Rattle.std.proofs.lemmas.List.Elements.{filter_more}
use Rattle.records.specs.Records.{has_key, no_record}
use Rattle.records.specs.declared.record.Record.{Record}

-- the record before the first n + 1 is not of the key
pub not_this : (k n : ℕ) (xs : List Record) (r : Record) → n < length xs → r ≡ get_or xs n no_record → (r.key ≡ k → ⊥) → filter (has_key k) (take n xs) ≡ filter (has_key k) (take (n + 1) xs)
not_this k n xs r lt is ne =
    let before = filter (has_key k) (take n xs) in
    sym
    (filter_more (has_key k) xs n no_record lt
    ∙ ap (λ q. before ++ (if has_key k q then q ∷ [] else [])) (sym is)
    ∙ ap (λ b. before ++ (if b then r ∷ [] else [])) (ne_eqb r.key k ne)
    ∙ append-nil before)
