-- What holds of every slice of records: the bounds of a fit one, and that zeros after its first records are all that is left.
use Rattle.std.proofs.Common.{◌≡◌, ℕ, ◌-◌, ◌≤◌, true, ◌&&◌, ◌==◌, nat_le, List, [], ◌∷◌, ◌++◌, length, take, drop, replicate, sym, refl, ap, ◌∙◌, arith}
use Rattle.std.specs.List.{list_all}
use Rattle.std.proofs.lemmas.List.{length-drop, length-take, take-append-drop}
use Rattle.std.proofs.lemmas.Bool.{and_parts, eqb-true, leb-true}
use Rattle.snapshot.specs.Limits.{key_count, least_records, most_records}
use Rattle.records.specs.Records.{no_record}
use Rattle.records.specs.declared.record.Record.{Record}
use Rattle.records.specs.Slices.{LiesIn, is_table_size, is_zero, zeros_after}

pub fit_bounds : (mem : List Record) → is_table_size (length mem) ≡ true → (key_count ≤ length mem) × (length mem ≤ most_records)
fit_bounds mem fit =
    let both = and_parts (nat_le least_records (length mem)) (nat_le (length mem) most_records) fit in
    (leb-true _ _ both.0, leb-true _ _ both.1)

zero_is : (r : Record) → is_zero r ≡ true → r ≡ no_record
zero_is r z =
    let both = and_parts (r.key == 0 && r.timestamp == 0) (r.value == 0) z in
    let front = and_parts (r.key == 0) (r.timestamp == 0) both.0 in
    λ i. record { key = eqb-true r.key 0 front.0 i; timestamp = eqb-true r.timestamp 0 front.1 i; value = eqb-true r.value 0 both.1 i }

zeros_are : (rs : List Record) → list_all is_zero rs ≡ true → rs ≡ replicate (length rs) no_record
zeros_are [] z = refl
zeros_are (r ∷ rs) z =
    let parts = and_parts (is_zero r) (list_all is_zero rs) z in
    λ i. zero_is r parts.0 i ∷ zeros_are rs parts.1 i

pub lies_in : (mem : List Record) (n : ℕ) → n ≤ length mem → zeros_after mem n ≡ true → LiesIn (take n mem) mem
lies_in mem n within zeros =
    let long : length (drop n mem) ≡ length mem - length (take n mem) = omega (arith, length-drop n mem, length-take n mem) in
    sym (take-append-drop n mem) ∙ ap (λ xs. take n mem ++ xs) (zeros_are (drop n mem) zeros ∙ ap (λ k. replicate k no_record) long)
