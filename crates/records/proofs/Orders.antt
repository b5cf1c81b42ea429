-- What the order of records says of their timestamps.
use Rattle.std.proofs.Common.{◌≡◌, ℕ, zero, suc, ◌<◌, ◌≤◌, true, List, [], ◌∷◌, length, get_or, take, subst, arith}
use Rattle.std.specs.List.{list_all}
use Rattle.std.proofs.lemmas.Bool.{and_parts}
use Rattle.std.proofs.lemmas.Bool.Decides.{nat_tests}
use Rattle.std.proofs.lemmas.List.{length-take-le, get_or-take}
use Rattle.records.specs.Layouts.{in_order, is_before}
use Rattle.records.specs.Records.{no_record}
use Rattle.records.specs.declared.record.Record.{Record}

-- a record is not later than those that it is before
not_later : (r : Record) (rs : List Record) (j : ℕ) → list_all (is_before r) rs ≡ true → j < length rs → r.timestamp ≤ (get_or rs j no_record).timestamp
not_later r [] j a lt = absurd (omega arith)
not_later r (q ∷ rs) zero a lt = let b = (and_parts (is_before r q) (list_all (is_before r) rs) a).0 in grind (arith, nat_tests)
not_later r (q ∷ rs) (suc j) a lt = not_later r rs j (and_parts (is_before r q) (list_all (is_before r) rs) a).1 (omega arith)

rising : (rs : List Record) (i j : ℕ) → in_order rs ≡ true → i ≤ j → j < length rs → (get_or rs i no_record).timestamp ≤ (get_or rs j no_record).timestamp
rising [] i j o le lt = absurd (omega arith)
rising (r ∷ rs) zero zero o le lt = omega arith
rising (r ∷ rs) zero (suc j) o le lt = not_later r rs j (and_parts (list_all (is_before r) rs) (in_order rs) o).0 (omega arith)
rising (r ∷ rs) (suc i) zero o le lt = absurd (omega arith)
rising (r ∷ rs) (suc i) (suc j) o le lt = rising rs i j (and_parts (list_all (is_before r) rs) (in_order rs) o).1 (omega arith) (omega arith)

-- of the first `kept` of xs, which are in order, an earlier one has no later timestamp
pub timestamps_rise :
    (xs : List Record) (kept i j : ℕ) → kept ≤ length xs → in_order (take kept xs) ≡ true → i ≤ j → j < kept →
    (get_or xs i no_record).timestamp ≤ (get_or xs j no_record).timestamp
timestamps_rise xs kept i j within o le lt =
    let first = get_or-take kept xs i no_record (omega arith) in
    let second = get_or-take kept xs j no_record lt in
    let long : j < length (take kept xs) = omega (arith, length-take-le kept xs within) in
    let up = rising (take kept xs) i j o le long in
    subst (λ r. (get_or xs i no_record).timestamp ≤ r.timestamp) second (subst (λ r. r.timestamp ≤ (get_or (take kept xs) j no_record).timestamp) first up)

-- so one record decides for those before it, or for those from it on
module _ (xs : List Record) (kept time : ℕ) (within : kept ≤ length xs) (o : in_order (take kept xs) ≡ true) (p : ℕ) (lt : p < kept) where
  pub none_later : (get_or xs p no_record).timestamp ≤ time → (i : ℕ) → i ≤ p → (get_or xs i no_record).timestamp ≤ time
  none_later early i le = let up = timestamps_rise xs kept i p within o le lt in omega arith

  pub all_later : time < (get_or xs p no_record).timestamp → (i : ℕ) → p ≤ i → i < kept → time < (get_or xs i no_record).timestamp
  all_later late i le below = let up = timestamps_rise xs kept p i within o le below in omega arith
