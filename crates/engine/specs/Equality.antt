-- When two accounts are equal: their numbers, their readings and their writes are.
use Rattle.std.specs.Prelude.{Bool, nat_eq}
use Rattle.std.specs.Ordering.{eq_of_both, on}
use Rattle.std.specs.Cmp.{IsPartialEquivalence, and_per, on_per, nat_eq_equiv, partial_equiv_from_equiv}
use Rattle.std.specs.Cmp.Lexicographic.{pointwise, lists_per}
use Rattle.snapshot.specs.Accounts.{Account}
use Rattle.snapshot.specs.declared.account.ChainReading.{ChainReading}
use Rattle.snapshot.specs.declared.account.Reading.{Reading}
use Rattle.snapshot.specs.declared.account.Write.{Write}

abbrev pub equal_times : Reading → Reading → Bool
equal_times = eq_of_both (on (λ r. r.value) nat_eq) (eq_of_both (on (λ r. r.timestamp) nat_eq) (on (λ r. r.promise) nat_eq))

abbrev pub equal_readings : ChainReading → ChainReading → Bool
equal_readings = eq_of_both (on (λ r. r.worker) nat_eq) (eq_of_both (on (λ r. r.key) nat_eq) (on (λ r. r.reading) equal_times))

abbrev pub equal_writes : Write → Write → Bool
equal_writes = eq_of_both (on (λ w. w.key) nat_eq) (on (λ w. w.value) nat_eq)

abbrev pub equal_spans : Account → Account → Bool
equal_spans = eq_of_both (on (λ a. a.low) nat_eq) (on (λ a. a.high) nat_eq)

abbrev pub equal_accounts : Account → Account → Bool
equal_accounts =
    eq_of_both equal_spans
    (eq_of_both (on (λ a. a.timestamp) nat_eq)
    (eq_of_both (on (λ a. a.readings) (pointwise equal_readings)) (on (λ a. a.writes) (pointwise equal_writes))))

-- So `==` holds both ways round, and along a chain.

number_law : IsPartialEquivalence nat_eq
number_law = partial_equiv_from_equiv nat_eq_equiv

readings_law : IsPartialEquivalence equal_readings
readings_law =
    and_per (on_per (λ r. r.worker) number_law)
    (and_per (on_per (λ r. r.key) number_law)
    (on_per (λ r. r.reading)
    (and_per (on_per (λ r. r.value) number_law) (and_per (on_per (λ r. r.timestamp) number_law) (on_per (λ r. r.promise) number_law)))))

writes_law : IsPartialEquivalence equal_writes
writes_law = and_per (on_per (λ w. w.key) number_law) (on_per (λ w. w.value) number_law)

pub equal_accounts_law : IsPartialEquivalence equal_accounts
equal_accounts_law =
    and_per (and_per (on_per (λ a. a.low) number_law) (on_per (λ a. a.high) number_law))
    (and_per (on_per (λ a. a.timestamp) number_law)
    (and_per (on_per (λ a. a.readings) (lists_per readings_law)) (on_per (λ a. a.writes) (lists_per writes_law))))
