-- The write sets and the limits that hold keep their laws.
use Rattle.std.proofs.Common.{◌≡◌, ℕ, suc, ◌<◌, ◌≤◌, true, false, if◌then◌else◌, ◌==◌, List, [], ◌∷◌, Some, None, Option, refl, ap, ◌∙◌, arith}
use Rattle.std.specs.Option.{option_map, option_or}
use Rattle.std.specs.List.{insert}
use Rattle.std.proofs.lemmas.Bool.{cond-false}
use Rattle.std.proofs.lemmas.Bool.Decides.{nat_tests}
use Rattle.snapshot.specs.Accounts.{rising_from}
use Rattle.snapshot.specs.Limits.{is_key}
use Rattle.snapshot.specs.declared.account.Write.{Write}
use Rattle.store.specs.Meaning.{written_to}
use Rattle.store.proofs.Writes.{rising_later, unwritten_below}
use Rattle.engine_model.specs.RuleLaws.{WriteSetLaws, LimitLaws}
use Rattle.engine_model.specs.Rules.{the_write_sets, the_limits}
use Rattle.engine_model.specs.Updates.{with_at}
use Rattle.engine_model.specs.WriteSets.{place_of_write, place_by_order, written_at, with_write, united}

-- A write.

order_later : (k : ℕ) (x : Write) (xs : List Write) → x.key < k → place_by_order k (x ∷ xs) ≡ suc (place_by_order k xs)
order_later k x xs lt = grind (arith, nat_tests)

-- a write that goes behind the first one leaves it where it is
at_tail :
    (w x : Write) (xs : List Write) (place : Option ℕ) → (place ≡ None → x.key < w.key) →
    written_at (option_map suc place) w (x ∷ xs) ≡ x ∷ written_at place w xs
at_tail w x xs None lower = ap (λ i. insert (x ∷ xs) i w) (order_later w.key x xs (lower refl))
at_tail w x xs (Some i) lower = refl

takes_its_place : (w x : Write) (xs : List Write) → x.key ≡ w.key → with_write w (x ∷ xs) ≡ w ∷ xs
takes_its_place w x xs e = grind (arith, nat_tests)

comes_before : (w x : Write) (xs : List Write) → w.key < x.key → place_of_write w.key xs ≡ None → with_write w (x ∷ xs) ≡ w ∷ (x ∷ xs)
comes_before w x xs lt none = grind (arith, nat_tests)

comes_later :
    (w x : Write) (xs : List Write) → (x.key == w.key) ≡ false → (place_of_write w.key xs ≡ None → x.key < w.key) →
    with_write w (x ∷ xs) ≡ x ∷ with_write w xs
comes_later w x xs other lower =
    ap (λ place. written_at place w (x ∷ xs)) (cond-false (x.key == w.key) _ _ other) ∙ at_tail w x xs (place_of_write w.key xs) lower

-- where keys rise from above a key, it has no write
not_there : (k least : ℕ) (ws : List Write) → k < least → rising_from least ws ≡ true → place_of_write k ws ≡ None
not_there k least [] lt e = refl
not_there k least (x ∷ xs) lt e =
    let rest = not_there k (suc x.key) xs (grind (arith, nat_tests)) (rising_later least x xs e) in
    grind (arith, nat_tests)

write_rises_lem :
    (least : ℕ) (w : Write) (ws : List Write) → least ≤ w.key → is_key w.key ≡ true → rising_from least ws ≡ true →
    rising_from least (with_write w ws) ≡ true
write_rises_lem least w [] le key e = grind (arith, nat_tests)
write_rises_lem least w (x ∷ xs) le key e =
    let later = rising_later least x xs e in
    let rest : x.key < w.key → rising_from (suc x.key) (with_write w xs) ≡ true = λ lt. write_rises_lem (suc x.key) w xs (omega arith) key later in
    let none : w.key < x.key → place_of_write w.key xs ≡ None = λ lt. not_there w.key (suc x.key) xs (omega arith) later in
    grind (arith, nat_tests, takes_its_place w x xs, comes_before w x xs, comes_later w x xs)

write_has_lem :
    (w : Write) (ws : List Write) (k : ℕ) → written_to k (with_write w ws) ≡ with_at w.key (Some w.value) (λ j. written_to j ws) k
write_has_lem w [] k = grind (arith, nat_tests)
write_has_lem w (x ∷ xs) k =
    let rest = write_has_lem w xs k in
    grind (arith, nat_tests, takes_its_place w x xs, comes_before w x xs, comes_later w x xs)

-- A join.

join_rises_lem :
    (least : ℕ) (xs ys : List Write) → rising_from 0 xs ≡ true → rising_from least ys ≡ true → rising_from 0 (united xs ys) ≡ true
join_rises_lem least xs [] ex ey = ex
join_rises_lem least xs (w ∷ ws) ex ey =
    join_rises_lem (suc w.key) (with_write w xs) ws (write_rises_lem 0 w xs (omega arith) (grind (arith, nat_tests)) ex) (rising_later least w ws ey)

-- a key that is written first and not again has that value
join_step :
    (w : Write) (k : ℕ) (first later : Option ℕ) → (w.key ≡ k → later ≡ None) →
    option_or later (if k == w.key then (Some w.value) else first) ≡ option_or (if w.key == k then (Some w.value) else later) first
join_step w k first later h = grind (arith, nat_tests)

join_has_lem :
    (least : ℕ) (xs ys : List Write) (k : ℕ) → rising_from least ys ≡ true →
    written_to k (united xs ys) ≡ option_or (written_to k ys) (written_to k xs)
join_has_lem least xs [] k e = refl
join_has_lem least xs (w ∷ ws) k e =
    let later = rising_later least w ws e in
    let rest = join_has_lem (suc w.key) (with_write w xs) ws k later in
    let here = write_has_lem w xs k in
    let step = join_step w k (written_to k xs) (written_to k ws) (λ same. unwritten_below k (suc w.key) ws (omega arith) later) in
    cc

-- The laws.

pub the_write_sets_lawful : WriteSetLaws the_write_sets
the_write_sets_lawful =
    record {
      write_rises = λ w ws key e. write_rises_lem 0 w ws (omega arith) key e;
      join_rises = λ xs ys ex ey. join_rises_lem 0 xs ys ex ey;
      write_has = λ w ws k e. write_has_lem w ws k;
      join_has = λ xs ys k ex ey. join_has_lem 0 xs ys k ey;
    }

pub the_limits_lawful : LimitLaws the_limits
the_limits_lawful = record { writes = omega arith; readings = omega arith }
