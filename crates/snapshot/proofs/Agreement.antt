-- The times of a lawful account are those at which every reading's version is known to be current.
use Rattle.std.proofs.Common.{◌≡◌, ℕ, ◌≤◌, min, max, true, ◌&&◌, eqb, leb, List, [], ◌∷◌, fold, arith}
use Rattle.std.specs.List.{AllByRecursion}
use Rattle.std.proofs.lemmas.Bool.{and_parts, leb-true, eqb-true}
use Rattle.snapshot.specs.Accounts.{Account, CommonTimes, agreed_ends, greatest_timestamp, least_promise}
use Rattle.snapshot.specs.Intervals.{Current}
use Rattle.snapshot.specs.Limits.{open_end}
use Rattle.snapshot.specs.declared.account.ChainReading.{ChainReading}

abbrev later : ℕ → ChainReading → ℕ
later a r = max a r.reading.timestamp

abbrev sooner : ℕ → ChainReading → ℕ
sooner b r = min b r.reading.promise

inside : (rs : List ChainReading) (a b s : ℕ) → fold later a rs ≤ s → s ≤ fold sooner b rs → (a ≤ s) × (s ≤ b) × AllByRecursion (λ r. Current s r.reading) rs
inside [] a b s l h = (l, h, tt)
inside (r ∷ rs) a b s l h =
    let rest = inside rs (later a r) (sooner b r) s l h in
    (omega (arith, rest.0), omega (arith, rest.1), ((omega (arith, rest.0), omega (arith, rest.1)), rest.2))

outside : (rs : List ChainReading) (a b s : ℕ) → a ≤ s → s ≤ b → AllByRecursion (λ r. Current s r.reading) rs → (fold later a rs ≤ s) × (s ≤ fold sooner b rs)
outside [] a b s l h c = (l, h)
outside (r ∷ rs) a b s l h c = outside rs (later a r) (sooner b r) s (omega (arith, c.0)) (omega (arith, c.0)) c.1

pub ends_agree : (a : Account) → agreed_ends a.low a.high a.readings ≡ true → CommonTimes a
ends_agree a e =
    let both = and_parts (eqb a.low (greatest_timestamp a.readings) && eqb a.high (least_promise a.readings)) (leb a.low a.high) e in
    let ends = and_parts (eqb a.low (greatest_timestamp a.readings)) (eqb a.high (least_promise a.readings)) both.0 in
    let low = eqb-true a.low (greatest_timestamp a.readings) ends.0 in
    let high = eqb-true a.high (least_promise a.readings) ends.1 in
    record {
      some = leb-true a.low a.high both.1;
      when_in = λ s l. (inside a.readings 0 open_end s (omega (arith, low, l.0)) (omega (arith, high, l.1))).2;
      only_in = λ s top c.
          let at = outside a.readings 0 open_end s (omega arith) top c in
          (omega (arith, low, at.0), omega (arith, high, at.1));
    }
