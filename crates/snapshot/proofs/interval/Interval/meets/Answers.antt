-- A common time, where there is one, is the larger of the two beginnings.
use Rattle.std.proofs.Common.{◌≤◌, max, arith}
use Rattle.std.proofs.lemmas.Bool.{leb-true, le-leb}
use Rattle.snapshot.proofs.interval.Interval.meets.Goals as goal

pub returns-then-reading-self-clause-means : goal.returns-then-reading-self-clause-means
returns-then-reading-self-clause-means c = λ lh tp. (
  (λ e.
      let h : c.args.reading.timestamp ≤ c.args.self.high = leb-true _ _ e in
      (max c.args.self.low c.args.reading.timestamp, (omega arith, omega arith), (omega arith, omega arith))),
  (λ w. le-leb _ _ (omega arith)),
)
