-- The rules of a lawful account, as the code tests them.
use Rattle.std.proofs.Common.{◌≡◌, min, max, List, [], ◌∷◌, ◌++◌, ap₂}
use Rattle.std.proofs.lemmas.List.Sums.{fold-append}
use Rattle.snapshot.specs.Accounts.{greatest_timestamp, least_promise}
use Rattle.snapshot.specs.Intervals.{from_to, narrowed}
use Rattle.snapshot.specs.Limits.{open_end}
use Rattle.snapshot.specs.declared.account.ChainReading.{ChainReading}
use Rattle.snapshot.specs.declared.interval.Interval.{Interval}

-- from the greatest timestamp to the least promise
abbrev pub agreed : List ChainReading → Interval
agreed rs = from_to (greatest_timestamp rs) (least_promise rs)

-- one reading more is one narrowing more
pub agreed_more : (rs : List ChainReading) (r : ChainReading) → agreed (rs ++ (r ∷ [])) ≡ narrowed (agreed rs) r.reading
agreed_more rs r =
    ap₂ from_to
    (fold-append (λ a x. max a x.reading.timestamp) 0 rs (r ∷ []))
    (fold-append (λ a x. min a x.reading.promise) open_end rs (r ∷ []))
