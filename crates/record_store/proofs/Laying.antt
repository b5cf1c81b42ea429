-- What a slice holds that is lent to a table, from what every store of records tells of its memory.
use Rattle.std.proofs.Common.{◌≡◌, ◌-◌, Bool, true, false, if◌then◌else◌, List, ◌++◌, length, replicate, Some, None, Ok, Err, Option, Result, MatchResult, sym, refl, ap, ◌∙◌, subst}
use Rattle.std.proofs.lemmas.Bool.{both_ways}
use Rattle.store.specs.Meaning.{Meaning}
use Rattle.records.proofs.Uniqueness.{one_list}
use Rattle.records.specs.Layouts.{HoldsFor, ListsVersions}
use Rattle.records.specs.Records.{no_record}
use Rattle.records.specs.declared.record.Record.{Record}
use Rattle.records.specs.Slices.{LiesIn}
use Rattle.record_store.specs.Tables.{HoldsOnly}

pub laid_only : (m : Meaning) (mem front : List Record) → ListsVersions m front → LiesIn front mem → HoldsOnly m mem
laid_only m mem front lists lies = (
  record { front = front; lists = lists; lies = lies },
  (λ other long there.
      there.lies
      ∙ ap (λ xs. xs ++ replicate (length other - length xs) no_record) (one_list m front there.front lists there.lists)
      ∙ ap (λ n. front ++ replicate (n - length front) no_record) long
      ∙ sym lies),
)

-- fit memory holds what the store means
pub laid_in_fit : (fit : Bool) (m : Meaning) (before mem : List Record) → HoldsFor LiesIn m mem (if fit then None else Some before) → fit ≡ true → HoldsOnly m mem
laid_in_fit true m before mem h e = laid_only m mem h.0 h.1 h.3
laid_in_fit false m before mem h e = absurd (both_ways true (sym e) refl)

-- so it is after calls, whether they were made or not
pub laid_after :
    {A E : Type 0} (r : Result A E) (alone : Option (List Record)) (fit : Bool) (before mem : List Record) (m m' : Meaning) → alone ≡ (if fit then None else Some before) → fit ≡ true →
    MatchResult r (λ _. HoldsFor LiesIn m mem alone) (λ _. HoldsFor LiesIn m' mem alone) → MatchResult r (λ _. HoldsOnly m mem) (λ _. HoldsOnly m' mem)
laid_after (Ok x) alone fit before mem m m' is is_fit h = laid_in_fit fit m before mem (subst (HoldsFor LiesIn m mem) is h) is_fit
laid_after (Err x) alone fit before mem m m' is is_fit h = laid_in_fit fit m' before mem (subst (HoldsFor LiesIn m' mem) is h) is_fit
