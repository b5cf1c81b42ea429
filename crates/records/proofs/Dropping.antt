-- Dropping the first records of each key: where the first record goes, the others are left.
use Rattle.std.proofs.Common.{◌≡◌, ℕ, true, nat_lt, List, ◌∷◌, sym, ap, ◌∙◌}
use Rattle.std.proofs.lemmas.Bool.{cond-true}
use Rattle.records.specs.PerKeys.{one_less}
use Rattle.records.specs.Records.{drop_firsts}
use Rattle.records.specs.declared.record.Record.{Record}

-- functions that agree everywhere are equal
pub same_function : {f g : ℕ → ℕ} → ((k : ℕ) → f k ≡ g k) → f ≡ g
same_function p i k = p k i

pub first_goes : (e e' : ℕ → ℕ) (r : Record) (rs : List Record) → ((k : ℕ) → e' k ≡ one_less e r.key k) → nat_lt 0 (e r.key) ≡ true → drop_firsts e (r ∷ rs) ≡ drop_firsts e' rs
first_goes e e' r rs after some = cond-true (nat_lt 0 (e r.key)) _ _ some ∙ ap (λ f. drop_firsts f rs) (sym (same_function after))
