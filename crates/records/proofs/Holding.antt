-- What memory holds that is lent to a store of records.
use Rattle.std.proofs.Common.{◌≡◌, ℕ, Bool, true, false, if◌then◌else◌, nat_le, List, [], ◌∷◌, length, take, Some, None, refl}
use Rattle.std.specs.List.{AllByRecursion, list_all}
use Rattle.std.proofs.lemmas.Bool.{and_parts}
use Rattle.snapshot.specs.Limits.{is_key}
use Rattle.records.proofs.Uniqueness.{one_list}
use Rattle.records.specs.Layouts.{HoldsFor, HoldsVersions, ListsVersions, are_sound, in_order, loan_of, memory_meaning, records_meaning, sound_record}
use Rattle.records.specs.declared.record.Record.{Record}

keys_in : (last : ℕ) (rs : List Record) → list_all (sound_record last) rs ≡ true → AllByRecursion (λ r. is_key r.key ≡ true) rs
keys_in last [] s = tt
keys_in last (r ∷ rs) s =
    let parts = and_parts (sound_record last r) (list_all (sound_record last) rs) s in
    ((and_parts (is_key r.key) (nat_le r.timestamp last) parts.0).0, keys_in last rs parts.1)

-- sound records list the versions that they mean
lists : (size : ℕ) (rs : List Record) (last : ℕ) → are_sound true rs last ≡ true → ListsVersions (records_meaning true size rs last) rs
lists size rs last sound =
    let both = and_parts (list_all (sound_record last) rs) (in_order rs) sound in
    record { ordered = both.1; in_range = keys_in last rs both.0; versions = λ k. refl }

by_fit : {H : Type 0} (fit : Bool) (size : ℕ) (rs : List Record) (last : ℕ) (lies : List Record → H → Type 0) (h : H) → are_sound fit rs last ≡ true → (fit ≡ true → lies rs h) → HoldsFor lies (records_meaning fit size rs last) h (if fit then None else Some h)
by_fit true size rs last lies h sound there =
    let here = lists size rs last sound in
    (rs, here, (λ other those. one_list (records_meaning true size rs last) rs other here those), there refl)
by_fit false size rs last lies h sound there = refl

pub holds_versions :
    {M H : Type 0} (name : M → ℕ) (records : M → List Record) (fit : M → Bool) (held : M → H) (lies : List Record → H → Type 0) (m : M) (n last : ℕ) →
    are_sound (fit m) (take n (records m)) last ≡ true → (fit m ≡ true → lies (take n (records m)) (held m)) → HoldsVersions lies (loan_of name records fit held m) (memory_meaning fit records m n last) (held m)
holds_versions name records fit held lies m n last sound there =
    by_fit (fit m) (length (records m)) (take n (records m)) last lies (held m) sound there
