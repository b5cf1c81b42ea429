-- The versions of one key in a list of records: of two lists joined, and of one record more.
use Rattle.std.proofs.Common.{◌≡◌, ℕ, ◌+◌, ◌<◌, true, false, if◌then◌else◌, List, [], ◌∷◌, ◌++◌, map, length, get_or, take, filter, ap, ◌∙◌}
use Rattle.std.proofs.lemmas.List.Elements.{filter-append}
use Rattle.std.proofs.lemmas.List.{append-nil, map-append, take_more}
use Rattle.records.specs.Records.{has_key, record_version, of_key}
use Rattle.records.specs.declared.record.Record.{Record}

pub of_key_append : (k : ℕ) (xs ys : List Record) → of_key k (xs ++ ys) ≡ of_key k xs ++ of_key k ys
of_key_append k xs ys =
    ap (map record_version) (filter-append (has_key k) xs ys) ∙ map-append record_version (filter (has_key k) xs) (filter (has_key k) ys)

-- one record behind others
module _ (k : ℕ) (rs : List Record) (r : Record) where
  pushed : of_key k (rs ++ r ∷ []) ≡ of_key k rs ++ map record_version (if has_key k r then r ∷ [] else [])
  pushed = of_key_append k rs (r ∷ [])

  pub of_key_push_yes : has_key k r ≡ true → of_key k (rs ++ r ∷ []) ≡ of_key k rs ++ record_version r ∷ []
  of_key_push_yes e = pushed ∙ ap (λ b. of_key k rs ++ map record_version (if b then r ∷ [] else [])) e

  pub of_key_push_no : has_key k r ≡ false → of_key k (rs ++ r ∷ []) ≡ of_key k rs
  of_key_push_no e = pushed ∙ ap (λ b. of_key k rs ++ map record_version (if b then r ∷ [] else [])) e ∙ append-nil (of_key k rs)

-- one record more that is looked at
module _ (k : ℕ) (rs : List Record) (i : ℕ) (d : Record) (lt : i < length rs) where
  pub of_key_more_yes : has_key k (get_or rs i d) ≡ true → of_key k (take (i + 1) rs) ≡ of_key k (take i rs) ++ record_version (get_or rs i d) ∷ []
  of_key_more_yes e = ap (of_key k) (take_more rs i d lt) ∙ of_key_push_yes k (take i rs) (get_or rs i d) e

  pub of_key_more_no : has_key k (get_or rs i d) ≡ false → of_key k (take (i + 1) rs) ≡ of_key k (take i rs)
  of_key_more_no e = ap (of_key k) (take_more rs i d lt) ∙ of_key_push_no k (take i rs) (get_or rs i d) e
