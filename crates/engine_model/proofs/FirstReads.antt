-- Each leg's first read of each key: what a further read adds, and that it adds a reading exactly where the leg has none of its own.
use Rattle.std.proofs.Common.{◌≡◌, ℕ, Bool, true, false, ◌&&◌, ◌||◌, ◌==◌, List, [], ◌∷◌, ◌++◌, map, is_some, Some, None, Option, sym, refl, ap, ◌∙◌}
use Rattle.std.proofs.lemmas.Bool.{and_parts, eqb-true, cond-true, cond-false, cond_both}
use Rattle.std.proofs.lemmas.List.{map_push}
use Rattle.engine_model.specs.Steps.{own_reading}
use Rattle.engine_model.specs.Traces.{ValueRead, value_read, outside_with, has_read, first_reads}
use Rattle.engine_model.specs.declared.records.LegReading.{LegReading}
use Rattle.engine_model.proofs.Sound.{as_read}

-- is this read the leg's, of this key?
abbrev reads_key : ℕ → ℕ → ValueRead → Bool
reads_key l k r = r.leg == l && r.key == k

-- such a read stands for any other in a list
same_read :
    (l k : ℕ) (r : ValueRead) (rs : List ValueRead) → reads_key l k r ≡ true → has_read r.leg r.key rs ≡ has_read l k rs
same_read l k r rs t =
    let both = and_parts (r.leg == l) (r.key == k) t in
    let leg : r.leg ≡ l = eqb-true _ _ both.0 in
    let key : r.key ≡ k = eqb-true _ _ both.1 in
    rw (leg, key) refl

or_swap : (a b c : Bool) → a || (b || c) ≡ (a || b) || c
or_swap true b c = refl
or_swap false b c = refl

or_false : (a : Bool) → a || false ≡ a
or_false true = refl
or_false false = refl

or_comm : (a b : Bool) → a || b ≡ b || a
or_comm true true = refl
or_comm true false = refl
or_comm false true = refl
or_comm false false = refl

-- a read that comes at the end
has_read_push :
    (l k : ℕ) (rs : List ValueRead) (r : ValueRead) → has_read l k (rs ++ (r ∷ [])) ≡ has_read l k rs || reads_key l k r
has_read_push l k [] r = or_false (reads_key l k r)
has_read_push l k (x ∷ xs) r =
    ap (λ b. reads_key l k x || b) (has_read_push l k xs r) ∙ or_swap (reads_key l k x) (has_read l k xs) (reads_key l k r)

or_absorbs : (a b : Bool) → (a ≡ true → b ≡ true) → a || b ≡ b
or_absorbs true b on = sym (on refl)
or_absorbs false b on = refl

-- the first reads are of all that was read
has_read_first : (l k : ℕ) (rs : List ValueRead) → has_read l k (first_reads rs) ≡ has_read l k rs
has_read_first l k [] = refl
has_read_first l k (r ∷ rs) =
    let before = has_read_first l k rs in
    cond_both (has_read r.leg r.key rs) _ _ (λ xs. has_read l k xs ≡ reads_key l k r || has_read l k rs)
    (λ there. before ∙ sym (or_absorbs (reads_key l k r) (has_read l k rs) (λ same. sym (same_read l k r rs same) ∙ there)))
    (λ _. has_read_push l k (first_reads rs) r ∙ ap (λ b. b || reads_key l k r) before ∙ or_comm (has_read l k rs) (reads_key l k r))

-- a leg has a reading of its own exactly where it has read the key
own_has_read : (l k : ℕ) (rs : List LegReading) → has_read l k (map as_read rs) ≡ is_some (own_reading l k rs)
own_has_read l k [] = refl
own_has_read l k (r ∷ rs) =
    cond_both (r.leg == l && r.made.key == k) _ _ (λ o. has_read l k (map as_read (r ∷ rs)) ≡ is_some o)
    (λ same. ap (λ b. b || has_read l k (map as_read rs)) same)
    (λ apart. ap (λ b. b || has_read l k (map as_read rs)) apart ∙ own_has_read l k rs)

-- where the readings of a chain are the first of its reads
pub read_where_own :
    (l k : ℕ) (rs : List LegReading) (xs : List ValueRead) → map as_read rs ≡ first_reads xs → has_read l k xs ≡ is_some (own_reading l k rs)
read_where_own l k rs xs firsts =
    sym (has_read_first l k xs) ∙ ap (has_read l k) (sym firsts) ∙ own_has_read l k rs

-- a read of a key that the leg has written or read adds no first read
pub firsts_again :
    (written : Option ℕ) (l k x : ℕ) (xs : List ValueRead) → (written ≡ None → has_read l k xs ≡ true) →
    first_reads (outside_with written (value_read l k x) xs) ≡ first_reads xs
firsts_again (Some v) l k x xs again = refl
firsts_again None l k x xs again = cond-true (has_read l k xs) (first_reads xs) _ (again refl)

-- and one that becomes a reading adds one
pub firsts_more :
    (rs : List LegReading) (r : LegReading) (written : Option ℕ) (xs : List ValueRead) → map as_read rs ≡ first_reads xs →
    written ≡ None → own_reading r.leg r.made.key rs ≡ None →
    map as_read (rs ++ (r ∷ [])) ≡ first_reads (outside_with written (as_read r) xs)
firsts_more rs r written xs firsts not_written not_read =
    let new : has_read r.leg r.made.key xs ≡ false = read_where_own r.leg r.made.key rs xs firsts ∙ ap is_some not_read in
    map_push as_read rs r ∙ ap (λ ys. ys ++ (as_read r ∷ [])) firsts
    ∙ sym (rw not_written (cond-false (has_read r.leg r.made.key xs) (first_reads xs) (first_reads xs ++ (as_read r ∷ [])) new))
