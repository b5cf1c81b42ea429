-- Numbers that are kept for each key while a list is walked: one more record, or one more write, changes one key's number.
use Rattle.std.proofs.Common.{◌≡◌, ℕ, zero, suc, ◌+◌, ◌<◌, ◌≤◌, Bool, true, false, if◌then◌else◌, ◌&&◌, ◌==◌, List, [], ◌∷◌, ◌++◌, length, get_or, take, Some, None, filter, Option, sym, refl, ap, ◌∙◌, subst, ⊎_elim, arith}
use Rattle.std.specs.Option.{option_or}
use Rattle.std.proofs.lemmas.List.{length-map, length_push, length-take, take_more}
use Rattle.std.proofs.lemmas.List.Sums.{length-filter, count_by-le-length}
use Rattle.std.proofs.lemmas.Bool.{cases_eq, cond-true, cond-false, cond_both, eq-eqb, ne_eqb}
use Rattle.std.proofs.lemmas.Bool.Decides.{nat_tests}
use Rattle.snapshot.proofs.Zeros.{zero_write}
use Rattle.snapshot.specs.Accounts.{rising_from}
use Rattle.snapshot.specs.Limits.{is_key, key_count}
use Rattle.snapshot.specs.declared.account.Write.{Write}
use Rattle.store.specs.Meaning.{written_to}
use Rattle.store.proofs.Writes.{rising_keys, rising_later}
use Rattle.records.proofs.Keys.{of_key_more_yes, of_key_more_no}
use Rattle.records.specs.PerKeys.{number_for, per_key, with}
use Rattle.records.specs.Records.{has_key, record_version, of_key, no_record}
use Rattle.records.specs.declared.per_key.PerKey.{PerKey}
use Rattle.records.specs.declared.record.Record.{Record}

-- the numbers are those of f
abbrev pub Numbers : PerKey → (ℕ → ℕ) → Type 0
Numbers p f = (k : ℕ) → number_for p k ≡ per_key f k

at_itself : (b : Bool) (x y n : ℕ) → (b ≡ true → y ≡ n) → (if true && b then n else (if b then x else 0)) ≡ (if b then y else 0)
at_itself true x y n e = sym (e refl)
at_itself false x y n e = refl

-- where a key is given its new number, and the others have theirs as before, all numbers are new
module _ (p q : PerKey) (f f' : ℕ → ℕ) (key n : ℕ) (old : Numbers p f) (made : (k : ℕ) → number_for q k ≡ with (number_for p) key n k) where
  set_from : (k : ℕ) → number_for q k ≡ (if k == key && is_key key then n else per_key f k)
  set_from k = made k ∙ ap (λ x. if k == key && is_key key then n else x) (old k)

  itself : (is_key key ≡ true → f' key ≡ n) → number_for q key ≡ per_key f' key
  itself here =
      set_from key
      ∙ ap (λ b. if b && is_key key then n else per_key f key) (eq-eqb key key refl)
      ∙ at_itself (is_key key) (f key) (f' key) n here

  other : (k : ℕ) → (key ≡ k → ⊥) → f' k ≡ f k → number_for q k ≡ per_key f' k
  other k ne same =
      set_from k
      ∙ ap (λ b. if b && is_key key then n else per_key f k) (ne_eqb k key (λ e. ne (sym e)))
      ∙ ap (λ x. if is_key k then x else 0) (sym same)

  pub set_more : (is_key key ≡ true → f' key ≡ n) → ((k : ℕ) → (key ≡ k → ⊥) → f' k ≡ f k) → Numbers q f'
  set_more here others k =
      ⊎_elim
      (λ e. let at : ℕ → Type 0 = λ j. number_for q j ≡ per_key f' j in subst at e (itself here))
      (λ ne. other k ne (others k ne))
      (cases_eq key k)

-- the number of versions of each key
abbrev pub counted : List Record → ℕ → ℕ
counted rs k = length (of_key k rs)

-- is no more than that of all records
pub counted_within : (rs : List Record) (k : ℕ) → per_key (counted rs) k ≤ length rs
counted_within rs k =
    let some : counted rs k ≤ length rs = omega (arith, length-map (filter (has_key k) rs) record_version, length-filter (has_key k) rs, count_by-le-length (has_key k) rs) in
    cond_both (is_key k) (counted rs k) 0 (λ n. n ≤ length rs) (λ _. some) (λ _. omega arith)

pub counted_le : (rs : List Record) (i k : ℕ) → per_key (counted (take i rs)) k ≤ i
counted_le rs i k = omega (arith, counted_within (take i rs) k, length-take i rs)

-- at a key the number is that of the function
pub number_at : (p : PerKey) (f : ℕ → ℕ) (key n : ℕ) → Numbers p f → n ≡ number_for p key → is_key key ≡ true → n ≡ f key
number_at p f key n numbers is key_in = is ∙ numbers key ∙ cond-true (is_key key) (f key) 0 key_in

-- one record more
module _ (rs : List Record) (i : ℕ) (lt : i < length rs) where
  abbrev r : Record
  r = get_or rs i no_record

  pub pushed_here : of_key r.key (take (i + 1) rs) ≡ of_key r.key (take i rs) ++ record_version r ∷ []
  pushed_here = of_key_more_yes r.key rs i no_record lt (eq-eqb r.key r.key refl)

  pub same_elsewhere : (k : ℕ) → (r.key ≡ k → ⊥) → of_key k (take (i + 1) rs) ≡ of_key k (take i rs)
  same_elsewhere k ne = of_key_more_no k rs i no_record lt (ne_eqb r.key k ne)

  pub count_more : (p q : PerKey) (n : ℕ) → Numbers p (counted (take i rs)) → n ≡ number_for p r.key → ((k : ℕ) → number_for q k ≡ with (number_for p) r.key (n + 1) k) → Numbers q (counted (take (i + 1) rs))
  count_more p q n old count made =
      set_more p q (counted (take i rs)) (counted (take (i + 1) rs)) r.key (n + 1) old made
      (λ key_in. ap length pushed_here ∙ length_push (of_key r.key (take i rs)) (record_version r) ∙ ap (λ m. m + 1) (sym (number_at p (counted (take i rs)) r.key n old count key_in)))
      (λ k ne. ap length (same_elsewhere k ne))

-- one write more
or_none : (o : Option ℕ) → option_or o None ≡ o
or_none None = refl
or_none (Some x) = refl

earlier : (b : Bool) (x : ℕ) (o p : Option ℕ) → (if b then Some x else option_or o p) ≡ option_or (if b then Some x else o) p
earlier true x o p = refl
earlier false x o p = refl

written_push : (k : ℕ) (ws : List Write) (w : Write) → written_to k (ws ++ w ∷ []) ≡ option_or (written_to k ws) (if w.key == k then Some w.value else None)
written_push k [] w = refl
written_push k (v ∷ ws) w =
    ap (λ o. if v.key == k then Some v.value else o) (written_push k ws w) ∙ earlier (v.key == k) v.value (written_to k ws) (if w.key == k then Some w.value else None)

module _ (ws : List Write) (i : ℕ) (lt : i < length ws) where
  abbrev write : Write
  write = get_or ws i zero_write

  written_more : (k : ℕ) → written_to k (take (i + 1) ws) ≡ option_or (written_to k (take i ws)) (if write.key == k then Some write.value else None)
  written_more k = ap (written_to k) (take_more ws i zero_write lt) ∙ written_push k (take i ws) write

  pub written_here : written_to write.key (take (i + 1) ws) ≡ option_or (written_to write.key (take i ws)) (Some write.value)
  written_here =
      written_more write.key
      ∙ ap (λ b. option_or (written_to write.key (take i ws)) (if b then Some write.value else None)) (eq-eqb write.key write.key refl)

  pub written_elsewhere : (k : ℕ) → (write.key ≡ k → ⊥) → written_to k (take (i + 1) ws) ≡ written_to k (take i ws)
  written_elsewhere k ne =
      written_more k
      ∙ ap (λ b. option_or (written_to k (take i ws)) (if b then Some write.value else None)) (ne_eqb write.key k ne)
      ∙ or_none (written_to k (take i ws))

-- Writes whose keys rise.

rising_at : (least : ℕ) (ws : List Write) (i : ℕ) → rising_from least ws ≡ true → i < length ws → least ≤ (get_or ws i zero_write).key
rising_at least [] i rising lt = absurd (omega arith)
rising_at least (w ∷ ws) zero rising lt = grind (arith, nat_tests)
rising_at least (w ∷ ws) (suc i) rising lt =
    let le : least ≤ w.key = grind (arith, nat_tests) in
    omega (arith, le, rising_at (suc w.key) ws i (rising_later least w ws rising) (omega arith))

-- no key is written before its write
pub unwritten_before : (least : ℕ) (ws : List Write) (i : ℕ) → rising_from least ws ≡ true → i < length ws → written_to (get_or ws i zero_write).key (take i ws) ≡ None
unwritten_before least [] i rising lt = absurd (omega arith)
unwritten_before least (w ∷ ws) zero rising lt = refl
unwritten_before least (w ∷ ws) (suc i) rising lt =
    let key = (get_or ws i zero_write).key in
    let later = rising_later least w ws rising in
    let within : i < length ws = omega arith in
    let above = rising_at (suc w.key) ws i later within in
    cond-false (w.key == key) (Some w.value) (written_to key (take i ws)) (ne_eqb w.key key (λ e. omega (arith, e, above)))
    ∙ unwritten_before (suc w.key) ws i later within

-- the key of each write is one that there is
pub written_keys : (least : ℕ) (ws : List Write) (i : ℕ) → rising_from least ws ≡ true → i < length ws → (get_or ws i zero_write).key < key_count
written_keys least [] i rising lt = absurd (omega arith)
written_keys least (w ∷ ws) zero rising lt = (rising_keys least (w ∷ ws) rising).0
written_keys least (w ∷ ws) (suc i) rising lt = written_keys (suc w.key) ws i (rising_later least w ws rising) (omega arith)
