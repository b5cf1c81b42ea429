-- What dropping first records and adding the records of writes do to a list: its order, its soundness, and the versions
-- of each key.
use Rattle.std.proofs.Common.{◌≡◌, ℕ, zero, suc, ◌+◌, ◌-◌, ◌<◌, ◌≤◌, Bool, true, false, if◌then◌else◌, ◌&&◌, ◌==◌, nat_lt, List, [], ◌∷◌, ◌++◌, map, length, drop, Some, None, filter, Option, sym, refl, ap, add-one, ◌∙◌, ⊎_elim, arith}
use Rattle.std.specs.List.{AllByRecursion, list_all}
use Rattle.std.proofs.lemmas.List.{append-nil, drop_all, drop-append-le, length_push}
use Rattle.std.proofs.lemmas.List.Folds.{list_all-append}
use Rattle.std.proofs.lemmas.Bool.{and_parts, and_from, cases_Bool, cond_both, cond-true, cond-false, eqb-true, eqb-false, eq-eqb, ne_eqb, ltb-true, ltb-false}
use Rattle.std.proofs.lemmas.Bool.Decides.{nat_tests}
use Rattle.snapshot.specs.Accounts.{rising_from}
use Rattle.snapshot.specs.Limits.{key_count, is_key}
use Rattle.snapshot.specs.declared.account.Write.{Write}
use Rattle.store.specs.Laws.{versions_of}
use Rattle.store.specs.Meaning.{version_of, outdated, written_to, kept_with, versions_below}
use Rattle.store.specs.declared.version.Version.{Version}
use Rattle.store.proofs.Writes.{rising_later, rising_keys, unwritten_below, unwritten_past}
use Rattle.records.proofs.Keys.{of_key_append}
use Rattle.records.specs.PerKeys.{one_less, per_key}
use Rattle.records.proofs.Changes.{after_writes, excess, without_outdated}
use Rattle.records.specs.Records.{drop_firsts, first_records, has_key, of_key, record_of, record_version, written}
use Rattle.records.specs.Layouts.{in_order, is_before, sound_record}
use Rattle.records.specs.declared.record.Record.{Record}

-- Tests of every record.

all_both : {X : Type 0} (p : X → Bool) (xs ys : List X) → list_all p xs ≡ true → list_all p ys ≡ true → list_all p (xs ++ ys) ≡ true
all_both p xs ys a b = list_all-append p xs ys ∙ and_from (list_all p xs) (list_all p ys) a b

pub all_from : {X : Type 0} (p q : X → Bool) → ((x : X) → p x ≡ true → q x ≡ true) → (xs : List X) → list_all p xs ≡ true → list_all q xs ≡ true
all_from p q f [] a = refl
all_from p q f (x ∷ xs) a =
    let parts = and_parts (p x) (list_all p xs) a in
    and_from (q x) (list_all q xs) (f x parts.0) (all_from p q f xs parts.1)

-- what is left passes every test that all passed
pub all_left : (p : Record → Bool) (e : ℕ → ℕ) (rs : List Record) → list_all p rs ≡ true → list_all p (drop_firsts e rs) ≡ true
all_left p e [] a = refl
all_left p e (r ∷ rs) a =
    let parts = and_parts (p r) (list_all p rs) a in
    cond_both (nat_lt 0 (e r.key)) (drop_firsts (one_less e r.key) rs) (r ∷ drop_firsts e rs) (λ xs. list_all p xs ≡ true)
    (λ _. all_left p (one_less e r.key) rs parts.1)
    (λ _. and_from (p r) (list_all p (drop_firsts e rs)) parts.0 (all_left p e rs parts.1))

-- Order.

pub order_left : (e : ℕ → ℕ) (rs : List Record) → in_order rs ≡ true → in_order (drop_firsts e rs) ≡ true
order_left e [] o = refl
order_left e (r ∷ rs) o =
    let parts = and_parts (list_all (is_before r) rs) (in_order rs) o in
    cond_both (nat_lt 0 (e r.key)) (drop_firsts (one_less e r.key) rs) (r ∷ drop_firsts e rs) (λ xs. in_order xs ≡ true)
    (λ _. order_left (one_less e r.key) rs parts.1)
    (λ _. and_from (list_all (is_before r) (drop_firsts e rs)) (in_order (drop_firsts e rs)) (all_left (is_before r) e rs parts.0) (order_left e rs parts.1))

-- each of xs is before each of ys
abbrev pub Ahead : List Record → List Record → Type 0
Ahead xs ys = AllByRecursion (λ x. list_all (is_before x) ys ≡ true) xs

pub order_both : (xs ys : List Record) → in_order xs ≡ true → in_order ys ≡ true → Ahead xs ys → in_order (xs ++ ys) ≡ true
order_both [] ys a b ahead = b
order_both (x ∷ xs) ys a b ahead =
    let parts = and_parts (list_all (is_before x) xs) (in_order xs) a in
    and_from (list_all (is_before x) (xs ++ ys)) (in_order (xs ++ ys)) (all_both (is_before x) xs ys parts.0 ahead.0) (order_both xs ys parts.1 b ahead.1)

-- The versions of a key.

pub cons_yes : (k : ℕ) (r : Record) (rs : List Record) → has_key k r ≡ true → of_key k (r ∷ rs) ≡ record_version r ∷ of_key k rs
cons_yes k r rs e = ap (λ b. map record_version (if b then r ∷ filter (has_key k) rs else filter (has_key k) rs)) e

pub cons_no : (k : ℕ) (r : Record) (rs : List Record) → has_key k r ≡ false → of_key k (r ∷ rs) ≡ of_key k rs
cons_no k r rs e = ap (λ b. map record_version (if b then r ∷ filter (has_key k) rs else filter (has_key k) rs)) e

drop_some : (n : ℕ) (v : Version) (vs : List Version) → 0 < n → drop (n - 1) vs ≡ drop n (v ∷ vs)
drop_some zero v vs lt = absurd (omega arith)
drop_some (suc n) v vs lt = let e : suc n - 1 ≡ n = omega arith in ap (λ m. drop m vs) e

-- one record, of which it is known whether it goes
module _ (k : ℕ) (e : ℕ → ℕ) (r : Record) (rs : List Record) where
  abbrev Left : List Record → Type 0
  Left xs = of_key k xs ≡ drop (e k) (of_key k (r ∷ rs))

  one_goes : nat_lt 0 (e r.key) ≡ true → of_key k (drop_firsts (one_less e r.key) rs) ≡ drop (one_less e r.key k) (of_key k rs) → Left (drop_firsts (one_less e r.key) rs)
  one_goes some rest =
      ⊎_elim
      (λ is.
      let same = eqb-true r.key k is in
      rest
      ∙ ap (λ n. drop n (of_key k rs)) (cond-true (k == r.key) (e k - 1) (e k) (eq-eqb k r.key (sym same)))
      ∙ drop_some (e k) (record_version r) (of_key k rs) (omega (arith, ltb-true 0 (e r.key) some, ap e same))
      ∙ ap (drop (e k)) (sym (cons_yes k r rs is)))
      (λ other.
      rest
      ∙ ap (λ n. drop n (of_key k rs)) (cond-false (k == r.key) (e k - 1) (e k) (ne_eqb k r.key (λ same. eqb-false r.key k other (sym same))))
      ∙ ap (drop (e k)) (sym (cons_no k r rs other)))
      (cases_Bool (has_key k r))

  one_stays : nat_lt 0 (e r.key) ≡ false → of_key k (drop_firsts e rs) ≡ drop (e k) (of_key k rs) → Left (r ∷ drop_firsts e rs)
  one_stays none rest =
      ⊎_elim
      (λ is.
      let zero_left : e k ≡ 0 = omega (arith, ltb-false 0 (e r.key) none, ap e (eqb-true r.key k is)) in
      cons_yes k r (drop_firsts e rs) is
      ∙ ap (λ vs. record_version r ∷ vs) (rest ∙ ap (λ n. drop n (of_key k rs)) zero_left)
      ∙ ap (λ n. drop n (record_version r ∷ of_key k rs)) (sym zero_left)
      ∙ ap (drop (e k)) (sym (cons_yes k r rs is)))
      (λ other. cons_no k r (drop_firsts e rs) other ∙ rest ∙ ap (drop (e k)) (sym (cons_no k r rs other)))
      (cases_Bool (has_key k r))

-- where a key drops its first records, it drops its first versions
pub of_key_left : (k : ℕ) (e : ℕ → ℕ) (rs : List Record) → of_key k (drop_firsts e rs) ≡ drop (e k) (of_key k rs)
of_key_left k e [] = sym (drop_all (e k) [] (omega arith))
of_key_left k e (r ∷ rs) =
    cond_both (nat_lt 0 (e r.key)) (drop_firsts (one_less e r.key) rs) (r ∷ drop_firsts e rs) (Left k e r rs)
    (λ some. one_goes k e r rs some (of_key_left k (one_less e r.key) rs))
    (λ none. one_stays k e r rs none (of_key_left k e rs))

-- a key that there is not has no versions
pub of_key_none : (k : ℕ) (rs : List Record) → list_all (λ r. is_key r.key) rs ≡ true → is_key k ≡ false → of_key k rs ≡ []
of_key_none k [] a past = refl
of_key_none k (r ∷ rs) a past =
    let parts = and_parts (is_key r.key) (list_all (λ q. is_key q.key) rs) a in
    let other : (r.key == k) ≡ false = grind (arith, nat_tests, parts.0) in
    cons_no k r rs other ∙ of_key_none k rs parts.1 past

-- The records of writes.

-- the writes give a key its version
pub of_key_written : (k t least : ℕ) (ws : List Write) → rising_from least ws ≡ true → of_key k (map (written t) ws) ≡ versions_of (Some t) (written_to k ws)
of_key_written k t least [] rising = refl
of_key_written k t least (w ∷ ws) rising =
    let later = rising_later least w ws rising in
    let rest = of_key_written k t (suc w.key) ws later in
    ⊎_elim
    (λ is.
    let same = eqb-true w.key k is in
    cons_yes k (written t w) (map (written t) ws) is
    ∙ ap (λ vs. version_of t w.value ∷ vs) (rest ∙ ap (versions_of (Some t)) (unwritten_below k (suc w.key) ws (omega (arith, same)) later))
    ∙ ap (versions_of (Some t)) (sym (cond-true (w.key == k) (Some w.value) (written_to k ws) is)))
    (λ other.
    cons_no k (written t w) (map (written t) ws) other ∙ rest
    ∙ ap (versions_of (Some t)) (sym (cond-false (w.key == k) (Some w.value) (written_to k ws) other)))
    (cases_Bool (w.key == k))

written_sound : (t least : ℕ) (ws : List Write) → rising_from least ws ≡ true → list_all (sound_record t) (map (written t) ws) ≡ true
written_sound t least [] rising = refl
written_sound t least (w ∷ ws) rising =
    and_from (sound_record t (written t w)) (list_all (sound_record t) (map (written t) ws))
    (grind (arith, nat_tests, (rising_keys least (w ∷ ws) rising).0))
    (written_sound t (suc w.key) ws (rising_later least w ws rising))

-- writes whose keys start above this record's come after it
after_one : (t least : ℕ) (r : Record) (ws : List Write) → r.timestamp ≡ t → r.key < least → rising_from least ws ≡ true → list_all (is_before r) (map (written t) ws) ≡ true
after_one t least r [] now below rising = refl
after_one t least r (w ∷ ws) now below rising =
    let le : least ≤ w.key = grind (arith, nat_tests) in
    and_from (is_before r (written t w)) (list_all (is_before r) (map (written t) ws))
    (grind (arith, nat_tests))
    (after_one t (suc w.key) r ws now (omega arith) (rising_later least w ws rising))

written_order : (t least : ℕ) (ws : List Write) → rising_from least ws ≡ true → in_order (map (written t) ws) ≡ true
written_order t least [] rising = refl
written_order t least (w ∷ ws) rising =
    let later = rising_later least w ws rising in
    and_from (list_all (is_before (written t w)) (map (written t) ws)) (in_order (map (written t) ws))
    (after_one t (suc w.key) (written t w) ws refl (omega arith) later)
    (written_order t (suc w.key) ws later)

-- a record up to last is before every record of a later commit
before_later : (last t : ℕ) (r : Record) (ws : List Write) → last < t → sound_record last r ≡ true → list_all (is_before r) (map (written t) ws) ≡ true
before_later last t r [] lt sound = refl
before_later last t r (w ∷ ws) lt sound =
    and_from (is_before r (written t w)) (list_all (is_before r) (map (written t) ws)) (grind (arith, nat_tests)) (before_later last t r ws lt sound)

all_ahead : (last t : ℕ) (rs : List Record) (ws : List Write) → last < t → list_all (sound_record last) rs ≡ true → Ahead rs (map (written t) ws)
all_ahead last t [] ws lt sound = tt
all_ahead last t (r ∷ rs) ws lt sound =
    let parts = and_parts (sound_record last r) (list_all (sound_record last) rs) sound in
    (before_later last t r ws lt parts.0, all_ahead last t rs ws lt parts.1)

-- A commit.

module _ (depth last t : ℕ) (ws : List Write) (rs : List Record) (lt : last < t) (rising : rising_from 0 ws ≡ true) (sound : list_all (sound_record last) rs ≡ true) where
  abbrev e : ℕ → ℕ
  e = per_key (λ k. excess depth (written_to k ws) (of_key k rs))

  pub commit_sound : list_all (sound_record t) (after_writes depth t ws rs) ≡ true
  commit_sound =
      all_both (sound_record t) (drop_firsts e rs) (map (written t) ws)
      (all_from (sound_record last) (sound_record t) (λ r s. grind (arith, nat_tests)) (drop_firsts e rs) (all_left (sound_record last) e rs sound))
      (written_sound t 0 ws rising)

  pub commit_order : in_order rs ≡ true → in_order (after_writes depth t ws rs) ≡ true
  commit_order o =
      order_both (drop_firsts e rs) (map (written t) ws) (order_left e rs o) (written_order t 0 ws rising)
      (all_ahead last t (drop_firsts e rs) ws lt (all_left (sound_record last) e rs sound))

-- what is kept of a key that is written, or not
kept_list : (depth t : ℕ) (o : Option ℕ) (vs : List Version) → 1 ≤ depth → drop (excess depth o vs) vs ++ versions_of (Some t) o ≡ kept_with depth t o vs
kept_list depth t None vs deep = append-nil vs
kept_list depth t (Some x) vs deep =
    let v = version_of t x in
    let same : length vs - (depth - 1) ≡ length (vs ++ v ∷ []) - depth = omega (arith, length_push vs v) in
    sym (drop-append-le (length vs - (depth - 1)) vs (v ∷ []) (omega arith)) ∙ ap (λ n. drop n (vs ++ v ∷ [])) same

written_key : (k : ℕ) (ws : List Write) (o : Option ℕ) → written_to k ws ≡ o → rising_from 0 ws ≡ true → (depth : ℕ) (vs : List Version) → per_key (λ j. excess depth o vs) k ≡ excess depth o vs
written_key k ws None is rising depth vs = cond_both (is_key k) 0 0 (λ n. n ≡ 0) (λ _. refl) (λ _. refl)
written_key k ws (Some x) is rising depth vs =
    ⊎_elim
    (λ key. cond-true (is_key k) _ _ key)
    (λ past. let z : ◌≡◌ {A = ℕ} 0 1 = cc (unwritten_past k ws past (rising_keys 0 ws rising)) in absurd (omega (arith, z)))
    (cases_Bool (is_key k))

-- the versions of each key after a commit
pub of_key_commit : (depth t : ℕ) (ws : List Write) (rs : List Record) → 1 ≤ depth → rising_from 0 ws ≡ true → (k : ℕ) → of_key k (after_writes depth t ws rs) ≡ kept_with depth t (written_to k ws) (of_key k rs)
of_key_commit depth t ws rs deep rising k =
    let f = per_key (λ j. excess depth (written_to j ws) (of_key j rs)) in
    let vs = of_key k rs in
    of_key_append k (drop_firsts f rs) (map (written t) ws)
    ∙ ap (λ xs. xs ++ of_key k (map (written t) ws)) (of_key_left k f rs ∙ ap (λ n. drop n vs) (written_key k ws (written_to k ws) refl rising depth vs))
    ∙ ap (λ xs. drop (excess depth (written_to k ws) vs) vs ++ xs) (of_key_written k t 0 ws rising)
    ∙ kept_list depth t (written_to k ws) vs deep

-- A prune.

pub of_key_prune : (h : ℕ) (rs : List Record) → list_all (λ r. is_key r.key) rs ≡ true → (k : ℕ) → of_key k (without_outdated h rs) ≡ drop (outdated h (of_key k rs)) (of_key k rs)
of_key_prune h rs keyed k =
    let f : ℕ → ℕ = λ j. outdated h (of_key j rs) in
    of_key_left k (per_key f) rs
    ∙ ⊎_elim
    (λ key. ap (λ n. drop n (of_key k rs)) (cond-true (is_key k) (f k) 0 key))
    (λ past.
    let none = of_key_none k rs keyed past in
    ap (drop (per_key f k)) none ∙ drop_all (per_key f k) [] (omega arith) ∙ sym (drop_all (f k) [] (omega arith)) ∙ ap (drop (f k)) (sym none))
    (cases_Bool (is_key k))

-- All keys together.

-- a record adds one to the versions of the keys below n, if its key is one of them
one_more_below : (n : ℕ) (r : Record) (rs : List Record) → versions_below n (λ k. of_key k (r ∷ rs)) ≡ versions_below n (λ k. of_key k rs) + (if nat_lt r.key n then 1 else 0)
unfolding versions_below
one_more_below zero r rs = grind (arith, nat_tests)
one_more_below (suc n) r rs =
    let rest = one_more_below n r rs in
    ⊎_elim
    (λ is.
    let here = ap length (cons_yes n r rs is) in
    let lower : nat_lt r.key n ≡ false = grind (arith, nat_tests) in
    let upper : nat_lt r.key (suc n) ≡ true = grind (arith, nat_tests) in
    omega (arith, rest, here, cond-false {A = ℕ} (nat_lt r.key n) 1 0 lower, cond-true {A = ℕ} (nat_lt r.key (suc n)) 1 0 upper))
    (λ other.
    let here = ap length (cons_no n r rs other) in
    let same : ◌≡◌ {A = ℕ} (if nat_lt r.key (suc n) then 1 else 0) (if nat_lt r.key n then 1 else 0) = grind (arith, nat_tests) in
    omega (arith, rest, here, same))
    (cases_Bool (has_key n r))

none_below : (n : ℕ) → versions_below n (λ k. of_key k []) ≡ 0
unfolding versions_below
none_below zero = refl
none_below (suc n) = omega (arith, none_below n)

pub versions_together : (rs : List Record) → list_all (λ r. is_key r.key) rs ≡ true → versions_below key_count (λ k. of_key k rs) ≡ length rs
versions_together [] a = none_below key_count
versions_together (r ∷ rs) a =
    let parts = and_parts (is_key r.key) (list_all (λ q. is_key q.key) rs) a in
    omega (arith, one_more_below key_count r rs, versions_together rs parts.1, cond-true {A = ℕ} (nat_lt r.key key_count) 1 0 parts.0)

-- A new store.

first_keys : (n : ℕ) → list_all (λ r. nat_lt r.key n && r.timestamp == 0) (first_records n) ≡ true
unfolding first_records
first_keys zero = refl
first_keys (suc n) =
    all_both (λ r. nat_lt r.key (suc n) && r.timestamp == 0) (first_records n) (record_of n 0 0 ∷ [])
    (all_from (λ r. nat_lt r.key n && r.timestamp == 0) (λ r. nat_lt r.key (suc n) && r.timestamp == 0) (λ r h. grind (arith, nat_tests)) (first_records n) (first_keys n))
    (grind (arith, nat_tests))

pub first_sound : (last : ℕ) → list_all (sound_record last) (first_records key_count) ≡ true
first_sound last = all_from (λ r. nat_lt r.key key_count && r.timestamp == 0) (sound_record last) (λ r h. grind (arith, nat_tests)) (first_records key_count) (first_keys key_count)

ahead_of_next : (n : ℕ) (rs : List Record) → list_all (λ r. nat_lt r.key n && r.timestamp == 0) rs ≡ true → Ahead rs (record_of n 0 0 ∷ [])
ahead_of_next n [] a = tt
ahead_of_next n (r ∷ rs) a =
    let parts = and_parts (nat_lt r.key n && r.timestamp == 0) (list_all (λ q. nat_lt q.key n && q.timestamp == 0) rs) a in
    (grind (arith, nat_tests, parts.0), ahead_of_next n rs parts.1)

pub first_order : (n : ℕ) → in_order (first_records n) ≡ true
unfolding first_records
first_order zero = refl
first_order (suc n) = order_both (first_records n) (record_of n 0 0 ∷ []) (first_order n) refl (ahead_of_next n (first_records n) (first_keys n))

pub first_length : (n : ℕ) → length (first_records n) ≡ n
unfolding first_records
first_length zero = refl
first_length (suc n) = omega (arith, length_push (first_records n) (record_of n 0 0), first_length n)

first_versions : (n k : ℕ) → of_key k (first_records n) ≡ (if nat_lt k n then version_of 0 0 ∷ [] else [])
unfolding first_records
first_versions zero k = sym (cond-false (nat_lt k 0) _ _ (grind (arith, nat_tests)))
first_versions (suc n) k =
    of_key_append k (first_records n) (record_of n 0 0 ∷ [])
    ∙ ap (λ vs. vs ++ of_key k (record_of n 0 0 ∷ [])) (first_versions n k)
    ∙ ⊎_elim
    (λ is.
    let lower : nat_lt k n ≡ false = grind (arith, nat_tests) in
    let upper : nat_lt k (suc n) ≡ true = grind (arith, nat_tests) in
    ap (λ b. (if b then version_of 0 0 ∷ [] else []) ++ of_key k (record_of n 0 0 ∷ [])) lower
    ∙ cons_yes k (record_of n 0 0) [] is
    ∙ sym (cond-true (nat_lt k (suc n)) _ _ upper))
    (λ other.
    let same : nat_lt k n ≡ nat_lt k (suc n) = grind (arith, nat_tests) in
    ap (λ vs. (if nat_lt k n then version_of 0 0 ∷ [] else []) ++ vs) (cons_no k (record_of n 0 0) [] other)
    ∙ append-nil _
    ∙ ap (λ b. if b then version_of 0 0 ∷ [] else []) same)
    (cases_Bool (n == k))

pub first_kept : (k : ℕ) → of_key k (first_records key_count) ≡ (if is_key k then version_of 0 0 ∷ [] else [])
first_kept k = first_versions key_count k

pub first_none : first_records 0 ≡ []
unfolding first_records
first_none = refl

pub first_more : (n : ℕ) → first_records (n + 1) ≡ first_records n ++ record_of n 0 0 ∷ []
unfolding first_records
first_more n = ap first_records (add-one n)
