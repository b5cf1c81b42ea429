-- What a new store, a commit and a prune leave of the records that a store of records lists: they are sound, and mean what the
-- rules say.
use Rattle.std.proofs.Common.{◌≡◌, ℕ, zero, suc, ◌+◌, ◌-◌, ◌<◌, ◌≤◌, Bool, true, false, if◌then◌else◌, nat_lt, nat_le, List, [], ◌∷◌, ◌++◌, map, length, take, drop, Some, None, Option, sym, refl, ap, ◌∙◌, subst, arith}
use Rattle.std.specs.Option.{option_or}
use Rattle.std.specs.List.{list_all}
use Rattle.std.proofs.lemmas.Bool.{both_ways, and_parts, and_from, cond_both, cond-true, cond-false, le-leb, lt-leb, ltb-true}
use Rattle.std.proofs.lemmas.Bool.Decides.{nat_tests}
use Rattle.std.proofs.lemmas.List.{length-append, length-map}
use Rattle.snapshot.specs.Limits.{is_key, key_count}
use Rattle.snapshot.specs.declared.account.Write.{Write}
use Rattle.store.proofs.Writes.{fit_rises, fit_some}
use Rattle.store.specs.Meaning.{Meaning, fit_writes, version_of, new_store, newest_at, pruned_at, reading_of, written_to, with_writes, versions_kept, outdated}
use Rattle.store.specs.declared.version.Version.{Version}
use Rattle.records.proofs.Dropping.{same_function}
use Rattle.records.proofs.Layouts.{all_from, all_left, commit_order, commit_sound, first_kept, first_length, first_order, first_sound, of_key_commit, of_key_prune, order_left, versions_together}
use Rattle.records.proofs.Remaining.{excess_within, left_length, outdated_within}
use Rattle.records.proofs.Totals.{none_total, number_within}
use Rattle.records.specs.Layouts.{are_sound, capacity_for, in_order, record_depth, records_meaning, room_for, sound_record}
use Rattle.records.specs.PerKeys.{number_for, per_key, total_of}
use Rattle.records.proofs.Changes.{after_writes, excess}
use Rattle.records.specs.Records.{drop_firsts, first_records, of_key, written}
use Rattle.records.specs.declared.per_key.PerKey.{PerKey}
use Rattle.records.specs.declared.record.Record.{Record}
use Rattle.record_store.proofs.Excesses.{dropped, excess_is, of_keys}
use Rattle.records.specs.Counts.{CountsOf, excess_for}

keyed : (last : ℕ) (rs : List Record) → list_all (sound_record last) rs ≡ true → list_all (λ r. is_key r.key) rs ≡ true
keyed last rs s = all_from (sound_record last) (λ r. is_key r.key) (λ r h. (and_parts (is_key r.key) (nat_le r.timestamp last) h).0) rs s

-- the parts of soundness in fit memory
pub sound_records : (rs : List Record) (last : ℕ) → are_sound true rs last ≡ true → list_all (sound_record last) rs ≡ true
sound_records rs last s = (and_parts (list_all (sound_record last) rs) (in_order rs) s).0

pub ordered : (rs : List Record) (last : ℕ) → are_sound true rs last ≡ true → in_order rs ≡ true
ordered rs last s = (and_parts (list_all (sound_record last) rs) (in_order rs) s).1

pub keys_in : (rs : List Record) (last : ℕ) → are_sound true rs last ≡ true → list_all (λ r. is_key r.key) rs ≡ true
keys_in rs last s = keyed last rs (sound_records rs last s)

-- records that mean these versions of each key
meaning_at : (size last : ℕ) (rs : List Record) (kept : ℕ → List Version) → ((k : ℕ) → of_key k rs ≡ kept k) → records_meaning true size rs last ≡ record { last = last; capacity = size; kept = kept }
meaning_at size last rs kept each i = record { last = last; capacity = size; kept = λ k. each k i }

-- A new store.

pub first_are_sound : (fit : Bool) (rs : List Record) (last : ℕ) → (fit ≡ true → rs ≡ first_records key_count) → are_sound fit rs last ≡ true
first_are_sound true rs last is =
    subst (λ xs. are_sound true xs last ≡ true) (sym (is refl))
    (and_from (list_all (sound_record last) (first_records key_count)) (in_order (first_records key_count)) (first_sound last) (first_order key_count))
first_are_sound false rs last is =
    and_from (list_all (sound_record last) (first_records key_count)) (in_order (first_records key_count)) (first_sound last) (first_order key_count)

first_versions : (size : ℕ) → records_meaning true size (first_records key_count) 0 ≡ new_store size
first_versions size = meaning_at size 0 (first_records key_count) (new_store size).kept first_kept

pub first_meaning : (fit : Bool) (size : ℕ) (rs : List Record) → (fit ≡ true → rs ≡ first_records key_count) → records_meaning fit size rs 0 ≡ new_store (capacity_for fit size)
first_meaning true size rs is = ap (λ xs. records_meaning true size xs 0) (is refl) ∙ first_versions size
first_meaning false size rs is = first_versions key_count

-- over unfit memory every key has its first version
pub unfit_newest : (size : ℕ) (rs : List Record) (last k s : ℕ) → is_key k ≡ true → Some (reading_of (version_of 0 0) last) ≡ newest_at s last ((records_meaning false size rs last).kept k)
unfit_newest size rs last k s key =
    let vs = first_kept k ∙ cond-true (is_key k) (version_of 0 0 ∷ []) [] key in
    sym
    (ap (newest_at s last) vs
    ∙ ap (λ c. option_or None (if c then Some (reading_of (version_of 0 0) last) else None)) (le-leb 0 s (omega arith)))

-- A commit.

no_excess : (o : Option ℕ) (vs : List Version) → length vs ≤ 1 → excess record_depth o vs ≡ 0
no_excess None vs few = refl
no_excess (Some x) vs few = omega arith

-- where none is dropped, all stay
pub all_stay : (e : ℕ → ℕ) (rs : List Record) → ((k : ℕ) → e k ≡ 0) → rs ≡ drop_firsts e rs
all_stay e [] none = refl
all_stay e (r ∷ rs) none =
    ap (λ xs. r ∷ xs) (all_stay e rs none) ∙ sym (cond-false (nat_lt 0 (e r.key)) _ _ (grind (arith, nat_tests, none r.key)))

-- the keys of a new store drop nothing when they are written
first_excess : (ws : List Write) (k : ℕ) → per_key (λ j. excess record_depth (written_to j ws) (of_key j (first_records key_count))) k ≡ 0
first_excess ws k =
    let one : length (of_key k (first_records key_count)) ≤ 1 =
    omega (arith, ap length (first_kept k), cond_both (is_key k) (version_of 0 0 ∷ []) [] (λ vs. length vs ≤ 1) (λ _. omega arith) (λ _. omega arith)) in
    cond_both (is_key k) _ 0 (λ x. x ≡ 0) (λ _. no_excess (written_to k ws) (of_key k (first_records key_count)) one) (λ _. refl)

-- what each key drops for these writes, of these records
abbrev pub dropping : List Write → List Record → ℕ → ℕ
dropping ws rs k = per_key (λ j. excess record_depth (written_to j ws) (of_key j rs)) k

drops : (ws : List Write) (rs : List Record) (last : ℕ) → are_sound true rs last ≡ true → length (drop_firsts (dropping ws rs) rs) + total_of (dropping ws rs) ≡ length rs
drops ws rs last sound =
    left_length (dropping ws rs) rs (keys_in rs last sound)
    (excess_within record_depth ws rs)

-- as many versions as records, in memory that is fit
module _ (t : ℕ) (ws : List Write) (fit_ws : fit_writes ws ≡ true) (rs : List Record) (size last : ℕ) (later : last < t) (sound : are_sound true rs last ≡ true) where
  abbrev m : Meaning
  m = records_meaning true size rs last

  pub after_sound : are_sound true (after_writes record_depth t ws rs) t ≡ true
  after_sound =
      and_from (list_all (sound_record t) (after_writes record_depth t ws rs)) (in_order (after_writes record_depth t ws rs))
      (commit_sound record_depth last t ws rs later (fit_rises ws fit_ws) (sound_records rs last sound))
      (commit_order record_depth last t ws rs later (fit_rises ws fit_ws) (sound_records rs last sound) (ordered rs last sound))

  pub after_meaning : records_meaning true size (after_writes record_depth t ws rs) t ≡ with_writes record_depth t ws m
  after_meaning =
      meaning_at size t (after_writes record_depth t ws rs) (with_writes record_depth t ws m).kept (of_key_commit record_depth t ws rs (omega arith) (fit_rises ws fit_ws))

  after_length : length (after_writes record_depth t ws rs) ≡ length (drop_firsts (dropping ws rs) rs) + length ws
  after_length =
      length-append (drop_firsts (dropping ws rs) rs) (map (written t) ws)
      ∙ ap (λ n. length (drop_firsts (dropping ws rs) rs) + n) (length-map ws (written t))

  versions_after : versions_kept (with_writes record_depth t ws m) ≡ length (after_writes record_depth t ws rs)
  versions_after =
      ap versions_kept (sym after_meaning)
      ∙ versions_together (after_writes record_depth t ws rs) (keys_in (after_writes record_depth t ws rs) t after_sound)

  pub fit_room : versions_kept (with_writes record_depth t ws m) ≡ length rs - total_of (dropping ws rs) + length ws
  fit_room = omega (arith, versions_after, after_length, drops ws rs last sound)

-- over unfit memory there is no room for a write: a new store has 64 versions already
pub unfit_full : (t : ℕ) (ws : List Write) (fit_ws : fit_writes ws ≡ true) (size : ℕ) (rs : List Record) (last : ℕ) → last < t → key_count < versions_kept (with_writes record_depth t ws (records_meaning false size rs last))
unfit_full t ws fit_ws size rs last later =
    let first = first_records key_count in
    let sound = first_are_sound true first last (λ _. refl) in
    let none = none_total key_count (dropping ws first) (first_excess ws) in
    omega (arith, fit_room t ws fit_ws first size last later sound, none, first_length key_count, fit_some ws fit_ws)

-- what goes of each key for a commit, by the numbers of versions
pub goes : (p : PerKey) (rs : List Record) (ws : List Write) → CountsOf p rs → (λ k. excess_for record_depth (written_to k ws) (number_for p k)) ≡ per_key (λ j. excess record_depth (written_to j ws) (of_key j rs))
goes p rs ws counted = same_function (λ k. sym (excess_is record_depth ws p rs counted k))

-- A prune.

module _ (h size last : ℕ) (rs : List Record) (sound : are_sound true rs last ≡ true) where
  abbrev outdates : ℕ → ℕ
  outdates k = per_key (λ j. outdated h (of_key j rs)) k

  pub pruned_sound : (e : ℕ → ℕ) → are_sound true (drop_firsts e rs) last ≡ true
  pruned_sound e =
      and_from (list_all (sound_record last) (drop_firsts e rs)) (in_order (drop_firsts e rs))
      (all_left (sound_record last) e rs (sound_records rs last sound))
      (order_left e rs (ordered rs last sound))

  pub pruned_meaning : (e : ℕ → ℕ) → ((k : ℕ) → e k ≡ outdates k) → records_meaning true size (drop_firsts e rs) last ≡ pruned_at h (records_meaning true size rs last)
  pruned_meaning e is =
      meaning_at size last (drop_firsts e rs) (pruned_at h (records_meaning true size rs last)).kept
      (λ k. ap (λ f. of_key k (drop_firsts f rs)) (same_function is) ∙ of_key_prune h rs (keys_in rs last sound) k)

  -- no more than there are
  pub outdated_total : (e : ℕ → ℕ) → ((k : ℕ) → e k ≡ outdates k) → total_of e ≤ length rs
  outdated_total e is =
      omega (arith, ap total_of (same_function is), left_length outdates rs (keys_in rs last sound) (outdated_within h rs))

-- over unfit memory a prune finds nothing to drop
pub unfit_pruned : (h size last : ℕ) (rs : List Record) → records_meaning false size rs last ≡ pruned_at h (records_meaning false size rs last)
unfit_pruned h size last rs i =
    let P : List Version → Type 0 = λ xs. xs ≡ drop (outdated h xs) xs in
    let each : (k : ℕ) → P (of_key k (first_records key_count)) = λ k.
    subst P (sym (first_kept k)) (cond_both (is_key k) (version_of 0 0 ∷ []) [] P (λ _. refl) (λ _. refl)) in
    record { last = last; capacity = key_count; kept = λ k. each k i }

-- The same records in memory that is as fit and as large.

pub sound_as : (fit fit' : Bool) (rs rs' : List Record) (last : ℕ) → fit' ≡ fit → rs' ≡ rs → are_sound fit rs last ≡ true → are_sound fit' rs' last ≡ true
sound_as fit fit' rs rs' last same is sound = ap (λ b. are_sound b rs' last) same ∙ ap (λ xs. are_sound fit xs last) is ∙ sound

pub meaning_as : (fit fit' : Bool) (size size' : ℕ) (rs rs' : List Record) (last : ℕ) → fit' ≡ fit → size' ≡ size → rs' ≡ rs → records_meaning fit' size' rs' last ≡ records_meaning fit size rs last
meaning_as fit fit' size size' rs rs' last same long is =
    ap (λ b. records_meaning b size' rs' last) same ∙ ap (λ n. records_meaning fit n rs' last) long ∙ ap (λ xs. records_meaning fit size xs last) is

pub room_as : (fit fit' : Bool) (size size' : ℕ) → fit' ≡ fit → size' ≡ size → room_for fit' size' ≡ room_for fit size
room_as fit fit' size size' same long = ap (λ b. room_for b size') same ∙ ap (room_for fit) long

-- memory in which there is room for something is fit
pub fit_where_room : (fit : Bool) (size : ℕ) → 0 < room_for fit size → fit ≡ true
fit_where_room true size some = refl
fit_where_room false size some = absurd (omega (arith, some))

-- where none goes of all keys together, none goes of any
pub none_goes : (p : PerKey) (ws : List Write) → total_of (λ k. excess_for record_depth (written_to k ws) (number_for p k)) ≡ 0 → (k : ℕ) → excess_for record_depth (written_to k ws) (number_for p k) ≡ 0
none_goes p ws none k =
    let all = dropped record_depth ws p in
    sym (of_keys record_depth ws p k)
    ∙ cond_both (is_key k) (all k) 0 (λ n. n ≡ 0) (λ key. omega (arith, number_within key_count all k (ltb-true k key_count key), none)) (λ _. refl)

-- What is left where the keys of writes have made room for them.
module _
    (p : PerKey) (ws : List Write) (rs : List Record) (counted : CountsOf p rs) (rest : List Record)
    (left : rest ≡ drop_firsts (λ k. excess_for record_depth (written_to k ws) (number_for p k)) rs)
  where
    is_left : rest ≡ drop_firsts (dropping ws rs) rs
    is_left = left ∙ ap (λ f. drop_firsts f rs) (goes p rs ws counted)

    pub left_over : (excess last : ℕ) → excess ≡ total_of (λ k. excess_for record_depth (written_to k ws) (number_for p k)) → are_sound true rs last ≡ true → length rest + excess ≡ length rs
    left_over excess last is sound = omega (arith, ap length is_left, is ∙ ap total_of (goes p rs ws counted), drops ws rs last sound)

    pub is_after : (t : ℕ) (all : List Record) → all ≡ rest ++ map (written t) ws → all ≡ after_writes record_depth t ws rs
    is_after t all added = added ∙ ap (λ xs. xs ++ map (written t) ws) is_left

-- Whether there is room for an update, by how many records there are and how many go.
pub room_decides :
    (fit : Bool) (size : ℕ) (p : PerKey) (rs : List Record) (last t : ℕ) (ws : List Write) → fit_writes ws ≡ true → last < t → are_sound fit rs last ≡ true → CountsOf p rs →
    (excess : ℕ) → excess ≡ total_of (λ k. excess_for record_depth (written_to k ws) (number_for p k)) →
    nat_le (versions_kept (with_writes record_depth t ws (records_meaning fit size rs last))) (capacity_for fit size) ≡ nat_le (length ws + (length rs - excess)) (room_for fit size)
room_decides true size p rs last t ws fit_ws later sound counted excess is =
    let all = fit_room t ws fit_ws rs size last later sound in
    let same : versions_kept (with_writes record_depth t ws (records_meaning true size rs last)) ≡ length ws + (length rs - excess) =
    omega (arith, all, is ∙ ap total_of (goes p rs ws counted)) in
    ap (λ n. nat_le n size) same
room_decides false size p rs last t ws fit_ws later sound counted excess is =
    lt-leb _ key_count (unfit_full t ws fit_ws size rs last later) ∙ sym (lt-leb (length ws + (length rs - excess)) 0 (omega (arith, fit_some ws fit_ws)))

-- and no more go than there are
pub no_more_go : (fit : Bool) (p : PerKey) (rs : List Record) (last : ℕ) (ws : List Write) → are_sound fit rs last ≡ true → (fit ≡ false → rs ≡ []) → CountsOf p rs → total_of (λ k. excess_for record_depth (written_to k ws) (number_for p k)) ≤ length rs
no_more_go true p rs last ws sound unfit counted = omega (arith, drops ws rs last sound, ap total_of (goes p rs ws counted))
no_more_go false p rs last ws sound unfit counted =
    let none : (k : ℕ) → dropping ws rs k ≡ 0 = λ k.
    subst (λ xs. dropping ws xs k ≡ 0) (sym (unfit refl)) (cond_both (is_key k) (excess record_depth (written_to k ws) []) 0 (λ n. n ≡ 0) (λ _. no_excess (written_to k ws) [] (omega arith)) (λ _. refl)) in
    omega (arith, ap total_of (goes p rs ws counted), none_total key_count (dropping ws rs) none)

-- in unfit memory nothing is kept
pub nothing_unfit : (fit : Bool) (size n : ℕ) (rs : List Record) → n ≤ room_for fit size → fit ≡ false → take n rs ≡ []
nothing_unfit true size n rs within unfit = absurd (both_ways true unfit refl)
nothing_unfit false size zero rs within unfit = refl
nothing_unfit false size (suc n) rs within unfit = absurd (omega (arith, within))
