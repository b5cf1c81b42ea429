-- Versions of which the first are not later than a time and the others are: which one is the newest up to it, and how many are
-- outdated.
use Rattle.std.proofs.Common.{◌≡◌, ℕ, suc, ◌+◌, ◌-◌, ◌<◌, ◌≤◌, Bool, true, false, if◌then◌else◌, ◌||◌, nat_le, List, [], ◌∷◌, ◌++◌, map, length, get_or, take, drop, Some, None, filter, Option, sym, refl, ap, ◌∙◌, subst, arith}
use Rattle.std.specs.List.{All, last_or}
use Rattle.std.specs.Option.{option_map, option_or}
use Rattle.std.proofs.lemmas.Bool.{cond-true, cond-false, le-leb, lt-leb}
use Rattle.std.proofs.lemmas.List.{take-append-drop, take-take, length-drop, length-take-le, get_or-take, get_or-drop}
use Rattle.std.proofs.lemmas.List.Elements.{All-filter, All-from_get_or, All-map}
use Rattle.snapshot.specs.Limits.{is_key}
use Rattle.snapshot.specs.declared.account.Reading.{Reading}
use Rattle.store.specs.Meaning.{reading_of, end_before, newest_at, some_up_to, outdated}
use Rattle.store.specs.declared.version.Version.{Version}
use Rattle.records.proofs.Keys.{of_key_append}
use Rattle.records.specs.PerKeys.{number_for, per_key}
use Rattle.records.specs.Records.{has_key, no_record, of_key, record_version}
use Rattle.records.specs.declared.per_key.PerKey.{PerKey}
use Rattle.records.specs.declared.record.Record.{Record}

rest_of : {X : Type 0} (P : X → Type 0) (x : X) (xs : List X) → All P (x ∷ xs) → All P xs
rest_of P x xs all i d lt = all (suc i) d (omega arith)

-- The newest one.

end_both : (vs ws : List Version) (last : ℕ) → end_before (vs ++ ws) last ≡ end_before vs (end_before ws last)
end_both [] ws last = refl
end_both (v ∷ vs) ws last = refl

module _ (time : ℕ) where
  abbrev Early : Version → Type 0
  Early v = v.timestamp ≤ time

  abbrev Late : Version → Type 0
  Late v = time < v.timestamp

  newest_late : (last : ℕ) (ws : List Version) → All Late ws → newest_at time last ws ≡ None
  newest_late last [] late = refl
  newest_late last (w ∷ ws) late =
      ap (λ o. option_or o (if nat_le w.timestamp time then Some (reading_of w (end_before ws last)) else None)) (newest_late last ws (rest_of Late w ws late))
      ∙ cond-false (nat_le w.timestamp time) _ _ (lt-leb w.timestamp time (late 0 w (omega arith)))

  -- later ones say only up to when it is current
  newest_both : (last : ℕ) (vs ws : List Version) → All Late ws → newest_at time last (vs ++ ws) ≡ newest_at time (end_before ws last) vs
  newest_both last [] ws late = newest_late last ws late
  newest_both last (v ∷ vs) ws late =
      ap (λ e. option_or (newest_at time last (vs ++ ws)) (if nat_le v.timestamp time then Some (reading_of v e) else None)) (end_both vs ws last)
      ∙ ap (λ o. option_or o (if nat_le v.timestamp time then Some (reading_of v (end_before vs (end_before ws last))) else None)) (newest_both last vs ws late)

  some_last : {X Y : Type 0} (f : X → Y) (x : X) (xs : List X) (o : Option Y) → option_or (option_map f (last_or (Some x) xs)) o ≡ option_map f (last_or (Some x) xs)
  some_last f x [] o = refl
  some_last f x (y ∷ xs) o = some_last f y xs o

  abbrev reading : ℕ → Record → Reading
  reading p r = reading_of (record_version r) p

  -- of records that are none of them later, the last one
  newest_after : (p : ℕ) (r : Record) (rs : List Record) → All (λ q. q.timestamp ≤ time) (r ∷ rs) → newest_at time p (map record_version (r ∷ rs)) ≡ option_map (reading p) (last_or (Some r) rs)
  newest_after p r [] early = cond-true (nat_le r.timestamp time) _ _ (le-leb r.timestamp time (early 0 r (omega arith)))
  newest_after p r (q ∷ rs) early =
      ap (λ o. option_or o (if nat_le r.timestamp time then Some (reading_of (record_version r) (end_before (map record_version (q ∷ rs)) p)) else None)) (newest_after p q rs (rest_of (λ q. q.timestamp ≤ time) r (q ∷ rs) early))
      ∙ some_last (reading p) q rs (if nat_le r.timestamp time then Some (reading_of (record_version r) (end_before (map record_version (q ∷ rs)) p)) else None)

  newest_of : (p : ℕ) (rs : List Record) → All (λ q. q.timestamp ≤ time) rs → newest_at time p (map record_version rs) ≡ option_map (reading p) (last_or None rs)
  newest_of p [] early = refl
  newest_of p (r ∷ rs) early = newest_after p r rs early

  -- How many are outdated.

  none_up_to : (ws : List Version) → All Late ws → some_up_to time ws ≡ false
  none_up_to [] late = refl
  none_up_to (w ∷ ws) late =
      ap (λ b. b || some_up_to time ws) (lt-leb w.timestamp time (late 0 w (omega arith))) ∙ none_up_to ws (rest_of Late w ws late)

  outdated_late : (ws : List Version) → All Late ws → outdated time ws ≡ 0
  outdated_late [] late = refl
  outdated_late (w ∷ ws) late = cond-false (some_up_to time ws) _ _ (none_up_to ws (rest_of Late w ws late))

  -- all that are not later but the last
  outdated_both : (vs ws : List Version) → All Early vs → All Late ws → outdated time (vs ++ ws) ≡ length vs - 1
  outdated_both [] ws early late = outdated_late ws late
  outdated_both (v ∷ []) ws early late = cond-false (some_up_to time ws) _ _ (none_up_to ws late)
  outdated_both (v ∷ u ∷ vs) ws early late =
      let some : some_up_to time (u ∷ vs ++ ws) ≡ true = ap (λ b. b || some_up_to time (vs ++ ws)) (le-leb u.timestamp time (early 1 u (omega arith))) in
      let rest = outdated_both (u ∷ vs) ws (rest_of Early v (u ∷ vs) early) late in
      cond-true (some_up_to time (u ∷ vs ++ ws)) (suc (outdated time (u ∷ vs ++ ws))) 0 some ∙ omega (arith, rest)

one_less_of : (here : Bool) (n : ℕ) → (if here then n else 0) - 1 ≡ (if here then n - 1 else 0)
one_less_of true n = refl
one_less_of false n = refl

-- Of the first `kept` of xs the first `end` are not later than the time, and the others are.
module _
    (xs : List Record) (end kept time : ℕ) (order : end ≤ kept) (within : kept ≤ length xs)
    (before : (i : ℕ) → i < end → (get_or xs i no_record).timestamp ≤ time)
    (after : (i : ℕ) → end ≤ i → i < kept → time < (get_or xs i no_record).timestamp) where
  early : All (λ r. r.timestamp ≤ time) (take end xs)
  early =
      All-from_get_or (λ r. r.timestamp ≤ time) (take end xs) no_record
      (λ i lt.
      let low : i < end = omega (arith, lt, length-take-le end xs (omega (arith, order, within))) in
      subst (λ r. r.timestamp ≤ time) (sym (get_or-take end xs i no_record low)) (before i low))

  late : All (λ r. time < r.timestamp) (drop end (take kept xs))
  late =
      All-from_get_or (λ r. time < r.timestamp) (drop end (take kept xs)) no_record
      (λ i lt.
      let high : end + i < kept = omega (arith, lt, length-drop end (take kept xs), length-take-le kept xs within) in
      subst (λ r. time < r.timestamp) (sym (get_or-drop end (take kept xs) i no_record ∙ get_or-take kept xs (end + i) no_record high)) (after (end + i) (omega arith) high))

  module _ (k : ℕ) where
    abbrev earlier : List Version
    earlier = of_key k (take end xs)

    abbrev later : List Version
    later = of_key k (drop end (take kept xs))

    both : of_key k (take kept xs) ≡ earlier ++ later
    both =
        ap (of_key k) (sym (take-append-drop end (take kept xs)) ∙ ap (λ ys. ys ++ drop end (take kept xs)) (take-take end kept xs order))
        ∙ of_key_append k (take end xs) (drop end (take kept xs))

    all_early : All (Early time) earlier
    all_early = All-map (Early time) record_version (filter (has_key k) (take end xs)) (All-filter (has_key k) (λ r. r.timestamp ≤ time) (take end xs) early)

    all_late : All (Late time) later
    all_late = All-map (Late time) record_version (filter (has_key k) (drop end (take kept xs))) (All-filter (has_key k) (λ r. time < r.timestamp) (drop end (take kept xs)) late)

    -- the newest version is that of the last record of the key among the first `end`, current until the first one after them
    pub newest_is : (last p : ℕ) (o : Option Record) → p ≡ end_before later last → o ≡ last_or None (filter (has_key k) (take end xs)) → option_map (reading time p) o ≡ newest_at time last (of_key k (take kept xs))
    newest_is last p o until is =
        ap (option_map (reading time p)) is
        ∙ sym (newest_of time p (filter (has_key k) (take end xs)) (All-filter (has_key k) (λ r. r.timestamp ≤ time) (take end xs) early))
        ∙ ap (λ e. newest_at time e earlier) until
        ∙ sym (newest_both time last earlier later all_late)
        ∙ ap (newest_at time last) (sym both)

    -- all of the first `end` but the last are outdated
    pub outdated_is : outdated time (of_key k (take kept xs)) ≡ length (of_key k (take end xs)) - 1
    outdated_is = ap (outdated time) both ∙ outdated_both time earlier later all_early all_late

  -- so each key drops what is outdated where it drops all but the last of its versions among the first `end`
  module _
      (counts numbers : PerKey)
      (counted : (k : ℕ) → number_for counts k ≡ per_key (λ j. length (of_key j (take end xs))) k)
      (fewer : (k : ℕ) → number_for numbers k ≡ number_for counts k - 1) where
    pub outdated_numbers : (k : ℕ) → number_for numbers k ≡ per_key (λ j. outdated time (of_key j (take kept xs))) k
    outdated_numbers k =
        fewer k
        ∙ ap (λ n. n - 1) (counted k)
        ∙ one_less_of (is_key k) (length (of_key k (take end xs)))
        ∙ ap (λ n. if is_key k then n else 0) (sym (outdated_is k))
