-- A commit keeps the invariant of a trace, and its account is confirmed: what the law says of it, but for the times of the
-- reads, each of which is backed by a true reading that covers the account's interval.
use Rattle.std.proofs.Common.{◌≡◌, ℕ, zero, suc, ◌<◌, ◌≤◌, min, max, Bool, true, not, ◌||◌, ◌==◌, nat_lt, List, [], ◌∷◌, ◌++◌, map, length, IfSome, Some, None, Ok, fold, Option, sym, refl, ap, ◌∙◌, subst, ⊎_elim, arith}
use mathlib.Core.Path.{fun_ext}
use Rattle.std.specs.List.{AllByRecursion, list_all}
use Rattle.std.proofs.ByRecursion.{all-has, All-map, All-weaker}
use Rattle.std.proofs.lemmas.List.{append-nil, length-map}
use Rattle.std.proofs.lemmas.Simd.{map-map}
use Rattle.std.proofs.lemmas.Bool.{and_parts, and_from, cases_eq, eq-eqb, le-leb, lt-ltb, ltb-true}
use Rattle.std.proofs.lemmas.Bool.Decides.{nat_tests}
use Rattle.snapshot.specs.Accounts.{Account, sound_reading, greatest_timestamp, least_promise, rising_from, sound_timestamp, few_enough, agreed_ends, lawful}
use Rattle.snapshot.specs.Limits.{open_end, is_key}
use Rattle.snapshot.specs.Limits as limit
use Rattle.snapshot.specs.declared.account.ChainReading.{ChainReading}
use Rattle.snapshot.specs.declared.account.Write.{Write}
use Rattle.snapshot.specs.declared.interval.Interval.{Interval}
use Rattle.store.specs.Laws.{versions_of}
use Rattle.store.specs.Meaning.{Meaning, with_writes, written_to, commit_answer_by}
use Rattle.store.proofs.Standing.{accepted as commit_accepted, accepted_issued, commit_stands}
use Rattle.store.proofs.Versions.{before_from_up_to}
use Rattle.engine_model.specs.Engines.{OpenLeg, LegState, running, is_running, Chain, Engine, with_place}
use Rattle.engine_model.specs.Traces.{NewStore, ObservedChain, ValueRead, untimed, observed_readings}
use Rattle.engine_model.specs.Law.{without_times}
use Rattle.engine_model.specs.Notices.{notice_of}
use Rattle.engine_model.specs.RuleLaws.{LimitLaws, PartsWithLaws, rules_of}
use Rattle.engine_model.specs.Rules.{Rules}
use Rattle.engine_model.specs.Steps.{StepOutcome, refused, accepted, step, only_open, account_for, after_store_commit, handed_to_store}
use Rattle.engine_model.specs.declared.calls.Call.TheVariants as call
use Rattle.engine_model.specs.declared.limits.ChainLimits.{ChainLimits}
use Rattle.engine_model.specs.declared.records.LegReading.{LegReading}
use Rattle.engine_model.proofs.CallProofs.{After}
use Rattle.engine_model.proofs.Changes.{chain_at, free_sound}
use Rattle.engine_model.proofs.Legs.{open_below, leg_sound, chain_on}
use Rattle.engine_model.proofs.NoticeProofs.{all_raised_wait, written_each}
use Rattle.engine_model.proofs.Outcomes.{at_check, at_open_leg, at_result}
use Rattle.engine_model.proofs.Readings.{History, TrueReading, AllTrue, GoesOn, same_goes_on, true_on, commit_goes_on, commit_true}
use Rattle.engine_model.proofs.Sound.{LegSound, Covers, ReadingSound, Shown, OfLeg, as_read, ChainSound, Sound, Backed, Confirmed}
use Rattle.engine_model.proofs.Updates.{at_each}

-- what backs a value does so where the history goes on
pub backed_on :
    (h : History) (last : ℕ) (h' : History) (last' : ℕ) → GoesOn h last h' last' → (low high : ℕ) (x : ValueRead) →
    Backed h last low high x → Backed h' last' low high x
backed_on h last h' last' on low high x b =
    record {
      reading = b.reading;
      is_true = true_on h last h' last' on x.key b.reading b.is_true;
      same_value = b.same_value;
      from_low = b.from_low;
      to_high = b.to_high;
    }

-- and true readings stay true
pub true_readings_on :
    (h : History) (last : ℕ) (h' : History) (last' : ℕ) → GoesOn h last h' last' → (rs : List ChainReading) →
    AllByRecursion (λ r. TrueReading h last r.key r.reading) rs → AllByRecursion (λ r. TrueReading h' last' r.key r.reading) rs
true_readings_on h last h' last' on =
    All-weaker (λ r. TrueReading h last r.key r.reading) (λ r. TrueReading h' last' r.key r.reading) (λ r. true_on h last h' last' on r.key r.reading)

-- The only open leg.

running_is : (state : LegState) (leg : OpenLeg) → state ≡ running leg → is_running state ≡ true
running_is state leg e = ap is_running e

-- an open leg is the one that a commit names
only_one : (l : ℕ) (states : ℕ → LegState) (n j : ℕ) (leg : OpenLeg) → only_open l states n ≡ true → j < n → states j ≡ running leg → j ≡ l
only_one l states zero j leg only lt e = absurd (omega arith)
only_one l states (suc n) j leg only lt e =
    let both = and_parts (n == l || not (is_running (states n))) (only_open l states n) only in
    ⊎_elim
    (λ same.
    let runs : is_running (states n) ≡ true = ap (λ i. is_running (states i)) (sym same) ∙ running_is (states j) leg e in
    let here : n ≡ l = grind (arith, nat_tests, both.0) in
    omega arith)
    (λ apart. only_one l states n j leg both.1 (omega arith) e)
    (cases_eq j n)

-- Tests of every reading.

all_pass : {X : Type 0} (test : X → Bool) (xs : List X) → AllByRecursion (λ x. test x ≡ true) xs → list_all test xs ≡ true
all_pass test [] each = refl
all_pass test (x ∷ xs) each = and_from _ _ each.0 (all_pass test xs each.1)

greatest_below :
    (n a : ℕ) (rs : List ChainReading) → a ≤ n → AllByRecursion (λ r. r.reading.timestamp ≤ n) rs →
    fold (λ a r. max a r.reading.timestamp) a rs ≤ n
greatest_below n a [] le each = le
greatest_below n a (r ∷ rs) le each = greatest_below n (max a r.reading.timestamp) rs (omega (arith, each.0)) each.1

least_above :
    (n a : ℕ) (rs : List ChainReading) → n ≤ a → AllByRecursion (λ r. n ≤ r.reading.promise) rs →
    n ≤ fold (λ a r. min a r.reading.promise) a rs
least_above n a [] le each = le
least_above n a (r ∷ rs) le each = least_above n (min a r.reading.promise) rs (omega (arith, each.0)) each.1

-- Two functions that agree on each element.

map_where :
    {X Y : Type 0} (P : X → Type 0) (f g : X → Y) → ((x : X) → P x → f x ≡ g x) → (xs : List X) → AllByRecursion P xs → map f xs ≡ map g xs
map_where P f g same [] each = refl
map_where P f g same (x ∷ xs) each = ap (λ y. y ∷ map f xs) (same x each.0) ∙ ap (λ ys. g x ∷ ys) (map_where P f g same xs each.1)

-- The account of a chain by its only open leg.

module _
    (h : History) (last : ℕ) (limits : ChainLimits) (limit_laws : LimitLaws limits) (observed : ObservedChain) (chain : Chain) (sound : ChainSound h last limits observed chain)
    (l : ℕ) (leg : OpenLeg) (is_open : chain.legs l ≡ running leg) (only : only_open l chain.legs limit.leg_count ≡ true) (before_end : last < open_end)
  where
    of_leg : LegSound last limits chain.readings (observed.legs l) leg
    of_leg = leg_sound last limits observed chain sound.legs l leg is_open

    -- every reading covers the leg's interval
    abbrev Around : LegReading → Type 0
    Around r = (r.made.reading.timestamp ≤ leg.interval.low) × (leg.interval.high ≤ r.made.reading.promise)

    around : (r : LegReading) → Covers chain.legs r → Around r
    around r c =
        let lt : c.number < chain.opened = open_below last limits observed chain sound.legs c.number c.leg c.is_open in
        let here : c.number ≡ l = only_one l chain.legs limit.leg_count c.number c.leg only (omega (arith, sound.legs.few_legs)) c.is_open in
        let there : chain.legs l ≡ running c.leg = subst (λ i. chain.legs i ≡ running c.leg) here c.is_open in
        let same : c.leg ≡ leg = cc in
        (omega (arith, c.from_low, ap (λ x. x.interval.low) same), omega (arith, c.to_high, ap (λ x. x.interval.high) same))

    all_around : AllByRecursion Around chain.readings
    all_around = All-weaker (Covers chain.legs) Around around chain.readings sound.covered

    abbrev made : List ChainReading
    made = map (λ r. r.made) chain.readings

    ends : agreed_ends leg.interval.low leg.interval.high made ≡ true
    ends =
        let each_below = All-map (λ r. r.reading.timestamp ≤ leg.interval.low) (λ (r : LegReading). r.made) chain.readings
        (All-weaker Around (λ r. r.made.reading.timestamp ≤ leg.interval.low) (λ r a. a.0) chain.readings all_around) in
        let each_above = All-map (λ r. leg.interval.high ≤ r.reading.promise) (λ (r : LegReading). r.made) chain.readings
        (All-weaker Around (λ r. leg.interval.high ≤ r.made.reading.promise) (λ r a. a.1) chain.readings all_around) in
        let below = greatest_below leg.interval.low 0 made (omega arith) each_below in
        let above = least_above leg.interval.high open_end made of_leg.times.to_open_end each_above in
        let low : leg.interval.low ≡ greatest_timestamp made = omega (arith, of_leg.times.low_read) in
        let high : leg.interval.high ≡ least_promise made = omega (arith, of_leg.times.high_read) in
        and_from _ _ (and_from _ _ (eq-eqb _ _ low) (eq-eqb _ _ high)) (le-leb _ _ of_leg.times.some)

    sound_made : list_all sound_reading made ≡ true
    sound_made =
        all_pass sound_reading made (All-map (λ r. sound_reading r ≡ true) (λ (r : LegReading). r.made) chain.readings (All-weaker (ReadingSound h last) (λ r. sound_reading r.made ≡ true)
        (λ r s. and_from _ _ (and_from _ _ (and_from _ _ s.worker s.is_true.of_key) (le-leb _ _ s.is_true.reaches)) (lt-ltb _ _ (omega (arith, s.is_true.known))))
        chain.readings sound.readings))

    few : few_enough made leg.writes ≡ true
    few =
        let readings : length made ≤ limit.chain_readings = omega (arith, length-map chain.readings (λ r. r.made), sound.few_readings, limit_laws.readings) in
        let writes : length leg.writes ≤ limit.write_keys = omega (arith, of_leg.writes.few, limit_laws.writes) in
        and_from _ _ (le-leb _ _ readings) (le-leb _ _ writes)

    -- the book takes it, if its timestamp is sound
    for_the_book_lem : (t : ℕ) → sound_timestamp t made leg.writes ≡ true → lawful (account_for chain leg t) ≡ true
    for_the_book_lem t time = and_from _ _ (and_from _ _ (and_from _ _ (and_from _ _ few sound_made) of_leg.writes.rising) ends) time

    -- no promise is above last
    promises_known : AllByRecursion (λ r. r.reading.promise ≤ last) made
    promises_known = All-map (λ r. r.reading.promise ≤ last) (λ (r : LegReading). r.made) chain.readings (All-weaker (ReadingSound h last) (λ r. r.made.reading.promise ≤ last) (λ r s. s.is_true.known) chain.readings sound.readings)

    -- its readings are those that the events show
    its_readings_lem : without_times made ≡ observed_readings observed
    its_readings_lem =
        map-map (λ r. untimed r.worker r.key r.reading.value) (λ (r : LegReading). r.made) chain.readings
        ∙ map_where (OfLeg chain.opened observed.legs) _ (λ (r : LegReading). untimed (observed.legs r.leg).worker r.made.key r.made.reading.value)
        (λ r o. ap (λ w. untimed w r.made.key r.made.reading.value) (sym o.same_worker)) chain.readings sound.of_legs
        ∙ sym (map-map (λ x. untimed (observed.legs x.leg).worker x.key x.value) as_read chain.readings)
        ∙ ap (map (λ x. untimed (observed.legs x.leg).worker x.key x.value)) sound.firsts

    -- and true
    true_readings_lem : AllByRecursion (λ r. TrueReading h last r.key r.reading) made
    true_readings_lem =
        All-map (λ r. TrueReading h last r.key r.reading) (λ (r : LegReading). r.made) chain.readings
        (All-weaker (ReadingSound h last) (λ r. TrueReading h last r.made.key r.made.reading) (λ r s. s.is_true) chain.readings sound.readings)

    -- every value that was answered outside the writes is backed
    backed : AllByRecursion (Backed h last leg.interval.low leg.interval.high) observed.outside
    backed =
        All-weaker (Shown chain.readings) (Backed h last leg.interval.low leg.interval.high) (λ x s.
        let r = s.reading in
        let true_r = (all-has (ReadingSound h last) chain.readings r sound.readings s.there).is_true in
        let wide = all-has Around chain.readings r all_around s.there in
        record {
          reading = r.made.reading;
          is_true = subst (λ k. TrueReading h last k r.made.reading) s.same_key true_r;
          same_value = s.same_value;
          from_low = wide.0;
          to_high = wide.1;
        }) observed.outside sound.shown

-- What comes of a commit.

cases_on : {X : Type 0} (P Q : X → Type 0) → ((x : X) → P x → Q x) → (o : Option X) → IfSome o P → IfSome o Q
cases_on P Q on None h = tt
cases_on P Q on (Some x) h = on x h

-- what is so of an accepted answer and of the engine after it
abbrev pub IfAccepted : {X : Type 0} → (X → Engine → Type 0) → StepOutcome X → Type 0
IfAccepted P (refused f) = Unit {0}
IfAccepted P (accepted x s) = P x s

module _
    (parts : PartsWithLaws)
    (store : NewStore) (h : History) (observed : ℕ → ObservedChain) (m : Meaning) (s : Engine) (sound : Sound store parts.limits h observed m s)
  where
    abbrev rules : Rules
    rules = rules_of parts

    abbrev limits : ChainLimits
    limits = parts.limits

    abbrev limit_laws : LimitLaws limits
    limit_laws = parts.limit_laws

    abbrev depth : ℕ
    depth = store.depth

    -- the history after a commit of these writes at t
    abbrev with_commit : ℕ → List Write → History
    with_commit t ws = λ k. h k ++ versions_of (Some t) (written_to k ws)

    -- the engine after its store took writes
    store_commit_sound :
        (clock t : ℕ) (ws : List Write) (p : ℕ) → rising_from 0 ws ≡ true → commit_answer_by parts.timestamps depth clock ws s.store ≡ Ok t →
        Sound store limits (with_commit t ws) observed (with_writes depth t ws m) (with_place p None (after_store_commit rules depth ws t s))
    store_commit_sound clock t ws p rising answer =
        let a = commit_accepted parts.timestamps parts.timestamp_laws depth clock ws s.store t answer in
        let last = s.store.last in
        let h' : History = with_commit t ws in
        let on = commit_goes_on h last t ws a.after_last in
        let noticed : AllByRecursion (λ w. (worker : ℕ) → TrueReading h' t w.key (notice_of t w worker).reading) ws =
        All-weaker (λ w. (is_key w.key ≡ true) × (written_to w.key ws ≡ Some w.value)) (λ w. (worker : ℕ) → TrueReading h' t w.key (notice_of t w worker).reading)
        (λ w has worker. commit_true h last t w.value w.key ws has.0 a.after_last (sound.stands.of_keys w.key has.0).up_to_last has.1)
        ws (written_each ws rising) in
        let others : (q : ℕ) → IfSome (s.places q) (ChainSound h' t limits (observed q)) = λ q.
        cases_on (ChainSound h last limits (observed q)) (ChainSound h' t limits (observed q)) (chain_on h last h' t on limits (observed q)) (s.places q) (sound.chains q) in
        let entries : (w : ℕ) → AllTrue h' t (s.caches w) = λ w.
        All-weaker (λ e. TrueReading h last e.key e.reading) (λ e. TrueReading h' t e.key e.reading)
        (λ e. true_on h last h' t on e.key e.reading) (s.caches w) (sound.caches w) in
        let waiting : AllByRecursion (λ n. TrueReading h' t n.key n.reading) s.notices.waiting =
        All-weaker (λ n. TrueReading h last n.key n.reading) (λ n. TrueReading h' t n.key n.reading)
        (λ n. true_on h last h' t on n.key n.reading) s.notices.waiting sound.notices in
        record {
          same_store = ap (with_writes depth t ws) sound.same_store;
          stands = commit_stands depth store.capacity s.store h sound.stands parts.timestamps parts.timestamp_laws clock ws t store.not_none answer;
          before_end = ltb-true t open_end (and_parts _ _ a.fits).1;
          caches = entries;
          notices = all_raised_wait (λ n. TrueReading h' t n.key n.reading) parts.caches.holds_key s.caches t ws s.notices noticed waiting;
          chains = at_each (λ q c. IfSome c (ChainSound h' t limits (observed q))) p None s.places tt others;
        }

    -- the account is confirmed, and the history goes on
    abbrev pub AccountStands : ℕ → ℕ → ℕ → Account → Engine → Type 0
    AccountStands p l clock a s' =
        Confirmed parts.timestamps (with_commit a.timestamp a.writes) s'.store.last h m.last (observed p) l clock a × GoesOn h s.store.last (with_commit a.timestamp a.writes) s'.store.last

    -- sound after it, with its account confirmed
    abbrev pub Committed : (p l clock r w : ℕ) → StepOutcome Account → Type 0
    Committed p l clock r w o =
        After limits store h observed m s (call.Commit p l clock r w) o × IfAccepted (AccountStands p l clock) o

    module _ (p l clock r w : ℕ) (chain : Chain) (before : ChainSound h s.store.last limits (observed p) chain) where
      -- by the writes of the only open leg
      by_writes :
          (worker : ℕ) (i : Interval) (ws : List Write) → chain.legs l ≡ running (record { worker = worker; interval = i; writes = ws }) → only_open l chain.legs limit.leg_count ≡ true →
          Committed p l clock r w (handed_to_store rules depth p l clock chain (record { worker = worker; interval = i; writes = ws }) ws s)
      by_writes worker i [] is_open only =
          let leg : OpenLeg = record { worker = worker; interval = i; writes = [] } in
          let last = s.store.last in
          let of_leg = leg_sound last limits (observed p) chain before.legs l leg is_open in
          let same : h ≡ with_commit 0 [] = fun_ext (λ k. sym (append-nil (h k))) in
          let sound_with : History → Type 0 = λ h'. Sound store limits h' observed m (with_place p None s) in
          let backed_with : History → Type 0 = λ h'. AllByRecursion (Backed h' last i.low i.high) (observed p).outside in
          let true_with : History → Type 0 = λ h'. AllByRecursion (λ r. TrueReading h' last r.key r.reading) (map (λ r. r.made) chain.readings) in
          let goes_on_with : History → Type 0 = λ h'. GoesOn h last h' last in (
            subst sound_with same (free_sound store limits h observed m s sound p),
            (
              record {
                some = of_leg.times.some;
                backed = subst backed_with same (backed h last limits limit_laws (observed p) chain before l leg is_open only sound.before_end);
                its_readings = its_readings_lem h last limits limit_laws (observed p) chain before l leg is_open only sound.before_end;
                true_readings = subst true_with same (true_readings_lem h last limits limit_laws (observed p) chain before l leg is_open only sound.before_end);
                its_writes = of_leg.writes.as_observed;
                its_timestamp = λ some. absurd (omega arith);
                after_history = λ some. absurd (omega arith);
                after_promises = λ some. absurd (omega arith);
                for_the_book = for_the_book_lem h last limits limit_laws (observed p) chain before l leg is_open only sound.before_end 0 refl;
              },
              subst goes_on_with same (same_goes_on h last),
            ),
          )
      by_writes worker i (x ∷ xs) is_open only =
          let ws : List Write = x ∷ xs in
          let leg : OpenLeg = record { worker = worker; interval = i; writes = ws } in
          let last = s.store.last in
          let of_leg = leg_sound last limits (observed p) chain before.legs l leg is_open in
          at_result (Committed p l clock r w) _ _ _ (λ _ _. (sound, tt)) (λ t answer.
          let a = commit_accepted parts.timestamps parts.timestamp_laws depth clock ws s.store t answer in
          let on = commit_goes_on h last t ws a.after_last in
          let known = promises_known h last limits limit_laws (observed p) chain before l leg is_open only sound.before_end in
          let later : AllByRecursion (λ r. r.reading.promise < t) (map (λ r. r.made) chain.readings) =
          All-weaker (λ r. r.reading.promise ≤ last) (λ r. r.reading.promise < t) (λ r le. omega (arith, a.after_last)) _ known in
          let all_later = All-weaker (λ r. r.reading.promise < t) (λ r. nat_lt r.reading.promise t ≡ true) (λ r lt. lt-ltb _ _ lt) _ later in
          let time : sound_timestamp t (map (λ r. r.made) chain.readings) ws ≡ true = and_from _ _ a.fits (all_pass (λ r. nat_lt r.reading.promise t) _ all_later) in
          let backed_before = backed h last limits limit_laws (observed p) chain before l leg is_open only sound.before_end in
          let h' : History = with_commit t ws in (
            store_commit_sound clock t ws p of_leg.writes.rising answer,
            (
              record {
                some = of_leg.times.some;
                backed = All-weaker (Backed h last i.low i.high) (Backed h' t i.low i.high) (backed_on h last h' t on i.low i.high) (observed p).outside backed_before;
                its_readings = its_readings_lem h last limits limit_laws (observed p) chain before l leg is_open only sound.before_end;
                true_readings = true_readings_on h last h' t on _ (true_readings_lem h last limits limit_laws (observed p) chain before l leg is_open only sound.before_end);
                its_writes = of_leg.writes.as_observed;
                its_timestamp = λ _. subst (λ n. parts.timestamps clock n.last ≡ Ok t) sound.same_store (accepted_issued parts.timestamps depth clock ws s.store t answer);
                after_history = λ _ k key. before_from_up_to last t (h k) a.after_last (sound.stands.of_keys k key).up_to_last;
                after_promises = λ _. later;
                for_the_book = for_the_book_lem h last limits limit_laws (observed p) chain before l leg is_open only sound.before_end t time;
              },
              on,
            ),
          ))

    pub commit_keeps : (p l clock r w : ℕ) → Committed p l clock r w (step rules depth (call.Commit p l clock r w) s)
    commit_keeps p l clock r w =
        let P : StepOutcome Account → Type 0 = Committed p l clock r w in
        at_check P _ _ _ (sound, tt) (λ range.
        at_open_leg P _ l _ _ (sound, tt) (λ chain leg here is_open.
        at_check P _ _ _ (sound, tt) (λ only.
        at_check P _ _ _ (sound, tt) (λ room.
        by_writes p l clock r w chain (chain_at store limits h observed m s sound p chain here) leg.worker leg.interval leg.writes is_open only))))
