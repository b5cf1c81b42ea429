-- What a call does to the chain that it names keeps the chain sound.
use Rattle.std.proofs.Common.{◌≡◌, ℕ, ◌<◌, ◌≤◌, min, max, true, ◌⊎◌, List, [], ◌∷◌, ◌++◌, map, length, Some, None, Option, sym, refl, ap, ◌∙◌, subst, inl, inr, ⊎_elim, arith}
use Rattle.std.specs.List.{AllByRecursion}
use Rattle.std.proofs.ByRecursion.{All-push, All-weaker, has_append_left, has_push}
use Rattle.std.proofs.lemmas.List.{length_push, map_push}
use Rattle.std.proofs.lemmas.List.Sums.{fold_push}
use Rattle.std.proofs.lemmas.Bool.{and_parts, cases_eq, cases_lt, leb-true}
use Rattle.snapshot.specs.Accounts.{greatest_timestamp, least_promise}
use Rattle.snapshot.specs.Intervals.{from_to, meets_reading, narrowed}
use Rattle.snapshot.specs.declared.account.Reading.{Reading}
use Rattle.snapshot.specs.declared.account.Write.{Write}
use Rattle.snapshot.specs.declared.interval.Interval.{Interval}
use Rattle.snapshot.specs.Limits.{open_end, is_worker}
use Rattle.snapshot.specs.Limits as limit
use Rattle.engine_model.specs.Engines.{OpenLeg, LegState, unused, running, ended, on_worker, with_write_set, with_interval, Chain, with_leg, end_leg, open_leg, add_reading, no_legs, new_chain}
use Rattle.engine_model.specs.Steps.{own_reading}
use Rattle.engine_model.specs.Traces.{ObservedLeg, observed_leg, ObservedChain, ValueRead, value_read, nothing_observed, leg_opened, leg_wrote, outside_with, leg_read, has_read}
use Rattle.engine_model.specs.declared.limits.ChainLimits.{ChainLimits}
use Rattle.engine_model.specs.declared.records.LegReading.{LegReading}
use Rattle.engine_model.proofs.FirstReads.{firsts_again, firsts_more}
use Rattle.engine_model.proofs.Readings.{History, TrueReading, GoesOn, true_on}
use Rattle.engine_model.proofs.Sound.{TimesSound, WritesSound, LegSound, LegsSound, IfRunning, Covers, ReadingSound, Shown, OfLeg, ChainSound}
use Rattle.engine_model.proofs.Updates.{at_same, at_other, at_each, at_each_two}

-- Open legs.

if_running : (P : OpenLeg → Type 0) (state : LegState) (leg : OpenLeg) → state ≡ running leg → IfRunning P state → P leg
if_running P state leg e h = subst (IfRunning P) e h

if_weaker : (P Q : OpenLeg → Type 0) → ((leg : OpenLeg) → P leg → Q leg) → (state : LegState) → IfRunning P state → IfRunning Q state
if_weaker P Q on unused h = tt
if_weaker P Q on (running leg) h = on leg h
if_weaker P Q on ended h = tt

not_unused : (state : LegState) (leg : OpenLeg) → state ≡ running leg → state ≡ unused → ⊥
not_unused state leg e u = let z : ◌≡◌ {A = ℕ} 0 1 = cc in omega arith

-- two names of one leg
one_leg : (legs : ℕ → LegState) (j l : ℕ) (other leg : OpenLeg) → j ≡ l → legs j ≡ running other → legs l ≡ running leg → other ≡ leg
one_leg legs j l other leg same e f = cc

-- a leg whose interval is no wider
pub record NoWider (leg after : OpenLeg) : Type 0 where
  pub low : leg.interval.low ≤ after.interval.low
  pub high : after.interval.high ≤ leg.interval.high

same_width : (leg other : OpenLeg) → other ≡ leg → NoWider other leg
same_width leg other e = record { low = omega (arith, ap (λ x. x.interval.low) e); high = omega (arith, ap (λ x. x.interval.high) e) }

-- a leg goes on in one that is open and no wider
pub record GoesOnIn (legs : ℕ → LegState) (leg : OpenLeg) : Type 0 where
  pub number : ℕ
  pub after : OpenLeg
  pub is_open : legs number ≡ running after
  pub width : NoWider leg after

-- every open leg goes on
abbrev pub AllGoOn : (ℕ → LegState) → (ℕ → LegState) → Type 0
AllGoOn legs legs' = (l : ℕ) (leg : OpenLeg) → legs l ≡ running leg → GoesOnIn legs' leg

-- what covers a leg's interval covers that of the one it goes on in
covers_on : (legs legs' : ℕ → LegState) → AllGoOn legs legs' → (r : LegReading) → Covers legs r → Covers legs' r
covers_on legs legs' on r c =
    let g = on c.number c.leg c.is_open in
    record {
      number = g.number;
      leg = g.after;
      is_open = g.is_open;
      from_low = omega (arith, c.from_low, g.width.low);
      to_high = omega (arith, c.to_high, g.width.high);
    }

-- then every reading still covers one
all_covered :
    (legs legs' : ℕ → LegState) → AllGoOn legs legs' → (rs : List LegReading) → AllByRecursion (Covers legs) rs →
    AllByRecursion (Covers legs') rs
all_covered legs legs' on rs c = All-weaker (Covers legs) (Covers legs') (covers_on legs legs' on) rs c

-- The legs of a chain.

module _ (last : ℕ) (limits : ChainLimits) (observed : ObservedChain) (c : Chain) (legs : LegsSound last limits observed c) where
  -- an open leg has a number below those yet to come
  pub open_below : (l : ℕ) (leg : OpenLeg) → c.legs l ≡ running leg → l < c.opened
  open_below l leg e =
      ⊎_elim (λ lt. lt) (λ past. absurd (not_unused (c.legs l) leg e (legs.unopened l past))) (cases_lt l c.opened)

  pub leg_sound : (l : ℕ) (leg : OpenLeg) → c.legs l ≡ running leg → LegSound last limits c.readings (observed.legs l) leg
  leg_sound l leg e = if_running (LegSound last limits c.readings (observed.legs l)) (c.legs l) leg e (legs.each l)

  -- a leg becomes another, or ends
  pub set_sound :
      (l : ℕ) (state : LegState) → l < c.opened → IfRunning (LegSound last limits c.readings (observed.legs l)) state →
      LegsSound last limits observed (with_leg l state c)
  set_sound l state lt s =
      record {
        few_legs = legs.few_legs;
        unopened = λ j le. at_other l state c.legs j (omega arith) ∙ legs.unopened j le;
        each = at_each (λ j. IfRunning (LegSound last limits c.readings (observed.legs j))) l state c.legs s legs.each;
      }

  -- a leg becomes another, with other writes
  pub write_sound :
      (l : ℕ) (leg : OpenLeg) (w : ℕ) (ws : ℕ → Option ℕ) → l < c.opened → LegSound last limits c.readings (observed_leg w ws) leg →
      LegsSound last limits (leg_opened l w ws observed) (with_leg l (running leg) c)
  write_sound l leg w ws lt s =
      record {
        few_legs = legs.few_legs;
        unopened = λ j le. at_other l (running leg) c.legs j (omega arith) ∙ legs.unopened j le;
        each = at_each_two (λ j o. IfRunning (LegSound last limits c.readings o)) l (observed_leg w ws) observed.legs (running leg) c.legs s legs.each;
      }

  -- the next leg is opened
  pub open_sound :
      (leg : OpenLeg) (w : ℕ) (ws : ℕ → Option ℕ) → c.opened < limit.leg_count → LegSound last limits c.readings (observed_leg w ws) leg →
      LegsSound last limits (leg_opened c.opened w ws observed) (open_leg leg c)
  open_sound leg w ws room s =
      record {
        few_legs = room;
        unopened = λ j le. at_other c.opened (running leg) c.legs j (omega arith) ∙ legs.unopened j (omega arith);
        each = at_each_two (λ j o. IfRunning (LegSound last limits c.readings o)) c.opened (observed_leg w ws) observed.legs (running leg) c.legs s legs.each;
      }

  pub end_sound : (l : ℕ) → l < c.opened → LegsSound last limits observed (end_leg l c)
  end_sound l lt = set_sound l ended lt tt

-- Chains.

-- the workers of the legs below a number stay
abbrev SameWorkers : ℕ → (ℕ → ObservedLeg) → (ℕ → ObservedLeg) → Type 0
SameWorkers opened legs legs' = (j : ℕ) → j < opened → (legs' j).worker ≡ (legs j).worker

-- where more legs are opened, and where one has other writes
opened_workers :
    (observed : ObservedChain) (n w : ℕ) (ws : ℕ → Option ℕ) → SameWorkers n observed.legs (leg_opened n w ws observed).legs
opened_workers observed n w ws j lt = ap (λ x. x.worker) (at_other n (observed_leg w ws) observed.legs j (omega arith))

written_workers :
    (observed : ObservedChain) (n l : ℕ) (ws : ℕ → Option ℕ) → SameWorkers n observed.legs (leg_wrote l ws observed).legs
written_workers observed n l ws j lt =
    at_each (λ j x. x.worker ≡ (observed.legs j).worker) l (observed_leg (observed.legs l).worker ws) observed.legs refl (λ j. refl) j

-- then each reading is still of the leg that made it
of_legs_on :
    (n m : ℕ) (legs legs' : ℕ → ObservedLeg) → n ≤ m → SameWorkers n legs legs' → (rs : List LegReading) →
    AllByRecursion (OfLeg n legs) rs → AllByRecursion (OfLeg m legs') rs
of_legs_on n m legs legs' le same rs =
    All-weaker (OfLeg n legs) (OfLeg m legs')
    (λ r o. record { was_opened = omega (arith, o.was_opened); same_worker = same r.leg o.was_opened ∙ o.same_worker }) rs

module _ (h : History) (last : ℕ) (limits : ChainLimits) (observed : ObservedChain) (c : Chain) (sound : ChainSound h last limits observed c) where
  -- the same readings, with other legs in which the open ones go on
  other_legs :
      (observed' : ObservedChain) (c' : Chain) → LegsSound last limits observed' c' → c'.readings ≡ c.readings →
      observed'.outside ≡ observed.outside → c.opened ≤ c'.opened → SameWorkers c.opened observed.legs observed'.legs →
      AllGoOn c.legs c'.legs → ChainSound h last limits observed' c'
  other_legs observed' c' legs same outside more workers on =
      record {
        legs = legs;
        few_readings = rw same sound.few_readings;
        readings = rw same sound.readings;
        covered = rw same (all_covered c.legs c'.legs on c.readings sound.covered);
        shown = rw (same, outside) sound.shown;
        firsts = rw (same, outside) sound.firsts;
        of_legs = rw same (of_legs_on c.opened c'.opened observed.legs observed'.legs more workers c.readings sound.of_legs);
      }

  -- the next leg is opened in the place of some that end: each open leg either stays, or is no narrower than the new one
  replaced_on :
      (c' : Chain) (new : OpenLeg) → c'.opened ≡ c.opened →
      ((j : ℕ) (leg : OpenLeg) → c.legs j ≡ running leg → (c'.legs j ≡ running leg) ⊎ NoWider leg new) → AllGoOn c.legs (open_leg new c').legs
  replaced_on c' new same or j leg e =
      let lt : j < c.opened = open_below last limits observed c sound.legs j leg e in
      ⊎_elim
      (λ stays.
      record {
        number = j;
        after = leg;
        is_open = at_other c'.opened (running new) c'.legs j (omega arith) ∙ stays;
        width = record { low = omega arith; high = omega arith };
      })
      (λ narrower.
      record {
        number = c'.opened;
        after = new;
        is_open = at_same c'.opened (running new) c'.legs;
        width = narrower;
      })
      (or j leg e)

  -- a further leg is opened
  pub also_open :
      (leg : OpenLeg) (w : ℕ) (ws : ℕ → Option ℕ) → c.opened < limit.leg_count → LegSound last limits c.readings (observed_leg w ws) leg →
      ChainSound h last limits (leg_opened c.opened w ws observed) (open_leg leg c)
  also_open leg w ws room s =
      other_legs _ _ (open_sound last limits observed c sound.legs leg w ws room s) refl refl (omega arith) (opened_workers observed c.opened w ws) (replaced_on c leg refl (λ j other e. inl e))

  module _ (l : ℕ) (leg : OpenLeg) (is_open : c.legs l ≡ running leg) where
    below : l < c.opened
    below = open_below last limits observed c sound.legs l leg is_open

    here : LegSound last limits c.readings (observed.legs l) leg
    here = leg_sound last limits observed c sound.legs l leg is_open

    pub on_worker_lem : (w : ℕ) → is_worker w ≡ true → LegSound last limits c.readings (observed_leg w (observed.legs l).written) (on_worker w leg)
    on_worker_lem w worker =
        record { worker = worker; same_worker = refl; times = here.times; writes = here.writes }

    -- another leg takes its place
    set_on : (new : OpenLeg) → NoWider leg new → AllGoOn c.legs (with_leg l (running new) c).legs
    set_on new narrower j other e =
        ⊎_elim
        (λ same.
        let one = same_width leg other (one_leg c.legs j l other leg same e is_open) in
        record {
          number = l;
          after = new;
          is_open = at_same l (running new) c.legs;
          width = record { low = omega (arith, one.low, narrower.low); high = omega (arith, one.high, narrower.high) };
        })
        (λ apart.
        record {
          number = j;
          after = other;
          is_open = at_other l (running new) c.legs j apart ∙ e;
          width = record { low = omega arith; high = omega arith };
        })
        (cases_eq j l)

    -- A leg is handed on to another worker.
    pub hand_sound :
        (w : ℕ) → is_worker w ≡ true → c.opened < limit.leg_count →
        ChainSound h last limits (leg_opened c.opened w (observed.legs l).written observed) (open_leg (on_worker w leg) (end_leg l c))
    hand_sound w worker room =
        let ended_legs = end_sound last limits observed c sound.legs l below in
        let stays : (j : ℕ) (other : OpenLeg) → c.legs j ≡ running other → ((end_leg l c).legs j ≡ running other) ⊎ NoWider other (on_worker w leg) = λ j other e.
        ⊎_elim
        (λ same. let one = same_width leg other (one_leg c.legs j l other leg same e is_open) in inr (record { low = one.low; high = one.high }))
        (λ apart. inl (at_other l ended c.legs j apart ∙ e))
        (cases_eq j l) in
        other_legs _ _ (open_sound last limits observed (end_leg l c) ended_legs (on_worker w leg) w (observed.legs l).written room (on_worker_lem w worker)) refl refl (omega arith) (opened_workers observed c.opened w (observed.legs l).written) (replaced_on (end_leg l c) (on_worker w leg) refl stays)

    -- A leg writes.
    pub write_leg_sound :
        (ws : List Write) (written : ℕ → Option ℕ) → WritesSound limits written ws →
        ChainSound h last limits (leg_wrote l written observed) (with_leg l (running (with_write_set ws leg)) c)
    write_leg_sound ws written sound_writes =
        let w : ℕ = (observed.legs l).worker in
        let new : LegSound last limits c.readings (observed_leg w written) (with_write_set ws leg) = record { worker = here.worker; same_worker = here.same_worker; times = here.times; writes = sound_writes } in
        other_legs _ _ (write_sound last limits observed c sound.legs l (with_write_set ws leg) w written below new) refl refl (omega arith) (written_workers observed c.opened l written) (set_on (with_write_set ws leg) (record { low = omega arith; high = omega arith }))

    -- Two legs are joined.
    module _ (m : ℕ) (other : OpenLeg) (other_open : c.legs m ≡ running other) (new : OpenLeg) (first : NoWider leg new) (second : NoWider other new) where
      join_stays :
          (j : ℕ) (third : OpenLeg) → c.legs j ≡ running third →
          ((end_leg m (end_leg l c)).legs j ≡ running third) ⊎ NoWider third new
      join_stays j third e =
          ⊎_elim
          (λ same. let one = same_width leg third (one_leg c.legs j l third leg same e is_open) in inr (record { low = omega (arith, one.low, first.low); high = omega (arith, one.high, first.high) }))
          (λ apart.
          ⊎_elim
          (λ same. let one = same_width other third (one_leg c.legs j m third other same e other_open) in inr (record { low = omega (arith, one.low, second.low); high = omega (arith, one.high, second.high) }))
          (λ apart_too. inl (at_other m ended (end_leg l c).legs j apart_too ∙ at_other l ended c.legs j apart ∙ e))
          (cases_eq j m))
          (cases_eq j l)

      pub join_sound :
          (w : ℕ) (written : ℕ → Option ℕ) → c.opened < limit.leg_count → LegSound last limits c.readings (observed_leg w written) new →
          ChainSound h last limits (leg_opened c.opened w written observed) (open_leg new (end_leg m (end_leg l c)))
      join_sound w written room sound_new =
          let below_too : m < c.opened = open_below last limits observed c sound.legs m other other_open in
          let ended_legs = end_sound last limits observed (end_leg l c) (end_sound last limits observed c sound.legs l below) m below_too in
          other_legs _ _ (open_sound last limits observed (end_leg m (end_leg l c)) ended_legs new w written room sound_new) refl refl (omega arith) (opened_workers observed c.opened w written) (replaced_on (end_leg m (end_leg l c)) new refl join_stays)

-- A leg reads.

greatest_push :
    (rs : List LegReading) (r : LegReading) →
    greatest_timestamp (map (λ x. x.made) (rs ++ (r ∷ []))) ≡ max (greatest_timestamp (map (λ x. x.made) rs)) r.made.reading.timestamp
greatest_push rs r =
    ap greatest_timestamp (map_push (λ x. x.made) rs r) ∙ fold_push (λ a x. max a x.reading.timestamp) 0 (map (λ x. x.made) rs) r.made

least_push :
    (rs : List LegReading) (r : LegReading) →
    least_promise (map (λ x. x.made) (rs ++ (r ∷ []))) ≡ min (least_promise (map (λ x. x.made) rs)) r.made.reading.promise
least_push rs r =
    ap least_promise (map_push (λ x. x.made) rs r) ∙ fold_push (λ a x. min a x.reading.promise) open_end (map (λ x. x.made) rs) r.made

-- a further reading of the chain leaves its legs sound
leg_more :
    (last : ℕ) (limits : ChainLimits) (rs : List LegReading) (r : LegReading) (observed : ObservedLeg) (leg : OpenLeg) →
    LegSound last limits rs observed leg → LegSound last limits (rs ++ (r ∷ [])) observed leg
leg_more last limits rs r observed leg s =
    let before = s.times in
    let times : TimesSound last (rs ++ (r ∷ [])) leg.interval = record {
      some = before.some;
      to_open_end = before.to_open_end;
      from_known = before.from_known;
      low_read = omega (arith, greatest_push rs r, before.low_read);
      high_read = omega (arith, least_push rs r, before.high_read);
    } in
    record { worker = s.worker; same_worker = s.same_worker; times = times; writes = s.writes }

-- the interval of the leg that made it is narrowed by it
times_narrowed :
    (h : History) (last : ℕ) (rs : List LegReading) (r : LegReading) (i : Interval) →
    TrueReading h last r.made.key r.made.reading → meets_reading i r.made.reading ≡ true → TimesSound last rs i →
    TimesSound last (rs ++ (r ∷ [])) (narrowed i r.made.reading)
times_narrowed h last rs r i true_r meets before =
    let both = and_parts _ _ meets in
    let from : i.low ≤ r.made.reading.promise = leb-true _ _ both.0 in
    let to : r.made.reading.timestamp ≤ i.high = leb-true _ _ both.1 in
    record {
      some = omega (arith, before.some, true_r.reaches);
      to_open_end = omega (arith, before.to_open_end);
      from_known = omega (arith, before.from_known, true_r.reaches, true_r.known);
      low_read = omega (arith, greatest_push rs r, before.low_read);
      high_read = omega (arith, least_push rs r, before.high_read);
    }

shown_more :
    (rs : List LegReading) (r : LegReading) (xs : List ValueRead) → AllByRecursion (Shown rs) xs →
    AllByRecursion (Shown (rs ++ (r ∷ []))) xs
shown_more rs r xs =
    All-weaker (Shown rs) (Shown (rs ++ (r ∷ []))) (λ x s. record {
      reading = s.reading;
      there = has_append_left rs (r ∷ []) s.reading s.there;
      same_key = s.same_key;
      same_value = s.same_value;
    }) xs

-- a read adds a value that was answered outside the chain's writes, if the leg has not written the key
shown_with :
    (P : ValueRead → Type 0) (written : Option ℕ) (x : ValueRead) (xs : List ValueRead) → (written ≡ None → P x) →
    AllByRecursion P xs → AllByRecursion P (outside_with written x xs)
shown_with P None x xs new old = (new refl, old)
shown_with P (Some v) x xs new old = old

module _ (h : History) (last : ℕ) (limits : ChainLimits) (observed : ObservedChain) (c : Chain) (sound : ChainSound h last limits observed c) (l k : ℕ) where
  -- a read that adds no reading
  pub read_again :
      (x : ℕ) → ((observed.legs l).written k ≡ None → Shown c.readings (value_read l k x) × (has_read l k observed.outside ≡ true)) →
      ChainSound h last limits (leg_read l k x observed) c
  read_again x again =
      record {
        legs = record { few_legs = sound.legs.few_legs; unopened = sound.legs.unopened; each = sound.legs.each };
        few_readings = sound.few_readings;
        readings = sound.readings;
        covered = sound.covered;
        shown = shown_with (Shown c.readings) ((observed.legs l).written k) (value_read l k x) observed.outside (λ none. (again none).0) sound.shown;
        firsts = sound.firsts ∙ sym (firsts_again ((observed.legs l).written k) l k x observed.outside (λ none. (again none).1));
        of_legs = sound.of_legs;
      }

  -- a read that adds one
  module _ (leg : OpenLeg) (is_open : c.legs l ≡ running leg) (r : Reading) (true_r : TrueReading h last k r) (meets : meets_reading leg.interval r ≡ true) (room : length c.readings < limits.readings) (not_written : (observed.legs l).written k ≡ None) (not_read : own_reading l k c.readings ≡ None) where
    abbrev noted : LegReading
    noted = record { leg = l; made = record { worker = leg.worker; key = k; reading = r } }

    abbrev after : OpenLeg
    after = with_interval (narrowed leg.interval r) leg

    pub read_sound : ChainSound h last limits (leg_read l k r.value observed) (add_reading noted (with_leg l (running after) c))
    read_sound =
        let before = leg_sound last limits observed c sound.legs l leg is_open in
        let lt : l < c.opened = open_below last limits observed c sound.legs l leg is_open in
        let rs : List LegReading = c.readings ++ (noted ∷ []) in
        let narrower : NoWider leg after = record { low = omega arith; high = omega arith } in
        let on = set_on h last limits observed c sound l leg is_open after narrower in
        record {
          legs = record {
            few_legs = sound.legs.few_legs;
            unopened = λ j le. at_other l (running after) c.legs j (omega arith) ∙ sound.legs.unopened j le;
            each = at_each (λ j. IfRunning (LegSound last limits rs (observed.legs j))) l (running after) c.legs
                (record { worker = before.worker; same_worker = before.same_worker; times = times_narrowed h last c.readings noted leg.interval true_r meets before.times; writes = before.writes })
                (λ j. if_weaker (LegSound last limits c.readings (observed.legs j)) (LegSound last limits rs (observed.legs j)) (leg_more last limits c.readings noted (observed.legs j)) (c.legs j) (sound.legs.each j));
          };
          few_readings = omega (arith, length_push c.readings noted);
          readings = All-push (ReadingSound h last) c.readings noted sound.readings (record { worker = before.worker; is_true = true_r });
          covered = All-push (Covers (with_leg l (running after) c).legs) c.readings noted
              (all_covered c.legs (with_leg l (running after) c).legs on c.readings sound.covered)
              (record { number = l; leg = after; is_open = at_same l (running after) c.legs; from_low = omega arith; to_high = omega arith });
          shown = shown_with (Shown rs) ((observed.legs l).written k) (value_read l k r.value) observed.outside
              (λ _. record { reading = noted; there = has_push c.readings noted; same_key = refl; same_value = refl })
              (shown_more c.readings noted observed.outside sound.shown);
          firsts = firsts_more c.readings noted ((observed.legs l).written k) observed.outside sound.firsts not_written not_read;
          of_legs = All-push (OfLeg c.opened observed.legs) c.readings noted sound.of_legs (record { was_opened = lt; same_worker = before.same_worker });
        }

-- A chain is begun.

pub begin_sound :
    (h : History) (last : ℕ) (limits : ChainLimits) (w : ℕ) → is_worker w ≡ true →
    ChainSound h last limits (leg_opened 0 w (λ k. None) nothing_observed) (new_chain w)
begin_sound h last limits w worker =
    let all_times : TimesSound last [] (from_to 0 open_end) = record { some = omega arith; to_open_end = omega arith; from_known = omega arith; low_read = omega arith; high_read = omega arith } in
    let no_writes : WritesSound limits (λ k. None) [] = record { rising = refl; few = omega arith; as_observed = λ k. refl } in
    let first : LegSound last limits [] (observed_leg w (λ k. None)) (record { worker = w; interval = from_to 0 open_end; writes = [] }) = record { worker = worker; same_worker = refl; times = all_times; writes = no_writes } in
    let none : LegsSound last limits nothing_observed no_legs = record { few_legs = omega arith; unopened = λ l _. refl; each = λ l. tt } in
    let opened = open_sound last limits nothing_observed no_legs none (record { worker = w; interval = from_to 0 open_end; writes = [] }) w (λ k. None) (omega arith) first in
    record {
      legs = record { few_legs = opened.few_legs; unopened = opened.unopened; each = opened.each };
      few_readings = omega arith;
      readings = tt;
      covered = tt;
      shown = tt;
      firsts = refl;
      of_legs = tt;
    }

-- The history goes on.

-- last grows
leg_on :
    (last last' : ℕ) (limits : ChainLimits) (rs : List LegReading) (observed : ObservedLeg) → last ≤ last' → (leg : OpenLeg) →
    LegSound last limits rs observed leg → LegSound last' limits rs observed leg
leg_on last last' limits rs observed le leg s =
    let before = s.times in
    let times : TimesSound last' rs leg.interval = record {
      some = before.some;
      to_open_end = before.to_open_end;
      from_known = omega (arith, before.from_known);
      low_read = before.low_read;
      high_read = before.high_read;
    } in
    record { worker = s.worker; same_worker = s.same_worker; times = times; writes = s.writes }

-- a sound chain stays so where the history goes on
pub chain_on :
    (h : History) (last : ℕ) (h' : History) (last' : ℕ) → GoesOn h last h' last' →
    (limits : ChainLimits) (observed : ObservedChain) (c : Chain) → ChainSound h last limits observed c → ChainSound h' last' limits observed c
chain_on h last h' last' on limits observed c sound =
    record {
      legs = record {
        few_legs = sound.legs.few_legs;
        unopened = sound.legs.unopened;
        each = λ l. if_weaker _ _ (leg_on last last' limits c.readings (observed.legs l) on.later) (c.legs l) (sound.legs.each l);
      };
      few_readings = sound.few_readings;
      readings = All-weaker (ReadingSound h last) (ReadingSound h' last') (λ r s. record { worker = s.worker; is_true = true_on h last h' last' on r.made.key r.made.reading s.is_true }) c.readings sound.readings;
      covered = sound.covered;
      shown = sound.shown;
      firsts = sound.firsts;
      of_legs = sound.of_legs;
    }
