-- Lists of versions: which of them rise, which version they hold at a time, what newest_at answers, and how many are outdated.
use Rattle.std.proofs.Common.{◌≡◌, ℕ, ◌+◌, ◌<◌, ◌≤◌, min, if◌then◌else◌, leb, List, [], ◌∷◌, ◌++◌, length, get_or, take, drop, Some, None, Option, refl, ap, ⊎_elim, append_assoc, arith, MatchOption}
use Rattle.std.specs.Option.{option_or}
use Rattle.std.specs.List.{ContainsAt as Has, AllByRecursion}
use Rattle.std.proofs.ByRecursion.{All-append, All-drop, all-has, All-weaker, has_append_right}
use Rattle.std.proofs.lemmas.List.{drop_at, take-append-drop}
use Rattle.std.proofs.lemmas.Bool.{cases_lt, leb-true, leb-false, lt-leb, cond_both}
use Rattle.snapshot.specs.declared.account.Reading.{Reading}
use Rattle.store.specs.Laws.{Rises, LatestAt, version_read}
use Rattle.store.specs.Meaning.{reading_of, end_before, newest_at, some_up_to, outdated}
use Rattle.store.specs.declared.version.Version.{Version}

-- Bounds on every timestamp.

-- every one of these versions is later than s
abbrev pub Later : ℕ → List Version → Type 0
Later s vs = AllByRecursion (λ w. s < w.timestamp) vs

-- before s
abbrev pub Before : ℕ → List Version → Type 0
Before s vs = AllByRecursion (λ w. w.timestamp < s) vs

-- not later than s
abbrev pub UpTo : ℕ → List Version → Type 0
UpTo s vs = AllByRecursion (λ w. w.timestamp ≤ s) vs

pub up_to_weaker : (s t : ℕ) (vs : List Version) → s ≤ t → UpTo s vs → UpTo t vs
up_to_weaker s t vs le up = All-weaker (λ w. w.timestamp ≤ s) (λ w. w.timestamp ≤ t) (λ w h. omega arith) vs up

pub before_from_up_to : (s t : ℕ) (vs : List Version) → s < t → UpTo s vs → Before t vs
before_from_up_to s t vs lt up = All-weaker (λ w. w.timestamp ≤ s) (λ w. w.timestamp < t) (λ w h. omega arith) vs up

-- Lists that rise.

pub rises_push : (vs : List Version) (v : Version) → Rises vs → Before v.timestamp vs → Rises (vs ++ (v ∷ []))
rises_push [] v r b = (tt, tt)
rises_push (w ∷ vs) v r b = (All-append (λ u. w.timestamp < u.timestamp) vs (v ∷ []) r.0 (b.0, tt), rises_push vs v r.1 b.1)

rises_suffix : (gone vs : List Version) → Rises (gone ++ vs) → Rises vs
rises_suffix [] vs r = r
rises_suffix (w ∷ gone) vs r = rises_suffix gone vs r.1

-- where the first of a list that rises is later than s, all are
pub later_than_first : (s : ℕ) (v : Version) (vs : List Version) → s < v.timestamp → Later v.timestamp vs → Later s (v ∷ vs)
later_than_first s v vs lt later =
    (lt, All-weaker (λ w. v.timestamp < w.timestamp) (λ w. s < w.timestamp) (λ w l. omega arith) vs later)

pub later_from_first : (s : ℕ) (vs : List Version) (d : Version) → Rises vs → s < (get_or vs 0 d).timestamp → Later s vs
later_from_first s [] d r lt = tt
later_from_first s (v ∷ vs) d r lt = later_than_first s v vs lt r.0

-- the first version has timestamp 0
abbrev pub FromZero : List Version → Type 0
FromZero [] = ⊥
FromZero (v ∷ vs) = v.timestamp ≡ 0

pub from_zero_append : (vs ws : List Version) → FromZero vs → FromZero (vs ++ ws)
from_zero_append [] ws z = absurd z
from_zero_append (v ∷ vs) ws z = z

-- The end of a list.

-- what is kept is the end of all that ever was
abbrev pub EndOf : List Version → List Version → Type 0
EndOf ever kept = (gone : List Version) × (ever ≡ gone ++ kept)

pub end_drop : (n : ℕ) (ever kept : List Version) → EndOf ever kept → EndOf ever (drop n kept)
end_drop n ever kept e = (e.0 ++ take n kept, simp (append_assoc, take-append-drop) e.1)

pub end_append : (ever kept vs : List Version) → EndOf ever kept → EndOf (ever ++ vs) (kept ++ vs)
end_append ever kept vs e = (e.0, rw (← append_assoc) (ap (λ xs. xs ++ vs) e.1))

pub rises_end : (ever kept : List Version) → EndOf ever kept → Rises ever → Rises kept
rises_end ever kept e r = rises_suffix e.0 kept (rw e.1 at r)

pub up_to_end : (s : ℕ) (ever kept : List Version) → EndOf ever kept → UpTo s ever → UpTo s kept
up_to_end s ever kept e up =
    let P : Version → Type 0 = λ w. w.timestamp ≤ s in
    rw (drop_at e.0 kept (length e.0) refl) at (All-drop P (length e.0) (e.0 ++ kept) (rw e.1 at up))

-- The version held at a time.

pub has_behind : (w : Version) (vs : List Version) (v : Version) → Has vs v → Has (w ∷ vs) v
has_behind w vs v h = has_append_right (w ∷ []) vs v h

-- a version before those that hold one changes nothing
pub holds_behind : (s : ℕ) (w : Version) (vs : List Version) (v : Version) → Later w.timestamp vs → LatestAt s v vs → LatestAt s v (w ∷ vs)
holds_behind s w vs v later h =
    let before : w.timestamp < v.timestamp = all-has (λ u. w.timestamp < u.timestamp) vs v later h.there in
    record {
      there = has_behind w vs v h.there;
      not_later = h.not_later;
      newest_one = (λ _. omega arith, h.newest_one);
    }

holds_longer : (s : ℕ) (gone vs : List Version) (v : Version) → Rises (gone ++ vs) → LatestAt s v vs → LatestAt s v (gone ++ vs)
holds_longer s [] vs v r h = h
holds_longer s (w ∷ gone) vs v r h = holds_behind s w (gone ++ vs) v r.0 (holds_longer s gone vs v r.1 h)

-- what the end of a list that rises holds, the list holds
pub holds_in_all : (s : ℕ) (ever kept : List Version) (v : Version) → EndOf ever kept → Rises ever → LatestAt s v kept → LatestAt s v ever
holds_in_all s ever kept v e r h = rw e.1 (holds_longer s e.0 kept v (rw e.1 at r) h)

-- the first is held until the others begin
pub holds_first : (s : ℕ) (v : Version) (vs : List Version) → v.timestamp ≤ s → Later s vs → LatestAt s v (v ∷ vs)
holds_first s v vs le later =
    record {
      there = (0, omega arith, λ _. refl);
      not_later = le;
      newest_one = (λ h. omega arith, All-weaker (λ w. s < w.timestamp) (λ w. w.timestamp ≤ s → w.timestamp ≤ v.timestamp) (λ w l h. omega arith) vs later);
    }

-- versions that rise, the first not later than s, hold one at time s
pub holds_some : (s : ℕ) (v : Version) (vs : List Version) → v.timestamp ≤ s → Rises (v ∷ vs) → (w : Version) × LatestAt s w (v ∷ vs)
holds_some s v [] le r = (v, holds_first s v [] le tt)
holds_some s v (w ∷ vs) le r =
    ⊎_elim
    (λ lt. (v, holds_first s v (w ∷ vs) le (later_than_first s w vs lt r.1.0)))
    (λ ge. let rest = holds_some s w vs ge r.1 in (rest.0, holds_behind s v (w ∷ vs) rest.0 r.0 rest.1))
    (cases_lt s w.timestamp)

pub holds_from_zero : (s : ℕ) (vs : List Version) → FromZero vs → Rises vs → (v : Version) × LatestAt s v vs
holds_from_zero s [] z r = absurd z
holds_from_zero s (v ∷ vs) z r = holds_some s v vs (omega arith) r

-- What newest_at answers.

-- what a reading shows that was answered at time s from these versions, as the law of an answer has it, with nothing dropped
pub record Shows (s last : ℕ) (vs : List Version) (r : Reading) : Type 0 where
  -- the newest version that is not later than s
  pub newest : LatestAt s (version_read r) vs
  -- current from its timestamp to its promise
  pub current : (u : ℕ) → r.timestamp ≤ u → u ≤ r.promise → LatestAt u (version_read r) vs
  -- the promise is not before the timestamp, not above last, and reaches s as far as last
  pub reaches : r.timestamp ≤ r.promise
  pub known : r.promise ≤ last
  pub as_far_as_queried : min s last ≤ r.promise
  -- it ends at last, or where the next version begins
  pub ends : r.promise < last → (w : Version) × Has vs w × (w.timestamp ≡ r.promise + 1)

-- a version before the others does not change what they show
shows_behind : (s last : ℕ) (v : Version) (vs : List Version) (r : Reading) → Later v.timestamp vs → Shows s last vs r → Shows s last (v ∷ vs) r
shows_behind s last v vs r later h =
    record {
      newest = holds_behind s v vs (version_read r) later h.newest;
      current = λ u from to. holds_behind u v vs (version_read r) later (h.current u from to);
      reaches = h.reaches;
      known = h.known;
      as_far_as_queried = h.as_far_as_queried;
      ends = λ lt. let next = h.ends lt in (next.0, has_behind v vs next.0 next.1, next.2);
    }

-- the first version shows itself, if the others are later than s
shows_first : (s last : ℕ) (v : Version) (vs : List Version) → v.timestamp ≤ s → Later s vs → Rises (v ∷ vs) → UpTo last (v ∷ vs) → Shows s last (v ∷ vs) (reading_of v (end_before vs last))
shows_first s last v [] le later r up =
    record {
      newest = holds_first s v [] le tt;
      current = λ u from _. holds_first u v [] from tt;
      reaches = up.0;
      known = omega arith;
      as_far_as_queried = omega arith;
      ends = λ lt. absurd (omega arith);
    }
shows_first s last v (w ∷ vs) le later r up =
    let next : v.timestamp < w.timestamp = r.0.0 in
    record {
      newest = holds_first s v (w ∷ vs) le later;
      current = λ u from to. holds_first u v (w ∷ vs) from (later_than_first u w vs (omega arith) r.1.0);
      reaches = omega arith;
      known = omega arith;
      as_far_as_queried = omega arith;
      ends = λ lt. (w, (1, omega arith, λ _. refl), omega arith);
    }

-- an answer shows that, and where there is none, all versions are later than s
abbrev pub NewestMeans : ℕ → ℕ → List Version → Option Reading → Type 0
NewestMeans s last vs o = MatchOption o (Later s vs) (Shows s last vs)

newest_step : (s last : ℕ) (v : Version) (vs : List Version) (o : Option Reading) → Rises (v ∷ vs) → UpTo last (v ∷ vs) → NewestMeans s last vs o → NewestMeans s last (v ∷ vs) (option_or o (if leb v.timestamp s then Some (reading_of v (end_before vs last)) else None))
newest_step s last v vs None r up later =
    cond_both (leb v.timestamp s) _ _ (NewestMeans s last (v ∷ vs))
    (λ e. shows_first s last v vs (leb-true _ _ e) later r up)
    (λ e. (leb-false _ _ e, later))
newest_step s last v vs (Some x) r up h = shows_behind s last v vs x r.0 h

pub newest_means : (s last : ℕ) (vs : List Version) → Rises vs → UpTo last vs → NewestMeans s last vs (newest_at s last vs)
newest_means s last [] r up = tt
newest_means s last (v ∷ vs) r up = newest_step s last v vs (newest_at s last vs) r up (newest_means s last vs r.1 up.1)

pub newest_none : (s last : ℕ) (vs : List Version) → Later s vs → newest_at s last vs ≡ None
newest_none s last [] later = refl
newest_none s last (v ∷ vs) later = rw (newest_none s last vs later.1, lt-leb v.timestamp s later.0)

-- How many are outdated.

-- at least one is not
pub outdated_not_all : (h : ℕ) (vs : List Version) → 1 ≤ length vs → outdated h vs < length vs
outdated_not_all h [] n = omega arith
outdated_not_all h (v ∷ []) n = omega arith
outdated_not_all h (v ∷ (w ∷ vs)) n =
    cond_both (some_up_to h (w ∷ vs)) _ _ (λ k. k < length (v ∷ (w ∷ vs))) (λ _. omega (arith, outdated_not_all h (w ∷ vs) (omega arith))) (λ _. omega arith)
