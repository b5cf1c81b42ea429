-- Readings that are true: what the store answers is, a notice of a commit is, two of one version may be made one, and a
-- history that goes on after last leaves them so.
use Rattle.std.proofs.Common.{◌≡◌, ℕ, zero, suc, ◌<◌, ◌≤◌, min, true, List, [], ◌∷◌, ◌++◌, length, get_or, Some, None, Ok, Option, sym, ap, ◌∙◌, subst, ⊎_elim, le_of_suc-le-suc, not-suc-le-zero, arith}
use Rattle.std.specs.List.{ContainsAt as Has, AllByRecursion}
use Rattle.std.proofs.ByRecursion.{All-append, all-has, All-weaker, has_append_left, has_push}
use Rattle.std.proofs.lemmas.List.{append-nil}
use Rattle.std.proofs.lemmas.Bool.{cases_lt}
use Rattle.snapshot.specs.Limits.{is_key}
use Rattle.snapshot.specs.declared.account.Reading.{Reading}
use Rattle.snapshot.specs.declared.account.Write.{Write}
use Rattle.store.specs.Laws.{Rises, LatestAt, version_read, versions_of, AnswerLaw}
use Rattle.store.specs.Meaning.{Meaning, version_of, version_answer, written_to}
use Rattle.store.specs.declared.version.Version.{Version}
use Rattle.store.proofs.Keeping.{law_from_stands}
use Rattle.store.proofs.Standing.{Stands}
use Rattle.store.proofs.Versions.{UpTo}
use Rattle.engine_model.specs.Caches.{Cache, widened}

-- a history: of each key its versions, oldest first
abbrev pub History : Type 0
History = ℕ → List Version

-- What is true.

-- a reading of a key is true
pub record TrueReading (h : History) (last k : ℕ) (r : Reading) : Type 0 where
  -- the key is one
  pub of_key : is_key k ≡ true
  -- the promise is not before the timestamp
  pub reaches : r.timestamp ≤ r.promise
  -- nor above last
  pub known : r.promise ≤ last
  -- the history holds its version at every time from its timestamp to its promise
  pub current : (u : ℕ) → r.timestamp ≤ u → u ≤ r.promise → LatestAt u (version_read r) (h k)

-- every entry of a cache is true
abbrev pub AllTrue : History → ℕ → Cache → Type 0
AllTrue h last c = AllByRecursion (λ e. TrueReading h last e.key e.reading) c

-- A history that goes on.

-- what was held up to last is held on
pub record GoesOn (h : History) (last : ℕ) (h' : History) (last' : ℕ) : Type 0 where
  pub later : last ≤ last'
  pub keeps : (k u : ℕ) (v : Version) → u ≤ last → LatestAt u v (h k) → LatestAt u v (h' k)

pub same_goes_on : (h : History) (last : ℕ) → GoesOn h last h last
same_goes_on h last = record { later = omega arith; keeps = λ k u v le held. held }

pub true_on :
    (h : History) (last : ℕ) (h' : History) (last' : ℕ) → GoesOn h last h' last' → (k : ℕ) (r : Reading) →
    TrueReading h last k r → TrueReading h' last' k r
true_on h last h' last' on k r t =
    record {
      of_key = t.of_key;
      reaches = t.reaches;
      known = omega (arith, t.known, on.later);
      current = λ u from to. on.keeps k u (version_read r) (omega (arith, t.known)) (t.current u from to);
    }

-- a later version changes nothing before it
holds_before : (u : ℕ) (v w : Version) (vs : List Version) → u < w.timestamp → LatestAt u v vs → LatestAt u v (vs ++ (w ∷ []))
holds_before u v w vs lt h =
    record {
      there = has_append_left vs (w ∷ []) v h.there;
      not_later = h.not_later;
      newest_one = All-append (λ x. x.timestamp ≤ u → x.timestamp ≤ v.timestamp) vs (w ∷ []) h.newest_one (λ le. absurd (omega arith), tt);
    }

given_before :
    (u t : ℕ) (v : Version) (written : Option ℕ) (vs : List Version) → u < t → LatestAt u v vs →
    LatestAt u v (vs ++ versions_of (Some t) written)
given_before u t v None vs lt h = rw append-nil h
given_before u t v (Some x) vs lt h = holds_before u v (version_of t x) vs lt h

-- a commit after last lets the history go on
pub commit_goes_on :
    (h : History) (last t : ℕ) (ws : List Write) → last < t → GoesOn h last (λ k. h k ++ versions_of (Some t) (written_to k ws)) t
commit_goes_on h last t ws lt =
    record { later = omega arith; keeps = λ k u v le held. given_before u t v (written_to k ws) (h k) (omega arith) held }

-- The version that a commit gives a key is current from its timestamp on.

newest_held : (last t x : ℕ) (vs : List Version) → last < t → UpTo last vs → LatestAt t (version_of t x) (vs ++ (version_of t x ∷ []))
newest_held last t x vs lt up =
    record {
      there = has_push vs (version_of t x);
      not_later = omega arith;
      newest_one = All-append (λ w. w.timestamp ≤ t → w.timestamp ≤ t) vs (version_of t x ∷ []) (All-weaker (λ w. w.timestamp ≤ last) (λ w. w.timestamp ≤ t → w.timestamp ≤ t) (λ w up le. le) vs up) (λ le. le, tt);
    }

abbrev pub committed_reading : ℕ → ℕ → Reading
committed_reading t x = record { value = x; timestamp = t; promise = t }

given_true :
    (h : History) (last t x k : ℕ) (written : Option ℕ) → is_key k ≡ true → last < t → UpTo last (h k) → written ≡ Some x →
    LatestAt t (version_of t x) (h k ++ versions_of (Some t) written)
given_true h last t x k written key lt up e =
    let P : Option ℕ → Type 0 = λ o. LatestAt t (version_of t x) (h k ++ versions_of (Some t) o) in
    subst P (sym e) (newest_held last t x (h k) lt up)

-- the reading of what a commit wrote to a key is true of the history after it
pub commit_true :
    (h : History) (last t x k : ℕ) (ws : List Write) → is_key k ≡ true → last < t → UpTo last (h k) → written_to k ws ≡ Some x →
    TrueReading (λ j. h j ++ versions_of (Some t) (written_to j ws)) t k (committed_reading t x)
commit_true h last t x k ws key lt up e =
    let held = given_true h last t x k (written_to k ws) key lt up e in
    let P : ℕ → Type 0 = λ u. LatestAt u (version_of t x) (h k ++ versions_of (Some t) (written_to k ws)) in
    record {
      of_key = key;
      reaches = omega arith;
      known = omega arith;
      current = λ u from to. let same : t ≡ u = omega arith in subst P same held;
    }

-- Two readings of one version.

-- of versions that rise strictly, two with one timestamp are the same
same_at :
    (vs : List Version) → Rises vs → (v w : Version) → v.timestamp ≡ w.timestamp → (i j : ℕ) → i < length vs → j < length vs →
    ((d : Version) → get_or vs i d ≡ v) → ((d : Version) → get_or vs j d ≡ w) → v ≡ w
same_at [] r v w e i j il jl ia ja = absurd (not-suc-le-zero il)
same_at (x ∷ vs) r v w e zero zero il jl ia ja = sym (ia x) ∙ ja x
same_at (x ∷ vs) r v w e zero (suc j) il jl ia ja =
    let lt : x.timestamp < w.timestamp = all-has (λ u. x.timestamp < u.timestamp) vs w r.0 (j, le_of_suc-le-suc jl, ja) in
    absurd (omega (arith, ap (λ u. u.timestamp) (ia x)))
same_at (x ∷ vs) r v w e (suc i) zero il jl ia ja =
    let lt : x.timestamp < v.timestamp = all-has (λ u. x.timestamp < u.timestamp) vs v r.0 (i, le_of_suc-le-suc il, ia) in
    absurd (omega (arith, ap (λ u. u.timestamp) (ja x)))
same_at (x ∷ vs) r v w e (suc i) (suc j) il jl ia ja =
    same_at vs r.1 v w e i j (le_of_suc-le-suc il) (le_of_suc-le-suc jl) ia ja

same_version : (vs : List Version) → Rises vs → (v w : Version) → Has vs v → Has vs w → v.timestamp ≡ w.timestamp → v ≡ w
same_version vs r v w f g e = same_at vs r v w e f.0 g.0 f.1 g.1 f.2 g.2

-- two true readings with one timestamp are of one version, so that the larger promise is true of both
pub widened_true :
    (h : History) (last k : ℕ) (r n : Reading) → Rises (h k) → TrueReading h last k r → TrueReading h last k n →
    r.timestamp ≡ n.timestamp → TrueReading h last k (widened r n.promise)
widened_true h last k r n rises rt nt e =
    let of_r = (rt.current r.timestamp (omega arith) rt.reaches).there in
    let of_n = (nt.current n.timestamp (omega arith) nt.reaches).there in
    let one = same_version (h k) rises (version_read n) (version_read r) of_n of_r (sym e) in
    record {
      of_key = rt.of_key;
      reaches = omega (arith, rt.reaches);
      known = omega (arith, rt.known, nt.known);
      current = λ u from to.
          ⊎_elim
          (λ lt. let P : Version → Type 0 = λ v. LatestAt u v (h k) in subst P one (nt.current u (omega arith) (omega arith)))
          (λ le. rt.current u from le)
          (cases_lt r.promise u);
    }

-- What the store answers.

-- it is true, at a time where it was asked for, and its promise reaches that time as far as last
pub record AnsweredAt (h : History) (last k s : ℕ) (r : Reading) : Type 0 where
  pub is_true : TrueReading h last k r
  pub not_later : r.timestamp ≤ s
  pub as_far : min s last ≤ r.promise

pub store_true :
    (depth capacity : ℕ) (m : Meaning) (h : History) → Stands depth capacity m h → (k s : ℕ) (r : Reading) → is_key k ≡ true →
    version_answer m k s ≡ Ok r → AnsweredAt h m.last k s r
store_true depth capacity m h stands k s r key e =
    let law : AnswerLaw m (h k) k s r = ((law_from_stands depth capacity m h stands).of_keys k key).answers s r e in
    record {
      is_true = record { of_key = key; reaches = law.reaches; known = law.known; current = law.current };
      not_later = law.newest_kept.not_later;
      as_far = law.as_far_as_queried;
    }
