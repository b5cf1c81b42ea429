-- A prune: which versions of a key it drops, in the order of their timestamps.
use Rattle.std.proofs.Common.{◌≡◌, ℕ, zero, suc, ◌<◌, ◌≤◌, min, true, false, List, [], ◌∷◌, take, drop, sym, refl, ap, ⊎_elim, le_of_suc-le-suc, not-suc-le-zero, arith}
use Rattle.std.specs.List.{ContainsAt as Has, AllByRecursion}
use Rattle.std.proofs.ByRecursion.{All-drop, all-has, All-weaker}
use Rattle.std.proofs.lemmas.Bool.{cases_lt, cond_both, lt-leb}
use Rattle.std.proofs.lemmas.Bool.Decides.{nat_tests}
use Rattle.std.proofs.lemmas.List.{take-append-drop}
use Rattle.store.specs.Laws.{Rises, PruneLaw}
use Rattle.store.specs.Meaning.{some_up_to, outdated}
use Rattle.store.specs.declared.version.Version.{Version}
use Rattle.store.proofs.Versions.{Later, has_behind}

-- What stands in a list is its first or one of the others.

pub first_or_later : (P : Type 0) (x : Version) (xs : List Version) (v : Version) → (x ≡ v → P) → (Has xs v → P) → Has (x ∷ xs) v → P
first_or_later P x xs v first later (zero, lt, at) = first (at x)
first_or_later P x xs v first later (suc i, lt, at) = later (i, le_of_suc-le-suc lt, at)

-- Is there one not above h?

some_found : (h : ℕ) (vs : List Version) → some_up_to h vs ≡ true → (w : Version) × Has vs w × (w.timestamp ≤ h)
some_found h [] e = absurd (grind arith)
some_found h (v ∷ vs) e =
    ⊎_elim
    (λ lt. let rest = some_found h vs (rw (lt-leb v.timestamp h lt) at e) in (rest.0, has_behind v vs rest.0 rest.1, rest.2))
    (λ le. (v, (0, omega arith, λ _. refl), le))
    (cases_lt h v.timestamp)

none_found : (h : ℕ) (vs : List Version) → some_up_to h vs ≡ false → Later h vs
none_found h [] e = tt
none_found h (v ∷ vs) e = (grind (arith, nat_tests), none_found h vs (grind arith))

-- What is left of a list that rises.

-- nothing older than a version that is not above h
left_from : (h : ℕ) (vs : List Version) → Rises vs → (w : Version) → w.timestamp ≤ h → Has vs w → AllByRecursion (λ u. w.timestamp ≤ u.timestamp) (drop (outdated h vs) vs)
left_from h [] r w le has = tt
left_from h (v ∷ vs) r w le has =
    let P : List Version → Type 0 = λ us. AllByRecursion (λ u. w.timestamp ≤ u.timestamp) us in
    let behind : v ≡ w → P vs = λ same. All-weaker (λ u. v.timestamp < u.timestamp) (λ u. w.timestamp ≤ u.timestamp) (λ u lt. omega (arith, ap (λ x. x.timestamp) same)) vs r.0 in
    cond_both (some_up_to h vs) (suc (outdated h vs)) 0 (λ n. P (drop n (v ∷ vs)))
    (λ e. first_or_later (P (drop (outdated h vs) vs)) v vs w (λ same. All-drop (λ u. w.timestamp ≤ u.timestamp) (outdated h vs) vs (behind same)) (λ later. left_from h vs r.1 w le later) has)
    (λ e. first_or_later (P (v ∷ vs)) v vs w (λ same. (omega (arith, ap (λ x. x.timestamp) same), behind same)) (λ later. absurd (omega (arith, all-has (λ u. h < u.timestamp) vs w (none_found h vs e) later))) has)

-- whatever is dropped has a newer one that is not above h
newer_kept : (h : ℕ) (vs : List Version) → Rises vs → (v : Version) → Has vs v → (Has (drop (outdated h vs) vs) v → ⊥) → (w : Version) × Has vs w × (v.timestamp < w.timestamp) × (w.timestamp ≤ h)
newer_kept h [] r v has gone = absurd (not-suc-le-zero has.1)
newer_kept h (x ∷ vs) r v has gone =
    let Newer : Type 0 = (w : Version) × Has (x ∷ vs) w × (v.timestamp < w.timestamp) × (w.timestamp ≤ h) in
    cond_both (some_up_to h vs) (suc (outdated h vs)) 0 (λ n. (Has (drop n (x ∷ vs)) v → ⊥) → Newer)
    (λ e gone.
    first_or_later Newer x vs v
    (λ same. let found = some_found h vs e in (found.0, has_behind x vs found.0 found.1, omega (arith, ap (λ y. y.timestamp) same, all-has (λ u. x.timestamp < u.timestamp) vs found.0 r.0 found.1), found.2))
    (λ later. let rest = newer_kept h vs r.1 v later gone in (rest.0, has_behind x vs rest.0 rest.1, rest.2, rest.3))
    has)
    (λ e gone. absurd (gone has))
    gone

pub prune_law : (h last : ℕ) (vs : List Version) → Rises vs → PruneLaw h last vs (drop (outdated (min h last) vs) vs)
prune_law h last vs r =
    record {
      outdated = λ v w has newer lt le there. omega (arith, all-has (λ u. w.timestamp ≤ u.timestamp) _ v (left_from (min h last) vs r w le newer) there);
      only_outdated = λ v has gone. newer_kept (min h last) vs r v has gone;
      oldest_first = (take (outdated (min h last) vs) vs, sym (take-append-drop _ vs));
    }
