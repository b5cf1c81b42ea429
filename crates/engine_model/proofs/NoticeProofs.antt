-- What holds of the waiting notices and of those that a commit may raise, holds of those that wait after it.
use Rattle.std.proofs.Common.{◌≡◌, ℕ, zero, suc, ◌≤◌, Bool, true, ◌==◌, nat_lt, List, [], ◌∷◌, length, take, drop, Some, Option, refl, ◌∙◌, arith}
use Rattle.std.specs.List.{slice_get, remove, AllByRecursion}
use Rattle.std.proofs.ByRecursion.{All-append, All-drop, All-push, All-take}
use Rattle.std.proofs.lemmas.Bool.{cond_both, cond-true, cond-false, eq-eqb, ne_eqb}
use Rattle.std.proofs.lemmas.Bool.Decides.{nat_tests}
use Rattle.snapshot.specs.Accounts.{rising_from}
use Rattle.snapshot.specs.Limits.{is_key, worker_count, waiting_notices}
use Rattle.snapshot.specs.declared.account.Write.{Write}
use Rattle.store.specs.Meaning.{written_to}
use Rattle.store.proofs.Writes.{rising_later}
use Rattle.engine_model.specs.Caches.{Cache}
use Rattle.engine_model.specs.Engines.{Notices}
use Rattle.engine_model.specs.Notices.{notice_of, raise, raise_below, raise_all}
use Rattle.engine_model.specs.declared.records.Notice.{Notice}

module _ (P : Notice → Type 0) where
  raised_waits : (n : Notice) (ns : Notices) → P n → AllByRecursion P ns.waiting → AllByRecursion P (raise n ns).waiting
  raised_waits n ns here all =
      cond_both (nat_lt (length ns.waiting) waiting_notices) _ _ (λ (after : Notices). AllByRecursion P after.waiting) (λ _. All-push P ns.waiting n all here) (λ _. all)

  all_below_wait :
      (holder : ℕ → Bool) (t : ℕ) (w : Write) (n : ℕ) (ns : Notices) → ((worker : ℕ) → P (notice_of t w worker)) →
      AllByRecursion P ns.waiting → AllByRecursion P (raise_below holder t w n ns).waiting
  all_below_wait holder t w zero ns each all = all
  all_below_wait holder t w (suc n) ns each all =
      let before = all_below_wait holder t w n ns each all in
      cond_both (holder n) _ _ (λ (after : Notices). AllByRecursion P after.waiting) (λ _. raised_waits (notice_of t w n) (raise_below holder t w n ns) (each n) before) (λ _. before)

  pub all_raised_wait :
      (holds_key : ℕ → Cache → Bool) (caches : ℕ → Cache) (t : ℕ) (ws : List Write) (ns : Notices) →
      AllByRecursion (λ w. (worker : ℕ) → P (notice_of t w worker)) ws → AllByRecursion P ns.waiting →
      AllByRecursion P (raise_all holds_key caches t ws ns).waiting
  all_raised_wait holds_key caches t [] ns each all = all
  all_raised_wait holds_key caches t (w ∷ ws) ns each all =
      all_raised_wait holds_key caches t ws _ each.1 (all_below_wait (λ n. holds_key w.key (caches n)) t w worker_count ns each.0 all)

-- a notice at a position is one of those that wait, and the others stay when it goes
pub at_position : {X : Type 0} (P : X → Type 0) (xs : List X) (i : ℕ) (x : X) → slice_get xs i ≡ Some x → AllByRecursion P xs → P x
at_position P [] i x e all = absurd (grind arith)
at_position P (y ∷ ys) zero x e all = let same : y ≡ x = cc in rw same at all.0
at_position P (y ∷ ys) (suc i) x e all = at_position P ys i x e all.1

pub all_removed : {X : Type 0} (P : X → Type 0) (xs : List X) (i : ℕ) → AllByRecursion P xs → AllByRecursion P (remove xs i)
all_removed P xs i all = All-append P (take i xs) (drop (suc i) xs) (All-take P i xs all) (All-drop P (suc i) xs all)

-- Each write of a write set is the one that its key has.

written_from :
    (least : ℕ) (ws : List Write) (f : ℕ → Option ℕ) → ((k : ℕ) → least ≤ k → f k ≡ written_to k ws) →
    rising_from least ws ≡ true → AllByRecursion (λ w. (is_key w.key ≡ true) × (f w.key ≡ Some w.value)) ws
written_from least [] f alike e = tt
written_from least (w ∷ ws) f alike e =
    let here : least ≤ w.key = grind (arith, nat_tests) in
    let found : f w.key ≡ Some w.value = alike w.key here ∙ cond-true (w.key == w.key) _ _ (eq-eqb w.key w.key refl) in
    let behind : (k : ℕ) → suc w.key ≤ k → f k ≡ written_to k ws = λ k le. alike k (omega arith) ∙ cond-false (w.key == k) _ _ (ne_eqb w.key k (omega arith)) in
    ((grind (arith, nat_tests), found), written_from (suc w.key) ws f behind (rising_later least w ws e))

pub written_each :
    (ws : List Write) → rising_from 0 ws ≡ true →
    AllByRecursion (λ w. (is_key w.key ≡ true) × (written_to w.key ws ≡ Some w.value)) ws
written_each ws e = written_from 0 ws (λ k. written_to k ws) (λ k _. refl) e
