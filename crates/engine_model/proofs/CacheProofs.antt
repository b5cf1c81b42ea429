-- The caches that hold keep their laws.
use Rattle.std.proofs.Common.{◌≡◌, ℕ, ◌-◌, true, ◌==◌, nat_lt, [], ◌∷◌, ◌++◌, length, Some, None, Option, refl, inl, inr, arith}
use Rattle.std.specs.List.{ContainsAt as Has, AllByRecursion}
use Rattle.std.proofs.ByRecursion.{All-drop, all_has_itself, All-push, All-weaker, has_append_right}
use Rattle.std.proofs.lemmas.Bool.{cond_both, eqb-true}
use Rattle.std.proofs.lemmas.Bool.Decides.{nat_tests}
use Rattle.snapshot.specs.Intervals.{meets_reading}
use Rattle.snapshot.specs.Limits.{cache_keys}
use Rattle.snapshot.specs.declared.account.Reading.{Reading}
use Rattle.snapshot.specs.declared.interval.Interval.{Interval}
use Rattle.engine_model.specs.Caches.{Cache, entry_of, look_up, if_meets, answering, without, used_latest, is_later_than, with_answer, widened, noticed, with_notice}
use Rattle.engine_model.specs.RuleLaws.{AddedTo, AfterNotice, CacheLaws}
use Rattle.engine_model.specs.Rules.{the_caches}
use Rattle.engine_model.specs.declared.records.CacheEntry.{CacheEntry}
use Rattle.engine_model.specs.declared.records.Notice.{Notice}

-- What answers.

look_up_finds : (k : ℕ) (c : Cache) (e : CacheEntry) → look_up k c ≡ Some e → Has c e × (e.key ≡ k)
look_up_finds k [] e = λ h. absurd (grind arith)
look_up_finds k (x ∷ xs) e =
    cond_both (x.key == k) _ _ (λ o. o ≡ Some e → Has (x ∷ xs) e × (e.key ≡ k))
    (λ t h. ((0, omega arith, λ _. cc), grind (arith, nat_tests)))
    (λ _ h. let rest = look_up_finds k xs e h in (has_append_right (x ∷ []) xs e rest.0, rest.1))

if_meets_lem :
    (i : Interval) (o : Option CacheEntry) (e : CacheEntry) → if_meets i o ≡ Some e →
    (o ≡ Some e) × (meets_reading i e.reading ≡ true)
if_meets_lem i None e = λ h. absurd (grind arith)
if_meets_lem i (Some x) e =
    cond_both (meets_reading i x.reading) _ _ (λ o. o ≡ Some e → (Some x ≡ Some e) × (meets_reading i e.reading ≡ true))
    (λ t h. let same : x ≡ e = cc in (h, rw same at t))
    (λ _ h. absurd (grind arith))

answer_is :
    (i : Interval) (k : ℕ) (c : Cache) (e : CacheEntry) → answering i k c ≡ Some e →
    Has c e × (e.key ≡ k) × (meets_reading i e.reading ≡ true)
answer_is i k c e h =
    let met = if_meets_lem i (look_up k c) e h in
    let found = look_up_finds k c e met.0 in
    (found.0, found.1, met.1)

-- What a cache has after a call.

pub all_without : (P : CacheEntry → Type 0) (k : ℕ) (c : Cache) → AllByRecursion P c → AllByRecursion P (without k c)
all_without P k [] all = tt
all_without P k (e ∷ es) all =
    cond_both (e.key == k) _ _ (AllByRecursion P) (λ _. all.1) (λ _. (all.0, all_without P k es all.1))

all_used : (P : CacheEntry → Type 0) (e : CacheEntry) (c : Cache) → AllByRecursion P c → P e → AllByRecursion P (used_latest e c)
all_used P e c all here =
    All-drop P (length (without e.key c ++ (e ∷ [])) - cache_keys) _ (All-push P (without e.key c) e (all_without P e.key c all) here)

-- what a notice makes of an entry of its key is all that it adds
pub all_noticed :
    (P Q : CacheEntry → Type 0) (n : Notice) → ((e : CacheEntry) → P e → Q e) →
    ((e : CacheEntry) → e.key ≡ n.key → P e → Q (entry_of e.key (noticed n.reading e.reading))) → (c : Cache) →
    AllByRecursion P c → AllByRecursion Q (with_notice n c)
all_noticed P Q n keep change [] all = tt
all_noticed P Q n keep change (e ∷ es) all =
    cond_both (e.key == n.key) _ _ (AllByRecursion Q)
    (λ t. (change e (eqb-true _ _ t) all.0, All-weaker P Q keep es all.1))
    (λ _. (keep e all.0, all_noticed P Q n keep change es all.1))

added : (e : CacheEntry) (c : Cache) → AllByRecursion (AddedTo c e) c
added e c = All-weaker (Has c) (AddedTo c e) (λ x h. inl h) c (all_has_itself c)

used_adds : (e : CacheEntry) (c : Cache) → AllByRecursion (AddedTo c e) (used_latest e c)
used_adds e c = all_used (AddedTo c e) e c (added e c) (inr refl)

stored_adds : (s : ℕ) (e : CacheEntry) (c : Cache) → AllByRecursion (AddedTo c e) (with_answer s e c)
stored_adds s e c =
    cond_both (is_later_than s (look_up e.key c)) c (used_latest e c) (AllByRecursion (AddedTo c e)) (λ _. added e c) (λ _. used_adds e c)

notified_change :
    (n : Notice) (c : Cache) (e : CacheEntry) → e.key ≡ n.key → Has c e →
    AfterNotice c n (entry_of e.key (noticed n.reading e.reading))
notified_change n c e same there =
    let Follows : Reading → Type 0 = λ r. AfterNotice c n (entry_of e.key r) in
    let widens : e.reading.timestamp ≡ n.reading.timestamp → Follows (widened e.reading n.reading.promise) = λ t. inr (inr (record { old = e; there = there; same_key = same; same_time = t; as_widened = refl })) in
    let unless_later = cond_both (e.reading.timestamp == n.reading.timestamp) _ _ Follows (λ t. widens (eqb-true _ _ t)) (λ _. inl there) in
    cond_both (nat_lt e.reading.timestamp n.reading.timestamp) _ _ Follows (λ _. inr (inl (cc))) (λ _. unless_later)

-- The laws.

pub the_caches_lawful : CacheLaws the_caches
the_caches_lawful =
    record {
      answers = answer_is;
      used = used_adds;
      stored = stored_adds;
      notified = λ n c. all_noticed (Has c) (AfterNotice c n) n (λ e h. inl h) (notified_change n c) c (all_has_itself c);
    }
