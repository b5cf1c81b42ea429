-- Caches are in shape: at most eight entries, one for a key, in the order of their use.
use Rattle.std.proofs.Common.{◌≡◌, ℕ, zero, suc, ◌+◌, ◌-◌, ◌==◌, [], ◌∷◌, ◌++◌, map, length, drop, Some, refl, ap, arith}
use Rattle.std.proofs.ByRecursion.{All-drop, All-push}
use Rattle.std.proofs.lemmas.List.{drop-append-le, length-drop, length-map, length_push}
use Rattle.std.proofs.lemmas.Bool.{cond_both, eqb-true, eqb-false, ne_eqb}
use Rattle.std.proofs.lemmas.Bool.Decides.{nat_tests}
use Rattle.snapshot.specs.Limits.{cache_keys}
use Rattle.engine_model.specs.CacheShape.{NoneOf, Apart, Shaped, CacheShape}
use Rattle.engine_model.specs.Caches.{Cache, look_up, without, last_eight, used_latest, is_later_than, with_answer, with_notice}
use Rattle.engine_model.specs.declared.records.CacheEntry.{CacheEntry}
use Rattle.engine_model.specs.declared.records.Notice.{Notice}
use Rattle.engine_model.proofs.CacheProofs.{all_without, all_noticed}

-- Entries of different keys.

apart_drop : (n : ℕ) (c : Cache) → Apart c → Apart (drop n c)
apart_drop zero c a = a
apart_drop (suc n) [] a = tt
apart_drop (suc n) (x ∷ xs) a = apart_drop n xs a.1

apart_push : (c : Cache) (e : CacheEntry) → Apart c → NoneOf e.key c → Apart (c ++ (e ∷ []))
apart_push [] e a none = (tt, tt)
apart_push (x ∷ xs) e a none =
    (All-push (λ y. y.key ≡ x.key → ⊥) xs e a.0 (λ same. none.0 (cc)), apart_push xs e a.1 none.1)

apart_without : (k : ℕ) (c : Cache) → Apart c → Apart (without k c)
apart_without k [] a = tt
apart_without k (x ∷ xs) a =
    cond_both (x.key == k) _ _ Apart
    (λ _. a.1)
    (λ _. (all_without (λ y. y.key ≡ x.key → ⊥) k xs a.0, apart_without k xs a.1))

none_without : (k : ℕ) (c : Cache) → Apart c → NoneOf k (without k c)
none_without k [] a = tt
none_without k (x ∷ xs) a =
    cond_both (x.key == k) _ _ (NoneOf k)
    (λ t. rw (eqb-true _ _ t) at a.0)
    (λ f. (eqb-false _ _ f, none_without k xs a.1))

without_none : (k : ℕ) (c : Cache) → NoneOf k c → without k c ≡ c
without_none k [] none = refl
without_none k (x ∷ xs) none = rw (ne_eqb x.key k none.0, without_none k xs none.1)

look_up_last : (e : CacheEntry) (c : Cache) → NoneOf e.key c → look_up e.key (c ++ (e ∷ [])) ≡ Some e
look_up_last e [] none = grind (arith, nat_tests)
look_up_last e (x ∷ xs) none = rw (ne_eqb x.key e.key none.0) (look_up_last e xs none.1)

-- The last eight.

-- one more entry is among them, with as many of the others as there is room for
last_eight_push : (c : Cache) (e : CacheEntry) → last_eight (c ++ (e ∷ [])) ≡ drop (length c + 1 - cache_keys) c ++ (e ∷ [])
last_eight_push c e = rw length_push (drop-append-le (length c + 1 - cache_keys) c (e ∷ []) (omega arith))

-- What an entry that is used leaves.

used_new : (e : CacheEntry) (c : Cache) → NoneOf e.key c → used_latest e c ≡ drop (length c + 1 - cache_keys) c ++ (e ∷ [])
used_new e c none = rw (without_none e.key c none) (last_eight_push c e)

used_found : (e : CacheEntry) (c : Cache) → Shaped c → look_up e.key (used_latest e c) ≡ Some e
used_found e c s =
    let others : Cache = without e.key c in
    let none = All-drop (λ x. x.key ≡ e.key → ⊥) (length others + 1 - cache_keys) others (none_without e.key c s.apart) in
    rw (last_eight_push others e) (look_up_last e _ none)

pub used_shaped : (e : CacheEntry) (c : Cache) → Shaped c → Shaped (used_latest e c)
used_shaped e c s =
    let others : Cache = without e.key c in
    let apart = apart_push others e (apart_without e.key c s.apart) (none_without e.key c s.apart) in
    record { few_enough = simp length-drop (omega arith); apart = apart_drop (length (others ++ (e ∷ [])) - cache_keys) _ apart }

pub stored_shaped : (s : ℕ) (e : CacheEntry) (c : Cache) → Shaped c → Shaped (with_answer s e c)
stored_shaped s e c shaped =
    cond_both (is_later_than s (look_up e.key c)) c (used_latest e c) Shaped (λ _. shaped) (λ _. used_shaped e c shaped)

-- A notice.

noticed_keys : (n : Notice) (c : Cache) → map (λ e. e.key) (with_notice n c) ≡ map (λ e. e.key) c
noticed_keys n [] = refl
noticed_keys n (x ∷ xs) =
    cond_both (x.key == n.key) _ _ (λ c. map (λ e. e.key) c ≡ x.key ∷ map (λ e. e.key) xs)
    (λ _. refl)
    (λ _. ap (λ ks. x.key ∷ ks) (noticed_keys n xs))

none_noticed : (k : ℕ) (n : Notice) (c : Cache) → NoneOf k c → NoneOf k (with_notice n c)
none_noticed k n c none = all_noticed (λ e. e.key ≡ k → ⊥) (λ e. e.key ≡ k → ⊥) n (λ e h. h) (λ e _ h. h) c none

apart_noticed : (n : Notice) (c : Cache) → Apart c → Apart (with_notice n c)
apart_noticed n [] a = tt
apart_noticed n (x ∷ xs) a =
    cond_both (x.key == n.key) _ _ Apart (λ _. a) (λ _. (none_noticed x.key n xs a.0, apart_noticed n xs a.1))

pub noticed_shaped : (n : Notice) (c : Cache) → Shaped c → Shaped (with_notice n c)
noticed_shaped n c s =
    record {
      few_enough = omega (arith, simp length-map at (ap length (noticed_keys n c)));
      apart = apart_noticed n c s.apart;
    }

-- The shape.

pub cache_shape : CacheShape
cache_shape =
    record {
      empty = record { few_enough = omega arith; apart = tt };
      used = used_shaped;
      stored = stored_shaped;
      notified = noticed_shaped;
      found = used_found;
      latest = λ e c. (_, last_eight_push (without e.key c) e);
      joins = λ e c few none. let z : length c + 1 - cache_keys ≡ 0 = omega arith in rw z at (used_new e c none);
      gives_way = λ e c full none. let one : length c + 1 - cache_keys ≡ 1 = omega arith in rw one at (used_new e c none);
      same_keys = noticed_keys;
    }
