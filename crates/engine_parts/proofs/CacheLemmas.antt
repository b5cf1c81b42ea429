-- What the place of a key's entry tells of a cache without it, and of one that takes a notice.
use Rattle.std.proofs.Common.{◌≡◌, ℕ, zero, suc, Bool, true, false, cond, eqb, [], ◌∷◌, set, Some, None, Option, refl, sym, ap, ◌∙◌}
use Rattle.std.specs.List.{slice_get}
use Rattle.std.specs.Option.{option_map}
use Rattle.snapshot.specs.Finding.{first_with}
use Rattle.engine_model.specs.Caches.{Cache, entry_of, without, noticed, with_notice}
use Rattle.engine_model.specs.declared.records.CacheEntry.{CacheEntry}
use Rattle.engine_model.specs.declared.records.Notice.{Notice}

-- the place of the key's entry
abbrev pub place_of_entry : ℕ → Cache → Option ℕ
place_of_entry k c = first_with (λ e. eqb e.key k) c

none_behind : (b : Bool) (r : Option ℕ) → cond b (Some 0) (option_map suc r) ≡ None → (b ≡ false) × (r ≡ None)
none_behind true r e = absurd cc
none_behind false None e = (refl, refl)
none_behind false (Some i) e = absurd cc

-- with no entry of the key nothing is taken out
pub nothing_out : (k : ℕ) (c : Cache) → place_of_entry k c ≡ None → without k c ≡ c
nothing_out k [] e = refl
nothing_out k (x ∷ xs) e =
    let h = none_behind (eqb x.key k) (place_of_entry k xs) e in
    ap (λ b. cond b xs (x ∷ without k xs)) h.0 ∙ ap (λ ys. x ∷ ys) (nothing_out k xs h.1)

-- and a notice has no effect
pub no_entry_unchanged : (n : Notice) (c : Cache) → place_of_entry n.key c ≡ None → with_notice n c ≡ c
no_entry_unchanged n [] e = refl
no_entry_unchanged n (x ∷ xs) e =
    let h = none_behind (eqb x.key n.key) (place_of_entry n.key xs) e in
    ap (λ b. cond b (entry_of x.key (noticed n.reading x.reading) ∷ xs) (x ∷ with_notice n xs)) h.0
    ∙ ap (λ ys. x ∷ ys) (no_entry_unchanged n xs h.1)

-- else the entry takes what the notice makes of its reading
pub notified_at :
    (n : Notice) (c : Cache) (i : ℕ) (e : CacheEntry) → place_of_entry n.key c ≡ Some i → slice_get c i ≡ Some e →
    set c i (entry_of e.key (noticed n.reading e.reading)) ≡ with_notice n c
notified_at n [] i e p g = absurd cc
notified_at n (x ∷ xs) i e p g =
    at_head n x xs e i (eqb x.key n.key) (place_of_entry n.key xs) (λ j q h. notified_at n xs j e q h) p g
  where
    at_head :
        (n : Notice) (x : CacheEntry) (xs : Cache) (e : CacheEntry) (i : ℕ) (b : Bool) (r : Option ℕ) →
        ((j : ℕ) → r ≡ Some j → slice_get xs j ≡ Some e → set xs j (entry_of e.key (noticed n.reading e.reading)) ≡ with_notice n xs) →
        cond b (Some 0) (option_map suc r) ≡ Some i → slice_get (x ∷ xs) i ≡ Some e →
        set (x ∷ xs) i (entry_of e.key (noticed n.reading e.reading))
        ≡ cond b (entry_of x.key (noticed n.reading x.reading) ∷ xs) (x ∷ with_notice n xs)
    at_head n x xs e zero true r later p g = let same : x ≡ e = cc in ap (λ y. entry_of y.key (noticed n.reading y.reading) ∷ xs) (sym same)
    at_head n x xs e (suc j) true r later p g = absurd cc
    at_head n x xs e i false None later p g = absurd cc
    at_head n x xs e zero false (Some k) later p g = absurd cc
    at_head n x xs e (suc j) false (Some k) later p g = ap (λ ys. x ∷ ys) (later j (cc) g)
