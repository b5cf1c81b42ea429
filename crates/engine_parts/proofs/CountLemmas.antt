-- How the number of a key's entries goes with what is looked up, and with each change of a cache.
use Rattle.std.proofs.Common.{◌≡◌, ℕ, zero, suc, ◌≤◌, Bool, true, false, cond, eqb, ltb, ◌==◌, List, [], ◌∷◌, ◌++◌, length, set, get_or, is_some, Some, None, Option, refl, sym, ap, ◌∙◌, ⊎_elim, arith}
use Rattle.std.specs.List.{slice_get, remove}
use Rattle.std.specs.Option.{option_map}
use Rattle.std.proofs.lemmas.Bool.{cases_Bool, eqb-true}
use Rattle.std.proofs.lemmas.Bool.Decides.{nat_tests}
use Rattle.std.proofs.lemmas.List.{get_or-set_same, get_or-set_other}
use Rattle.engine_model.specs.Caches.{Cache, look_up, holds, entry_of, without}
use Rattle.snapshot.specs.declared.account.Reading.{Reading}
use Rattle.engine_model.specs.declared.records.CacheEntry.{CacheEntry}
use Rattle.engine_parts.specs.Caches.{entries_of_key, CountsEntries}
use Rattle.engine_parts.proofs.CacheLemmas.{place_of_entry}

-- an entry of the key is there exactly if there is one or more
pub held_if_counted : (k : ℕ) (c : Cache) → ltb 0 (entries_of_key k c) ≡ holds k c
held_if_counted k [] = refl
held_if_counted k (x ∷ xs) = let rest = held_if_counted k xs in grind (arith, nat_tests)

-- with none, nothing is taken out
pub none_out : (k : ℕ) (c : Cache) → holds k c ≡ false → without k c ≡ c
none_out k [] e = refl
none_out k (x ∷ xs) e = at_head (eqb x.key k) (look_up k xs) (none_out k xs) e
  where
    at_head :
        (b : Bool) (r : Option CacheEntry) → (is_some r ≡ false → without k xs ≡ xs) → is_some (cond b (Some x) r) ≡ false →
        cond b xs (x ∷ without k xs) ≡ x ∷ xs
    at_head true r rest e = absurd cc
    at_head false r rest e = ap (λ ys. x ∷ ys) (rest e)

-- the place that is found is that of the entry that is taken out
pub out_at : (k : ℕ) (c : Cache) (i : ℕ) → place_of_entry k c ≡ Some i → remove c i ≡ without k c
out_at k [] i e = absurd cc
out_at k (x ∷ xs) i e = at_head i (eqb x.key k) (place_of_entry k xs) (out_at k xs) e
  where
    at_head :
        (i : ℕ) (b : Bool) (r : Option ℕ) → ((j : ℕ) → r ≡ Some j → remove xs j ≡ without k xs) → cond b (Some 0) (option_map suc r) ≡ Some i →
        remove (x ∷ xs) i ≡ cond b xs (x ∷ without k xs)
    at_head zero true r rest e = refl
    at_head (suc j) true r rest e = absurd cc
    at_head i false None rest e = absurd cc
    at_head zero false (Some j) rest e = absurd cc
    at_head (suc i) false (Some j) rest e = ap (λ ys. x ∷ ys) (rest i (cc))

-- there is one less of the key then, and as many of any other
pub one_less : (k : ℕ) (c : Cache) → holds k c ≡ true → entries_of_key k c ≡ suc (entries_of_key k (without k c))
one_less k [] e = absurd cc
one_less k (x ∷ xs) e = let rest = one_less k xs in grind (arith, nat_tests, rest)

pub others_stay : (k j : ℕ) (c : Cache) → eqb j k ≡ false → entries_of_key j (without k c) ≡ entries_of_key j c
others_stay k j [] ne = refl
others_stay k j (x ∷ xs) ne = let rest = others_stay k j xs ne in grind (arith, nat_tests, rest)

-- an entry more at the end
pub one_more : (k : ℕ) (c : Cache) (e : CacheEntry) → entries_of_key k (c ++ e ∷ []) ≡ cond (eqb e.key k) (suc (entries_of_key k c)) (entries_of_key k c)
one_more k [] e = refl
one_more k (x ∷ xs) e = let rest = one_more k xs e in grind (arith, nat_tests, rest)

-- an entry of the same key in the place of another
pub same_key : (k : ℕ) (c : Cache) (i : ℕ) (e : CacheEntry) (r : Reading) → slice_get c i ≡ Some e → entries_of_key k (set c i (entry_of e.key r)) ≡ entries_of_key k c
same_key k [] i e r g = refl
same_key k (x ∷ xs) zero e r g = let same : x ≡ e = cc in ap (λ y. cond (eqb y.key k) (suc (entries_of_key k xs)) (entries_of_key k xs)) (sym same)
same_key k (x ∷ xs) (suc i) e r g = ap (λ n. cond (eqb x.key k) (suc n) n) (same_key k xs i e r g)

-- there are no more of a key than entries
pub few : (k : ℕ) (c : Cache) → entries_of_key k c ≤ length c
few k [] = omega arith
few k (x ∷ xs) = let rest = few k xs in grind (arith, nat_tests, rest)

-- The number of one key changes.
pub recounted :
    (counts : List ℕ) (c after : Cache) (k n : ℕ) → length counts ≡ 256 → CountsEntries counts c → n ≡ entries_of_key k after →
    ((j : ℕ) → eqb j k ≡ false → entries_of_key j after ≡ entries_of_key j c) → CountsEntries (set counts k n) after
recounted counts c after k n size counted here others j within =
    ⊎_elim
    (λ e.
    let same : j ≡ k = eqb-true j k e in
    ap (λ i. get_or (set counts k n) i 0) same
    ∙ get_or-set_same counts k n 0 (omega (arith, same, within, size))
    ∙ here
    ∙ ap (λ i. entries_of_key i after) (sym same))
    (λ e. get_or-set_other counts k j n 0 (grind (arith, nat_tests)) ∙ counted j within ∙ sym (others j e))
    (cases_Bool (j == k))
