-- Keys that are in range and rise from each to the next.
use Rattle.std.proofs.Common.{◌≡◌, ℕ, zero, suc, ◌<◌, ◌≤◌, Bool, true, false, ◌&&◌, nat_le, nat_lt, List, [], ◌∷◌, length, slice_index_or, refl, sym, ap, subst, ◌∙◌, add-one, arith}
use Rattle.std.specs.List.{IsAllAdjacentAnswer, list_all}
use Rattle.std.proofs.lemmas.Bool.{ltb-true, le-leb, and_left, and_right}
use Rattle.snapshot.specs.Accounts.{rising_from}
use Rattle.snapshot.specs.Limits.{is_key}
use Rattle.snapshot.specs.declared.account.Write.{Write}

abbrev pub has_fit_key : Write → Bool
has_fit_key w = is_key w.key

abbrev pub is_below : Write → Write → Bool
is_below v w = nat_lt v.key w.key

-- where each key is below the next, and the first one is k or above, they rise from k if they are in range
rising_where_sorted : (k : ℕ) (ws : List Write) → ((i : ℕ) (d : Write) → suc i < length ws → is_below (slice_index_or ws i d) (slice_index_or ws (suc i) d) ≡ true) → ((d : Write) → 0 < length ws → k ≤ (slice_index_or ws 0 d).key) → rising_from k ws ≡ list_all has_fit_key ws
rising_where_sorted k [] sorted first = refl
rising_where_sorted k (w ∷ ws) sorted first =
    let rest : rising_from (suc w.key) ws ≡ list_all has_fit_key ws =
    rising_where_sorted (suc w.key) ws (λ i d lt. sorted (suc i) d (omega (arith, lt)))
    (λ d lt. ltb-true w.key (slice_index_or ws 0 d).key (sorted 0 d (omega (arith, lt)))) in
    ap (λ b. b && is_key w.key && rising_from (suc w.key) ws) (le-leb k w.key (first w (omega arith))) ∙ ap (λ b. is_key w.key && b) rest

-- where some key is not below the next, they don't rise
not_rising : (k : ℕ) (ws : List Write) (i : ℕ) → suc i < length ws → ((d : Write) → is_below (slice_index_or ws i d) (slice_index_or ws (suc i) d) ≡ false) → false ≡ rising_from k ws
not_rising k [] i lt e = absurd (omega (arith, lt))
not_rising k (w ∷ []) i lt e = absurd (omega (arith, lt))
not_rising k (w ∷ v ∷ ws) zero lt e =
    let next = nat_le (suc w.key) v.key in
    sym (and_right (nat_le k w.key && is_key w.key) _ (and_left (next && is_key v.key) (rising_from (suc v.key) ws) (and_left next (is_key v.key) (e w))))
not_rising k (w ∷ v ∷ ws) (suc i) lt e =
    sym (and_right (nat_le k w.key && is_key w.key) _ (sym (not_rising (suc w.key) (v ∷ ws) i (omega (arith, lt)) e)))

-- so two looks tell whether writes rise: is each key below the next, and are all in range?
pub rising_by_two_looks : (ws : List Write) (sorted : Bool) → IsAllAdjacentAnswer (λ v w b. b ≡ is_below v w) ws sorted → (sorted && list_all has_fit_key ws) ≡ rising_from 0 ws
rising_by_two_looks ws true s =
    let below : (i : ℕ) (d : Write) → suc i < length ws → is_below (slice_index_or ws i d) (slice_index_or ws (suc i) d) ≡ true =
    λ i d lt. subst (λ j. is_below (slice_index_or ws i d) (slice_index_or ws j d) ≡ true) (add-one i) (sym (s i d (omega (arith, lt)))) in
    sym (rising_where_sorted 0 ws below (λ d lt. omega arith))
rising_by_two_looks ws false (i, lt, e) =
    let fails : (d : Write) → is_below (slice_index_or ws i d) (slice_index_or ws (suc i) d) ≡ false =
    λ d. subst (λ j. is_below (slice_index_or ws i d) (slice_index_or ws j d) ≡ false) (add-one i) (sym (e d)) in
    not_rising 0 ws i (omega (arith, lt)) fails
