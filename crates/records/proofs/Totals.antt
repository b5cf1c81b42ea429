-- The numbers of all keys together.
use Rattle.std.proofs.Common.{◌≡◌, ℕ, zero, suc, ◌+◌, ◌-◌, ◌<◌, ◌≤◌, ◌==◌, add-one, refl, sym, ap, ◌∙◌, slice_index, get_or, replicate, ⊎_elim, arith}
use Rattle.std.proofs.lemmas.Bool.{cases_Bool, cases_eq, cond_both, cond-true, cond-false, eq-eqb, ne_eqb, ltb-true}
use Rattle.std.proofs.lemmas.List.{get_or-replicate}
use Rattle.snapshot.specs.Limits.{is_key, key_count}
use Rattle.records.specs.PerKeys.{number_for, one_less, total_below, total_of}
use Rattle.records.specs.declared.per_key.PerKey.{PerKey}

pub total_none : (f : ℕ → ℕ) → total_below 0 f ≡ 0
unfolding total_below
total_none f = refl

pub total_more : (n : ℕ) (f : ℕ → ℕ) → total_below (n + 1) f ≡ total_below n f + f n
unfolding total_below
total_more n f = ap (λ m. total_below m f) (add-one n)

-- numbers that agree at each key have the same total
pub total_same : (n : ℕ) (f g : ℕ → ℕ) → ((k : ℕ) → k < n → g k ≡ f k) → total_below n g ≡ total_below n f
unfolding total_below
total_same zero f g same = refl
total_same (suc n) f g same = omega (arith, total_same n f g (λ k lt. same k (omega arith)), same n (omega arith))

-- where one key's number changed, the total changes as it does
pub total_change : (n : ℕ) (f g : ℕ → ℕ) (key : ℕ) → key < n → ((k : ℕ) → (key ≡ k → ⊥) → g k ≡ f k) → total_below n g + f key ≡ total_below n f + g key
unfolding total_below
total_change zero f g key lt others = absurd (omega arith)
total_change (suc n) f g key lt others =
    ⊎_elim
    (λ is. omega (arith, total_same n f g (λ k below. others k (λ e. omega (arith, e, is))), ap f is, ap g is))
    (λ ne. omega (arith, total_change n f g key (omega (arith, ne)) others, others n ne))
    (cases_eq key n)

-- no key has more than all together
pub number_within : (n : ℕ) (f : ℕ → ℕ) (k : ℕ) → k < n → f k ≤ total_below n f
unfolding total_below
number_within zero f k lt = absurd (omega arith)
number_within (suc n) f k lt =
    ⊎_elim
    (λ is. omega (arith, ap f is))
    (λ ne. omega (arith, number_within n f k (omega (arith, ne))))
    (cases_eq k n)

pub number_le_total : (p : PerKey) (k : ℕ) → number_for p k ≤ total_of (number_for p)
number_le_total p k =
    cond_both (is_key k) (slice_index p.numbers k) 0 (λ n. n ≤ total_of (number_for p))
    (λ key. omega (arith, number_within key_count (number_for p) k (ltb-true k key_count key), cond-true (is_key k) (slice_index p.numbers k) 0 key))
    (λ past. omega arith)

-- a total of 0 is of numbers that are all 0
pub all_none : (p : PerKey) → total_of (number_for p) ≡ 0 → (k : ℕ) → number_for p k ≡ 0
all_none p none k = omega (arith, number_le_total p k)

pub none_total : (n : ℕ) (f : ℕ → ℕ) → ((k : ℕ) → f k ≡ 0) → total_below n f ≡ 0
unfolding total_below
none_total zero f none = refl
none_total (suc n) f none = omega (arith, none_total n f none, none n)

-- taking one from a key that has some takes one from the total
pub total_less : (p q : PerKey) (key : ℕ) → 0 < number_for p key → ((k : ℕ) → number_for q k ≡ one_less (number_for p) key k) → total_of (number_for p) ≡ total_of (number_for q) + 1
total_less p q key some after =
    let here : number_for q key ≡ number_for p key - 1 = after key ∙ cond-true (key == key) (number_for p key - 1) (number_for p key) (eq-eqb key key refl) in
    let others : (k : ℕ) → (key ≡ k → ⊥) → number_for q k ≡ number_for p k =
    λ k ne. after k ∙ cond-false (k == key) (number_for p k - 1) (number_for p k) (ne_eqb k key (λ e. ne (sym e)))
    in
    ⊎_elim
    (λ key_in. omega (arith, total_change key_count (number_for p) (number_for q) key (ltb-true key key_count key_in) others, here))
    (λ past. absurd (omega (arith, cond-false (is_key key) (slice_index p.numbers key) 0 past)))
    (cases_Bool (is_key key))

-- each of 64 zeros is 0
pub none_at : (k : ℕ) → number_for (record { numbers = replicate key_count 0 }) k ≡ 0
none_at k = cond_both (is_key k) (get_or (replicate key_count 0) k 0) 0 (λ x. x ≡ 0) (λ key. get_or-replicate key_count k 0 0 (ltb-true k key_count key)) (λ _. refl)
