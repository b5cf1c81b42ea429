-- A function with another value at one place: there it has that value, elsewhere what it had.
use mathlib.Core.Path.{fun_ext}
use Rattle.std.proofs.Common.{◌≡◌, ℕ, ◌==◌, sym, refl, subst, ⊎_elim}
use Rattle.std.proofs.lemmas.Bool.{cond-true, cond-false, cond_both, eq-eqb, ne_eqb, eqb-true, cases_Bool}
use Rattle.engine_model.specs.Updates.{with_at}

pub at_same : {X : Type 0} (i : ℕ) (x : X) (f : ℕ → X) → with_at i x f i ≡ x
at_same i x f = cond-true (i == i) x (f i) (eq-eqb i i refl)

pub at_other : {X : Type 0} (i : ℕ) (x : X) (f : ℕ → X) (j : ℕ) → (j ≡ i → ⊥) → with_at i x f j ≡ f j
at_other i x f j ne = cond-false (j == i) x (f j) (ne_eqb j i ne)

-- what holds of the new value and everywhere before, holds everywhere
pub at_each :
    {X : Type 0} (P : ℕ → X → Type 0) (i : ℕ) (x : X) (f : ℕ → X) → P i x → ((j : ℕ) → P j (f j)) → (j : ℕ) →
    P j (with_at i x f j)
at_each P i x f here each j =
    let Q : ℕ → Type 0 = λ k. P k x in
    cond_both (j == i) x (f j) (P j) (λ e. subst Q (sym (eqb-true j i e)) here) (λ _. each j)

-- the same of two functions that change at one place
pub at_each_two :
    {X Y : Type 0} (P : ℕ → X → Y → Type 0) (i : ℕ) (x : X) (f : ℕ → X) (y : Y) (g : ℕ → Y) →
    P i x y → ((j : ℕ) → P j (f j) (g j)) → (j : ℕ) → P j (with_at i x f j) (with_at i y g j)
at_each_two P i x f y g here each j =
    ⊎_elim
    (λ e.
    let Q : ℕ → Type 0 = λ k. P k x y in
    rw (cond-true (j == i) x (f j) e, cond-true (j == i) y (g j) e) (subst Q (sym (eqb-true j i e)) here))
    (λ e. rw (cond-false (j == i) x (f j) e, cond-false (j == i) y (g j) e) (each j))
    (cases_Bool (j == i))

-- what is there, put there again, changes nothing
pub at_same_value : {X : Type 0} (i : ℕ) (x : X) (f : ℕ → X) → x ≡ f i → with_at i x f ≡ f
at_same_value i x f same = fun_ext (at_each (λ j y. y ≡ f j) i x f same (λ j. refl))
