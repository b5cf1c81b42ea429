-- Where a write goes in a write set, and that no write makes one shorter.
use Rattle.std.proofs.Common.{◌≡◌, ℕ, suc, ◌+◌, ◌<◌, ◌≤◌, Bool, not, ◌==◌, List, [], ◌∷◌, length, drop, get_or, drop-cons, Some, None, Ok, Err, Option, Result, refl, sym, ap, ◌∙◌, arith}
use Rattle.std.specs.List.{position, position_or_len, find, insert}
use Rattle.std.specs.Option.{option_map, unwrap_or}
use Rattle.std.specs.Result.{result_and}
use Rattle.std.proofs.lemmas.Bool.Decides.{nat_tests}
use Rattle.std.proofs.lemmas.List.{drop_all, length-set, length-append, length-take, length-drop}
use Rattle.std.proofs.lemmas.List.Sums.{prefix_len-le-length}
use Rattle.snapshot.specs.Limits.{write_keys}
use Rattle.snapshot.specs.declared.account.Write.{Write}
use Rattle.snapshot.specs.declared.fault.Refusal.{Refusal}
use Rattle.store.specs.Meaning.{written_to}
use Rattle.engine_model.specs.WriteSets.{place_of_write, place_by_order, written_at, with_write, united}
use Rattle.engine_parts.specs.WriteSets.{fit_or_refused}

-- A look-up.

-- the first write to a key gives its value
pub value_found : (k : ℕ) (ws : List Write) → written_to k ws ≡ option_map (λ w. w.value) (find (λ w. w.key == k) ws)
value_found k [] = refl
value_found k (w ∷ ws) = let rest = value_found k ws in grind (arith, nat_tests)

-- The place of a write.

pub first_or_end : (test : Write → Bool) (ws : List Write) → unwrap_or (position test ws) (length ws) ≡ position_or_len test ws
first_or_end test ws = let le = prefix_len-le-length (λ w. not (test w)) ws in grind (arith, nat_tests)

-- The answer to a write.

abbrev pub answer_for : List Write → Result (Unit {0}) Refusal
answer_for ws = result_and (fit_or_refused ws) (Ok tt)

-- A join.

longer : (w : Write) (ws : List Write) (i : ℕ) → length (insert ws i w) ≡ length ws + 1
longer w ws i = simp length-append (omega (arith, length-take i ws, length-drop i ws))

write_grows : (w : Write) (ws : List Write) → length ws ≤ length (with_write w ws)
write_grows w ws = at (place_of_write w.key ws)
  where
    at : (place : Option ℕ) → length ws ≤ length (written_at place w ws)
    at (Some i) = omega (arith, length-set ws i w)
    at None = omega (arith, longer w ws (place_by_order w.key ws))

join_grows : (first ws : List Write) → length first ≤ length (united first ws)
join_grows first [] = omega arith
join_grows first (w ∷ ws) = omega (arith, write_grows w first, join_grows (with_write w first) ws)

-- what did not fit does not fit when more is written
stays_refused : (first ws : List Write) (r : Refusal) → Err r ≡ answer_for first → Err r ≡ fit_or_refused (united first ws)
stays_refused first ws r e = let more = join_grows first ws in grind (arith, nat_tests)

-- What became of the two sets so far, with the writes from place i on left.
module _ (both ws all : List Write) (i : ℕ) (left : united both (drop i ws) ≡ all) where
  pub join_refused :
      (d : Write) (r : Refusal) → i < length ws → Err r ≡ answer_for (with_write (get_or ws i d) both) → Err r ≡ fit_or_refused all
  join_refused d r lt e =
      stays_refused (with_write (get_or ws i d) both) (drop (suc i) ws) r e
      ∙ ap (λ xs. fit_or_refused (united both xs)) (sym (drop-cons ws i d lt))
      ∙ ap fit_or_refused left

  pub join_done : length ws ≤ i → length both ≤ write_keys → Ok both ≡ fit_or_refused all
  join_done le fits =
      let e : both ≡ all = ap (united both) (sym (drop_all i ws le)) ∙ left in
      let fit : Ok both ≡ fit_or_refused both = grind (arith, nat_tests) in
      fit ∙ ap fit_or_refused e
