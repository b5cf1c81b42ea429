-- Words of digits alone: they are text, and `parse` reads the number that they tell.
use Rattle.std.proofs.Common.{◌≡◌, ℕ, ◌<◌, ◌^◌, List, length, Option, Some, None, Result, Ok, Err, true, nat_lt, ap, arith, sym, Bor}
use Rattle.std.specs.Char.{is_ascii_digit}
use Rattle.std.specs.List.{list_all}
use Rattle.std.specs.Result.{MatchResult, result_ok}
use Rattle.std.specs.Str.{IsUtf8}
use Rattle.std.specs.Str.Parse.{digits_value, ParsesUnsigned}
use Rattle.std.proofs.Common.{rules}
use Rattle.std.proofs.lemmas.Bool.{lt-ltb}
use Rattle.std.proofs.lemmas.Bool.Decides.{nat_tests}
use Rattle.std.proofs.lemmas.Fmt.{IsAscii-from_digits}
use Rattle.std.proofs.lemmas.Str.{IsUtf8-from_ascii}
use Rattle.std.proofs.lemmas.Str.Parse.{IsNumeralModel, numerals_by_value, parse_digits}
use Rattle.script.specs.Numbers.{parsed_number}

none_some : {X : Type 0} (x : X) → ◌≡◌ {A = Option X} None (Some x) → ⊥
none_some x e = cc

own : IsNumeralModel (λ ds. list_all is_ascii_digit ds ≡ true) (digits_value 10)
own = numerals_by_value _ (search rules)

pub digits_are_text : (ds : List ℕ) → list_all is_ascii_digit ds ≡ true → IsUtf8 ds
digits_are_text ds digits = IsUtf8-from_ascii ds (IsAscii-from_digits ds (own.to ds digits))

none_there : (ds : List ℕ) → ¬ ((0 < length ds) × (digits_value 10 ds < 2 ^ 64)) → parsed_number ds ≡ None
none_there ds h = grind (arith, nat_tests)

pub number_is : {E : Type 0} (ds : List ℕ) (r : Result ℕ E) → list_all is_ascii_digit ds ≡ true → ParsesUnsigned {E = E} 64 10 ds r → result_ok r ≡ parsed_number ds
number_is {E} ds (Ok x) digits p =
    let h = parse_digits own {E = E} 64 ds (Ok x) p digits in
    let a : nat_lt 0 (length ds) ≡ true = lt-ltb _ _ h.0.0 in
    let b : nat_lt (digits_value 10 ds) (2 ^ 64) ≡ true = lt-ltb _ _ h.0.1 in
    rw (digits, a, b) (ap Some h.1)
number_is {E} ds (Err e) digits p = sym (none_there ds (parse_digits own {E = E} 64 ds (Err e) p digits))

-- what `from_utf8` says of these bytes
pub text_is : {V : Type 0} (bs : List ℕ) (Q : V → Type 0) (r : Result (Bor (List ℕ)) V) (t : Bor (List ℕ)) → MatchResult r (λ s. (s.now ≡ bs) × IsUtf8 bs) Q → result_ok r ≡ Some t → t.now ≡ bs
text_is bs Q (Ok s) t m same = let e : s ≡ t = cc in rw (← e) m.0
text_is bs Q (Err e) t m same = absurd (none_some t same)

pub no_refusal : {V : Type 0} (bs : List ℕ) (P : V → Type 0) (r : Result (Bor (List ℕ)) V) → MatchResult r (λ s. (s.now ≡ bs) × IsUtf8 bs) (λ e. ¬ (IsUtf8 bs) × P e) → IsUtf8 bs → result_ok r ≡ None → ⊥
no_refusal bs P (Ok s) m u none = none_some s (sym none)
no_refusal bs P (Err e) m u none = m.0 u
