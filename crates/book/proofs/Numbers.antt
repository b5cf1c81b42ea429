-- A number written as bytes reads back as that number, and bytes read as a number are written again as those bytes.
use Rattle.std.proofs.Common.{◌≡◌, ℕ, zero, suc, ◌+◌, ◌*◌, ◌/◌, ◌%◌, ◌^◌, ◌<◌, ◌≤◌, List, [], ◌∷◌, length, take, drop, get_or, refl, sym, ap, ◌∙◌, ◌-◌, drop-cons, ap₂, mod-eq_of_lt, div-one, arith, length-drop}
use Rattle.std.proofs.Math.Nat.{pow-suc}
use Rattle.std.proofs.lemmas.Nat.{pow-add, shr-shr, mod-pow-add}
use Rattle.std.proofs.lemmas.List.{length-take-le, take_rest}
use Rattle.std.specs.Int.Digits.{number_from_digits, number_from_digits_after, AllBelowBase}
use Rattle.std.specs.Int.{byte_at}
use Rattle.byteorder.specs.Endian.{big_bytes, big_from, big_number}
use Rattle.book.specs.Bytes.{highest_first, number_at}
use Rattle.book.proofs.Parts.{small_part}

pub length_big_endian : (k n : ℕ) → length (highest_first k n) ≡ k
length_big_endian zero n = refl
length_big_endian (suc k) n = ap suc (length_big_endian k n)

after_bytes : (k a n : ℕ) → number_from_digits_after 256 a (highest_first k n) ≡ a * 2 ^ (8 * k) + n % 2 ^ (8 * k)
after_bytes zero a n = omega arith
after_bytes (suc k) a n =
    let e : 8 * suc k ≡ 8 + 8 * k = omega arith in
    rw (e, mod-pow-add n 8 (8 * k), pow-add 2 8 (8 * k)) (omega (arith, after_bytes k (a * 256 + n / 2 ^ (8 * k) % 256) n))

pub number_bytes : (k n : ℕ) → n < 2 ^ (8 * k) → number_from_digits 256 (highest_first k n) ≡ n
number_bytes k n small = omega (arith, after_bytes k 0 n, mod-eq_of_lt small)

-- above the bytes stands the number that was there before them
above_bytes : (a : ℕ) (bs : List ℕ) → AllBelowBase 256 bs → number_from_digits_after 256 a bs / 2 ^ (8 * length bs) ≡ a
above_bytes a [] h = div-one a
above_bytes a (b ∷ bs) h =
    let e : 8 * suc (length bs) ≡ 8 * length bs + 8 = omega arith in
    let n = number_from_digits_after 256 (a * 256 + b) bs in
    rw e (omega (arith, shr-shr n (8 * length bs) 8, above_bytes (a * 256 + b) bs h.1))

bytes_after : (a : ℕ) (bs : List ℕ) → AllBelowBase 256 bs → highest_first (length bs) (number_from_digits_after 256 a bs) ≡ bs
bytes_after a [] h = refl
bytes_after a (b ∷ bs) h =
    let first : number_from_digits_after 256 (a * 256 + b) bs / 2 ^ (8 * length bs) % 256 ≡ b = omega (arith, above_bytes (a * 256 + b) bs h.1) in
    ap₂ ◌∷◌ first (bytes_after (a * 256 + b) bs h.1)

pub bytes_number : (bs : List ℕ) → AllBelowBase 256 bs → highest_first (length bs) (number_from_digits 256 bs) ≡ bs
bytes_number bs h = bytes_after 0 bs h

-- the same for a part of the bytes
pub bytes_at : (whole at size : ℕ) (bs : List ℕ) → at + size ≤ whole → whole ≤ length bs → AllBelowBase 256 (take whole bs) → highest_first size (number_at at size bs) ≡ take size (drop at bs)
bytes_at whole at size bs within long small =
    let part = take size (drop at bs) in
    let sized : length part ≡ size = length-take-le size (drop at bs) (simp length-drop (omega arith)) in
    rw sized at (bytes_number part (small_part whole at size bs within small))

-- The words of `byteorder` say the same.

pow_256 : (k : ℕ) → 256 ^ k ≡ 2 ^ (8 * k)
pow_256 zero = refl
pow_256 (suc k) =
    let e : 8 * suc k ≡ 8 + 8 * k = omega arith in
    rw (e, pow-add 2 8 (8 * k), pow-suc 256 k) (omega (arith, pow_256 k))

byte_is : (k n : ℕ) → byte_at k n ≡ n / 2 ^ (8 * k) % 256
byte_is zero n = sym (ap (λ m. m % 256) (div-one n))
byte_is (suc k) n = ap (λ m. n / m % 256) (pow_256 (suc k))

pub big_bytes_are : (k n : ℕ) → big_bytes k n ≡ highest_first k n
big_bytes_are zero n = refl
big_bytes_are (suc k) n = ap₂ ◌∷◌ (byte_is k n) (big_bytes_are k n)

number_after : (k i a : ℕ) (bs : List ℕ) → i + k ≤ length bs → number_from_digits_after 256 a (take k (drop i bs)) ≡ a * 256 ^ k + big_from i k bs
number_after zero i a bs h = omega arith
number_after (suc k) i a bs h =
    rw (drop-cons bs i 0 (omega arith), pow-suc 256 k)
    (omega (arith, number_after k (suc i) (a * 256 + get_or bs i 0) bs (omega arith)))

-- a number read at the front of the part from a place on is the number at that place
pub big_number_at : (at k : ℕ) (bs : List ℕ) → at + k ≤ length bs → big_number k (take (length bs - at) (drop at bs)) ≡ number_at at k bs
big_number_at at k bs h =
    rw (take_rest bs at) (sym (number_after k 0 0 (drop at bs) (simp length-drop (omega arith)) ∙ omega arith))
