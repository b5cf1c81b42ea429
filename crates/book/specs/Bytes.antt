-- Numbers as bytes, highest first, records one after another, and the exclusive-or of bytes.
use Rattle.std.specs.Prelude.{◌≡◌, ℕ, zero, suc, ◌*◌, ◌/◌, ◌%◌, ◌^◌, ◌<◌, List, [], ◌∷◌, length, take, drop, fold, bit_xor, slice_index, slice_set}
use Rattle.std.specs.Int.Digits.{number_from_digits}

-- the lowest k bytes of n, highest first
abbrev pub highest_first : ℕ → ℕ → List ℕ
highest_first zero n = []
highest_first (suc k) n = (n / 2 ^ (8 * k) % 256) ∷ highest_first k n

-- the number that these many bytes write from this place on, highest first
abbrev pub number_at : ℕ → ℕ → List ℕ → ℕ
number_at at size bs = number_from_digits 256 (take size (drop at bs))

-- count records of this size, one after another
abbrev pub records_from : {X : Type 0} → (List ℕ → X) → ℕ → ℕ → List ℕ → List X
records_from one size zero bs = []
records_from one size (suc count) bs = one bs ∷ records_from one size count (drop size bs)

-- the exclusive-or of all bytes
abbrev pub exclusive_or : List ℕ → ℕ
exclusive_or bs = fold bit_xor 0 bs

-- one changed byte changes the exclusive-or: where it is the same, the byte is as it was
abbrev pub DetectsOneChange : List ℕ → Type 0
DetectsOneChange bs = (i b : ℕ) → i < length bs → exclusive_or (slice_set bs i b) ≡ exclusive_or bs → b ≡ slice_index bs i
