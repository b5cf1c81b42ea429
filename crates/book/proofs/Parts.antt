-- A list of bytes put together again from its parts, which stand one after another.
use Rattle.std.proofs.Common.{◌≡◌, ℕ, suc, ◌+◌, ◌<◌, ◌≤◌, List, ◌∷◌, ◌++◌, length, get_or, take, drop, sym, ap, ◌∙◌, ap₂, drop-cons, take-add}
use Rattle.std.proofs.ByRecursion.{All-take, All-drop}
use Rattle.std.proofs.lemmas.List.{length-take-le, take-append-drop, take-take, drop-take, drop-drop}
use Rattle.std.specs.Int.Digits.{AllBelowBase}

-- a part of bytes below 256
pub small_part : (whole at size : ℕ) (bs : List ℕ) → at + size ≤ whole → AllBelowBase 256 (take whole bs) → AllBelowBase 256 (take size (drop at bs))
small_part whole at size bs within small =
    rw (take-take (at + size) whole bs within, drop-take at size bs)
    at (All-drop (λ b. b < 256) at _ (All-take (λ b. b < 256) (at + size) _ small))

-- a byte, and the part behind it
pub byte_then : (at n : ℕ) (bs : List ℕ) {b : ℕ} {l : List ℕ} → at < length bs → b ≡ get_or bs at 0 → l ≡ take n (drop (suc at) bs) → b ∷ l ≡ take (suc n) (drop at bs)
byte_then at n bs within here behind = ap₂ ◌∷◌ here behind ∙ sym (ap (take (suc n)) (drop-cons bs at 0 within))

-- a part, and the part behind it
pub part_then : (at size n : ℕ) (bs : List ℕ) {p l : List ℕ} → p ≡ take size (drop at bs) → l ≡ take n (drop (at + size) bs) → p ++ l ≡ take (size + n) (drop at bs)
part_then at size n bs here behind = rw (take-add, drop-drop) (ap₂ ◌++◌ here behind)

-- a part at the front, and the rest
pub front_then : (size : ℕ) (bs p : List ℕ) → size ≤ length bs → p ≡ take size bs → bs ≡ p ++ drop (length p) bs
front_then size bs p long here = rw (here, length-take-le size bs long) (sym (take-append-drop size bs))
