-- Bytes in hexadecimal.
use Rattle.std.proofs.Common.{◌≡◌, ℕ, zero, suc, ◌-◌, ◌/◌, ◌%◌, ◌<◌, Bool, true, false, ◌&&◌, T, eqb, List, [], ◌∷◌, get_or, refl, inl, inr, arith, eq-zero-or-pos, eqb→eq}
use Rattle.std.specs.Fmt.{digit_glyph}
use Rattle.std.specs.List.{flat_map}
use lib.Ieee.Fits.{and_l, and_r}
use Rattle.hex.specs.Hex.{encode_lower, encode_with, lower_digits}
use Rattle.script.specs.Shown.{hex_byte}

-- the table's digits, which compute
abbrev are_glyphs : ℕ → Bool
are_glyphs zero = true
are_glyphs (suc d) = eqb (get_or lower_digits d 0) (digit_glyph false d) && are_glyphs d

below : (n d : ℕ) → T (are_glyphs n) → d < n → get_or lower_digits d 0 ≡ digit_glyph false d
below zero d t lt = absurd (omega arith)
below (suc n) d t lt =
    elim (eq-zero-or-pos (n - d)) [
      | inl z ↦ let e : d ≡ n = omega arith in rw e (eqb→eq _ _ (and_l _ (are_glyphs n) t))
      | inr g ↦ below n d (and_r _ (are_glyphs n) t) (omega arith)
    ]

glyph : (d : ℕ) → d < 16 → get_or lower_digits d 0 ≡ digit_glyph false d
glyph d lt = below 16 d tt lt

pub encoded : (bs : List ℕ) → ((i : ℕ) → get_or bs i 0 < 256) → encode_lower bs ≡ flat_map hex_byte bs
unfolding encode_with
encoded [] are = refl
encoded (b ∷ bs) are =
    let small : b < 256 = are 0 in
    rw (glyph (b / 16) (omega arith), glyph (b % 16) (omega arith), encoded bs (λ i. are (suc i))) refl
