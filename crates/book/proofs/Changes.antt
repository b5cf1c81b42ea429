-- One changed byte changes the exclusive-or of bytes.
use Rattle.std.proofs.Common.{◌≡◌, ℕ, zero, suc, List, [], ◌∷◌, set, fold, sym, ap, ◌∙◌, le_of_suc-le-suc, not-suc-le-zero}
use lib.Bits.{bit_xor, xor_assoc, xor_comm, xor_self, xor_zero_l, xor_zero_r}
use Rattle.book.specs.Bytes.{DetectsOneChange, exclusive_or}

-- a start may as well be added last
start_last : (a : ℕ) (bs : List ℕ) → fold bit_xor a bs ≡ bit_xor a (exclusive_or bs)
start_last a [] = sym (xor_zero_r a)
start_last a (b ∷ bs) =
    start_last (bit_xor a b) bs
    ∙ xor_assoc a b (exclusive_or bs)
    ∙ ap (bit_xor a) (sym (start_last b bs) ∙ ap (λ n. fold bit_xor n bs) (sym (xor_zero_l b)))

first : (b : ℕ) (bs : List ℕ) → exclusive_or (b ∷ bs) ≡ bit_xor b (exclusive_or bs)
first b bs = ap (λ n. fold bit_xor n bs) (xor_zero_l b) ∙ start_last b bs

twice : (a x : ℕ) → bit_xor a (bit_xor a x) ≡ x
twice a x = sym (xor_assoc a a x) ∙ ap (λ n. bit_xor n x) (xor_self a) ∙ xor_zero_l x

cancel : (a x y : ℕ) → bit_xor a x ≡ bit_xor a y → x ≡ y
cancel a x y e = sym (twice a x) ∙ ap (bit_xor a) e ∙ twice a y

pub one_change : (bs : List ℕ) → DetectsOneChange bs
one_change [] i b lt e = absurd (not-suc-le-zero lt)
one_change (x ∷ xs) zero b lt e =
    let rest = exclusive_or xs in
    cancel rest b x (xor_comm rest b ∙ (sym (first b xs) ∙ (e ∙ first x xs)) ∙ xor_comm x rest)
one_change (x ∷ xs) (suc i) b lt e =
    one_change xs i b (le_of_suc-le-suc lt)
    (cancel x (exclusive_or (set xs i b)) (exclusive_or xs) (sym (first x (set xs i b)) ∙ (e ∙ first x xs)))
