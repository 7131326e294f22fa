-- The bits of a number that is made of bits.
use Rattle.std.proofs.Common.{◌≡◌, ℕ, zero, suc, ◌+◌, ◌*◌, ◌/◌, ◌%◌, ◌^◌, Bool, true, false, cond, eqb, List, [], ◌∷◌, get_or, refl, ap, sym, ◌∙◌, arith}
use native.Mathlib.Nat.{div-div-eq-div-mul}
use Rattle.merge_lattice.specs.Lattices.{bit_of}
use Rattle.index_check.specs.Plans.{number_of_bits}

-- the lowest bit, and the others
lowest : (b : Bool) (m : ℕ) → (cond b 1 0 + 2 * m) % 2 ≡ cond b 1 0
lowest true m = omega arith
lowest false m = omega arith

halved : (b : Bool) (m : ℕ) → (cond b 1 0 + 2 * m) / 2 ≡ m
halved true m = omega arith
halved false m = omega arith

bit_zero : (b : Bool) (m : ℕ) → bit_of (cond b 1 0 + 2 * m) 0 ≡ b
bit_zero b m = ap (λ n. eqb (n % 2) 1) (whole (cond b 1 0 + 2 * m)) ∙ ap (λ n. eqb n 1) (lowest b m) ∙ tested b
  where
    whole : (n : ℕ) → n / 1 ≡ n
    whole n = omega arith

    tested : (b : Bool) → eqb (cond b 1 0) 1 ≡ b
    tested true = refl
    tested false = refl

bit_more : (n k : ℕ) → bit_of n (suc k) ≡ bit_of (n / 2) k
bit_more n k = ap (λ d. eqb (n / d % 2) 1) (twice k) ∙ ap (λ m. eqb (m % 2) 1) (sym (div-div-eq-div-mul n 2 (2 ^ k)))
  where
    twice : (k : ℕ) → 2 ^ suc k ≡ 2 * 2 ^ k
    twice k = grind arith

-- 0 has no bits
pub none_set : (k : ℕ) → bit_of 0 k ≡ false
none_set k = ap (λ m. eqb (m % 2) 1) (nothing (2 ^ k))
  where
    nothing : (n : ℕ) → 0 / n ≡ 0
    nothing n = grind arith

-- bit n of a number made of bits is the n-th of them
pub bit_of-number : (bs : List Bool) (n : ℕ) → bit_of (number_of_bits bs) n ≡ get_or bs n false
bit_of-number [] n = none_set n
bit_of-number (b ∷ bs) zero = bit_zero b (number_of_bits bs)
bit_of-number (b ∷ bs) (suc n) = bit_more (cond b 1 0 + 2 * number_of_bits bs) n ∙ ap (λ m. bit_of m n) (halved b (number_of_bits bs)) ∙ bit_of-number bs n
