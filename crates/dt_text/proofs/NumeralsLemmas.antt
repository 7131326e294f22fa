-- Digits read from the left, cut off at 2^64.
use Rattle.std.proofs.Common.{◌≡◌, ℕ, ◌+◌, ◌-◌, ◌*◌, ◌<◌, ◌^◌, min, Bool, true, false, cond, List, [], ◌∷◌, length, take, get_or, refl, ◌∙◌, ◌%◌, arith, Option, Some, None, nat_lt}
use Rattle.std.specs.Prelude.{nat_le}
use Rattle.std.specs.Option.{option_map}
use Rattle.std.specs.Str.{all_ascii_digits}
use Rattle.std.specs.Str.Parse.{digits_value}
use Rattle.std.specs.Char.{is_ascii_digit, digit_value}
use Rattle.std.proofs.lemmas.Bool.Decides.{nat_tests}
use Rattle.std.proofs.lemmas.Int.Digits.{digits_value_push}
use Rattle.std.proofs.lemmas.List.{take_more}
use Rattle.std.proofs.lemmas.List.Recursion.{and_fails_at, and_push}
use Rattle.dt_model.specs.Texts.{number_of}
use Rattle.dt_text.specs.Numerals.{positive_in_range, negative_in_range}

-- the value of a digit is its byte less that of 0
pub digit_value-digit : (c : ℕ) → is_ascii_digit c ≡ true → digit_value c ≡ c - 48
digit_value-digit c h = grind (arith, nat_tests)

-- a number that was capped is capped alike after a digit more
pub min-step : (n x d m : ℕ) → n ≡ min x (2 ^ 64) → m ≡ min (n * 10 + d) (2 ^ 64) → m ≡ min (x * 10 + d) (2 ^ 64)
min-step n x d m e f = omega arith

-- the capped number of one digit more
pub step_value : (xs : List ℕ) (i n m : ℕ) → i < length xs → is_ascii_digit (get_or xs i 0) ≡ true → n ≡ min (digits_value 10 (take i xs)) (2 ^ 64)
    → m ≡ min (n * 10 + (get_or xs i 0 - 48)) (2 ^ 64) → m ≡ min (digits_value 10 (take (i + 1) xs)) (2 ^ 64)
step_value xs i n m l d e f =
    rw (take_more xs i 0 l, digits_value_push 10 (take i xs) (get_or xs i 0), digit_value-digit (get_or xs i 0) d) (min-step n _ _ m e f)

-- one digit more
pub step_digits : (xs : List ℕ) (i : ℕ) → i < length xs → is_ascii_digit (get_or xs i 0) ≡ true → all_ascii_digits (take i xs) ≡ true
    → all_ascii_digits (take (i + 1) xs) ≡ true
step_digits xs i l d h =
    rw (take_more xs i 0 l) (and_push all_ascii_digits is_ascii_digit refl (λ _ _. refl) (take i xs) (get_or xs i 0) ∙ rw (h, d) refl)

nonempty_is : (w : List ℕ) (b : Bool) → all_ascii_digits w ≡ b → 0 < length w → number_of w ≡ cond b (Some (digits_value 10 w)) None
nonempty_is [] b e l = absurd (omega arith)
nonempty_is (x ∷ xs) b e l = rw e refl

-- a word with another byte has no number
pub number_of-other : (xs : List ℕ) (i : ℕ) → i < length xs → is_ascii_digit (get_or xs i 0) ≡ false → number_of xs ≡ None
number_of-other xs i l d = nonempty_is xs false (and_fails_at all_ascii_digits is_ascii_digit refl (λ _ _. refl) xs i 0 l d) (omega arith)

-- one or more digits have their value
pub number_of-digits : (xs : List ℕ) → 0 < length xs → all_ascii_digits xs ≡ true → number_of xs ≡ Some (digits_value 10 xs)
number_of-digits xs l h = nonempty_is xs true h l

-- a number capped at 2^64 is in range where it was
pub positive_in_range_capped : (o : Option ℕ) → positive_in_range (option_map (λ n. min n (2 ^ 64)) o) ≡ positive_in_range o
positive_in_range_capped None = refl
positive_in_range_capped (Some n) = positive_same n
  where
    positive_same : (n : ℕ) → cond (nat_lt (min n (2 ^ 64)) (2 ^ 64)) (Some (min n (2 ^ 64))) None ≡ cond (nat_lt n (2 ^ 64)) (Some n) None
    positive_same n = grind (arith, nat_tests)

-- the same of its negative
pub negative_in_range_capped : (o : Option ℕ) → negative_in_range (option_map (λ n. min n (2 ^ 64)) o) ≡ negative_in_range o
negative_in_range_capped None = refl
negative_in_range_capped (Some n) = negative_same n
  where
    negative_same : (n : ℕ) → cond (nat_le (min n (2 ^ 64)) (2 ^ 63)) (Some ((2 ^ 64 - min n (2 ^ 64)) % 2 ^ 64)) None
        ≡ cond (nat_le n (2 ^ 63)) (Some ((2 ^ 64 - n) % 2 ^ 64)) None
    negative_same n = grind (arith, nat_tests)
