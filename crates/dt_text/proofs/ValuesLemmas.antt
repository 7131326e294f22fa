-- Digits behind other digits, zeros behind digits, and short numbers.
use Rattle.std.proofs.Common.{◌≡◌, ℕ, zero, suc, ◌+◌, ◌-◌, ◌*◌, ◌<◌, ◌≤◌, ◌^◌, ◌++◌, min, Bool, true, false, cond, List, [], ◌∷◌, length, take, get_or, refl, ap, sym, ◌∙◌, arith, Option, Some, None, append_assoc}
use Rattle.std.specs.Prelude.{◌==◌}
use Rattle.std.specs.Option.{option_map}
use Rattle.std.specs.Char.{is_ascii_digit}
use Rattle.std.specs.List.{list_all, prefix_len}
use Rattle.std.specs.Str.{all_ascii_digits}
use Rattle.std.specs.Str.Parse.{digits_value}
use Rattle.std.proofs.lemmas.Int.Digits.{digits_value_push}
use Rattle.std.proofs.lemmas.List.{take_more}
use Rattle.std.proofs.lemmas.Str.Parse.{digits_value_short, numerals_by_value, tells_all_ascii_digits}
use Rattle.std.proofs.lemmas.Grind.{pow_more}
use Rattle.dt_model.specs.Texts.{number_of}
use Rattle.dt_model.proofs.Booleans.{both_true}
use Rattle.dt_text.proofs.NumeralsLemmas.{digit_value-digit, min-step, positive_in_range_capped, negative_in_range_capped}
use Rattle.dt_text.specs.declared.values.TheConstants.{POINT}
use Rattle.dt_text.specs.Values.{leading_digits, fraction_digits, in_range_or, whole_in_range}

-- what holds of all holds at a place
pub list_all-get_or : (p : ℕ → Bool) (xs : List ℕ) (i : ℕ) → list_all p xs ≡ true → i < length xs → p (get_or xs i 0) ≡ true
list_all-get_or p [] i h l = absurd (omega arith)
list_all-get_or p (x ∷ xs) zero h l = (both_true (p x) (list_all p xs) h).0
list_all-get_or p (x ∷ xs) (suc i) h l = list_all-get_or p xs i (both_true (p x) (list_all p xs) h).1 (omega arith)

-- the capped number of one digit more behind others
pub step_behind : (ws xs : List ℕ) (i n m : ℕ) → i < length xs → is_ascii_digit (get_or xs i 0) ≡ true → n ≡ min (digits_value 10 (ws ++ take i xs)) (2 ^ 64)
    → m ≡ min (n * 10 + (get_or xs i 0 - 48)) (2 ^ 64) → m ≡ min (digits_value 10 (ws ++ take (i + 1) xs)) (2 ^ 64)
step_behind ws xs i n m l d e f =
    let more : ws ++ take (i + 1) xs ≡ (ws ++ take i xs) ++ get_or xs i 0 ∷ [] = ap (λ t. ws ++ t) (take_more xs i 0 l)
    ∙ sym (append_assoc ws (take i xs) (get_or xs i 0 ∷ [])) in
    rw (more, digits_value_push 10 (ws ++ take i xs) (get_or xs i 0), digit_value-digit (get_or xs i 0) d) (min-step n _ _ m e f)

-- the capped number of one zero more
pub step_zero : (x i n m : ℕ) → n ≡ min (x * 10 ^ i) (2 ^ 64) → m ≡ min (n * 10) (2 ^ 64) → m ≡ min (x * 10 ^ (i + 1)) (2 ^ 64)
step_zero x i n m e f =
    let more : x * 10 ^ (i + 1) ≡ x * 10 ^ i * 10 = omega (arith, ap (λ p. x * p) (pow_more 10 i)) in
    rw more (omega arith)

-- ---- one to three digits

small_by : (w : List ℕ) (n : ℕ) (b : Bool) → all_ascii_digits w ≡ b → length w ≤ 3 → cond b (Some (digits_value 10 w)) None ≡ Some n → n ≤ 999
small_by w n true h l e =
    let small : digits_value 10 w < 10 ^ 3 = digits_value_short (numerals_by_value _ tells_all_ascii_digits) w 3 h l in
    let same : digits_value 10 w ≡ n = cc in
    omega arith
small_by w n false h l e = absurd cc

number_small : (w : List ℕ) (n : ℕ) → length w ≤ 3 → number_of w ≡ Some n → n ≤ 999
number_small [] n l e = absurd cc
number_small (x ∷ xs) n l e = small_by (x ∷ xs) n (all_ascii_digits (x ∷ xs)) refl l e

short_by : (w : List ℕ) (m : ℕ) (o : Option ℕ) → number_of w ≡ o → length w ≤ 3 → option_map (λ n. min n (2 ^ 64)) o ≡ Some m → (o ≡ Some m) × (m ≤ 999)
short_by w m None q l e = absurd cc
short_by w m (Some n) q l e =
    let small = number_small w n l q in
    let same : min n (2 ^ 64) ≡ m = cc in
    let is : n ≡ m = omega arith in
    (ap Some is, omega arith)

-- the number of at most three digits is at most 999, and capping leaves it
pub power_size-capped : (w : List ℕ) (m : ℕ) → length w ≤ 3 → option_map (λ n. min n (2 ^ 64)) (number_of w) ≡ Some m → (number_of w ≡ Some m) × (m ≤ 999)
power_size-capped w m l e = short_by w m (number_of w) refl l e

-- ---- the digits that a word begins with

front_more : (b : ℕ) (bs : List ℕ) (t : Bool) → is_ascii_digit b ≡ t → list_all is_ascii_digit (leading_digits bs) ≡ true
    → list_all is_ascii_digit (take (cond t (1 + prefix_len is_ascii_digit bs) 0) (b ∷ bs)) ≡ true
front_more b bs true e h =
    let one : 1 + prefix_len is_ascii_digit bs ≡ suc (prefix_len is_ascii_digit bs) = omega arith in
    rw one (rw (e, h) refl)
front_more b bs false e h = refl

-- the leading digits are digits
pub leading_digits-all : (bs : List ℕ) → list_all is_ascii_digit (leading_digits bs) ≡ true
leading_digits-all [] = refl
leading_digits-all (b ∷ bs) = front_more b bs (is_ascii_digit b) refl (leading_digits-all bs)

-- so are those behind the point
pub fraction_digits-all : (bs : List ℕ) → list_all is_ascii_digit (fraction_digits bs) ≡ true
fraction_digits-all [] = refl
fraction_digits-all (b ∷ bs) = elim (b == POINT) as (λ t. list_all is_ascii_digit (cond t (leading_digits bs) [])
    ≡ true) [ true ↦ leading_digits-all bs | false ↦ refl ]

-- ---- a number that is cut off at 2^64

-- a number capped at 2^64 has the value or the fault that it had
pub whole_in_range-capped : (negative : Bool) (o : Option ℕ) → whole_in_range negative (option_map (λ n. min n (2 ^ 64)) o) ≡ whole_in_range negative o
whole_in_range-capped negative None = refl
whole_in_range-capped true (Some n) = ap in_range_or (negative_in_range_capped (Some n))
whole_in_range-capped false (Some n) = ap in_range_or (positive_in_range_capped (Some n))
