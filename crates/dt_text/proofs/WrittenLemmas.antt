-- The text of a value reads back to it.
use Rattle.std.proofs.Common.{◌≡◌, ℕ, ◌-◌, ◌*◌, ◌/◌, ◌<◌, ◌≤◌, ◌^◌, ◌%◌, ◌++◌, Bool, true, false, cond, List, [], ◌∷◌, length, refl, ap, sym, ◌∙◌, arith, Some, nat_lt}
use Rattle.std.specs.Prelude.{◌==◌, ◌||◌, nat_le, Result, Ok, Err}
use Rattle.std.specs.Fmt.{decimal}
use Rattle.std.specs.List.{prefix_len}
use Rattle.std.specs.Str.{all_ascii_digits}
use Rattle.std.specs.Str.Parse.{digits_value}
use Rattle.std.specs.Char.{is_ascii_digit}
use Rattle.std.proofs.lemmas.List.{append-nil, take_all, drop_all}
use Rattle.std.proofs.lemmas.Bool.Decides.{nat_tests}
use Rattle.std.proofs.lemmas.Fmt.{decimal_is_IsNumeral}
use Rattle.dt_model.specs.declared.limits.TheConstants.{MINUS}
use Rattle.dt_text.specs.declared.values.TheConstants.{PLUS}
use Rattle.dt_model.specs.Texts.{is_nonempty, value_word}
use Rattle.dt_model.proofs.Booleans.{both_true}
use Rattle.dt_model.proofs.NumberWords.{all_ascii_digits-decimal, number_of-decimal}
use Rattle.dt_text.specs.declared.values.NumFault.{NumFault}
use Rattle.dt_text.specs.declared.values.NumFault.TheVariants as because
use Rattle.dt_text.specs.Values.{value_of, value_with, in_range, scaled, leading_digits, after_digits, fraction_digits, after_fraction, power_of}
use Rattle.dt_text.proofs.NumeralsLemmas.{number_of-digits}

-- ---- a word of digits alone

-- a digit is no sign
not_minus : (d : ℕ) → is_ascii_digit d ≡ true → (d == MINUS) ≡ false
not_minus d h = grind (arith, nat_tests)

no_sign : (d : ℕ) → is_ascii_digit d ≡ true → ((d == PLUS) || (d == MINUS)) ≡ false
no_sign d h = grind (arith, nat_tests)

prefix_len-digits : (ds : List ℕ) → all_ascii_digits ds ≡ true → prefix_len is_ascii_digit ds ≡ length ds
prefix_len-digits [] h = refl
prefix_len-digits (d ∷ ds) h =
    let both = both_true (is_ascii_digit d) (all_ascii_digits ds) h in
    rw (both.0, prefix_len-digits ds both.1) (omega arith)

leading_digits-digits : (ds : List ℕ) → all_ascii_digits ds ≡ true → leading_digits ds ≡ ds
leading_digits-digits ds h = take_all (prefix_len is_ascii_digit ds) ds (omega (arith, prefix_len-digits ds h))

after_digits-digits : (ds : List ℕ) → all_ascii_digits ds ≡ true → after_digits ds ≡ []
after_digits-digits ds h = drop_all (prefix_len is_ascii_digit ds) ds (omega (arith, prefix_len-digits ds h))

nonempty : (ds : List ℕ) → 0 < length ds → is_nonempty ds ≡ true
nonempty [] l = absurd (omega arith)
nonempty (d ∷ ds) l = refl

scaled-one : (n : ℕ) → scaled n 0 0 ≡ Some n
scaled-one n =
    let whole : n % 1 ≡ 0 = omega arith in
    let same : n / 1 * 1 ≡ n = omega arith in
    rw (whole, same) refl

-- what `value_of` answers for a sign and what is behind it
abbrev signed_value : Bool → List ℕ → Result ℕ NumFault
signed_value negative word =
    cond (is_nonempty (leading_digits word))
    (value_with negative (digits_value 10 (leading_digits word
    ++ fraction_digits (after_digits word))) (length (fraction_digits (after_digits word))) (power_of (after_fraction (after_digits word))))
    (Err because.Form)

signed_value-digits : (negative : Bool) (ds : List ℕ) → 0 < length ds → all_ascii_digits ds ≡ true
    → signed_value negative ds ≡ in_range negative (digits_value 10 ds)
signed_value-digits negative ds l h =
    rw (leading_digits-digits ds h, after_digits-digits ds h, append-nil ds, nonempty ds l, scaled-one (digits_value 10 ds)) refl

value_of-digits : (ds : List ℕ) → 0 < length ds → all_ascii_digits ds ≡ true → value_of ds ≡ in_range false (digits_value 10 ds)
value_of-digits [] l h = absurd (omega arith)
value_of-digits (d ∷ ds) l h =
    let digit = (both_true (is_ascii_digit d) (all_ascii_digits ds) h).0 in
    ap (λ b. signed_value (d == MINUS) (cond b ds (d ∷ ds))) (no_sign d digit)
    ∙ ap (λ b. signed_value b (d ∷ ds)) (not_minus d digit)
    ∙ signed_value-digits false (d ∷ ds) l h

-- ---- the text of a value

value_of-decimal : (n : ℕ) → n < 2 ^ 64 → digits_value 10 (decimal n) ≡ n
value_of-decimal n h =
    let known : Some (digits_value 10 (decimal n)) ≡ Some n = sym (number_of-digits (decimal n) (decimal_is_IsNumeral n h).0.0 (all_ascii_digits-decimal n))
    ∙ number_of-decimal n h in
    cc

in_range-positive : (v : ℕ) → v < 2 ^ 64 → in_range false v ≡ Ok v
in_range-positive v h = let test : nat_lt v (2 ^ 64) ≡ true = grind (arith, nat_tests) in rw test refl

in_range-complement : (v : ℕ) → 2 ^ 63 ≤ v → v < 2 ^ 64 → in_range true (2 ^ 64 - v) ≡ Ok v
in_range-complement v h l =
    let test : nat_le (2 ^ 64 - v) (2 ^ 63) ≡ true = grind (arith, nat_tests) in
    let same : (2 ^ 64 - (2 ^ 64 - v)) % 2 ^ 64 ≡ v = omega arith in
    rw (test, same) refl

-- the text of a value is a numeral of that value
pub value_of-value_word : (v : ℕ) → v < 2 ^ 64 → value_of (value_word v) ≡ Ok v
value_of-value_word v h = elim (nat_lt v (2 ^ 63)) as (λ b. nat_lt v (2 ^ 63) ≡ b → value_of (cond b (decimal v) (MINUS ∷ decimal (2 ^ 64 - v))) ≡ Ok v) [
  | true ↦ λ e. value_of-digits (decimal v) (decimal_is_IsNumeral v h).0.0 (all_ascii_digits-decimal v) ∙ ap (in_range false) (value_of-decimal v h)
      ∙ in_range-positive v h
  | false ↦ λ e.
      let high : 2 ^ 63 ≤ v = grind (arith, nat_tests) in
      let small : 2 ^ 64 - v < 2 ^ 64 = omega arith in
      signed_value-digits true (decimal (2 ^ 64 - v)) (decimal_is_IsNumeral (2 ^ 64 - v) small).0.0 (all_ascii_digits-decimal (2 ^ 64 - v))
      ∙ ap (in_range true) (value_of-decimal (2 ^ 64 - v) small)
      ∙ in_range-complement v high h
] refl
