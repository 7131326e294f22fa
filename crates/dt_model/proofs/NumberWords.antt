-- Numbers in texts: each decimal and each value is a word, is not `history`, and reads back.
use Rattle.std.proofs.Common.{◌≡◌, ℕ, ◌-◌, ◌/◌, ◌%◌, ◌<◌, ◌^◌, Bool, true, false, cond, not, List, [], ◌∷◌, refl, arith, Some, nat_lt, suc, zero}
use Rattle.std.specs.Prelude.{◌==◌, codes, nat_eq}
use Rattle.std.specs.Fmt.{decimal, digits, digits_onto, digit_glyph}
use Rattle.std.specs.Str.{all_ascii_digits}
use Rattle.std.specs.Str.Parse.{digits_value}
use Rattle.std.specs.Char.{is_ascii_digit}
use Rattle.std.specs.List.{list_all}
use Rattle.std.specs.Cmp.Lexicographic.{pointwise}
use Rattle.std.proofs.Math.Nat.{mod-lt}
use Rattle.std.proofs.lemmas.Bool.Decides.{nat_tests}
use Rattle.std.proofs.lemmas.Fmt.{digits_value-decimal}
use Rattle.std.proofs.lemmas.Str.Parse.{IsNumeralModel, numerals_by_value, tells_all_ascii_digits}
use Rattle.dt_model.specs.declared.limits.TheConstants.{MINUS}
use Rattle.dt_model.specs.Texts.{is_word_byte, is_word, is_nonempty, value_word, number_of}
use Rattle.dt_model.proofs.Booleans.{both_true, true_both}

glyph_is_digit : (n : ℕ) → is_ascii_digit (digit_glyph false (n % 10)) ≡ true
glyph_is_digit n = let small : n % 10 < 10 = mod-lt n (omega arith) in of_small (n % 10) small
  where
    of_small : (d : ℕ) → d < 10 → is_ascii_digit (digit_glyph false d) ≡ true
    of_small d h = grind (arith, nat_tests)

onto_digits : (k n : ℕ) (acc : List ℕ) → all_ascii_digits acc ≡ true → all_ascii_digits (digits_onto k 10 false n acc) ≡ true
onto_digits zero n acc h = h
onto_digits (suc k) n acc h =
    let more : all_ascii_digits (digit_glyph false (n % 10) ∷ acc)
    ≡ true = true_both (is_ascii_digit (digit_glyph false (n % 10))) (all_ascii_digits acc) (glyph_is_digit n) h in
    by_end (n / 10 == 0) (digit_glyph false (n % 10) ∷ acc) (digits_onto k 10 false (n / 10) (digit_glyph false (n % 10) ∷ acc)) more
    (onto_digits k (n / 10) (digit_glyph false (n % 10) ∷ acc) more)
  where
    by_end : (b : Bool) (xs ys : List ℕ) → all_ascii_digits xs ≡ true → all_ascii_digits ys ≡ true → all_ascii_digits (cond b xs ys) ≡ true
    by_end true xs ys p q = p
    by_end false xs ys p q = q

onto_nonempty : (k n : ℕ) (acc : List ℕ) → is_nonempty acc ≡ true → is_nonempty (digits_onto k 10 false n acc) ≡ true
onto_nonempty zero n acc h = h
onto_nonempty (suc k) n acc h =
    by_end (n / 10 == 0) (digit_glyph false (n % 10) ∷ acc) (digits_onto k 10 false (n / 10) (digit_glyph false (n % 10) ∷ acc)) refl
    (onto_nonempty k (n / 10) (digit_glyph false (n % 10) ∷ acc) refl)
  where
    by_end : (b : Bool) (xs ys : List ℕ) → is_nonempty xs ≡ true → is_nonempty ys ≡ true → is_nonempty (cond b xs ys) ≡ true
    by_end true xs ys p q = p
    by_end false xs ys p q = q

-- the decimal of every number is digits
pub all_ascii_digits-decimal : (n : ℕ) → all_ascii_digits (decimal n) ≡ true
unfolding digits
all_ascii_digits-decimal n = onto_digits 64 n [] refl

-- the decimal of every number has a digit
pub is_nonempty-decimal : (n : ℕ) → is_nonempty (decimal n) ≡ true
unfolding digits
is_nonempty-decimal n =
    by_end (n / 10 == 0) (digit_glyph false (n % 10) ∷ []) (digits_onto 63 10 false (n / 10) (digit_glyph false (n % 10) ∷ [])) refl
    (onto_nonempty 63 (n / 10) (digit_glyph false (n % 10) ∷ []) refl)
  where
    by_end : (b : Bool) (xs ys : List ℕ) → is_nonempty xs ≡ true → is_nonempty ys ≡ true → is_nonempty (cond b xs ys) ≡ true
    by_end true xs ys p q = p
    by_end false xs ys p q = q

digit_is_word : (b : ℕ) → is_ascii_digit b ≡ true → is_word_byte b ≡ true
digit_is_word b h = grind (arith, nat_tests)

digits_are_word : (ds : List ℕ) → all_ascii_digits ds ≡ true → list_all is_word_byte ds ≡ true
digits_are_word [] h = refl
digits_are_word (d ∷ ds) h =
    let both = both_true (is_ascii_digit d) (all_ascii_digits ds) h in
    true_both (is_word_byte d) (list_all is_word_byte ds) (digit_is_word d both.0) (digits_are_word ds both.1)

numeral_is_word : (ds : List ℕ) → is_nonempty ds ≡ true → all_ascii_digits ds ≡ true → is_word ds ≡ true
numeral_is_word [] l h = absurd (cc)
numeral_is_word (d ∷ ds) l h = digits_are_word (d ∷ ds) h

-- a decimal is a word
pub is_word-decimal : (n : ℕ) → is_word (decimal n) ≡ true
is_word-decimal n = numeral_is_word (decimal n) (is_nonempty-decimal n) (all_ascii_digits-decimal n)

-- a written value is a word
pub is_word-value_word : (v : ℕ) → is_word (value_word v) ≡ true
is_word-value_word v = by_sign (nat_lt v (2 ^ 63)) (decimal v) (decimal (2 ^ 64 - v)) (is_word-decimal v)
    (digits_are_word (decimal (2 ^ 64 - v)) (all_ascii_digits-decimal (2 ^ 64 - v)))
  where
    by_sign : (b : Bool) (xs ys : List ℕ) → is_word xs ≡ true → list_all is_word_byte ys ≡ true → is_word (cond b xs (MINUS ∷ ys)) ≡ true
    by_sign true xs ys p q = p
    by_sign false xs ys p q = q

-- ---- no number is the word `history`

-- whether a word is not `history`
abbrev pub is_not_history : List ℕ → Bool
is_not_history word = not (pointwise nat_eq word (codes "history"))

not_h : (d : ℕ) → is_ascii_digit d ≡ true → (d == 104) ≡ false
not_h d h = grind (arith, nat_tests)

numeral_is_not_history : (ds : List ℕ) → all_ascii_digits ds ≡ true → is_not_history ds ≡ true
numeral_is_not_history [] h = refl
numeral_is_not_history (d ∷ ds) h = rw (not_h d (both_true (is_ascii_digit d) (all_ascii_digits ds) h).0) refl

-- a decimal isn't `history`
pub is_not_history-decimal : (n : ℕ) → is_not_history (decimal n) ≡ true
is_not_history-decimal n = numeral_is_not_history (decimal n) (all_ascii_digits-decimal n)

-- a written value isn't `history`
pub is_not_history-value_word : (v : ℕ) → is_not_history (value_word v) ≡ true
is_not_history-value_word v = by_sign (nat_lt v (2 ^ 63)) (decimal v) (decimal (2 ^ 64 - v)) (is_not_history-decimal v)
  where
    by_sign : (b : Bool) (xs ys : List ℕ) → is_not_history xs ≡ true → is_not_history (cond b xs (MINUS ∷ ys)) ≡ true
    by_sign true xs ys p = p
    by_sign false xs ys p = refl

-- ---- a decimal reads back

own : IsNumeralModel (λ ds. all_ascii_digits ds ≡ true) (digits_value 10)
own = numerals_by_value _ tells_all_ascii_digits

-- the decimal of a number below 2^64 reads as the number
pub number_of-decimal : (n : ℕ) → n < 2 ^ 64 → number_of (decimal n) ≡ Some n
number_of-decimal n h =
    let value : digits_value 10 (decimal n) ≡ n = digits_value-decimal own n h in
    rw (is_nonempty-decimal n, all_ascii_digits-decimal n, value) refl
