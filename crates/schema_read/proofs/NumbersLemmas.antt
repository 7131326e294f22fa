-- Numbers of one to nine digits.
use Rattle.std.proofs.Common.{◌≡◌, ℕ, ◌<◌, ◌≤◌, ◌^◌, Bool, true, false, cond, List, length, refl, ◌∙◌, subst, Option, Some, None, Ok, Err, arith, nat_lt}
use Rattle.std.specs.Prelude.{⊤, ◌&&◌, nat_le}
use Rattle.std.specs.Fmt.{decimal}
use Rattle.std.specs.Str.{all_ascii_digits}
use Rattle.std.specs.Str.Parse.{digits_value}
use Rattle.std.proofs.lemmas.Fmt.{length-decimal-le}
use Rattle.std.proofs.lemmas.Str.Parse.{IsNumeralModel, numerals_by_value, tells_all_ascii_digits, digits_value_short}
use Rattle.std.proofs.lemmas.Bool.Decides.{nat_tests}
use Rattle.dt_model.specs.Texts.{number_of, is_nonempty}
use Rattle.dt_text.specs.declared.numerals.IndexFault.{IndexFault}
use Rattle.dt_text.specs.Numerals.{index_in_range}
use Rattle.dt_model.proofs.Booleans.{both_true}
use Rattle.dt_model.proofs.NumberWords.{number_of-decimal}
use Rattle.schema_read.specs.Tokens.{number_in}

-- digits and their number, in std's words
own : IsNumeralModel (λ ds. all_ascii_digits ds ≡ true) (digits_value 10)
own = numerals_by_value (λ ds. all_ascii_digits ds ≡ true) tells_all_ascii_digits

-- a number below 10^9, if there is one
abbrev pub IsShort : Option ℕ → Type 0
IsShort None = ⊤
IsShort (Some n) = n < 10 ^ 9

short_by : (word : List ℕ) (b : Bool) → (is_nonempty word && all_ascii_digits word) ≡ b → length word ≤ 9
    → IsShort (cond b (Some (digits_value 10 word)) None)
short_by word true e l = digits_value_short own word 9 (both_true (is_nonempty word) (all_ascii_digits word) e).1 l
short_by word false e l = tt

length_by : (word : List ℕ) (b : Bool) → nat_le (length word) 9 ≡ b → IsShort (cond b (number_of word) None)
length_by word true e =
    let few : length word ≤ 9 = grind (arith, nat_tests, e) in
    short_by word (is_nonempty word && all_ascii_digits word) refl few
length_by word false e = tt

-- the number of at most nine digits is below 10^9
pub IsShort-number_in : (word : List ℕ) → IsShort (number_in word)
IsShort-number_in word = length_by word (nat_le (length word) 9) refl

-- a number below 10^9 is read back
pub number_in-decimal : (n : ℕ) → n < 10 ^ 9 → number_in (decimal n) ≡ Some n
number_in-decimal n l =
    let word : n < 2 ^ 64 = omega (arith, l) in
    let few : length (decimal n) ≤ 9 = length-decimal-le 9 n (omega arith) l word in
    let test : nat_le (length (decimal n)) 9 ≡ true = grind (arith, nat_tests, few) in
    rw test (number_of-decimal n word)

none_by : (o : Option ℕ) (e : IndexFault) → IsShort o → index_in_range o ≡ Err e → o ≡ None
none_by None e h f = refl
none_by (Some n) e h f =
    let small : nat_lt n (2 ^ 32) ≡ true = grind (arith, nat_tests, h) in
    let read : index_in_range (Some n) ≡ Ok n = rw small refl in
    absurd (cc)

few_digits : (word : List ℕ) → length word ≤ 9 → number_in word ≡ number_of word
few_digits word l = let test : nat_le (length word) 9 ≡ true = grind (arith, nat_tests, l) in rw test refl

-- at most nine digits have no number where they are no index
pub number_in_none : (word : List ℕ) (e : IndexFault) → length word ≤ 9 → index_in_range (number_of word) ≡ Err e → number_in word ≡ None
number_in_none word e l f = few_digits word l ∙ none_by (number_of word) e (subst IsShort (few_digits word l) (IsShort-number_in word)) f
