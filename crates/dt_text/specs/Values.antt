-- Value numerals: a sign, digits with an optional point, and an optional power of ten.
use Rattle.std.specs.Prelude.{ℕ, ◌+◌, ◌-◌, ◌*◌, ◌/◌, ◌%◌, ◌^◌, Bool, false, List, [], ◌∷◌, ◌++◌, length, take, drop, Option, Some, None, Result, Ok, Err, ◌==◌, ◌||◌, if◌then◌else◌, nat_le}
use Rattle.std.specs.Option.{option_map}
use Rattle.std.specs.Char.{is_ascii_digit}
use Rattle.std.specs.List.{prefix_len}
use Rattle.std.specs.Str.Parse.{digits_value}
use Rattle.dt_model.specs.declared.limits.TheConstants.{MINUS}
use Rattle.dt_model.specs.Texts.{number_of, is_nonempty}
use Rattle.dt_text.specs.Numerals.{positive_in_range, negative_in_range}
use Rattle.dt_text.specs.declared.values.TheConstants.{PLUS}
use Rattle.dt_text.specs.declared.values.TheConstants.{POINT, EXPONENT, CAPITAL_EXPONENT, ZERO}
use Rattle.dt_text.specs.declared.values.Power.{Power}
use Rattle.dt_text.specs.declared.values.NumFault.{NumFault}
use Rattle.dt_text.specs.declared.values.NumFault.TheVariants as because

-- ---- the parts of a numeral, in the order in which they stand

-- whether a word begins with a minus
abbrev pub is_negative : List ℕ → Bool
is_negative [] = false
is_negative (b ∷ bs) = b == MINUS

-- a word without the sign that it begins with
abbrev pub strip_sign : List ℕ → List ℕ
strip_sign [] = []
strip_sign (b ∷ bs) = if (b == PLUS) || (b == MINUS) then bs else b ∷ bs

-- the digits that a word begins with
abbrev pub leading_digits : List ℕ → List ℕ
leading_digits bs = take (prefix_len is_ascii_digit bs) bs

-- what is behind the digits that a word begins with
abbrev pub after_digits : List ℕ → List ℕ
after_digits bs = drop (prefix_len is_ascii_digit bs) bs

-- the digits behind the point that a word begins with
abbrev pub fraction_digits : List ℕ → List ℕ
fraction_digits [] = []
fraction_digits (b ∷ bs) = if b == POINT then leading_digits bs else []

-- what is behind the point that a word begins with, and behind its digits
abbrev pub after_fraction : List ℕ → List ℕ
after_fraction [] = []
after_fraction (b ∷ bs) = if b == POINT then after_digits bs else b ∷ bs

-- the number of one to three digits
abbrev pub power_size : List ℕ → Option ℕ
power_size bs = if nat_le (length bs) 3 then number_of bs else None

-- ten to the power up less down
abbrev pub power : ℕ → ℕ → Power
power up down = record { up = up; down = down }

-- ten to a power of this sign and size
abbrev pub signed_power : Bool → ℕ → Power
signed_power negative size = if negative then power 0 size else power size 0

-- the power of ten that a numeral ends with: nothing, or an `e` or `E` with an optional sign and one to three digits
abbrev pub power_of : List ℕ → Option Power
power_of [] = Some (power 0 0)
power_of (b ∷ bs) = if (b == EXPONENT) || (b == CAPITAL_EXPONENT) then option_map (signed_power (is_negative bs)) (power_size (strip_sign bs)) else None

-- ---- the value

-- a number times ten to the power up less down, where that is whole
abbrev pub scaled : ℕ → ℕ → ℕ → Option ℕ
scaled n up down = if n % 10 ^ (down - up) == 0 then Some (n / 10 ^ (down - up) * 10 ^ (up - down)) else None

-- a value, or the fault that there is none in range
abbrev pub in_range_or : Option ℕ → Result ℕ NumFault
in_range_or None = Err because.Range
in_range_or (Some v) = Ok v

-- a number with its sign, modulo 2^64, where it is from -2^63 to 2^64 - 1
abbrev pub in_range : Bool → ℕ → Result ℕ NumFault
in_range negative n = in_range_or (if negative then negative_in_range (Some n) else positive_in_range (Some n))

-- the same of a number that may not be whole
abbrev pub whole_in_range : Bool → Option ℕ → Result ℕ NumFault
whole_in_range negative None = Err because.NotWhole
whole_in_range negative (Some n) = in_range negative n

-- the value of digits, so many of which stand behind the point, times a power of ten
abbrev pub value_with : Bool → ℕ → ℕ → Option Power → Result ℕ NumFault
value_with negative n places None = Err because.Form
value_with negative n places (Some p) = whole_in_range negative (scaled n p.up (places + p.down))

-- the value modulo 2^64 that a word writes
abbrev pub value_of : List ℕ → Result ℕ NumFault
value_of word =
    let whole = leading_digits (strip_sign word) in
    let rest = after_digits (strip_sign word) in
    let fraction = fraction_digits rest in
    if is_nonempty whole
    then value_with (is_negative word) (digits_value 10 (whole ++ fraction)) (length fraction) (power_of (after_fraction rest))
    else Err because.Form

-- the byte of the digit 0
abbrev pub is_zero : ℕ → Bool
is_zero b = b == ZERO
