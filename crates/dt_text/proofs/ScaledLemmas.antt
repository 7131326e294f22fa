-- Digits times a power of ten: what is cut off at the end, and what is left.
use Rattle.std.proofs.Common.{◌≡◌, ℕ, zero, suc, ◌+◌, ◌-◌, ◌*◌, ◌/◌, ◌%◌, ◌<◌, ◌≤◌, ◌^◌, ◌++◌, Bool, true, false, List, [], ◌∷◌, length, refl, ap, sym, ◌∙◌, subst, arith, Some, None, nat_lt}
use Rattle.std.specs.Prelude.{◌==◌, ◌&&◌}
use Rattle.std.specs.Char.{is_ascii_digit, digit_value}
use Rattle.std.specs.List.{list_all}
use Rattle.std.specs.Str.Parse.{digits_value, digits_value_after, AllDigits}
use Rattle.std.proofs.Math.Nat.{pow-succ', pow-le-pow_right}
use Rattle.std.proofs.lemmas.Nat.{div-mul-add, mod-mul-add}
use Rattle.std.proofs.lemmas.Bool.Decides.{nat_tests}
use Rattle.std.proofs.lemmas.Int.Digits.{digits_value-lt}
use Rattle.dt_model.proofs.Booleans.{both_true}
use Rattle.dt_text.specs.Values.{scaled, is_zero}

-- ---- the value of digits

after_is : (n : ℕ) (ds : List ℕ) → digits_value_after 10 n ds ≡ n * 10 ^ length ds + digits_value 10 ds
after_is n [] = omega arith
after_is n (d ∷ ds) =
    omega (arith, ap (λ x. n * x) (pow-succ' 10 (length ds)), after_is (n * 10 + digit_value d) ds, after_is (0 * 10 + digit_value d) ds)

after-append : (n : ℕ) (xs ys : List ℕ) → digits_value_after 10 n (xs ++ ys) ≡ digits_value_after 10 (digits_value_after 10 n xs) ys
after-append n [] ys = refl
after-append n (x ∷ xs) ys = after-append (n * 10 + digit_value x) xs ys

-- the value of digits with others behind them
pub digits_value-append : (xs ys : List ℕ) → digits_value 10 (xs ++ ys) ≡ digits_value 10 xs * 10 ^ length ys + digits_value 10 ys
digits_value-append xs ys = after-append 0 xs ys ∙ after_is (digits_value 10 xs) ys

digit_small : (d : ℕ) → is_ascii_digit d ≡ true → digit_value d < 10
digit_small d h = grind (arith, nat_tests)

digit_some : (d : ℕ) → is_ascii_digit d ≡ true → is_zero d ≡ false → 0 < digit_value d
digit_some d h z = grind (arith, nat_tests)

zero_digit : (d : ℕ) → is_zero d ≡ true → digit_value d ≡ 0
zero_digit d z = let e : d ≡ 48 = grind (arith, nat_tests) in rw e refl

all_digits : (ds : List ℕ) → list_all is_ascii_digit ds ≡ true → AllDigits 10 ds
all_digits [] h = tt
all_digits (d ∷ ds) h = let both = both_true (is_ascii_digit d) (list_all is_ascii_digit ds) h in (digit_small d both.0, all_digits ds both.1)

-- digits write a number below ten to the power of their count
pub digits_value-below : (ds : List ℕ) → list_all is_ascii_digit ds ≡ true → digits_value 10 ds < 10 ^ length ds
digits_value-below ds h = digits_value-lt 10 ds (all_digits ds h)

zeros_value : (ds : List ℕ) → list_all is_zero ds ≡ true → digits_value 10 ds ≡ 0
zeros_value [] h = refl
zeros_value (d ∷ ds) h =
    let both = both_true (is_zero d) (list_all is_zero ds) h in
    let e : 0 * 10 + digit_value d ≡ 0 = omega (arith, zero_digit d both.0) in
    ap (λ n. digits_value_after 10 n ds) e ∙ zeros_value ds both.1

pow_some : (k : ℕ) → 0 < 10 ^ k
pow_some zero = omega arith
pow_some (suc k) = omega (arith, pow-succ' 10 k, pow_some k)

grows : (n : ℕ) (ds : List ℕ) → n ≤ digits_value_after 10 n ds
grows n [] = omega arith
grows n (d ∷ ds) = omega (arith, grows (n * 10 + digit_value d) ds)

first_or : (d : ℕ) (ds : List ℕ) (b : Bool) → is_zero d ≡ b → (b && list_all is_zero ds) ≡ false → is_ascii_digit d ≡ true
    → (list_all is_zero ds ≡ false → 0 < digits_value 10 ds) → 0 < digits_value 10 (d ∷ ds)
first_or d ds true e z h more = let zd : 0 * 10 + digit_value d
    ≡ 0 = omega (arith, zero_digit d e) in subst (λ n. 0 < digits_value_after 10 n ds) (sym zd) (more z)
first_or d ds false e z h more = omega (arith, digit_some d h e, grows (0 * 10 + digit_value d) ds)

some_value : (ds : List ℕ) → list_all is_ascii_digit ds ≡ true → list_all is_zero ds ≡ false → 0 < digits_value 10 ds
some_value [] h z = absurd cc
some_value (d ∷ ds) h z =
    let both = both_true (is_ascii_digit d) (list_all is_ascii_digit ds) h in
    first_or d ds (is_zero d) refl z both.0 (some_value ds both.1)

-- ---- a cut by a power of ten

-- the last k digits, or all where there are fewer
abbrev pub IsCut : List ℕ → List ℕ → ℕ → Type 0
IsCut xs ys k = (length ys ≤ k) × (length ys < k → xs ≡ [])

front_same : (xs ys : List ℕ) (k : ℕ) → IsCut xs ys k → digits_value 10 xs * 10 ^ length ys ≡ digits_value 10 xs * 10 ^ k
front_same xs ys k c = elim (nat_lt (length ys) k) as (λ b. nat_lt (length ys) k ≡ b → digits_value 10 xs * 10 ^ length ys ≡ digits_value 10 xs * 10 ^ k) [
  | true ↦ λ e. let less : length ys < k = grind (arith, nat_tests) in rw (c.1 less) (omega arith)
  | false ↦ λ e. let same : length ys ≡ k = grind (arith, nat_tests) in ap (λ n. digits_value 10 xs * 10 ^ n) same
] refl

back_below : (ys : List ℕ) (k : ℕ) → list_all is_ascii_digit ys ≡ true → length ys ≤ k → digits_value 10 ys < 10 ^ k
back_below ys k h l = let more : 10 ^ length ys ≤ 10 ^ k = pow-le-pow_right (omega arith) l in omega (arith, digits_value-below ys h)

value_is : (xs ys : List ℕ) (k : ℕ) → IsCut xs ys k → digits_value 10 (xs ++ ys) ≡ digits_value 10 xs * 10 ^ k + digits_value 10 ys
value_is xs ys k c = digits_value-append xs ys ∙ ap (λ n. n + digits_value 10 ys) (front_same xs ys k c)

cut_front : (xs ys : List ℕ) (k : ℕ) → list_all is_ascii_digit ys ≡ true → IsCut xs ys k → digits_value 10 (xs ++ ys) / 10 ^ k ≡ digits_value 10 xs
cut_front xs ys k h c = ap (λ n. n / 10 ^ k) (value_is xs ys k c) ∙ div-mul-add (digits_value 10 xs) (10 ^ k) (digits_value 10 ys) (back_below ys k h c.0)

cut_back : (xs ys : List ℕ) (k : ℕ) → list_all is_ascii_digit ys ≡ true → IsCut xs ys k → digits_value 10 (xs ++ ys) % 10 ^ k ≡ digits_value 10 ys
cut_back xs ys k h c = ap (λ n. n % 10 ^ k) (value_is xs ys k c) ∙ mod-mul-add (digits_value 10 xs) (10 ^ k) (digits_value 10 ys) (back_below ys k h c.0)

-- zeros are cut off
pub scaled-zeros : (xs ys : List ℕ) (up down : ℕ) → list_all is_ascii_digit ys ≡ true → IsCut xs ys (down - up) → list_all is_zero ys ≡ true
    → scaled (digits_value 10 (xs ++ ys)) up down ≡ Some (digits_value 10 xs * 10 ^ (up - down))
scaled-zeros xs ys up down h c z =
    rw (cut_back xs ys (down - up) h c, zeros_value ys z, cut_front xs ys (down - up) h c) refl

-- more than zeros would be cut off
pub scaled-others : (xs ys : List ℕ) (up down : ℕ) → list_all is_ascii_digit ys ≡ true → IsCut xs ys (down - up) → list_all is_zero ys ≡ false
    → scaled (digits_value 10 (xs ++ ys)) up down ≡ None
scaled-others xs ys up down h c z =
    let some = some_value ys h z in
    let test : (digits_value 10 ys == 0) ≡ false = grind (arith, nat_tests) in
    rw (cut_back xs ys (down - up) h c, test) refl
