-- The tokens of names and numbers before what follows them.
use Rattle.std.proofs.Common.{◌≡◌, ℕ, ◌<◌, ◌^◌, ◌++◌, Bool, true, false, cond, List, [], ◌∷◌, length, refl, ap, ◌∙◌, arith, Some}
use Rattle.std.specs.Prelude.{⊤, ◌&&◌, nat_lt}
use Rattle.std.specs.Fmt.{decimal}
use Rattle.std.specs.Str.{all_ascii_digits}
use Rattle.std.specs.List.{prefix_len, list_all}
use Rattle.std.specs.Char.{is_ascii_digit}
use Rattle.std.proofs.lemmas.Bool.Decides.{nat_tests}
use Rattle.std.proofs.lemmas.Fmt.{decimal_is_IsNumeral}
use Rattle.dt_model.specs.Names.{is_name, is_name_start, is_name_byte}
use Rattle.dt_model.proofs.NumberWords.{all_ascii_digits-decimal}
use Rattle.dt_model.proofs.Booleans.{both_true}
use Rattle.schema_read.specs.declared.lexer.Token.TheVariants as a
use Rattle.schema_read.specs.Tokens.{is_gap, run_after, is_comment, reserved, number_in, mark_of, number_or, token_of, tokens_of}
use Rattle.schema_read.proofs.TokensLemmas.{tokens_of-word}
use Rattle.schema_read.proofs.NumbersLemmas.{number_in-decimal}
use Rattle.schema_read.proofs.GoodTokens.{IsFree}

-- ---- runs

-- what follows goes on with no name and no number
abbrev pub Stops : List ℕ → Type 0
Stops [] = ⊤
Stops (b ∷ bs) = is_name_byte b ≡ false

end_run : (p : ℕ → Bool) (rest : List ℕ) → ((b : ℕ) → is_name_byte b ≡ false → p b ≡ false) → Stops rest → prefix_len p rest ≡ 0
end_run p [] h s = refl
end_run p (b ∷ bs) h s = rw (h b s) refl

run_by : (p : ℕ → Bool) (b : ℕ) (bs rest : List ℕ) → p b ≡ true → prefix_len p (bs ++ rest) ≡ length bs → prefix_len p ((b ∷ bs) ++ rest) ≡ length (b ∷ bs)
run_by p b bs rest e h = rw (e, h) (omega arith)

-- a run goes up to what stops it
whole_run : (p : ℕ → Bool) (bs rest : List ℕ) → ((b : ℕ) → is_name_byte b ≡ false → p b ≡ false) → Stops rest → list_all p bs ≡ true
    → prefix_len p (bs ++ rest) ≡ length bs
whole_run p [] rest h s e = end_run p rest h s
whole_run p (b ∷ bs) rest h s e =
    let both = both_true (p b) (list_all p bs) e in
    run_by p b bs rest both.0 (whole_run p bs rest h s both.1)

not_digit : (b : ℕ) → is_name_byte b ≡ false → is_ascii_digit b ≡ false
not_digit b h = grind (arith, nat_tests)

start_no_gap : (b : ℕ) → is_name_start b ≡ true → is_gap b ≡ false
start_no_gap b h = grind (arith, nat_tests)

start_no_comment : (b : ℕ) (bs : List ℕ) → is_name_start b ≡ true → is_comment (b ∷ bs) ≡ false
start_no_comment b bs h = grind (arith, nat_tests)

digit_no_gap : (b : ℕ) → is_ascii_digit b ≡ true → is_gap b ≡ false
digit_no_gap b h = grind (arith, nat_tests)

digit_no_comment : (b : ℕ) (bs : List ℕ) → is_ascii_digit b ≡ true → is_comment (b ∷ bs) ≡ false
digit_no_comment b bs h = grind (arith, nat_tests)

digit_no_start : (b : ℕ) → is_ascii_digit b ≡ true → is_name_start b ≡ false
digit_no_start b h = grind (arith, nat_tests)

digits_all : (ds : List ℕ) → all_ascii_digits ds ≡ true → list_all is_ascii_digit ds ≡ true
digits_all [] h = refl
digits_all (d ∷ ds) h =
    let both = both_true (is_ascii_digit d) (all_ascii_digits ds) h in
    rw (both.0, digits_all ds both.1) refl

-- ---- names and numbers

-- a free name before what stops it
pub tokens_of-name : (w rest : List ℕ) → IsFree w → Stops rest → tokens_of (w ++ rest) ≡ a.Name w ∷ tokens_of rest
tokens_of-name [] rest e s = let no : false ≡ true = e.name in absurd (cc)
tokens_of-name (b ∷ bs) rest e s =
    let outer = both_true (is_name_start b && nat_lt (length bs) 32) (list_all is_name_byte bs) e.name in
    let start = (both_true (is_name_start b) (nat_lt (length bs) 32) outer.0).0 in
    let run : run_after b (bs ++ rest) ≡ length bs = rw start (whole_run is_name_byte bs rest (λ x h. h) s outer.1) in
    let word : token_of (b ∷ bs) ≡ a.Name (b ∷ bs) = ap (λ t. cond t (reserved (b ∷ bs)) (number_or (mark_of (b ∷ bs)) (number_in (b ∷ bs)))) e.name ∙ e.free in
    tokens_of-word b bs rest (start_no_gap b start) (start_no_comment b bs start) run ∙ ap (λ t. t ∷ tokens_of rest) word

digits_lexed : (ds rest : List ℕ) (n : ℕ) → 0 < length ds → all_ascii_digits ds ≡ true → number_in ds ≡ Some n → Stops rest
    → tokens_of (ds ++ rest) ≡ a.Number n ∷ tokens_of rest
digits_lexed [] rest n l h e s = absurd (omega (arith, l))
digits_lexed (b ∷ bs) rest n l h e s =
    let both = both_true (is_ascii_digit b) (all_ascii_digits bs) h in
    let digit = both.0 in
    let no_start : is_name_start b ≡ false = digit_no_start b digit in
    let run : run_after b (bs ++ rest) ≡ length bs = rw (no_start, digit) (whole_run is_ascii_digit bs rest not_digit s (digits_all bs both.1)) in
    let no_name : is_name (b ∷ bs) ≡ false = rw no_start refl in
    let word : token_of (b ∷ bs) ≡ a.Number n =
    ap (λ t. cond t (reserved (b ∷ bs)) (number_or (mark_of (b ∷ bs)) (number_in (b ∷ bs)))) no_name ∙ ap (number_or (mark_of (b ∷ bs))) e in
    tokens_of-word b bs rest (digit_no_gap b digit) (digit_no_comment b bs digit) run ∙ ap (λ t. t ∷ tokens_of rest) word

-- a number before what stops it
pub tokens_of-number : (n : ℕ) (rest : List ℕ) → n < 10 ^ 9 → Stops rest → tokens_of (decimal n ++ rest) ≡ a.Number n ∷ tokens_of rest
tokens_of-number n rest l s =
    let small : n < 2 ^ 64 = omega (arith, l) in
    digits_lexed (decimal n) rest n (decimal_is_IsNumeral n small).0.0 (all_ascii_digits-decimal n) (number_in-decimal n l) s
