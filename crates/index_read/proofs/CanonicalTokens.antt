-- The text of trees has their tokens.
use Rattle.std.proofs.Common.{◌≡◌, ℕ, ◌+◌, ◌<◌, ◌^◌, ◌++◌, Bool, true, false, cond, List, [], ◌∷◌, length, refl, ap, sym, ◌∙◌, arith, Some}
use Rattle.std.specs.Prelude.{⊤, ◌&&◌, nat_lt}
use Rattle.std.specs.Fmt.{decimal}
use Rattle.std.specs.Str.{all_ascii_digits}
use Rattle.std.specs.List.{prefix_len, list_all}
use Rattle.std.specs.Char.{is_ascii_digit}
use Rattle.std.proofs.lemmas.Bool.Decides.{nat_tests}
use Rattle.std.proofs.lemmas.List.{append_assoc}
use Rattle.std.proofs.lemmas.Fmt.{decimal_is_IsNumeral}
use Rattle.dt_model.specs.Texts.{is_blank, number_of}
use Rattle.dt_model.proofs.NumberWords.{all_ascii_digits-decimal, number_of-decimal}
use Rattle.dt_text.specs.Numerals.{positive_in_range, whole_of}
use Rattle.dt_model.specs.Names.{is_name, is_name_start, is_name_byte}
use Rattle.dt_model.proofs.Booleans.{both_true}
use Rattle.index_read.specs.declared.lexer.Token.TheVariants as a
use Rattle.index_read.specs.Tokens.{run_after, is_number, mark_of, token_of, tokens_of}
use Rattle.index_read.specs.Grammar.{Factor, Number, Access, Parens, Factors, One, Times, Terms, First, Negated, Plus, Minus, list_tokens, factor_tokens}
use Rattle.index_read.specs.Grammar.{factors_tokens, terms_tokens}
use Rattle.index_read.proofs.CanonicalTrees.{list_text, number_text, factor_text, factors_text, terms_text}
use Rattle.index_read.proofs.TokensLemmas.{tokens_of-blank, tokens_of-word}

-- what follows goes on with no name and no number
abbrev pub Stops : List ℕ → Type 0
Stops [] = ⊤
Stops (b ∷ bs) = is_name_byte b ≡ false

run_by : (p : ℕ → Bool) (b : ℕ) (bs rest : List ℕ) (t : Bool) → p b ≡ t → (t && list_all p bs) ≡ true
    → (list_all p bs ≡ true → prefix_len p (bs ++ rest) ≡ length bs) → cond t (1 + prefix_len p (bs ++ rest)) 0 ≡ length (b ∷ bs)
run_by p b bs rest true e h more = ap (λ n. 1 + n) (more h) ∙ omega arith
run_by p b bs rest false e h more = absurd (cc)

end_run : (p : ℕ → Bool) (rest : List ℕ) → ((b : ℕ) → is_name_byte b ≡ false → p b ≡ false) → Stops rest → prefix_len p rest ≡ 0
end_run p [] h s = refl
end_run p (b ∷ bs) h s = rw (h b s) refl

-- a run goes up to what stops it
whole_run : (p : ℕ → Bool) (bs rest : List ℕ) → ((b : ℕ) → is_name_byte b ≡ false → p b ≡ false) → Stops rest → list_all p bs ≡ true
    → prefix_len p (bs ++ rest) ≡ length bs
whole_run p [] rest h s e = end_run p rest h s
whole_run p (b ∷ bs) rest h s e = run_by p b bs rest (p b) refl e (λ f. whole_run p bs rest h s f)

not_digit : (b : ℕ) → is_name_byte b ≡ false → is_ascii_digit b ≡ false
not_digit b h = grind (arith, nat_tests)

start_no_blank : (b : ℕ) → is_name_start b ≡ true → is_blank b ≡ false
start_no_blank b h = grind (arith, nat_tests)

digit_no_blank : (b : ℕ) → is_ascii_digit b ≡ true → is_blank b ≡ false
digit_no_blank b h = grind (arith, nat_tests)

digit_no_start : (b : ℕ) → is_ascii_digit b ≡ true → is_name_start b ≡ false
digit_no_start b h = grind (arith, nat_tests)

digits_all : (ds : List ℕ) → all_ascii_digits ds ≡ true → list_all is_ascii_digit ds ≡ true
digits_all [] h = refl
digits_all (d ∷ ds) h =
    let both = both_true (is_ascii_digit d) (all_ascii_digits ds) h in
    rw (both.0, digits_all ds both.1) refl

-- digits before what stops them
digits_lexed : (ds rest : List ℕ) → 0 < length ds → all_ascii_digits ds ≡ true → Stops rest
    → tokens_of (ds ++ rest) ≡ a.Number (positive_in_range (number_of ds)) ∷ tokens_of rest
digits_lexed [] rest l h s = absurd (omega arith)
digits_lexed (b ∷ bs) rest l h s =
    let both = both_true (is_ascii_digit b) (all_ascii_digits bs) h in
    let digit = both.0 in
    let others : list_all is_ascii_digit bs ≡ true = digits_all bs both.1 in
    let no_start : is_name_start b ≡ false = digit_no_start b digit in
    let run : run_after b (bs ++ rest) ≡ length bs = rw (no_start, digit) (whole_run is_ascii_digit bs rest not_digit s others) in
    let no_name : is_name (b ∷ bs) ≡ false = rw no_start refl in
    let number : is_number (b ∷ bs) ≡ true = rw (digit, others) refl in
    let word : token_of (b ∷ bs) ≡ a.Number (positive_in_range (number_of (b ∷ bs))) =
    ap (λ t. cond t (a.Word (b ∷ bs)) (cond (is_number (b ∷ bs)) (a.Number (whole_of (b ∷ bs))) (mark_of (b ∷ bs)))) no_name
    ∙ ap (λ t. cond t (a.Number (whole_of (b ∷ bs))) (mark_of (b ∷ bs))) number in
    tokens_of-word b bs rest (digit_no_blank b digit) run ∙ ap (λ t. t ∷ tokens_of rest) word

-- a number before what stops it
pub tokens_of-number : (n : ℕ) (rest : List ℕ) → n < 2 ^ 64 → Stops rest → tokens_of (decimal n ++ rest) ≡ a.Number (Some n) ∷ tokens_of rest
tokens_of-number n rest l s =
    let small : nat_lt n (2 ^ 64) ≡ true = grind (arith, nat_tests) in
    let value : positive_in_range (number_of (decimal n)) ≡ Some n = ap positive_in_range (number_of-decimal n l) ∙ rw small refl in
    digits_lexed (decimal n) rest (decimal_is_IsNumeral n l).0.0 (all_ascii_digits-decimal n) s ∙ ap (λ m. a.Number m ∷ tokens_of rest) value

-- a name before what stops it
pub tokens_of-name : (w rest : List ℕ) → is_name w ≡ true → Stops rest → tokens_of (w ++ rest) ≡ a.Word w ∷ tokens_of rest
tokens_of-name [] rest e s = absurd (cc)
tokens_of-name (b ∷ bs) rest e s =
    let outer = both_true (is_name_start b && nat_lt (length bs) 32) (list_all is_name_byte bs) e in
    let start = (both_true (is_name_start b) (nat_lt (length bs) 32) outer.0).0 in
    let run : run_after b (bs ++ rest) ≡ length bs = rw start (whole_run is_name_byte bs rest (λ x h. h) s outer.1) in
    let word : token_of (b ∷ bs) ≡ a.Word (b ∷ bs) = rw e refl in
    tokens_of-word b bs rest (start_no_blank b start) run ∙ ap (λ t. t ∷ tokens_of rest) word

-- an opening parenthesis
pub open_token : (rest : List ℕ) → tokens_of (40 ∷ rest) ≡ a.Open ∷ tokens_of rest
open_token rest = tokens_of-word 40 [] rest refl refl

close_token : (rest : List ℕ) → tokens_of (41 ∷ rest) ≡ a.Close ∷ tokens_of rest
close_token rest = tokens_of-word 41 [] rest refl refl

comma_token : (rest : List ℕ) → tokens_of (44 ∷ rest) ≡ a.Comma ∷ tokens_of rest
comma_token rest = tokens_of-word 44 [] rest refl refl

times_token : (rest : List ℕ) → tokens_of (32 ∷ 42 ∷ 32 ∷ rest) ≡ a.Times ∷ tokens_of rest
times_token rest = tokens_of-blank (42 ∷ 32 ∷ rest) ∙ tokens_of-word 42 [] (32 ∷ rest) refl refl ∙ ap (λ ts. a.Times ∷ ts) (tokens_of-blank rest)

plus_token : (rest : List ℕ) → tokens_of (32 ∷ 43 ∷ 32 ∷ rest) ≡ a.Plus ∷ tokens_of rest
plus_token rest = tokens_of-blank (43 ∷ 32 ∷ rest) ∙ tokens_of-word 43 [] (32 ∷ rest) refl refl ∙ ap (λ ts. a.Plus ∷ ts) (tokens_of-blank rest)

minus_token : (rest : List ℕ) → tokens_of (32 ∷ 45 ∷ 32 ∷ rest) ≡ a.Minus ∷ tokens_of rest
minus_token rest = tokens_of-blank (45 ∷ 32 ∷ rest) ∙ tokens_of-word 45 [] (32 ∷ rest) refl refl ∙ ap (λ ts. a.Minus ∷ ts) (tokens_of-blank rest)

negate_token : (rest : List ℕ) → tokens_of (45 ∷ rest) ≡ a.Minus ∷ tokens_of rest
negate_token rest = tokens_of-word 45 [] rest refl refl

-- ---- trees whose names are names and whose numbers are read back

-- a first variable and others are names
abbrev pub AreNames : List ℕ → List (List ℕ) → Type 0
AreNames v [] = is_name v ≡ true
AreNames v (w ∷ ws) = (is_name v ≡ true) × AreNames w ws

-- a factor, factors and terms
abbrev mutual
  pub FactorIsGood : Factor → Type 0
  FactorIsGood (Number n) = (rest : List ℕ) → Stops rest → tokens_of (number_text n ++ rest) ≡ a.Number n ∷ tokens_of rest
  FactorIsGood (Access t v vs) = (is_name t ≡ true) × AreNames v vs
  FactorIsGood (Parens e) = TermsAreGood e

  pub FactorsAreGood : Factors → Type 0
  FactorsAreGood (One f) = FactorIsGood f
  FactorsAreGood (Times fs f) = FactorsAreGood fs × FactorIsGood f

  pub TermsAreGood : Terms → Type 0
  TermsAreGood (First fs) = FactorsAreGood fs
  TermsAreGood (Negated fs) = FactorsAreGood fs
  TermsAreGood (Plus e fs) = TermsAreGood e × FactorsAreGood fs
  TermsAreGood (Minus e fs) = TermsAreGood e × FactorsAreGood fs

-- variables before a closing parenthesis
pub list_lexed : (v : List ℕ) (vs : List (List ℕ)) (rest : List ℕ) → AreNames v vs
    → tokens_of (list_text v vs ++ 41 ∷ rest) ≡ list_tokens v vs ++ a.Close ∷ tokens_of rest
list_lexed v [] rest h = tokens_of-name v (41 ∷ rest) h refl ∙ ap (λ ts. a.Word v ∷ ts) (close_token rest)
list_lexed v (w ∷ ws) rest h =
    ap tokens_of (append_assoc v (44 ∷ list_text w ws) (41 ∷ rest))
    ∙ tokens_of-name v (44 ∷ (list_text w ws ++ 41 ∷ rest)) h.0 refl
    ∙ ap (λ ts. a.Word v ∷ ts) (comma_token (list_text w ws ++ 41 ∷ rest))
    ∙ ap (λ ts. a.Word v ∷ a.Comma ∷ ts) (list_lexed w ws rest h.1)

-- a factor, factors and terms before what stops them
mutual
  pub factor_lexed : (f : Factor) (rest : List ℕ) → FactorIsGood f → Stops rest → tokens_of (factor_text f ++ rest) ≡ factor_tokens f ++ tokens_of rest
  factor_lexed (Number n) rest h s = h rest s
  factor_lexed (Access t v vs) rest h s =
      ap tokens_of (append_assoc t (40 ∷ (list_text v vs ++ 41 ∷ [])) rest)
      ∙ tokens_of-name t (40 ∷ ((list_text v vs ++ 41 ∷ []) ++ rest)) h.0 refl
      ∙ ap (λ ts. a.Word t ∷ ts) (open_token ((list_text v vs ++ 41 ∷ []) ++ rest))
      ∙ ap (λ bs. a.Word t ∷ a.Open ∷ tokens_of bs) (append_assoc (list_text v vs) (41 ∷ []) rest)
      ∙ ap (λ ts. a.Word t ∷ a.Open ∷ ts) (list_lexed v vs rest h.1 ∙ sym (append_assoc (list_tokens v vs) (a.Close ∷ []) (tokens_of rest)))
  factor_lexed (Parens e) rest h s =
      open_token ((terms_text e ++ 41 ∷ []) ++ rest)
      ∙ ap (λ bs. a.Open ∷ tokens_of bs) (append_assoc (terms_text e) (41 ∷ []) rest)
      ∙ ap (λ ts. a.Open ∷ ts) (terms_lexed e (41 ∷ rest) h refl ∙ ap (λ ts. terms_tokens e ++ ts) (close_token rest)
      ∙ sym (append_assoc (terms_tokens e) (a.Close ∷ []) (tokens_of rest)))

  pub factors_lexed : (fs : Factors) (rest : List ℕ) → FactorsAreGood fs → Stops rest
      → tokens_of (factors_text fs ++ rest) ≡ factors_tokens fs ++ tokens_of rest
  factors_lexed (One f) rest h s = factor_lexed f rest h s
  factors_lexed (Times fs f) rest h s =
      ap tokens_of (append_assoc (factors_text fs) (32 ∷ 42 ∷ 32 ∷ factor_text f) rest)
      ∙ factors_lexed fs (32 ∷ 42 ∷ 32 ∷ (factor_text f ++ rest)) h.0 refl
      ∙ ap (λ ts. factors_tokens fs ++ ts) (times_token (factor_text f ++ rest) ∙ ap (λ ts. a.Times ∷ ts) (factor_lexed f rest h.1 s))
      ∙ sym (append_assoc (factors_tokens fs) (a.Times ∷ factor_tokens f) (tokens_of rest))

  pub terms_lexed : (e : Terms) (rest : List ℕ) → TermsAreGood e → Stops rest → tokens_of (terms_text e ++ rest) ≡ terms_tokens e ++ tokens_of rest
  terms_lexed (First fs) rest h s = factors_lexed fs rest h s
  terms_lexed (Negated fs) rest h s = negate_token (factors_text fs ++ rest) ∙ ap (λ ts. a.Minus ∷ ts) (factors_lexed fs rest h s)
  terms_lexed (Plus e fs) rest h s =
      ap tokens_of (append_assoc (terms_text e) (32 ∷ 43 ∷ 32 ∷ factors_text fs) rest)
      ∙ terms_lexed e (32 ∷ 43 ∷ 32 ∷ (factors_text fs ++ rest)) h.0 refl
      ∙ ap (λ ts. terms_tokens e ++ ts) (plus_token (factors_text fs ++ rest) ∙ ap (λ ts. a.Plus ∷ ts) (factors_lexed fs rest h.1 s))
      ∙ sym (append_assoc (terms_tokens e) (a.Plus ∷ factors_tokens fs) (tokens_of rest))
  terms_lexed (Minus e fs) rest h s =
      ap tokens_of (append_assoc (terms_text e) (32 ∷ 45 ∷ 32 ∷ factors_text fs) rest)
      ∙ terms_lexed e (32 ∷ 45 ∷ 32 ∷ (factors_text fs ++ rest)) h.0 refl
      ∙ ap (λ ts. terms_tokens e ++ ts) (minus_token (factors_text fs ++ rest) ∙ ap (λ ts. a.Minus ∷ ts) (factors_lexed fs rest h.1 s))
      ∙ sym (append_assoc (terms_tokens e) (a.Minus ∷ factors_tokens fs) (tokens_of rest))
