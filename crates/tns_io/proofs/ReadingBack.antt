-- What is written reads back.
use Rattle.std.proofs.Common.{◌≡◌, ℕ, suc, ◌+◌, ◌-◌, ◌*◌, ◌<◌, ◌≤◌, ◌^◌, ◌++◌, Bool, true, false, cond}
use Rattle.std.proofs.Common.{List, [], ◌∷◌, map, length, refl, ap, ◌∙◌, arith, subst, append-nil, length-append, Ok, Some}
use Rattle.std.specs.Prelude.{◌==◌, ◌&&◌, nat_lt, nat_le}
use Rattle.std.specs.Char.{is_ascii_digit}
use Rattle.std.specs.Fmt.{decimal}
use Rattle.std.specs.List.{join_with_byte, list_all}
use Rattle.std.specs.Str.{all_ascii_digits}
use Rattle.std.proofs.lemmas.Bool.Decides.{nat_tests}
use Rattle.std.proofs.lemmas.Fmt.{length-decimal-le}
use Rattle.std.proofs.lemmas.List.{length-map}
use Rattle.dt_model.specs.declared.limits.TheConstants.{SPACE, MINUS}
use Rattle.dt_model.specs.Report.{pair_row}
use Rattle.dt_model.specs.Texts.{is_blank, is_nonempty, is_word, words_of, number_of, text_of, value_word}
use Rattle.dt_model.specs.Verdicts.{all_in_range}
use Rattle.dt_model.proofs.Booleans.{both_true, true_both}
use Rattle.dt_model.proofs.NumberWords.{all_ascii_digits-decimal, is_nonempty-decimal, is_word-decimal, is_word-value_word, number_of-decimal}
use Rattle.dt_model.proofs.TextsLemmas.{AllWords, lines_of-text, words_of-join}
use Rattle.dt_text.specs.Content.{is_skipped, content_from, is_within_limit}
use Rattle.dt_text.proofs.WrittenLemmas.{value_of-value_word}
use Rattle.tns_io.specs.Tns.{coordinate_of, number_at, number_from, pair_from, pair_of, tns_from, tns_of, with_coordinate, in_front}

-- ---- words

-- a coordinate below a dimension
coordinate_of-decimal : (d c : ℕ) → c < d → d < 2 ^ 32 → coordinate_of d (decimal (c + 1)) ≡ Ok c
coordinate_of-decimal d c l s =
    let number : number_of (decimal (c + 1)) ≡ Some (c + 1) = number_of-decimal (c + 1) (omega arith) in
    let fits : nat_lt (c + 1) (2 ^ 32) ≡ true = grind (arith, nat_tests) in
    let within : (nat_le 1 (c + 1) && nat_le (c + 1) d)
    ≡ true = true_both (nat_le 1 (c + 1)) (nat_le (c + 1) d) (grind (arith, nat_tests)) (grind (arith, nat_tests)) in
    let back : c + 1 - 1 ≡ c = omega arith in
    rw (number, fits, within, back) refl

-- a value
number_at-value_word : (v : ℕ) → v < 2 ^ 64 → number_at (value_word v) ≡ Ok v
number_at-value_word v h = ap number_from (value_of-value_word v h)

-- ---- lines

-- the words of coordinates
abbrev coordinate_words : List ℕ → List (List ℕ)
coordinate_words at = map (λ c. decimal (c + 1)) at

-- dimensions below 2^32
abbrev pub AreDimensions : List ℕ → Type 0
AreDimensions dims = list_all (λ d. nat_lt d (2 ^ 32)) dims ≡ true

pair_from-row : (dims at : List ℕ) (v : ℕ) → AreDimensions dims → all_in_range dims at ≡ true → v < 2 ^ 64
    → pair_from dims (coordinate_words at ++ value_word v ∷ []) ≡ Ok (at, v)
pair_from-row [] [] v s r h = rw (number_at-value_word v h) refl
pair_from-row [] (c ∷ cs) v s r h = absurd cc
pair_from-row (d ∷ ds) [] v s r h = absurd cc
pair_from-row (d ∷ ds) (c ∷ cs) v s r h =
    let small = both_true (nat_lt d (2 ^ 32)) (list_all (λ d. nat_lt d (2 ^ 32)) ds) s in
    let inside = both_true (nat_lt c d) (all_in_range ds cs) r in
    let below : c < d = grind (arith, nat_tests, inside.0) in
    let few : d < 2 ^ 32 = grind (arith, nat_tests, small.0) in
    ap (λ t. with_coordinate t (pair_from ds (coordinate_words cs ++ value_word v ∷ []))) (coordinate_of-decimal d c below few)
    ∙ ap (in_front (c ∷ [])) (pair_from-row ds cs v small.1 inside.1 h)

length-in_range : (dims at : List ℕ) → all_in_range dims at ≡ true → length at ≡ length dims
length-in_range [] [] r = refl
length-in_range [] (c ∷ cs) r = absurd cc
length-in_range (d ∷ ds) [] r = absurd cc
length-in_range (d ∷ ds) (c ∷ cs) r = ap suc (length-in_range ds cs (both_true (nat_lt c d) (all_in_range ds cs) r).1)

length-row : (p : List ℕ × ℕ) → length (pair_row p) ≡ length p.0 + 1
length-row p = length-append (coordinate_words p.0) (value_word p.1 ∷ []) ∙ ap (λ n. n + 1) (length-map p.0 (λ c. decimal (c + 1)))

-- the words of a pair in range read as the pair
pair_of-row : (dims : List ℕ) (p : List ℕ × ℕ) → AreDimensions dims → all_in_range dims p.0 ≡ true → p.1 < 2 ^ 64 → pair_of dims (pair_row p) ≡ Ok p
pair_of-row dims p s r h =
    let many : length (pair_row p) ≡ length dims + 1 = length-row p ∙ ap (λ n. n + 1) (length-in_range dims p.0 r) in
    let test : (length (pair_row p) == length dims + 1) ≡ true = grind (arith, nat_tests) in
    rw test (pair_from-row dims p.0 p.1 s r h)

coordinates_are_words : (at : List ℕ) (last : List ℕ) → is_word last ≡ true → list_all is_word (coordinate_words at ++ last ∷ []) ≡ true
coordinates_are_words [] last h = true_both (is_word last) true h refl
coordinates_are_words (c ∷ cs) last h = true_both (is_word (decimal (c + 1))) _ (is_word-decimal (c + 1)) (coordinates_are_words cs last h)

-- a row is words
row_is_words : (p : List ℕ × ℕ) → list_all is_word (pair_row p) ≡ true
row_is_words p = coordinates_are_words p.0 (value_word p.1) (is_word-value_word p.1)

rows_are_words : (ps : List (List ℕ × ℕ)) → AllWords (map pair_row ps)
rows_are_words [] = refl
rows_are_words (p ∷ ps) = true_both (list_all is_word (pair_row p)) _ (row_is_words p) (rows_are_words ps)

-- ---- no written line is skipped

-- a word that no skipped line begins with
abbrev IsPlain : List ℕ → Type 0
IsPlain word = (rest : List ℕ) → is_skipped (word ++ rest) ≡ false

digit_is_plain : (b : ℕ) → is_ascii_digit b ≡ true → (is_blank b ≡ false) × ((b == 35) ≡ false)
digit_is_plain b h = (grind (arith, nat_tests), grind (arith, nat_tests))

digits_are_plain : (ds : List ℕ) → is_nonempty ds ≡ true → all_ascii_digits ds ≡ true → IsPlain ds
digits_are_plain [] l h rest = absurd cc
digits_are_plain (d ∷ ds) l h rest = let plain = digit_is_plain d (both_true (is_ascii_digit d) (all_ascii_digits ds) h).0 in rw (plain.0, plain.1) refl

value_is_plain : (v : ℕ) → IsPlain (value_word v)
value_is_plain v rest = elim (nat_lt v (2 ^ 63)) as (λ b. is_skipped (cond b (decimal v) (MINUS ∷ decimal (2 ^ 64 - v)) ++ rest) ≡ false) [
  | true ↦ digits_are_plain (decimal v) (is_nonempty-decimal v) (all_ascii_digits-decimal v) rest
  | false ↦ refl
]

join_is_not_skipped : (word : List ℕ) (words : List (List ℕ)) → IsPlain word → is_skipped (join_with_byte SPACE (word ∷ words)) ≡ false
join_is_not_skipped word [] h = subst (λ t. is_skipped t ≡ false) (append-nil word) (h [])
join_is_not_skipped word (w ∷ ws) h = h (SPACE ∷ join_with_byte SPACE (w ∷ ws))

row_is_not_skipped : (at : List ℕ) (v : ℕ) → is_skipped (join_with_byte SPACE (coordinate_words at ++ value_word v ∷ [])) ≡ false
row_is_not_skipped [] v = join_is_not_skipped (value_word v) [] (value_is_plain v)
row_is_not_skipped (c ∷ cs) v = join_is_not_skipped (decimal (c + 1)) (coordinate_words cs ++ value_word v ∷ [])
    (digits_are_plain (decimal (c + 1)) (is_nonempty-decimal (c + 1)) (all_ascii_digits-decimal (c + 1)))

-- ---- no written line is too long

length-value_word : (v : ℕ) → v < 2 ^ 64 → length (value_word v) ≤ 21
length-value_word v h = by_sign (nat_lt v (2 ^ 63)) refl
  where
    by_sign : (b : Bool) → nat_lt v (2 ^ 63) ≡ b → length (cond b (decimal v) (MINUS ∷ decimal (2 ^ 64 - v))) ≤ 21
    by_sign true e = let short = length-decimal-le 20 v (omega arith) (omega arith) h in omega arith
    by_sign false e = let less : 2 ^ 64 - v < 2 ^ 64 = grind (arith, nat_tests) in let short = length-decimal-le 20 (2 ^ 64 - v) (omega arith) (omega arith)
        less in omega arith

length-join-le : (dims at : List ℕ) (v : ℕ) → AreDimensions dims → all_in_range dims at ≡ true → v < 2 ^ 64
    → length (join_with_byte SPACE (coordinate_words at ++ value_word v ∷ [])) ≤ 22 * length at + 21
length-join-le [] [] v s r h = let short = length-value_word v h in omega arith
length-join-le [] (c ∷ cs) v s r h = absurd cc
length-join-le (d ∷ ds) [] v s r h = absurd cc
length-join-le (d ∷ ds) (c ∷ cs) v s r h =
    let small = both_true (nat_lt d (2 ^ 32)) (list_all (λ d. nat_lt d (2 ^ 32)) ds) s in
    let inside = both_true (nat_lt c d) (all_in_range ds cs) r in
    let below : c < d = grind (arith, nat_tests, inside.0) in
    let few : d < 2 ^ 32 = grind (arith, nat_tests, small.0) in
    let short : length (decimal (c + 1)) ≤ 20 = length-decimal-le 20 (c + 1) (omega arith) (omega arith) (omega arith) in
    let later = length-join-le ds cs v small.1 inside.1 h in
    more cs (decimal (c + 1)) short later
  where
    more : (cs word : List ℕ) → length word ≤ 20 → length (join_with_byte SPACE (coordinate_words cs ++ value_word v ∷ [])) ≤ 22 * length cs + 21
        → length (join_with_byte SPACE (word ∷ (coordinate_words cs ++ value_word v ∷ []))) ≤ 22 * suc (length cs) + 21
    more [] word a b = omega (arith, length-append word (SPACE ∷ value_word v))
    more (e ∷ es) word a b = omega (arith, length-append word (SPACE ∷ join_with_byte SPACE (coordinate_words (e ∷ es) ++ value_word v ∷ [])))

-- ---- texts

-- pairs in range of dimensions, with values below 2^64
pub record AreInRange (dims : List ℕ) (ps : List (List ℕ × ℕ)) : Type 0 where
  pub few : length dims ≤ 8
  pub dimensions : AreDimensions dims
  pub cells : list_all (λ p. all_in_range dims p.0) ps ≡ true
  pub values : list_all (λ p. nat_lt p.1 (2 ^ 64)) ps ≡ true

-- the lines of pairs
abbrev pair_lines : List (List ℕ × ℕ) → List (List ℕ)
pair_lines ps = map (join_with_byte SPACE) (map pair_row ps)

tns_from-lines : (dims : List ℕ) (most n : ℕ) (ps : List (List ℕ × ℕ)) → AreInRange dims ps → length ps ≤ most
    → tns_from dims most (content_from n (pair_lines ps)) ≡ Ok ps
tns_from-lines dims most n [] h l = refl
tns_from-lines dims most n (p ∷ ps) h l =
    let cells = both_true (all_in_range dims p.0) (list_all (λ p. all_in_range dims p.0) ps) h.cells in
    let values = both_true (nat_lt p.1 (2 ^ 64)) (list_all (λ p. nat_lt p.1 (2 ^ 64)) ps) h.values in
    let value : p.1 < 2 ^ 64 = grind (arith, nat_tests, values.0) in
    let line = join_with_byte SPACE (pair_row p) in
    let kept : is_skipped line ≡ false = row_is_not_skipped p.0 p.1 in
    let as_many : length p.0 ≡ length dims = length-in_range dims p.0 cells.0 in
    let short : length line ≤ 22 * length p.0 + 21 = length-join-le dims p.0 p.1 h.dimensions cells.0 value in
    let few = h.few in
    let small : length line ≤ 4096 = omega arith in
    let within : is_within_limit line ≡ true = grind (arith, nat_tests) in
    let some : (most == 0) ≡ false = grind (arith, nat_tests) in
    let read : pair_of dims (words_of line) ≡ Ok p = ap (pair_of dims) (words_of-join (pair_row p) (row_is_words p))
    ∙ pair_of-row dims p h.dimensions cells.0 value in
    let later = tns_from-lines dims (most - 1) (n + 1) ps (record { few = h.few; dimensions = h.dimensions; cells = cells.1; values = values.1 })
    (omega arith) in
    rw (kept, some, within, read, later) refl

-- the text of pairs in range, of which no more than may be read, reads as the pairs
pub tns_of-text : (dims : List ℕ) (most : ℕ) (ps : List (List ℕ × ℕ)) → AreInRange dims ps → length ps ≤ most
    → tns_of dims most (text_of (map pair_row ps)) ≡ Ok ps
tns_of-text dims most ps h l = ap (λ lines. tns_from dims most (content_from 1 lines)) (lines_of-text (map pair_row ps) (rows_are_words ps))
    ∙ tns_from-lines dims most 1 ps h l
