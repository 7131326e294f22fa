-- A text of rows of words reads back to the rows.
use Rattle.std.proofs.Common.{◌≡◌, ℕ, ◌-◌, ◌++◌, Bool, true, false, not, List, [], ◌∷◌, length, map, refl, ap, ◌∙◌, append_assoc, sym}
use Rattle.std.specs.Prelude.{◌&&◌, ◌==◌, slice_index}
use Rattle.std.specs.List.{slice_split, join_with_byte, list_all}
use native.Mathlib.Numerals.{unary_clauses}
use Rattle.dt_model.specs.declared.limits.TheConstants.{LINE_FEED, CARRIAGE_RETURN, SPACE, TAB}
use Rattle.dt_model.specs.Texts.{is_blank, is_nonempty, words_of, without_empty_end, strip_cr, lines_of, rows_of, text_of, is_word_byte, is_word, line_of}
use Rattle.dt_model.proofs.Booleans.{both_true, true_both, not_true, list_all-weaker, list_all-append}

-- the first part ends at the first element that passes
pub split_at : {X : Type 0} (p : X → Bool) (xs : List X) (y : X) (ys : List X) → list_all (λ x. not (p x)) xs ≡ true → p y ≡ true
    → slice_split p (xs ++ y ∷ ys) ≡ xs ∷ slice_split p ys
split_at p [] y ys h e = rw e refl
split_at p (x ∷ xs) y ys h e =
    let both = both_true (not (p x)) (list_all (λ z. not (p z)) xs) h in
    let here : p x ≡ false = not_true (p x) both.0 in
    rw (here, split_at p xs y ys both.1 e) refl

-- where no element passes, the list is one part
pub split_none : {X : Type 0} (p : X → Bool) (xs : List X) → list_all (λ x. not (p x)) xs ≡ true → slice_split p xs ≡ xs ∷ []
split_none p [] h = refl
split_none p (x ∷ xs) h =
    let both = both_true (not (p x)) (list_all (λ z. not (p z)) xs) h in
    let here : p x ≡ false = not_true (p x) both.0 in
    rw (here, split_none p xs both.1) refl

four : (a b c d : Bool) → (a && b && c && d) ≡ true → (a ≡ true) × (b ≡ true) × (c ≡ true) × (d ≡ true)
four true true true d e = (refl, refl, refl, e)
four true true false d e = absurd (cc)
four true false c d e = absurd (cc)
four false b c d e = absurd (cc)

no_blank : (b : ℕ) → is_word_byte b ≡ true → not (is_blank b) ≡ true
no_blank b e = let f = four (not (b == SPACE)) (not (b == TAB)) (not (b == LINE_FEED)) (not (b == CARRIAGE_RETURN)) e in
    rw (not_true (b == SPACE) f.0, not_true (b == TAB) f.1) refl

-- a byte of a line
abbrev pub is_line_byte : ℕ → Bool
is_line_byte b = not (b == LINE_FEED) && not (b == CARRIAGE_RETURN)

in_line : (b : ℕ) → is_word_byte b ≡ true → is_line_byte b ≡ true
in_line b e = let f = four (not (b == SPACE)) (not (b == TAB)) (not (b == LINE_FEED)) (not (b == CARRIAGE_RETURN)) e in true_both _ _ f.2 f.3

word_bytes : (w : List ℕ) → is_word w ≡ true → list_all is_word_byte w ≡ true
word_bytes [] e = absurd (cc)
word_bytes (b ∷ bs) e = e

word_nonempty : (w : List ℕ) → is_word w ≡ true → is_nonempty w ≡ true
word_nonempty [] e = absurd (cc)
word_nonempty (b ∷ bs) e = refl

-- the words of a line that is written from words are these
pub words_of-join : (row : List (List ℕ)) → list_all is_word row ≡ true → words_of (join_with_byte SPACE row) ≡ row
words_of-join [] h = refl
words_of-join (w ∷ []) h =
    let is = (both_true (is_word w) true h).0 in
    let bytes = list_all-weaker is_word_byte (λ b. not (is_blank b)) w no_blank (word_bytes w is) in
    rw (split_none is_blank w bytes, word_nonempty w is) refl
words_of-join (w ∷ v ∷ vs) h =
    let both = both_true (is_word w) (list_all is_word (v ∷ vs)) h in
    let bytes = list_all-weaker is_word_byte (λ b. not (is_blank b)) w no_blank (word_bytes w both.0) in
    rw (split_at is_blank w SPACE (join_with_byte SPACE (v ∷ vs)) bytes refl, word_nonempty w both.0) (ap (λ ws. w ∷ ws) (words_of-join (v ∷ vs) both.1))

-- a line that is written from words has no line end in it
pub line-join : (row : List (List ℕ)) → list_all is_word row ≡ true → list_all is_line_byte (join_with_byte SPACE row) ≡ true
line-join [] h = refl
line-join (w ∷ []) h = list_all-weaker is_word_byte is_line_byte w in_line (word_bytes w (both_true (is_word w) true h).0)
line-join (w ∷ v ∷ vs) h =
    let both = both_true (is_word w) (list_all is_word (v ∷ vs)) h in
    list_all-append is_line_byte w (SPACE ∷ join_with_byte SPACE (v ∷ vs))
    (list_all-weaker is_word_byte is_line_byte w in_line (word_bytes w both.0)) (line-join (v ∷ vs) both.1)

-- ---- lines

-- each row has words alone
abbrev pub AllWords : List (List (List ℕ)) → Type 0
AllWords rows = list_all (list_all is_word) rows ≡ true

parts_of-text : (rows : List (List (List ℕ))) → AllWords rows → slice_split (λ b. b == LINE_FEED) (text_of rows) ≡ map (join_with_byte SPACE) rows ++ [] ∷ []
parts_of-text [] h = refl
parts_of-text (row ∷ rows) h =
    let both = both_true (list_all is_word row) (list_all (list_all is_word) rows) h in
    let quiet = list_all-weaker is_line_byte (λ b. not (b == LINE_FEED)) (join_with_byte SPACE row)
    (λ b e. (both_true (not (b == LINE_FEED)) (not (b == CARRIAGE_RETURN)) e).0) (line-join row both.0) in
    rw (
      append_assoc (join_with_byte SPACE row) (LINE_FEED ∷ []) (text_of rows),
      split_at (λ b. b == LINE_FEED) (join_with_byte SPACE row) LINE_FEED (text_of rows) quiet refl,
    )
    (ap (λ ls. join_with_byte SPACE row ∷ ls) (parts_of-text rows both.1))

without_empty_end-append : (xs : List (List ℕ)) → without_empty_end (xs ++ [] ∷ []) ≡ xs
without_empty_end-append [] = refl
without_empty_end-append (x ∷ []) = refl
without_empty_end-append (x ∷ y ∷ ys) = ap (λ ls. x ∷ ls) (without_empty_end-append (y ∷ ys))

-- the last byte, or 0, passes where 0 and all bytes pass
last_passes : (p : ℕ → Bool) (xs : List ℕ) → p 0 ≡ true → list_all p xs ≡ true → p (slice_index xs (length xs - 1)) ≡ true
last_passes p [] z h = z
last_passes p (x ∷ []) z h = (both_true (p x) true h).0
last_passes p (x ∷ y ∷ ys) z h = simp unary_clauses (simp unary_clauses at (last_passes p (y ∷ ys) z (both_true (p x) (list_all p (y ∷ ys)) h).1))

strip_cr-line : (line : List ℕ) → list_all is_line_byte line ≡ true → strip_cr line ≡ line
strip_cr-line line h =
    let last : is_line_byte (slice_index line (length line - 1)) ≡ true = last_passes is_line_byte line refl h in
    rw (not_true (slice_index line (length line - 1) == CARRIAGE_RETURN) (both_true (not (slice_index line (length line - 1) == LINE_FEED)) _ last).1) refl

lines_same : (rows : List (List (List ℕ))) → AllWords rows → map strip_cr (map (join_with_byte SPACE) rows) ≡ map (join_with_byte SPACE) rows
lines_same [] h = refl
lines_same (row ∷ rows) h =
    let both = both_true (list_all is_word row) (list_all (list_all is_word) rows) h in
    rw (strip_cr-line (join_with_byte SPACE row) (line-join row both.0), lines_same rows both.1) refl

-- the lines of a text that is written from rows are the rows, each written
pub lines_of-text : (rows : List (List (List ℕ))) → AllWords rows → lines_of (text_of rows) ≡ map (join_with_byte SPACE) rows
lines_of-text rows h = rw (parts_of-text rows h, without_empty_end-append (map (join_with_byte SPACE) rows)) (lines_same rows h)

words_same : (rows : List (List (List ℕ))) → AllWords rows → map words_of (map (join_with_byte SPACE) rows) ≡ rows
words_same [] h = refl
words_same (row ∷ rows) h =
    let both = both_true (list_all is_word row) (list_all (list_all is_word) rows) h in
    rw (words_of-join row both.0, words_same rows both.1) refl

-- the text of rows reads back to the rows
pub rows_of-text : (rows : List (List (List ℕ))) → AllWords rows → rows_of (text_of rows) ≡ rows
rows_of-text rows h = ap (map words_of) (lines_of-text rows h) ∙ words_same rows h

-- the text of rows one after the other is the texts one after the other
pub text_of-append : (xs ys : List (List (List ℕ))) → text_of (xs ++ ys) ≡ text_of xs ++ text_of ys
text_of-append [] ys = refl
text_of-append (x ∷ xs) ys = ap (λ t. line_of x ++ t) (text_of-append xs ys) ∙ sym (append_assoc (line_of x) (text_of xs) (text_of ys))
