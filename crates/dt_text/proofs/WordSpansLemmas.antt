-- The spans of the words of a line: what they name, where they are, how many there are, and a step from one to the next.
use Rattle.std.proofs.Common.{◌≡◌, ℕ, ◌+◌, ◌<◌, ◌≤◌, ◌++◌, true, false, cond, List, [], ◌∷◌, length, map, filter, take, drop, refl, ap, sym, ◌∙◌, arith, suc, not, get_or}
use Rattle.std.specs.List.{All, slice_split, list_all}
use Rattle.std.proofs.lemmas.List.{length-append, length-take-le, take_all, drop-drop, take-append-drop, append-nil}
use Rattle.std.proofs.lemmas.List.Elements.{All-nil, All-cons}
use Rattle.dt_model.specs.Texts.{is_blank, is_nonempty, words_of}
use Rattle.dt_text.specs.Spans.{span, bytes_of, IsSpanOf, word_spans, words_from, word_spans_from}
use Rattle.std.proofs.lemmas.Grind.{common_steps}
use Rattle.dt_model.proofs.Booleans.{both_true}
use Rattle.dt_model.proofs.TextsLemmas.{split_at, split_none}
use Rattle.dt_text.proofs.PartsLemmas.{AreParts, AreParts-slice_split, slice_range-part, behind, length-behind, length-nonempty}
use Rattle.dt_text.proofs.LinePartsLemmas.{is_nonempty-positive, true_not_false}

word_named : (before part tail whole : List ℕ) → whole ≡ before ++ (part ++ tail) → bytes_of whole (span (length before) (length before + length part)) ≡ part
word_named before part tail whole is = slice_range-part before part tail whole (length part) is (omega arith) ∙ take_all (length part) part (omega arith)

words_named : (parts : List (List ℕ)) (before text whole : List ℕ) → whole ≡ before ++ text → AreParts parts text
    → map (bytes_of whole) (words_from (length before) parts) ≡ filter is_nonempty parts
words_named [] before text whole is h = refl
words_named (part ∷ []) before text whole is h = elim (is_nonempty part) as (λ b. map (bytes_of whole) (cond b (span (length before) (length before
    + length part) ∷ []) []) ≡ cond b (part ∷ []) []) [
      | true ↦ ap (λ l. l ∷ []) (word_named before part h.0 whole (is ∙ ap (λ t. before ++ t) h.1))
      | false ↦ refl
    ]
words_named (part ∷ q ∷ qs) before text whole is h =
    let at : whole ≡ before ++ (part ++ h.0 ∷ h.1) = is ∙ ap (λ t. before ++ t) h.2 in
    let more = words_from (length before + length part + 1) (q ∷ qs) in
    let rest : map (bytes_of whole) more ≡ filter is_nonempty (q ∷ qs) =
    ap (λ n. map (bytes_of whole) (words_from n (q ∷ qs))) (sym (length-behind before part h.0))
    ∙ words_named (q ∷ qs) (before ++ (part ++ h.0 ∷ [])) h.1 whole (behind before part h.1 whole h.0 at) h.3 in
    elim (is_nonempty part) as (λ b. map (bytes_of whole) (cond b (span (length before) (length before + length part) ∷ more) more)
    ≡ cond b (part ∷ filter is_nonempty (q ∷ qs)) (filter is_nonempty (q ∷ qs))) [
      | true ↦ ap (λ l. l ∷ map (bytes_of whole) more) (word_named before part (h.0 ∷ h.1) whole at) ∙ ap (λ ls. part ∷ ls) rest
      | false ↦ rest
    ]

-- the spans of a line's words name its words
pub word_spans-named : (line : List ℕ) → map (bytes_of line) (word_spans line) ≡ words_of line
word_spans-named line = words_named _ [] line line refl (AreParts-slice_split is_blank line)

-- the spans of a line's words lie within it
words_inside : (whole : List ℕ) (parts : List (List ℕ)) (text : List ℕ) (at : ℕ) → at + length text ≤ length whole → AreParts parts text
    → All (IsSpanOf whole) (words_from at parts)
words_inside whole [] text at l h = All-nil (IsSpanOf whole)
words_inside whole (part ∷ []) text at l h =
    let whole_length : length text ≡ length part + length h.0 = ap length h.1 ∙ length-append part h.0 in
    let this : IsSpanOf whole (span at (at + length part)) = record { ordered = omega arith; inside = omega arith } in
    elim (is_nonempty part) as (λ b. All (IsSpanOf whole) (cond b (span at (at + length part) ∷ []) [])) [
      | true ↦ All-cons (IsSpanOf whole) (span at (at + length part)) [] this (All-nil (IsSpanOf whole))
      | false ↦ All-nil (IsSpanOf whole)
    ]
words_inside whole (part ∷ q ∷ qs) text at l h =
    let whole_length : length text ≡ length part + length (h.0 ∷ h.1) = ap length h.2 ∙ length-append part (h.0 ∷ h.1) in
    let behind : length (h.0 ∷ h.1) ≡ length h.1 + 1 = omega arith in
    let this : IsSpanOf whole (span at (at + length part)) = record { ordered = omega arith; inside = omega arith } in
    let more = words_from (at + length part + 1) (q ∷ qs) in
    let rest = words_inside whole (q ∷ qs) h.1 (at + length part + 1) (omega arith) h.3 in
    elim (is_nonempty part) as (λ b. All (IsSpanOf whole) (cond b (span at (at + length part) ∷ more) more)) [
      | true ↦ All-cons (IsSpanOf whole) (span at (at + length part)) more this rest
      | false ↦ rest
    ]

-- they lie within it
pub word_spans-inside : (line : List ℕ) → All (IsSpanOf line) (word_spans line)
word_spans-inside line = words_inside line _ line 0 (omega arith) (AreParts-slice_split is_blank line)

words_few : (parts : List (List ℕ)) (text : List ℕ) (at : ℕ) → AreParts parts text → length (words_from at parts) ≤ length text
words_few [] text at h = omega arith
words_few (part ∷ []) text at h =
    let whole_length : length text ≡ length part + length h.0 = ap length h.1 ∙ length-append part h.0 in
    elim (is_nonempty part) as (λ b. is_nonempty part ≡ b → length (cond b (span at (at + length part) ∷ []) []) ≤ length text) [
      | true ↦ λ e. let some = length-nonempty part e in omega arith
      | false ↦ λ e. omega arith
    ] refl
words_few (part ∷ q ∷ qs) text at h =
    let whole_length : length text ≡ length part + length (h.0 ∷ h.1) = ap length h.2 ∙ length-append part (h.0 ∷ h.1) in
    let behind : length (h.0 ∷ h.1) ≡ length h.1 + 1 = omega arith in
    let more = words_from (at + length part + 1) (q ∷ qs) in
    let rest : length more ≤ length h.1 = words_few (q ∷ qs) h.1 (at + length part + 1) h.3 in
    elim (is_nonempty part) as (λ b. length (cond b (span at (at + length part) ∷ more) more) ≤ length text) [ true ↦ omega arith | false ↦ omega arith ]

-- a line has no more words than bytes
pub length-word_spans : (line : List ℕ) → length (word_spans line) ≤ length line
length-word_spans line = words_few _ line 0 (AreParts-slice_split is_blank line)  -- blanks begin no word

words_from-blanks : (xs ys : List ℕ) (at : ℕ) → list_all is_blank xs ≡ true
    → words_from at (slice_split is_blank (xs ++ ys)) ≡ words_from (at + length xs) (slice_split is_blank ys)
words_from-blanks [] ys at h = let same : at ≡ at + 0 = omega arith in ap (λ n. words_from n (slice_split is_blank ys)) same
words_from-blanks (x ∷ xs) ys at h =
    let both = both_true (is_blank x) (list_all is_blank xs) h in
    let same : at + 0 + 1 + length xs ≡ at + suc (length xs) = omega arith in
    rw both.0 (words_from-blanks xs ys (at + 0 + 1) both.1 ∙ ap (λ n. words_from n (slice_split is_blank ys)) same)

-- a word goes up to a blank or the end
words_from-word : (w ys : List ℕ) (at : ℕ) → 0 < length w → list_all (λ b. not (is_blank b)) w ≡ true → (0 < length ys → is_blank (get_or ys 0 0) ≡ true)
    → words_from at (slice_split is_blank (w ++ ys)) ≡ span at (at + length w) ∷ words_from (at + length w) (slice_split is_blank ys)
words_from-word w [] at l h e = rw (append-nil w, split_none is_blank w h, is_nonempty-positive w l) refl
words_from-word w (y ∷ ys) at l h e =
    let blank : is_blank y ≡ true = e (omega arith) in
    let same : at + length w + 1 ≡ at + length w + 0 + 1 = omega arith in
    rw (split_at is_blank w y ys h blank, is_nonempty-positive w l, blank) (ap (λ n. span at (at + length w) ∷ words_from n (slice_split is_blank ys)) same)

-- the words behind some blanks
pub word_spans-blanks : (line rest : List ℕ) (at n : ℕ) → rest ≡ drop at line → n ≤ length rest → list_all is_blank (take n rest) ≡ true
    → word_spans_from at line ≡ word_spans_from (at + n) line
word_spans-blanks line rest at n is l h =
    let len : length (take n rest) ≡ n = length-take-le n rest l in
    ap (λ r. words_from at (slice_split is_blank r)) (sym is ∙ sym (take-append-drop n rest))
    ∙ words_from-blanks (take n rest) (drop n rest) at h
    ∙ ap (λ k. words_from (at + k) (slice_split is_blank (drop n rest))) len
    ∙ ap (λ r. words_from (at + n) (slice_split is_blank r)) (ap (drop n) is ∙ drop-drop n at line)

-- the word that begins here, and those behind it
pub word_spans-word : (line rest : List ℕ) (at n : ℕ) → rest ≡ drop at line → 0 < n → n ≤ length rest → list_all (λ b. not (is_blank b)) (take n rest) ≡ true
    → (n < length rest → is_blank (get_or rest n 0) ≡ true)
    → word_spans_from at line ≡ span at (at + n) ∷ word_spans_from (at + n) line
word_spans-word line rest at n is some l h e =
    let len : length (take n rest) ≡ n = length-take-le n rest l in
    ap (λ r. words_from at (slice_split is_blank r)) (sym is ∙ sym (take-append-drop n rest))
    ∙ words_from-word (take n rest) (drop n rest) at (grind (arith, len)) h (λ more. let lt : n < length rest = grind (arith, common_steps) in grind (
      arith,
      common_steps,
      e lt,
    ))
    ∙ ap (λ k. span at (at + k) ∷ words_from (at + k) (slice_split is_blank (drop n rest))) len
    ∙ ap (λ r. span at (at + n) ∷ words_from (at + n) (slice_split is_blank r)) (ap (drop n) is ∙ drop-drop n at line)

no_first : (rest : List ℕ) → (0 < length rest → is_blank (get_or rest 0 0) ≡ false) → (0 < length rest → is_blank (get_or rest 0 0) ≡ true) → rest ≡ []
no_first [] f t = refl
no_first (x ∷ xs) f t = absurd (true_not_false (is_blank x) (t (omega arith)) (f (omega arith)))

-- where neither a blank nor a word begins, no word is left
pub word_spans-none : (line rest : List ℕ) (at n : ℕ) → rest ≡ drop at line → (n < length rest → is_blank (get_or rest n 0) ≡ false)
    → (0 < length (drop n rest) → is_blank (get_or (drop n rest) 0 0) ≡ true) → word_spans_from (at + n) line ≡ []
word_spans-none line rest at n is f t =
    let none : drop n rest ≡ [] = no_first (drop n rest) (λ more. let lt : n < length rest = grind (arith, common_steps) in grind (
      arith,
      common_steps,
      f lt,
    )) t in
    ap (λ r. words_from (at + n) (slice_split is_blank r)) (sym (ap (drop n) is ∙ drop-drop n at line) ∙ none)
