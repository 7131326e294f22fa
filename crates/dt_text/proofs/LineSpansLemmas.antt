-- The spans of the lines of a text: what they name, where they are, how many there are, and a step from one to the next.
use Rattle.std.proofs.Common.{◌≡◌, ℕ, ◌+◌, ◌-◌, ◌<◌, ◌≤◌, ◌++◌, true, false, cond, List, [], ◌∷◌, length, map, take, drop, refl, ap, sym, ◌∙◌, subst, arith, not, get_or}
use Rattle.std.specs.Prelude.{◌==◌, slice_index}
use Rattle.std.specs.List.{All, slice_split, list_all}
use Rattle.std.proofs.lemmas.List.{length-append, length-take-le, take_all, drop-drop, drop_all}
use Rattle.std.proofs.lemmas.List.Elements.{All-nil, All-cons}
use Rattle.dt_model.specs.Texts.{is_nonempty, without_empty_end, strip_cr, lines_of}
use Rattle.dt_text.specs.Spans.{span, bytes_of, IsSpanOf, line_spans, lines_from, line_spans_from}
use Rattle.dt_model.specs.declared.limits.TheConstants.{LINE_FEED, CARRIAGE_RETURN}
use Rattle.dt_text.proofs.PartsLemmas.{AreParts, AreParts-slice_split, AreParts-without_empty_end, slice_range-part, behind, length-behind, length-nonempty}
use Rattle.dt_text.proofs.LinePartsLemmas.{line_parts, line_parts-at, line_parts-last}

length-strip_cr : (line : List ℕ) → length (strip_cr line) ≤ length line
length-strip_cr line = elim (slice_index line (length line - 1) == CARRIAGE_RETURN) as (λ b. length (cond b (take (length line - 1) line) line) ≤ length line) [
  | true ↦ let len : length (take (length line - 1) line) ≡ length line - 1 = length-take-le (length line - 1) line (omega arith) in omega arith
  | false ↦ omega arith
]

take-strip_cr : (line : List ℕ) → take (length (strip_cr line)) line ≡ strip_cr line
take-strip_cr line = elim (slice_index line (length line - 1) == CARRIAGE_RETURN) as (λ b. take (length (cond b (take (length line - 1) line) line)) line
    ≡ cond b (take (length line - 1) line) line) [
      | true ↦ ap (λ k. take k line) (length-take-le (length line - 1) line (omega arith))
      | false ↦ take_all (length line) line (omega arith)
    ]

line_named : (before part tail whole : List ℕ) → whole ≡ before ++ (part ++ tail)
    → bytes_of whole (span (length before) (length before + length (strip_cr part))) ≡ strip_cr part
line_named before part tail whole is = slice_range-part before part tail whole (length (strip_cr part)) is (length-strip_cr part) ∙ take-strip_cr part

lines_named : (parts : List (List ℕ)) (before text whole : List ℕ) → whole ≡ before ++ text → AreParts parts text
    → map (bytes_of whole) (lines_from (length before) parts) ≡ map strip_cr parts
lines_named [] before text whole is h = refl
lines_named (part ∷ []) before text whole is h = ap (λ l. l ∷ []) (line_named before part h.0 whole (is ∙ ap (λ t. before ++ t) h.1))
lines_named (part ∷ q ∷ qs) before text whole is h =
    let at : whole ≡ before ++ (part ++ h.0 ∷ h.1) = is ∙ ap (λ t. before ++ t) h.2 in
    let rest : map (bytes_of whole) (lines_from (length (before ++ (part ++ h.0 ∷ []))) (q ∷ qs))
    ≡ map strip_cr (q ∷ qs) = lines_named (q ∷ qs) (before ++ (part ++ h.0 ∷ [])) h.1 whole (behind before part h.1 whole h.0 at) h.3 in
    ap (λ l. l ∷ map (bytes_of whole) (lines_from (length before + length part + 1) (q ∷ qs))) (line_named before part (h.0 ∷ h.1) whole at)
    ∙ ap (λ n. strip_cr part ∷ map (bytes_of whole) (lines_from n (q ∷ qs))) (sym (length-behind before part h.0))
    ∙ ap (λ ls. strip_cr part ∷ ls) rest

AreParts-line_parts : (text : List ℕ) → AreParts (without_empty_end (slice_split (λ b. b == LINE_FEED) text)) text
AreParts-line_parts text =
    AreParts-without_empty_end (slice_split (λ b. b == LINE_FEED) text) text (AreParts-slice_split (λ b. b == LINE_FEED) text)

-- the spans of a text's lines name its lines
pub line_spans-named : (text : List ℕ) → map (bytes_of text) (line_spans text) ≡ lines_of text
line_spans-named text = lines_named _ [] text text refl (AreParts-line_parts text)

-- the spans of a text's lines lie within it
lines_inside : (whole : List ℕ) (parts : List (List ℕ)) (text : List ℕ) (at : ℕ) → at + length text ≤ length whole → AreParts parts text
    → All (IsSpanOf whole) (lines_from at parts)
lines_inside whole [] text at l h = All-nil (IsSpanOf whole)
lines_inside whole (part ∷ []) text at l h =
    let less = length-strip_cr part in
    let whole_length : length text ≡ length part + length h.0 = ap length h.1 ∙ length-append part h.0 in
    All-cons (IsSpanOf whole) (span at (at + length (strip_cr part))) [] (record { ordered = omega arith; inside = omega arith }) (All-nil (IsSpanOf whole))
lines_inside whole (part ∷ q ∷ qs) text at l h =
    let less = length-strip_cr part in
    let whole_length : length text ≡ length part + length (h.0 ∷ h.1) = ap length h.2 ∙ length-append part (h.0 ∷ h.1) in
    let behind : length (h.0 ∷ h.1) ≡ length h.1 + 1 = omega arith in
    All-cons (IsSpanOf whole) (span at (at + length (strip_cr part))) (lines_from (at + length part
    + 1) (q ∷ qs)) (record { ordered = omega arith; inside = omega arith })
    (lines_inside whole (q ∷ qs) h.1 (at + length part + 1) (omega arith) h.3)

-- they lie within it
pub line_spans-inside : (text : List ℕ) → All (IsSpanOf text) (line_spans text)
line_spans-inside text = lines_inside text _ text 0 (omega arith) (AreParts-line_parts text)

lines_few : (parts : List (List ℕ)) (text : List ℕ) (at : ℕ) → AreParts parts text → length (lines_from at (without_empty_end parts)) ≤ length text
lines_few [] text at h = omega arith
lines_few (part ∷ []) text at h =
    let whole_length : length text ≡ length part + length h.0 = ap length h.1 ∙ length-append part h.0 in
    elim (is_nonempty part) as (λ b. is_nonempty part ≡ b → length (lines_from at (cond b (part ∷ []) [])) ≤ length text) [
      | true ↦ λ e. let some = length-nonempty part e in omega arith
      | false ↦ λ e. omega arith
    ] refl
lines_few (part ∷ q ∷ qs) text at h =
    let whole_length : length text ≡ length part + length (h.0 ∷ h.1) = ap length h.2 ∙ length-append part (h.0 ∷ h.1) in
    let behind : length (h.0 ∷ h.1) ≡ length h.1 + 1 = omega arith in
    let rest : length (lines_from (at + length part + 1) (without_empty_end (q ∷ qs))) ≤ length h.1 = lines_few (q ∷ qs) h.1 (at + length part + 1) h.3 in
    omega arith

-- a text has no more lines than bytes
pub length-line_spans : (text : List ℕ) → length (line_spans text) ≤ length text
length-line_spans text = lines_few _ text 0 (AreParts-slice_split (λ b. b == LINE_FEED) text)

-- the line up to a line feed, and those behind it
pub line_spans-at : (text rest : List ℕ) (at e : ℕ) → rest ≡ drop at text → e < length rest → get_or rest e 0 ≡ LINE_FEED
    → list_all (λ b. not (b == LINE_FEED)) (take e rest) ≡ true
    → line_spans_from at text ≡ span at (at + length (strip_cr (take e rest))) ∷ line_spans_from (at + e + 1) text
line_spans-at text rest at e is l f h =
    let len : length (take e rest) ≡ e = length-take-le e rest (omega arith) in
    let same : at + (e + 1) ≡ at + e + 1 = omega arith in
    let behind : drop (e + 1) rest ≡ drop (at + e + 1) text = ap (drop (e + 1)) is ∙ drop-drop (e + 1) at text ∙ ap (λ n. drop n text) same in
    ap (λ r. lines_from at (line_parts r)) (sym is)
    ∙ ap (lines_from at) (line_parts-at rest e l f h)
    ∙ ap (λ n. span at (at + length (strip_cr (take e rest))) ∷ lines_from (at + n + 1) (line_parts (drop (e + 1) rest))) len
    ∙ ap (λ r. span at (at + length (strip_cr (take e rest))) ∷ lines_from (at + e + 1) (line_parts r)) behind

-- the last line
pub line_spans-last : (text rest : List ℕ) (at e : ℕ) → rest ≡ drop at text → 0 < length rest → length rest ≤ e
    → list_all (λ b. not (b == LINE_FEED)) (take e rest) ≡ true
    → line_spans_from at text ≡ span at (at + length (strip_cr (take e rest))) ∷ line_spans_from (at + e) text
line_spans-last text rest at e is l f h =
    let all : take e rest ≡ rest = take_all e rest f in
    let none : drop (at + e) text ≡ [] = sym (drop-drop e at text) ∙ ap (drop e) (sym is) ∙ drop_all e rest f in
    ap (λ r. lines_from at (line_parts r)) (sym is)
    ∙ ap (lines_from at) (line_parts-last rest l (subst (λ xs. list_all (λ b. not (b == LINE_FEED)) xs ≡ true) all h))
    ∙ ap (λ xs. span at (at + length (strip_cr xs)) ∷ []) (sym all)
    ∙ ap (λ xs. span at (at + length (strip_cr (take e rest))) ∷ lines_from (at + e) (line_parts xs)) (sym none)
