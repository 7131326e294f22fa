-- The parts of a text between line feeds, one after the other.
use Rattle.std.proofs.Common.{◌≡◌, ℕ, ◌+◌, ◌<◌, ◌++◌, Bool, true, false, not, cond, List, [], ◌∷◌, length, take, drop, get_or, refl, ap, sym, ◌∙◌, arith}
use Rattle.std.specs.Prelude.{◌==◌}
use Rattle.std.specs.List.{slice_split, list_all, onto_first}
use Rattle.std.proofs.lemmas.List.{take-append-drop, drop_more}
use Rattle.dt_model.specs.declared.limits.TheConstants.{LINE_FEED}
use Rattle.dt_model.specs.Texts.{without_empty_end, is_nonempty}
use Rattle.dt_model.proofs.TextsLemmas.{split_at, split_none}

-- what is behind a first part
some_parts : (x : List ℕ) (parts : List (List ℕ)) → 0 < length parts → without_empty_end (x ∷ parts) ≡ x ∷ without_empty_end parts
some_parts x [] h = absurd (omega arith)
some_parts x (y ∷ ys) h = refl

onto_some : (x : ℕ) (parts : List (List ℕ)) → 0 < length (onto_first x parts)
onto_some x [] = omega arith
onto_some x (y ∷ ys) = omega arith

split_some : (p : ℕ → Bool) (xs : List ℕ) → 0 < length (slice_split p xs)
split_some p [] = omega arith
split_some p (x ∷ xs) = elim (p x) as (λ b. 0 < length (cond b ([] ∷ slice_split p xs) (onto_first x (slice_split p xs)))) [
  | true ↦ omega arith
  | false ↦ onto_some x (slice_split p xs)
]

-- the parts between line feeds, without an empty last one
abbrev pub line_parts : List ℕ → List (List ℕ)
line_parts text = without_empty_end (slice_split (λ b. b == LINE_FEED) text)

-- a list with an element is not empty
pub is_nonempty-positive : (line : List ℕ) → 0 < length line → is_nonempty line ≡ true
is_nonempty-positive [] h = absurd (omega arith)
is_nonempty-positive (b ∷ bs) h = refl

-- the first part ends at the first line feed
pub line_parts-cons : (line rest : List ℕ) → list_all (λ b. not (b == LINE_FEED)) line ≡ true → line_parts (line ++ LINE_FEED ∷ rest) ≡ line ∷ line_parts rest
line_parts-cons line rest h =
    rw (
      split_at (λ b. b == LINE_FEED) line LINE_FEED rest h refl,
      some_parts line (slice_split (λ b. b == LINE_FEED) rest) (split_some (λ b. b == LINE_FEED) rest),
    ) refl

-- without a line feed there is one part
pub line_parts-last : (line : List ℕ) → 0 < length line → list_all (λ b. not (b == LINE_FEED)) line ≡ true → line_parts line ≡ line ∷ []
line_parts-last line l h = rw (split_none (λ b. b == LINE_FEED) line h, is_nonempty-positive line l) refl

-- the same by the place of the line feed
pub line_parts-at : (text : List ℕ) (i : ℕ) → i < length text → get_or text i 0 ≡ LINE_FEED → list_all (λ b. not (b == LINE_FEED)) (take i text) ≡ true
    → line_parts text ≡ take i text ∷ line_parts (drop (i + 1) text)
line_parts-at text i l e h =
    let behind : drop i text ≡ LINE_FEED ∷ drop (i + 1) text = drop_more text i 0 l ∙ ap (λ b. b ∷ drop (i + 1) text) e in
    let whole : text ≡ take i text ++ LINE_FEED ∷ drop (i + 1) text = sym (take-append-drop i text) ∙ ap (λ r. take i text ++ r) behind in
    ap line_parts whole ∙ line_parts-cons (take i text) (drop (i + 1) text) h

-- a test has one answer
pub true_not_false : (b : Bool) → b ≡ true → b ≡ false → ⊥
true_not_false true p q = cc
true_not_false false p q = cc
