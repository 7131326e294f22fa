-- The rows of numbered elements, one after the other, and texts that grow by them.
use Rattle.std.proofs.Common.{◌≡◌, ℕ, ◌+◌, ◌<◌, ◌++◌, List, [], ◌∷◌, length, take, get_or, ap, sym, ◌∙◌, append_assoc, arith}
use Rattle.std.specs.List.{flat_map, enumerate_from}
use Rattle.std.proofs.lemmas.Grind.{common_steps}
use Rattle.std.proofs.lemmas.List.{take_more}
use Rattle.dt_model.specs.Texts.{text_of}
use Rattle.dt_model.proofs.TextsLemmas.{text_of-append}
use Rattle.dt_model.proofs.Booleans.{append_none}
use Rattle.dyntensor.specs.Rows.{numbered_rows}

-- a text with more rows
pub text_more : (old before text : List ℕ) (rows more all : List (List (List ℕ))) → before ≡ old ++ text_of rows → text ≡ before ++ text_of more
    → all ≡ rows ++ more → text ≡ old ++ text_of all
text_more old before text rows more all so_far is grew =
    is ∙ ap (λ x. x ++ text_of more) so_far ∙ append_assoc old (text_of rows) (text_of more) ∙ ap (λ x. old ++ x) (sym (text_of-append rows more))
    ∙ ap (λ r. old ++ text_of r) (sym grew)

-- the rows of an element that comes last are behind those of the others
pub flat_map-enumerate_push : {X : Type 0} (rows : ℕ × X → List (List (List ℕ))) (n : ℕ) (xs : List X) (x : X) (k : ℕ) → k ≡ n + length xs
    → flat_map rows (enumerate_from n (xs ++ x ∷ [])) ≡ flat_map rows (enumerate_from n xs) ++ rows (k, x)
flat_map-enumerate_push rows n [] x k e = let same : k ≡ n = omega arith in rw same (append_none (rows (n, x)))
flat_map-enumerate_push rows n (y ∷ xs) x k e =
    ap (λ more. rows (n, y) ++ more) (flat_map-enumerate_push rows (n + 1) xs x k (omega arith))
    ∙ sym (append_assoc (rows (n, y)) (flat_map rows (enumerate_from (n + 1) xs)) (rows (k, x)))

-- a text with the rows of an element more
pub numbered_text-more : {X : Type 0} (rows : ℕ → X → List (List (List ℕ))) (xs : List X) (i : ℕ) (x : X) (old before text : List ℕ)
    → i < length xs → get_or xs i x ≡ x → before ≡ old ++ text_of (numbered_rows rows (take i xs)) → text ≡ before ++ text_of (rows (i + 1) x)
    → text ≡ old ++ text_of (numbered_rows rows (take (i + 1) xs))
numbered_text-more rows xs i x old before text l e so_far more =
    let len : length (take i xs) ≡ i = grind (arith, common_steps) in
    text_more old before text (numbered_rows rows (take i xs)) (rows (i + 1) x) (numbered_rows rows (take (i + 1) xs)) so_far more
    (ap (numbered_rows rows) (take_more xs i x l)
    ∙ ap (λ y. numbered_rows rows (take i xs ++ y ∷ [])) e
    ∙ flat_map-enumerate_push (λ q. rows q.0 q.1) 1 (take i xs) x (i + 1) (omega arith))
