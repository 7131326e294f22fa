-- The tokens of a text by their places, for every lexical grammar. A grammar is a test `gap` of the bytes that part
-- tokens, and the number `run` of bytes that belong to the token that begins with a byte, beside that byte.
use Rattle.std.specs.Prelude.{ℕ, suc, zero, ◌+◌, Bool, map, List, [], ◌∷◌, if◌then◌else◌}
use Rattle.dt_text.specs.declared.spans.Span.{Span}
use Rattle.dt_text.specs.Spans.{span, bytes_of}

-- the tokens of the bytes from the place `at` on, of which the first `before` belong to a token that began before them:
-- one token begins at each other byte that is no gap
abbrev pub token_spans_from : (ℕ → Bool) → (ℕ → List ℕ → ℕ) → ℕ → ℕ → List ℕ → List Span
token_spans_from gap run at before [] = []
token_spans_from gap run at (suc before) (b ∷ bs) = token_spans_from gap run (at + 1) before bs
token_spans_from gap run at zero (b ∷ bs) =
    if gap b then token_spans_from gap run (at + 1) 0 bs else span at (at + 1 + run b bs) ∷ token_spans_from gap run (at + 1) (run b bs) bs

-- the tokens of a text
abbrev pub token_spans : (ℕ → Bool) → (ℕ → List ℕ → ℕ) → List ℕ → List Span
token_spans gap run text = token_spans_from gap run 0 0 text

-- what a text's tokens are, each found from its bytes alone
abbrev pub token_values : {T : Type 0} → (ℕ → Bool) → (ℕ → List ℕ → ℕ) → (List ℕ → T) → List ℕ → List T
token_values gap run value text = map (λ s. value (bytes_of text s)) (token_spans gap run text)

-- where the last of some tokens ends, or the place n where there is none
abbrev pub end_of : ℕ → List Span → ℕ
end_of n [] = n
end_of n (x ∷ xs) = end_of x.to xs
