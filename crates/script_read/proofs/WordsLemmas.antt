-- The words of a line, one by one.
use Rattle.std.proofs.Common.{◌≡◌, ◌≤◌, ◌+◌, ◌∙◌, ◌++◌, ◌∷◌, [], ℕ, List, All, length, map, ap, arith, sym, append_assoc, subst}
use Rattle.std.proofs.lemmas.List.{map-append, append-nil}
use Rattle.std.proofs.lemmas.List.Elements.{All-push}
use Rattle.std.proofs.lemmas.Simd.{map-map}
use Rattle.dt_model.specs.Texts.{words_of}
use Rattle.dt_text.specs.declared.spans.Span.{Span}
use Rattle.dt_text.specs.Spans.{IsSpanOf, word_spans, bytes_of}
use Rattle.script_read.specs.declared.words.Word.{Word}
use Rattle.script_read.specs.Words.{word_at, columned_words, seen_word, word_bytes}

-- words with their columns, without these
pub words_without_columns : (before : ℕ) (line : List ℕ) (ws : List Word) → map seen_word ws ≡ columned_words before line
    → map (bytes_of line) (word_spans line) ≡ words_of line
    → map word_bytes ws ≡ words_of line
words_without_columns before line ws e h =
    sym (map-map (λ (p : ℕ × List ℕ). p.1) seen_word ws) ∙ ap (map (λ (p : ℕ × List ℕ). p.1)) e
    ∙ map-map (λ (p : ℕ × List ℕ). p.1) (word_at before line) (word_spans line) ∙ h

-- no word is left
pub words_done : (before : ℕ) (line : List ℕ) (ws : List Word) (left : List Span)
    → map seen_word ws ++ map (word_at before line) left ≡ columned_words before line → left ≡ []
    → map (bytes_of line) (word_spans line) ≡ words_of line → map word_bytes ws ≡ words_of line
words_done before line ws left e none h =
    words_without_columns before line ws (sym (append-nil (map seen_word ws)) ∙ subst
    (λ (s : List Span). map seen_word ws ++ map (word_at before line) s ≡ columned_words before line) none e) h

-- one word more
pub word_more : (before : ℕ) (line : List ℕ) (found more : List Word) (w : Word) (span : Span) (left : List Span)
    → more ≡ found ++ w ∷ [] → seen_word w ≡ word_at before line span
    → map seen_word found ++ map (word_at before line) (span ∷ left) ≡ columned_words before line
    → map seen_word more ++ map (word_at before line) left ≡ columned_words before line
word_more before line found more w span left g e h =
    ap (λ ws. map seen_word ws ++ map (word_at before line) left) g
    ∙ ap (λ x. x ++ map (word_at before line) left) (map-append seen_word found (w ∷ []))
    ∙ append_assoc (map seen_word found) (seen_word w ∷ []) (map (word_at before line) left)
    ∙ ap (λ p. map seen_word found ++ (p ∷ map (word_at before line) left)) e ∙ h

-- one word more in the line
pub within_more : (before : ℕ) (line : List ℕ) (found more : List Word) (w : Word) (span : Span) → All (λ (v : Word). v.column ≤ before + length line + 1) found
    → IsSpanOf line span
    → w.column ≡ before + span.from + 1 → more ≡ found ++ w ∷ [] → All (λ (v : Word). v.column ≤ before + length line + 1) more
within_more before line found more w span h s at g =
    let low = s.ordered in
    let high = s.inside in
    subst (All (λ (v : Word). v.column ≤ before + length line + 1)) (sym g)
    (All-push (λ (v : Word). v.column ≤ before + length line + 1) found w h (omega (arith, at, low, high)))
