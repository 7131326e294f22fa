-- The lines of a text that aren't skipped, one step on.
use Rattle.std.proofs.Common.{◌≡◌, ℕ, ◌+◌, true, List, ◌∷◌, map, refl}
use Rattle.dt_text.specs.declared.spans.Span.{Span}
use Rattle.dt_text.specs.Spans.{bytes_of}
use Rattle.dt_text.specs.Content.{is_skipped, content_from}

-- a line that is skipped counts as a line, and is left out
pub content_from-skipped : (n : ℕ) (text : List ℕ) (s : Span) (spans : List Span) → is_skipped (bytes_of text s) ≡ true
    → content_from n (map (bytes_of text) (s ∷ spans)) ≡ content_from (n + 1) (map (bytes_of text) spans)
content_from-skipped n text s spans h = rw h refl
