-- The lines that are written, word by word.
use Rattle.std.proofs.Common.{◌≡◌, ℕ, ◌+◌, ◌≤◌, ◌++◌, List, [], ◌∷◌}
use Rattle.std.proofs.Common.{map, length, take, refl, ap, sym, ◌∙◌, append_assoc, append-nil}
use Rattle.std.specs.List.{flat_map, join_with_byte}
use Rattle.std.specs.Fmt.{decimal}
use Rattle.std.proofs.lemmas.List.{take_all}
use Rattle.dt_model.specs.declared.limits.TheConstants.{SPACE, LINE_FEED}
use Rattle.dt_model.specs.Report.{pair_row}
use Rattle.dt_model.specs.Texts.{line_of, value_word}
use Rattle.tns_io.specs.Written.{Extends}

-- a coordinate, counted from 1, and a space
abbrev pub coordinate_piece : ℕ → List ℕ
coordinate_piece c = decimal (c + 1) ++ SPACE ∷ []

-- coordinates, each with a space behind it
abbrev pub coordinate_pieces : List ℕ → List ℕ
coordinate_pieces at = flat_map coordinate_piece at

-- words with a last one behind them
pub join-last : (at : List ℕ) (last : List ℕ) → join_with_byte SPACE (map (λ c. decimal (c + 1)) at ++ last ∷ []) ≡ coordinate_pieces at ++ last
join-last [] last = refl
join-last (c ∷ []) last = simp append_assoc
join-last (c ∷ d ∷ at) last = ap (λ t. decimal (c + 1) ++ SPACE ∷ t) (join-last (d ∷ at) last) ∙ simp append_assoc

-- the line of a pair
pub line_of-pair : (at : List ℕ) (v : ℕ) → line_of (pair_row (at, v)) ≡ coordinate_pieces at ++ value_word v ++ LINE_FEED ∷ []
line_of-pair at v = ap (λ t. t ++ LINE_FEED ∷ []) (join-last at (value_word v))

-- the coordinates of a pair and its value, written one after the other, are its line
pub line_of-pieces : (old into new at : List ℕ) (n v : ℕ) → into ≡ old ++ coordinate_pieces (take n at) → length at ≤ n
    → new ≡ into ++ value_word v ++ LINE_FEED ∷ [] → new ≡ old ++ line_of (pair_row (at, v))
line_of-pieces old into new at n v e l f =
    let whole : take n at ≡ at = take_all n at l in
    let pieces = coordinate_pieces at in
    let last = value_word v in
    let grouped : (old ++ pieces) ++ last ++ LINE_FEED ∷ [] ≡ old ++ (pieces ++ last ++ LINE_FEED ∷ []) = simp append_assoc in
    f ∙ ap (λ t. t ++ last ++ LINE_FEED ∷ []) (e ∙ ap (λ t. old ++ coordinate_pieces t) whole) ∙ grouped ∙ ap (λ t. old ++ t) (sym (line_of-pair at v))

-- ---- texts that grow at their end

-- nothing is behind it
pub Extends-same : (old new : List ℕ) → new ≡ old → Extends old new
Extends-same old new e = ([], append-nil old ∙ sym e)

-- something is behind it, and something more
pub Extends-more : (old middle new : List ℕ) → Extends old middle → Extends middle new → Extends old new
Extends-more old middle new p q = (p.0 ++ q.0, sym (append_assoc old p.0 q.0) ∙ ap (λ t. t ++ q.0) p.1 ∙ q.1)
