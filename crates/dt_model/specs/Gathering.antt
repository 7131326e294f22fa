-- Adding up neighbours with the same coordinates. No public clause cites it.
use Rattle.std.specs.Prelude.{ℕ, ◌+◌, ◌%◌, ◌^◌, ◌<◌, ◌≡◌, ◌==◌, List, [], ◌∷◌, length, slice_index_or, false, nat_eq, if◌then◌else◌}
use Rattle.std.specs.Cmp.Lexicographic.{slice_cmp, pointwise}
use Rattle.std.specs.Ordering.{nat_cmp, is_lt}

-- no pair's coordinates come before those of the pair in front of it
abbrev pub IsNonDescending : List (List ℕ × ℕ) → Type 0
IsNonDescending ps = (k : ℕ) (d : List ℕ × ℕ) → k + 1 < length ps → is_lt (slice_cmp nat_cmp (slice_index_or ps (k + 1) d).0 (slice_index_or ps k d).0) ≡ false

-- a pair in front of others, unless its value is 0
abbrev pub with_nonzero : List ℕ × ℕ → List (List ℕ × ℕ) → List (List ℕ × ℕ)
with_nonzero p ps = if p.1 == 0 then ps else p ∷ ps

-- a pair and those behind it, where neighbours with the same coordinates are added up and zeros are left out
abbrev pub gathered_onto : List ℕ × ℕ → List (List ℕ × ℕ) → List (List ℕ × ℕ)
gathered_onto p [] = with_nonzero p []
gathered_onto p (q ∷ qs) = if pointwise nat_eq p.0 q.0 then gathered_onto (p.0, (p.1 + q.1) % 2 ^ 64) qs else with_nonzero p (gathered_onto q qs)

-- pairs, where neighbours with the same coordinates are added up and zeros are left out
abbrev pub gathered : List (List ℕ × ℕ) → List (List ℕ × ℕ)
gathered [] = []
gathered (p ∷ ps) = gathered_onto p ps
