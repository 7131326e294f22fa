-- Entries as pairs of a list: those whose number isn't 0.
use Rattle.std.specs.Prelude.{ℕ, List, ◌++◌, ◌==◌, not, map, filter}

-- the entries below these coordinates whose number isn't 0
abbrev pub listed : List ℕ → List (List ℕ × ℕ) → List (List ℕ × ℕ)
listed at entries = map (λ e. (at ++ e.0, e.1)) (filter (λ e. not (e.1 == 0)) entries)
