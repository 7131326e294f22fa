-- The list that is timed.
use Rattle.std.specs.Prelude.{◌+◌, ◌*◌, ℕ, zero, suc, List, [], ◌∷◌}
use Rattle.node_arena.specs.declared.elements.Elem.{Elem}
use Rattle.node_arena.specs.declared.elements.Held.TheVariants.{Number}

-- so many elements from a number on, whose coordinates rise by 3
abbrev pub numbered_from : ℕ → ℕ → List Elem
numbered_from n zero = []
numbered_from n (suc count) = record { at = 3 * n + 1; held = Number (7 * n) } ∷ numbered_from (n + 1) count
