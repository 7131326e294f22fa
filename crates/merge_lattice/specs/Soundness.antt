-- What a table of points has: for each set of operands the point that stands for the expression where all others are absent.
use Rattle.std.specs.Prelude.{◌≡◌, ℕ, ◌^◌, ◌<◌, true, false, List, length, slice_index_or, filter, Option, Some, None, All}
use Rattle.std.specs.List.{range_with_len}
use Rattle.dt_model.specs.declared.statements.Expr.{Expr}
use Rattle.merge_lattice.specs.declared.points.Point.{Point}
use Rattle.merge_lattice.specs.Lattices.{operands, is_present, value_at, IsZeroOutside, bit_of, standing}

-- the operands in a set, ascending
abbrev pub members : ℕ → List ℕ
members set = filter (bit_of set) (range_with_len 0 16)

-- the number of operand n of a point's expression: that of the n-th member of the point's set
abbrev pub numbered : ℕ → (ℕ → List ℕ → List ℕ → ℕ) → ℕ → List ℕ → List ℕ → ℕ
numbered set at n = at (slice_index_or (members set) n 0)

-- the point has exactly the standing operands of the set, and the expression's value wherever all operands outside the set are 0
pub record IsPointFor (v : ℕ) (e : Expr) (set : ℕ) (p : Point) : Type 0 where
  pub within : All (λ n. bit_of set n ≡ true) (members p.present)
  pub exact : members p.present ≡ standing v (bit_of set) 0 e
  pub stand : operands v p.expr ≡ length (members p.present)
  pub value : (at : ℕ → List ℕ → List ℕ → ℕ) (others : List ℕ → List ℕ → ℕ) → IsZeroOutside (bit_of set) at
      → value_at v (numbered p.present at) others 0 p.expr ≡ value_at v at others 0 e

-- there is a point exactly where the expression is present; where it is absent, its value is 0
abbrev pub IsEntryFor : ℕ → Expr → ℕ → Option Point → Type 0
IsEntryFor v e set None = (is_present v (bit_of set) 0 e ≡ false)
    × ((at : ℕ → List ℕ → List ℕ → ℕ) (others : List ℕ → List ℕ → ℕ) → IsZeroOutside (bit_of set) at → value_at v at others 0 e ≡ 0)
IsEntryFor v e set (Some p) = (is_present v (bit_of set) 0 e ≡ true) × IsPointFor v e set p

-- the entry of a set
abbrev pub entry_at : List (Option Point) → ℕ → Option Point
entry_at table set = slice_index_or table set None

-- the table of a variable has an entry for each set of operands
pub record IsSound (v : ℕ) (e : Expr) (table : List (Option Point)) : Type 0 where
  pub sets : length table ≡ 2 ^ operands v e
  pub entry : (set : ℕ) → set < 2 ^ operands v e → IsEntryFor v e set (entry_at table set)
