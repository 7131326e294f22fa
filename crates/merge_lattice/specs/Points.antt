-- The points that the code makes. No public clause cites this.
use Rattle.std.specs.Prelude.{ℕ, ◌+◌, ◌%◌, ◌^◌, Bool, List, Option, Some, None, if◌then◌else◌}
use Rattle.dt_model.specs.declared.statements.Expr.{Expr, end_of-Expr, more_of-Expr}
use Rattle.dt_model.specs.declared.statements.Expr.TheVariants.{Literal, Access, Plus', Minus', Times', Negate'}
use Rattle.dt_model.specs.declared.statements.Expr.TheViews.{Plus, Minus, Times, Negate}
use Rattle.dt_model.specs.Statements.{contains_number}
use Rattle.merge_lattice.specs.declared.points.Point.{Point}
use Rattle.merge_lattice.specs.Lattices.{operands}

-- the point of a product from those of its factors
abbrev pub times_points : Option Point → Option Point → Option Point
times_points None b = None
times_points (Some a) None = None
times_points (Some a) (Some b) = Some (record { present = (a.present + b.present) % 2 ^ 16; expr = Times a.expr b.expr })

-- the point of a sum from those of its sides
abbrev pub plus_points : Option Point → Option Point → Option Point
plus_points None b = b
plus_points (Some a) None = Some a
plus_points (Some a) (Some b) = Some (record { present = (a.present + b.present) % 2 ^ 16; expr = Plus a.expr b.expr })

-- the point of a negation
abbrev pub negate_point : Option Point → Option Point
negate_point None = None
negate_point (Some a) = Some (record { present = a.present; expr = Negate a.expr })

-- the point of a difference from those of its sides
abbrev pub minus_points : Option Point → Option Point → Option Point
minus_points None b = negate_point b
minus_points (Some a) None = Some a
minus_points (Some a) (Some b) = Some (record { present = (a.present + b.present) % 2 ^ 16; expr = Minus a.expr b.expr })

-- the point of an access, which is operand k if it has the variable
abbrev pub point_of_access : ℕ → (ℕ → Bool) → ℕ → List ℕ → List ℕ → Option Point
point_of_access v on k tensor vars =
    if contains_number vars v
    then (if on k then Some (record { present = 2 ^ k % 2 ^ 16; expr = Access tensor vars }) else None)
    else Some (record { present = 0; expr = Access tensor vars })

-- the point of an expression whose operands have the numbers from k on
abbrev pub point_in : ℕ → (ℕ → Bool) → ℕ → Expr → Option Point
point_in v on k (Literal n) = Some (record { present = 0; expr = Literal n })
point_in v on k (Access tensor vars) = point_of_access v on k tensor vars
point_in v on k (Plus' s (more_of-Expr a end_of-Expr) t (more_of-Expr b end_of-Expr)) = plus_points (point_in v on k a) (point_in v on (k + operands v a) b)
point_in v on k (Minus' s (more_of-Expr a end_of-Expr) t (more_of-Expr b end_of-Expr)) = minus_points (point_in v on k a) (point_in v on (k + operands v a) b)
point_in v on k (Times' s (more_of-Expr a end_of-Expr) t (more_of-Expr b end_of-Expr)) = times_points (point_in v on k a) (point_in v on (k + operands v a) b)
point_in v on k (Negate' s (more_of-Expr a end_of-Expr)) = negate_point (point_in v on k a)

-- how many parts an expression has: its accesses, literals and operators
abbrev pub parts : Expr → ℕ
parts (Literal n) = 1
parts (Access tensor vars) = 1
parts (Plus' s (more_of-Expr a end_of-Expr) t (more_of-Expr b end_of-Expr)) = parts a + parts b + 1
parts (Minus' s (more_of-Expr a end_of-Expr) t (more_of-Expr b end_of-Expr)) = parts a + parts b + 1
parts (Times' s (more_of-Expr a end_of-Expr) t (more_of-Expr b end_of-Expr)) = parts a + parts b + 1
parts (Negate' s (more_of-Expr a end_of-Expr)) = parts a + 1
