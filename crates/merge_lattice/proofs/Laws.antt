-- The definitions over expressions, at what code matches.
use Rattle.std.proofs.Common.{◌≡◌, ℕ, ◌+◌, ◌*◌, ◌%◌, ◌^◌, Bool, List, refl}
use Rattle.dt_model.specs.declared.statements.Expr.{Expr}
use Rattle.dt_model.specs.declared.statements.Expr.TheViews.{Plus, Minus, Times, Negate}
use Rattle.dt_model.specs.Statements.{plus64, minus64}
use Rattle.dt_model.proofs.StatementsLemmas.{accesses-Plus, accesses-Minus, accesses-Times, accesses-Negate}
use Rattle.merge_lattice.specs.Lattices.{operands, value_at}
use Rattle.merge_lattice.specs.Points.{plus_points, minus_points, times_points, negate_point, point_in, parts}

-- the parts of a sum
pub parts-Plus : (a b : Expr) → parts (Plus a b) ≡ parts a + parts b + 1
unfolding Rattle.dt_model.specs.declared.statements.Expr.TheBlock.hidden-the_row-Expr-0 denote.Hole.Carrier.hidden
parts-Plus a b = refl

-- the parts of a difference
pub parts-Minus : (a b : Expr) → parts (Minus a b) ≡ parts a + parts b + 1
unfolding Rattle.dt_model.specs.declared.statements.Expr.TheBlock.hidden-the_row-Expr-0 denote.Hole.Carrier.hidden
parts-Minus a b = refl

-- the parts of a product
pub parts-Times : (a b : Expr) → parts (Times a b) ≡ parts a + parts b + 1
unfolding Rattle.dt_model.specs.declared.statements.Expr.TheBlock.hidden-the_row-Expr-0 denote.Hole.Carrier.hidden
parts-Times a b = refl

-- the parts of a negation
pub parts-Negate : (a : Expr) → parts (Negate a) ≡ parts a + 1
unfolding Rattle.dt_model.specs.declared.statements.Expr.TheBlock.hidden-the_row-Expr-0 denote.Hole.Carrier.hidden
parts-Negate a = refl

-- the operands of a sum
pub operands-Plus : (v : ℕ) (a b : Expr) → operands v (Plus a b) ≡ operands v a + operands v b
unfolding Rattle.dt_model.specs.declared.statements.Expr.TheBlock.hidden-the_row-Expr-0 denote.Hole.Carrier.hidden
operands-Plus v a b = refl

-- the operands of a difference
pub operands-Minus : (v : ℕ) (a b : Expr) → operands v (Minus a b) ≡ operands v a + operands v b
unfolding Rattle.dt_model.specs.declared.statements.Expr.TheBlock.hidden-the_row-Expr-0 denote.Hole.Carrier.hidden
operands-Minus v a b = refl

-- the operands of a product
pub operands-Times : (v : ℕ) (a b : Expr) → operands v (Times a b) ≡ operands v a + operands v b
unfolding Rattle.dt_model.specs.declared.statements.Expr.TheBlock.hidden-the_row-Expr-0 denote.Hole.Carrier.hidden
operands-Times v a b = refl

-- the operands of a negation
pub operands-Negate : (v : ℕ) (a : Expr) → operands v (Negate a) ≡ operands v a
unfolding Rattle.dt_model.specs.declared.statements.Expr.TheBlock.hidden-the_row-Expr-0 denote.Hole.Carrier.hidden
operands-Negate v a = refl

-- the point of a sum
pub point_in-Plus : (v : ℕ) (on : ℕ → Bool) (k : ℕ) (a b : Expr)
    → point_in v on k (Plus a b) ≡ plus_points (point_in v on k a) (point_in v on (k + operands v a) b)
unfolding Rattle.dt_model.specs.declared.statements.Expr.TheBlock.hidden-the_row-Expr-0 denote.Hole.Carrier.hidden
point_in-Plus v on k a b = refl

-- the point of a difference
pub point_in-Minus : (v : ℕ) (on : ℕ → Bool) (k : ℕ) (a b : Expr)
    → point_in v on k (Minus a b) ≡ minus_points (point_in v on k a) (point_in v on (k + operands v a) b)
unfolding Rattle.dt_model.specs.declared.statements.Expr.TheBlock.hidden-the_row-Expr-0 denote.Hole.Carrier.hidden
point_in-Minus v on k a b = refl

-- the point of a product
pub point_in-Times : (v : ℕ) (on : ℕ → Bool) (k : ℕ) (a b : Expr)
    → point_in v on k (Times a b) ≡ times_points (point_in v on k a) (point_in v on (k + operands v a) b)
unfolding Rattle.dt_model.specs.declared.statements.Expr.TheBlock.hidden-the_row-Expr-0 denote.Hole.Carrier.hidden
point_in-Times v on k a b = refl

-- the point of a negation
pub point_in-Negate : (v : ℕ) (on : ℕ → Bool) (k : ℕ) (a : Expr) → point_in v on k (Negate a) ≡ negate_point (point_in v on k a)
unfolding Rattle.dt_model.specs.declared.statements.Expr.TheBlock.hidden-the_row-Expr-0 denote.Hole.Carrier.hidden
point_in-Negate v on k a = refl

-- the value of a sum
pub value_at-Plus : (v : ℕ) (at : ℕ → List ℕ → List ℕ → ℕ) (others : List ℕ → List ℕ → ℕ) (k : ℕ) (a b : Expr)
    → value_at v at others k (Plus a b) ≡ plus64 (value_at v at others k a) (value_at v at others (k + operands v a) b)
unfolding Rattle.dt_model.specs.declared.statements.Expr.TheBlock.hidden-the_row-Expr-0 denote.Hole.Carrier.hidden
value_at-Plus v at others k a b = refl

-- the value of a difference
pub value_at-Minus : (v : ℕ) (at : ℕ → List ℕ → List ℕ → ℕ) (others : List ℕ → List ℕ → ℕ) (k : ℕ) (a b : Expr)
    → value_at v at others k (Minus a b) ≡ minus64 (value_at v at others k a) (value_at v at others (k + operands v a) b)
unfolding Rattle.dt_model.specs.declared.statements.Expr.TheBlock.hidden-the_row-Expr-0 denote.Hole.Carrier.hidden
value_at-Minus v at others k a b = refl

-- the value of a product
pub value_at-Times : (v : ℕ) (at : ℕ → List ℕ → List ℕ → ℕ) (others : List ℕ → List ℕ → ℕ) (k : ℕ) (a b : Expr)
    → value_at v at others k (Times a b) ≡ (value_at v at others k a * value_at v at others (k + operands v a) b) % 2 ^ 64
unfolding Rattle.dt_model.specs.declared.statements.Expr.TheBlock.hidden-the_row-Expr-0 denote.Hole.Carrier.hidden
value_at-Times v at others k a b = refl

-- the value of a negation
pub value_at-Negate : (v : ℕ) (at : ℕ → List ℕ → List ℕ → ℕ) (others : List ℕ → List ℕ → ℕ) (k : ℕ) (a : Expr)
    → value_at v at others k (Negate a) ≡ minus64 0 (value_at v at others k a)
unfolding Rattle.dt_model.specs.declared.statements.Expr.TheBlock.hidden-the_row-Expr-0 denote.Hole.Carrier.hidden
value_at-Negate v at others k a = refl

pub ruleset laws = (
  parts-Plus,
  parts-Minus,
  parts-Times,
  parts-Negate,
  operands-Plus,
  operands-Minus,
  operands-Times,
  operands-Negate,
  point_in-Plus,
  point_in-Minus,
  point_in-Times,
  point_in-Negate,
)

pub ruleset access_laws = (accesses-Plus, accesses-Minus, accesses-Times, accesses-Negate)
