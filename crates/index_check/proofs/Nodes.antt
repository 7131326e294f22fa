-- The nodes of expressions: each part has fewer than the whole.
use Rattle.std.proofs.Common.{◌≡◌, ℕ, ◌+◌, refl}
use Rattle.dt_model.specs.declared.statements.Expr.{Expr, end_of-Expr, more_of-Expr}
use Rattle.dt_model.specs.declared.statements.Expr.TheVariants.{Literal, Access, Plus', Minus', Times', Negate'}
use Rattle.dt_model.specs.declared.statements.Expr.TheViews.{Plus, Minus, Times, Negate}

-- the nodes of an expression
abbrev pub nodes : Expr → ℕ
nodes (Literal v) = 1
nodes (Access tensor vars) = 1
nodes (Plus' s (more_of-Expr a end_of-Expr) t (more_of-Expr b end_of-Expr)) = nodes a + nodes b + 1
nodes (Minus' s (more_of-Expr a end_of-Expr) t (more_of-Expr b end_of-Expr)) = nodes a + nodes b + 1
nodes (Times' s (more_of-Expr a end_of-Expr) t (more_of-Expr b end_of-Expr)) = nodes a + nodes b + 1
nodes (Negate' s (more_of-Expr a end_of-Expr)) = nodes a + 1

-- the nodes of a sum
pub nodes-Plus : (a b : Expr) → nodes (Plus a b) ≡ nodes a + nodes b + 1
unfolding Rattle.dt_model.specs.declared.statements.Expr.TheBlock.hidden-the_row-Expr-0 denote.Hole.Carrier.hidden
nodes-Plus a b = refl

-- the nodes of a difference
pub nodes-Minus : (a b : Expr) → nodes (Minus a b) ≡ nodes a + nodes b + 1
unfolding Rattle.dt_model.specs.declared.statements.Expr.TheBlock.hidden-the_row-Expr-0 denote.Hole.Carrier.hidden
nodes-Minus a b = refl

-- the nodes of a product
pub nodes-Times : (a b : Expr) → nodes (Times a b) ≡ nodes a + nodes b + 1
unfolding Rattle.dt_model.specs.declared.statements.Expr.TheBlock.hidden-the_row-Expr-0 denote.Hole.Carrier.hidden
nodes-Times a b = refl

-- the nodes of a negation
pub nodes-Negate : (a : Expr) → nodes (Negate a) ≡ nodes a + 1
unfolding Rattle.dt_model.specs.declared.statements.Expr.TheBlock.hidden-the_row-Expr-0 denote.Hole.Carrier.hidden
nodes-Negate a = refl
