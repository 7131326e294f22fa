-- Which variables a sum, a difference, a product and a negation cover.
use Rattle.std.proofs.Common.{◌≡◌, ℕ, refl}
use Rattle.std.specs.Prelude.{◌&&◌, ◌||◌}
use Rattle.dt_model.specs.declared.statements.Expr.{Expr}
use Rattle.dt_model.specs.declared.statements.Expr.TheViews.{Plus, Minus, Times, Negate}
use Rattle.dt_model.specs.Refusals.{covers}

-- ---- cover: a sum or difference where both sides cover, a product where either does

-- a sum covers what both sides cover
pub covers-Plus : (i : ℕ) (a b : Expr) → covers (Plus a b) i ≡ (covers a i && covers b i)
unfolding Rattle.dt_model.specs.declared.statements.Expr.TheBlock.hidden-the_row-Expr-0 denote.Hole.Carrier.hidden
covers-Plus i a b = refl

-- a difference covers what both sides cover
pub covers-Minus : (i : ℕ) (a b : Expr) → covers (Minus a b) i ≡ (covers a i && covers b i)
unfolding Rattle.dt_model.specs.declared.statements.Expr.TheBlock.hidden-the_row-Expr-0 denote.Hole.Carrier.hidden
covers-Minus i a b = refl

-- a product covers what either factor covers
pub covers-Times : (i : ℕ) (a b : Expr) → covers (Times a b) i ≡ (covers a i || covers b i)
unfolding Rattle.dt_model.specs.declared.statements.Expr.TheBlock.hidden-the_row-Expr-0 denote.Hole.Carrier.hidden
covers-Times i a b = refl

-- a negation covers what its operand covers
pub covers-Negate : (i : ℕ) (a : Expr) → covers (Negate a) i ≡ covers a i
unfolding Rattle.dt_model.specs.declared.statements.Expr.TheBlock.hidden-the_row-Expr-0 denote.Hole.Carrier.hidden
covers-Negate i a = refl
