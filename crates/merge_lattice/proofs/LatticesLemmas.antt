-- The operands of an expression.
use Rattle.std.proofs.Common.{ℕ, ◌≤◌, Bool, true, false, cond, length, arith, length-append}
use Rattle.dt_model.specs.declared.statements.Expr.{Expr, end_of-Expr, more_of-Expr}
use Rattle.dt_model.specs.declared.statements.Expr.TheVariants.{Literal, Access, Plus', Minus', Times', Negate'}
use Rattle.dt_model.specs.Statements.{contains_number, accesses}
use Rattle.merge_lattice.specs.Lattices.{operands}

-- an expression has no more operands of a variable than accesses
pub operands_few : (v : ℕ) (e : Expr) → operands v e ≤ length (accesses e)
operands_few v (Literal n) = omega arith
operands_few v (Access tensor vars) = one (contains_number vars v)
  where
    one : (b : Bool) → cond b 1 0 ≤ 1
    one true = omega arith
    one false = omega arith
operands_few v (Plus' s (more_of-Expr a end_of-Expr) t (more_of-Expr b end_of-Expr)) =
    omega (arith, length-append (accesses a) (accesses b), operands_few v a, operands_few v b)
operands_few v (Minus' s (more_of-Expr a end_of-Expr) t (more_of-Expr b end_of-Expr)) =
    omega (arith, length-append (accesses a) (accesses b), operands_few v a, operands_few v b)
operands_few v (Times' s (more_of-Expr a end_of-Expr) t (more_of-Expr b end_of-Expr)) =
    omega (arith, length-append (accesses a) (accesses b), operands_few v a, operands_few v b)
operands_few v (Negate' s (more_of-Expr a end_of-Expr)) = operands_few v a
