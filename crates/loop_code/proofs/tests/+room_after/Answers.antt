use Rattle.std.proofs.Common.{◌≡◌, ℕ, ◌+◌, length, ap, ◌∙◌, arith, inl, inr}
use Rattle.std.specs.Prelude.{◌⊎◌}
use Rattle.dt_model.specs.declared.statements.Expr.{Expr}
use Rattle.dt_model.specs.declared.statements.Expr.TheViews.{Plus, Minus, Times}
use Rattle.dt_model.specs.Statements.{accesses}
use Rattle.loop_code.proofs.AccessLaws.{count-Plus, count-Minus, count-Times}
use Rattle.loop_code.proofs.tests.+room_after.Goals as goal

-- the accesses of two parts under an operator
both : (e a b : Expr) → (e ≡ Plus a b) ⊎ ((e ≡ Minus a b) ⊎ (e ≡ Times a b)) → length (accesses e) ≡ length (accesses a) + length (accesses b)
both e a b (inl p) = ap (λ x. length (accesses x)) p ∙ count-Plus a b
both e a b (inr (inl p)) = ap (λ x. length (accesses x)) p ∙ count-Minus a b
both e a b (inr (inr p)) = ap (λ x. length (accesses x)) p ∙ count-Times a b

pub returns-in_ok-rest-in-Plus : goal.returns-in_ok-rest-in-Plus
returns-in_ok-rest-in-Plus t c =
    let whole = both c.args.expr.now c.in-Plus.a c.in-Plus.b c.in-Plus.is in
    let a = ap (λ e. length (accesses e)) c.get-in-Plus.ensures in
    let b = ap (λ e. length (accesses e)) c.get-in-Plus-2.ensures in
    record { value = omega (arith, whole, a, b, c.in_ok-left-in-Plus.ensures.value, c.in_ok-rest-in-Plus.ensures.value) }
