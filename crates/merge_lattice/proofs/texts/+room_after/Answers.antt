use Rattle.std.proofs.Common.{◌≡◌, ℕ, ◌+◌, length, length-append, ap, ◌∙◌, arith, inl, inr}
use Rattle.std.specs.Prelude.{◌⊎◌}
use Rattle.dt_model.specs.declared.statements.Expr.{Expr}
use Rattle.dt_model.specs.declared.statements.Expr.TheViews.{Plus, Minus, Times}
use Rattle.dt_model.specs.Statements.{accesses}
use Rattle.dt_model.proofs.StatementsLemmas.{accesses-Plus, accesses-Minus, accesses-Times}
use Rattle.merge_lattice.proofs.texts.+room_after.Goals as goal

-- the accesses of two parts under an operator
both : (e a b : Expr) → (e ≡ Plus a b) ⊎ ((e ≡ Minus a b) ⊎ (e ≡ Times a b)) → length (accesses e) ≡ length (accesses a) + length (accesses b)
both e a b (inl p) = ap (λ x. length (accesses x)) p ∙ ap length (accesses-Plus a b) ∙ length-append (accesses a) (accesses b)
both e a b (inr (inl p)) = ap (λ x. length (accesses x)) p ∙ ap length (accesses-Minus a b) ∙ length-append (accesses a) (accesses b)
both e a b (inr (inr p)) = ap (λ x. length (accesses x)) p ∙ ap length (accesses-Times a b) ∙ length-append (accesses a) (accesses b)

pub returns-in_ok-rest-in-Plus : goal.returns-in_ok-rest-in-Plus
returns-in_ok-rest-in-Plus t c =
    let whole = both c.args.expr.now c.in-Plus.a c.in-Plus.b c.in-Plus.is in
    let a = ap (λ e. length (accesses e)) c.get-in-Plus.ensures in
    let b = ap (λ e. length (accesses e)) c.get-in-Plus-2.ensures in
    record { value = omega (arith, whole, a, b, c.in_ok-left-in-Plus.ensures.value, c.in_ok-rest-in-Plus.ensures.value) }
