-- Whether some access of an expression passes, operator by operator.
use Rattle.std.proofs.Common.{◌≡◌, Bool, List, ℕ, ap, ◌∙◌}
use Rattle.std.specs.Prelude.{◌||◌}
use Rattle.std.specs.List.{list_any}
use Rattle.std.proofs.lemmas.List.Folds.{list_any-append}
use Rattle.dt_model.specs.declared.statements.Expr.{Expr}
use Rattle.dt_model.specs.declared.statements.Expr.TheViews.{Plus, Minus, Times, Negate}
use Rattle.dt_model.specs.Statements.{accesses}
use Rattle.dt_model.proofs.StatementsLemmas.{accesses-Plus, accesses-Minus, accesses-Times, accesses-Negate}

-- some access passes exactly where one of either side does
pub any_of-Plus : (p : List ℕ × List ℕ → Bool) (a b : Expr) → list_any p (accesses (Plus a b)) ≡ (list_any p (accesses a) || list_any p (accesses b))
any_of-Plus p a b = ap (list_any p) (accesses-Plus a b) ∙ list_any-append p (accesses a) (accesses b)

-- so at a difference
pub any_of-Minus : (p : List ℕ × List ℕ → Bool) (a b : Expr) → list_any p (accesses (Minus a b)) ≡ (list_any p (accesses a) || list_any p (accesses b))
any_of-Minus p a b = ap (list_any p) (accesses-Minus a b) ∙ list_any-append p (accesses a) (accesses b)

-- so at a product
pub any_of-Times : (p : List ℕ × List ℕ → Bool) (a b : Expr) → list_any p (accesses (Times a b)) ≡ (list_any p (accesses a) || list_any p (accesses b))
any_of-Times p a b = ap (list_any p) (accesses-Times a b) ∙ list_any-append p (accesses a) (accesses b)

-- a negation has the accesses of its operand
pub any_of-Negate : (p : List ℕ × List ℕ → Bool) (a : Expr) → list_any p (accesses (Negate a)) ≡ list_any p (accesses a)
any_of-Negate p a = ap (list_any p) (accesses-Negate a)
