-- The operands that are left are those that stand.
use Rattle.std.proofs.Common.{◌≡◌, ℕ, ◌+◌, ◌++◌, Bool, true, false, cond, List, [], ◌∷◌, refl, ap, ◌∙◌, Option, Some, None}
use Rattle.std.specs.Prelude.{is_some, ◌&&◌}
use Rattle.dt_model.specs.declared.statements.Expr.{Expr, end_of-Expr, more_of-Expr}
use Rattle.dt_model.specs.declared.statements.Expr.TheVariants.{Literal, Access, Plus', Minus', Times', Negate'}
use Rattle.dt_model.specs.Statements.{contains_number}
use Rattle.merge_lattice.specs.Lattices.{operands, standing}
use Rattle.merge_lattice.proofs.Rests.{Rest, times_rests, plus_rests, minus_rests, negate_rest, rest_of, rest_of-present}

-- the operands that are left
abbrev pub operands_left : Option Rest → List ℕ
operands_left None = []
operands_left (Some l) = l.1

append_none : (xs : List ℕ) → xs ≡ xs ++ []
append_none [] = refl
append_none (x ∷ xs) = ap (λ t. x ∷ t) (append_none xs)

plus : (p q : Option Rest) → operands_left (plus_rests p q) ≡ operands_left p ++ operands_left q
plus None q = refl
plus (Some a) None = append_none a.1
plus (Some a) (Some b) = refl

negate : (p : Option Rest) → operands_left (negate_rest p) ≡ operands_left p
negate None = refl
negate (Some a) = refl

minus : (p q : Option Rest) → operands_left (minus_rests p q) ≡ operands_left p ++ operands_left q
minus None q = negate q
minus (Some a) None = append_none a.1
minus (Some a) (Some b) = refl

times : (p q : Option Rest) → operands_left (times_rests p q) ≡ cond (is_some p && is_some q) (operands_left p ++ operands_left q) []
times None q = refl
times (Some a) None = refl
times (Some a) (Some b) = refl

-- the operands that are left are those that stand
pub rest_of-standing : (v : ℕ) (on : ℕ → Bool) (k : ℕ) (e : Expr) → operands_left (rest_of v on k e) ≡ standing v on k e
rest_of-standing v on k (Literal n) = refl
rest_of-standing v on k (Access tensor vars) = tests (contains_number vars v) (on k)
  where
    tests : (a b : Bool) → operands_left (cond a (cond b (Some (Access tensor vars, k ∷ [])) None) (Some (Access tensor vars, []))) ≡ cond (a && b) (k ∷ []) []
    tests true true = refl
    tests true false = refl
    tests false b = refl
rest_of-standing v on k (Plus' s (more_of-Expr a end_of-Expr) t (more_of-Expr b end_of-Expr)) =
    plus (rest_of v on k a) (rest_of v on (k + operands v a) b) ∙ rw (rest_of-standing v on k a, rest_of-standing v on (k + operands v a) b) refl
rest_of-standing v on k (Minus' s (more_of-Expr a end_of-Expr) t (more_of-Expr b end_of-Expr)) =
    minus (rest_of v on k a) (rest_of v on (k + operands v a) b) ∙ rw (rest_of-standing v on k a, rest_of-standing v on (k + operands v a) b) refl
rest_of-standing v on k (Times' s (more_of-Expr a end_of-Expr) t (more_of-Expr b end_of-Expr)) =
    times (rest_of v on k a) (rest_of v on (k + operands v a) b)
    ∙ rw (rest_of-standing v on k a, rest_of-standing v on (k + operands v a) b, rest_of-present v on k a, rest_of-present v on (k + operands v a) b) refl
rest_of-standing v on k (Negate' s (more_of-Expr a end_of-Expr)) = negate (rest_of v on k a) ∙ rest_of-standing v on k a
