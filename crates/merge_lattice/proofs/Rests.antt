-- What is left of an expression where some operands are absent: the rest, and the operands that stand in it.
use Rattle.std.proofs.Common.{◌≡◌, ℕ, ◌+◌, ◌++◌, Bool, true, false, cond, List, [], ◌∷◌, refl, ◌∙◌, Option, Some, None}
use Rattle.std.specs.Prelude.{is_some, ◌&&◌, ◌||◌, if◌then◌else◌}
use Rattle.dt_model.specs.declared.statements.Expr.{Expr, end_of-Expr, more_of-Expr}
use Rattle.dt_model.specs.declared.statements.Expr.TheVariants.{Literal, Access, Plus', Minus', Times', Negate'}
use Rattle.dt_model.specs.declared.statements.Expr.TheViews.{Plus, Minus, Times, Negate}
use Rattle.dt_model.specs.Statements.{contains_number}
use Rattle.merge_lattice.specs.Lattices.{operands, is_present}

-- an expression, and the operands that stand in it, from left to right
abbrev pub Rest : Type 0
Rest = Expr × List ℕ

-- what is left of a product
abbrev pub times_rests : Option Rest → Option Rest → Option Rest
times_rests None b = None
times_rests (Some a) None = None
times_rests (Some a) (Some b) = Some (Times a.0 b.0, a.1 ++ b.1)

-- what is left of a sum
abbrev pub plus_rests : Option Rest → Option Rest → Option Rest
plus_rests None b = b
plus_rests (Some a) None = Some a
plus_rests (Some a) (Some b) = Some (Plus a.0 b.0, a.1 ++ b.1)

-- what is left of a negation
abbrev pub negate_rest : Option Rest → Option Rest
negate_rest None = None
negate_rest (Some a) = Some (Negate a.0, a.1)

-- what is left of a difference
abbrev pub minus_rests : Option Rest → Option Rest → Option Rest
minus_rests None b = negate_rest b
minus_rests (Some a) None = Some a
minus_rests (Some a) (Some b) = Some (Minus a.0 b.0, a.1 ++ b.1)

-- what is left of an expression whose operands have the numbers from k on
abbrev pub rest_of : ℕ → (ℕ → Bool) → ℕ → Expr → Option Rest
rest_of v on k (Literal n) = Some (Literal n, [])
rest_of v on k (Access tensor vars) =
    if contains_number vars v then (if on k then Some (Access tensor vars, k ∷ []) else None) else Some (Access tensor vars, [])
rest_of v on k (Plus' s (more_of-Expr a end_of-Expr) t (more_of-Expr b end_of-Expr)) = plus_rests (rest_of v on k a) (rest_of v on (k + operands v a) b)
rest_of v on k (Minus' s (more_of-Expr a end_of-Expr) t (more_of-Expr b end_of-Expr)) = minus_rests (rest_of v on k a) (rest_of v on (k + operands v a) b)
rest_of v on k (Times' s (more_of-Expr a end_of-Expr) t (more_of-Expr b end_of-Expr)) = times_rests (rest_of v on k a) (rest_of v on (k + operands v a) b)
rest_of v on k (Negate' s (more_of-Expr a end_of-Expr)) = negate_rest (rest_of v on k a)

-- ---- presence

is_some-plus : (a b : Option Rest) → is_some (plus_rests a b) ≡ (is_some a || is_some b)
is_some-plus None b = refl
is_some-plus (Some a) None = refl
is_some-plus (Some a) (Some b) = refl

is_some-minus : (a b : Option Rest) → is_some (minus_rests a b) ≡ (is_some a || is_some b)
is_some-minus None None = refl
is_some-minus None (Some b) = refl
is_some-minus (Some a) None = refl
is_some-minus (Some a) (Some b) = refl

is_some-times : (a b : Option Rest) → is_some (times_rests a b) ≡ (is_some a && is_some b)
is_some-times None b = refl
is_some-times (Some a) None = refl
is_some-times (Some a) (Some b) = refl

is_some-negate : (a : Option Rest) → is_some (negate_rest a) ≡ is_some a
is_some-negate None = refl
is_some-negate (Some a) = refl

-- something is left exactly where the expression is present
pub rest_of-present : (v : ℕ) (on : ℕ → Bool) (k : ℕ) (e : Expr) → is_some (rest_of v on k e) ≡ is_present v on k e
rest_of-present v on k (Literal n) = refl
rest_of-present v on k (Access tensor vars) = tests (contains_number vars v) (on k)
  where
    tests : (a b : Bool) → is_some {T = Rest} (cond a (cond b (Some (Access tensor vars, k ∷ [])) None) (Some (Access tensor vars, []))) ≡ cond a b true
    tests true true = refl
    tests true false = refl
    tests false b = refl
rest_of-present v on k (Plus' s (more_of-Expr a end_of-Expr) t (more_of-Expr b end_of-Expr)) =
    is_some-plus (rest_of v on k a) (rest_of v on (k + operands v a) b) ∙ rw (rest_of-present v on k a, rest_of-present v on (k + operands v a) b) refl
rest_of-present v on k (Minus' s (more_of-Expr a end_of-Expr) t (more_of-Expr b end_of-Expr)) =
    is_some-minus (rest_of v on k a) (rest_of v on (k + operands v a) b) ∙ rw (rest_of-present v on k a, rest_of-present v on (k + operands v a) b) refl
rest_of-present v on k (Times' s (more_of-Expr a end_of-Expr) t (more_of-Expr b end_of-Expr)) =
    is_some-times (rest_of v on k a) (rest_of v on (k + operands v a) b) ∙ rw (rest_of-present v on k a, rest_of-present v on (k + operands v a) b) refl
rest_of-present v on k (Negate' s (more_of-Expr a end_of-Expr)) = is_some-negate (rest_of v on k a) ∙ rest_of-present v on k a
