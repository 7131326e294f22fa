-- The operands of a variable in an expression, where the expression is present, and its value.
use Rattle.std.specs.Prelude.{◌≡◌, ℕ, ◌+◌, ◌*◌, ◌/◌, ◌%◌, ◌^◌, Bool, true, false, List, [], ◌∷◌, ◌++◌, ◌==◌, ◌&&◌, ◌||◌, if◌then◌else◌}
use Rattle.dt_model.specs.declared.statements.Expr.{Expr, end_of-Expr, more_of-Expr}
use Rattle.dt_model.specs.declared.statements.Expr.TheVariants.{Literal, Access, Plus', Minus', Times', Negate'}
use Rattle.dt_model.specs.Statements.{contains_number, plus64, minus64}

-- ---- operands: the accesses that have the variable, numbered from left to right

-- whether an access has the variable, as a number
abbrev pub operands_of_access : ℕ → List ℕ → ℕ
operands_of_access v vars = if contains_number vars v then 1 else 0

-- how many accesses have the variable
abbrev pub operands : ℕ → Expr → ℕ
operands v (Literal n) = 0
operands v (Access tensor vars) = operands_of_access v vars
operands v (Plus' s (more_of-Expr a end_of-Expr) t (more_of-Expr b end_of-Expr)) = operands v a + operands v b
operands v (Minus' s (more_of-Expr a end_of-Expr) t (more_of-Expr b end_of-Expr)) = operands v a + operands v b
operands v (Times' s (more_of-Expr a end_of-Expr) t (more_of-Expr b end_of-Expr)) = operands v a + operands v b
operands v (Negate' s (more_of-Expr a end_of-Expr)) = operands v a

-- whether bit n is set
abbrev pub bit_of : ℕ → ℕ → Bool
bit_of set n = set / 2 ^ n % 2 == 1

-- ---- presence, where the operands of an expression have the numbers from k on, and those that pass a test are present

-- whether an expression is present: a literal, also 0, and an access without the variable always; an operand if it passes the test; a negation where
-- its operand is, a product where both factors are, a sum or difference where at least one side is
abbrev pub is_present : ℕ → (ℕ → Bool) → ℕ → Expr → Bool
is_present v on k (Literal n) = true
is_present v on k (Access tensor vars) = if contains_number vars v then on k else true
is_present v on k (Plus' s (more_of-Expr a end_of-Expr) t (more_of-Expr b end_of-Expr)) = is_present v on k a || is_present v on (k + operands v a) b
is_present v on k (Minus' s (more_of-Expr a end_of-Expr) t (more_of-Expr b end_of-Expr)) = is_present v on k a || is_present v on (k + operands v a) b
is_present v on k (Times' s (more_of-Expr a end_of-Expr) t (more_of-Expr b end_of-Expr)) = is_present v on k a && is_present v on (k + operands v a) b
is_present v on k (Negate' s (more_of-Expr a end_of-Expr)) = is_present v on k a

-- the operands that are present and stand in no product with an absent factor
abbrev pub standing : ℕ → (ℕ → Bool) → ℕ → Expr → List ℕ
standing v on k (Literal n) = []
standing v on k (Access tensor vars) = if contains_number vars v && on k then k ∷ [] else []
standing v on k (Plus' s (more_of-Expr a end_of-Expr) t (more_of-Expr b end_of-Expr)) = standing v on k a ++ standing v on (k + operands v a) b
standing v on k (Minus' s (more_of-Expr a end_of-Expr) t (more_of-Expr b end_of-Expr)) = standing v on k a ++ standing v on (k + operands v a) b
standing v on k (Times' s (more_of-Expr a end_of-Expr) t (more_of-Expr b end_of-Expr)) =
    if is_present v on k a && is_present v on (k + operands v a) b then standing v on k a ++ standing v on (k + operands v a) b else []
standing v on k (Negate' s (more_of-Expr a end_of-Expr)) = standing v on k a

-- ---- values

-- the value modulo 2^64 where operand n has the number of n, its tensor and variables, and each other access that of its tensor and variables
abbrev pub value_at : ℕ → (ℕ → List ℕ → List ℕ → ℕ) → (List ℕ → List ℕ → ℕ) → ℕ → Expr → ℕ
value_at v at others k (Literal n) = n % 2 ^ 64
value_at v at others k (Access tensor vars) = (if contains_number vars v then at k tensor vars else others tensor vars) % 2 ^ 64
value_at v at others k (Plus' s (more_of-Expr a end_of-Expr) t (more_of-Expr b end_of-Expr)) =
    plus64 (value_at v at others k a) (value_at v at others (k + operands v a) b)
value_at v at others k (Minus' s (more_of-Expr a end_of-Expr) t (more_of-Expr b end_of-Expr)) =
    minus64 (value_at v at others k a) (value_at v at others (k + operands v a) b)
value_at v at others k (Times' s (more_of-Expr a end_of-Expr) t (more_of-Expr b end_of-Expr)) =
    (value_at v at others k a * value_at v at others (k + operands v a) b) % 2 ^ 64
value_at v at others k (Negate' s (more_of-Expr a end_of-Expr)) = minus64 0 (value_at v at others k a)

-- operands outside the set have the number 0
abbrev pub IsZeroOutside : (ℕ → Bool) → (ℕ → List ℕ → List ℕ → ℕ) → Type 0
IsZeroOutside on at = (n : ℕ) → on n ≡ false → (tensor vars : List ℕ) → at n tensor vars ≡ 0
