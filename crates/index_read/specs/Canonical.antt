-- The canonical text of a statement.
use Rattle.std.specs.Prelude.{ℕ, Bool, true, false, List, [], ◌∷◌, ◌++◌, slice_get, unwrap_or}
use Rattle.std.specs.List.{flat_map}
use Rattle.std.specs.Fmt.{decimal}
use Rattle.dt_model.specs.declared.statements.Expr.{Expr, end_of-Expr, more_of-Expr}
use Rattle.dt_model.specs.declared.statements.Expr.TheVariants.{Literal, Access, Plus', Minus', Times', Negate'}
use Rattle.dt_model.specs.declared.statements.Stmt.{Stmt}
use Rattle.index_read.specs.declared.write.Precedence.{Precedence}
use Rattle.index_read.specs.declared.write.Precedence.TheVariants as least

-- the name of a variable; no bytes where there is none
abbrev pub name_at : List (List ℕ) → ℕ → List ℕ
name_at vars v = unwrap_or (slice_get vars v) []

-- the names of variables with commas between them
abbrev pub names_text : List (List ℕ) → List ℕ → List ℕ
names_text vars [] = []
names_text vars (v ∷ vs) = name_at vars v ++ flat_map (λ w. 44 ∷ name_at vars w) vs

-- a text, in parentheses or not
abbrev pub enclose : Bool → List ℕ → List ℕ
enclose true text = 40 ∷ (text ++ 41 ∷ [])
enclose false text = text

-- whether a sum, a difference or a negation has parentheses
abbrev pub encloses_sum : Precedence → Bool
encloses_sum least.Sum = false
encloses_sum least.Product = true
encloses_sum least.Factor = true

-- whether a product has parentheses
abbrev pub encloses_product : Precedence → Bool
encloses_product least.Sum = false
encloses_product least.Product = false
encloses_product least.Factor = true

-- an expression where operators of a precedence and above need no parentheses
abbrev pub expr_text : List (List ℕ) → Precedence → Expr → List ℕ
expr_text vars p (Literal n) = decimal n
expr_text vars p (Access tensor vs) = tensor ++ 40 ∷ (names_text vars vs ++ 41 ∷ [])
expr_text vars p (Plus' s (more_of-Expr a end_of-Expr) t (more_of-Expr b end_of-Expr)) =
    enclose (encloses_sum p) (expr_text vars least.Sum a ++ 32 ∷ 43 ∷ 32 ∷ expr_text vars least.Product b)
expr_text vars p (Minus' s (more_of-Expr a end_of-Expr) t (more_of-Expr b end_of-Expr)) =
    enclose (encloses_sum p) (expr_text vars least.Sum a ++ 32 ∷ 45 ∷ 32 ∷ expr_text vars least.Product b)
expr_text vars p (Times' s (more_of-Expr a end_of-Expr) t (more_of-Expr b end_of-Expr)) =
    enclose (encloses_product p) (expr_text vars least.Product a ++ 32 ∷ 42 ∷ 32 ∷ expr_text vars least.Factor b)
expr_text vars p (Negate' s (more_of-Expr a end_of-Expr)) = enclose (encloses_sum p) (45 ∷ expr_text vars least.Product a)

-- the variables of a left side in parentheses, where there are any
abbrev pub left_text : List (List ℕ) → List ℕ → List ℕ
left_text vars [] = []
left_text vars (v ∷ vs) = 40 ∷ (names_text vars (v ∷ vs) ++ 41 ∷ [])

-- the canonical text of a statement
abbrev pub canonical_text : Stmt → List ℕ
canonical_text s = s.name ++ (left_text s.vars.items s.left ++ 32 ∷ 61 ∷ 32 ∷ expr_text s.vars.items least.Sum s.right)
