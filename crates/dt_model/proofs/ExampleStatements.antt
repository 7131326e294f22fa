-- Worked examples of statements: a product, a sum for each term, a transposed sum.
use Rattle.std.proofs.Common.{◌≡◌, ℕ, List, [], ◌∷◌, refl}
use Rattle.std.specs.Prelude.{codes}
use Rattle.std.specs.Fmt.{digits}
use Rattle.dt_model.specs.declared.declared_tensors.Decls.{Decls}
use Rattle.dt_model.specs.declared.replies.World.{World}
use Rattle.dt_model.specs.declared.statements.Stmt.{Stmt}
use Rattle.dt_model.specs.declared.statements.Expr.TheVariants.{Access}
use Rattle.dt_model.specs.declared.statements.Expr.TheViews.{Plus, Minus, Times, Negate}
use Rattle.dt_model.specs.declared.written.WrittenCall.TheVariants as written
use Rattle.dt_model.specs.Report.{report}
use Rattle.dt_model.proofs.Examples.{declared, matrix, vector, statement, world_of, entries_of}

-- B is 2 by 2 and has (1,1) 1, (1,2) 2 and (2,2) 3
abbrev cells_of_B : List (List ℕ × ℕ)
cells_of_B = (0 ∷ 0 ∷ [], 1) ∷ (0 ∷ 1 ∷ [], 2) ∷ (1 ∷ 1 ∷ [], 3) ∷ []

-- C is 2 by 2 and has (1,1) 4, (2,1) 5 and (2,2) 6
abbrev cells_of_C : List (List ℕ × ℕ)
cells_of_C = (0 ∷ 0 ∷ [], 4) ∷ (1 ∷ 0 ∷ [], 5) ∷ (1 ∷ 1 ∷ [], 6) ∷ []

-- B and C are declared
abbrev pub two_matrices : Decls
two_matrices = declared (matrix (codes "B") 2 2 ∷ matrix (codes "C") 2 2 ∷ [])

-- A(i,j) = B(i,k) * C(k,j)
abbrev pub product : Stmt
product = statement (codes "A") (codes "i" ∷ codes "j" ∷ codes "k" ∷ []) (0 ∷ 1 ∷ [])
    (Times (Access (codes "B") (0 ∷ 2 ∷ [])) (Access (codes "C") (2 ∷ 1 ∷ [])))

-- a session that asks for the product
abbrev product_run : World
product_run = world_of two_matrices (cells_of_B ∷ cells_of_C ∷ []) (written.Query product ∷ [])

-- the query is accepted, and its report has the product of the two matrices
pub product_of_matrices : report product_run [] (entries_of product_run ((1, 1) ∷ []))
    ≡ codes "session 1\n1 result 4\n1 1 14\n1 2 12\n2 1 15\n2 2 18\nhistory 1\n1 1\n"
unfolding digits Rattle.dt_model.specs.declared.statements.Expr.TheBlock.hidden-the_row-Expr-0 denote.Hole.Carrier.hidden
product_of_matrices = refl

-- A(i,j) = B(i,j) + C(j,i)
abbrev transposed_sum : Stmt
transposed_sum = statement (codes "A") (codes "i" ∷ codes "j" ∷ []) (0 ∷ 1 ∷ []) (Plus (Access (codes "B") (0 ∷ 1 ∷ [])) (Access (codes "C") (1 ∷ 0 ∷ [])))

-- a session that asks for the sum
abbrev transposed_run : World
transposed_run = world_of two_matrices (cells_of_B ∷ cells_of_C ∷ []) (written.Query transposed_sum ∷ [])

-- the second access takes the variables the other way round: (1,1) is 1 + 4, (1,2) is 2 + 5, (2,2) is 3 + 6
pub sum_with_transposed : report transposed_run [] (entries_of transposed_run ((1, 1) ∷ []))
    ≡ codes "session 1\n1 result 3\n1 1 5\n1 2 7\n2 2 9\nhistory 1\n1 1\n"
unfolding digits Rattle.dt_model.specs.declared.statements.Expr.TheBlock.hidden-the_row-Expr-0 denote.Hole.Carrier.hidden
sum_with_transposed = refl

-- A is 2 by 2 and has (1,1) 1 and (1,2) 1; x has 2 and 3; z has 10 and 20
abbrev pub affine_tensors : Decls
affine_tensors = declared (matrix (codes "A") 2 2 ∷ vector (codes "x") 2 1 ∷ vector (codes "z") 2 1 ∷ [])

-- y(i) = A(i,j) * x(j) + z(i)
abbrev affine : Stmt
affine = statement (codes "y") (codes "i" ∷ codes "j" ∷ []) (0 ∷ [])
    (Plus (Times (Access (codes "A") (0 ∷ 1 ∷ [])) (Access (codes "x") (1 ∷ []))) (Access (codes "z") (0 ∷ [])))

-- a session that asks for it
abbrev affine_run : World
affine_run = world_of affine_tensors (((0 ∷ 0 ∷ [], 1) ∷ (0 ∷ 1 ∷ [], 1) ∷ []) ∷ ((0 ∷ [], 2) ∷ (1 ∷ [], 3) ∷ []) ∷ ((0 ∷ [], 10) ∷ (
  1 ∷ [],
  20,
) ∷ []) ∷ []) (written.Query affine ∷ [])

-- the sum over j is of the first term alone: y(1) is 2 + 3 + 10, and not 2 + 10 + 3 + 10
pub sum_round_each_term : report affine_run [] (entries_of affine_run ((1, 1) ∷ [])) ≡ codes "session 1\n1 result 2\n1 15\n2 20\nhistory 1\n1 1\n"
unfolding digits Rattle.dt_model.specs.declared.statements.Expr.TheBlock.hidden-the_row-Expr-0 denote.Hole.Carrier.hidden
sum_round_each_term = refl

-- a = B(i,j) - C(i,j) - -B(i,j)
abbrev scalar : Stmt
scalar = statement (codes "a") (codes "i" ∷ codes "j" ∷ []) []
    (Minus (Minus (Access (codes "B") (0 ∷ 1 ∷ [])) (Access (codes "C") (0 ∷ 1 ∷ []))) (Negate (Access (codes "B") (0 ∷ 1 ∷ []))))

-- a session that asks for it
abbrev scalar_run : World
scalar_run = world_of two_matrices (cells_of_B ∷ cells_of_C ∷ []) (written.Query scalar ∷ [])

-- without left variables the answer has one line of a value: 6 - 15 + 6 is -3
pub scalar_difference : report scalar_run [] (entries_of scalar_run ((1, 1) ∷ [])) ≡ codes "session 1\n1 result 1\n-3\nhistory 1\n1 1\n"
unfolding digits Rattle.dt_model.specs.declared.statements.Expr.TheBlock.hidden-the_row-Expr-0 denote.Hole.Carrier.hidden
scalar_difference = refl
