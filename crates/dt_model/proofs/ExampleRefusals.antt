-- Worked examples of refusals, each the first that applies.
use Rattle.std.proofs.Common.{◌≡◌, ℕ, List, [], ◌∷◌, refl}
use Rattle.std.specs.Prelude.{codes}
use Rattle.dt_model.specs.declared.declared_tensors.Decls.{Decls}
use Rattle.dt_model.specs.declared.calls.Call.TheVariants.{Batch}
use Rattle.dt_model.specs.declared.calls.Update.TheVariants.{Set}
use Rattle.dt_model.specs.declared.statements.Stmt.{Stmt}
use Rattle.dt_model.specs.declared.statements.Expr.{Expr}
use Rattle.dt_model.specs.declared.statements.Expr.TheVariants.{Access, Literal}
use Rattle.dt_model.specs.declared.statements.Expr.TheViews.{Plus, Times}
use Rattle.dt_model.specs.declared.replies.Refusal.TheVariants as because
use Rattle.dt_model.specs.declared.replies.Verdict.TheVariants.{Accepted, Refused}
use Rattle.dt_model.specs.declared.written.WrittenNumber.TheVariants.{Whole, Fraction, Huge}
use Rattle.dt_model.specs.declared.written.WrittenCoordinate.TheVariants as coordinate
use Rattle.dt_model.specs.declared.written.WrittenCall.TheVariants as written
use Rattle.dt_model.specs.Verdicts.{verdict}
use Rattle.dt_model.proofs.Examples.{declared, matrix, vector, statement, set_of, set_line, get_line, v_of_five}

-- ---- cells of `v`, whose dimension is 5

-- get v 0
pub below_range : verdict v_of_five (get_line (codes "v") (0 ∷ [])) ≡ Refused (because.Range (codes "v") 1 5)
below_range = refl

-- get v 6
pub above_range : verdict v_of_five (get_line (codes "v") (6 ∷ [])) ≡ Refused (because.Range (codes "v") 1 5)
above_range = refl

-- get v 4294967296: a coordinate that no number of 32 bits is
pub huge_coordinate : verdict v_of_five (written.Get (codes "v") (coordinate.Huge ∷ [])) ≡ Refused (because.Range (codes "v") 1 5)
huge_coordinate = refl

-- set v 9 2.5: the range is refused before the number
pub range_before_number : verdict v_of_five (set_line (codes "v") (9 ∷ []) Fraction) ≡ Refused (because.Range (codes "v") 1 5)
range_before_number = refl

-- set w 1 1
pub unknown_name : verdict v_of_five (set_line (codes "w") (1 ∷ []) (Whole 1)) ≡ Refused (because.Name (codes "w"))
unknown_name = refl

-- get v: no coordinate is given, and there is one mode
pub too_few_coordinates : verdict v_of_five (get_line (codes "v") []) ≡ Refused (because.Rank (codes "v") 0 1)
too_few_coordinates = refl

-- set v 1 2.5
pub not_whole : verdict v_of_five (set_line (codes "v") (1 ∷ []) Fraction) ≡ Refused because.NotWhole
not_whole = refl

-- set v 1 18446744073709551616
pub too_large : verdict v_of_five (set_line (codes "v") (1 ∷ []) Huge) ≡ Refused because.TooLarge
too_large = refl

-- set v 1 1e3: coordinate 1 is counted from 0 in the call
pub thousand : verdict v_of_five (set_line (codes "v") (1 ∷ []) (Whole 1000)) ≡ Accepted (Batch (Set (record { tensor = 0; at = 0 ∷ [] }) 1000 ∷ []))
thousand = refl

-- batch set v 1 2.5 ; set w 1 1: the first update's number is refused before the second's name
pub first_update_first : verdict v_of_five (written.Batch (set_of (codes "v") (1 ∷ []) Fraction ∷ set_of (codes "w") (1 ∷ []) (Whole 1) ∷ []))
    ≡ Refused because.NotWhole
first_update_first = refl

-- ---- statements; the variables are i and j

-- a statement a over i and j, with this left side and this right side
abbrev asked : List ℕ → Expr → Stmt
asked left right = statement (codes "a") (codes "i" ∷ codes "j" ∷ []) left right

-- b has dimension 2, B is 2 by 3, C is 2 by 2, v has dimension 5
abbrev pub some_tensors : Decls
some_tensors = declared (vector (codes "b") 2 1 ∷ matrix (codes "B") 2 3 ∷ matrix (codes "C") 2 2 ∷ vector (codes "v") 5 1 ∷ [])

-- a(i,j) = b(i) + C(i,j): the first term doesn't cover j
pub uncovered : verdict some_tensors (written.Query (asked (0 ∷ 1 ∷ []) (Plus (Access (codes "b") (0 ∷ [])) (Access (codes "C") (0 ∷ 1 ∷ [])))))
    ≡ Refused (because.Uncovered 1 (codes "j"))
unfolding Rattle.dt_model.specs.declared.statements.Expr.TheBlock.hidden-the_row-Expr-0 denote.Hole.Carrier.hidden
uncovered = refl

-- a(i) = C(i,j) * (b(i) + v(j)) is refused for the dimension of j before cover is asked for
pub dimension_before_cover : verdict some_tensors (written.Query (asked (0 ∷ [])
    (Times (Access (codes "C") (0 ∷ 1 ∷ [])) (Plus (Access (codes "b") (0 ∷ [])) (Access (codes "v") (1 ∷ []))))))
    ≡ Refused (because.Dimension (codes "j") 2 5)
unfolding Rattle.dt_model.specs.declared.statements.Expr.TheBlock.hidden-the_row-Expr-0 denote.Hole.Carrier.hidden
dimension_before_cover = refl

-- a = 3: the term has no access
pub no_access : verdict some_tensors (written.Query (statement (codes "a") [] [] (Literal 3))) ≡ Refused (because.Access 1)
no_access = refl

-- a(i) = B(i,j) * v(j): j has dimension 3 first, and then 5
pub two_dimensions : verdict some_tensors (written.Query (asked (0 ∷ []) (Times (Access (codes "B") (0 ∷ 1 ∷ [])) (Access (codes "v") (1 ∷ [])))))
    ≡ Refused (because.Dimension (codes "j") 3 5)
unfolding Rattle.dt_model.specs.declared.statements.Expr.TheBlock.hidden-the_row-Expr-0 denote.Hole.Carrier.hidden
two_dimensions = refl

-- a(i) = C(i,i)
pub repeated_in_access : verdict some_tensors (written.Query (statement (codes "a") (codes "i" ∷ []) (0 ∷ []) (Access (codes "C") (0 ∷ 0 ∷ []))))
    ≡ Refused (because.Repeated (codes "i"))
repeated_in_access = refl

-- a(i,j,j,i) = C(i,j): both are there twice, and i is the first
pub repeated_on_the_left : verdict some_tensors (written.Query (asked (0 ∷ 1 ∷ 1 ∷ 0 ∷ []) (Access (codes "C") (0 ∷ 1 ∷ []))))
    ≡ Refused (because.Repeated (codes "i"))
repeated_on_the_left = refl

-- a(i) = b(i,j) + w(i): an unknown name is refused before a wrong count of variables
pub name_before_rank : verdict some_tensors (written.Query (asked (0 ∷ []) (Plus (Access (codes "b") (0 ∷ 1 ∷ [])) (Access (codes "w") (0 ∷ [])))))
    ≡ Refused (because.Name (codes "w"))
unfolding Rattle.dt_model.specs.declared.statements.Expr.TheBlock.hidden-the_row-Expr-0 denote.Hole.Carrier.hidden
name_before_rank = refl
