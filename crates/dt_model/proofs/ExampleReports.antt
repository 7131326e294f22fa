-- Worked runs and their reports: each is what a thread prints that makes the calls of the history.
use Rattle.std.proofs.Common.{◌≡◌, [], ◌∷◌, refl}
use Rattle.std.specs.Prelude.{codes}
use Rattle.std.specs.Fmt.{digits}
use Rattle.dt_model.specs.declared.replies.World.{World}
use Rattle.dt_model.specs.declared.statements.Expr.TheVariants.{Access}
use Rattle.dt_model.specs.declared.written.WrittenNumber.TheVariants.{Whole, Fraction}
use Rattle.dt_model.specs.declared.written.WrittenCall.TheVariants as written
use Rattle.dt_model.specs.Report.{report, history}
use Rattle.dt_model.proofs.Examples.{declared, vector, statement, set_of, add_of, set_line, add_line, get_line, minus, world_of, entries_of, session_over_v}

-- set v 2 7 / get v 2
abbrev pub set_then_get : World
set_then_get = session_over_v (set_line (codes "v") (2 ∷ []) (Whole 7) ∷ get_line (codes "v") (2 ∷ []) ∷ [])

-- a get reads what was set before it
pub get_reads_set : report set_then_get [] (entries_of set_then_get ((1, 1) ∷ (1, 2) ∷ [])) ≡ codes "session 1\n1 ok\n2 value 7\nhistory 2\n1 1\n1 2\n"
unfolding digits
get_reads_set = refl

-- a call that isn't in the history ran out of memory, and the get then reads 0
pub lost_call : report set_then_get [] (entries_of set_then_get ((1, 2) ∷ [])) ≡ codes "session 1\n1 no memory\n2 value 0\nhistory 1\n1 2\n"
unfolding digits
lost_call = refl

-- an empty script
pub empty_script : report (session_over_v []) [] [] ≡ codes "session 1\nhistory 0\n"
unfolding digits
empty_script = refl

-- set v 1 18446744073709551615 / add v 1 2 / get v 1
abbrev wrapping : World
wrapping =
    session_over_v (set_line (codes "v") (1 ∷ []) (Whole 18446744073709551615) ∷ add_line (codes "v") (1 ∷ []) (Whole 2) ∷ get_line (codes "v") (1 ∷ []) ∷ [])

-- values wrap at 2^64
pub sum_wraps : report wrapping [] (entries_of wrapping ((1, 1) ∷ (1, 2) ∷ (1, 3) ∷ [])) ≡ codes "session 1\n1 ok\n2 ok\n3 value 1\nhistory 3\n1 1\n1 2\n1 3\n"
unfolding digits
sum_wraps = refl

-- add v 3 7 / add v 3 -7 / query a(i) = v(i)
abbrev emptied : World
emptied =
    session_over_v (add_line (codes "v") (3 ∷ []) (Whole 7) ∷ add_line (codes "v") (3 ∷ []) (minus 7)
    ∷ written.Query (statement (codes "a") (codes "i" ∷ []) (0 ∷ []) (Access (codes "v") (0 ∷ []))) ∷ [])

-- an empty answer
pub empty_answer : report emptied [] (entries_of emptied ((1, 1) ∷ (1, 2) ∷ (1, 3) ∷ []))
    ≡ codes "session 1\n1 ok\n2 ok\n3 result 0\nhistory 3\n1 1\n1 2\n1 3\n"
unfolding digits
empty_answer = refl

-- get v 0 / get v 6 / set v 9 2.5
abbrev out_of_range : World
out_of_range = session_over_v (get_line (codes "v") (0 ∷ []) ∷ get_line (codes "v") (6 ∷ []) ∷ set_line (codes "v") (9 ∷ []) Fraction ∷ [])

-- refused lines are in no history
pub all_refused : report out_of_range [] [] ≡ codes "session 1\n1 refused range v 1 5\n2 refused range v 1 5\n3 refused range v 1 5\nhistory 0\n"
unfolding digits
all_refused = refl

-- get v 5 / set v 5 1 / set v 4 2 / get v 5
abbrev two_cells : World
two_cells =
    session_over_v (get_line (codes "v") (5 ∷ []) ∷ set_line (codes "v") (5 ∷ []) (Whole 1)
    ∷ set_line (codes "v") (4 ∷ []) (Whole 2) ∷ get_line (codes "v") (5 ∷ []) ∷ [])

-- a cell that was never set is 0, and another cell's set leaves it
pub set_leaves_other_cells : report two_cells [] (entries_of two_cells ((1, 1) ∷ (1, 2) ∷ (1, 3) ∷ (1, 4) ∷ []))
    ≡ codes "session 1\n1 value 0\n2 ok\n3 ok\n4 value 1\nhistory 4\n1 1\n1 2\n1 3\n1 4\n"
unfolding digits
set_leaves_other_cells = refl

-- v has dimension 4 and 2 latches, u has dimension 3; batch set v 1 5 ; add v 4 2 ; set u 2 9 ; add v 1 1
abbrev one_batch : World
one_batch =
    world_of (declared (vector (codes "v") 4 2 ∷ vector (codes "u") 3 1 ∷ [])) ([] ∷ [] ∷ [])
    (written.Batch (set_of (codes "v") (1 ∷ []) (Whole 5) ∷ add_of (codes "v") (4 ∷ []) (Whole 2)
    ∷ set_of (codes "u") (2 ∷ []) (Whole 9) ∷ add_of (codes "v") (1 ∷ []) (Whole 1) ∷ []) ∷ [])

-- a batch makes its updates in their order, and the printed tensors have what is there at the end
pub batch_and_print : report one_batch (0 ∷ 1 ∷ []) (entries_of one_batch ((1, 1) ∷ []))
    ≡ codes "session 1\n1 ok\nhistory 1\n1 1\ntensor v 2\n1 6\n4 2\ntensor u 1\n2 9\n"
unfolding digits
batch_and_print = refl

-- the history is read back from the report, although the rows of the printed tensors look like turns
pub history_of_batch : history one_batch (codes "session 1\n1 ok\nhistory 1\n1 1\ntensor v 2\n1 6\n4 2\ntensor u 1\n2 9\n") ≡ entries_of one_batch ((1, 1) ∷ [])
history_of_batch = refl
