-- Worked examples of values: they wrap at 2^64, a sum of 0 is no nonzero, and loaded lines are added.
use Rattle.std.proofs.Common.{◌≡◌, [], ◌∷◌, refl}
use Rattle.std.specs.Prelude.{codes}
use Rattle.std.specs.Fmt.{digits}
use Rattle.dt_model.specs.declared.calls.Update.TheVariants.{Set, Add}
use Rattle.dt_model.specs.declared.calls.Cell.{Cell}
use Rattle.dt_model.specs.declared.replies.World.{World}
use Rattle.dt_model.specs.declared.statements.Stmt.{Stmt}
use Rattle.dt_model.specs.declared.statements.Expr.TheVariants.{Access}
use Rattle.dt_model.specs.Contents.{no_cells, with_updates}
use Rattle.dt_model.specs.Statements.{answer}
use Rattle.dt_model.specs.Texts.{value_word}
use Rattle.dt_model.specs.Runs.{base_of}
use Rattle.dt_model.specs.Report.{report}
use Rattle.dt_model.proofs.Examples.{declared, matrix, statement, v_of_five}

-- cell 1 of v
abbrev first_cell : Cell
first_cell = record { tensor = 0; at = 0 ∷ [] }

-- cell 3 of v
abbrev third_cell : Cell
third_cell = record { tensor = 0; at = 2 ∷ [] }

-- 2^64 - 1 and 2 more is 1
pub wraps_at_64_bits : with_updates no_cells (Set first_cell 18446744073709551615 ∷ Add first_cell 2 ∷ []) 0 (0 ∷ []) ≡ 1
wraps_at_64_bits = refl

-- 2^64 - 1 is written as -1
pub greatest_value : value_word 18446744073709551615 ≡ codes "-1"
unfolding digits
greatest_value = refl

-- 2^63 is written as -9223372036854775808
pub least_signed_value : value_word 9223372036854775808 ≡ codes "-9223372036854775808"
unfolding digits
least_signed_value = refl

-- 2^63 - 1 is written without a sign
pub greatest_signed_value : value_word 9223372036854775807 ≡ codes "9223372036854775807"
unfolding digits
greatest_signed_value = refl

-- a(i) = v(i)
abbrev copy_of_v : Stmt
copy_of_v = statement (codes "a") (codes "i" ∷ []) (0 ∷ []) (Access (codes "v") (0 ∷ []))

-- where 7 and -7 were added, the answer is empty
pub sum_of_zero_is_no_nonzero : answer v_of_five (with_updates no_cells (Add third_cell 7 ∷ Add third_cell 18446744073709551609 ∷ [])) copy_of_v ≡ []
unfolding Rattle.dt_model.specs.declared.statements.Expr.TheBlock.hidden-the_row-Expr-0 denote.Hole.Carrier.hidden
sum_of_zero_is_no_nonzero = refl

-- where only 7 was added, the answer has it
pub sum_of_seven_is_a_nonzero : answer v_of_five (with_updates no_cells (Add third_cell 7 ∷ [])) copy_of_v ≡ (2 ∷ [], 7) ∷ []
unfolding Rattle.dt_model.specs.declared.statements.Expr.TheBlock.hidden-the_row-Expr-0 denote.Hole.Carrier.hidden
sum_of_seven_is_a_nonzero = refl

-- B has the loaded lines `1 1 3`, `2 2 25` and `2 2 -5`
abbrev loaded : World
loaded = record {
  decls = declared (matrix (codes "B") 2 2 ∷ []);
  base = ((0 ∷ 0 ∷ [], 3) ∷ (1 ∷ 1 ∷ [], 25) ∷ (1 ∷ 1 ∷ [], 18446744073709551611) ∷ []) ∷ [];
  scripts = [];
}

-- repeated lines are added: 25 and -5 is 20
pub repeated_lines_are_added : base_of loaded 0 (1 ∷ 1 ∷ []) ≡ 20
repeated_lines_are_added = refl

-- the printed tensor has each cell once
pub loaded_report : report loaded (0 ∷ []) [] ≡ codes "history 0\ntensor B 2\n1 1 3\n2 2 20\n"
unfolding digits
loaded_report = refl
