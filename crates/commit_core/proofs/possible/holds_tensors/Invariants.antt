use Rattle.std.proofs.Common.{◌≡◌, true}
use Rattle.std.specs.Prelude.{slice_index, not, ◌||◌, ◌==◌}
use Rattle.std.specs.List.{list_any}
use Rattle.dt_model.specs.Statements.{accesses}
use Rattle.dt_model.specs.Tensors.{tensor_named}
use Rattle.dt_model.specs.Latches.{is_latch_of}
use Rattle.commit_core.specs.Events.{all_under}
use Rattle.commit_core.proofs.possible.holds_tensors.Given as goal

abbrev pub invariant-loop-latch : goal.invariant-loop-latch
invariant-loop-latch l = all_under (λ k. not (list_any (λ a. is_latch_of l.decls k (tensor_named l.decls a.0)) (accesses l.expression))
    || slice_index l.holders k == l.session) l.latch ≡ true
