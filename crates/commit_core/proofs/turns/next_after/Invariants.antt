use Rattle.std.proofs.Common.{◌≡◌, ◌+◌, ◌-◌}
use Rattle.std.specs.Prelude.{unwrap_or, find, is_some}
use Rattle.std.specs.List.{range_with_len}
use Rattle.dt_model.specs.Runs.{call_of}
use Rattle.commit_core.specs.Turns.{script_of, lines_in, next_after}
use Rattle.commit_core.proofs.turns.next_after.Given as goal

abbrev pub invariant-loop-line : goal.invariant-loop-line
invariant-loop-line l = unwrap_or (find (λ k. is_some (call_of l.world l.session k)) (range_with_len (l.line
    + 1) (lines_in (script_of l.world l.session) - l.line))) 0 ≡ next_after l.world l.session l.number
