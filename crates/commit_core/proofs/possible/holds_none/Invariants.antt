use Rattle.std.proofs.Common.{◌≡◌, true}
use Rattle.std.specs.Prelude.{slice_index, not, ◌==◌}
use Rattle.commit_core.specs.Events.{all_under}
use Rattle.commit_core.proofs.possible.holds_none.Given as goal

abbrev pub invariant-loop-holder : goal.invariant-loop-holder
invariant-loop-holder l = all_under (λ k. not (slice_index l.holders k == l.session)) l.holder-index ≡ true
