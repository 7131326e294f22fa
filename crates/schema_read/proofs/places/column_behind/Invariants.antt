use Rattle.std.proofs.Common.{◌≡◌, ◌+◌, ◌≤◌, ◌==◌, not, length, take}
use Rattle.std.specs.List.{suffix_len}
use Rattle.dt_model.specs.declared.limits.TheConstants.{LINE_FEED}
use Rattle.schema_read.proofs.places.column_behind.Given as goal

abbrev pub invariant-loop-start : goal.invariant-loop-start
invariant-loop-start l =
    (l.start + suffix_len (λ b. not (b == LINE_FEED)) l.front ≡ length l.front + suffix_len (λ b. not (b == LINE_FEED)) (take l.start l.front))
    × (l.start ≤ length l.front)

abbrev pub decreases-loop-start : goal.decreases-loop-start
decreases-loop-start l = l.start
