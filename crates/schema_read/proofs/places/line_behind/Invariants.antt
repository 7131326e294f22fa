use Rattle.std.proofs.Common.{◌≡◌, ◌+◌, ◌≤◌, ◌==◌, take}
use Rattle.std.specs.List.{count_by}
use Rattle.dt_model.specs.declared.limits.TheConstants.{LINE_FEED}
use Rattle.schema_read.proofs.places.line_behind.Given as goal

abbrev pub invariant-loop-byte : goal.invariant-loop-byte
invariant-loop-byte l = (l.line ≡ count_by (λ b. b == LINE_FEED) (take l.byte-index l.front) + 1) × (l.line ≤ l.byte-index + 1)
