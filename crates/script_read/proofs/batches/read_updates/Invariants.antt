use Rattle.std.proofs.Common.{◌≡◌, ◌<◌, ◌^◌, length}
use Rattle.std.specs.List.{All}
use Rattle.script_read.specs.Readings.{each_after}
use Rattle.script_read.specs.Batches.{parts_of, next_update, written_updates}
use Rattle.script_read.proofs.batches.read_updates.Given as goal

abbrev pub invariant-loop-part : goal.invariant-loop-part
invariant-loop-part l = record {
  left : each_after next_update l.updates l.parts ≡ written_updates (parts_of l.before l.text);
  small : All (λ u. length u.coordinates < 2 ^ 32) l.updates;
}

abbrev pub decreases-loop-part : goal.decreases-loop-part
decreases-loop-part l = length l.parts
