use Rattle.std.proofs.Common.{◌≡◌, ◌≤◌, ◌-◌, length}
use Rattle.schema_read.specs.Tokens.{spans_from}
use Rattle.schema_read.specs.Reading.{read_from, schemas_in}
use Rattle.schema_read.proofs.Rooms.{Tied}
use Rattle.schema_read.proofs.read.read_tokens.Given as goal

abbrev pub invariant-loop-span : goal.invariant-loop-span
invariant-loop-span l =
    (l.at ≤ length l.text)
    × (read_from l.text l.scan l.draft (spans_from l.text l.at) ≡ schemas_in l.text)
    × Tied l.scan.place l.scan.counts.kinds l.draft.kinds.items

abbrev pub decreases-loop-span : goal.decreases-loop-span
decreases-loop-span l = length l.text - l.at
