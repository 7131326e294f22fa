use Rattle.std.proofs.Common.{◌≡◌, ◌≤◌, ◌-◌, length}
use Rattle.schema_read.specs.Tokens.{spans_from}
use Rattle.schema_read.proofs.lexer.next_token.Given as goal

abbrev pub invariant-loop-span : goal.invariant-loop-span
invariant-loop-span l =
    (l.at ≤ l.place)
    × (l.place ≤ length l.text)
    × (spans_from l.text l.place ≡ spans_from l.text l.at)

abbrev pub decreases-loop-span : goal.decreases-loop-span
decreases-loop-span l = length l.text - l.place
