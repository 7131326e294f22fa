use Rattle.std.proofs.Common.{◌≡◌, map, take}
use Rattle.dt_outside.specs.States.{pair_of}
use Rattle.dt_outside.proofs.hold_gates.HoldGate.new.Given as goal

abbrev pub invariant-loop-looking : goal.invariant-loop-looking
invariant-loop-looking l = map pair_of l.meetings.items ≡ take l.looking-index l.fn.waits.items
