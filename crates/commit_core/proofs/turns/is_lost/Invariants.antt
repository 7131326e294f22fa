use Rattle.std.proofs.Common.{◌≡◌, take, false}
use Rattle.commit_core.specs.Turns.{is_lost}
use Rattle.commit_core.proofs.turns.is_lost.Given as goal

abbrev pub invariant-loop-other : goal.invariant-loop-other
invariant-loop-other l = is_lost (take l.other-index l.lost) l.turn.session l.turn.number ≡ false
