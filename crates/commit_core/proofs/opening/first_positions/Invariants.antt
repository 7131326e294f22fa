use Rattle.std.proofs.Common.{◌≡◌, ℕ, ◌<◌, length}
use Rattle.commit_core.specs.Events.{position_after}
use Rattle.commit_core.specs.State.{position_in}
use Rattle.commit_core.proofs.opening.first_positions.Given as goal

abbrev pub invariant-loop-session : goal.invariant-loop-session
invariant-loop-session l = (length l.positions.items ≡ l.session) × ((s : ℕ) → s < l.session → position_in l.positions.items s ≡ position_after l.world s 0)
