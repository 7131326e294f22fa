use Rattle.std.proofs.Common.{◌≡◌, ◌++◌, take}
use Rattle.sessions.proofs.fiber_rows.append.Given as goal

abbrev pub invariant-loop-index : goal.invariant-loop-index
invariant-loop-index l = l.rows ≡ l.initial.rows ++ take l.index l.pairs
