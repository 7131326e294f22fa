use Rattle.std.proofs.Common.{take}
use Rattle.loop_code.specs.Tables.{AreSound}
use Rattle.loop_code.proofs.tables.tables_of.Given as goal

abbrev pub invariant-loop-var : goal.invariant-loop-var
invariant-loop-var l = AreSound l.expr (take l.var-index l.vars) l.made.items
