use Rattle.std.proofs.Common.{◌≡◌, take}
use Rattle.dt_model.proofs.statements.names_copied.Given as goal

abbrev pub invariant-loop-name : goal.invariant-loop-name
invariant-loop-name l = l.vars.items ≡ take l.name-index l.name-items
