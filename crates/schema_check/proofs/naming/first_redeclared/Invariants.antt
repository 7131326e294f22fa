use Rattle.std.proofs.Common.{◌≡◌, [], take, drop}
use Rattle.schema_check.specs.Breaches.{first_redeclared}
use Rattle.schema_check.proofs.naming.first_redeclared.Given as goal

abbrev pub invariant-loop-index : goal.invariant-loop-index
invariant-loop-index l = first_redeclared [] l.kinds ≡ first_redeclared (take l.index l.kinds) (drop l.index l.kinds)
