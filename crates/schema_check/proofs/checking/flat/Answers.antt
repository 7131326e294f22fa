use Rattle.schema_check.proofs.BreachesLemmas.{flat_schema-keeps}
use Rattle.schema_check.proofs.checking.flat.Goals as goal
use Rattle.std.proofs.Common.{subst, sym}
use Rattle.schema_check.specs.Rules.{KeepsRules}

pub invariant_of-result : goal.invariant_of-result
invariant_of-result c = subst KeepsRules (sym c.flat.ensures.value) flat_schema-keeps
