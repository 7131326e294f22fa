use Rattle.std.proofs.Common.{◌≡◌, ap, sym, subst, ◌∙◌, Ok, Some, None}
use Rattle.schema_check.specs.Rules.{KeepsRules}
use Rattle.schema_check.proofs.BreachesLemmas.{first_breach-keeps, first_breach-first, KeepsRules-none}
use Rattle.schema_check.proofs.checking.check.Goals as goal

pub invariant_of-result : goal.invariant_of-result
invariant_of-result c = subst KeepsRules (sym c.copy.ensures.value) (first_breach-keeps c.args.schema.now (sym c.in-None.ensures.value))

pub returns-in-Some-clause-err : goal.returns-in-Some-clause-err
returns-in-Some-clause-err c = first_breach-first c.args.schema.now c.in-Some.breach (sym c.in-Some.ensures.value)

pub returns-in-None-clause-ok : goal.returns-in-None-clause-ok
returns-in-None-clause-ok c = subst KeepsRules (sym c.copy.ensures.value) (first_breach-keeps c.args.schema.now (sym c.in-None.ensures.value))

pub returns-in-Some-clause-only : goal.returns-in-Some-clause-only
returns-in-Some-clause-only c k = let no : Some c.in-Some.breach ≡ None = c.in-Some.ensures.value ∙ KeepsRules-none c.args.schema.now k in absurd (cc)

pub returns-in-None-clause-only : goal.returns-in-None-clause-only
returns-in-None-clause-only c k = ap Ok c.copy.ensures.value
