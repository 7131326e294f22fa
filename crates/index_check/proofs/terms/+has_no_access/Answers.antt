use Rattle.std.proofs.Common.{ap, ◌∙◌}
use Rattle.index_check.specs.Parts.{has_no_access}
use Rattle.index_check.proofs.Laws.{none-Plus, none-Minus, none-Times}
use Rattle.index_check.proofs.Joining.{and_then}
use Rattle.index_check.proofs.terms.+has_no_access.Goals as goal

pub returns-then-has_no_access : goal.returns-then-has_no_access
returns-then-has_no_access t c =
    record {
      value = and_then has_no_access c.args.expr.now c.in-Plus.a c.in-Plus.b c.get.result.now c.get-then-has_no_access.result.now
          c.has_no_access.result c.has_no_access-then-has_no_access.result
          (ap has_no_access c.in-Plus.is ∙ none-Plus c.in-Plus.a c.in-Plus.b) c.get.ensures c.get-then-has_no_access.ensures c.has_no_access.ensures.value
          c.if-has_no_access.true c.has_no_access-then-has_no_access.ensures.value;
    }

pub returns-then-has_no_access-2 : goal.returns-then-has_no_access-2
returns-then-has_no_access-2 t c =
    record {
      value = and_then has_no_access c.args.expr.now c.in-Minus.a c.in-Minus.b c.get-in-Minus.result.now c.get-then-has_no_access-2.result.now
          c.has_no_access-in-Minus.result c.has_no_access-then-has_no_access-2.result
          (ap has_no_access c.in-Minus.is ∙ none-Minus c.in-Minus.a c.in-Minus.b) c.get-in-Minus.ensures c.get-then-has_no_access-2.ensures
          c.has_no_access-in-Minus.ensures.value c.if-has_no_access-2.true c.has_no_access-then-has_no_access-2.ensures.value;
    }

pub returns-then-has_no_access-3 : goal.returns-then-has_no_access-3
returns-then-has_no_access-3 t c =
    record {
      value = and_then has_no_access c.args.expr.now c.in-Times.a c.in-Times.b c.get-in-Times.result.now c.get-then-has_no_access-3.result.now
          c.has_no_access-in-Times.result c.has_no_access-then-has_no_access-3.result
          (ap has_no_access c.in-Times.is ∙ none-Times c.in-Times.a c.in-Times.b) c.get-in-Times.ensures c.get-then-has_no_access-3.ensures
          c.has_no_access-in-Times.ensures.value c.if-has_no_access-3.true c.has_no_access-then-has_no_access-3.ensures.value;
    }
