use Rattle.std.proofs.Common.{ap, ◌∙◌}
use Rattle.dt_model.specs.Refusals.{covers}
use Rattle.dt_model.proofs.RefusalsLemmas.{covers-Plus, covers-Minus, covers-Times}
use Rattle.index_check.proofs.Joining.{and_then, or_then}
use Rattle.index_check.proofs.terms.+covers.Goals as goal

pub returns-then-covers : goal.returns-then-covers
returns-then-covers t c =
    let v = c.args.var in
    record {
      value = and_then (λ e. covers e v) c.args.expr.now c.in-Plus.a c.in-Plus.b c.get.result.now c.get-then-covers.result.now c.covers.result
          c.covers-then-covers.result
          (ap (λ e. covers e v) c.in-Plus.is ∙ covers-Plus v c.in-Plus.a c.in-Plus.b) c.get.ensures c.get-then-covers.ensures c.covers.ensures.value
          c.if-covers.true c.covers-then-covers.ensures.value;
    }

pub returns-then-covers-2 : goal.returns-then-covers-2
returns-then-covers-2 t c =
    let v = c.args.var in
    record {
      value = and_then (λ e. covers e v) c.args.expr.now c.in-Minus.a c.in-Minus.b c.get-in-Minus.result.now c.get-then-covers-2.result.now
          c.covers-in-Minus.result c.covers-then-covers-2.result
          (ap (λ e. covers e v) c.in-Minus.is ∙ covers-Minus v c.in-Minus.a c.in-Minus.b) c.get-in-Minus.ensures c.get-then-covers-2.ensures
          c.covers-in-Minus.ensures.value c.if-covers-2.true c.covers-then-covers-2.ensures.value;
    }

pub returns-else-covers-3 : goal.returns-else-covers-3
returns-else-covers-3 t c =
    let v = c.args.var in
    record {
      value = or_then (λ e. covers e v) c.args.expr.now c.in-Times.a c.in-Times.b c.get-in-Times.result.now c.get-else-covers-3.result.now
          c.covers-in-Times.result c.covers-else-covers-3.result
          (ap (λ e. covers e v) c.in-Times.is ∙ covers-Times v c.in-Times.a c.in-Times.b) c.get-in-Times.ensures c.get-else-covers-3.ensures
          c.covers-in-Times.ensures.value c.if-covers-3.false c.covers-else-covers-3.ensures.value;
    }
