use Rattle.std.proofs.Common.{◌++◌, not, ap, ◌∙◌}
use Rattle.std.proofs.lemmas.Result.{on_ok_weaker}
use Rattle.dt_model.specs.Statements.{terms_under}
use Rattle.dt_model.proofs.StatementsLemmas.{terms_under-Plus, terms_under-Minus}
use Rattle.index_check.proofs.Joining.{grown}
use Rattle.index_check.proofs.terms.+add_terms.Goals as goal

pub returns-in_ok-add_terms-in-Plus : goal.returns-in_ok-add_terms-in-Plus
returns-in_ok-add_terms-in-Plus t c = record {
  ok = on_ok_weaker c.add_terms-in-Plus.result
      (λ e. grown c.args.list.now.items c.add_terms.new.list.items c.add_terms-in-Plus.new.list.items (terms_under c.args.added c.in-Plus.a)
      (terms_under c.args.added c.in-Plus.b) (terms_under c.args.added c.args.expr.now)
      (ap (terms_under c.args.added) c.in-Plus.is ∙ terms_under-Plus c.args.added c.in-Plus.a c.in-Plus.b) (c.in_ok-add_terms-in-Plus.ensures.ok
      ∙ ap (λ e. c.args.list.now.items ++ terms_under c.args.added e) c.get.ensures) (e
      ∙ ap (λ e. c.add_terms.new.list.items ++ terms_under c.args.added e) c.get-in-Plus.ensures)) c.add_terms-in-Plus.ensures.ok;
}

pub returns-in_ok-add_terms-in-Minus : goal.returns-in_ok-add_terms-in-Minus
returns-in_ok-add_terms-in-Minus t c = record {
  ok = on_ok_weaker c.add_terms-in-Minus-2.result
      (λ e. grown c.args.list.now.items c.add_terms-in-Minus.new.list.items c.add_terms-in-Minus-2.new.list.items (terms_under c.args.added c.in-Minus.a)
      (terms_under (not c.args.added) c.in-Minus.b) (terms_under c.args.added c.args.expr.now)
      (ap (terms_under c.args.added) c.in-Minus.is ∙ terms_under-Minus c.args.added c.in-Minus.a c.in-Minus.b) (c.in_ok-add_terms-in-Minus.ensures.ok
      ∙ ap (λ e. c.args.list.now.items ++ terms_under c.args.added e) c.get-in-Minus.ensures) (e
      ∙ ap (λ e. c.add_terms-in-Minus.new.list.items ++ terms_under (not c.args.added) e) c.get-in-Minus-2.ensures)) c.add_terms-in-Minus-2.ensures.ok;
}
