use Rattle.std.proofs.lemmas.Result.{IfOk-weaker}
use Rattle.std.specs.Prelude.{is_none}
use Rattle.dt_model.specs.Refusals.{statement_fault}
use Rattle.dt_model.specs.Verdicts.{is_small}
use Rattle.dt_model.proofs.Booleans.{both_true}
use Rattle.sessions.proofs.HeldTablesLemmas.{AreTablesOf-held, is_none-true}
use Rattle.sessions.proofs.held_tables.answer_of.Goals as goal

pub returns : goal.returns
returns c = record {
  value = IfOk-weaker c.evaluate.result _ _ (λ pairs answers m fibers holds. answers m (AreTablesOf-held c.args.decls.now m c.args.hands.now.items
      c.args.stmt.now
      c.add_held_tables.new.tables.entries c.in_ok-add_held_tables.ensures.tables c.in_ok-add_held_tables.ensures.has fibers holds)) c.evaluate.ensures.value;
}

pub evaluate-requires : goal.evaluate-requires
evaluate-requires c =
    let fault = statement_fault c.args.decls.now c.args.stmt.now in
    record { valid = is_none-true fault (both_true (is_small c.args.stmt.now) (is_none fault) c.requires.call).1 }
