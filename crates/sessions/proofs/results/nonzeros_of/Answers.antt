use Rattle.std.proofs.lemmas.Result.{IfOk-weaker}
use Rattle.dt_model.specs.Runs.{contents_after}
use Rattle.sessions.proofs.HeldTablesLemmas.{AreFibersFor-closed}
use Rattle.sessions.proofs.results.nonzeros_of.Goals as goal

pub returns : goal.returns
returns c = record {
  value = IfOk-weaker c.rows_of.result _ _ (λ pairs is w seen same are. is (contents_after w seen) (AreFibersFor-closed c.args.decls.now w seen
      c.args.closed.now.stores.items c.args.tensor c.requires.declared same are)) c.rows_of.ensures.value;
}
