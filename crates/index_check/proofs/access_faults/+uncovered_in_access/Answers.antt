use Rattle.std.proofs.Common.{◌∙◌, not}
use Rattle.std.specs.Prelude.{◌&&◌}
use Rattle.dt_model.specs.declared.replies.Refusal.TheVariants as because
use Rattle.dt_model.specs.Statements.{contains_number}
use Rattle.dt_model.specs.Refusals.{covers, nth_name}
use Rattle.index_check.proofs.Own.{in_first, in_others}
use Rattle.index_check.proofs.access_faults.+uncovered_in_access.Goals as goal

pub returns-in-Some : goal.returns-in-Some
returns-in-Some t c = record {
  value = in_first (λ v. because.Uncovered c.args.term (nth_name c.args.names.now v))
      (λ v. not (contains_number c.args.left.now v) && not (covers c.args.expr.now v)) c.args.accesses.now c.access-item.result c.as_slice.result.now
      c.uncovered_own.result c.in-Some.fault
      c.in-len1-up.len_at_least c.access-item.is (c.as_slice.ensures.value ∙ c.vars.ensures.value) c.uncovered_own.ensures.value c.in-Some.is;
}

pub returns-in-None : goal.returns-in-None
returns-in-None t c = record {
  value = in_others (λ v. because.Uncovered c.args.term (nth_name c.args.names.now v))
      (λ v. not (contains_number c.args.left.now v) && not (covers c.args.expr.now v)) c.args.accesses.now c.access-item.result c.as_slice.result.now
      c.uncovered_own.result c.uncovered_in_access.result
      c.in-len1-up.len_at_least c.access-item.is (c.as_slice.ensures.value ∙ c.vars.ensures.value) c.uncovered_own.ensures.value c.in-None.is
      c.uncovered_in_access.ensures.value;
}
