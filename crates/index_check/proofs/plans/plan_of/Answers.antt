use Rattle.std.proofs.Common.{◌++◌, true, length, ap, ◌∙◌, arith}
use Rattle.dt_model.specs.Statements.{terms_under}
use Rattle.index_check.proofs.Known.{small_parts}
use Rattle.index_check.proofs.plans.plan_of.Goals as goal

pub kernels_of-requires-clause-few : goal.kernels_of-requires-clause-few
kernels_of-requires-clause-few c =
    let s = c.args.stmt.now in
    let terms = ap length (c.as_slice.ensures.value ∙ c.in_ok-add_terms.ensures.ok ∙ ap (λ l. l ++ terms_under true s.right) c.new-terms.ensures.items) in
    let few = (small_parts s c.requires.small).terms in
    omega (arith, terms, few)
