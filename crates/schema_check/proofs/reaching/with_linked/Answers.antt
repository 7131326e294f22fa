use Rattle.std.proofs.Common.{◌≤◌, map, length, ap, ◌∙◌, arith}
use Rattle.std.proofs.lemmas.List.{take_all}
use Rattle.dt_model.specs.declared.declared_tensors.Kind.{Kind}
use Rattle.schema_check.specs.Reached.{and_linked}
use Rattle.schema_check.proofs.reaching.with_linked.Goals as goal

pub returns-clause-value : goal.returns-clause-value
returns-clause-value c =
    let past : length c.args.kinds.now ≤ c.loop-index.index = omega arith in
    λ set h. c.loop-index.invariant.1 set h
    ∙ ap (map (λ (k : Kind). and_linked c.args.kinds.now set k.name)) (take_all c.loop-index.index c.args.kinds.now past)
