use Rattle.std.proofs.Common.{◌≡◌, map}
use Rattle.dt_model.specs.declared.declared_tensors.Kind.{Kind}
use Rattle.schema_check.specs.Reached.{is_within}
use Rattle.schema_check.proofs.reaching.reached_marks.Given as goal

abbrev pub invariant-loop-round : goal.invariant-loop-round
invariant-loop-round l = l.marks.items ≡ map (λ (k : Kind). is_within l.schema l._round k.name) l.schema.kinds.items
