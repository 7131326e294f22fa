use Rattle.std.proofs.Common.{◌≡◌, map, take, nat_eq}
use Rattle.std.specs.Cmp.Lexicographic.{pointwise}
use Rattle.dt_model.specs.declared.declared_tensors.Kind.{Kind}
use Rattle.schema_check.proofs.reaching.named_marks.Given as goal

abbrev pub invariant-loop-kind : goal.invariant-loop-kind
invariant-loop-kind l = l.marks.items ≡ map (λ (k : Kind). pointwise nat_eq l.name k.name) (take l.kind-index l.kinds)
