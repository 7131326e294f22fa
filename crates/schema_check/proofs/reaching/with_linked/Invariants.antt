use Rattle.std.proofs.Common.{◌≡◌, ℕ, Bool, List, length, map, take}
use Rattle.dt_model.specs.declared.declared_tensors.Kind.{Kind}
use Rattle.schema_check.specs.Reached.{and_linked}
use Rattle.schema_check.proofs.reaching.with_linked.Given as goal

abbrev pub invariant-loop-index : goal.invariant-loop-index
invariant-loop-index l = (length l.more.items ≡ l.index) × ((set : List ℕ → Bool) → l.marks ≡ map (λ (k : Kind). set k.name) l.kinds
    → l.more.items ≡ map (λ (k : Kind). and_linked l.kinds set k.name) (take l.index l.kinds))
