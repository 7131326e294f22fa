use Rattle.std.proofs.Common.{◌≡◌, ◌++◌, ◌∷◌, drop}
use Rattle.std.specs.List.{flat_map}
use Rattle.index_read.specs.Canonical.{name_at, names_text}
use Rattle.index_read.proofs.write.write_names.Given as goal

abbrev pub invariant-loop-variable : goal.invariant-loop-variable
invariant-loop-variable l =
    l.into.items ++ flat_map (λ w. 44 ∷ name_at l.vars.items w) (drop l.variable-index l.more)
    ≡ l.fn.into.items ++ names_text l.vars.items l.list
