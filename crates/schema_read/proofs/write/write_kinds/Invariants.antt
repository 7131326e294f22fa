use Rattle.std.proofs.Common.{◌≡◌, ◌++◌, take}
use Rattle.std.specs.List.{flat_map}
use Rattle.schema_read.specs.Canonical.{kind_text}
use Rattle.schema_read.proofs.write.write_kinds.Given as goal

abbrev pub invariant-loop-kind : goal.invariant-loop-kind
invariant-loop-kind l = l.into.items ≡ l.fn.into.items ++ flat_map kind_text (take l.kind-index l.kinds)
