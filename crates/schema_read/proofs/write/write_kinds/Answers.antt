use Rattle.std.proofs.Common.{take}
use Rattle.std.specs.List.{flat_map}
use Rattle.schema_read.specs.Canonical.{kind_text}
use Rattle.schema_read.proofs.WriteLemmas.{Extends-more}
use Rattle.schema_read.proofs.write.write_kinds.Goals as goal

pub returns-in-Err-clause-err : goal.returns-in-Err-clause-err
returns-in-Err-clause-err c =
    Extends-more c.args.into.now.items c.loop-kind.into.items c.write_kind.new.into.items (flat_map kind_text (take c.loop-kind.kind-index c.args.kinds.now))
    c.loop-kind.invariant c.in-Err.ensures.err
