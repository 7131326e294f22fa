use Rattle.std.proofs.Common.{subst, sym}
use Rattle.std.specs.Str.{IsUtf8}
use Rattle.script_read.proofs.FileNamesLemmas.{utf8-from_name}
use Rattle.script_read.proofs.file_names.FileName.text.Goals as goal

pub unreachable-requires : goal.unreachable-requires
unreachable-requires c = c.in-Err.ensures.cases.0 (subst IsUtf8 (sym c.as_slice.ensures.value) (utf8-from_name c.self.inside.bytes.items c.self.invariant))
