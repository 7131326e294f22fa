use Rattle.script_read.proofs.FileNamesLemmas.{name-from_utf8, always_named}
use Rattle.script_read.proofs.file_names.FileName.new.Goals as goal

pub unreachable-requires : goal.unreachable-requires
unreachable-requires c =
    always_named c.args.name.now c.as_bytes.result.now c.from_bytes.result c.as_bytes.ensures.value
    (name-from_utf8 c.args.name.now c.requires.length.some c.requires.length.within c.utf8.name) c.from_bytes.ensures.value c.in-None.is
