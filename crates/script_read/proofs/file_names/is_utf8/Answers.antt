use Rattle.script_read.proofs.FileNamesLemmas.{utf8-true, utf8-false}
use Rattle.script_read.proofs.file_names.is_utf8.Goals as goal

pub returns-in-Ok : goal.returns-in-Ok
returns-in-Ok c = record { value = utf8-true c.args.bytes.now c.in-Ok.ensures.cases.1 }

pub returns-in-Err : goal.returns-in-Err
returns-in-Err c = record { value = utf8-false c.args.bytes.now c.in-Err.ensures.cases.0 }
