use Rattle.script_read.proofs.CallsLemmas.{written_query-fault}
use Rattle.script_read.proofs.calls.read_query.Goals as goal

pub returns-in-Err-clause-reads : goal.returns-in-Err-clause-reads
returns-in-Err-clause-reads c = written_query-fault c.args.before c.args.line.now _ c.in-Err.fault c.stmt_fault.result c.rest_behind.ensures.value
    c.in-Err.ensures.value c.stmt_fault.ensures.value
