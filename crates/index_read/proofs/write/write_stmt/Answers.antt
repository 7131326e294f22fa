use Rattle.index_read.proofs.RoundTrip.{ReadsAs-canonical_text}
use Rattle.index_read.proofs.write.write_stmt.Goals as goal

pub returns-in_err-write_text-clause-reads_back : goal.returns-in_err-write_text-clause-reads_back
returns-in_err-write_text-clause-reads_back c text read = ReadsAs-canonical_text text c.args.stmt.now read

pub returns-clause-reads_back : goal.returns-clause-reads_back
returns-clause-reads_back c text read = ReadsAs-canonical_text text c.args.stmt.now read
