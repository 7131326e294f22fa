use Rattle.schema_read.proofs.RoundTrip.{ReadsAs-canonical_text, ReadsAs-canonical_texts}
use Rattle.schema_read.proofs.write.write_schema.Goals as goal

pub returns-in-Ok-clause-reads_back : goal.returns-in-Ok-clause-reads_back
returns-in-Ok-clause-reads_back c text front behind h = ReadsAs-canonical_text text front behind c.args.schema.now h

pub returns-in-Ok-clause-all_read_back : goal.returns-in-Ok-clause-all_read_back
returns-in-Ok-clause-all_read_back c text schemas h = ReadsAs-canonical_texts text schemas h

pub returns-in-Err-clause-reads_back : goal.returns-in-Err-clause-reads_back
returns-in-Err-clause-reads_back c text front behind h = ReadsAs-canonical_text text front behind c.args.schema.now h

pub returns-in-Err-clause-all_read_back : goal.returns-in-Err-clause-all_read_back
returns-in-Err-clause-all_read_back c text schemas h = ReadsAs-canonical_texts text schemas h
