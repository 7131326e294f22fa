use Rattle.schema_read.proofs.Answering.{answer_reads, answer_gives, answer_small, answer_linked}
use Rattle.schema_read.proofs.read.read_schemas.Goals as goal

pub returns : goal.returns
returns c =
    let text = c.args.text.now in
    let reads = answer_reads text c.read_tokens.result c.read_tokens.ensures.value in
    record {
      reads = reads;
      only = answer_gives text c.read_tokens.result reads;
      value = c.read_tokens.ensures.value;
      small = answer_small text c.read_tokens.result reads;
      linked = answer_linked text c.read_tokens.result reads;
    }
