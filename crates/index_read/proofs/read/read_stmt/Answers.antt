use Rattle.index_read.proofs.Answering.{answer_reads, answer_gives, answer_small, answer_value}
use Rattle.index_read.proofs.read.read_stmt.Goals as goal

pub returns : goal.returns
returns c =
    let text = c.args.text.now in
    let reads = answer_reads text c.statement.result c.statement.ensures.fault c.statement.ensures.value in
    record {
      reads = reads;
      only = answer_gives text c.statement.result reads;
      fault = c.statement.ensures.fault;
      within = c.statement.ensures.within;
      value = answer_value text c.statement.result c.statement.ensures.fault c.statement.ensures.value;
      small = answer_small text c.statement.result c.statement.ensures.fault c.statement.ensures.value reads;
    }
