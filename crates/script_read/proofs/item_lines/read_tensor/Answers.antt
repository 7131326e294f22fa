use Rattle.std.proofs.Common.{sym, ◌∙◌}
use Rattle.script_read.proofs.ManifestLinesLemmas.{tensor_line_at}
use Rattle.script_read.proofs.item_lines.read_tensor.Goals as goal

pub returns : goal.returns
returns c = record {
  value = c.tensor_words.ensures.value ∙ sym
      (tensor_line_at c.args.order c.args.words.now _ c.requires.some c.requires.few c.requires.count);
}
