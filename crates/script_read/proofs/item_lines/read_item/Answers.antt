use Rattle.std.proofs.Common.{sym, arith}
use Rattle.script_read.proofs.ManifestLinesLemmas.{item_line-other}
use Rattle.script_read.proofs.item_lines.read_item.Goals as goal

pub returns-in_default : goal.returns-in_default
returns-in_default c = record {
  value = sym (item_line-other c.args.words.now (λ e. omega (arith, e)) (λ e. omega (arith, e)) (λ e. omega (arith, e))
      (λ e. omega (arith, e)) (λ e. omega (arith, e)) (λ e. omega (arith, e)) (λ e. omega (arith, e)));
}
