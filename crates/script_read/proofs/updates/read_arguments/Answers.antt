use Rattle.std.proofs.Common.{sym, subst, arith}
use Rattle.script_read.specs.LineFaults.{Gives}
use Rattle.script_read.proofs.UpdatesLemmas.{written_arguments-last}
use Rattle.script_read.proofs.updates.read_arguments.Goals as goal

pub returns-in-len1-up-clause-reads : goal.returns-in-len1-up-clause-reads
returns-in-len1-up-clause-reads c = subst (λ r. Gives r c.read_both.result) (sym (written_arguments-last c.args.end c.args.words.now _ (omega arith)))
    c.read_both.ensures.reads
