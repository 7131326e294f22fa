use Rattle.std.proofs.Common.{sym, ap, ◌∙◌}
use Rattle.script_read.specs.Readings.{each_after}
use Rattle.script_read.specs.Scripts.{numbered_verdict}
use Rattle.script_read.proofs.ScriptsLemmas.{IsSoundScript-script_of}
use Rattle.script_read.proofs.scripts.read_script.Goals as goal

pub returns-clause-sound : goal.returns-clause-sound
returns-clause-sound c = IsSoundScript-script_of c.args.decls.now c.args.most c.args.text.now c.loop-line.verdicts
    (sym (ap (each_after (numbered_verdict c.args.decls.now c.args.most) c.loop-line.verdicts) (sym c.in_default.ensures.steps.0) ∙ c.loop-line.invariant.left))
