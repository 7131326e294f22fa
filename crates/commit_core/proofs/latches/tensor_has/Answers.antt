use Rattle.std.proofs.Common.{◌∙◌, ap, arith}
use Rattle.std.proofs.lemmas.Grind.{common_steps}
use Rattle.dt_model.specs.Latches.{is_latch_of}
use Rattle.commit_core.proofs.ValidScripts.{latch_here}
use Rattle.commit_core.proofs.latches.tensor_has.Goals as goal

pub returns-then-first-latch : goal.returns-then-first-latch
returns-then-first-latch c = record {
  value = latch_here c.args.decls.now c.as_slice-tensors.result.now c.in-Some.place c.args.latch
      c.total_latches-first.result c.index-tensors-place.result c.as_slice-tensors.ensures.value (grind (arith, common_steps)) (grind (arith, common_steps))
      c.if-first-latch.true ∙ ap (is_latch_of c.args.decls.now c.args.latch) c.in-Some.ensures.value;
}
