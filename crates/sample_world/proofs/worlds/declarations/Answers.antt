use Rattle.sample_world.specs.Sample.{sample_decls}
use Rattle.std.proofs.Common.{arith}
use Rattle.std.proofs.lemmas.Grind.{common_steps}
use Rattle.sample_world.proofs.worlds.declarations.Goals as goal

pub returns : goal.returns
unfolding sample_decls
returns c = grind (arith, common_steps)
