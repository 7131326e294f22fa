use Rattle.sample_world.specs.Sample.{sample_world}
use Rattle.std.proofs.Common.{sym, arith}
use Rattle.std.proofs.lemmas.Grind.{common_steps}
use Rattle.sample_world.proofs.CellsLemmas.{generated-none}
use Rattle.sample_world.proofs.worlds.world_of.Goals as goal

pub add_lines-requires-clause-given : goal.add_lines-requires-clause-given
add_lines-requires-clause-given c = sym generated-none

pub returns : goal.returns
unfolding sample_world
returns c = grind (arith, common_steps)
