use Rattle.std.proofs.Common.{◌+◌}
use Rattle.dt_model.specs.Runs.{base_of}
use Rattle.dt_model.specs.Tensors.{first_latch}
use Rattle.sessions.specs.Loading.{AreFibersBelow, IsCutAt}
use Rattle.sessions.proofs.loading.open_fibers.Given as goal

abbrev pub invariant-loop-fiber : goal.invariant-loop-fiber
invariant-loop-fiber l = IsCutAt l.world.decls l.tensor (first_latch l.world.decls l.tensor + l.fiber) l.rows l.from
    × AreFibersBelow l.world.decls (base_of l.world) (first_latch l.world.decls l.tensor + l.fiber) l.stores.items
