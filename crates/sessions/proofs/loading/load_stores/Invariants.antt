use Rattle.dt_model.specs.Runs.{base_of}
use Rattle.dt_model.specs.Tensors.{first_latch}
use Rattle.sessions.specs.Loading.{AreFibersBelow}
use Rattle.sessions.proofs.loading.load_stores.Given as goal

abbrev pub invariant-loop-tensor : goal.invariant-loop-tensor
invariant-loop-tensor l = AreFibersBelow l.world.decls (base_of l.world) (first_latch l.world.decls l.tensor) l.stores.items
