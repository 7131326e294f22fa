use Rattle.std.proofs.Common.{◌≡◌, ◌+◌, arith, subst}
use Rattle.dt_model.specs.Runs.{base_of}
use Rattle.dt_model.specs.Tensors.{first_latch}
use Rattle.sessions.specs.Loading.{AreFibersBelow, IsCutAt}
use Rattle.sessions.proofs.LoadingLemmas.{IsCutAt-first}
use Rattle.sessions.proofs.loading.open_fibers.Goals as goal

pub loop-fiber-init : goal.loop-fiber-init
loop-fiber-init c =
    let w = c.args.world.now in
    let first = first_latch w.decls c.args.tensor in
    let none : first ≡ first + 0 = omega arith in (
      subst (λ n. IsCutAt w.decls c.args.tensor n c.args.rows.now 0) none (IsCutAt-first w.decls c.args.tensor c.args.rows.now),
      subst (λ n. AreFibersBelow w.decls (base_of w) n c.args.stores.now.items) none c.requires.stores,
    )
