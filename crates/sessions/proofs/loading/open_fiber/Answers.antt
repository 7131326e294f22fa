use Rattle.std.proofs.Common.{◌≡◌, ◌+◌, ◌∙◌, arith, subst}
use Rattle.dt_model.specs.Runs.{base_of}
use Rattle.dt_model.specs.Tensors.{first_latch}
use Rattle.dt_model.proofs.WorldsLemmas.{latches_are_few}
use Rattle.sessions.specs.Loading.{IsRunOf}
use Rattle.sessions.proofs.LatchNumbers.{latches_below}
use Rattle.sessions.proofs.LoadingLemmas.{IsCutAt-next, run_ascends, run_content, AreFibersBelow-push, IsInside-base_of}
use Rattle.sessions.proofs.loading.open_fiber.Goals as goal

pub overflow_cast-latch : goal.overflow_cast-latch
overflow_cast-latch c =
    let w = c.args.world.now in
    let few = latches_are_few w.decls c.requires.world.decls in
    let below = latches_below w.decls c.args.tensor c.requires.declared in
    let latched = c.requires.latched in
    let count = c.requires.stores.count in
    omega (arith, few, below, latched, count)

pub open-requires-clause-ascending : goal.open-requires-clause-ascending
open-requires-clause-ascending c =
    run_ascends c.args.rows.now c.take_run.new.run c.args.from c.in_ok-to.to c.requires.rows.ascending c.in_ok-to.ensures.run.cut

pub returns-clause-to : goal.returns-clause-to
returns-clause-to c =
    let w = c.args.world.now in
    let at : c.len-latch.result ≡ first_latch w.decls c.args.tensor + c.args.fiber = let count = c.requires.stores.count in omega (arith, count) in
    let run = subst (λ l. IsRunOf w.decls c.args.tensor l c.args.rows.now c.args.from c.in_ok-to.to c.take_run.new.run) at c.in_ok-to.ensures.run in
    IsCutAt-next w.decls (base_of w) c.args.tensor c.args.fiber c.args.rows.now c.take_run.new.run c.args.from c.in_ok-to.to c.requires.rows c.requires.from run

pub returns-clause-stores : goal.returns-clause-stores
returns-clause-stores c =
    let w = c.args.world.now in
    let at : c.len-latch.result ≡ first_latch w.decls c.args.tensor + c.args.fiber = let count = c.requires.stores.count in omega (arith, count) in
    let run = subst (λ l. IsRunOf w.decls c.args.tensor l c.args.rows.now c.args.from c.in_ok-to.to c.take_run.new.run) at c.in_ok-to.ensures.run in
    AreFibersBelow-push w.decls (base_of w) (first_latch w.decls c.args.tensor + c.args.fiber) c.args.stores.now.items c.push.new.self.items c.in_ok-store.store
    c.requires.stores
    (record {
      sound = c.in_ok-store.ensures.sound;
      content = c.in_ok-store.ensures.content
          ∙ run_content w.decls (base_of w) c.args.tensor c.args.fiber c.args.rows.now c.take_run.new.run c.args.from c.in_ok-to.to c.requires.rows
          c.requires.from run (IsInside-base_of w c.requires.world) c.requires.world.decls c.requires.declared c.requires.latched;
    })
    c.in_ok-push.ensures.items
