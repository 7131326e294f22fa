use Rattle.std.proofs.Common.{◌≡◌, ◌<◌, ◌+◌, ◌++◌, length, drop, arith, sym, ◌∙◌, subst}
use Rattle.std.specs.Prelude.{All}
use Rattle.fiber_store.specs.Stores.{IsInFiber}
use Rattle.sessions.proofs.LoadingLemmas.{run_ends, run_more, own_more, row_valid}
use Rattle.sessions.proofs.loading.take_run.Goals as goal

pub returns-then-latch_of-latch : goal.returns-then-latch_of-latch
returns-then-latch_of-latch c =
    let d = c.args.decls.now in
    let row = c.row_at-at.result in
    let test = c.loop-place-test.true in
    let many = c.len-place-end.ensures.value in
    let within : c.loop-place.place < length c.args.rows.now = omega (arith, test, many) in
    let inv = c.loop-place.invariant in
    record {
      run = record {
        order = inv.0;
        within = omega arith;
        cut = inv.1;
        own = inv.2;
        next = run_ends d c.args.tensor c.args.latch c.args.rows.now c.loop-place.place row within (c.row_at-at.ensures.value row)
            (λ e. c.if-latch_of-latch.true (c.latch_of.ensures.value ∙ e));
      };
    }

pub loop-place-preserved : goal.loop-place-preserved
loop-place-preserved c =
    let d = c.args.decls.now in
    let row = c.row_at-at.result in
    let test = c.loop-place-test.true in
    let many = c.len-place-end.ensures.value in
    let within : c.loop-place.place < length c.args.rows.now = omega (arith, test, many) in
    let inv = c.loop-place.invariant in
    let is = c.row_at-at.ensures.value row in
    let grew = c.in_ok-push.ensures.ok in (
      omega arith,
      subst (λ run. drop c.args.from c.args.rows.now ≡ run ++ drop (c.loop-place.place + 1) c.args.rows.now) (sym grew)
          (run_more c.args.rows.now c.loop-place.run c.args.from c.loop-place.place row within is inv.1),
      subst (λ run. All (λ p. IsInFiber d c.args.tensor c.args.latch p.0) run) (sym grew)
          (own_more d c.args.tensor c.args.latch c.args.rows.now c.loop-place.run c.loop-place.place row within is c.requires.in_range
          (sym c.latch_of.ensures.value ∙ c.if-latch_of-latch.false) inv.2),
    )

pub latch_of-requires-clause-in_range : goal.latch_of-requires-clause-in_range
latch_of-requires-clause-in_range c =
    let row = c.row_at-at.result in
    let test = c.loop-place-test.true in
    let many = c.len-place-end.ensures.value in
    let within : c.loop-place.place < length c.args.rows.now = omega (arith, test, many) in
    row_valid c.args.decls.now c.args.tensor c.args.rows.now c.loop-place.place row within (c.row_at-at.ensures.value row) c.requires.declared
    c.requires.in_range
