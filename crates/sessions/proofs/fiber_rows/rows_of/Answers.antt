use Rattle.std.proofs.Common.{◌≡◌, ◌≤◌, ◌<◌, ◌+◌, ℕ, arith, ap, sym, subst}
use Rattle.std.proofs.lemmas.Grind.{common_steps}
use Rattle.dt_model.specs.Tensors.{first_latch, latches_of_tensor}
use Rattle.sessions.proofs.FiberTables.{IsTableBelow, IsTableBelow-first, IsTableBelow-next, IsTableBelow-all}
use Rattle.sessions.proofs.LatchNumbers.{first_latch-sum, latches_of_tensor-at, is_latch_of-range}
use Rattle.sessions.proofs.fiber_rows.rows_of.Goals as goal

pub loop-latch-init : goal.loop-latch-init
loop-latch-init g c =
    let d = c.args.decls.now in
    let first : c.total_latches-first.result ≡ first_latch d c.args.tensor =
    first_latch-sum d c.as_slice-tensors.result.now c.args.tensor c.total_latches-first.result c.as_slice-tensors.ensures.value
    (grind (arith, common_steps)) in (
      omega arith,
      omega arith,
      λ m are. subst (λ k. IsTableBelow d m c.args.tensor k c.new-rows.result) (sym first)
          (subst (λ rows. IsTableBelow d m c.args.tensor (first_latch d c.args.tensor) rows) (sym c.new-rows.ensures.value)
          (IsTableBelow-first d m c.args.tensor)),
    )

pub loop-latch-preserved : goal.loop-latch-preserved
loop-latch-preserved g c =
    let d = c.args.decls.now in
    let x = c.index-tensors-tensor.result in
    let k : ℕ = c.loop-latch.latch in
    let inv = c.loop-latch.invariant in
    let first : c.total_latches-first.result ≡ first_latch d c.args.tensor =
    first_latch-sum d c.as_slice-tensors.result.now c.args.tensor c.total_latches-first.result c.as_slice-tensors.ensures.value (grind (arith, common_steps)) in
    let many : x.latches ≡ latches_of_tensor d c.args.tensor =
    latches_of_tensor-at d c.as_slice-tensors.result.now c.args.tensor x c.as_slice-tensors.ensures.value (grind (arith, common_steps))
    c.index-tensors-tensor.is in
    let test = c.loop-latch-test.true in
    let item = ap (λ y. y.latches) c.index-tensors-tensor.is in
    let begins = inv.0 in
    let low : first_latch d c.args.tensor ≤ k = omega (arith, first, begins) in
    let high : k < first_latch d c.args.tensor + latches_of_tensor d c.args.tensor = omega (arith, first, many, test, item) in (
      omega arith,
      omega arith,
      λ m are.
          let here = is_latch_of-range d c.args.tensor k low high in
          let a = c.in_ok-add_store.ensures.ok (are.there k here) in
          IsTableBelow-next d m c.args.tensor k c.loop-latch.rows c.add_store.new.rows a.0 c.requires.declared low high (are.fiber k a.0 here a.1) a.2
          (inv.2 m are),
    )

pub returns : goal.returns
returns g c =
    let d = c.args.decls.now in
    let x = c.index-tensors-tensor.result in
    let inv = c.loop-latch.invariant in
    let first : c.total_latches-first.result ≡ first_latch d c.args.tensor =
    first_latch-sum d c.as_slice-tensors.result.now c.args.tensor c.total_latches-first.result c.as_slice-tensors.ensures.value (grind (arith, common_steps)) in
    let many : x.latches ≡ latches_of_tensor d c.args.tensor =
    latches_of_tensor-at d c.as_slice-tensors.result.now c.args.tensor x c.as_slice-tensors.ensures.value (grind (arith, common_steps))
    c.index-tensors-tensor.is in
    let test = c.loop-latch-test.false in
    let item = ap (λ y. y.latches) c.index-tensors-tensor.is in
    let most = inv.1 in
    let end : c.loop-latch.latch ≡ first_latch d c.args.tensor + latches_of_tensor d c.args.tensor = omega (arith, first, many, test, most, item) in
    record {
      value = λ m are. IsTableBelow-all d m c.args.tensor c.loop-latch.rows c.requires.decls c.requires.declared
          (subst (λ n. IsTableBelow d m c.args.tensor n c.loop-latch.rows) end (inv.2 m are));
    }
