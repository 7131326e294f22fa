use Rattle.std.proofs.Common.{◌<◌, length, ap, ◌∙◌, arith, ◌∷◌, [], length-append}
use Rattle.dt_model.proofs.WorldsLemmas.{as_many_bases}
use Rattle.commit_core.proofs.LoadedLines.{base_has_order, all_orders-push, base_more}
use Rattle.commit_core.proofs.tensors.load_base.Goals as goal

pub load-requires-clause-same : goal.load-requires-clause-same
load-requires-clause-same c = base_has_order c.args.world.now c.as_slice-base.result.now c.as_slice-decls.result.now c.loop-tensor.tensor c.len.result
    c.index-base-tensor.result c.index-decls-tensor.result
    c.requires.valid c.as_slice-base.ensures.value c.as_slice-decls.ensures.value c.loop-tensor-test.true c.index-base-tensor.is c.len.ensures.value

pub loop-tensor-preserved : goal.loop-tensor-preserved
loop-tensor-preserved c =
    let w = c.args.world.now in
    let list = c.in_ok-list.list in
    let grew = c.in_ok-push.ensures.items in
    let k = c.loop-tensor.tensor in
    let within : k < length c.as_slice-decls.result.now = omega (
      arith,
      as_many_bases w c.requires.valid,
      ap length c.as_slice-decls.ensures.value,
      ap length c.as_slice-base.ensures.value,
      c.loop-tensor-test.true,
    ) in (
      omega (arith, ap length grew, length-append c.loop-tensor.tensors.items (list ∷ []), c.loop-tensor.invariant.0),
      rw grew (all_orders-push w c.loop-tensor.tensors.items list c.as_slice-decls.result.now k c.index-decls-tensor.result c.as_slice-decls.ensures.value
          within c.loop-tensor.invariant.1
          (c.in_ok-list.ensures.order ∙ c.len.ensures.value)),
      base_more c.loop-tensor.tensors.items c.push.new.self.items list k c.as_slice-base.result.now c.index-base-tensor.result _ c.loop-tensor-test.true
          c.index-base-tensor.is c.loop-tensor.invariant.0 grew
          c.in_ok-list.ensures.value c.loop-tensor.invariant.2,
    )
