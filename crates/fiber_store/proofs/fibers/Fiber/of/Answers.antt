use Rattle.std.proofs.Common.{◌≡◌, get_or, ap, sym, ◌∙◌, refl}
use Rattle.dt_model.proofs.WorldsLemmas.{tensor_is_valid_at}
use Rattle.fiber_store.proofs.TensorsLemmas.{has_mode, has_few_modes, has_dimension, has_latch, looked_up}
use Rattle.fiber_store.proofs.fibers.Fiber.of.Goals as goal

-- the tensor that the code looks at is the declared one
pub bounds-as_slice-0 : goal.bounds-as_slice-0
bounds-as_slice-0 c =
    let x = c.index-as_slice-tensor.result in
    let same : get_or c.args.decls.now.tensors c.args.tensor x ≡ x =
    ap (λ ts. get_or ts c.args.tensor x) (sym c.as_slice.ensures.value) ∙ sym c.index-as_slice-tensor.is in
    let valid = tensor_is_valid_at c.args.decls.now c.args.tensor x c.requires.valid c.requires.declared same in
    rw c.as_slice-2.ensures.value (has_mode c.args.decls.now x valid)

pub width_in-requires-clause-some : goal.width_in-requires-clause-some
width_in-requires-clause-some c =
    let x = c.index-as_slice-tensor.result in
    let same : get_or c.args.decls.now.tensors c.args.tensor x ≡ x =
    ap (λ ts. get_or ts c.args.tensor x) (sym c.as_slice.ensures.value) ∙ sym c.index-as_slice-tensor.is in
    let valid = tensor_is_valid_at c.args.decls.now c.args.tensor x c.requires.valid c.requires.declared same in
    rw c.as_slice-2.ensures.value (has_dimension c.args.decls.now x valid)

pub width_in-requires-clause-latched : goal.width_in-requires-clause-latched
width_in-requires-clause-latched c =
    let x = c.index-as_slice-tensor.result in
    let same : get_or c.args.decls.now.tensors c.args.tensor x ≡ x =
    ap (λ ts. get_or ts c.args.tensor x) (sym c.as_slice.ensures.value) ∙ sym c.index-as_slice-tensor.is in
    has_latch c.args.decls.now x (tensor_is_valid_at c.args.decls.now c.args.tensor x c.requires.valid c.requires.declared same)

pub returns-clause-value : goal.returns-clause-value
returns-clause-value c =
    let x = c.index-as_slice-tensor.result in
    let same : get_or c.args.decls.now.tensors c.args.tensor x ≡ x =
    ap (λ ts. get_or ts c.args.tensor x) (sym c.as_slice.ensures.value) ∙ sym c.index-as_slice-tensor.is in
    let found = looked_up c.args.decls.now c.args.tensor x c.requires.declared same in
    rw (c.width_in.ensures.value, c.copy.ensures.value, c.as_slice-2.ensures.value, found) refl

pub returns-clause-modes : goal.returns-clause-modes
returns-clause-modes c =
    let x = c.index-as_slice-tensor.result in
    let same : get_or c.args.decls.now.tensors c.args.tensor x ≡ x =
    ap (λ ts. get_or ts c.args.tensor x) (sym c.as_slice.ensures.value) ∙ sym c.index-as_slice-tensor.is in
    let valid = tensor_is_valid_at c.args.decls.now c.args.tensor x c.requires.valid c.requires.declared same in
    rw c.copy.ensures.value (has_mode c.args.decls.now x valid, has_few_modes c.args.decls.now x valid)
