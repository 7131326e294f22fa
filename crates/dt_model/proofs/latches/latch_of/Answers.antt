use Rattle.std.proofs.Common.{◌≡◌, ℕ, List, sum_by, take, arith, ap, sym, refl, ◌∙◌, get_or, Some}
use Rattle.std.specs.Prelude.{slice_get}
use Rattle.dt_model.specs.declared.declared_tensors.TensorDecl.{TensorDecl}
use Rattle.dt_model.proofs.VerdictsLemmas.{is_declared, is_in_range, found_at}
use Rattle.dt_model.proofs.WorldsLemmas.{has_mode_at, has_latch_at}
use Rattle.dt_model.proofs.TensorsLemmas.{first_latch-le}
use Rattle.dt_model.proofs.latches.latch_of.Goals as goal

-- the tensor that the code looks at is the declared one
declared : (tensors slice : List TensorDecl) (t : ℕ) (x : TensorDecl) → x ≡ get_or slice t x → slice ≡ tensors → get_or tensors t x ≡ x
declared tensors slice t x is same = sym (is ∙ ap (λ ts. get_or ts t x) same)

pub fiber_in-requires-clause-latched : goal.fiber_in-requires-clause-latched
fiber_in-requires-clause-latched c = has_latch_at c.args.decls.now c.args.cell.now c.index-tensors-cell.result c.requires.valid c.requires.in_range
    (declared c.args.decls.now.tensors _ c.args.cell.now.tensor c.index-tensors-cell.result c.index-tensors-cell.is c.as_slice-tensors.ensures.value)

pub fiber_in-requires-clause-leads : goal.fiber_in-requires-clause-leads
fiber_in-requires-clause-leads c = has_mode_at c.args.decls.now c.args.cell.now c.index-tensors-cell.result c.requires.valid c.requires.in_range
    (declared c.args.decls.now.tensors _ c.args.cell.now.tensor c.index-tensors-cell.result c.index-tensors-cell.is c.as_slice-tensors.ensures.value)

pub fiber_in-requires-clause-in_range : goal.fiber_in-requires-clause-in_range
fiber_in-requires-clause-in_range c = is_in_range c.args.decls.now c.args.cell.now c.index-tensors-cell.result c.requires.in_range
    (declared c.args.decls.now.tensors _ c.args.cell.now.tensor c.index-tensors-cell.result c.index-tensors-cell.is c.as_slice-tensors.ensures.value)

pub returns-clause-value : goal.returns-clause-value
returns-clause-value c =
    let found : slice_get c.args.decls.now.tensors c.args.cell.now.tensor ≡ Some c.index-tensors-cell.result =
    found_at c.args.decls.now c.args.cell.now c.index-tensors-cell.result c.requires.in_range
    (declared c.args.decls.now.tensors _ c.args.cell.now.tensor c.index-tensors-cell.result c.index-tensors-cell.is c.as_slice-tensors.ensures.value) in
    let first = c.total_latches.ensures.value in
    let fiber = c.fiber_in.ensures.value in
    rw (first, fiber, found, c.as_slice-tensors.ensures.value) refl

pub returns-clause-below : goal.returns-clause-below
returns-clause-below c =
    let part = first_latch-le c.args.decls.now c.args.cell.now.tensor c.index-tensors-cell.result
    (is_declared c.args.decls.now c.args.cell.now c.requires.in_range)
    (declared c.args.decls.now.tensors _ c.args.cell.now.tensor c.index-tensors-cell.result c.index-tensors-cell.is c.as_slice-tensors.ensures.value) in
    let first : c.total_latches.result ≡ sum_by (λ t. t.latches) (take c.args.cell.now.tensor c.args.decls.now.tensors) =
    c.total_latches.ensures.value
    ∙ ap (λ ts. sum_by {X = TensorDecl} (λ t. t.latches) (take c.args.cell.now.tensor ts)) c.as_slice-tensors.ensures.value in
    let fiber = c.fiber_in.ensures.below in
    omega (arith, part, first, fiber)
