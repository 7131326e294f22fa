use Rattle.std.proofs.Common.{ap, sym, ◌∙◌, length}
use Rattle.std.specs.Prelude.{slice_index_or}
use Rattle.dt_model.specs.Tensors.{dims_of}
use Rattle.fiber_store.proofs.FibersLemmas.{length-in_range}
use Rattle.fiber_store.proofs.parts.StoreParts.open.Goals as goal

-- the cells are in range, so they have the tensor's order
pub packed-requires-clause-same : goal.packed-requires-clause-same
packed-requires-clause-same c = λ k d l.
    length-in_range (dims_of c.args.decls.now c.args.tensor) (slice_index_or c.args.pairs.now k d).0 (c.requires.cells k d l).in_range
    ∙ ap (λ f. length f.dims) (sym c.of-fiber.ensures.value) ∙ sym c.len.ensures.value
