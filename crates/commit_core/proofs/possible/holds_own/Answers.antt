use Rattle.std.proofs.Common.{◌∙◌, ap}
use Rattle.std.specs.Prelude.{slice_index, nat_le, ◌||◌, ◌==◌}
use Rattle.dt_model.specs.Latches.{latch_of_cell}
use Rattle.commit_core.proofs.EventsLemmas.{holds-get, holds-batch}
use Rattle.commit_core.proofs.possible.holds_own.Goals as goal

pub returns-in-Get : goal.returns-in-Get
returns-in-Get c = record {
  value = rw c.in-Get.is (c.holds_latch.ensures.value ∙ ap (λ l. nat_le c.args.end l
      || slice_index c.args.holders.now l == c.args.session) c.latch_of.ensures.value
      ∙ holds-get (slice_index c.args.holders.now) c.args.session (latch_of_cell c.args.decls.now c.in-Get.cell) c.args.end);
}

pub returns-in-Batch : goal.returns-in-Batch
returns-in-Batch c = record {
  value = rw c.in-Batch.is (rw c.as_slice.ensures.value at c.holds_updates.ensures.value
      ∙ holds-batch c.args.decls.now (slice_index c.args.holders.now) c.args.session c.args.end c.in-Batch.updates);
}

pub returns-in-Query : goal.returns-in-Query
returns-in-Query c = record { value = rw c.in-Query.is (rw c.get.ensures at c.holds_tensors.ensures.value) }
