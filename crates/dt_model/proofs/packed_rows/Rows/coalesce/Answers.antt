use Rattle.std.proofs.Common.{◌∙◌}
use Rattle.dt_model.proofs.GatheringLemmas.{total_at-gathered, total_at-IsPermutation, All-gathered, IsAscending-gathered}
use Rattle.dt_model.proofs.packed_rows.Rows.coalesce.Goals as goal

pub returns-clause-ascending : goal.returns-clause-ascending
returns-clause-ascending g c = rw c.gather.ensures.value (IsAscending-gathered c.sort.new.self.pairs c.sort.ensures.sorted)

pub returns-clause-nonzero : goal.returns-clause-nonzero
returns-clause-nonzero g c = rw c.gather.ensures.value (All-gathered c.sort.new.self.pairs)

pub returns-clause-totals : goal.returns-clause-totals
returns-clause-totals g c = λ at. rw c.gather.ensures.value
    (total_at-gathered c.sort.new.self.pairs at ∙ total_at-IsPermutation c.args.self.now.pairs c.sort.new.self.pairs at c.sort.ensures.same)
