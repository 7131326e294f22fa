use Rattle.std.proofs.Common.{◌∙◌, ap, sym}
use Rattle.dt_model.proofs.RowLemmas.{pairs_after_set}
use Rattle.dt_model.proofs.packed_rows.Rows.set.Goals as goal

pub returns-clause-pairs : goal.returns-clause-pairs
returns-clause-pairs g c =
    pairs_after_set g.row.N c.self.inside.order c.args.at.now (record { at = c.padded.result; value = c.args.value }) c.self.inside.rows.items
    c.args.self.now.pairs c.args.index (c.requires.same ∙ sym (ap (λ s. s.order) c.self.view_is)) (rw c.as_slice.ensures.value at c.padded.ensures.front)
    (ap (λ s. s.pairs) c.self.view_is)
