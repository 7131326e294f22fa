use Rattle.std.proofs.Common.{ap, ◌∙◌}
use Rattle.sums.proofs.RowsLemmas.{if_both}
use Rattle.commit_core.specs.Cells.{without_zeros}
use Rattle.fiber_store.proofs.StoresLemmas.{without_zeros-sound}
use Rattle.fiber_store.proofs.parts.StoreParts.pairs.Goals as goal

pub returns-clause-value : goal.returns-clause-value
returns-clause-value c =
    if_both c.nonzeros_of.result (λ pairs is small d w sound. without_zeros-sound d w c.args.self.now pairs sound (is
    ∙ ap (λ s. without_zeros s.cells) c.self.view_is) small) c.nonzeros_of.ensures.value c.nonzeros_of.ensures.small
