use Rattle.std.proofs.Common.{◌<◌, sym, ◌∙◌, length, get_or, arith, []}
use Rattle.std.proofs.lemmas.Option.{slice_get-get_or}
use Rattle.dt_model.proofs.ListIndices.{drop-next}
use Rattle.dt_model.proofs.pairs.PairsIteratorIterator.next.Goals as goal

pub returns-clause-steps : goal.returns-clause-steps
returns-clause-steps c =
    let pairs = c.self.inside.pairs.now in
    let index = c.self.inside.index in
    let within : index < length pairs = omega arith in
    let there = slice_get-get_or pairs index ([], 0) within in
    rw (c.get-next.ensures.value, there) (sym c.self.view_is ∙ drop-next pairs index (get_or pairs index ([], 0)) there)
