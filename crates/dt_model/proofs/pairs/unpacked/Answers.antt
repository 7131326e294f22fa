use Rattle.std.proofs.Common.{◌++◌, ◌∷◌, [], ap, sym, ◌∙◌, List, ℕ}
use Rattle.dt_model.proofs.ListIndices.{take-next}
use Rattle.dt_model.proofs.pairs.unpacked.Goals as goal

pub loop-index-preserved : goal.loop-index-preserved
loop-index-preserved c =
    let pair : List ℕ × ℕ = (c.in-Some.at, c.in-Some.value) in
    c.in_ok-put_mixed-in-Some.ensures.ok ∙ ap (λ t. t ++ pair ∷ []) c.loop-index.invariant
    ∙ sym (take-next c.args.pairs.now.pairs c.loop-index.index pair (sym c.in-Some.ensures.value))
