use Rattle.std.proofs.Common.{◌∷◌, ◌++◌, [], ℕ, List, get_or, ap, sym, ◌∙◌, arith}
use Rattle.std.proofs.lemmas.List.{take_more, take_more_set, length-set}
use Rattle.dt_model.proofs.packed_rows.padded.Goals as goal

pub loop-i-preserved : goal.loop-i-preserved
loop-i-preserved g c =
    let whole = c.loop-i.invariant.1 in
    let y : ℕ = get_or c.args.numbers.now c.loop-i.i 0 in (
      take_more_set c.loop-i.row c.loop-i.i y (omega arith) ∙ ap (λ (t : List ℕ). t ++ y ∷ []) c.loop-i.invariant.0
          ∙ sym (take_more c.args.numbers.now c.loop-i.i 0 c.loop-i-test.true),
      length-set c.loop-i.row c.loop-i.i y ∙ whole,
    )
