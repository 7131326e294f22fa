use Rattle.std.proofs.Common.{take, sym, ◌∙◌}
use Rattle.std.specs.List.{flat_map}
use Rattle.schema_read.proofs.write.write_pieces.Goals as goal

pub returns-in-Err-clause-err : goal.returns-in-Err-clause-err
returns-in-Err-clause-err c =
    (flat_map (λ p. p.now) (take c.loop-piece.piece-index c.args.pieces.now), sym (c.in-Err.ensures.err ∙ c.loop-piece.invariant))
