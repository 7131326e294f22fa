use Rattle.std.proofs.Common.{◌≤◌, length, take, sym, arith}
use Rattle.std.proofs.lemmas.Result.{err_from_is_err_and}
use Rattle.tns_io.proofs.WrittenLines.{coordinate_pieces, line_of-pieces, Extends-more}
use Rattle.tns_io.proofs.writer.write_pair.Goals as goal

pub returns-in_err-write_piece-2-clause-err : goal.returns-in_err-write_piece-2-clause-err
returns-in_err-write_piece-2-clause-err c =
    let p = err_from_is_err_and c.from_residual-in_err-write_piece-2.result c.from_residual-in_err-write_piece-2.ensures.1 in
    rw p.1
    (Extends-more c.args.into.now.items c.loop-coordinate.into.items c.write_piece-2.new.into.items
    (coordinate_pieces (take c.loop-coordinate.coordinate-index c.args.at.now), sym c.loop-coordinate.invariant) c.in_err-write_piece-2.ensures.err)

pub returns-clause-ok : goal.returns-clause-ok
returns-clause-ok c =
    let all : length c.args.at.now ≤ c.loop-coordinate.coordinate-index = omega arith in
    line_of-pieces c.args.into.now.items c.loop-coordinate.into.items c.write_piece-2.new.into.items c.args.at.now c.loop-coordinate.coordinate-index
    c.args.value c.loop-coordinate.invariant all c.in_ok-write_piece-2.ensures.ok
