use Rattle.std.proofs.Common.{sym, ◌∙◌}
use Rattle.std.proofs.lemmas.Result.{err_from_is_err_and}
use Rattle.dt_model.specs.Texts.{value_word}
use Rattle.tns_io.proofs.WrittenLines.{Extends-same}
use Rattle.tns_io.proofs.writer.write_piece.Goals as goal

pub returns-in_err-append-clause-err : goal.returns-in_err-append-clause-err
returns-in_err-append-clause-err c =
    let p = err_from_is_err_and c.from_residual-in_err-append.result c.from_residual-in_err-append.ensures.1 in
    rw p.1 (value_word c.args.value, sym (c.in_err-append.ensures.err ∙ c.in_ok-write_value.ensures.ok))

pub returns-in_err-write_value-clause-err : goal.returns-in_err-write_value-clause-err
returns-in_err-write_value-clause-err c =
    let p = err_from_is_err_and c.from_residual.result c.from_residual.ensures.1 in
    rw p.1 (Extends-same c.args.into.now.items c.write_value.new.into.items c.in_err-write_value.ensures.err)
