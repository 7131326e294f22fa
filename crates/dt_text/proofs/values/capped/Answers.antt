use Rattle.std.specs.Char.{is_ascii_digit}
use Rattle.dt_text.proofs.NumeralsLemmas.{step_value}
use Rattle.dt_text.proofs.ValuesLemmas.{list_all-get_or, step_behind, step_zero}
use Rattle.dt_text.proofs.values.capped.Goals as goal

pub loop-byte-preserved : goal.loop-byte-preserved
loop-byte-preserved c =
    step_value c.args.whole.now c.loop-byte.byte-index c.loop-byte.number _ c.loop-byte-test.true
    (list_all-get_or is_ascii_digit c.args.whole.now c.loop-byte.byte-index c.requires.whole c.loop-byte-test.true)
    c.loop-byte.invariant (rw c.from.ensures at c.min-number.ensures)

pub loop-digit-preserved : goal.loop-digit-preserved
loop-digit-preserved c =
    step_behind c.args.whole.now c.args.fraction.now c.loop-digit.digit-index c.loop-digit.number _ c.loop-digit-test.true
    (list_all-get_or is_ascii_digit c.args.fraction.now c.loop-digit.digit-index c.requires.fraction c.loop-digit-test.true)
    c.loop-digit.invariant (rw c.from-in-loop-digit.ensures at c.min-number-in-loop-digit.ensures)

pub loop-zero-preserved : goal.loop-zero-preserved
loop-zero-preserved c = step_zero _ c.loop-zero.zero c.loop-zero.number _ c.loop-zero.invariant c.min-number-in-loop-zero.ensures
