use Rattle.dt_text.proofs.ValuesLemmas.{leading_digits-all}
use Rattle.dt_text.proofs.values.split_digits.Goals as goal

pub returns-clause-digits : goal.returns-clause-digits
returns-clause-digits c = rw c.digit_run-count.ensures.value (leading_digits-all c.args.word.now)
