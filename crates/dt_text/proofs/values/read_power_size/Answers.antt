use Rattle.std.proofs.Common.{arith, rules, sym, ◌∙◌, ap, ◌≤◌, ◌≡◌, length, true, Some}
use Rattle.std.specs.Prelude.{nat_le}
use Rattle.std.proofs.lemmas.Bool.Decides.{nat_tests}
use Rattle.dt_text.proofs.ValuesLemmas.{power_size-capped}
use Rattle.dt_text.proofs.values.read_power_size.Goals as goal

pub overflow_cast-number : goal.overflow_cast-number
overflow_cast-number c =
    let got = power_size-capped c.args.word.now c.in-Some.number (omega arith) (sym c.digits.ensures.value ∙ c.in-Some.is) in
    let small : c.in-Some.number ≤ 999 = got.1 in
    search rules

pub returns-in-Some-clause-value : goal.returns-in-Some-clause-value
returns-in-Some-clause-value c =
    let few : length c.args.word.now ≤ 3 = omega arith in
    let got = power_size-capped c.args.word.now c.in-Some.number few (sym c.digits.ensures.value ∙ c.in-Some.is) in
    let test : nat_le (length c.args.word.now) 3 ≡ true = grind (arith, nat_tests) in
    rw (test, got.0) (ap Some c.signed_power.ensures.value)

pub returns-in-Some-clause-small : goal.returns-in-Some-clause-small
returns-in-Some-clause-small c =
    let got = power_size-capped c.args.word.now c.in-Some.number (omega arith) (sym c.digits.ensures.value ∙ c.in-Some.is) in
    omega (arith, got.1, c.signed_power.ensures.down)
