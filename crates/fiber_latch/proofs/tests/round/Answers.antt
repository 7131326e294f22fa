use Rattle.std.proofs.Common.{ℕ, ◌<◌, ◌/◌, ◌∙◌, sym, subst}
use Rattle.fiber_latch.specs.declared.tests.Small.{Small}
use Rattle.fiber_latch.proofs.TrialGoodLemmas.{twice_good, twice_number}
use Rattle.fiber_latch.proofs.tests.round.Goals as goal

pub applied-one-requires-clause-number : goal.applied-one-requires-clause-number
applied-one-requires-clause-number g c =
    let s = c.first-session.result in
    let r = c.requires.seat in
    let n = twice_number (λ (s : Small). s.latch) (λ (s : Small). s.cells.items) (c.args.at / 2) 64 s s c.args.seat.now c.take-one.new.seat
    c.take-two.new.seat c.take-one.result c.take-two.result c.take-one.ensures.value c.take-two.ensures.value r.1.order in
    (subst (λ (k : ℕ). k < c.args.number) (sym (n ∙ r.1.calls)) r.2, c.requires.number)

pub applied-one-requires-clause-one : goal.applied-one-requires-clause-one
applied-one-requires-clause-one g c =
    let s = c.first-session.result in
    twice_good (λ (s : Small). s.latch) (λ (s : Small). s.cells.items) (c.args.at / 2) 64 s s c.args.seat.now c.take-one.new.seat c.take-two.new.seat
    c.take-one.result c.take-two.result c.take-one.ensures.value c.take-two.ensures.value
