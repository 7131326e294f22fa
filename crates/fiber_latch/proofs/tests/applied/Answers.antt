use Rattle.std.proofs.Common.{ℕ, ◌+◌, ◌%◌, ◌^◌, ◌/◌, sym, subst}
use Rattle.fiber_latch.specs.declared.view.TableConfig.{TableConfig}
use Rattle.fiber_latch.specs.declared.rule.Kept as kept
use Rattle.fiber_latch.specs.declared.rule.Kept.TheVariants.{Fiber}
use Rattle.fiber_latch.specs.declared.tests.Small.{Small}
use Rattle.fiber_latch.specs.Seats.{SeatState}
use Rattle.fiber_latch.specs.Trial.{HasPut, IsTrial}
use Rattle.fiber_latch.specs.TrialGood.{IsGood}
use Rattle.fiber_latch.proofs.TrialGoodLemmas.{good_added, on_ok}
use Rattle.fiber_latch.proofs.tests.applied.Goals as goal

pub returns-clause-one : goal.returns-clause-one
returns-clause-one g c =
    let s = c.args.seat.now in
    let x : ℕ = c.args.at in
    let store : Small = c.in-Fiber-Journal.store in
    let new : Small = c.put.new.self in
    let put = on_ok c.put.result c.expect.result c.expect.ensures c.put.ensures.ok in
    subst (λ (z : SeatState). IsGood (λ (s : Small). s.latch) (λ (s : Small). s.cells.items) z.config z.seen (x / 2) (Fiber new)) (sym c.commit.ensures.seat)
    (good_added (λ (s : Small). s.latch) (λ (s : Small). s.cells.items) s.config s.seen
    (record { turn = record { session = c.first-session.result; number = c.args.number }; call = c.add_one.result }) x store new
    (subst (λ (t : TableConfig). IsTrial 128 64 t.world) (sym c.requires.seat.0.1) c.requires.world.0) c.add_one.ensures.value
    (subst (λ (y : kept.Kept Small). IsGood (λ (s : Small). s.latch) (λ (s : Small). s.cells.items) s.config s.seen (x / 2) y) c.in-Fiber-Journal.is-0
    c.requires.one)
    put.0 (subst (λ (n : ℕ). HasPut x ((n + 1) % 2 ^ 64) store.cells.items new.cells.items) c.number-sum.ensures.value put.1))
