use Rattle.std.proofs.Common.{◌≡◌, ◌<◌, true, length, ap, sym, ◌∙◌, arith}
use Rattle.dt_model.specs.Verdicts.{all_in_range}
use Rattle.fiber_store.proofs.FibersLemmas.{length-in_range}
use Rattle.fiber_store.proofs.fibers.Fiber.has.Goals as goal

-- coordinates in range are as many as the dimensions, of which there is one
pub bounds-at-0 : goal.bounds-at-0
bounds-at-0 c =
    let in_range : all_in_range c.as_slice.result.now c.as_slice-at.result.now ≡ true = sym c.is_in_range.ensures.value ∙ c.if-not-is_in_range.false in
    let same = length-in_range c.as_slice.result.now c.as_slice-at.result.now in_range in
    let many = ap length c.as_slice.ensures.value in
    let some = c.requires.modes in
    let within : 0 < length c.as_slice-at.result.now = omega (arith, same, many, some) in
    within
