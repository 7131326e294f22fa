use Rattle.std.proofs.Common.{ℕ, List, arith, sym, ap, ◌∙◌}
use Rattle.fiber_latch.specs.Trial.{found}
use Rattle.fiber_latch.proofs.TrialLemmas.{found_at, found_nowhere}
use Rattle.fiber_latch.proofs.tests.Small.number.Goals as goal

pub returns-then-cell-at : goal.returns-then-cell-at
returns-then-cell-at c =
    let xs = c.as_slice-cell-items.result.now in
    record {
      value = sym (found_at xs c.loop-cell.cell-index c.args.at (0, 0) (omega arith) c.loop-cell.invariant c.if-cell-at.true)
          ∙ ap (λ (ys : List (ℕ × ℕ)). found ys c.args.at) c.as_slice-cell-items.ensures.value;
    }

pub returns : goal.returns
returns c =
    let xs = c.as_slice-cell-items.result.now in
    record {
      value = sym (found_nowhere xs c.args.at (λ k b. c.loop-cell.invariant k (omega arith)))
          ∙ ap (λ (ys : List (ℕ × ℕ)). found ys c.args.at) c.as_slice-cell-items.ensures.value;
    }
