use Rattle.std.proofs.Common.{ℕ, ◌≡◌, arith, sym, ap, ◌∙◌, get_or, set, length-set, get_or-set_same, get_or-set_other}
use mathlib.Core.Logic.{dite}
use native.Mathlib.Decide.{ℕ_discrete}
use Rattle.fiber_latch.proofs.latches.both_numbers.Goals as goal

pub loop-index-preserved : goal.loop-index-preserved
loop-index-preserved c =
    let inv = c.loop-index.invariant in
    let n : ℕ = c.loop-index.index in
    let x : ℕ = get_or c.args.others.now n 0 in
    record {
      wide = length-set c.loop-index.numbers n x ∙ inv.wide;
      theirs = λ k a b. dite (ℕ_discrete k n)
          (λ (q : k ≡ n). ap (λ (j : ℕ). get_or (set c.loop-index.numbers n x) j 0) q
          ∙ get_or-set_same c.loop-index.numbers n x 0 (let w = inv.wide in omega arith) ∙ ap (λ (j : ℕ). get_or c.args.others.now j 0) (sym q))
          (λ (q : ¬ (k ≡ n)). get_or-set_other c.loop-index.numbers n k x 0 q ∙ inv.theirs k a (omega arith));
      mine = λ k a. get_or-set_other c.loop-index.numbers n k x 0 (λ (q : k ≡ n). let p = c.loop-index.auto.index in omega arith) ∙ inv.mine k a;
    }
