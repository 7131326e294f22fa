use Rattle.std.proofs.Common.{◌≤◌, arith}
use Rattle.std.proofs.Math.Pow.{pow_mono}
use Rattle.chunk_tree.proofs.Renewed.{spine-within}
use Rattle.chunk_tree.proofs.rebalancing.is_shallow.Goals as goal

pub returns-clause-value : goal.returns-clause-value
returns-clause-value c = (
  (λ h.
      let below : c.args.top.now.spine ≤ c.digits.result = grind (arith, h) in
      let power = pow_mono below in
      let least = c.digits.ensures.least in
      omega arith),
  (λ h.
      let below : c.args.top.now.spine ≤ c.digits.result = spine-within c.args.top.now.spine c.digits.result c.args.top.now.len h c.digits.ensures.above in
      grind (arith, below)),
)
