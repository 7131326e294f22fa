use Rattle.std.proofs.Common.{◌-◌}
use Rattle.node_arena.specs.Trees.{Trees}
use Rattle.iter_gen.specs.Searching.{Searches, HasRoot, ComesTo}
use Rattle.iter_gen.proofs.looking_up.find_below.Given as goal

abbrev pub invariant-down : goal.invariant-down
invariant-down l = (t : Trees) × Searches l.kinds l.arena l.here l.low l.end t
    × ((u : Trees) → HasRoot l.arena l.fn.root u → ComesTo l.kinds l.at u t)

abbrev pub decreases-down : goal.decreases-down
decreases-down l = l.end - l.low
