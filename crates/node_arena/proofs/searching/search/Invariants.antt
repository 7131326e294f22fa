use Rattle.std.proofs.Common.{◌≤◌, ◌-◌, length, map}
use Rattle.node_arena.specs.Arenas.{place_in}
use Rattle.node_arena.specs.Packing.{unpacked}
use Rattle.node_arena.proofs.searching.search.Given as goal

abbrev pub invariant-halving : goal.invariant-halving
invariant-halving l = record {
  behind : l.low ≤ place_in l.at (map unpacked l.run);
  before : place_in l.at (map unpacked l.run) ≤ l.high;
  within : l.high ≤ length l.run;
}

abbrev pub decreases-halving : goal.decreases-halving
decreases-halving l = l.high - l.low
