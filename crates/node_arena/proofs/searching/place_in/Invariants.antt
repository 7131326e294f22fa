use Rattle.std.proofs.Common.{◌≤◌, map}
use Rattle.node_arena.specs.Arenas.{place_in}
use Rattle.node_arena.specs.Packing.{unpacked}
use Rattle.node_arena.proofs.searching.place_in.Given as goal

abbrev pub invariant-loop-i : goal.invariant-loop-i
invariant-loop-i l = l.i ≤ place_in l.at (map unpacked l.run)
