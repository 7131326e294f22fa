use Rattle.std.proofs.Common.{◌≡◌, map}
use Rattle.std.specs.List.{range_with_len}
use Rattle.merge_lattice.specs.Lattices.{bit_of}
use Rattle.merge_lattice.specs.Points.{point_in}
use Rattle.merge_lattice.proofs.tables.lattice.Given as goal

abbrev pub invariant-loop-set : goal.invariant-loop-set
invariant-loop-set l = l.points.items ≡ map (λ s. point_in l.var (bit_of s) 0 l.expr) (range_with_len 0 l.set)
