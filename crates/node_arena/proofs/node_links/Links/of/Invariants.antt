use Rattle.std.proofs.Common.{◌≡◌, map, take}
use Rattle.arrayvec.specs.ArrayVec.{array_vec_len}
use Rattle.node_arena.specs.Packing.{link_of}
use Rattle.node_arena.proofs.node_links.Links.of.Given as goal

abbrev pub invariant-loop-link : goal.invariant-loop-link
invariant-loop-link g l = (map link_of l.packed.items ≡ take l.link-index l.links) × (array_vec_len l.packed ≡ l.link-index)
