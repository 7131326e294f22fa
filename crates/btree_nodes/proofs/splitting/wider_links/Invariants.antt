use Rattle.std.proofs.Common.{◌≡◌, IfSome, take}
use Rattle.arrayvec.specs.ArrayVec.{array_vec_len}
use Rattle.node_arena.specs.Arenas.{node_at}
use Rattle.btree_nodes.proofs.splitting.wider_links.Given as goal

abbrev pub invariant-loop-i : goal.invariant-loop-i
invariant-loop-i l = (IfSome (node_at l.arena l.node) (λ n. l.links.items ≡ take l.i n.links)) × (array_vec_len l.links ≡ l.i)
