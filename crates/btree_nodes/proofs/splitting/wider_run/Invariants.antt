use Rattle.std.proofs.Common.{◌≡◌, IfSome, take}
use Rattle.std.specs.List.{insert}
use Rattle.node_arena.specs.Arenas.{node_at}
use Rattle.btree_nodes.proofs.splitting.wider_run.Given as goal

abbrev pub invariant-loop-i : goal.invariant-loop-i
invariant-loop-i l = IfSome (node_at l.arena l.node) (λ n. take l.i l.run ≡ take l.i (insert n.run l.place l.elem))
