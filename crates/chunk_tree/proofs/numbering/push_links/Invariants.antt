use Rattle.std.proofs.Common.{◌≡◌, ◌++◌, drop}
use Rattle.chunk_tree.specs.Numbering.{present}
use Rattle.chunk_tree.proofs.numbering.push_links.Given as goal

abbrev pub invariant-loop-place : goal.invariant-loop-place
invariant-loop-place l = l.ids.items ++ present (drop l.place l.node.links) ≡ l.initial.ids.items ++ present l.node.links
