-- Nodes that are only linked anew.
use Rattle.std.proofs.Common.{◌≡◌, ℕ, List, Option, Some, None, IsSome, IfSome, refl, ◌∙◌, subst, sym, ltb}
use Rattle.node_arena.specs.Arenas.{ArenaState, NodeState, node_at, ChangesNode}
use Rattle.chunk_tree.specs.Balancing.{KeepsRun, IsRelinked}
use Rattle.chunk_tree.proofs.Cells.{either-step}

kept-same : (n : Option NodeState) → KeepsRun n n
kept-same None = refl
kept-same (Some n) = (refl, refl)

kept-then : (x y z : Option NodeState) → KeepsRun x y → KeepsRun y z → KeepsRun x z
kept-then None None z h g = g
kept-then None (Some y) z h g = cc
kept-then (Some x) None z h g = absurd h
kept-then (Some x) (Some y) None h g = absurd g
kept-then (Some x) (Some y) (Some z) h g = (g.0 ∙ h.0, g.1 ∙ h.1)

-- nothing changes
pub relinked-none : (a : ArenaState) → IsRelinked a a
relinked-none a = record { nodes = λ i. kept-same (node_at a i); spare = refl; most = refl; places = refl; runs = refl }

-- one after another
pub relinked-then : (a b c : ArenaState) → IsRelinked a b → IsRelinked b c → IsRelinked a c
relinked-then a b c h g = record {
  nodes = λ i. kept-then (node_at a i) (node_at b i) (node_at c i) (h.nodes i) (g.nodes i);
  spare = g.spare ∙ h.spare;
  most = g.most ∙ h.most;
  places = g.places ∙ h.places;
  runs = g.runs ∙ h.runs;
}

kept-links : (x y : Option NodeState) (links : List (Option ℕ)) → IsSome x → IfSome x (λ n. y ≡ Some (record n { links = links })) → KeepsRun x y
kept-links None y links there h = cc
kept-links (Some n) y links there h = subst (KeepsRun (Some n)) (sym h) (refl, refl)

-- a node that was there has other links
pub relinked-links : (a b : ArenaState) (j : ℕ) (links : List (Option ℕ)) → IsSome (node_at a j)
    → IfSome (node_at a j) (λ n. ChangesNode a b j (Some (record n { links = links }))) → b.nodes.spare ≡ a.nodes.spare → IsRelinked a b
relinked-links a b j links there change spare = by (node_at a j) refl
  where
    by : (x : Option NodeState) → node_at a j ≡ x → IsRelinked a b
    by None e = cc
    by (Some n) e =
        let c : ChangesNode a b j (Some (record n { links = links })) = subst
        (λ x. IfSome x (λ n. ChangesNode a b j (Some (record n { links = links })))) e change in
        record {
          nodes = λ i. either-step j i (KeepsRun (node_at a i) (node_at b i))
              (λ same. subst (λ k. KeepsRun (node_at a k) (node_at b k)) same
              (subst (λ x. KeepsRun x (node_at b j)) (sym e) (subst (KeepsRun (Some n)) (sym c.node.changed) (refl, refl))))
              (λ other. subst (KeepsRun (node_at a i)) (sym (c.node.others i (λ z. other (sym z)))) (kept-same (node_at a i)))
              (ltb j i) (ltb i j) refl refl;
          spare = spare;
          most = c.node.most;
          places = c.node.places;
          runs = c.runs;
        }
