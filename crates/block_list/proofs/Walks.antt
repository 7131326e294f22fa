-- The walk of a node with the link behind the run.
use Rattle.std.proofs.Common.{◌≡◌, ℕ, List, [], ◌∷◌, ◌++◌, map, ap, ◌∙◌, append-nil}
use Rattle.node_arena.specs.declared.elements.Elem.{Elem}
use Rattle.node_arena.specs.declared.kinds.NodeKind.{NodeKind}
use Rattle.node_arena.specs.declared.kinds.Shape.TheVariants.{Post, Ends}
use Rattle.node_arena.specs.Kinds.{shape_at}
use Rattle.node_arena.specs.Trees.{Trees, done, absent, node}
use Rattle.node_arena.specs.Walks.{link, parts, joined, walk, walks}
use Rattle.node_arena.proofs.WalksLemmas.{joined-items, joined-links}

-- with a link behind the run: the run, and the walk of what follows
pub walk-chain : (s : List NodeKind) (i k p : ℕ) (run : List Elem) (ls : Trees) → shape_at s k ≡ Post p → walk s (node i k run ls done) ≡ run ++ walk s ls
walk-chain s i k p run ls e =
    append-nil (joined (parts (shape_at s k) run (walks s ls)))
    ∙ ap (λ sh. joined (parts sh run (walks s ls))) e
    ∙ joined-items run (map link (walks s ls))
    ∙ ap (λ w. run ++ w) (joined-links s ls)

-- with two links, the first of them absent: the same
pub walk-half : (s : List NodeKind) (i k q p : ℕ) (run : List Elem) (ls : Trees) → shape_at s k ≡ Ends q p
    → walk s (node i k run (absent ls) done) ≡ run ++ walk s ls
walk-half s i k q p run ls e =
    append-nil (joined (parts (shape_at s k) run ([] ∷ walks s ls)))
    ∙ ap (λ sh. joined (parts sh run ([] ∷ walks s ls))) e
    ∙ joined-items run (map link (walks s ls))
    ∙ ap (λ w. run ++ w) (joined-links s ls)
