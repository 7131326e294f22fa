-- What a change of the arenas leaves as it was, of structures of several modes.
use Rattle.std.specs.Prelude.{List, [], ◌∷◌, All}
use Rattle.node_arena.specs.declared.elements.Structure.{Structure}
use Rattle.node_arena.specs.Modes.{Mode, walk_in, tree_in, inners, ApartBelow, IsNested}
use Rattle.node_arena.specs.Structures.{IsStanding}

-- a structure is as before in other arenas: it stands there with the same tree, and so do the structures that it holds
abbrev pub KeepsNested : List Mode → List Mode → Structure → Type 0
KeepsNested [] ns x = Unit {0}
KeepsNested (m ∷ ms) [] x = ⊥
KeepsNested (m ∷ ms) (n ∷ ns) x =
    IsStanding m.kinds n.arena x (tree_in m.arena x) × All (λ y. KeepsNested ms ns y) (inners (walk_in m x))

-- each structure that is apart from the old one is as before, and apart from the new one
abbrev pub KeepsOthers : List Mode → List Mode → Structure → Structure → Type 0
KeepsOthers ms ns old new = (x : Structure) → IsNested ms x → ApartBelow ms old x → KeepsNested ms ns x × ApartBelow ns new x
