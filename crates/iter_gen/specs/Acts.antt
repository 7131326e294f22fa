-- The acts of a kind: in which order the links and the run of its nodes are walked.
use Rattle.std.specs.Prelude.{◌≡◌, ◌<◌, ◌+◌, ℕ, List, [], ◌∷◌, ◌++◌, map, length, Option}
use Rattle.dt_model.specs.declared.declared_tensors.Schema.{Schema}
use Rattle.node_arena.specs.declared.elements.Elem.{Elem}
use Rattle.node_arena.specs.declared.kinds.NodeKind.{NodeKind}
use Rattle.node_arena.specs.declared.kinds.Shape.{Shape}
use Rattle.node_arena.specs.declared.kinds.Shape.TheVariants.{Flat, Post, Ends, Woven}
use Rattle.node_arena.specs.Kinds.{kinds_of, root_of}
use Rattle.node_arena.specs.Rules.{AreSound}
use Rattle.node_arena.specs.Walks.{Part, item, link, weave, parts}
use Rattle.iter_gen.specs.declared.codes.Act.{Act}
use Rattle.iter_gen.specs.declared.codes.Act.TheVariants as acts

-- the acts of a node with these links
abbrev pub acts_of : Shape → List Act
acts_of Flat = acts.Run ∷ []
acts_of (Post post) = acts.Run ∷ acts.Post post ∷ []
acts_of (Ends pre post) = acts.Pre pre ∷ acts.Run ∷ acts.Post post ∷ []
acts_of Woven = acts.Weave ∷ []

-- what acts do, one after another, with a run and links: the next link is walked, or the run, or both in turns
abbrev pub acted : {L : Type 0} → List Act → List Elem → List L → List (Part L)
acted [] run ls = []
acted (acts.Pre kind ∷ rest) run [] = acted rest run []
acted (acts.Pre kind ∷ rest) run (l ∷ ls) = link l ∷ acted rest run ls
acted (acts.Run ∷ rest) run ls = map item run ++ acted rest run ls
acted (acts.Post kind ∷ rest) run [] = acted rest run []
acted (acts.Post kind ∷ rest) run (l ∷ ls) = link l ∷ acted rest run ls
acted (acts.Weave ∷ rest) run ls = weave run ls

-- how many links a node of this shape has, if it has these: none, one, two, or, if it is woven, none or one more than elements
abbrev pub link_number : {L : Type 0} → Shape → List Elem → List L → ℕ
link_number Flat run ls = 0
link_number (Post _) run ls = 1
link_number (Ends _ _) run ls = 2
link_number Woven run [] = 0
link_number Woven run (l ∷ ls) = length run + 1

-- the links are as many as the shape wants
abbrev pub HasAllLinks : {L : Type 0} → Shape → List Elem → List L → Type 0
HasAllLinks shape run ls = length ls ≡ link_number shape run ls

-- these are the kinds of a schema, which keep the rules, the number of its root, which is one of them, and the acts of each kind
abbrev pub IsCodeOf : Schema → List NodeKind → ℕ → List (List Act) → Type 0
IsCodeOf s kinds root all =
    (kinds ≡ kinds_of s) × (root ≡ root_of s) × (all ≡ map (λ k. acts_of k.shape) kinds)
    × AreSound (kinds_of s) × (root_of s < length (kinds_of s))

-- the acts go through each node of this shape in the order of its walk
abbrev pub AreInOrder : Shape → List Act → Type 0
AreInOrder shape as_ = (run : List Elem) (ls : List (Option ℕ)) → HasAllLinks shape run ls → acted as_ run ls ≡ parts shape run ls
