-- The kinds of a schema, with their links by number instead of by name.
use Rattle.std.specs.Prelude.{ℕ, max, List, [], ◌∷◌, map, length, position, unwrap_or, nat_eq, slice_index_or}
use Rattle.std.specs.Cmp.Lexicographic.{pointwise}
use Rattle.dt_model.specs.declared.declared_tensors.Kind.{Kind}
use Rattle.dt_model.specs.declared.declared_tensors.Links.{Links}
use Rattle.dt_model.specs.declared.declared_tensors.Links.TheVariants as links
use Rattle.dt_model.specs.declared.declared_tensors.Schema.{Schema}
use Rattle.node_arena.specs.declared.kinds.NodeKind.{NodeKind}
use Rattle.node_arena.specs.declared.kinds.Shape.{Shape}
use Rattle.node_arena.specs.declared.kinds.Shape.TheVariants.{Flat, Post, Ends, Woven}

-- the number of the first kind with this name, counted from 0; the number of kinds where there is none
abbrev pub number_named : List Kind → List ℕ → ℕ
number_named kinds name = unwrap_or (position (λ k. pointwise nat_eq k.name name) kinds) (length kinds)

-- links with the numbers of the kinds that they name
abbrev pub shape_of : List Kind → Links → Shape
shape_of kinds links.Flat = Flat
shape_of kinds (links.Post post) = Post (number_named kinds post)
shape_of kinds (links.Ends pre post) = Ends (number_named kinds pre) (number_named kinds post)
shape_of kinds links.Woven = Woven

-- a kind with its links by number
abbrev pub numbered : List Kind → Kind → NodeKind
numbered kinds k = record { lo = k.lo; hi = k.hi; shape = shape_of kinds k.links }

-- the kinds of a schema, in order of declaration
abbrev pub kinds_of : Schema → List NodeKind
kinds_of s = map (numbered s.kinds.items) s.kinds.items

-- the number of the root's kind
abbrev pub root_of : Schema → ℕ
root_of s = number_named s.kinds.items s.root

-- a kind without links, whose runs have one element
abbrev pub bare_kind : NodeKind
bare_kind = record { lo = 1; hi = 1; shape = Flat }

-- the kind with this number, if there is one; else one without links
abbrev pub kind_at : List NodeKind → ℕ → NodeKind
kind_at s k = slice_index_or s k bare_kind

-- the links of the kind with this number
abbrev pub shape_at : List NodeKind → ℕ → Shape
shape_at s k = (kind_at s k).shape

-- the greatest number of elements that a run of any of the kinds may have; 0 where there is no kind
abbrev pub longest_of : List NodeKind → ℕ
longest_of [] = 0
longest_of (k ∷ ks) = max k.hi (longest_of ks)
