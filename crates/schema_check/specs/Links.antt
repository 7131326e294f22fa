-- Kinds, and the names in their links.
use Rattle.std.specs.Prelude.{ℕ, Bool, true, false, List, Option, Some, None, find, nat_eq, ◌||◌}
use Rattle.std.specs.List.{list_any}
use Rattle.std.specs.Option.{option_and_then}
use Rattle.std.specs.Cmp.Lexicographic.{pointwise}
use Rattle.dt_model.specs.declared.declared_tensors.Kind.{Kind}
use Rattle.dt_model.specs.declared.declared_tensors.Links.{Links}
use Rattle.dt_model.specs.declared.declared_tensors.Links.TheVariants.{Flat, Post, Ends, Woven}

-- ---- links

-- the name of the kind before the run
abbrev pub pre_of : Links → Option (List ℕ)
pre_of Flat = None
pre_of (Post post) = None
pre_of (Ends pre post) = Some pre
pre_of Woven = None

-- the name of the kind after the run
abbrev pub post_of : Links → Option (List ℕ)
post_of Flat = None
post_of (Post post) = Some post
post_of (Ends pre post) = Some post
post_of Woven = None

-- whether a node has children of its own kind
abbrev pub is_woven : Links → Bool
is_woven Flat = false
is_woven (Post post) = false
is_woven (Ends pre post) = false
is_woven Woven = true

-- whether there is a link, and it has this name
abbrev pub is_link_to : Option (List ℕ) → List ℕ → Bool
is_link_to None name = false
is_link_to (Some link) name = pointwise nat_eq link name

-- whether one of the links has this name
abbrev pub links_to : Links → List ℕ → Bool
links_to links name = is_link_to (pre_of links) name || is_link_to (post_of links) name

-- ---- kinds by their names

-- whether a kind has this name
abbrev pub is_declared : List Kind → List ℕ → Bool
is_declared kinds name = list_any (λ k. pointwise nat_eq k.name name) kinds

-- the first kind with this name
abbrev pub kind_named : List Kind → List ℕ → Option Kind
kind_named kinds name = find (λ k. pointwise nat_eq k.name name) kinds

-- the kind before the run, if the links name one
abbrev pub pre_kind : List Kind → Links → Option Kind
pre_kind kinds links = option_and_then (kind_named kinds) (pre_of links)

-- the kind after the run, if the links name one
abbrev pub post_kind : List Kind → Links → Option Kind
post_kind kinds links = option_and_then (kind_named kinds) (post_of links)
