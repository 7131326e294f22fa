-- Which kinds are reached from a schema's root.
use Rattle.std.specs.Prelude.{ℕ, zero, suc, Bool, List, [], ◌∷◌, length, nat_eq, ◌&&◌, ◌||◌, IsTrue}
use Rattle.std.specs.List.{list_any}
use Rattle.std.specs.Cmp.Lexicographic.{pointwise}
use Rattle.dt_model.specs.declared.declared_tensors.Kind.{Kind}
use Rattle.dt_model.specs.declared.declared_tensors.Schema.{Schema}
use Rattle.schema_check.specs.Links.{links_to}

-- ---- what is meant

-- whether a kind of the first name links to the second name
abbrev pub is_link : List Kind → List ℕ → List ℕ → Bool
is_link kinds from to = list_any (λ k. pointwise nat_eq k.name from && links_to k.links to) kinds

-- links lead from a name through these ones to the last of them
abbrev pub IsPath : List Kind → List ℕ → List (List ℕ) → List ℕ → Type 0
IsPath kinds from [] to = IsTrue (pointwise nat_eq from to)
IsPath kinds from (next ∷ path) to = IsTrue (is_link kinds from next) × IsPath kinds next path to

-- some links lead from the root to the name
abbrev pub IsReached : Schema → List ℕ → Type 0
IsReached s name = (path : List (List ℕ)) × IsPath s.kinds.items s.root path name

-- ---- as a test

-- whether a kind of the set links to the name
abbrev pub is_linked_from : List Kind → (List ℕ → Bool) → List ℕ → Bool
is_linked_from kinds set name = list_any (λ k. set k.name && links_to k.links name) kinds

-- the set, and what is linked from it
abbrev pub and_linked : List Kind → (List ℕ → Bool) → List ℕ → Bool
and_linked kinds set name = set name || is_linked_from kinds set name

-- whether at most n links lead from the root to the name
unfoldable pub is_within : Schema → ℕ → List ℕ → Bool
is_within s zero name = pointwise nat_eq s.root name
is_within s (suc n) name = and_linked s.kinds.items (is_within s n) name

-- whether a kind is reached; as many links as there are kinds suffice
abbrev pub is_reached : Schema → Kind → Bool
is_reached s k = is_within s (length s.kinds.items) k.name
