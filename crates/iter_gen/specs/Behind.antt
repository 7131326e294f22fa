-- What comes in a node's walk behind some of its elements.
use Rattle.std.specs.Prelude.{ℕ, zero, suc, List, [], ◌∷◌, Option, Some, None}
use Rattle.node_arena.specs.declared.elements.Elem.{Elem}
use Rattle.node_arena.specs.Walks.{Part, item, link}

-- the parts behind the first n elements
abbrev pub behind : {L : Type 0} → ℕ → List (Part L) → List (Part L)
behind zero ps = ps
behind (suc n) [] = []
behind (suc n) (item e ∷ ps) = behind n ps
behind (suc n) (link l ∷ ps) = behind (suc n) ps

-- the link that comes before the next element, if there is one
abbrev pub first_link : {L : Type 0} → List (Part L) → Option L
first_link [] = None
first_link (item e ∷ ps) = None
first_link (link l ∷ ps) = Some l

-- the parts without that link
abbrev pub past_link : {L : Type 0} → List (Part L) → List (Part L)
past_link [] = []
past_link (item e ∷ ps) = item e ∷ ps
past_link (link l ∷ ps) = ps

-- so many elements come first
abbrev pub BeginsWithItems : {L : Type 0} → ℕ → List (Part L) → Type 0
BeginsWithItems zero ps = Unit {0}
BeginsWithItems (suc n) [] = ⊥
BeginsWithItems (suc n) (item e ∷ ps) = BeginsWithItems n ps
BeginsWithItems (suc n) (link l ∷ ps) = ⊥

-- no link comes right behind a link
abbrev pub IsCalm : {L : Type 0} → List (Part L) → Type 0
IsCalm [] = Unit {0}
IsCalm (item e ∷ ps) = IsCalm ps
IsCalm (link l ∷ []) = Unit {0}
IsCalm (link l ∷ item e ∷ ps) = IsCalm ps
IsCalm (link l ∷ link m ∷ ps) = ⊥

-- the elements alone
abbrev pub items : {L : Type 0} → List (Part L) → List Elem
items [] = []
items (item e ∷ ps) = e ∷ items ps
items (link l ∷ ps) = items ps
