-- The canonical text of a schema.
use Rattle.std.specs.Prelude.{ℕ, ◌≡◌, List, [], ◌∷◌, ◌++◌, codes}
use Rattle.std.specs.List.{flat_map}
use Rattle.std.specs.Fmt.{decimal}
use Rattle.dt_model.specs.declared.limits.TheConstants.{LINE_FEED}
use Rattle.dt_model.specs.declared.declared_tensors.Links.{Links}
use Rattle.dt_model.specs.declared.declared_tensors.Links.TheVariants as link
use Rattle.dt_model.specs.declared.declared_tensors.Kind.{Kind}
use Rattle.dt_model.specs.declared.declared_tensors.Schema.{Schema}

-- links, with a blank before each word; a flat kind has no text of its own
abbrev pub links_text : Links → List ℕ
links_text link.Flat = []
links_text (link.Post post) = codes " post " ++ post
links_text (link.Ends pre post) = codes " pre " ++ pre ++ codes " post " ++ post
links_text link.Woven = codes " woven"

-- the line of a kind
abbrev pub kind_text : Kind → List ℕ
kind_text k = codes "  node " ++ k.name ++ codes " { run " ++ decimal k.lo ++ codes ".." ++ decimal k.hi ++ links_text k.links ++ codes " }" ++ LINE_FEED ∷ []

-- the canonical text of a schema
abbrev pub canonical_text : Schema → List ℕ
canonical_text s =
    codes "schema " ++ s.name ++ codes " {" ++ LINE_FEED ∷ flat_map kind_text s.kinds.items
    ++ codes "  root " ++ s.root ++ LINE_FEED ∷ codes "}" ++ LINE_FEED ∷ []

-- the canonical texts of schemas, one after the other
abbrev pub canonical_texts : List Schema → List ℕ
canonical_texts ss = flat_map canonical_text ss

-- the new text is the old one with something behind it
abbrev pub Extends : List ℕ → List ℕ → Type 0
Extends old new = (rest : List ℕ) × (old ++ rest ≡ new)
