-- What a packed element and a packed link are.
use Rattle.std.specs.Prelude.{ℕ, ◌%◌, ◌/◌, ◌==◌, Option, Some, None, if◌then◌else◌}
use Rattle.node_arena.specs.declared.numbers.TheConstants.{NO_NUMBER}
use Rattle.node_arena.specs.declared.packing.Packed.{Packed}
use Rattle.node_arena.specs.declared.packing.Tag.{Tag}
use Rattle.node_arena.specs.declared.packing.Tag.TheVariants as tags
use Rattle.node_arena.specs.declared.elements.Elem.{Elem}
use Rattle.node_arena.specs.declared.elements.Held.{Held}
use Rattle.node_arena.specs.declared.elements.Held.TheVariants.{Number, Inner}
use Rattle.node_arena.specs.declared.elements.Top.{Top}
use Rattle.node_arena.specs.declared.elements.Top.TheVariants as tops

-- the top of a structure: a number that no node and no run has stands for an empty one
abbrev pub top_at : Tag → ℕ → Top
top_at tags.Number n = tops.Empty
top_at tags.Node n = if n == NO_NUMBER then tops.Empty else tops.Node n
top_at tags.Run n = if n == NO_NUMBER then tops.Empty else tops.Run n

-- a structure: its top in the lower half of the word, its length in the upper half
abbrev pub inner : Tag → ℕ → ℕ → Held
inner tag word spine = Inner (record { top = top_at tag (word % 4294967296); len = word / 4294967296; spine = spine })

-- what an element holds: the word itself, or a structure
abbrev pub held : Tag → ℕ → ℕ → Held
held tags.Number word spine = Number word
held tags.Node word spine = inner tags.Node word spine
held tags.Run word spine = inner tags.Run word spine

-- the element
abbrev pub unpacked : Packed → Elem
unpacked p = record { at = p.at; held = held p.tag p.word p.spine }

-- the link: a number that no node has stands for none
abbrev pub link_of : ℕ → Option ℕ
link_of n = if n == NO_NUMBER then None else Some n

-- how the top of a structure is told
abbrev pub tag_of : Top → Tag
tag_of tops.Empty = tags.Node
tag_of (tops.Node id) = tags.Node
tag_of (tops.Run id) = tags.Run
