-- What is done with a run that has become too long, kind by kind.
use Rattle.std.specs.Prelude.{◌≡◌, ◌<◌, ◌+◌, ◌/◌, ℕ, List, map, length}
use Rattle.dt_model.specs.declared.declared_tensors.Schema.{Schema}
use Rattle.node_arena.specs.declared.kinds.NodeKind.{NodeKind}
use Rattle.node_arena.specs.declared.kinds.Shape.{Shape}
use Rattle.node_arena.specs.declared.kinds.Shape.TheVariants.{Flat, Post, Ends, Woven}
use Rattle.node_arena.specs.Kinds.{kinds_of, root_of, kind_at, shape_at}
use Rattle.node_arena.specs.Rules.{AreSound}
use Rattle.insert_gen.specs.declared.rows.InsertRow.{InsertRow}
use Rattle.insert_gen.specs.declared.rows.Over.{Over}
use Rattle.insert_gen.specs.declared.rows.Over.TheVariants.{Wedge, OneByOne, Raise, Grow}

-- where the upper part of a run goes, with a kind of these links and this number behind it: one by one into a woven structure, else into a new node
abbrev pub over_behind : Shape → ℕ → Over
over_behind Flat p = Wedge p
over_behind (Post _) p = Wedge p
over_behind (Ends _ _) p = Wedge p
over_behind Woven p = OneByOne p

-- what a kind with these links does with a run that has become too long
abbrev pub over_of : List NodeKind → Shape → Over
over_of s Flat = Grow
over_of s (Post p) = over_behind (shape_at s p) p
over_of s (Ends _ q) = over_behind (shape_at s q) q
over_of s Woven = Raise

-- how many elements stay of a run with one more than hi: the greater half, or the smaller half where a woven node sends the next one up
abbrev pub keep_of : Shape → ℕ → ℕ
keep_of Flat hi = (hi + 2) / 2
keep_of (Post _) hi = (hi + 2) / 2
keep_of (Ends _ _) hi = (hi + 2) / 2
keep_of Woven hi = (hi + 1) / 2

-- the row of a kind
abbrev pub row_of : List NodeKind → NodeKind → InsertRow
row_of s kind = record { hi = kind.hi; keep = keep_of kind.shape kind.hi; over = over_of s kind.shape }

-- the row of the kind with this number
abbrev pub row_at : List NodeKind → ℕ → InsertRow
row_at s k = row_of s (kind_at s k)

-- these are the kinds of a schema, which keep the rules, the number of its root, which is one of them, and the row of each kind
abbrev pub IsCodeOf : Schema → List NodeKind → ℕ → List InsertRow → Type 0
IsCodeOf s kinds root rows =
    (kinds ≡ kinds_of s) × (root ≡ root_of s) × (rows ≡ map (row_of kinds) kinds) × AreSound (kinds_of s) × (root_of s < length (kinds_of s))
