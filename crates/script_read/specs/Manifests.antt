-- The first pass over a manifest: its items, or its first fault.
use Rattle.std.specs.Prelude.{ℕ, ◌+◌, Bool, true, not, List, [], ◌∷◌, ◌++◌, fold, ok_or, Result, Ok, Err, ◌==◌, ◌&&◌, nat_le, length, nat_eq}
use Rattle.std.specs.List.{list_any}
use Rattle.std.specs.Cmp.Lexicographic.{pointwise}
use Rattle.dt_model.specs.declared.limits.TheConstants.{MOST_LATCHES, MOST_PRINTS, MOST_SESSIONS, MOST_TENSORS}
use Rattle.dt_model.specs.Texts.{words_of}
use Rattle.dt_text.specs.Content.{content_lines, is_within_limit}
use Rattle.tns_io.specs.declared.faults.FileCause.{FileCause}
use Rattle.tns_io.specs.declared.faults.FileCause.TheVariants as because
use Rattle.tns_io.specs.declared.faults.FileFault.{FileFault}
use Rattle.script_read.specs.Readings.{◌>>=◌, check, at_line, each_after}
use Rattle.script_read.specs.ManifestLines.{item_line}
use Rattle.script_read.specs.declared.items.Item.{Item}
use Rattle.script_read.specs.declared.items.Item.TheVariants.{Schema, Tensor, Load, Session, Print}
use Rattle.script_read.specs.declared.item_lines.ItemLine.{ItemLine}
use Rattle.script_read.specs.declared.item_lines.ItemLine.TheVariants.{Whole, OutOfRange}
use Rattle.script_read.specs.declared.declarations.Declared.{Declared}

-- ---- what lines declare

-- nothing is declared
abbrev pub nothing : Declared
nothing = record { tensors = []; sessions = 0; prints = 0; latches = 0 }

-- what is declared with one item more
abbrev pub declared_with : Declared → Item → Declared
declared_with d (Tensor name dims formats latches) = record d { tensors = d.tensors ++ name ∷ []; latches = d.latches + latches }
declared_with d (Session file) = record d { sessions = d.sessions + 1 }
declared_with d (Print name) = record d { prints = d.prints + 1 }
declared_with d (Schema file) = d
declared_with d (Load name file) = d

-- what lines declare together
abbrev pub declared_by : List (ℕ × Item) → Declared
declared_by items = fold (λ d p. declared_with d p.1) nothing items

-- whether a tensor has this name
abbrev pub is_declared : Declared → List ℕ → Bool
is_declared d name = list_any (pointwise nat_eq name) d.tensors

-- ---- the tests of a line, after what earlier lines declare

-- whether a `schema`, `tensor` or `load` line stands before each session
abbrev pub is_in_order : Declared → ItemLine → Bool
is_in_order d (Whole (Session file)) = true
is_in_order d (Whole (Print name)) = true
is_in_order d line = d.sessions == 0

-- whether the tensor of a `load` or `print` line is declared
abbrev pub is_known : Declared → ItemLine → Bool
is_known d (Whole (Load name file)) = is_declared d name
is_known d (Whole (Print name)) = is_declared d name
is_known d line = true

-- whether a tensor's name is new
abbrev pub is_new : Declared → ItemLine → Bool
is_new d (Whole (Tensor name dims formats latches)) = not (is_declared d name)
is_new d (OutOfRange name) = not (is_declared d name)
is_new d line = true

-- the item of a line whose numbers are in range
abbrev pub in_range : ItemLine → Result Item FileCause
in_range (Whole item) = Ok item
in_range (OutOfRange name) = Err because.Range

-- whether the limits on tensors, sessions and print lines are met, and that on the latches of all tensors together
abbrev pub is_within_limits : Declared → Bool
is_within_limits d = nat_le (length d.tensors) MOST_TENSORS && nat_le d.sessions MOST_SESSIONS && nat_le d.prints MOST_PRINTS && nat_le d.latches MOST_LATCHES

-- the item of a line that has a form, after what earlier lines declare; or its first fault
abbrev pub item_in_turn : Declared → ItemLine → Result Item FileCause
item_in_turn d line =
    check (is_in_order d line) because.Order >>= (λ _.
    check (is_known d line) because.Name >>= (λ _.
    check (is_new d line) because.Twice >>= (λ _.
    in_range line >>= (λ item.
    check (is_within_limits (declared_with d item)) because.Limit >>= (λ _.
    Ok item)))))

-- the item of a line after what earlier lines declare; or the line's first fault
abbrev pub item_after : Declared → List ℕ → Result Item FileCause
item_after d text =
    check (is_within_limit text) because.Limit >>= (λ _.
    ok_or (item_line (words_of text)) because.Form >>= (λ line.
    item_in_turn d line))

-- the item of a numbered line after earlier items, or the fault
abbrev pub numbered_item : List (ℕ × Item) → ℕ × List ℕ → Result (ℕ × Item) FileFault
numbered_item before line = at_line line.0 (item_after (declared_by before) line.1) >>= (λ item. Ok (line.0, item))

-- the items of a manifest with the numbers of their lines; or the first fault
abbrev pub manifest_of : List ℕ → Result (List (ℕ × Item)) FileFault
manifest_of text = each_after numbered_item [] (content_lines text)
