use Rattle.std.proofs.Common.{◌≡◌, ◌++◌, ◌+◌, ◌*◌, length, drop, flat_map}
use Rattle.node_arena.specs.Modes.{under, entries_held, entries_in}
use Rattle.nested_modes.specs.Codes.{modes_of}
use Rattle.nested_modes.specs.Listing.{listed}
use Rattle.nested_modes.proofs.listing.+listing.Given as goal

abbrev pub decreases-list_held : goal.decreases-list_held
decreases-list_held l = 2 * length l.later.now + 1

abbrev pub decreases-list_below : goal.decreases-list_below
decreases-list_below l = 2 * length l.walks.now

-- what is listed and what is left is all
abbrev pub invariant-list_below-loop-index : goal.invariant-list_below-loop-index
invariant-list_below-loop-index l =
    l.out ++ listed l.at (flat_map (λ e. under e.at (entries_held (λ st. entries_in (modes_of l.later l.below) st) e.held)) (drop l.index l.list.elems.items))
    ≡ l.fn.out ++ listed l.at (flat_map (λ e. under e.at (entries_held (λ st. entries_in (modes_of l.later l.below) st) e.held)) l.list.elems.items)
