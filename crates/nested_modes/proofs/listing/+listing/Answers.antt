use Rattle.std.proofs.Common.{rules, ◌++◌, ap, ◌∙◌, ℕ, List}
use Rattle.node_arena.specs.Modes.{entries_held, entries_in}
use Rattle.nested_modes.specs.Codes.{modes_of}
use Rattle.nested_modes.specs.Listing.{listed}
use Rattle.nested_modes.proofs.ListingLemmas.{listed-step}
use Rattle.nested_modes.proofs.listing.+listing.Goals as goal

pub list_below-loop-index-preserved : goal.list_below-loop-index-preserved
list_below-loop-index-preserved t c =
    listed-step c.args.at.now (λ e. e.at) (λ e. entries_held (λ st. entries_in (modes_of c.in-Some.later.now c.in-Some-split_first.below.now) st) e.held)
    c.gather.new.list.elems.items c.loop-index.index c.index.result.now c.loop-index.out c.list_held.new.out _
    (search rules) (search rules) c.loop-index.invariant
    (c.in_ok-list_held.ensures.ok
    ∙ ap (λ (l : List ℕ). c.loop-index.out ++ listed l
    (entries_held (λ st. entries_in (modes_of c.in-Some.later.now c.in-Some-split_first.below.now) st) c.index.result.now.held)) c.behind.ensures.value)
