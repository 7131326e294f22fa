use Rattle.std.proofs.Common.{◌≡◌, ap, ◌∙◌, ◌++◌, sym, subst}
use Rattle.std.specs.Prelude.{filter}
use Rattle.std.proofs.lemmas.List.Kept.{AllPairs-filter}
use Rattle.std.specs.Cmp.Lexicographic.{slice_cmp}
use Rattle.std.specs.Ordering.{nat_cmp}
use Rattle.std.specs.declared.cmp.Ordering.TheVariants.{Less}
use Rattle.dt_model.specs.Pairs.{IsAscending}
use Rattle.node_arena.specs.Modes.{entries_in}
use Rattle.nested_modes.specs.Codes.{modes_of}
use Rattle.nested_modes.specs.Listing.{listed}
use Rattle.nested_modes.proofs.AscendingLemmas.{IsAscending-entries}
use Rattle.nested_modes.proofs.ListingLemmas.{isnt-zero, listed-all}
use Rattle.nested_modes.proofs.listing.list.Goals as goal

pub returns : goal.returns
returns c =
    let ms = modes_of c.args.walks.now c.args.arenas.now in
    let entries = entries_in ms c.args.top.now in
    let all : c.list_below.new.out ≡ filter isnt-zero entries =
    c.in_ok-list_below.ensures.ok ∙ ap (λ l. l ++ listed c.new.result entries) c.new-out.ensures.value
    ∙ ap (λ at. listed at entries) c.new.ensures.value ∙ listed-all entries in
    record {
      value = all;
      ascending = subst IsAscending (sym all)
          (AllPairs-filter (λ p q. slice_cmp nat_cmp p.0 q.0 ≡ Less) isnt-zero entries (IsAscending-entries ms c.args.top.now c.requires.nested));
    }
