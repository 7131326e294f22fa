use Rattle.std.proofs.Common.{◌∷◌, [], Some, slice_set}
use Rattle.node_arena.specs.Arenas.{node_at}
use Rattle.node_arena.specs.Trees.{absent, done}
use Rattle.node_arena.proofs.ChangesLemmas.{DifferInFew-then}
use Rattle.insert_gen.specs.Below.{HasLinkAt}
use Rattle.insert_gen.proofs.PassingLemmas.{HasLinkAt-still, Relinks-set, DifferInFew-set}
use Rattle.insert_gen.proofs.passing.put_in_empty.Goals as goal

pub returns-clause-relinks : goal.returns-clause-relinks
returns-clause-relinks g c =
    let first = c.make_first-first.ensures.first in (
      Relinks-set c.args.kinds.now c.args.kind c.args.arena.now c.make_first-first.new.arena c.args.node c.args.place (c.args.elem ∷ []) (absent done)
          (Some c.make_first-first.result) first.below tt c.requires.there c.set_link.new.arena c.set_link.ensures.sets,
      first.deep,
    )

pub returns-clause-few : goal.returns-clause-few
returns-clause-few g c =
    let first = c.make_first-first.ensures.first in
    let still = HasLinkAt-still c.args.kinds.now c.args.kind c.args.arena.now c.make_first-first.new.arena c.args.node c.args.place (c.args.elem ∷ [])
    (absent done) (Some c.make_first-first.result) first.below tt c.requires.there in
    DifferInFew-then 1 1 c.args.arena.now c.make_first-first.new.arena c.set_link.new.arena c.make_first-first.ensures.few
    (DifferInFew-set c.make_first-first.new.arena c.set_link.new.arena c.args.node (node_at c.make_first-first.new.arena c.args.node)
    (λ n. record n { links = slice_set n.links c.args.place (Some c.make_first-first.result) }) (HasLinkAt c.args.place) still
    c.set_link.ensures.sets)
