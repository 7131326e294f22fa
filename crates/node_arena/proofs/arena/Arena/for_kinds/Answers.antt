use Rattle.std.proofs.Common.{◌≤◌, ap, ◌∙◌, arith}
use Rattle.node_arena.specs.Arenas.{places_for}
use Rattle.node_arena.specs.Kinds.{longest_of}
use Rattle.node_arena.proofs.KindsLemmas.{Serves-new, longest_of-sound}
use Rattle.node_arena.proofs.arena.Arena.for_kinds.Goals as goal

pub new-requires : goal.new-requires
new-requires c =
    let low : longest_of c.args.kinds.now ≤ 16 = longest_of-sound c.args.kinds.now c.requires.sound in
    let e = c.longest_of.ensures.value in
    record { in_range = omega arith }

pub returns-clause-size : goal.returns-clause-size
returns-clause-size c = c.new.ensures.size ∙ ap places_for c.longest_of.ensures.value

pub returns-clause-serves : goal.returns-clause-serves
returns-clause-serves c = Serves-new c.args.kinds.now c.new.result c.requires.sound (c.new.ensures.size ∙ ap places_for c.longest_of.ensures.value)
