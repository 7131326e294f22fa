use Rattle.std.proofs.Common.{◌≤◌, ap, ◌∙◌, arith}
use Rattle.node_arena.specs.Arenas.{places_for}
use Rattle.node_arena.specs.Kinds.{longest_of}
use Rattle.node_arena.proofs.KindsLemmas.{Serves-new, longest_of-sound}
use Rattle.structure_bench.proofs.works.arena_for.Goals as goal

pub new-requires : goal.new-requires
new-requires c =
    let low : longest_of c.args.kinds.now ≤ 16 = longest_of-sound c.args.kinds.now c.requires.sound in
    let e = c.longest_of.ensures.value in
    record { in_range = omega arith }

pub returns : goal.returns
returns c = record {
  serves = Serves-new c.args.kinds.now c.new.result c.requires.sound (c.new.ensures.size ∙ ap places_for c.longest_of.ensures.value);
}
