use Rattle.std.proofs.Common.{◌≡◌, ap, ◌∙◌, subst, arith}
use Rattle.node_arena.specs.Arenas.{places_for}
use Rattle.node_arena.specs.Rules.{Serves}
use Rattle.node_arena.proofs.KindsLemmas.{longest_of-sound, Serves-new}
use Rattle.insert_gen.proofs.tests.arena_for.Goals as goal

pub new-requires : goal.new-requires
new-requires c =
    let low = longest_of-sound c.kinds.result.now c.kinds.ensures.sound in
    let is = c.longest_of.ensures.value in
    record { in_range = omega (arith, low, is) }

pub returns : goal.returns
returns c = record {
  serves = subst (λ s. Serves s c.new.result) c.kinds.ensures.value
      (Serves-new c.kinds.result.now c.new.result c.kinds.ensures.sound (c.new.ensures.size ∙ ap places_for c.longest_of.ensures.value));
}
