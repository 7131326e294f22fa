use Rattle.std.proofs.Common.{◌-◌, sym, ◌∙◌, ap, arith}
use Rattle.node_arena.specs.Arenas.{coordinate_at}
use Rattle.iter_gen.proofs.FromLemmas.{place-whole}
use Rattle.iter_gen.proofs.walking.place_from.Goals as goal

pub returns-then-last-at : goal.returns-then-last-at
returns-then-last-at c = record {
  value = c.len-len.ensures.value ∙ sym (place-whole c.args.at c.args.node.now.run c.in-Some.last c.requires.rising
      (ap (λ k. coordinate_at c.args.node.now.run (k - 1)) (sym c.len-len.ensures.value) ∙ sym c.in-Some.ensures.value)
      (let b = c.if-last-at.true in omega (arith, b)));
}
