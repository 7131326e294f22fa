use Rattle.block_list.specs.Chains.{Turns}
use Rattle.block_list.specs.declared.chains.Turn.TheVariants as turns
use Rattle.block_list.proofs.Searching.{comes-first, comes-ready, comes-there, comes-next, nearer}
use Rattle.block_list.proofs.chains.find.Goals as goal

pub along-init : goal.along-init
along-init c = λ t h. comes-first c.args.kinds.now c.args.arena.now c.args.elem.now c.requires.sound c.args.node t h c.requires.chain

pub turn_at-requires : goal.turn_at-requires
turn_at-requires c = record {
  there = comes-ready c.args.kinds.now c.args.arena.now c.args.elem.now c.requires.sound c.along.here c.requires.stands.0
      (c.along.invariant c.requires.stands.0 c.requires.stands.1);
}

pub returns-in-Into : goal.returns-in-Into
returns-in-Into c = record {
  finds = λ t h.
      let comes = c.along.invariant t h in (
        comes,
        comes-there c.args.kinds.now c.args.arena.now c.args.elem.now c.requires.sound c.along.here t
            (λ n. Turns c.args.kinds.now c.args.elem.now.at n turns.Into) comes c.in-Into.ensures.turns,
      );
}

pub along-smaller : goal.along-smaller
along-smaller c = nearer c.args.kinds.now c.args.arena.now c.args.elem.now c.requires.sound c.along.here c.requires.stands.0 c.in-On.next
    (c.along.invariant c.requires.stands.0 c.requires.stands.1) c.in-On.ensures.turns

pub along-preserved : goal.along-preserved
along-preserved c = λ t h. comes-next c.args.kinds.now c.args.arena.now c.args.elem.now c.requires.sound c.along.here t c.in-On.next
    (c.along.invariant t h) c.in-On.ensures.turns

pub returns-in-Behind : goal.returns-in-Behind
returns-in-Behind c = record {
  finds = λ t h.
      let comes = c.along.invariant t h in (
        comes,
        comes-there c.args.kinds.now c.args.arena.now c.args.elem.now c.requires.sound c.along.here t
            (λ n. Turns c.args.kinds.now c.args.elem.now.at n turns.Behind) comes c.in-Behind.ensures.turns,
      );
}
