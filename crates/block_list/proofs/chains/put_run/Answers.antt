use Rattle.std.proofs.Common.{ap}
use Rattle.node_arena.specs.Arenas.{node_at}
use Rattle.block_list.proofs.Parting.{room-there, put-done, comes-some, few-one}
use Rattle.block_list.proofs.chains.put_run.Goals as goal

pub insert-requires : goal.insert-requires
insert-requires g c = record {
  there = room-there c.args.kinds.now c.args.arena.now c.args.elem c.requires.sound c.args.node c.requires.stands.0 c.requires.stands.1.0 c.requires.serves
      c.place-place.result c.kind.result c.kind_of-hi.result.hi c.len.result c.place-place.ensures.value c.kind.ensures.value
      (ap (λ k. k.hi) c.kind_of-hi.ensures.value) c.len.ensures.value c.if-len-hi.false;
}

pub returns-clause-left : goal.returns-clause-left
returns-clause-left g c = λ t f.
    put-done c.args.kinds.now c.args.arena.now c.args.elem c.requires.sound c.args.node t f.0 c.insert.new.self
    c.place-place.result c.kind.result c.kind_of-hi.result.hi c.len.result 0 0 f.1 c.place-place.ensures.value c.kind.ensures.value
    (ap (λ k. k.hi) c.kind_of-hi.ensures.value) c.len.ensures.value c.if-len-hi.false
    c.insert.ensures.node

pub returns-clause-few : goal.returns-clause-few
returns-clause-few g c =
    few-one c.args.arena.now c.insert.new.self c.args.node (node_at c.args.arena.now c.args.node) _
    (comes-some c.args.kinds.now c.args.arena.now c.args.elem c.requires.sound c.args.node c.requires.stands.0 c.requires.stands.1.0) c.insert.ensures.node
