use Rattle.chunk_tree.proofs.Whole.{chunks-of, run-there, settle-leaves, beside-leaves, Cheap, settle-cheap, beside-cheap}
use Rattle.chunk_tree.proofs.inserting.insert.Goals as goal

pub find-here-requires-clause-tree : goal.find-here-requires-clause-tree
find-here-requires-clause-tree g c =
    (c.requires.tree.0, chunks-of c.args.kinds.now c.args.arena.now c.args.elem c.args.node c.requires.tree.0 c.requires.tree.1 c.requires.two_links)

pub settle-requires-clause-there : goal.settle-requires-clause-there
settle-requires-clause-there g c =
    run-there c.args.kinds.now c.args.arena.now c.args.elem c.find-here.result.0 c.find-here.result.1 c.find-here.result.2 c.requires.tree.0 c.requires.sound
    (c.find-here.ensures.finds c.requires.tree.0
    (chunks-of c.args.kinds.now c.args.arena.now c.args.elem c.args.node c.requires.tree.0 c.requires.tree.1 c.requires.two_links))
    c.requires.serves

pub put_beside-requires-clause-there : goal.put_beside-requires-clause-there
put_beside-requires-clause-there g c =
    run-there c.args.kinds.now c.args.arena.now c.args.elem c.find-here.result.0 c.find-here.result.1 c.find-here.result.2 c.requires.tree.0 c.requires.sound
    (c.find-here.ensures.finds c.requires.tree.0
    (chunks-of c.args.kinds.now c.args.arena.now c.args.elem c.args.node c.requires.tree.0 c.requires.tree.1 c.requires.two_links))
    c.requires.serves

pub returns-in-None : goal.returns-in-None
returns-in-None g c =
    let there = run-there c.args.kinds.now c.args.arena.now c.args.elem c.find-here.result.0 c.find-here.result.1 c.find-here.result.2
    c.requires.tree.0 c.requires.sound
    (c.find-here.ensures.finds c.requires.tree.0
    (chunks-of c.args.kinds.now c.args.arena.now c.args.elem c.args.node c.requires.tree.0 c.requires.tree.1 c.requires.two_links))
    c.requires.serves in
    let cheap : Cheap c.args.arena.now c.settle.new.arena c.args.steps.now c.settle.new.steps =
    settle-cheap c.args.kinds.now c.args.arena.now c.settle.new.arena c.args.elem c.find-here.result.0 c.find-here.result.2 c.args.steps.now c.settle.new.steps
    c.settle.result there c.settle.ensures.settles in
    record {
      left = λ t h.
          settle-leaves c.args.kinds.now c.args.arena.now c.settle.new.arena c.args.elem c.find-here.result.0 c.find-here.result.2 t
          c.args.steps.now c.settle.new.steps
          c.requires.sound h.lacks
          c.find-here.result.1 c.in-None.is
          (c.find-here.ensures.finds t (chunks-of c.args.kinds.now c.args.arena.now c.args.elem c.args.node t h c.requires.two_links)) c.settle.result
          c.settle.ensures.settles;
      few = cheap.few;
      spare = cheap.spare;
      steps = cheap.steps;
      runs = cheap.runs;
      most = cheap.most;
      places = cheap.places;
    }

pub returns-in-Some : goal.returns-in-Some
returns-in-Some g c =
    let there = run-there c.args.kinds.now c.args.arena.now c.args.elem c.find-here.result.0 c.find-here.result.1 c.find-here.result.2
    c.requires.tree.0 c.requires.sound
    (c.find-here.ensures.finds c.requires.tree.0
    (chunks-of c.args.kinds.now c.args.arena.now c.args.elem c.args.node c.requires.tree.0 c.requires.tree.1 c.requires.two_links))
    c.requires.serves in
    let cheap : Cheap c.args.arena.now c.put_beside.new.arena c.args.steps.now c.put_beside.new.steps =
    beside-cheap c.args.kinds.now c.args.arena.now c.put_beside.new.arena c.args.elem c.find-here.result.0 c.find-here.result.2
    c.args.steps.now c.put_beside.new.steps
    c.in-Some.side c.put_beside.result there
    c.put_beside.ensures.goes in
    record {
      left = λ t h.
          beside-leaves c.args.kinds.now c.args.arena.now c.put_beside.new.arena c.args.elem c.find-here.result.0 c.find-here.result.2 t
          c.args.steps.now c.put_beside.new.steps
          c.requires.sound h.lacks
          c.find-here.result.1 c.in-Some.side c.in-Some.is
          (c.find-here.ensures.finds t (chunks-of c.args.kinds.now c.args.arena.now c.args.elem c.args.node t h c.requires.two_links)) c.put_beside.result
          c.put_beside.ensures.goes;
      few = cheap.few;
      spare = cheap.spare;
      steps = cheap.steps;
      runs = cheap.runs;
      most = cheap.most;
      places = cheap.places;
    }
