use Rattle.std.proofs.Common.{◌≡◌, ap, sym, subst}
use Rattle.std.specs.Result.{OnOk}
use Rattle.node_arena.specs.Kinds.{kinds_of, root_of, shape_at}
use Rattle.insert_gen.specs.Inserting.{HasRoom}
use Rattle.insert_gen.proofs.TrialLemmas.{RunsKept-grown, nodes-same, grown-moved, grown-run, room-grown, room-other}
use Rattle.insert_gen.proofs.tests.with_room.Goals as goal

pub grow_run-requires : goal.grow_run-requires
grow_run-requires c = record {
  there = grown-run (kinds_of c.args.code.now) (root_of c.args.code.now) c.args.arena.now c.args.top.now c.args.free.now c.in-Run.run' c.requires.grown
      c.in-Run.is;
}

pub returns-in-Run-clause-grown : goal.returns-in-Run-clause-grown
returns-in-Run-clause-grown c =
    grown-moved (kinds_of c.args.code.now) (root_of c.args.code.now) c.args.arena.now c.grow_run.new.self c.args.top.now c.args.free.now
    (nodes-same c.args.arena.now c.grow_run.new.self (ap (λ n. n.slots) c.grow_run.ensures.nodes)) (ap (λ n. n.most) c.grow_run.ensures.nodes)
    (RunsKept-grown c.args.arena.now c.grow_run.new.self c.in-Run.run' c.grow_run.ensures.run c.grow_run.ensures.others) c.requires.grown

pub returns-in-Run-clause-room : goal.returns-in-Run-clause-room
returns-in-Run-clause-room c =
    let there = grown-run (kinds_of c.args.code.now) (root_of c.args.code.now) c.args.arena.now c.args.top.now c.args.free.now c.in-Run.run'
    c.requires.grown c.in-Run.is in
    let kept = RunsKept-grown c.args.arena.now c.grow_run.new.self c.in-Run.run' c.grow_run.ensures.run c.grow_run.ensures.others in
    subst (λ o. OnOk c.grow_run.result (HasRoom o (shape_at (kinds_of c.args.code.now) (root_of c.args.code.now)) c.grow_run.new.self)) (sym c.in-Run.is)
    (room-grown c.args.arena.now c.grow_run.new.self (shape_at (kinds_of c.args.code.now) (root_of c.args.code.now)) c.in-Run.run' c.grow_run.result
    there kept c.grow_run.ensures.ok)

pub returns-in_default-clause-room : goal.returns-in_default-clause-room
returns-in_default-clause-room c =
    room-other c.args.arena.now c.args.top.now.top (shape_at (kinds_of c.args.code.now) (root_of c.args.code.now)) c.in_default.not-Run c.requires.some
