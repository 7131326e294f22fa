use Rattle.std.proofs.Common.{ap, arith}
use Rattle.node_arena.specs.Arenas.{run_at}
use Rattle.insert_gen.proofs.RunLemmas.{room-run, room-empty, CanInsert-place, top-empty, put-run-of, put-new-of, runs_for-empty, KeepsRoom-new}
use Rattle.insert_gen.proofs.RunLemmas.{HasRoomLeft-new}
use Rattle.insert_gen.proofs.flat.put_in_run.Goals as goal

pub run_insert-requires : goal.run_insert-requires
run_insert-requires c = record {
  there = CanInsert-place (run_at c.args.arena.now c.in-Run.run') c.args.elem.at c.run_place-place.result
      (room-run _ c.args.old.now.top c.args.arena.now c.in-Run.run' c.in-Run.is c.requires.room) c.run_place-place.ensures.value;
}

pub returns-in-Run-clause-walk : goal.returns-in-Run-clause-walk
returns-in-Run-clause-walk c = λ t h.
    let q = c.requires.tree in
    put-run-of c.args.kinds.now c.args.kind c.args.arena.now c.run_insert.new.self c.args.elem c.args.old.now c.longer.result t q.0 c.in-Run.run'
    c.run_place-place.result h q.1 q.2 q.3 c.in-Run.is c.run_place-place.ensures.value c.run_insert.ensures.run c.longer.ensures.value

pub returns-in_default-clause-walk : goal.returns-in_default-clause-walk
returns-in_default-clause-walk c = λ t h.
    let q = c.requires.tree in
    put-new-of c.args.kinds.now c.args.kind c.args.arena.now c.run_insert-in_default.new.self c.args.elem c.args.old.now c.longer-in_default.result t q.0
    c.make_run-run.new.self c.make_run-run.result h q.1 q.2 c.requires.flat c.in_default.not-Run c.make_run-run.ensures.is_new
    c.make_run-run.ensures.run c.run_insert-in_default.ensures.run c.longer-in_default.ensures.value

pub returns-in_default-clause-spare : goal.returns-in_default-clause-spare
returns-in_default-clause-spare c =
    let q = c.requires.tree in
    let none = (top-empty c.args.kinds.now c.args.kind c.args.arena.now c.args.old.now q.0 c.requires.flat q.1 q.2 c.in_default.not-Run).0 in
    let one = runs_for-empty _ c.args.old.now.top c.requires.flat none in
    omega (arith, one, c.make_run-run.ensures.spare, c.run_insert-in_default.ensures.spare)

pub returns-in_default-clause-room : goal.returns-in_default-clause-room
returns-in_default-clause-room c =
    let q = c.requires.tree in
    let none = (top-empty c.args.kinds.now c.args.kind c.args.arena.now c.args.old.now q.0 c.requires.flat q.1 q.2 c.in_default.not-Run).0 in
    KeepsRoom-new c.args.old.now.top c.args.arena.now c.make_run-run.new.self c.run_insert-in_default.new.self c.args.elem c.make_run-run.result none
    c.make_run-run.ensures.is_new c.make_run-run.ensures.run c.run_insert-in_default.ensures.run

pub returns-in_default-clause-left : goal.returns-in_default-clause-left
returns-in_default-clause-left c =
    let q = c.requires.tree in
    let none = (top-empty c.args.kinds.now c.args.kind c.args.arena.now c.args.old.now q.0 c.requires.flat q.1 q.2 c.in_default.not-Run).0 in
    HasRoomLeft-new c.args.old.now c.longer-in_default.result c.args.arena.now c.make_run-run.new.self c.run_insert-in_default.new.self c.args.elem
    c.make_run-run.result (room-empty c.args.old.now.top _ c.args.arena.now none c.requires.flat c.requires.room)
    c.make_run-run.ensures.run c.run_insert-in_default.ensures.run (ap (λ v. v.top) c.longer-in_default.ensures.value)
