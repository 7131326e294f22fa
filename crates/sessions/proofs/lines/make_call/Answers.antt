use Rattle.sessions.proofs.NotingLemmas.{never_stopped}
use Rattle.sessions.proofs.lines.make_call.Goals as goal

pub unreachable-requires : goal.unreachable-requires
unreachable-requires g c =
    never_stopped g.T.Taker.waits _ _ c.args.seat.now c.read.new.seat c.requires.unstopped c.in-Err.ensures.notes

pub unreachable-requires-in-Err-Held : goal.unreachable-requires-in-Err-Held
unreachable-requires-in-Err-Held g c =
    let notes = rw c.in-Err-Held.field-0-is at c.in-Err-Held.ensures.notes in
    never_stopped g.T.Taker.waits _ _ c.args.seat.now c.make.new.seat c.requires.unstopped notes

pub unreachable-requires-in-Err-Held-evaluate : goal.unreachable-requires-in-Err-Held-evaluate
unreachable-requires-in-Err-Held-evaluate g c =
    let notes = rw c.in-Err-Held-evaluate.field-0-is at c.in-Err-Held-evaluate.ensures.notes in
    never_stopped g.T.Taker.waits _ _ c.args.seat.now c.evaluate.new.seat c.requires.unstopped notes
