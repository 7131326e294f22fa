use Rattle.std.proofs.Common.{refl, sym, subst}
use Rattle.dt_model.specs.declared.calls.Call.TheVariants.{Batch}
use Rattle.sessions.specs.Calling.{HasFault}
use Rattle.sessions.proofs.NotingLemmas.{HasFault-noted}
use Rattle.sessions.proofs.engine.Engine.try_batch.Goals as goal

pub returns-in-Err-clause-fault : goal.returns-in-Err-clause-fault
returns-in-Err-clause-fault c =
    let given = c.args.updates in
    subst (λ f. HasFault (Batch given) given c.args.seat.now f c.make.new.seat) (sym c.with_back.ensures.value)
    (HasFault-noted (Batch given) given given c.in-Err.fault c.args.seat.now c.make.new.seat refl c.in-Err.ensures.err c.in-Err.ensures.notes)
