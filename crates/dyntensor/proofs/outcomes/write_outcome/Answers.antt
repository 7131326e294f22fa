use Rattle.dyntensor.proofs.outcomes.write_outcome.Goals as goal

pub returns-in-Usage : goal.returns-in-Usage
returns-in-Usage g c = record { written = rw c.in-Usage.is c.write_text-in-Usage.ensures.written }
