use Rattle.std.proofs.Common.{refl, sym}
use Rattle.dt_outside.proofs.memory_shelves.MemShelfShelf.fetch.Goals as goal

pub returns-in-None-clause-failed : goal.returns-in-None-clause-failed
returns-in-None-clause-failed c = rw (sym c.self.view_is, sym c.as_bytes.ensures.value) (λ _. c.in-None.ensures.none.0 refl, λ _. refl)
