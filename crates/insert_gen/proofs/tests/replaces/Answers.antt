use Rattle.std.proofs.Common.{refl}
use Rattle.insert_gen.proofs.TrialLemmas.{grown-empty}
use Rattle.insert_gen.proofs.tests.replaces.Goals as goal

pub put-requires : goal.put-requires
put-requires g c = record { grown = grown-empty _ _ _ _ _ refl c.arena_for-arena.ensures.serves }
