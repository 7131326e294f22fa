use Rattle.std.proofs.Common.{refl, arith}
use Rattle.fiber_store.proofs.tests.second_of_v.Goals as goal

pub open-requires : goal.open-requires
open-requires c = rw (c.requires.decls, c.new.ensures.value) (record {
  valid = refl;
  declared = omega arith;
  latched = omega arith;
  cells = λ k d l. absurd (omega arith);
  ascending = λ i j d l m. absurd (omega arith);
})
