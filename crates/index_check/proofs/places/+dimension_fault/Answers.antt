use Rattle.std.proofs.Common.{◌<◌, length, get_or, rules}
use Rattle.index_check.proofs.Firsts.{fault_free, fault_held}
use Rattle.index_check.proofs.places.+dimension_fault.Goals as goal

pub returns-in-None : goal.returns-in-None
returns-in-None t c =
    let low : (get_or c.args.places.now 0 (0, 0)).0 < length c.args.firsts = search rules in
    record {
      value = λ seen h. fault_free c.args.names.now seen c.args.places.now c.args.firsts c.dimension_fault.result c.in-len1-up.len_at_least low
          c.in-None.is c.dimension_fault.ensures.value h;
    }

pub returns-then-first-place : goal.returns-then-first-place
returns-then-first-place t c = record {
  value = λ seen h. fault_held c.args.names.now seen c.args.places.now c.args.firsts
      c.dimension_fault-then-first-place.result c.in-Some.first c.in-len1-up.len_at_least c.in-Some.is c.if-first-place.true
      c.dimension_fault-then-first-place.ensures.value h;
}
