use Rattle.std.proofs.Common.{length, arith}
use Rattle.dt_model.specs.Statements.{accesses}
use Rattle.index_check.proofs.Known.{small_parts, left_below, right_below, vars_below}
use Rattle.index_check.proofs.refusals.fault_of_terms.Goals as goal

pub accessless_in-requires : goal.accessless_in-requires
accessless_in-requires c = let few = (small_parts c.args.stmt.now c.requires.small).terms in record { few = omega (arith, few) }

pub uncovered_in_terms-requires : goal.uncovered_in_terms-requires
uncovered_in_terms-requires c =
    let s = c.args.stmt.now in
    let small = small_parts s c.requires.small in
    let few = small.terms in
    record {
      few = omega (arith, few);
      accesses = small.accesses;
      left = left_below s small.order;
      known = vars_below (length s.vars.items) (accesses s.right) (right_below s small.order);
    }
