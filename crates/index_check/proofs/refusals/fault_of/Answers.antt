use Rattle.std.proofs.Common.{◌<◌, length, ap, sym, ◌∙◌, subst, All, ℕ}
use Rattle.dt_model.specs.Statements.{accesses}
use Rattle.index_check.specs.Parts.{AllVarsBelow, all_places}
use Rattle.index_check.proofs.Known.{small_parts, left_below, right_below, vars_below, all_places_below}
use Rattle.index_check.proofs.refusals.fault_of.Goals as goal

pub accesses_of-list-requires : goal.accesses_of-list-requires
accesses_of-list-requires c = record { few = (small_parts c.args.stmt.now c.requires.small).accesses }

pub fault_of_accesses-requires-clause-left : goal.fault_of_accesses-requires-clause-left
fault_of_accesses-requires-clause-left c = left_below c.args.stmt.now (small_parts c.args.stmt.now c.requires.small).order

pub fault_of_accesses-requires-clause-known : goal.fault_of_accesses-requires-clause-known
fault_of_accesses-requires-clause-known c =
    let s = c.args.stmt.now in
    subst (AllVarsBelow (length s.vars.items)) (sym (c.as_slice-2.ensures.value ∙ c.accesses_of-list.ensures.value))
    (vars_below (length s.vars.items) (accesses s.right) (right_below s (small_parts s c.requires.small).order))

pub fault_of_accesses-requires-clause-placed : goal.fault_of_accesses-requires-clause-placed
fault_of_accesses-requires-clause-placed c =
    let s = c.args.stmt.now in
    subst (All (λ (p : ℕ × ℕ). p.0 < length s.vars.items)) (sym (c.as_slice-3.ensures.value ∙ c.places_of-places.ensures.value
    ∙ ap (all_places c.args.decls.now) (c.as_slice.ensures.value ∙ c.accesses_of-list.ensures.value)))
    (all_places_below (length s.vars.items) c.args.decls.now (accesses s.right) (right_below s (small_parts s c.requires.small).order))
