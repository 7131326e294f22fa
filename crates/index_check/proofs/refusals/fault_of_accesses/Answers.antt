use Rattle.std.proofs.Common.{List, [], ℕ, map, ap, sym, ◌∙◌}
use Rattle.dt_model.specs.Refusals.{first_of_all, undeclared_fault, rank_fault, dimension_fault, repeated_fault}
use Rattle.index_check.proofs.Joining.{or_none}
use Rattle.index_check.proofs.refusals.fault_of_accesses.Goals as goal

pub returns-in-None-repeated_fault : goal.returns-in-None-repeated_fault
returns-in-None-repeated_fault c =
    let d = c.args.decls.now in
    let s = c.args.stmt.now in
    let accs = c.args.list.now in
    let names = s.vars.items in
    let r = c.repeated_in_access.result in
    record {
      value =
          or_none (first_of_all (map (undeclared_fault d) accs)) _ r (sym c.undeclared_in.ensures.value ∙ c.in-None.is)
          (or_none (first_of_all (map (rank_fault d) accs)) _ r (sym c.misranked_in.ensures.value ∙ c.in-None-misranked_in.is)
          (or_none (dimension_fault names [] c.args.places.now) _ r (ap (λ ns. dimension_fault ns [] c.args.places.now) (sym c.as_slice.ensures.value)
          ∙ sym c.misfit_in.ensures.value ∙ c.in-None-misfit_in.is)
          (or_none (repeated_fault names s.left) _ r (ap (λ ns. repeated_fault ns s.left) (sym c.as_slice-in-None-misfit_in.ensures.value)
          ∙ ap (repeated_fault c.as_slice-in-None-misfit_in.result.now) (sym c.as_slice-in-None-misfit_in-2.ensures.value)
          ∙ sym c.repeated_fault.ensures.value ∙ c.in-None-repeated_fault.is)
          (c.repeated_in_access.ensures.value ∙ ap (λ ns. first_of_all (map (λ (a : List ℕ
          × List ℕ). repeated_fault ns a.1) accs)) c.as_slice-in-None-repeated_fault.ensures.value))));
    }
