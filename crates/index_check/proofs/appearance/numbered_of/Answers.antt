use Rattle.std.proofs.Common.{List, ℕ, ap, ◌∙◌}
use Rattle.std.specs.List.{flat_map}
use Rattle.dt_model.specs.Statements.{accesses}
use Rattle.dt_model.specs.Verdicts.{places_of}
use Rattle.index_check.specs.Small.{numbered_up_to}
use Rattle.index_check.proofs.SmallLemmas.{numbered_up_to-append, then_none, then_some}
use Rattle.index_check.proofs.appearance.numbered_of.Goals as goal

pub returns-in-None : goal.returns-in-None
returns-in-None c = record {
  value = then_none (λ n. numbered_up_to n c.args.stmt.now.left) (λ n. numbered_up_to n
      (flat_map (λ (a : List ℕ × List ℕ). a.1) (accesses c.args.stmt.now.right)))
      0 (numbered_up_to 0 (places_of c.args.stmt.now)) c.numbered_in.result
      (numbered_up_to-append 0 c.args.stmt.now.left (flat_map (λ (a : List ℕ × List ℕ). a.1) (accesses c.args.stmt.now.right)))
      (c.numbered_in.ensures.value ∙ ap (numbered_up_to 0) c.as_slice.ensures.value) c.in-None.is;
}

pub returns-in-Some : goal.returns-in-Some
returns-in-Some c = record {
  value = then_some (λ n. numbered_up_to n c.args.stmt.now.left) (λ n. numbered_up_to n
      (flat_map (λ (a : List ℕ × List ℕ). a.1) (accesses c.args.stmt.now.right)))
      0 (numbered_up_to 0 (places_of c.args.stmt.now)) c.numbered_in.result c.numbered_by.result c.in-Some.count
      (numbered_up_to-append 0 c.args.stmt.now.left (flat_map (λ (a : List ℕ × List ℕ). a.1) (accesses c.args.stmt.now.right)))
      (c.numbered_in.ensures.value ∙ ap (numbered_up_to 0) c.as_slice.ensures.value) c.in-Some.is c.numbered_by.ensures.value;
}
