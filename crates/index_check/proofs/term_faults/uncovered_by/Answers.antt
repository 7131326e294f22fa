use Rattle.std.proofs.Common.{ℕ, Bool, List, not, ap, ◌∙◌}
use Rattle.std.specs.Prelude.{◌&&◌, find}
use Rattle.std.specs.List.{flat_map}
use Rattle.std.specs.Option.{option_map}
use Rattle.dt_model.specs.declared.replies.Refusal.TheVariants as because
use Rattle.dt_model.specs.Statements.{contains_number, accesses}
use Rattle.dt_model.specs.Refusals.{covers, nth_name}
use Rattle.index_check.proofs.Own.{term_some, term_none}
use Rattle.index_check.proofs.term_faults.uncovered_by.Goals as goal

pub returns-in-Some : goal.returns-in-Some
returns-in-Some c =
    let s = c.args.stmt.now in
    let P : ℕ → Bool = λ v. not (covers c.args.expr.now v) in
    record {
      value = term_some (λ v. because.Uncovered c.args.term (nth_name s.vars.items v)) P s.left (flat_map (λ (a : List ℕ
          × List ℕ). a.1) (accesses c.args.expr.now)) c.uncovered_in.result c.in-Some.fault
          (c.uncovered_in.ensures.value ∙ ap (λ ns. option_map (λ v. because.Uncovered c.args.term (nth_name ns v)) (find P c.as_slice-2.result.now))
          c.as_slice.ensures.value
          ∙ ap (λ vs. option_map (λ v. because.Uncovered c.args.term (nth_name s.vars.items v)) (find P vs)) c.as_slice-2.ensures.value)
          c.in-Some.is;
    }

pub returns-in-None : goal.returns-in-None
returns-in-None c =
    let s = c.args.stmt.now in
    let P : ℕ → Bool = λ v. not (covers c.args.expr.now v) in
    record {
      value = term_none (λ v. because.Uncovered c.args.term (nth_name s.vars.items v)) P s.left (flat_map (λ (a : List ℕ
          × List ℕ). a.1) (accesses c.args.expr.now)) c.uncovered_in.result c.uncovered_in_access.result
          (c.uncovered_in.ensures.value ∙ ap (λ ns. option_map (λ v. because.Uncovered c.args.term (nth_name ns v)) (find P c.as_slice-2.result.now))
          c.as_slice.ensures.value
          ∙ ap (λ vs. option_map (λ v. because.Uncovered c.args.term (nth_name s.vars.items v)) (find P vs)) c.as_slice-2.ensures.value)
          c.in-None.is
          (c.uncovered_in_access.ensures.value
          ∙ ap (λ ns. option_map (λ v. because.Uncovered c.args.term (nth_name ns v)) (find (λ v. not (contains_number c.as_slice-in-None-2.result.now v)
          && P v) (flat_map (λ (a : List ℕ × List ℕ). a.1) c.args.list.now))) c.as_slice-in-None.ensures.value
          ∙ ap (λ vs. option_map (λ v. because.Uncovered c.args.term (nth_name s.vars.items v)) (find (λ v. not (contains_number vs v)
          && P v) (flat_map (λ (a : List ℕ × List ℕ). a.1) c.args.list.now))) c.as_slice-in-None-2.ensures.value
          ∙ ap (λ (l : List (List ℕ × List ℕ)). option_map (λ v. because.Uncovered c.args.term (nth_name s.vars.items v))
          (find (λ v. not (contains_number s.left v) && P v) (flat_map (λ (a : List ℕ × List ℕ). a.1) l))) c.requires.accesses);
    }
