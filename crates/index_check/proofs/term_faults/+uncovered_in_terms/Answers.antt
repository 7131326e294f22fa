use Rattle.std.proofs.Common.{◌+◌, length, map, not, ap, sym, subst, ◌∙◌, arith}
use Rattle.std.specs.List.{enumerate_from}
use Rattle.dt_model.specs.Statements.{accesses, terms_under}
use Rattle.dt_model.specs.Refusals.{first_of_all, cover_fault}
use Rattle.dt_model.proofs.StatementsLemmas.{accesses-Plus, accesses-Minus, accesses-Negate, terms_under-Plus, terms_under-Minus, terms_under-Negate}
use Rattle.index_check.proofs.FaultsLemmas.{fault_before, fault_behind}
use Rattle.index_check.specs.Parts.{AllVarsBelow}
use Rattle.index_check.proofs.Known.{known_first, known_second}
use Rattle.index_check.proofs.Laws.{length_accesses-Plus, length_accesses-Minus, length_accesses-Negate, length_terms-Plus, length_terms-Minus, length_terms-Negate}
use Rattle.index_check.proofs.Nodes.{nodes, nodes-Plus, nodes-Minus, nodes-Negate}
use Rattle.index_check.proofs.term_faults.+uncovered_in_terms.Goals as goal

-- ---- fewer nodes, and few terms

pub uncovered_in_terms-requires : goal.uncovered_in_terms-requires
uncovered_in_terms-requires t c =
    let fewer = ap nodes c.in-Plus.is ∙ nodes-Plus c.in-Plus.a c.in-Plus.b in
    let part = ap nodes c.get.ensures in
    let sizes = ap (λ e. length (terms_under c.args.added e)) c.in-Plus.is ∙ length_terms-Plus c.args.added c.in-Plus.a c.in-Plus.b in
    let own = ap (λ e. length (terms_under c.args.added e)) c.get.ensures in
    let few = c.requires.few in
    let all = ap (λ e. length (accesses e)) c.in-Plus.is ∙ length_accesses-Plus c.in-Plus.a c.in-Plus.b in
    let some = ap (λ e. length (accesses e)) c.get.ensures in
    let most = c.requires.accesses in (
      omega (arith, fewer, part),
      (
        omega (arith, sizes, own, few),
        (
          omega (arith, all, some, most),
          (
            c.requires.left,
            known_first (length c.args.stmt.now.vars.items) (accesses c.in-Plus.a) (accesses c.in-Plus.b) (accesses c.args.expr.now) (accesses c.get.result.now)
                (ap accesses c.in-Plus.is ∙ accesses-Plus c.in-Plus.a c.in-Plus.b) (ap accesses c.get.ensures) c.requires.known,
          ),
        ),
      ),
    )

pub uncovered_in_terms-requires-in-None : goal.uncovered_in_terms-requires-in-None
uncovered_in_terms-requires-in-None t c =
    let fewer = ap nodes c.in-Plus.is ∙ nodes-Plus c.in-Plus.a c.in-Plus.b in
    let part = ap nodes c.get-in-None.ensures in
    let sizes = ap (λ e. length (terms_under c.args.added e)) c.in-Plus.is ∙ length_terms-Plus c.args.added c.in-Plus.a c.in-Plus.b in
    let own = ap (λ e. length (terms_under c.args.added e)) c.get-in-None.ensures in
    let few = c.requires.few in
    let before = c.count_terms.ensures.value ∙ ap (λ e. length (terms_under c.args.added e)) c.get-in-None-2.ensures in
    let all = ap (λ e. length (accesses e)) c.in-Plus.is ∙ length_accesses-Plus c.in-Plus.a c.in-Plus.b in
    let some = ap (λ e. length (accesses e)) c.get-in-None.ensures in
    let most = c.requires.accesses in (
      omega (arith, fewer, part),
      (
        omega (arith, sizes, own, few, before),
        (
          omega (arith, all, some, most),
          (
            c.requires.left,
            known_second (length c.args.stmt.now.vars.items) (accesses c.in-Plus.a) (accesses c.in-Plus.b) (accesses c.args.expr.now)
                (accesses c.get-in-None.result.now)
                (ap accesses c.in-Plus.is ∙ accesses-Plus c.in-Plus.a c.in-Plus.b) (ap accesses c.get-in-None.ensures) c.requires.known,
          ),
        ),
      ),
    )

pub uncovered_in_terms-requires-in-Minus : goal.uncovered_in_terms-requires-in-Minus
uncovered_in_terms-requires-in-Minus t c =
    let fewer = ap nodes c.in-Minus.is ∙ nodes-Minus c.in-Minus.a c.in-Minus.b in
    let part = ap nodes c.get-in-Minus.ensures in
    let sizes = ap (λ e. length (terms_under c.args.added e)) c.in-Minus.is ∙ length_terms-Minus c.args.added c.in-Minus.a c.in-Minus.b in
    let own = ap (λ e. length (terms_under c.args.added e)) c.get-in-Minus.ensures in
    let few = c.requires.few in
    let all = ap (λ e. length (accesses e)) c.in-Minus.is ∙ length_accesses-Minus c.in-Minus.a c.in-Minus.b in
    let some = ap (λ e. length (accesses e)) c.get-in-Minus.ensures in
    let most = c.requires.accesses in (
      omega (arith, fewer, part),
      (
        omega (arith, sizes, own, few),
        (
          omega (arith, all, some, most),
          (
            c.requires.left,
            known_first (length c.args.stmt.now.vars.items) (accesses c.in-Minus.a) (accesses c.in-Minus.b) (accesses c.args.expr.now)
                (accesses c.get-in-Minus.result.now)
                (ap accesses c.in-Minus.is ∙ accesses-Minus c.in-Minus.a c.in-Minus.b) (ap accesses c.get-in-Minus.ensures) c.requires.known,
          ),
        ),
      ),
    )

pub uncovered_in_terms-requires-in-None-uncovered_in_terms : goal.uncovered_in_terms-requires-in-None-uncovered_in_terms
uncovered_in_terms-requires-in-None-uncovered_in_terms t c =
    let fewer = ap nodes c.in-Minus.is ∙ nodes-Minus c.in-Minus.a c.in-Minus.b in
    let part = ap nodes c.get-in-None-uncovered_in_terms.ensures in
    let sizes = ap (λ e. length (terms_under c.args.added e)) c.in-Minus.is ∙ length_terms-Minus c.args.added c.in-Minus.a c.in-Minus.b in
    let own = ap (λ e. length (terms_under (not c.args.added) e)) c.get-in-None-uncovered_in_terms.ensures in
    let few = c.requires.few in
    let before = c.count_terms-in-None-uncovered_in_terms.ensures.value ∙ ap (λ e. length (terms_under c.args.added e))
    c.get-in-None-uncovered_in_terms-2.ensures in
    let all = ap (λ e. length (accesses e)) c.in-Minus.is ∙ length_accesses-Minus c.in-Minus.a c.in-Minus.b in
    let some = ap (λ e. length (accesses e)) c.get-in-None-uncovered_in_terms.ensures in
    let most = c.requires.accesses in (
      omega (arith, fewer, part),
      (
        omega (arith, sizes, own, few, before),
        (
          omega (arith, all, some, most),
          (
            c.requires.left,
            known_second (length c.args.stmt.now.vars.items) (accesses c.in-Minus.a) (accesses c.in-Minus.b) (accesses c.args.expr.now)
                (accesses c.get-in-None-uncovered_in_terms.result.now)
                (ap accesses c.in-Minus.is ∙ accesses-Minus c.in-Minus.a c.in-Minus.b) (ap accesses c.get-in-None-uncovered_in_terms.ensures) c.requires.known,
          ),
        ),
      ),
    )

pub uncovered_in_terms-requires-in-Negate : goal.uncovered_in_terms-requires-in-Negate
uncovered_in_terms-requires-in-Negate t c =
    let fewer = ap nodes c.in-Negate.is ∙ nodes-Negate c.in-Negate.a in
    let part = ap nodes c.get-in-Negate.ensures in
    let sizes = ap (λ e. length (terms_under c.args.added e)) c.in-Negate.is ∙ length_terms-Negate c.args.added c.in-Negate.a in
    let own = ap (λ e. length (terms_under (not c.args.added) e)) c.get-in-Negate.ensures in
    let few = c.requires.few in
    let all = ap (λ e. length (accesses e)) c.in-Negate.is ∙ length_accesses-Negate c.in-Negate.a in
    let some = ap (λ e. length (accesses e)) c.get-in-Negate.ensures in
    let most = c.requires.accesses in (
      omega (arith, fewer, part),
      (
        omega (arith, sizes, own, few),
        (
          omega (arith, all, some, most),
          (
            c.requires.left,
            subst (AllVarsBelow (length c.args.stmt.now.vars.items)) (ap accesses c.in-Negate.is ∙ accesses-Negate c.in-Negate.a ∙ sym
                (ap accesses c.get-in-Negate.ensures)) c.requires.known,
          ),
        ),
      ),
    )

-- ---- the first fault

pub returns-in-Some : goal.returns-in-Some
returns-in-Some t c = record {
  value = fault_before (cover_fault c.args.stmt.now) c.args.first (terms_under c.args.added c.in-Plus.a) (terms_under c.args.added c.in-Plus.b)
      (terms_under c.args.added c.args.expr.now) c.uncovered_in_terms.result c.in-Some.fault
      (ap (terms_under c.args.added) c.in-Plus.is ∙ terms_under-Plus c.args.added c.in-Plus.a c.in-Plus.b)
      (c.uncovered_in_terms.ensures.value ∙ ap (λ e. first_of_all (map (cover_fault c.args.stmt.now)
      (enumerate_from c.args.first (terms_under c.args.added e)))) c.get.ensures) c.in-Some.is;
}

pub returns-in-None : goal.returns-in-None
returns-in-None t c = record {
  value = fault_behind (cover_fault c.args.stmt.now) c.args.first (c.args.first + c.count_terms.result) (terms_under c.args.added c.in-Plus.a)
      (terms_under c.args.added c.in-Plus.b)
      (terms_under c.args.added c.args.expr.now)
      c.uncovered_in_terms.result c.uncovered_in_terms-in-None.result
      (ap (terms_under c.args.added) c.in-Plus.is ∙ terms_under-Plus c.args.added c.in-Plus.a c.in-Plus.b)
      (c.uncovered_in_terms.ensures.value ∙ ap (λ e. first_of_all (map (cover_fault c.args.stmt.now)
      (enumerate_from c.args.first (terms_under c.args.added e)))) c.get.ensures) c.in-None.is
      (ap (λ n. c.args.first + n) (c.count_terms.ensures.value ∙ ap (λ e. length (terms_under c.args.added e)) c.get-in-None-2.ensures))
      (c.uncovered_in_terms-in-None.ensures.value
      ∙ ap (λ e. first_of_all (map (cover_fault c.args.stmt.now) (enumerate_from (c.args.first + c.count_terms.result) (terms_under c.args.added e))))
      c.get-in-None.ensures);
}

pub returns-in-Some-uncovered_in_terms : goal.returns-in-Some-uncovered_in_terms
returns-in-Some-uncovered_in_terms t c = record {
  value = fault_before (cover_fault c.args.stmt.now) c.args.first (terms_under c.args.added c.in-Minus.a) (terms_under (not c.args.added) c.in-Minus.b)
      (terms_under c.args.added c.args.expr.now) c.uncovered_in_terms-in-Minus.result c.in-Some-uncovered_in_terms.fault
      (ap (terms_under c.args.added) c.in-Minus.is ∙ terms_under-Minus c.args.added c.in-Minus.a c.in-Minus.b)
      (c.uncovered_in_terms-in-Minus.ensures.value ∙ ap (λ e. first_of_all
      (map (cover_fault c.args.stmt.now) (enumerate_from c.args.first (terms_under c.args.added e)))) c.get-in-Minus.ensures)
      c.in-Some-uncovered_in_terms.is;
}

pub returns-in-None-uncovered_in_terms : goal.returns-in-None-uncovered_in_terms
returns-in-None-uncovered_in_terms t c = record {
  value = fault_behind (cover_fault c.args.stmt.now) c.args.first (c.args.first + c.count_terms-in-None-uncovered_in_terms.result)
      (terms_under c.args.added c.in-Minus.a) (terms_under (not c.args.added) c.in-Minus.b)
      (terms_under c.args.added c.args.expr.now)
      c.uncovered_in_terms-in-Minus.result c.uncovered_in_terms-in-None-uncovered_in_terms.result
      (ap (terms_under c.args.added) c.in-Minus.is ∙ terms_under-Minus c.args.added c.in-Minus.a c.in-Minus.b)
      (c.uncovered_in_terms-in-Minus.ensures.value ∙ ap (λ e. first_of_all
      (map (cover_fault c.args.stmt.now) (enumerate_from c.args.first (terms_under c.args.added e)))) c.get-in-Minus.ensures)
      c.in-None-uncovered_in_terms.is
      (ap (λ n. c.args.first + n) (c.count_terms-in-None-uncovered_in_terms.ensures.value ∙ ap (λ e. length (terms_under c.args.added e))
      c.get-in-None-uncovered_in_terms-2.ensures))
      (c.uncovered_in_terms-in-None-uncovered_in_terms.ensures.value
      ∙ ap (λ e. first_of_all (map (cover_fault c.args.stmt.now) (enumerate_from (c.args.first + c.count_terms-in-None-uncovered_in_terms.result)
      (terms_under (not c.args.added) e)))) c.get-in-None-uncovered_in_terms.ensures);
}

pub returns-in-Negate : goal.returns-in-Negate
returns-in-Negate t c = record {
  value = c.uncovered_in_terms-in-Negate.ensures.value
      ∙ ap (λ l. first_of_all (map (cover_fault c.args.stmt.now) (enumerate_from c.args.first l)))
      (ap (terms_under (not c.args.added)) c.get-in-Negate.ensures ∙ sym
      (ap (terms_under c.args.added) c.in-Negate.is ∙ terms_under-Negate c.args.added c.in-Negate.a));
}
