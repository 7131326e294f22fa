use Rattle.std.proofs.Common.{◌+◌, length, map, not, ap, sym, ◌∙◌, arith}
use Rattle.std.specs.List.{enumerate_from}
use Rattle.dt_model.specs.Statements.{terms_under}
use Rattle.dt_model.specs.Refusals.{first_of_all, access_fault}
use Rattle.dt_model.proofs.StatementsLemmas.{terms_under-Plus, terms_under-Minus, terms_under-Negate}
use Rattle.index_check.proofs.FaultsLemmas.{fault_before, fault_behind}
use Rattle.index_check.proofs.Laws.{length_terms-Plus, length_terms-Minus, length_terms-Negate}
use Rattle.index_check.proofs.Nodes.{nodes, nodes-Plus, nodes-Minus, nodes-Negate}
use Rattle.index_check.proofs.term_faults.+accessless_in.Goals as goal

-- ---- fewer nodes, and few terms

pub accessless_in-requires : goal.accessless_in-requires
accessless_in-requires t c =
    let fewer = ap nodes c.in-Plus.is ∙ nodes-Plus c.in-Plus.a c.in-Plus.b in
    let part = ap nodes c.get.ensures in
    let sizes = ap (λ e. length (terms_under c.args.added e)) c.in-Plus.is ∙ length_terms-Plus c.args.added c.in-Plus.a c.in-Plus.b in
    let own = ap (λ e. length (terms_under c.args.added e)) c.get.ensures in
    let few = c.requires.few in
    (omega (arith, fewer, part), omega (arith, sizes, own, few))

pub accessless_in-requires-in-None : goal.accessless_in-requires-in-None
accessless_in-requires-in-None t c =
    let fewer = ap nodes c.in-Plus.is ∙ nodes-Plus c.in-Plus.a c.in-Plus.b in
    let part = ap nodes c.get-in-None.ensures in
    let sizes = ap (λ e. length (terms_under c.args.added e)) c.in-Plus.is ∙ length_terms-Plus c.args.added c.in-Plus.a c.in-Plus.b in
    let own = ap (λ e. length (terms_under c.args.added e)) c.get-in-None.ensures in
    let few = c.requires.few in
    let before = c.count_terms.ensures.value ∙ ap (λ e. length (terms_under c.args.added e)) c.get-in-None-2.ensures in
    (omega (arith, fewer, part), omega (arith, sizes, own, few, before))

pub accessless_in-requires-in-Minus : goal.accessless_in-requires-in-Minus
accessless_in-requires-in-Minus t c =
    let fewer = ap nodes c.in-Minus.is ∙ nodes-Minus c.in-Minus.a c.in-Minus.b in
    let part = ap nodes c.get-in-Minus.ensures in
    let sizes = ap (λ e. length (terms_under c.args.added e)) c.in-Minus.is ∙ length_terms-Minus c.args.added c.in-Minus.a c.in-Minus.b in
    let own = ap (λ e. length (terms_under c.args.added e)) c.get-in-Minus.ensures in
    let few = c.requires.few in
    (omega (arith, fewer, part), omega (arith, sizes, own, few))

pub accessless_in-requires-in-None-accessless_in : goal.accessless_in-requires-in-None-accessless_in
accessless_in-requires-in-None-accessless_in t c =
    let fewer = ap nodes c.in-Minus.is ∙ nodes-Minus c.in-Minus.a c.in-Minus.b in
    let part = ap nodes c.get-in-None-accessless_in.ensures in
    let sizes = ap (λ e. length (terms_under c.args.added e)) c.in-Minus.is ∙ length_terms-Minus c.args.added c.in-Minus.a c.in-Minus.b in
    let own = ap (λ e. length (terms_under (not c.args.added) e)) c.get-in-None-accessless_in.ensures in
    let few = c.requires.few in
    let before = c.count_terms-in-None-accessless_in.ensures.value ∙ ap (λ e. length (terms_under c.args.added e)) c.get-in-None-accessless_in-2.ensures in
    (omega (arith, fewer, part), omega (arith, sizes, own, few, before))

pub accessless_in-requires-in-Negate : goal.accessless_in-requires-in-Negate
accessless_in-requires-in-Negate t c =
    let fewer = ap nodes c.in-Negate.is ∙ nodes-Negate c.in-Negate.a in
    let part = ap nodes c.get-in-Negate.ensures in
    let sizes = ap (λ e. length (terms_under c.args.added e)) c.in-Negate.is ∙ length_terms-Negate c.args.added c.in-Negate.a in
    let own = ap (λ e. length (terms_under (not c.args.added) e)) c.get-in-Negate.ensures in
    let few = c.requires.few in
    (omega (arith, fewer, part), omega (arith, sizes, own, few))

-- ---- the first fault

pub returns-in-Some : goal.returns-in-Some
returns-in-Some t c = record {
  value = fault_before access_fault c.args.first (terms_under c.args.added c.in-Plus.a) (terms_under c.args.added c.in-Plus.b)
      (terms_under c.args.added c.args.expr.now) c.accessless_in.result c.in-Some.fault
      (ap (terms_under c.args.added) c.in-Plus.is ∙ terms_under-Plus c.args.added c.in-Plus.a c.in-Plus.b)
      (c.accessless_in.ensures.value ∙ ap (λ e. first_of_all (map access_fault (enumerate_from c.args.first (terms_under c.args.added e)))) c.get.ensures)
      c.in-Some.is;
}

pub returns-in-None : goal.returns-in-None
returns-in-None t c = record {
  value = fault_behind access_fault c.args.first (c.args.first + c.count_terms.result) (terms_under c.args.added c.in-Plus.a)
      (terms_under c.args.added c.in-Plus.b)
      (terms_under c.args.added c.args.expr.now)
      c.accessless_in.result c.accessless_in-in-None.result
      (ap (terms_under c.args.added) c.in-Plus.is ∙ terms_under-Plus c.args.added c.in-Plus.a c.in-Plus.b)
      (c.accessless_in.ensures.value ∙ ap (λ e. first_of_all (map access_fault (enumerate_from c.args.first (terms_under c.args.added e)))) c.get.ensures)
      c.in-None.is
      (ap (λ n. c.args.first + n) (c.count_terms.ensures.value ∙ ap (λ e. length (terms_under c.args.added e)) c.get-in-None-2.ensures))
      (c.accessless_in-in-None.ensures.value
      ∙ ap (λ e. first_of_all (map access_fault (enumerate_from (c.args.first + c.count_terms.result) (terms_under c.args.added e)))) c.get-in-None.ensures);
}

pub returns-in-Some-accessless_in : goal.returns-in-Some-accessless_in
returns-in-Some-accessless_in t c = record {
  value = fault_before access_fault c.args.first (terms_under c.args.added c.in-Minus.a) (terms_under (not c.args.added) c.in-Minus.b)
      (terms_under c.args.added c.args.expr.now) c.accessless_in-in-Minus.result c.in-Some-accessless_in.fault
      (ap (terms_under c.args.added) c.in-Minus.is ∙ terms_under-Minus c.args.added c.in-Minus.a c.in-Minus.b)
      (c.accessless_in-in-Minus.ensures.value ∙ ap (λ e. first_of_all (map access_fault (enumerate_from c.args.first (terms_under c.args.added e))))
      c.get-in-Minus.ensures) c.in-Some-accessless_in.is;
}

pub returns-in-None-accessless_in : goal.returns-in-None-accessless_in
returns-in-None-accessless_in t c = record {
  value = fault_behind access_fault c.args.first (c.args.first + c.count_terms-in-None-accessless_in.result) (terms_under c.args.added c.in-Minus.a)
      (terms_under (not c.args.added) c.in-Minus.b)
      (terms_under c.args.added c.args.expr.now)
      c.accessless_in-in-Minus.result c.accessless_in-in-None-accessless_in.result
      (ap (terms_under c.args.added) c.in-Minus.is ∙ terms_under-Minus c.args.added c.in-Minus.a c.in-Minus.b)
      (c.accessless_in-in-Minus.ensures.value ∙ ap (λ e. first_of_all (map access_fault (enumerate_from c.args.first (terms_under c.args.added e))))
      c.get-in-Minus.ensures) c.in-None-accessless_in.is
      (ap (λ n. c.args.first + n) (c.count_terms-in-None-accessless_in.ensures.value ∙ ap (λ e. length (terms_under c.args.added e))
      c.get-in-None-accessless_in-2.ensures))
      (c.accessless_in-in-None-accessless_in.ensures.value
      ∙ ap (λ e. first_of_all (map access_fault (enumerate_from (c.args.first + c.count_terms-in-None-accessless_in.result)
      (terms_under (not c.args.added) e)))) c.get-in-None-accessless_in.ensures);
}

pub returns-in-Negate : goal.returns-in-Negate
returns-in-Negate t c = record {
  value = c.accessless_in-in-Negate.ensures.value
      ∙ ap (λ l. first_of_all (map access_fault (enumerate_from c.args.first l)))
      (ap (terms_under (not c.args.added)) c.get-in-Negate.ensures ∙ sym
      (ap (terms_under c.args.added) c.in-Negate.is ∙ terms_under-Negate c.args.added c.in-Negate.a));
}
