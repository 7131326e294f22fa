use Rattle.std.proofs.Common.{length, not, ap, ◌∙◌, arith}
use Rattle.dt_model.specs.Statements.{terms_under}
use Rattle.index_check.proofs.Laws.{length_terms-Plus, length_terms-Minus, length_terms-Negate}
use Rattle.index_check.proofs.Nodes.{nodes, nodes-Plus, nodes-Minus, nodes-Negate}
use Rattle.index_check.proofs.terms.+count_terms.Goals as goal

pub count_terms-requires : goal.count_terms-requires
count_terms-requires t c =
    let fewer = ap nodes c.in-Plus.is ∙ nodes-Plus c.in-Plus.a c.in-Plus.b in
    let part = ap nodes c.get.ensures in
    let sizes = ap (λ e. length (terms_under c.args.added e)) c.in-Plus.is ∙ length_terms-Plus c.args.added c.in-Plus.a c.in-Plus.b in
    let first = ap (λ e. length (terms_under c.args.added e)) c.get.ensures in
    let few = c.requires.few in
    (omega (arith, fewer, part), omega (arith, sizes, first, few))

pub count_terms-requires-in-Plus : goal.count_terms-requires-in-Plus
count_terms-requires-in-Plus t c =
    let fewer = ap nodes c.in-Plus.is ∙ nodes-Plus c.in-Plus.a c.in-Plus.b in
    let part = ap nodes c.get-in-Plus.ensures in
    let sizes = ap (λ e. length (terms_under c.args.added e)) c.in-Plus.is ∙ length_terms-Plus c.args.added c.in-Plus.a c.in-Plus.b in
    let second = ap (λ e. length (terms_under c.args.added e)) c.get-in-Plus.ensures in
    let few = c.requires.few in
    (omega (arith, fewer, part), omega (arith, sizes, second, few))

pub overflow_add-result : goal.overflow_add-result
overflow_add-result t c =
    let sizes = ap (λ e. length (terms_under c.args.added e)) c.in-Plus.is ∙ length_terms-Plus c.args.added c.in-Plus.a c.in-Plus.b in
    let first = c.count_terms.ensures.value ∙ ap (λ e. length (terms_under c.args.added e)) c.get.ensures in
    let second = c.count_terms-in-Plus.ensures.value ∙ ap (λ e. length (terms_under c.args.added e)) c.get-in-Plus.ensures in
    let few = c.requires.few in
    omega (arith, sizes, first, second, few)

pub returns-in-Plus : goal.returns-in-Plus
returns-in-Plus t c =
    let sizes = ap (λ e. length (terms_under c.args.added e)) c.in-Plus.is ∙ length_terms-Plus c.args.added c.in-Plus.a c.in-Plus.b in
    let first = c.count_terms.ensures.value ∙ ap (λ e. length (terms_under c.args.added e)) c.get.ensures in
    let second = c.count_terms-in-Plus.ensures.value ∙ ap (λ e. length (terms_under c.args.added e)) c.get-in-Plus.ensures in
    record { value = omega (arith, sizes, first, second) }

pub count_terms-requires-in-Minus : goal.count_terms-requires-in-Minus
count_terms-requires-in-Minus t c =
    let fewer = ap nodes c.in-Minus.is ∙ nodes-Minus c.in-Minus.a c.in-Minus.b in
    let part = ap nodes c.get-in-Minus.ensures in
    let sizes = ap (λ e. length (terms_under c.args.added e)) c.in-Minus.is ∙ length_terms-Minus c.args.added c.in-Minus.a c.in-Minus.b in
    let first = ap (λ e. length (terms_under c.args.added e)) c.get-in-Minus.ensures in
    let few = c.requires.few in
    (omega (arith, fewer, part), omega (arith, sizes, first, few))

pub count_terms-requires-in-Minus-2 : goal.count_terms-requires-in-Minus-2
count_terms-requires-in-Minus-2 t c =
    let fewer = ap nodes c.in-Minus.is ∙ nodes-Minus c.in-Minus.a c.in-Minus.b in
    let part = ap nodes c.get-in-Minus-2.ensures in
    let sizes = ap (λ e. length (terms_under c.args.added e)) c.in-Minus.is ∙ length_terms-Minus c.args.added c.in-Minus.a c.in-Minus.b in
    let second = ap (λ e. length (terms_under (not c.args.added) e)) c.get-in-Minus-2.ensures in
    let few = c.requires.few in
    (omega (arith, fewer, part), omega (arith, sizes, second, few))

pub overflow_add-result-in-Minus : goal.overflow_add-result-in-Minus
overflow_add-result-in-Minus t c =
    let sizes = ap (λ e. length (terms_under c.args.added e)) c.in-Minus.is ∙ length_terms-Minus c.args.added c.in-Minus.a c.in-Minus.b in
    let first = c.count_terms-in-Minus.ensures.value ∙ ap (λ e. length (terms_under c.args.added e)) c.get-in-Minus.ensures in
    let second = c.count_terms-in-Minus-2.ensures.value ∙ ap (λ e. length (terms_under (not c.args.added) e)) c.get-in-Minus-2.ensures in
    let few = c.requires.few in
    omega (arith, sizes, first, second, few)

pub returns-in-Minus : goal.returns-in-Minus
returns-in-Minus t c =
    let sizes = ap (λ e. length (terms_under c.args.added e)) c.in-Minus.is ∙ length_terms-Minus c.args.added c.in-Minus.a c.in-Minus.b in
    let first = c.count_terms-in-Minus.ensures.value ∙ ap (λ e. length (terms_under c.args.added e)) c.get-in-Minus.ensures in
    let second = c.count_terms-in-Minus-2.ensures.value ∙ ap (λ e. length (terms_under (not c.args.added) e)) c.get-in-Minus-2.ensures in
    record { value = omega (arith, sizes, first, second) }

pub count_terms-requires-in-Negate : goal.count_terms-requires-in-Negate
count_terms-requires-in-Negate t c =
    let fewer = ap nodes c.in-Negate.is ∙ nodes-Negate c.in-Negate.a in
    let part = ap nodes c.get-in-Negate.ensures in
    let sizes = ap (λ e. length (terms_under c.args.added e)) c.in-Negate.is ∙ length_terms-Negate c.args.added c.in-Negate.a in
    let first = ap (λ e. length (terms_under (not c.args.added) e)) c.get-in-Negate.ensures in
    let few = c.requires.few in
    (omega (arith, fewer, part), omega (arith, sizes, first, few))
