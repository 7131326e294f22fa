use Rattle.std.proofs.Common.{List, ℕ, ap, ◌∙◌}
use Rattle.std.specs.List.{flat_map}
use Rattle.dt_model.specs.Statements.{accesses}
use Rattle.dt_model.proofs.StatementsLemmas.{accesses-Plus, accesses-Minus, accesses-Times}
use Rattle.index_check.specs.Small.{numbered_up_to}
use Rattle.index_check.proofs.SmallLemmas.{then_none, then_some, numbered-both}
use Rattle.index_check.proofs.appearance.+numbered_by.Goals as goal

pub returns-in-None-clause-value : goal.returns-in-None-clause-value
returns-in-None-clause-value t c =
    then_none (λ n. numbered_up_to n (flat_map (λ (a : List ℕ × List ℕ). a.1) (accesses c.in-Plus.a)))
    (λ n. numbered_up_to n (flat_map (λ (a : List ℕ × List ℕ). a.1) (accesses c.in-Plus.b)))
    c.args.count (numbered_up_to c.args.count (flat_map (λ (a : List ℕ × List ℕ). a.1) (accesses c.args.expr.now))) c.numbered_by.result
    (numbered-both c.args.count (accesses c.in-Plus.a) (accesses c.in-Plus.b) (accesses c.args.expr.now)
    (ap accesses c.in-Plus.is ∙ accesses-Plus c.in-Plus.a c.in-Plus.b))
    (c.numbered_by.ensures.value ∙ ap (λ e. numbered_up_to c.args.count (flat_map (λ (a : List ℕ × List ℕ). a.1) (accesses e))) c.get.ensures) c.in-None.is

pub returns-in-Some-clause-value : goal.returns-in-Some-clause-value
returns-in-Some-clause-value t c =
    then_some (λ n. numbered_up_to n (flat_map (λ (a : List ℕ × List ℕ). a.1) (accesses c.in-Plus.a)))
    (λ n. numbered_up_to n (flat_map (λ (a : List ℕ × List ℕ). a.1) (accesses c.in-Plus.b)))
    c.args.count (numbered_up_to c.args.count (flat_map (λ (a : List ℕ × List ℕ). a.1) (accesses c.args.expr.now))) c.numbered_by.result
    c.numbered_by-in-Some.result c.in-Some.more
    (numbered-both c.args.count (accesses c.in-Plus.a) (accesses c.in-Plus.b) (accesses c.args.expr.now)
    (ap accesses c.in-Plus.is ∙ accesses-Plus c.in-Plus.a c.in-Plus.b))
    (c.numbered_by.ensures.value ∙ ap (λ e. numbered_up_to c.args.count (flat_map (λ (a : List ℕ × List ℕ). a.1) (accesses e))) c.get.ensures) c.in-Some.is
    (c.numbered_by-in-Some.ensures.value ∙ ap (λ e. numbered_up_to c.in-Some.more (flat_map (λ (a : List ℕ × List ℕ). a.1) (accesses e))) c.get-in-Some.ensures)

pub returns-in-None-numbered_by-clause-value : goal.returns-in-None-numbered_by-clause-value
returns-in-None-numbered_by-clause-value t c =
    then_none (λ n. numbered_up_to n (flat_map (λ (a : List ℕ × List ℕ). a.1) (accesses c.in-Minus.a)))
    (λ n. numbered_up_to n (flat_map (λ (a : List ℕ × List ℕ). a.1) (accesses c.in-Minus.b)))
    c.args.count (numbered_up_to c.args.count (flat_map (λ (a : List ℕ × List ℕ). a.1) (accesses c.args.expr.now))) c.numbered_by-in-Minus.result
    (numbered-both c.args.count (accesses c.in-Minus.a) (accesses c.in-Minus.b) (accesses c.args.expr.now)
    (ap accesses c.in-Minus.is ∙ accesses-Minus c.in-Minus.a c.in-Minus.b))
    (c.numbered_by-in-Minus.ensures.value ∙ ap (λ e. numbered_up_to c.args.count (flat_map (λ (a : List ℕ × List ℕ). a.1) (accesses e)))
    c.get-in-Minus.ensures) c.in-None-numbered_by.is

pub returns-in-Some-numbered_by-clause-value : goal.returns-in-Some-numbered_by-clause-value
returns-in-Some-numbered_by-clause-value t c =
    then_some (λ n. numbered_up_to n (flat_map (λ (a : List ℕ × List ℕ). a.1) (accesses c.in-Minus.a)))
    (λ n. numbered_up_to n (flat_map (λ (a : List ℕ × List ℕ). a.1) (accesses c.in-Minus.b)))
    c.args.count (numbered_up_to c.args.count (flat_map (λ (a : List ℕ × List ℕ). a.1) (accesses c.args.expr.now))) c.numbered_by-in-Minus.result
    c.numbered_by-in-Some-numbered_by.result c.in-Some-numbered_by.more
    (numbered-both c.args.count (accesses c.in-Minus.a) (accesses c.in-Minus.b) (accesses c.args.expr.now)
    (ap accesses c.in-Minus.is ∙ accesses-Minus c.in-Minus.a c.in-Minus.b))
    (c.numbered_by-in-Minus.ensures.value ∙ ap (λ e. numbered_up_to c.args.count (flat_map (λ (a : List ℕ × List ℕ). a.1) (accesses e)))
    c.get-in-Minus.ensures) c.in-Some-numbered_by.is
    (c.numbered_by-in-Some-numbered_by.ensures.value ∙ ap (λ e. numbered_up_to c.in-Some-numbered_by.more
    (flat_map (λ (a : List ℕ × List ℕ). a.1) (accesses e))) c.get-in-Some-numbered_by.ensures)

pub returns-in-None-numbered_by-2-clause-value : goal.returns-in-None-numbered_by-2-clause-value
returns-in-None-numbered_by-2-clause-value t c =
    then_none (λ n. numbered_up_to n (flat_map (λ (a : List ℕ × List ℕ). a.1) (accesses c.in-Times.a)))
    (λ n. numbered_up_to n (flat_map (λ (a : List ℕ × List ℕ). a.1) (accesses c.in-Times.b)))
    c.args.count (numbered_up_to c.args.count (flat_map (λ (a : List ℕ × List ℕ). a.1) (accesses c.args.expr.now))) c.numbered_by-in-Times.result
    (numbered-both c.args.count (accesses c.in-Times.a) (accesses c.in-Times.b) (accesses c.args.expr.now)
    (ap accesses c.in-Times.is ∙ accesses-Times c.in-Times.a c.in-Times.b))
    (c.numbered_by-in-Times.ensures.value ∙ ap (λ e. numbered_up_to c.args.count (flat_map (λ (a : List ℕ × List ℕ). a.1) (accesses e)))
    c.get-in-Times.ensures) c.in-None-numbered_by-2.is

pub returns-in-Some-numbered_by-2-clause-value : goal.returns-in-Some-numbered_by-2-clause-value
returns-in-Some-numbered_by-2-clause-value t c =
    then_some (λ n. numbered_up_to n (flat_map (λ (a : List ℕ × List ℕ). a.1) (accesses c.in-Times.a)))
    (λ n. numbered_up_to n (flat_map (λ (a : List ℕ × List ℕ). a.1) (accesses c.in-Times.b)))
    c.args.count (numbered_up_to c.args.count (flat_map (λ (a : List ℕ × List ℕ). a.1) (accesses c.args.expr.now))) c.numbered_by-in-Times.result
    c.numbered_by-in-Some-numbered_by-2.result c.in-Some-numbered_by-2.more
    (numbered-both c.args.count (accesses c.in-Times.a) (accesses c.in-Times.b) (accesses c.args.expr.now)
    (ap accesses c.in-Times.is ∙ accesses-Times c.in-Times.a c.in-Times.b))
    (c.numbered_by-in-Times.ensures.value ∙ ap (λ e. numbered_up_to c.args.count (flat_map (λ (a : List ℕ × List ℕ). a.1) (accesses e)))
    c.get-in-Times.ensures) c.in-Some-numbered_by-2.is
    (c.numbered_by-in-Some-numbered_by-2.ensures.value ∙ ap (λ e. numbered_up_to c.in-Some-numbered_by-2.more
    (flat_map (λ (a : List ℕ × List ℕ). a.1) (accesses e))) c.get-in-Some-numbered_by-2.ensures)
