use Rattle.std.proofs.Common.{ℕ, length, ap, ◌∙◌, arith}
use Rattle.dt_model.specs.declared.statements.Expr.{Expr}
use Rattle.dt_model.specs.Statements.{accesses}
use Rattle.merge_lattice.specs.Points.{parts}
use Rattle.merge_lattice.proofs.Laws.{parts-Plus, parts-Minus, parts-Times}
use Rattle.loop_code.proofs.AccessLaws.{count-Plus, count-Minus, count-Times}
use Rattle.loop_code.proofs.places.+after_accesses.Goals as goal

abbrev count : Expr → ℕ
count e = length (accesses e)

pub after_accesses-requires : goal.after_accesses-requires
after_accesses-requires t c =
    let law = ap count c.in-Plus.is ∙ count-Plus c.in-Plus.a c.in-Plus.b in
    let size = ap parts c.in-Plus.is ∙ parts-Plus c.in-Plus.a c.in-Plus.b in
    let a = ap count c.get.ensures in
    let b = ap count c.get-in-Plus.ensures in
    let e = ap parts c.get-in-Plus.ensures in
    (omega (arith, size, e, c.decreases), omega (arith, law, a, b, c.requires.few, c.after_accesses-middle.ensures.value))

pub returns-in-Plus : goal.returns-in-Plus
returns-in-Plus t c =
    let law = ap count c.in-Plus.is ∙ count-Plus c.in-Plus.a c.in-Plus.b in
    let a = ap count c.get.ensures in
    let b = ap count c.get-in-Plus.ensures in
    record { value = omega (arith, law, a, b, c.after_accesses-middle.ensures.value, c.after_accesses.ensures.value) }

pub after_accesses-requires-in-Minus : goal.after_accesses-requires-in-Minus
after_accesses-requires-in-Minus t c =
    let law = ap count c.in-Minus.is ∙ count-Minus c.in-Minus.a c.in-Minus.b in
    let size = ap parts c.in-Minus.is ∙ parts-Minus c.in-Minus.a c.in-Minus.b in
    let a = ap count c.get-in-Minus.ensures in
    let b = ap count c.get-in-Minus-2.ensures in
    let e = ap parts c.get-in-Minus-2.ensures in
    (omega (arith, size, e, c.decreases), omega (arith, law, a, b, c.requires.few, c.after_accesses-middle-in-Minus.ensures.value))

pub returns-in-Minus : goal.returns-in-Minus
returns-in-Minus t c =
    let law = ap count c.in-Minus.is ∙ count-Minus c.in-Minus.a c.in-Minus.b in
    let a = ap count c.get-in-Minus.ensures in
    let b = ap count c.get-in-Minus-2.ensures in
    record { value = omega (arith, law, a, b, c.after_accesses-middle-in-Minus.ensures.value, c.after_accesses-in-Minus.ensures.value) }

pub after_accesses-requires-in-Times : goal.after_accesses-requires-in-Times
after_accesses-requires-in-Times t c =
    let law = ap count c.in-Times.is ∙ count-Times c.in-Times.a c.in-Times.b in
    let size = ap parts c.in-Times.is ∙ parts-Times c.in-Times.a c.in-Times.b in
    let a = ap count c.get-in-Times.ensures in
    let b = ap count c.get-in-Times-2.ensures in
    let e = ap parts c.get-in-Times-2.ensures in
    (omega (arith, size, e, c.decreases), omega (arith, law, a, b, c.requires.few, c.after_accesses-middle-in-Times.ensures.value))

pub returns-in-Times : goal.returns-in-Times
returns-in-Times t c =
    let law = ap count c.in-Times.is ∙ count-Times c.in-Times.a c.in-Times.b in
    let a = ap count c.get-in-Times.ensures in
    let b = ap count c.get-in-Times-2.ensures in
    record { value = omega (arith, law, a, b, c.after_accesses-middle-in-Times.ensures.value, c.after_accesses-in-Times.ensures.value) }
