use Rattle.std.proofs.Common.{◌≡◌, ℕ, ◌+◌, ◌*◌, ◌%◌, ◌^◌, length, ap, sym, ◌∙◌, arith}
use Rattle.dt_model.specs.declared.statements.Expr.{Expr}
use Rattle.dt_model.specs.Statements.{accesses, plus64, minus64}
use Rattle.merge_lattice.specs.Points.{parts}
use Rattle.merge_lattice.proofs.Laws.{parts-Plus, parts-Minus, parts-Times}
use Rattle.loop_code.specs.Values.{AccessContents, value_over, numbers_in}
use Rattle.loop_code.proofs.ValueLaws.{value_over-Plus, value_over-Minus, value_over-Times, value_over-Negate}
use Rattle.loop_code.proofs.AccessLaws.{count-Plus, count-Minus, count-Times}
use Rattle.loop_code.proofs.values.+value_from.Goals as goal

abbrev count : Expr → ℕ
count e = length (accesses e)

abbrev times64 : ℕ → ℕ → ℕ
times64 x y = (x * y) % 2 ^ 64

-- the value of two sides, from what the two calls answered
joined : (held : AccessContents) (env : ℕ → ℕ) (k n : ℕ) (op : ℕ → ℕ → ℕ) (whole a b c d : Expr) (l r : ℕ)
    → value_over held env k whole ≡ op (value_over held env k a) (value_over held env (k + count a) b) → c ≡ a → d ≡ b
    → l ≡ value_over held env k c → n ≡ k + count c → r ≡ value_over held env n d → op l r ≡ value_over held env k whole
joined held env k n op whole a b c d l r law ca db lc nc rd = cc

pub value_from-right-requires : goal.value_from-right-requires
value_from-right-requires t c =
    let law = ap count c.in-Plus.is ∙ count-Plus c.in-Plus.a c.in-Plus.b in
    let size = ap parts c.in-Plus.is ∙ parts-Plus c.in-Plus.a c.in-Plus.b in
    let a = ap count c.get.ensures in
    let b = ap count c.get-in-Plus.ensures in
    let e = ap parts c.get-in-Plus.ensures in
    (omega (arith, size, e, c.decreases), omega (arith, law, a, b, c.requires.few, c.value_from-left.ensures.next))

pub returns-in-Plus-clause-next : goal.returns-in-Plus-clause-next
returns-in-Plus-clause-next t c =
    let law = ap count c.in-Plus.is ∙ count-Plus c.in-Plus.a c.in-Plus.b in
    let a = ap count c.get.ensures in
    let b = ap count c.get-in-Plus.ensures in
    omega (arith, law, a, b, c.value_from-left.ensures.next, c.value_from-right.ensures.next)

pub returns-in-Plus-clause-value : goal.returns-in-Plus-clause-value
returns-in-Plus-clause-value t c = λ env.
    let held = numbers_in c.args.numbers.now in
    let law = ap (value_over held env c.args.first) c.in-Plus.is ∙ value_over-Plus held env c.args.first c.in-Plus.a c.in-Plus.b in
    joined held env c.args.first c.value_from-left.result.next plus64 c.args.expr.now c.in-Plus.a c.in-Plus.b c.get.result.now c.get-in-Plus.result.now
    c.value_from-left.result.value c.value_from-right.result.value law c.get.ensures c.get-in-Plus.ensures
    (c.value_from-left.ensures.value env) c.value_from-left.ensures.next (c.value_from-right.ensures.value env)

pub value_from-right-requires-in-Minus : goal.value_from-right-requires-in-Minus
value_from-right-requires-in-Minus t c =
    let law = ap count c.in-Minus.is ∙ count-Minus c.in-Minus.a c.in-Minus.b in
    let size = ap parts c.in-Minus.is ∙ parts-Minus c.in-Minus.a c.in-Minus.b in
    let a = ap count c.get-in-Minus.ensures in
    let b = ap count c.get-in-Minus-2.ensures in
    let e = ap parts c.get-in-Minus-2.ensures in
    (omega (arith, size, e, c.decreases), omega (arith, law, a, b, c.requires.few, c.value_from-left-in-Minus.ensures.next))

pub returns-in-Minus-clause-next : goal.returns-in-Minus-clause-next
returns-in-Minus-clause-next t c =
    let law = ap count c.in-Minus.is ∙ count-Minus c.in-Minus.a c.in-Minus.b in
    let a = ap count c.get-in-Minus.ensures in
    let b = ap count c.get-in-Minus-2.ensures in
    omega (arith, law, a, b, c.value_from-left-in-Minus.ensures.next, c.value_from-right-in-Minus.ensures.next)

pub returns-in-Minus-clause-value : goal.returns-in-Minus-clause-value
returns-in-Minus-clause-value t c = λ env.
    let held = numbers_in c.args.numbers.now in
    let law = ap (value_over held env c.args.first) c.in-Minus.is ∙ value_over-Minus held env c.args.first c.in-Minus.a c.in-Minus.b in
    joined held env c.args.first c.value_from-left-in-Minus.result.next minus64 c.args.expr.now c.in-Minus.a c.in-Minus.b c.get-in-Minus.result.now
    c.get-in-Minus-2.result.now c.value_from-left-in-Minus.result.value c.value_from-right-in-Minus.result.value law c.get-in-Minus.ensures
    c.get-in-Minus-2.ensures (c.value_from-left-in-Minus.ensures.value env) c.value_from-left-in-Minus.ensures.next
    (c.value_from-right-in-Minus.ensures.value env)

pub value_from-right-requires-in-Times : goal.value_from-right-requires-in-Times
value_from-right-requires-in-Times t c =
    let law = ap count c.in-Times.is ∙ count-Times c.in-Times.a c.in-Times.b in
    let size = ap parts c.in-Times.is ∙ parts-Times c.in-Times.a c.in-Times.b in
    let a = ap count c.get-in-Times.ensures in
    let b = ap count c.get-in-Times-2.ensures in
    let e = ap parts c.get-in-Times-2.ensures in
    (omega (arith, size, e, c.decreases), omega (arith, law, a, b, c.requires.few, c.value_from-left-in-Times.ensures.next))

pub returns-in-Times-clause-next : goal.returns-in-Times-clause-next
returns-in-Times-clause-next t c =
    let law = ap count c.in-Times.is ∙ count-Times c.in-Times.a c.in-Times.b in
    let a = ap count c.get-in-Times.ensures in
    let b = ap count c.get-in-Times-2.ensures in
    omega (arith, law, a, b, c.value_from-left-in-Times.ensures.next, c.value_from-right-in-Times.ensures.next)

pub returns-in-Times-clause-value : goal.returns-in-Times-clause-value
returns-in-Times-clause-value t c = λ env.
    let held = numbers_in c.args.numbers.now in
    let law = ap (value_over held env c.args.first) c.in-Times.is ∙ value_over-Times held env c.args.first c.in-Times.a c.in-Times.b in
    joined held env c.args.first c.value_from-left-in-Times.result.next times64 c.args.expr.now c.in-Times.a c.in-Times.b c.get-in-Times.result.now
    c.get-in-Times-2.result.now c.value_from-left-in-Times.result.value c.value_from-right-in-Times.result.value law c.get-in-Times.ensures
    c.get-in-Times-2.ensures (c.value_from-left-in-Times.ensures.value env) c.value_from-left-in-Times.ensures.next
    (c.value_from-right-in-Times.ensures.value env)

pub returns-in-Negate-clause-value : goal.returns-in-Negate-clause-value
returns-in-Negate-clause-value t c = λ env.
    let held = numbers_in c.args.numbers.now in
    let law = ap (value_over held env c.args.first) c.in-Negate.is ∙ value_over-Negate held env c.args.first c.in-Negate.a in
    ap (minus64 0) (c.value_from-inner.ensures.value env ∙ ap (value_over held env c.args.first) c.get-in-Negate.ensures) ∙ sym law
