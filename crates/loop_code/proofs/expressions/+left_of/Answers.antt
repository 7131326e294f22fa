use Rattle.std.proofs.Common.{◌≡◌, ℕ, ◌+◌, Bool, Option, ap, sym, ◌∙◌, arith}
use Rattle.dt_model.specs.declared.statements.Expr.{Expr}
use Rattle.merge_lattice.specs.Lattices.{bit_of}
use Rattle.merge_lattice.specs.Points.{parts}
use Rattle.merge_lattice.proofs.Laws.{parts-Plus, parts-Minus}
use Rattle.loop_code.specs.Terms.{count_of_terms}
use Rattle.loop_code.specs.KernelExpressions.{sum_of_left, difference_of_left, negation_of_left, left_of_terms}
use Rattle.loop_code.proofs.ExpressionLaws.{count_of_terms-Plus, count_of_terms-Minus, left_of_terms-Plus, left_of_terms-Minus, left_of_terms-Negate}
use Rattle.loop_code.proofs.expressions.+left_of.Goals as goal

-- what is left of two sides, from what the two calls answered
joined : (on : ℕ → Bool) (k n : ℕ) (op : Option Expr → Option Expr → Option Expr) (whole a b c d : Expr) (l r : Option Expr)
    → left_of_terms on k whole ≡ op (left_of_terms on k a) (left_of_terms on (k + count_of_terms a) b) → c ≡ a → d ≡ b
    → l ≡ left_of_terms on k c → n ≡ k + count_of_terms c → r ≡ left_of_terms on n d → op l r ≡ left_of_terms on k whole
joined on k n op whole a b c d l r law ca db lc nc rd = cc

pub left_of-requires-in-Plus : goal.left_of-requires-in-Plus
left_of-requires-in-Plus t c =
    let law = ap count_of_terms c.in-Plus.is ∙ count_of_terms-Plus c.in-Plus.a c.in-Plus.b in
    let size = ap parts c.in-Plus.is ∙ parts-Plus c.in-Plus.a c.in-Plus.b in
    let a = ap count_of_terms c.get.ensures in
    let b = ap count_of_terms c.get-in-Plus.ensures in
    let e = ap parts c.get-in-Plus.ensures in
    (omega (arith, size, e, c.decreases), omega (arith, law, a, b, c.requires.few, c.in_ok-left-in-Plus.ensures.next))

pub returns-in_ok-joined-in-Plus-clause-next : goal.returns-in_ok-joined-in-Plus-clause-next
returns-in_ok-joined-in-Plus-clause-next t c =
    let law = ap count_of_terms c.in-Plus.is ∙ count_of_terms-Plus c.in-Plus.a c.in-Plus.b in
    let a = ap count_of_terms c.get.ensures in
    let b = ap count_of_terms c.get-in-Plus.ensures in
    omega (arith, law, a, b, c.in_ok-left-in-Plus.ensures.next, c.in_ok-right-in-Plus.ensures.next)

pub returns-in_ok-joined-in-Plus-clause-expr : goal.returns-in_ok-joined-in-Plus-clause-expr
returns-in_ok-joined-in-Plus-clause-expr t c =
    let on = bit_of c.args.terms in
    let law = ap (left_of_terms on c.args.first) c.in-Plus.is ∙ left_of_terms-Plus on c.args.first c.in-Plus.a c.in-Plus.b in
    c.in_ok-joined-in-Plus.ensures.value ∙ joined on c.args.first c.in_ok-left-in-Plus.left.next sum_of_left c.args.expr.now c.in-Plus.a c.in-Plus.b
    c.get.result.now c.get-in-Plus.result.now c.in_ok-left-in-Plus.left.expr c.in_ok-right-in-Plus.right.expr law c.get.ensures c.get-in-Plus.ensures
    c.in_ok-left-in-Plus.ensures.expr c.in_ok-left-in-Plus.ensures.next c.in_ok-right-in-Plus.ensures.expr

pub left_of-requires-in-Minus-2 : goal.left_of-requires-in-Minus-2
left_of-requires-in-Minus-2 t c =
    let law = ap count_of_terms c.in-Minus.is ∙ count_of_terms-Minus c.in-Minus.a c.in-Minus.b in
    let size = ap parts c.in-Minus.is ∙ parts-Minus c.in-Minus.a c.in-Minus.b in
    let a = ap count_of_terms c.get-in-Minus.ensures in
    let b = ap count_of_terms c.get-in-Minus-2.ensures in
    let e = ap parts c.get-in-Minus-2.ensures in
    (omega (arith, size, e, c.decreases), omega (arith, law, a, b, c.requires.few, c.in_ok-left-in-Minus.ensures.next))

pub returns-in_ok-joined-in-Minus-clause-next : goal.returns-in_ok-joined-in-Minus-clause-next
returns-in_ok-joined-in-Minus-clause-next t c =
    let law = ap count_of_terms c.in-Minus.is ∙ count_of_terms-Minus c.in-Minus.a c.in-Minus.b in
    let a = ap count_of_terms c.get-in-Minus.ensures in
    let b = ap count_of_terms c.get-in-Minus-2.ensures in
    omega (arith, law, a, b, c.in_ok-left-in-Minus.ensures.next, c.in_ok-right-in-Minus.ensures.next)

pub returns-in_ok-joined-in-Minus-clause-expr : goal.returns-in_ok-joined-in-Minus-clause-expr
returns-in_ok-joined-in-Minus-clause-expr t c =
    let on = bit_of c.args.terms in
    let law = ap (left_of_terms on c.args.first) c.in-Minus.is ∙ left_of_terms-Minus on c.args.first c.in-Minus.a c.in-Minus.b in
    c.in_ok-joined-in-Minus.ensures.value ∙ joined on c.args.first c.in_ok-left-in-Minus.left.next difference_of_left c.args.expr.now c.in-Minus.a
    c.in-Minus.b c.get-in-Minus.result.now c.get-in-Minus-2.result.now c.in_ok-left-in-Minus.left.expr c.in_ok-right-in-Minus.right.expr law
    c.get-in-Minus.ensures c.get-in-Minus-2.ensures c.in_ok-left-in-Minus.ensures.expr c.in_ok-left-in-Minus.ensures.next
    c.in_ok-right-in-Minus.ensures.expr

pub returns-in_ok-joined-in-Negate-clause-expr : goal.returns-in_ok-joined-in-Negate-clause-expr
returns-in_ok-joined-in-Negate-clause-expr t c =
    let on = bit_of c.args.terms in
    let law = ap (left_of_terms on c.args.first) c.in-Negate.is ∙ left_of_terms-Negate on c.args.first c.in-Negate.a in
    c.in_ok-joined-in-Negate.ensures.value ∙ ap negation_of_left (c.in_ok-inner-in-Negate.ensures.expr
    ∙ ap (left_of_terms on c.args.first) c.get-in-Negate.ensures) ∙ sym law
