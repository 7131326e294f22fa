use Rattle.std.proofs.Common.{◌≡◌, ℕ, ◌+◌, Bool, Option, ap, sym, ◌∙◌, arith}
use Rattle.dt_model.specs.declared.statements.Expr.{Expr}
use Rattle.merge_lattice.specs.declared.points.Point.{Point}
use Rattle.merge_lattice.specs.Lattices.{operands, bit_of}
use Rattle.merge_lattice.specs.Points.{parts, plus_points, minus_points, times_points, negate_point, point_in}
use Rattle.merge_lattice.proofs.Laws.{operands-Plus, operands-Minus, operands-Times, parts-Plus, parts-Minus, parts-Times, point_in-Plus, point_in-Minus, point_in-Times, point_in-Negate}
use Rattle.merge_lattice.proofs.points.+point_in.Goals as goal

-- the point of two parts, from what the two calls answered
joined : (v : ℕ) (on : ℕ → Bool) (k n : ℕ) (op : Option Point → Option Point → Option Point) (whole a b c d : Expr) (l r : Option Point)
    → point_in v on k whole ≡ op (point_in v on k a) (point_in v on (k + operands v a) b) → c ≡ a → d ≡ b
    → l ≡ point_in v on k c → n ≡ k + operands v c → r ≡ point_in v on n d → op l r ≡ point_in v on k whole
joined v on k n op whole a b c d l r law ca db lc nc rd = cc

pub point_in-requires-in-Plus : goal.point_in-requires-in-Plus
point_in-requires-in-Plus t c =
    let law = ap (operands c.args.var) c.in-Plus.is ∙ operands-Plus c.args.var c.in-Plus.a c.in-Plus.b in
    let size = ap parts c.in-Plus.is ∙ parts-Plus c.in-Plus.a c.in-Plus.b in
    let a = ap (operands c.args.var) c.get.ensures in
    let b = ap (operands c.args.var) c.get-in-Plus.ensures in
    let e = ap parts c.get-in-Plus.ensures in
    (omega (arith, size, e, c.decreases), omega (arith, law, a, b, c.requires.few, c.in_ok-left-in-Plus.ensures.next))

pub returns-in_ok-point-in-Plus-clause-next : goal.returns-in_ok-point-in-Plus-clause-next
returns-in_ok-point-in-Plus-clause-next t c =
    let law = ap (operands c.args.var) c.in-Plus.is ∙ operands-Plus c.args.var c.in-Plus.a c.in-Plus.b in
    let a = ap (operands c.args.var) c.get.ensures in
    let b = ap (operands c.args.var) c.get-in-Plus.ensures in
    omega (arith, law, a, b, c.in_ok-left-in-Plus.ensures.next, c.in_ok-right-in-Plus.ensures.next)

pub returns-in_ok-point-in-Plus-clause-point : goal.returns-in_ok-point-in-Plus-clause-point
returns-in_ok-point-in-Plus-clause-point t c =
    let on = bit_of c.args.set in
    let law = ap (point_in c.args.var on c.args.first) c.in-Plus.is ∙ point_in-Plus c.args.var on c.args.first c.in-Plus.a c.in-Plus.b in
    c.in_ok-point-in-Plus.ensures.value
    ∙ joined c.args.var on c.args.first c.in_ok-left-in-Plus.left.next plus_points
    c.args.expr.now c.in-Plus.a c.in-Plus.b c.get.result.now c.get-in-Plus.result.now
    c.in_ok-left-in-Plus.left.point c.in_ok-right-in-Plus.right.point law c.get.ensures c.get-in-Plus.ensures
    c.in_ok-left-in-Plus.ensures.point c.in_ok-left-in-Plus.ensures.next c.in_ok-right-in-Plus.ensures.point

pub point_in-requires-in-Minus-2 : goal.point_in-requires-in-Minus-2
point_in-requires-in-Minus-2 t c =
    let law = ap (operands c.args.var) c.in-Minus.is ∙ operands-Minus c.args.var c.in-Minus.a c.in-Minus.b in
    let size = ap parts c.in-Minus.is ∙ parts-Minus c.in-Minus.a c.in-Minus.b in
    let a = ap (operands c.args.var) c.get-in-Minus.ensures in
    let b = ap (operands c.args.var) c.get-in-Minus-2.ensures in
    let e = ap parts c.get-in-Minus-2.ensures in
    (omega (arith, size, e, c.decreases), omega (arith, law, a, b, c.requires.few, c.in_ok-left-in-Minus.ensures.next))

pub returns-in_ok-point-in-Minus-clause-next : goal.returns-in_ok-point-in-Minus-clause-next
returns-in_ok-point-in-Minus-clause-next t c =
    let law = ap (operands c.args.var) c.in-Minus.is ∙ operands-Minus c.args.var c.in-Minus.a c.in-Minus.b in
    let a = ap (operands c.args.var) c.get-in-Minus.ensures in
    let b = ap (operands c.args.var) c.get-in-Minus-2.ensures in
    omega (arith, law, a, b, c.in_ok-left-in-Minus.ensures.next, c.in_ok-right-in-Minus.ensures.next)

pub returns-in_ok-point-in-Minus-clause-point : goal.returns-in_ok-point-in-Minus-clause-point
returns-in_ok-point-in-Minus-clause-point t c =
    let on = bit_of c.args.set in
    let law = ap (point_in c.args.var on c.args.first) c.in-Minus.is ∙ point_in-Minus c.args.var on c.args.first c.in-Minus.a c.in-Minus.b in
    c.in_ok-point-in-Minus.ensures.value
    ∙ joined c.args.var on c.args.first c.in_ok-left-in-Minus.left.next minus_points
    c.args.expr.now c.in-Minus.a c.in-Minus.b c.get-in-Minus.result.now c.get-in-Minus-2.result.now
    c.in_ok-left-in-Minus.left.point c.in_ok-right-in-Minus.right.point law c.get-in-Minus.ensures c.get-in-Minus-2.ensures
    c.in_ok-left-in-Minus.ensures.point c.in_ok-left-in-Minus.ensures.next c.in_ok-right-in-Minus.ensures.point

pub point_in-requires-in-Times-2 : goal.point_in-requires-in-Times-2
point_in-requires-in-Times-2 t c =
    let law = ap (operands c.args.var) c.in-Times.is ∙ operands-Times c.args.var c.in-Times.a c.in-Times.b in
    let size = ap parts c.in-Times.is ∙ parts-Times c.in-Times.a c.in-Times.b in
    let a = ap (operands c.args.var) c.get-in-Times.ensures in
    let b = ap (operands c.args.var) c.get-in-Times-2.ensures in
    let e = ap parts c.get-in-Times-2.ensures in
    (omega (arith, size, e, c.decreases), omega (arith, law, a, b, c.requires.few, c.in_ok-left-in-Times.ensures.next))

pub returns-in_ok-point-in-Times-clause-next : goal.returns-in_ok-point-in-Times-clause-next
returns-in_ok-point-in-Times-clause-next t c =
    let law = ap (operands c.args.var) c.in-Times.is ∙ operands-Times c.args.var c.in-Times.a c.in-Times.b in
    let a = ap (operands c.args.var) c.get-in-Times.ensures in
    let b = ap (operands c.args.var) c.get-in-Times-2.ensures in
    omega (arith, law, a, b, c.in_ok-left-in-Times.ensures.next, c.in_ok-right-in-Times.ensures.next)

pub returns-in_ok-point-in-Times-clause-point : goal.returns-in_ok-point-in-Times-clause-point
returns-in_ok-point-in-Times-clause-point t c =
    let on = bit_of c.args.set in
    let law = ap (point_in c.args.var on c.args.first) c.in-Times.is ∙ point_in-Times c.args.var on c.args.first c.in-Times.a c.in-Times.b in
    c.in_ok-point-in-Times.ensures.value
    ∙ joined c.args.var on c.args.first c.in_ok-left-in-Times.left.next times_points
    c.args.expr.now c.in-Times.a c.in-Times.b c.get-in-Times.result.now c.get-in-Times-2.result.now
    c.in_ok-left-in-Times.left.point c.in_ok-right-in-Times.right.point law c.get-in-Times.ensures c.get-in-Times-2.ensures
    c.in_ok-left-in-Times.ensures.point c.in_ok-left-in-Times.ensures.next c.in_ok-right-in-Times.ensures.point

pub returns-in_ok-point-in-Negate-clause-point : goal.returns-in_ok-point-in-Negate-clause-point
returns-in_ok-point-in-Negate-clause-point t c =
    let on = bit_of c.args.set in
    let law = ap (point_in c.args.var on c.args.first) c.in-Negate.is ∙ point_in-Negate c.args.var on c.args.first c.in-Negate.a in
    c.in_ok-point-in-Negate.ensures.value
    ∙ ap negate_point (c.in_ok-inner-in-Negate.ensures.point ∙ ap (point_in c.args.var on c.args.first) c.get-in-Negate.ensures) ∙ sym law
