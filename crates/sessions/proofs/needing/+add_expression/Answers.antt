use Rattle.std.proofs.Common.{◌+◌, ◌≤◌, ◌++◌, length, ap, sym, subst, ◌∙◌, arith}
use Rattle.dt_model.specs.declared.limits.TheConstants.{MOST_UPDATES}
use Rattle.dt_model.specs.declared.statements.Expr.{Expr}
use Rattle.dt_model.specs.Statements.{accesses}
use Rattle.dt_model.proofs.StatementsLemmas.{accesses-Plus, accesses-Minus, accesses-Times, accesses-Negate}
use Rattle.slow_eval.proofs.Nodes.{nodes, nodes-Plus, nodes-Minus, nodes-Times, nodes-Negate}
use Rattle.sessions.specs.Needing.{access_ranges}
use Rattle.sessions.proofs.NeedingLemmas.{added_sides, room_first, room_second}
use Rattle.sessions.proofs.needing.+add_expression.Goals as goal

pub add_expression-requires : goal.add_expression-requires
add_expression-requires t c =
    let fewer = ap nodes c.in-Plus.is ∙ nodes-Plus c.in-Plus.a c.in-Plus.b in
    let part = ap nodes c.get.ensures in
    let room : length c.args.ranges.now.items + length (accesses c.get.result.now) ≤ MOST_UPDATES =
    room_first (length c.args.ranges.now.items) MOST_UPDATES c.args.expression.now c.in-Plus.a c.in-Plus.b c.get.result.now
    (ap accesses c.in-Plus.is ∙ accesses-Plus c.in-Plus.a c.in-Plus.b) c.get.ensures c.requires.room in
    (omega (arith, fewer, part), (c.requires.decls, room))

pub add_expression-requires-in-Plus : goal.add_expression-requires-in-Plus
add_expression-requires-in-Plus t c =
    let fewer = ap nodes c.in-Plus.is ∙ nodes-Plus c.in-Plus.a c.in-Plus.b in
    let part = ap nodes c.get-in-Plus.ensures in
    let room : length c.add_expression.new.ranges.items + length (accesses c.get-in-Plus.result.now) ≤ MOST_UPDATES =
    room_second c.args.decls.now c.args.ranges.now.items c.add_expression.new.ranges.items MOST_UPDATES c.args.expression.now c.in-Plus.a c.in-Plus.b
    c.get.result.now c.get-in-Plus.result.now (ap accesses c.in-Plus.is ∙ accesses-Plus c.in-Plus.a c.in-Plus.b) c.get.ensures c.get-in-Plus.ensures
    c.add_expression.ensures.added c.requires.room in
    (omega (arith, fewer, part), (c.requires.decls, room))

pub returns-in-Plus : goal.returns-in-Plus
returns-in-Plus t c = record {
  added = added_sides c.args.decls.now c.args.ranges.now.items c.add_expression.new.ranges.items c.add_expression-in-Plus.new.ranges.items c.args.expression.now
      c.in-Plus.a c.in-Plus.b c.get.result.now c.get-in-Plus.result.now (ap accesses c.in-Plus.is ∙ accesses-Plus c.in-Plus.a c.in-Plus.b) c.get.ensures
      c.get-in-Plus.ensures c.add_expression.ensures.added c.add_expression-in-Plus.ensures.added;
}

pub add_expression-requires-in-Minus : goal.add_expression-requires-in-Minus
add_expression-requires-in-Minus t c =
    let fewer = ap nodes c.in-Minus.is ∙ nodes-Minus c.in-Minus.a c.in-Minus.b in
    let part = ap nodes c.get-in-Minus.ensures in
    let room : length c.args.ranges.now.items + length (accesses c.get-in-Minus.result.now) ≤ MOST_UPDATES =
    room_first (length c.args.ranges.now.items) MOST_UPDATES c.args.expression.now c.in-Minus.a c.in-Minus.b c.get-in-Minus.result.now
    (ap accesses c.in-Minus.is ∙ accesses-Minus c.in-Minus.a c.in-Minus.b) c.get-in-Minus.ensures c.requires.room in
    (omega (arith, fewer, part), (c.requires.decls, room))

pub add_expression-requires-in-Minus-2 : goal.add_expression-requires-in-Minus-2
add_expression-requires-in-Minus-2 t c =
    let fewer = ap nodes c.in-Minus.is ∙ nodes-Minus c.in-Minus.a c.in-Minus.b in
    let part = ap nodes c.get-in-Minus-2.ensures in
    let room : length c.add_expression-in-Minus.new.ranges.items + length (accesses c.get-in-Minus-2.result.now) ≤ MOST_UPDATES =
    room_second c.args.decls.now c.args.ranges.now.items c.add_expression-in-Minus.new.ranges.items MOST_UPDATES c.args.expression.now c.in-Minus.a c.in-Minus.b
    c.get-in-Minus.result.now c.get-in-Minus-2.result.now (ap accesses c.in-Minus.is ∙ accesses-Minus c.in-Minus.a c.in-Minus.b)
    c.get-in-Minus.ensures c.get-in-Minus-2.ensures
    c.add_expression-in-Minus.ensures.added c.requires.room in
    (omega (arith, fewer, part), (c.requires.decls, room))

pub returns-in-Minus : goal.returns-in-Minus
returns-in-Minus t c = record {
  added = added_sides c.args.decls.now c.args.ranges.now.items c.add_expression-in-Minus.new.ranges.items c.add_expression-in-Minus-2.new.ranges.items
      c.args.expression.now
      c.in-Minus.a c.in-Minus.b c.get-in-Minus.result.now c.get-in-Minus-2.result.now (ap accesses c.in-Minus.is ∙ accesses-Minus c.in-Minus.a c.in-Minus.b)
      c.get-in-Minus.ensures
      c.get-in-Minus-2.ensures c.add_expression-in-Minus.ensures.added c.add_expression-in-Minus-2.ensures.added;
}

pub add_expression-requires-in-Times : goal.add_expression-requires-in-Times
add_expression-requires-in-Times t c =
    let fewer = ap nodes c.in-Times.is ∙ nodes-Times c.in-Times.a c.in-Times.b in
    let part = ap nodes c.get-in-Times.ensures in
    let room : length c.args.ranges.now.items + length (accesses c.get-in-Times.result.now) ≤ MOST_UPDATES =
    room_first (length c.args.ranges.now.items) MOST_UPDATES c.args.expression.now c.in-Times.a c.in-Times.b c.get-in-Times.result.now
    (ap accesses c.in-Times.is ∙ accesses-Times c.in-Times.a c.in-Times.b) c.get-in-Times.ensures c.requires.room in
    (omega (arith, fewer, part), (c.requires.decls, room))

pub add_expression-requires-in-Times-2 : goal.add_expression-requires-in-Times-2
add_expression-requires-in-Times-2 t c =
    let fewer = ap nodes c.in-Times.is ∙ nodes-Times c.in-Times.a c.in-Times.b in
    let part = ap nodes c.get-in-Times-2.ensures in
    let room : length c.add_expression-in-Times.new.ranges.items + length (accesses c.get-in-Times-2.result.now) ≤ MOST_UPDATES =
    room_second c.args.decls.now c.args.ranges.now.items c.add_expression-in-Times.new.ranges.items MOST_UPDATES c.args.expression.now c.in-Times.a c.in-Times.b
    c.get-in-Times.result.now c.get-in-Times-2.result.now (ap accesses c.in-Times.is ∙ accesses-Times c.in-Times.a c.in-Times.b)
    c.get-in-Times.ensures c.get-in-Times-2.ensures
    c.add_expression-in-Times.ensures.added c.requires.room in
    (omega (arith, fewer, part), (c.requires.decls, room))

pub returns-in-Times : goal.returns-in-Times
returns-in-Times t c = record {
  added = added_sides c.args.decls.now c.args.ranges.now.items c.add_expression-in-Times.new.ranges.items c.add_expression-in-Times-2.new.ranges.items
      c.args.expression.now
      c.in-Times.a c.in-Times.b c.get-in-Times.result.now c.get-in-Times-2.result.now (ap accesses c.in-Times.is ∙ accesses-Times c.in-Times.a c.in-Times.b)
      c.get-in-Times.ensures
      c.get-in-Times-2.ensures c.add_expression-in-Times.ensures.added c.add_expression-in-Times-2.ensures.added;
}

pub add_expression-requires-in-Negate : goal.add_expression-requires-in-Negate
add_expression-requires-in-Negate t c =
    let fewer = ap nodes c.in-Negate.is ∙ nodes-Negate c.in-Negate.a in
    let part = ap nodes c.get-in-Negate.ensures in
    let same = ap accesses c.in-Negate.is ∙ accesses-Negate c.in-Negate.a ∙ ap accesses (sym c.get-in-Negate.ensures) in
    let room : length c.args.ranges.now.items + length (accesses c.get-in-Negate.result.now) ≤ MOST_UPDATES =
    subst (λ accs. length c.args.ranges.now.items + length accs ≤ MOST_UPDATES) same c.requires.room in
    (omega (arith, fewer, part), (c.requires.decls, room))

pub returns-in-Negate : goal.returns-in-Negate
returns-in-Negate t c =
    let same = ap accesses c.in-Negate.is ∙ accesses-Negate c.in-Negate.a ∙ ap accesses (sym c.get-in-Negate.ensures) in
    record {
      added = c.add_expression-in-Negate.ensures.added ∙ ap (λ accs. c.args.ranges.now.items ++ access_ranges c.args.decls.now accs) (sym same);
    }
