use Rattle.std.proofs.Common.{◌++◌, length, length-append, ap, ◌∙◌, arith}
use Rattle.dt_model.specs.Statements.{accesses}
use Rattle.dt_model.proofs.StatementsLemmas.{accesses-Plus, accesses-Minus, accesses-Times}
use Rattle.index_check.proofs.Joining.{grown}
use Rattle.index_check.proofs.Laws.{length_accesses-Plus, length_accesses-Minus, length_accesses-Times, length_accesses-Negate}
use Rattle.index_check.proofs.Nodes.{nodes, nodes-Plus, nodes-Minus, nodes-Times, nodes-Negate}
use Rattle.index_check.proofs.accesses.+add_accesses.Goals as goal

-- ---- fewer nodes, and room

pub add_accesses-requires : goal.add_accesses-requires
add_accesses-requires t c =
    let fewer = ap nodes c.in-Plus.is ∙ nodes-Plus c.in-Plus.a c.in-Plus.b in
    let part = ap nodes c.get.ensures in
    let sizes = ap (λ e. length (accesses e)) c.in-Plus.is ∙ length_accesses-Plus c.in-Plus.a c.in-Plus.b in
    let first = ap (λ e. length (accesses e)) c.get.ensures in
    let room = c.requires.room in
    (omega (arith, fewer, part), omega (arith, sizes, first, room))

pub add_accesses-requires-in-Plus : goal.add_accesses-requires-in-Plus
add_accesses-requires-in-Plus t c =
    let fewer = ap nodes c.in-Plus.is ∙ nodes-Plus c.in-Plus.a c.in-Plus.b in
    let part = ap nodes c.get-in-Plus.ensures in
    let sizes = ap (λ e. length (accesses e)) c.in-Plus.is ∙ length_accesses-Plus c.in-Plus.a c.in-Plus.b in
    let first = ap (λ e. length (accesses e)) c.get.ensures in
    let second = ap (λ e. length (accesses e)) c.get-in-Plus.ensures in
    let more = ap length c.add_accesses.ensures.value ∙ length-append c.args.list.now.items (accesses c.get.result.now) in
    let room = c.requires.room in
    (omega (arith, fewer, part), omega (arith, sizes, first, second, more, room))

pub add_accesses-requires-in-Minus : goal.add_accesses-requires-in-Minus
add_accesses-requires-in-Minus t c =
    let fewer = ap nodes c.in-Minus.is ∙ nodes-Minus c.in-Minus.a c.in-Minus.b in
    let part = ap nodes c.get-in-Minus.ensures in
    let sizes = ap (λ e. length (accesses e)) c.in-Minus.is ∙ length_accesses-Minus c.in-Minus.a c.in-Minus.b in
    let first = ap (λ e. length (accesses e)) c.get-in-Minus.ensures in
    let room = c.requires.room in
    (omega (arith, fewer, part), omega (arith, sizes, first, room))

pub add_accesses-requires-in-Minus-2 : goal.add_accesses-requires-in-Minus-2
add_accesses-requires-in-Minus-2 t c =
    let fewer = ap nodes c.in-Minus.is ∙ nodes-Minus c.in-Minus.a c.in-Minus.b in
    let part = ap nodes c.get-in-Minus-2.ensures in
    let sizes = ap (λ e. length (accesses e)) c.in-Minus.is ∙ length_accesses-Minus c.in-Minus.a c.in-Minus.b in
    let first = ap (λ e. length (accesses e)) c.get-in-Minus.ensures in
    let second = ap (λ e. length (accesses e)) c.get-in-Minus-2.ensures in
    let more = ap length c.add_accesses-in-Minus.ensures.value ∙ length-append c.args.list.now.items (accesses c.get-in-Minus.result.now) in
    let room = c.requires.room in
    (omega (arith, fewer, part), omega (arith, sizes, first, second, more, room))

pub add_accesses-requires-in-Times : goal.add_accesses-requires-in-Times
add_accesses-requires-in-Times t c =
    let fewer = ap nodes c.in-Times.is ∙ nodes-Times c.in-Times.a c.in-Times.b in
    let part = ap nodes c.get-in-Times.ensures in
    let sizes = ap (λ e. length (accesses e)) c.in-Times.is ∙ length_accesses-Times c.in-Times.a c.in-Times.b in
    let first = ap (λ e. length (accesses e)) c.get-in-Times.ensures in
    let room = c.requires.room in
    (omega (arith, fewer, part), omega (arith, sizes, first, room))

pub add_accesses-requires-in-Times-2 : goal.add_accesses-requires-in-Times-2
add_accesses-requires-in-Times-2 t c =
    let fewer = ap nodes c.in-Times.is ∙ nodes-Times c.in-Times.a c.in-Times.b in
    let part = ap nodes c.get-in-Times-2.ensures in
    let sizes = ap (λ e. length (accesses e)) c.in-Times.is ∙ length_accesses-Times c.in-Times.a c.in-Times.b in
    let first = ap (λ e. length (accesses e)) c.get-in-Times.ensures in
    let second = ap (λ e. length (accesses e)) c.get-in-Times-2.ensures in
    let more = ap length c.add_accesses-in-Times.ensures.value ∙ length-append c.args.list.now.items (accesses c.get-in-Times.result.now) in
    let room = c.requires.room in
    (omega (arith, fewer, part), omega (arith, sizes, first, second, more, room))

pub add_accesses-requires-in-Negate : goal.add_accesses-requires-in-Negate
add_accesses-requires-in-Negate t c =
    let fewer = ap nodes c.in-Negate.is ∙ nodes-Negate c.in-Negate.a in
    let part = ap nodes c.get-in-Negate.ensures in
    let sizes = ap (λ e. length (accesses e)) c.in-Negate.is ∙ length_accesses-Negate c.in-Negate.a in
    let first = ap (λ e. length (accesses e)) c.get-in-Negate.ensures in
    let room = c.requires.room in
    (omega (arith, fewer, part), omega (arith, sizes, first, room))

-- ---- what is put

pub returns-in-Plus : goal.returns-in-Plus
returns-in-Plus t c = record {
  value = grown c.args.list.now.items c.add_accesses.new.list.items c.add_accesses-in-Plus.new.list.items (accesses c.in-Plus.a) (accesses c.in-Plus.b)
      (accesses c.args.expr.now) (ap accesses c.in-Plus.is ∙ accesses-Plus c.in-Plus.a c.in-Plus.b)
      (c.add_accesses.ensures.value ∙ ap (λ e. c.args.list.now.items ++ accesses e) c.get.ensures)
      (c.add_accesses-in-Plus.ensures.value ∙ ap (λ e. c.add_accesses.new.list.items ++ accesses e) c.get-in-Plus.ensures);
}

pub returns-in-Minus : goal.returns-in-Minus
returns-in-Minus t c = record {
  value = grown c.args.list.now.items c.add_accesses-in-Minus.new.list.items c.add_accesses-in-Minus-2.new.list.items (accesses c.in-Minus.a)
      (accesses c.in-Minus.b)
      (accesses c.args.expr.now) (ap accesses c.in-Minus.is ∙ accesses-Minus c.in-Minus.a c.in-Minus.b)
      (c.add_accesses-in-Minus.ensures.value ∙ ap (λ e. c.args.list.now.items ++ accesses e) c.get-in-Minus.ensures)
      (c.add_accesses-in-Minus-2.ensures.value ∙ ap (λ e. c.add_accesses-in-Minus.new.list.items ++ accesses e) c.get-in-Minus-2.ensures);
}

pub returns-in-Times : goal.returns-in-Times
returns-in-Times t c = record {
  value = grown c.args.list.now.items c.add_accesses-in-Times.new.list.items c.add_accesses-in-Times-2.new.list.items (accesses c.in-Times.a)
      (accesses c.in-Times.b)
      (accesses c.args.expr.now) (ap accesses c.in-Times.is ∙ accesses-Times c.in-Times.a c.in-Times.b)
      (c.add_accesses-in-Times.ensures.value ∙ ap (λ e. c.args.list.now.items ++ accesses e) c.get-in-Times.ensures)
      (c.add_accesses-in-Times-2.ensures.value ∙ ap (λ e. c.add_accesses-in-Times.new.list.items ++ accesses e) c.get-in-Times-2.ensures);
}
