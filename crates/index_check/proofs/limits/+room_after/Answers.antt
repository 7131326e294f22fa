use Rattle.std.proofs.Common.{ap, sym, ◌∙◌}
use Rattle.index_check.specs.Small.{room_after}
use Rattle.index_check.proofs.SmallLemmas.{then_none, then_some}
use Rattle.index_check.proofs.Laws.{room_after-Plus, room_after-Minus, room_after-Times, room_after-Negate}
use Rattle.index_check.proofs.limits.+room_after.Goals as goal

pub returns-in-None : goal.returns-in-None
returns-in-None t c = record {
  value = then_none (λ r. room_after r c.in-Plus.a) (λ r. room_after r c.in-Plus.b) c.args.room (room_after c.args.room c.args.expr.now) c.room_after.result
      (ap (room_after c.args.room) c.in-Plus.is ∙ room_after-Plus c.args.room c.in-Plus.a c.in-Plus.b)
      (c.room_after.ensures.value ∙ ap (room_after c.args.room) c.get.ensures) c.in-None.is;
}

pub returns-in-Some : goal.returns-in-Some
returns-in-Some t c = record {
  value = then_some (λ r. room_after r c.in-Plus.a) (λ r. room_after r c.in-Plus.b) c.args.room (room_after c.args.room c.args.expr.now) c.room_after.result
      c.room_after-in-Some.result c.in-Some.left
      (ap (room_after c.args.room) c.in-Plus.is ∙ room_after-Plus c.args.room c.in-Plus.a c.in-Plus.b)
      (c.room_after.ensures.value ∙ ap (room_after c.args.room) c.get.ensures) c.in-Some.is
      (c.room_after-in-Some.ensures.value ∙ ap (room_after c.in-Some.left) c.get-in-Some.ensures);
}

pub returns-in-None-room_after : goal.returns-in-None-room_after
returns-in-None-room_after t c = record {
  value = then_none (λ r. room_after r c.in-Minus.a) (λ r. room_after r c.in-Minus.b) c.args.room (room_after c.args.room c.args.expr.now)
      c.room_after-in-Minus.result
      (ap (room_after c.args.room) c.in-Minus.is ∙ room_after-Minus c.args.room c.in-Minus.a c.in-Minus.b)
      (c.room_after-in-Minus.ensures.value ∙ ap (room_after c.args.room) c.get-in-Minus.ensures) c.in-None-room_after.is;
}

pub returns-in-Some-room_after : goal.returns-in-Some-room_after
returns-in-Some-room_after t c = record {
  value = then_some (λ r. room_after r c.in-Minus.a) (λ r. room_after r c.in-Minus.b) c.args.room (room_after c.args.room c.args.expr.now)
      c.room_after-in-Minus.result
      c.room_after-in-Some-room_after.result c.in-Some-room_after.left
      (ap (room_after c.args.room) c.in-Minus.is ∙ room_after-Minus c.args.room c.in-Minus.a c.in-Minus.b)
      (c.room_after-in-Minus.ensures.value ∙ ap (room_after c.args.room) c.get-in-Minus.ensures) c.in-Some-room_after.is
      (c.room_after-in-Some-room_after.ensures.value ∙ ap (room_after c.in-Some-room_after.left) c.get-in-Some-room_after.ensures);
}

pub returns-in-None-room_after-2 : goal.returns-in-None-room_after-2
returns-in-None-room_after-2 t c = record {
  value = then_none (λ r. room_after r c.in-Times.a) (λ r. room_after r c.in-Times.b) c.args.room (room_after c.args.room c.args.expr.now)
      c.room_after-in-Times.result
      (ap (room_after c.args.room) c.in-Times.is ∙ room_after-Times c.args.room c.in-Times.a c.in-Times.b)
      (c.room_after-in-Times.ensures.value ∙ ap (room_after c.args.room) c.get-in-Times.ensures) c.in-None-room_after-2.is;
}

pub returns-in-Some-room_after-2 : goal.returns-in-Some-room_after-2
returns-in-Some-room_after-2 t c = record {
  value = then_some (λ r. room_after r c.in-Times.a) (λ r. room_after r c.in-Times.b) c.args.room (room_after c.args.room c.args.expr.now)
      c.room_after-in-Times.result
      c.room_after-in-Some-room_after-2.result c.in-Some-room_after-2.left
      (ap (room_after c.args.room) c.in-Times.is ∙ room_after-Times c.args.room c.in-Times.a c.in-Times.b)
      (c.room_after-in-Times.ensures.value ∙ ap (room_after c.args.room) c.get-in-Times.ensures) c.in-Some-room_after-2.is
      (c.room_after-in-Some-room_after-2.ensures.value ∙ ap (room_after c.in-Some-room_after-2.left) c.get-in-Some-room_after-2.ensures);
}

pub returns-in-Negate : goal.returns-in-Negate
returns-in-Negate t c = record {
  value = c.room_after-in-Negate.ensures.value ∙ ap (room_after c.args.room) c.get-in-Negate.ensures
      ∙ sym (ap (room_after c.args.room) c.in-Negate.is ∙ room_after-Negate c.args.room c.in-Negate.a);
}
