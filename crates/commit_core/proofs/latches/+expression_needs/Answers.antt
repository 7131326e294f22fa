use Rattle.commit_core.proofs.ValidScripts.{or_here, or_later}
use Rattle.commit_core.proofs.Expressions.{any_of-Plus, any_of-Minus, any_of-Times, any_of-Negate}
use Rattle.commit_core.proofs.latches.+expression_needs.Goals as goal

pub returns-then-expression_needs : goal.returns-then-expression_needs
returns-then-expression_needs t c = record {
  value = rw (
    c.in-Plus.is,
    any_of-Plus,
  ) (or_here _ _ _ c.if-expression_needs.true (rw c.get.ensures at c.expression_needs.ensures.value));
}

pub returns-else-expression_needs : goal.returns-else-expression_needs
returns-else-expression_needs t c = record {
  value =
      rw (c.in-Plus.is, any_of-Plus) (or_later _ _ _ _ c.if-expression_needs.false (rw c.get.ensures at c.expression_needs.ensures.value)
      (rw c.get-else-expression_needs.ensures at c.expression_needs-else-expression_needs.ensures.value));
}

pub returns-then-expression_needs-2 : goal.returns-then-expression_needs-2
returns-then-expression_needs-2 t c = record {
  value = rw (
    c.in-Minus.is,
    any_of-Minus,
  ) (or_here _ _ _ c.if-expression_needs-2.true (rw c.get-in-Minus.ensures at c.expression_needs-in-Minus.ensures.value));
}

pub returns-else-expression_needs-2 : goal.returns-else-expression_needs-2
returns-else-expression_needs-2 t c = record {
  value =
      rw (c.in-Minus.is, any_of-Minus) (or_later _ _ _ _ c.if-expression_needs-2.false (rw c.get-in-Minus.ensures at c.expression_needs-in-Minus.ensures.value)
      (rw c.get-else-expression_needs-2.ensures at c.expression_needs-else-expression_needs-2.ensures.value));
}

pub returns-then-expression_needs-3 : goal.returns-then-expression_needs-3
returns-then-expression_needs-3 t c = record {
  value = rw (
    c.in-Times.is,
    any_of-Times,
  ) (or_here _ _ _ c.if-expression_needs-3.true (rw c.get-in-Times.ensures at c.expression_needs-in-Times.ensures.value));
}

pub returns-else-expression_needs-3 : goal.returns-else-expression_needs-3
returns-else-expression_needs-3 t c = record {
  value =
      rw (c.in-Times.is, any_of-Times) (or_later _ _ _ _ c.if-expression_needs-3.false (rw c.get-in-Times.ensures at c.expression_needs-in-Times.ensures.value)
      (rw c.get-else-expression_needs-3.ensures at c.expression_needs-else-expression_needs-3.ensures.value));
}

pub returns-in-Negate : goal.returns-in-Negate
returns-in-Negate t c = record { value = rw (c.in-Negate.is, any_of-Negate) (rw c.get-in-Negate.ensures at c.expression_needs-in-Negate.ensures.value) }
