use Rattle.std.proofs.Common.{◌≡◌, refl, ap, sym, ◌∙◌, ◌<◌, length, length-set, set, true, false, arith}
use Rattle.commit_core.specs.declared.events.Event.TheVariants.{Give}
use Rattle.commit_core.specs.State.{position_in}
use Rattle.commit_core.specs.Events.{position_after}
use Rattle.commit_core.specs.CellListState.{all_cells}
use Rattle.commit_core.proofs.CoreSteps.{IsPossible, give_is, give_in_range, position_in_range}
use Rattle.commit_core.proofs.InvariantLemmas.{IsInvariant-after_event}
use Rattle.commit_core.proofs.cores.Core.give.Goals as goal

pub index_mut-requires : goal.index_mut-requires
index_mut-requires c =
    let i = c.self.inside in
    let now : IsPossible i.world.now i.holders.items i.positions.items (Give c.args.session c.args.latch) = rw (← c.self.view_is) at c.requires.possible in
    let in' : c.args.latch < length i.holders.items = give_in_range i.world.now i.holders.items i.positions.items c.args.session c.args.latch now in
    omega (arith, i.holders.ok.0)

pub returns-then-holds_none-clause-value : goal.returns-then-holds_none-clause-value
returns-then-holds_none-clause-value c =
    let i = c.self.inside in
    let now : IsPossible i.world.now i.holders.items i.positions.items (Give c.args.session c.args.latch) = rw (← c.self.view_is) at c.requires.possible in
    let place : c.position_after.result ≡ position_after i.world.now c.args.session (position_in i.positions.items c.args.session).number =
    c.position_after.ensures.value ∙ ap (λ x. position_after i.world.now c.args.session x.number)
    (rw c.as_slice-then-holds_none.ensures.value at c.position_of-position.ensures.value) in
    rw (← c.self.view_is) (give_is i.world.now i.holders.items _ i.positions.items _ (all_cells i.tensors.items) i.journal.entries i.replies.items
    i.lost.items c.args.session c.args.latch true refl
    (give_in_range i.world.now i.holders.items i.positions.items c.args.session c.args.latch now) c.self.invariant.latches
    (rw c.as_slice.ensures.value at (sym c.holds_none.ensures.value ∙ c.if-holds_none.true)) (ap (λ x. set i.positions.items c.args.session x) place)
    (position_in_range i.world.now i.holders.items i.positions.items (Give c.args.session c.args.latch) now))

pub returns-else-holds_none-clause-value : goal.returns-else-holds_none-clause-value
returns-else-holds_none-clause-value c =
    let i = c.self.inside in
    let now : IsPossible i.world.now i.holders.items i.positions.items (Give c.args.session c.args.latch) = rw (← c.self.view_is) at c.requires.possible in
    rw (← c.self.view_is) (give_is i.world.now i.holders.items _ i.positions.items i.positions.items (all_cells i.tensors.items) i.journal.entries
    i.replies.items i.lost.items c.args.session c.args.latch false refl
    (give_in_range i.world.now i.holders.items i.positions.items c.args.session c.args.latch now) c.self.invariant.latches
    (rw c.as_slice.ensures.value at (sym c.holds_none.ensures.value ∙ c.if-holds_none.false)) refl
    (position_in_range i.world.now i.holders.items i.positions.items (Give c.args.session c.args.latch) now))

pub invariant_of-self : goal.invariant_of-self
invariant_of-self c =
    let i = c.self.inside in
    let now : IsPossible i.world.now i.holders.items i.positions.items (Give c.args.session c.args.latch) = rw (← c.self.view_is) at c.requires.possible in
    let place : c.position_after.result ≡ position_after i.world.now c.args.session (position_in i.positions.items c.args.session).number =
    c.position_after.ensures.value ∙ ap (λ x. position_after i.world.now c.args.session x.number)
    (rw c.as_slice-then-holds_none.ensures.value at c.position_of-position.ensures.value) in
    IsInvariant-after_event _ _ _ _ _ _ (Give c.args.session c.args.latch) c.self.invariant now refl
    (give_is i.world.now i.holders.items _ i.positions.items _ (all_cells i.tensors.items) i.journal.entries i.replies.items i.lost.items c.args.session
    c.args.latch true refl
    (give_in_range i.world.now i.holders.items i.positions.items c.args.session c.args.latch now) c.self.invariant.latches
    (rw c.as_slice.ensures.value at (sym c.holds_none.ensures.value ∙ c.if-holds_none.true)) (ap (λ x. set i.positions.items c.args.session x) place)
    (position_in_range i.world.now i.holders.items i.positions.items (Give c.args.session c.args.latch) now))
    (length-set i.holders.items c.args.latch 0) (length-set i.positions.items c.args.session c.position_after.result) refl refl

pub invariant_of-self-else-holds_none : goal.invariant_of-self-else-holds_none
invariant_of-self-else-holds_none c =
    let i = c.self.inside in
    let now : IsPossible i.world.now i.holders.items i.positions.items (Give c.args.session c.args.latch) = rw (← c.self.view_is) at c.requires.possible in
    IsInvariant-after_event _ _ _ _ _ _ (Give c.args.session c.args.latch) c.self.invariant now refl
    (give_is i.world.now i.holders.items _ i.positions.items i.positions.items (all_cells i.tensors.items) i.journal.entries i.replies.items i.lost.items
    c.args.session c.args.latch false refl
    (give_in_range i.world.now i.holders.items i.positions.items c.args.session c.args.latch now) c.self.invariant.latches
    (rw c.as_slice.ensures.value at (sym c.holds_none.ensures.value ∙ c.if-holds_none.false)) refl
    (position_in_range i.world.now i.holders.items i.positions.items (Give c.args.session c.args.latch) now))
    (length-set i.holders.items c.args.latch 0) refl refl refl
