use Rattle.std.proofs.Common.{◌≡◌, refl, ap, sym, ◌∙◌, length, length-set, length-append, arith, true, Some, subst, ◌++◌, ◌∷◌, []}
use Rattle.std.specs.Option.{option_copied}
use Rattle.dt_model.specs.declared.calls.Entry.{Entry}
use Rattle.dt_model.specs.Runs.{call_of, after_call}
use Rattle.commit_core.specs.declared.events.Event.TheVariants.{Commit}
use Rattle.commit_core.specs.Cells.{contents_of}
use Rattle.commit_core.specs.CellListState.{all_cells, all_orders}
use Rattle.commit_core.specs.Orders.{orders_of, IsCallOf}
use Rattle.commit_core.specs.Events.{read_from_latches, after_commit}
use Rattle.commit_core.specs.State.{position_in, content_in, progress_of}
use Rattle.commit_core.proofs.OrdersLemmas.{IsCallOf-valid}
use Rattle.commit_core.proofs.CellListStateLemmas.{whole}
use Rattle.commit_core.proofs.CoreSteps.{IsPossible, commit_is, position_in_range}
use Rattle.commit_core.proofs.InvariantLemmas.{room_to_commit, IsInvariant-after_event}
use Rattle.commit_core.proofs.cores.Core.commit.Goals as goal

pub commit_call-requires-clause-call : goal.commit_call-requires-clause-call
commit_call-requires-clause-call c =
    let i = c.self.inside in
    let orders : all_orders c.deref_mut.result.now ≡ orders_of i.world.now.decls = ap all_orders c.deref_mut.ensures.value ∙ c.self.invariant.tensors in
    subst (λ os. IsCallOf os c.in-Some.call.now) (sym orders) (IsCallOf-valid i.world.now.decls c.in-Some.call.now c.in-Some.ensures.valid)

pub commit_call-requires-clause-room : goal.commit_call-requires-clause-room
commit_call-requires-clause-room c =
    let i = c.self.inside in
    let now : IsPossible i.world.now i.holders.items i.positions.items (Commit c.args.session) = rw (← c.self.view_is) at c.requires.possible in
    let fewer = room_to_commit i.world.now _ c.args.session c.self.invariant.kept now in
    omega (arith, c.self.invariant.room, fewer)

pub invariant_of-self-in-Some : goal.invariant_of-self-in-Some
invariant_of-self-in-Some c =
    let i = c.self.inside in
    let s = c.args.session in
    let call = c.in-Some.call.now in
    let now : IsPossible i.world.now i.holders.items i.positions.items (Commit s) = rw (← c.self.view_is) at c.requires.possible in
    let n : c.position_of-position.result.number ≡ (position_in i.positions.items s).number =
    ap (λ x. x.number) (rw c.as_slice.ensures.value at c.position_of-position.ensures.value) in
    let found : call_of i.world.now s (position_in i.positions.items s).number ≡ Some call = ap (call_of i.world.now s) (sym n) ∙ sym c.call_of.ensures.value
    ∙ ap option_copied c.in-Some.is in
    let len : length c.commit_call.new.tensors ≡ i.tensors.len = omega (arith, c.commit_call.auto.tensors, c.deref_mut.ensures.len) in
    let made = subst (λ ts. contents_of (all_cells c.commit_call.new.tensors)
    ≡ after_call (contents_of (all_cells ts)) call) c.deref_mut.ensures.value c.in_ok-commit_call-in-Some.ensures.contents in
    let read = subst (λ ts. c.commit_call.new.replies.items ≡ i.replies.items ++ read_from_latches i.world.now.decls
    (content_in i.world.now.decls (all_cells ts)) call ∷ []) c.deref_mut.ensures.value (c.in_ok-commit_call-in-Some.ensures.replies i.world.now.decls) in
    let entries = c.in_ok-commit_call-in-Some.ensures.entries in
    let spare = c.in_ok-commit_call-in-Some.ensures.spare in
    let more = ap length entries in
    rw (whole i.tensors.len c.commit_call.new.tensors i.tensors.items len)
    (IsInvariant-after_event _ _ _ _ _ _ (Commit s) c.self.invariant now refl
    (commit_is i.world.now i.holders.items i.positions.items _ (all_cells i.tensors.items) (all_cells c.commit_call.new.tensors) i.journal.entries
    c.commit_call.new.journal.entries i.replies.items c.commit_call.new.replies.items i.lost.items
    s c.position_of-position.result.number call made entries read refl
    (position_in_range i.world.now i.holders.items i.positions.items (Commit s) now) n
    ∙ ap (λ o. after_commit i.world.now.decls (progress_of
    (record {
      world = i.world.now;
      holders = i.holders.items;
      positions = i.positions.items;
      tensors = all_cells i.tensors.items;
      entries =
          i.journal.entries;
      replies = i.replies.items;
      lost = i.lost.items;
    })) s o) (sym found))
    refl (length-set i.positions.items s (record { number = c.position_of-position.result.number; committed = true }))
    (c.commit_call.ensures.orders ∙ ap all_orders c.deref_mut.ensures.value)
    (omega (arith, length-append {A = Entry}, spare, more)))

pub returns-clause-ok : goal.returns-clause-ok
returns-clause-ok c =
    let i = c.self.inside in
    let s = c.args.session in
    let call = c.in-Some.call.now in
    let now : IsPossible i.world.now i.holders.items i.positions.items (Commit s) = rw (← c.self.view_is) at c.requires.possible in
    let n : c.position_of-position.result.number ≡ (position_in i.positions.items s).number =
    ap (λ x. x.number) (rw c.as_slice.ensures.value at c.position_of-position.ensures.value) in
    let found : call_of i.world.now s (position_in i.positions.items s).number ≡ Some call = ap (call_of i.world.now s) (sym n) ∙ sym c.call_of.ensures.value
    ∙ ap option_copied c.in-Some.is in
    let len : length c.commit_call.new.tensors ≡ i.tensors.len = omega (arith, c.commit_call.auto.tensors, c.deref_mut.ensures.len) in
    let made = subst (λ ts. contents_of (all_cells c.commit_call.new.tensors)
    ≡ after_call (contents_of (all_cells ts)) call) c.deref_mut.ensures.value c.in_ok-commit_call-in-Some.ensures.contents in
    let read = subst (λ ts. c.commit_call.new.replies.items ≡ i.replies.items ++ read_from_latches i.world.now.decls
    (content_in i.world.now.decls (all_cells ts)) call ∷ []) c.deref_mut.ensures.value (c.in_ok-commit_call-in-Some.ensures.replies i.world.now.decls) in
    rw (← c.self.view_is, whole i.tensors.len c.commit_call.new.tensors i.tensors.items len, found)
    (commit_is i.world.now i.holders.items i.positions.items _ (all_cells i.tensors.items) (all_cells c.commit_call.new.tensors) i.journal.entries
    c.commit_call.new.journal.entries i.replies.items c.commit_call.new.replies.items i.lost.items
    s c.position_of-position.result.number call made c.in_ok-commit_call-in-Some.ensures.entries read refl
    (position_in_range i.world.now i.holders.items i.positions.items (Commit s) now) n)
