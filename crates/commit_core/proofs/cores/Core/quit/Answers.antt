use Rattle.std.proofs.Common.{◌≡◌, refl, ap, ◌++◌, ◌∷◌, [], set, length-set}
use Rattle.commit_core.specs.declared.events.Event.TheVariants.{Quit}
use Rattle.commit_core.specs.State.{position_in}
use Rattle.commit_core.specs.CellListState.{all_cells}
use Rattle.commit_core.proofs.CoreSteps.{IsPossible, quit_is, position_in_range}
use Rattle.commit_core.proofs.InvariantLemmas.{IsInvariant-after_event}
use Rattle.commit_core.proofs.cores.Core.quit.Goals as goal

pub returns-clause-ok : goal.returns-clause-ok
returns-clause-ok c =
    let i = c.self.inside in
    let s = c.args.session in
    let now : IsPossible i.world.now i.holders.items i.positions.items (Quit s) = rw (← c.self.view_is) at c.requires.possible in
    let n : c.position_of-position.result.number ≡ (position_in i.positions.items s).number =
    ap (λ x. x.number) (rw c.as_slice.ensures.value at c.position_of-position.ensures.value) in
    let gone : c.push.new.self.items ≡ i.lost.items ++ (record { session = s; number = c.position_of-position.result.number }) ∷ [] =
    c.in_ok-push.ensures.items in
    rw (← c.self.view_is) (quit_is i.world.now i.holders.items c.release.new.holders.items i.positions.items _ (all_cells i.tensors.items) i.journal.entries
    i.replies.items i.lost.items c.push.new.self.items s c.position_of-position.result.number
    c.release.ensures.holders (ap (λ x. set i.positions.items s x) c.position_after.ensures.value)
    (position_in_range i.world.now i.holders.items i.positions.items (Quit s) now) n gone)

pub invariant_of-self-2 : goal.invariant_of-self-2
invariant_of-self-2 c =
    let i = c.self.inside in
    let s = c.args.session in
    let now : IsPossible i.world.now i.holders.items i.positions.items (Quit s) = rw (← c.self.view_is) at c.requires.possible in
    let n : c.position_of-position.result.number ≡ (position_in i.positions.items s).number =
    ap (λ x. x.number) (rw c.as_slice.ensures.value at c.position_of-position.ensures.value) in
    let gone : c.push.new.self.items ≡ i.lost.items ++ (record { session = s; number = c.position_of-position.result.number }) ∷ [] =
    c.in_ok-push.ensures.items in
    IsInvariant-after_event _ _ _ _ _ _ (Quit s) c.self.invariant now refl
    (quit_is i.world.now i.holders.items c.release.new.holders.items i.positions.items _ (all_cells i.tensors.items) i.journal.entries i.replies.items
    i.lost.items c.push.new.self.items s c.position_of-position.result.number
    c.release.ensures.holders (ap (λ x. set i.positions.items s x) c.position_after.ensures.value)
    (position_in_range i.world.now i.holders.items i.positions.items (Quit s) now) n gone)
    c.release.ensures.len (length-set i.positions.items s c.position_after.result) refl refl
