use Rattle.std.proofs.Common.{refl, arith, ◌≤◌, ◌<◌, length, length-set}
use Rattle.commit_core.specs.declared.events.Event.TheVariants.{Take}
use Rattle.commit_core.specs.Machine.{journal_latch}
use Rattle.commit_core.specs.CellListState.{all_cells}
use Rattle.commit_core.proofs.CoreSteps.{IsPossible, take_is, take_in_range}
use Rattle.commit_core.proofs.InvariantLemmas.{IsInvariant-after_event}
use Rattle.commit_core.proofs.cores.Core.take.Goals as goal

pub returns-clause-value : goal.returns-clause-value
returns-clause-value c =
    let i = c.self.inside in
    let now : IsPossible i.world.now i.holders.items i.positions.items (Take c.args.session c.args.latch) = rw (← c.self.view_is) at c.requires.possible in
    let low : c.args.latch ≤ journal_latch i.world.now.decls = take_in_range i.world.now i.holders.items i.positions.items c.args.session c.args.latch now in
    let in' : c.args.latch < length i.holders.items = omega (arith, c.self.invariant.latches) in
    rw (← c.self.view_is) (take_is i.world.now i.holders.items _ i.positions.items (all_cells i.tensors.items) i.journal.entries i.replies.items i.lost.items
    c.args.session c.args.latch refl in')

pub invariant_of-self : goal.invariant_of-self
invariant_of-self c =
    let i = c.self.inside in
    let now : IsPossible i.world.now i.holders.items i.positions.items (Take c.args.session c.args.latch) = rw (← c.self.view_is) at c.requires.possible in
    let low : c.args.latch ≤ journal_latch i.world.now.decls = take_in_range i.world.now i.holders.items i.positions.items c.args.session c.args.latch now in
    let in' : c.args.latch < length i.holders.items = omega (arith, c.self.invariant.latches) in
    IsInvariant-after_event _ _ _ _ _ _ (Take c.args.session c.args.latch) c.self.invariant now refl
    (take_is i.world.now i.holders.items _ i.positions.items (all_cells i.tensors.items) i.journal.entries i.replies.items i.lost.items c.args.session
    c.args.latch refl in')
    (length-set i.holders.items c.args.latch c.args.session) refl refl refl
