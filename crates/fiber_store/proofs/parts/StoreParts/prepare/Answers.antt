use Rattle.std.proofs.Common.{rules, ◌≤◌, length, sym, ◌∙◌, subst}
use Rattle.fiber_store.specs.Stores.{IsSound}
use Rattle.fiber_store.proofs.FibersLemmas.{filter-own}
use Rattle.fiber_store.proofs.WholeStores.{IsWhole-kept}
use Rattle.fiber_store.proofs.parts.StoreParts.prepare.Goals as goal

pub invariant_of-self-2 : goal.invariant_of-self-2
invariant_of-self-2 c =
    let inside = c.self.inside in
    let room : length c.keep_own.new.due.items ≤ c.reserve.new.self.spare = search rules in
    IsWhole-kept inside.fiber inside.cells c.reserve.new.self inside.due.items c.args.updates.now c.keep_own.new.due.items c.self.invariant
    c.reserve.ensures.pairs c.reserve.ensures.order c.in_ok-keep_own.ensures.ok room

pub returns-clause-due : goal.returns-clause-due
returns-clause-due c = λ d w sound valid.
    let inside = c.self.inside in
    c.in_ok-keep_own.ensures.ok ∙ filter-own d w inside.fiber inside.cells.pairs inside.due.items c.args.updates.now valid
    (subst (IsSound d w) (sym c.self.view_is) sound)
