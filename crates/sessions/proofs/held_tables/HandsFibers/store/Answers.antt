use Rattle.std.proofs.Common.{◌≡◌, ◌≢◌, ◌≤◌, ◌+◌, List, length, take, arith, refl, ap, sym, subst}
use Rattle.std.proofs.lemmas.List.{take_all}
use Rattle.fiber_latch.specs.Views.{In}
use Rattle.fiber_store.specs.Stores.{StoreState}
use Rattle.sessions.specs.declared.hands.Hand.{Hand}
use Rattle.sessions.proofs.HoldingLemmas.{in_at, all_taken}
use Rattle.sessions.proofs.held_tables.HandsFibers.store.Goals as goal

pub returns-then-hand-latch-clause-some : goal.returns-then-hand-latch-clause-some
returns-then-hand-latch-clause-some c =
    let h = c.hand-item.result in
    let list = c.deref-hand-items.result.now in (
      h,
      subst (In h) c.deref-hand-items.ensures.value
          (subst (λ (x : Hand StoreState). In x list) (sym c.hand-item.is) (in_at list c.loop-hand.hand-index h c.loop-hand-test.true)),
      c.if-hand-latch.true,
      refl,
    )

pub loop-hand-preserved : goal.loop-hand-preserved
loop-hand-preserved c =
    let list = c.deref-hand-items.result.now in
    let same = c.deref-hand-items.ensures.value in
    let i = c.loop-hand.hand-index in
    subst (λ (hs : List (Hand StoreState)). (h : Hand StoreState) → In h (take (i + 1) hs) → h.latch ≢ c.args.latch) same
    (all_taken (λ (h : Hand StoreState). h.latch ≢ c.args.latch) list i c.hand-item.result c.loop-hand-test.true c.hand-item.is
    (subst (λ (hs : List (Hand StoreState)). (h : Hand StoreState) → In h (take i hs) → h.latch ≢ c.args.latch) (sym same) c.loop-hand.invariant)
    c.if-hand-latch.false)

pub returns-clause-none : goal.returns-clause-none
returns-clause-none c = λ s at.
    let many = ap (λ (hs : List (Hand StoreState)). length hs) c.deref-hand-items.ensures.value in
    let test = c.loop-hand-test.false in
    let all : length c.args.self.now.items ≤ c.loop-hand.hand-index = omega arith in
    c.loop-hand.invariant at.0 (subst (In at.0) (sym (take_all c.loop-hand.hand-index c.args.self.now.items all)) at.1) at.2
