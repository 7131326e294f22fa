use Rattle.std.proofs.Common.{◌≡◌, ◌<◌, [], ◌∷◌, length, ◌∙◌, sym, subst, arith}
use Rattle.std.specs.List.{AllZip}
use Rattle.std.proofs.lemmas.Result.{on_ok_weaker}
use Rattle.node_arena.specs.Modes.{IsNested}
use Rattle.nested_modes.specs.Codes.{modes_of}
use Rattle.nested_modes.specs.Paths.{inner_of}
use Rattle.nested_modes.specs.Readiness.{IsReadyFor}
use Rattle.nested_modes.specs.Preparing.{HoldsSame, IsLowFor}
use Rattle.nested_modes.proofs.HoldsLemmas.{HoldsSame-same}
use Rattle.nested_modes.proofs.PathLemmas.{IsNested-lists, looked-up, empty-list, arenas-some}
use Rattle.nested_modes.proofs.ReserveLemmas.{AllZip-same, low-below, low-end, IsLowFor-lists, IsReadyFor-step}
use Rattle.nested_modes.proofs.reserving.+reserve.Goals as goal

pub returns-in_default-clause-ready : goal.returns-in_default-clause-ready
returns-in_default-clause-ready t c = absurd (arenas-some c.args.codes.now c.args.arenas.now c.args.top.now c.in_default.ensures.cases c.requires.nested)

pub returns-in_err-reserve_mode-clause-holds : goal.returns-in_err-reserve_mode-clause-holds
returns-in_err-reserve_mode-clause-holds t c =
    subst (λ l. AllZip HoldsSame l (c.reserve_mode.new.arena ∷ c.in-Some.below.now)) (sym c.in-Some.ensures.cases.0)
    (c.reserve_mode.ensures.holds, AllZip-same HoldsSame HoldsSame-same c.in-Some.below.now)

pub reserve-requires : goal.reserve-requires
reserve-requires t c =
    let code = c.in-Some-split_first.code.now in
    let later = c.in-Some-split_first.later.now in
    let arena = c.in-Some.arena.now in
    let below = c.in-Some.below.now in
    let lead = c.in-Some-split_first-2.lead.now in
    let rest = c.in-Some-split_first-2.rest.now in
    let ea = c.in-Some.ensures.cases.0 in
    let ec = c.in-Some-split_first.ensures.cases in
    let et = c.in-Some-split_first-2.ensures.cases.0 in
    let st = c.args.top.now in
    let there = c.look_up-there.result in
    let h = IsNested-lists c.args.codes.now c.args.arenas.now c.args.at.now code later arena below lead rest ec.0 ea et st c.requires.nested in
    let r = IsLowFor-lists c.args.codes.now c.args.arenas.now c.args.at.now code later arena below lead rest ec.0 ea et c.args.count st c.requires.low in
    let e = looked-up code later arena below st lead there c.kinds.result.now c.kinds.ensures.value c.look_up-there.ensures.value h in
    let q = low-below c.args.count code later arena below st lead rest there (sym c.is_empty.ensures ∙ c.if-is_empty.false) h r e in
    let is = sym c.inner_of-inner.ensures.value in
    let fewer : length later < t = omega (arith, ec.1, c.decreases) in
    (fewer, (subst (λ o. IsNested (modes_of later below) o) is q.0, subst (λ o. IsLowFor c.args.count later below o rest) is q.1))

pub returns-then-is_empty-clause-ready : goal.returns-then-is_empty-clause-ready
returns-then-is_empty-clause-ready t c =
    let code = c.in-Some-split_first.code.now in
    let later = c.in-Some-split_first.later.now in
    let arena = c.in-Some.arena.now in
    let below = c.in-Some.below.now in
    let lead = c.in-Some-split_first-2.lead.now in
    let rest = c.in-Some-split_first-2.rest.now in
    let ea = c.in-Some.ensures.cases.0 in
    let ec = c.in-Some-split_first.ensures.cases.0 in
    let et = c.in-Some-split_first-2.ensures.cases.0 in
    let st = c.args.top.now in
    let there = c.look_up-there.result in
    let none : later ≡ [] = empty-list later (sym c.is_empty.ensures ∙ c.if-is_empty.true) in
    let h = IsNested-lists c.args.codes.now c.args.arenas.now c.args.at.now code later arena below lead rest ec ea et st c.requires.nested in
    let r = IsLowFor-lists c.args.codes.now c.args.arenas.now c.args.at.now code later arena below lead rest ec ea et c.args.count st c.requires.low in
    let e = looked-up code later arena below st lead there c.kinds.result.now c.kinds.ensures.value c.look_up-there.ensures.value h in
    let f = c.in_ok-reserve_mode.ensures in
    IsReadyFor-step c.args.codes.now c.args.arenas.now c.args.at.now code later arena below lead rest ec ea et c.args.count c.reserve_mode.new.arena below
    st there
    h c.requires.low f.holds f.spares f.room e (low-end c.args.count code later arena below st lead rest (inner_of there) none r)

pub returns-clause-ready : goal.returns-clause-ready
returns-clause-ready t c =
    let code = c.in-Some-split_first.code.now in
    let later = c.in-Some-split_first.later.now in
    let arena = c.in-Some.arena.now in
    let below = c.in-Some.below.now in
    let lead = c.in-Some-split_first-2.lead.now in
    let rest = c.in-Some-split_first-2.rest.now in
    let ea = c.in-Some.ensures.cases.0 in
    let ec = c.in-Some-split_first.ensures.cases.0 in
    let et = c.in-Some-split_first-2.ensures.cases.0 in
    let st = c.args.top.now in
    let there = c.look_up-there.result in
    let h = IsNested-lists c.args.codes.now c.args.arenas.now c.args.at.now code later arena below lead rest ec ea et st c.requires.nested in
    let e = looked-up code later arena below st lead there c.kinds.result.now c.kinds.ensures.value c.look_up-there.ensures.value h in
    let f = c.in_ok-reserve_mode.ensures in
    let is = c.inner_of-inner.ensures.value in
    on_ok_weaker c.reserve.result
    (λ r. IsReadyFor-step c.args.codes.now c.args.arenas.now c.args.at.now code later arena below lead rest ec ea et c.args.count c.reserve_mode.new.arena
    c.reserve.new.arenas st there h c.requires.low f.holds f.spares f.room e
    (subst (λ y. IsReadyFor c.args.count later c.reserve.new.arenas y rest) is r)) c.reserve.ensures.ready
