use Rattle.std.proofs.Common.{suc, ◌≡◌, ◌<◌, [], ◌∷◌, length, ap, ◌∙◌, sym, subst, arith}
use Rattle.node_arena.specs.Modes.{tree_in, IsNested}
use Rattle.nested_modes.specs.Codes.{modes_of}
use Rattle.nested_modes.specs.Paths.{inner_of}
use Rattle.nested_modes.specs.Readiness.{IsReady}
use Rattle.nested_modes.proofs.PutContentLemmas.{total_at-put}
use Rattle.nested_modes.proofs.ReadyLemmas.{IsReadyFor-spent}
use Rattle.nested_modes.proofs.PathLemmas.{Put, Put-last, Put-on, Put-lists, IsNested-lists, IsReady-lists, looked-up, ready-below, path-end, empty-list, arenas-some}
use Rattle.nested_modes.proofs.putting.+put.Goals as goal

pub returns-in_default : goal.returns-in_default
returns-in_default g t c = absurd (arenas-some c.args.codes.now c.args.arenas.now c.args.top.now c.in_default.ensures.cases c.requires.nested)

pub put-now-requires : goal.put-now-requires
put-now-requires g t c κs within =
    let code = c.in-Some-split_first.code.now in
    let later = c.in-Some-split_first.later.now in
    let arena = c.in-Some.arena.now in
    let below = c.in-Some.below.now in
    let lead = c.in-Some-split_first-2.lead.now in
    let rest = c.in-Some-split_first-2.rest.now in
    let ea = c.in-Some.ensures.cases.0 in
    let ec = c.in-Some-split_first.ensures.cases in
    let et = c.in-Some-split_first-2.ensures.cases.0 in
    let st = c.args.top.now in
    let there = c.look_up-there.result in
    let h = IsNested-lists c.args.codes.now c.args.arenas.now c.args.at.now code later arena below lead rest ec.0 ea et st c.requires.nested in
    let r = IsReady-lists c.args.codes.now c.args.arenas.now c.args.at.now code later arena below lead rest ec.0 ea et st c.requires.ready in
    let e = looked-up code later arena below st lead there c.kinds.result.now c.kinds.ensures.value c.look_up-there.ensures.value h in
    let q = ready-below code later arena below st lead rest there (sym c.is_empty.ensures ∙ c.if-is_empty.false) h r e in
    let is = sym c.inner_of-inner.ensures.value in
    let fewer : length later < t = omega (arith, ec.1, c.decreases) in
    (fewer, (within, (subst (λ o. IsNested (modes_of later below) o) is q.0, subst (λ o. IsReady later below o rest) is q.1)))

pub returns-then-is_empty : goal.returns-then-is_empty
returns-then-is_empty g t c =
    let code = c.in-Some-split_first.code.now in
    let later = c.in-Some-split_first.later.now in
    let arena = c.in-Some.arena.now in
    let below = c.in-Some.below.now in
    let lead = c.in-Some-split_first-2.lead.now in
    let rest = c.in-Some-split_first-2.rest.now in
    let ea = c.in-Some.ensures.cases.0 in
    let ec = c.in-Some-split_first.ensures.cases.0 in
    let et = c.in-Some-split_first-2.ensures.cases.0 in
    let st = c.args.top.now in
    let new = c.set.new.arena ∷ below in
    let long : length new ≡ length c.args.arenas.now = sym (ap length ea) in
    let none : later ≡ [] = empty-list later (sym c.is_empty.ensures ∙ c.if-is_empty.true) in
    let r = IsReady-lists c.args.codes.now c.args.arenas.now c.args.at.now code later arena below lead rest ec ea et st c.requires.ready in
    let end : rest ≡ [] = path-end code later arena below st lead rest none r in
    let ec2 : c.args.codes.now ≡ code ∷ [] = ec ∙ ap (λ l. code ∷ l) none in
    let et2 : c.args.at.now ≡ lead ∷ [] = et ∙ ap (λ l. lead ∷ l) end in
    let h = IsNested-lists c.args.codes.now c.args.arenas.now c.args.at.now code [] arena below lead [] ec2 ea et2 st c.requires.nested in
    let p = Put-lists c.args.codes.now c.args.arenas.now c.args.at.now code [] arena below lead [] ec2 ea et2 new st c.set.result c.args.number
    (Put-last code arena c.set.new.arena lead c.args.number st c.set.result below h
    (c.set.ensures.set (tree_in arena st) h.structure.stands) c.set.ensures.spent) in
    record {
      nested = p.nested;
      some = p.some;
      entries = p.entries;
      content = total_at-put c.args.at.now c.args.number _ _ c.ranges.number.fits p.entries;
      others = p.others;
      spent = p.spent;
      ready = λ n path. IsReadyFor-spent n c.args.codes.now c.args.arenas.now new st c.set.result c.args.at.now path long p.spent;
    }

pub returns : goal.returns
returns g t c =
    let code = c.in-Some-split_first.code.now in
    let later = c.in-Some-split_first.later.now in
    let arena = c.in-Some.arena.now in
    let below = c.in-Some.below.now in
    let lead = c.in-Some-split_first-2.lead.now in
    let rest = c.in-Some-split_first-2.rest.now in
    let ea = c.in-Some.ensures.cases.0 in
    let ec = c.in-Some-split_first.ensures.cases.0 in
    let et = c.in-Some-split_first-2.ensures.cases.0 in
    let st = c.args.top.now in
    let there = c.look_up-there.result in
    let inner = c.put-now.result in
    let new = c.set-2.new.arena ∷ c.put-now.new.arenas in
    let h = IsNested-lists c.args.codes.now c.args.arenas.now c.args.at.now code later arena below lead rest ec ea et st c.requires.nested in
    let r = IsReady-lists c.args.codes.now c.args.arenas.now c.args.at.now code later arena below lead rest ec ea et st c.requires.ready in
    let e = looked-up code later arena below st lead there c.kinds.result.now c.kinds.ensures.value c.look_up-there.ensures.value h in
    let q = ready-below code later arena below st lead rest there (sym c.is_empty.ensures ∙ c.if-is_empty.false) h r e in
    let is = c.inner_of-inner.ensures.value in
    let put = c.put-now.ensures in
    let below-put : Put later below c.put-now.new.arenas c.inner_of-inner.result rest c.args.number inner =
    record { nested = put.nested; some = put.some; entries = put.entries; others = put.others; spent = put.spent } in
    let on : Put later below c.put-now.new.arenas (inner_of there) rest c.args.number inner =
    subst (λ o. Put later below c.put-now.new.arenas o rest c.args.number inner) is below-put in
    let same : length c.put-now.new.arenas ≡ length below = c.put-now.auto.arenas in
    let long : length new ≡ length c.args.arenas.now = ap suc same ∙ sym (ap length ea) in
    let p = Put-lists c.args.codes.now c.args.arenas.now c.args.at.now code later arena below lead rest ec ea et new st c.set-2.result c.args.number
    (Put-on code arena c.set-2.new.arena lead c.args.number st c.set-2.result later below c.put-now.new.arenas rest there inner same h q.0 e on
    (c.set-2.ensures.set (tree_in arena st) h.structure.stands) c.set-2.ensures.spent) in
    record {
      nested = p.nested;
      some = p.some;
      entries = p.entries;
      content = total_at-put c.args.at.now c.args.number _ _ c.ranges.number.fits p.entries;
      others = p.others;
      spent = p.spent;
      ready = λ n path. IsReadyFor-spent n c.args.codes.now c.args.arenas.now new st c.set-2.result c.args.at.now path long p.spent;
    }
