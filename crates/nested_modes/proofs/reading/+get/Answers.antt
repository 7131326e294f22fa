use Rattle.std.proofs.Common.{rules, ◌∙◌, arith}
use Rattle.nested_modes.proofs.ReadingLemmas.{get-none, get-number, get-inner}
use Rattle.nested_modes.proofs.reading.+get.Goals as goal

-- src/reading.rt:29:35
pub get-requires : goal.get-requires
get-requires t c =
    let i = get-inner c.args.walks.now c.in-Some.later.now c.in-Some.walk.now c.args.arenas.now c.in-Some-split_first.below.now c.in-Some-split_first.arena.now
    c.args.top.now c.args.at.now c.in-Some-split_first-2.rest.now c.in-Some-split_first-2.lead.now c.kinds.result.now
    c.in-Some.ensures.cases.0 c.in-Some-split_first.ensures.cases.0 c.in-Some-split_first-2.ensures.cases.0 c.kinds.ensures.value
    c.requires.nested c.requires.modes c.requires.order c.in-Some-look_up.elem c.in-Some-look_up.ensures.value c.in-Inner.inner c.in-Inner.is in
    (omega (arith, i.3), rw c.in-Inner.inner-is (i.0, (i.1, i.2)))

-- src/reading.rt:10:1
pub returns-in-None : goal.returns-in-None
returns-in-None t c = record {
  value = get-none c.args.walks.now c.in-Some.later.now c.in-Some.walk.now c.args.arenas.now c.in-Some-split_first.below.now c.in-Some-split_first.arena.now
      c.args.top.now c.args.at.now c.in-Some-split_first-2.rest.now c.in-Some-split_first-2.lead.now c.kinds.result.now
      c.in-Some.ensures.cases.0 c.in-Some-split_first.ensures.cases.0 c.in-Some-split_first-2.ensures.cases.0 c.kinds.ensures.value
      c.requires.nested c.requires.modes c.requires.order c.in-None.ensures.value;
}

-- src/reading.rt:10:1
pub returns-in-Number : goal.returns-in-Number
returns-in-Number t c = record {
  value = get-number c.args.walks.now c.in-Some.later.now c.in-Some.walk.now c.args.arenas.now c.in-Some-split_first.below.now c.in-Some-split_first.arena.now
      c.args.top.now c.args.at.now c.in-Some-split_first-2.rest.now c.in-Some-split_first-2.lead.now c.kinds.result.now
      c.in-Some.ensures.cases.0 c.in-Some-split_first.ensures.cases.0 c.in-Some-split_first-2.ensures.cases.0 c.kinds.ensures.value
      c.requires.nested c.requires.modes c.requires.order c.in-Some-look_up.elem c.in-Some-look_up.ensures.value c.in-Number.number c.in-Number.is
      (search rules);
}

-- src/reading.rt:10:1
pub returns-in-Inner : goal.returns-in-Inner
returns-in-Inner t c =
    let i = get-inner c.args.walks.now c.in-Some.later.now c.in-Some.walk.now c.args.arenas.now c.in-Some-split_first.below.now c.in-Some-split_first.arena.now
    c.args.top.now c.args.at.now c.in-Some-split_first-2.rest.now c.in-Some-split_first-2.lead.now c.kinds.result.now
    c.in-Some.ensures.cases.0 c.in-Some-split_first.ensures.cases.0 c.in-Some-split_first-2.ensures.cases.0 c.kinds.ensures.value
    c.requires.nested c.requires.modes c.requires.order c.in-Some-look_up.elem c.in-Some-look_up.ensures.value c.in-Inner.inner c.in-Inner.is in
    record { value = (rw c.in-Inner.inner-is at c.get.ensures.value) ∙ i.4 }
