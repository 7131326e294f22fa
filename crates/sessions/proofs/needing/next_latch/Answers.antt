use Rattle.std.proofs.Common.{ℕ, ◌≡◌, ◌<◌, ◌∙◌, ◌≤◌, ◌+◌, Some, None, List, length, drop, get_or, ap, sym, arith}
use Rattle.std.proofs.lemmas.List.{get_or_default}
use Rattle.sessions.specs.declared.needing.LatchRange.{LatchRange}
use Rattle.sessions.specs.Needing.{covers}
use Rattle.sessions.proofs.NeedingLemmas.{IsLeastFrom-as, IsLeastFrom-none, IsLeastFrom-range, covers-past}
use Rattle.sessions.proofs.needing.next_latch.Goals as goal

abbrev range_at : List LatchRange → ℕ → LatchRange
range_at ranges i = get_or ranges i (record { first = 0; end = 0 })

here : (ranges : List LatchRange) (i : ℕ) → i < length ranges → range_at ranges i ≡ get_or ranges i (range_at ranges i)
here ranges i within = get_or_default ranges i (record { first = 0; end = 0 }) (range_at ranges i) within

pub returns-in-Some-clause-least : goal.returns-in-Some-clause-least
returns-in-Some-clause-least c =
    let ranges = c.args.ranges.now in
    let i = c.loop-index.index in
    let r : LatchRange = range_at ranges i in
    IsLeastFrom-as (covers (drop i ranges)) (covers (drop c.args.place.now ranges)) c.args.from (Some c.in-Some.latch) c.loop-index.invariant.left
    (IsLeastFrom-range ranges i c.args.from r c.loop-index-test.true (here ranges i c.loop-index-test.true) c.in-Some.latch c.requires.ascending
    c.in-Some.ensures.least)

pub returns-in-Some-clause-rest : goal.returns-in-Some-clause-rest
returns-in-Some-clause-rest c = c.loop-index.invariant.left

pub loop-index-preserved : goal.loop-index-preserved
loop-index-preserved c =
    let ranges = c.args.ranges.now in
    let i = c.loop-index.index in
    let r : LatchRange = range_at ranges i in
    record {
      within = omega arith;
      left = λ k b.
          covers-past ranges i c.args.from r c.loop-index-test.true (here ranges i c.loop-index-test.true) c.in_default.ensures.least k b
          ∙ c.loop-index.invariant.left k b;
    }

pub returns-clause-least : goal.returns-clause-least
returns-clause-least c =
    let ranges = c.args.ranges.now in
    let i = c.loop-index.index in
    let test = c.loop-index-test.false in
    IsLeastFrom-as (covers (drop i ranges)) (covers (drop c.args.place.now ranges)) c.args.from None c.loop-index.invariant.left
    (IsLeastFrom-none ranges i c.args.from (omega arith))

pub returns-clause-rest : goal.returns-clause-rest
returns-clause-rest c = λ k b.
    let ranges = c.args.ranges.now in
    let i = c.loop-index.index in
    let test = c.loop-index-test.false in
    let all = c.loop-index.invariant.within in
    let at : length ranges ≡ i = omega arith in
    ap (λ (j : ℕ). covers (drop j ranges) k) at ∙ c.loop-index.invariant.left k b
