use Rattle.std.proofs.Common.{ℕ, ◌≡◌, ◌+◌, ◌-◌, ◌<◌, [], length, refl, ap, ◌∙◌, subst, arith}
use Rattle.fiber_latch.specs.Seats.{SeatState}
use Rattle.sessions.proofs.CuttingLemmas.{CutSo, CutSo-more, IsPart-upper, IsPart-first, AreCut-all}
use Rattle.sessions.proofs.running.cut.Goals as goal

pub loop-done-preserved : goal.loop-done-preserved
loop-done-preserved c =
    let inv = c.loop-done.invariant in
    let old = c.args.seat in
    let all = c.args.lines.items in
    let done : ℕ = c.loop-done.done in
    let at : ℕ = c.last-last.result - c.loop-done.done in
    let last = c.last-last.ensures.value in
    let long = c.requires.sessions.2 in
    let test = c.loop-done-test.true in
    let inside : c.loop-done.done < length all = omega arith in
    let same : c.last-last.result - c.loop-done.done ≡ length all - c.loop-done.done = omega arith in
    let less : c.last-last.result - c.loop-done.done - 1 ≡ length all - (c.loop-done.done + 1) = omega arith in
    record {
      so = CutSo-more old all done c.loop-done.lines.items c.loop-done.seat c.loop-done.runs.items inv.so inside c.pop_back.new.self.items c.in-Some.room
          c.in-Some.ensures.items c.split-upper.result c.split-upper.new.seat c.push_reserved.new.self.items
          (record { seat = c.split-upper.result; lines = c.in-Some.room }) refl refl c.push_reserved.ensures.items
          (IsPart-upper old c.loop-done.seat c.split-upper.result (length all - done) inv.so.lower
          (c.split-upper.ensures.upper ∙ ap (λ (n : ℕ). record c.loop-done.seat { first = n; conflicts = [] }) same))
          (c.split-upper.ensures.lower ∙ ap (λ (x : SeatState). record x { last = at - 1 }) inv.so.lower ∙ ap (λ (n : ℕ). record old { last = n }) less);
      room = let a = inv.room in let b = c.push_reserved.ensures.capacity in omega arith;
    }

pub returns : goal.returns
returns c =
    let inv = c.loop-done.invariant in
    let old = c.args.seat in
    let all = c.args.lines.items in
    let done : ℕ = c.loop-done.done in
    let last = c.last-last.ensures.value in
    let first = c.requires.sessions.0 in
    let some = c.requires.sessions.1 in
    let long = c.requires.sessions.2 in
    let most = c.loop-done.auto.done-end in
    let test = c.loop-done-test.false in
    let inside : c.loop-done.done < length all = omega arith in
    let whole : c.loop-done.done + 1 ≡ length all = omega arith in
    let one : length all - c.loop-done.done ≡ 1 = omega arith in
    let so = CutSo-more old all done c.loop-done.lines.items c.loop-done.seat c.loop-done.runs.items inv.so inside c.pop_back-2.new.self.items
    c.in-Some-pop_back.room c.in-Some-pop_back.ensures.items c.loop-done.seat (record old { last = length all - (done + 1) }) c.push_reserved-2.new.self.items
    (record { seat = c.loop-done.seat; lines = c.in-Some-pop_back.room }) refl refl c.push_reserved-2.ensures.items
    (IsPart-first old c.loop-done.seat (length all - done) first one inv.so.lower) refl in
    record {
      runs = AreCut-all old all c.pop_back-2.new.self.items (record old { last = length all - (done + 1) }) c.push_reserved-2.new.self.items
          (subst (λ (n : ℕ). CutSo old all n c.pop_back-2.new.self.items (record old { last = length all - (done + 1) }) c.push_reserved-2.new.self.items)
          whole so);
    }
