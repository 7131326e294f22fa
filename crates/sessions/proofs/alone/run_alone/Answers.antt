use Rattle.std.proofs.Common.{ℕ, List, [], ◌≡◌, ◌+◌, ◌-◌, ◌<◌, ◌≤◌, length, get_or, drop, ap, sym, ◌∙◌, subst, arith}
use Rattle.std.proofs.lemmas.List.{length-drop, get_or-drop, drop-drop, length_push, get_or_default}
use Rattle.dt_model.specs.declared.replies.Verdict.{Verdict}
use Rattle.sessions.specs.declared.outcomes.Outcome.{Outcome}
use Rattle.sessions.specs.LinesValue.{LinesState}
use Rattle.sessions.specs.ScriptLines.{HasRoom}
use Rattle.sessions.proofs.AloneLemmas.{RunsUpTo, next_fresh, RunsUpTo-more, RunsUpTo-all}
use Rattle.sessions.proofs.alone.run_alone.Goals as goal

pub unreachable-requires : goal.unreachable-requires
unreachable-requires c =
    let inv = c.loop-i.invariant in
    let a : length c.loop-i.lines.items ≡ length c.pop_front.new.self.items = ap (λ (x : List LinesState). length x) c.in_default-pop_front.ensures.items in
    let b : length c.pop_front.new.self.items ≡ length c.loop-i.lines.items - 1 =
    ap (λ (x : List LinesState). length x) c.in_default-pop_front.ensures.rest ∙ length-drop 1 c.loop-i.lines.items in
    let d : length c.loop-i.lines.items ≡ length c.in-Ok.field-0.lines.items - c.loop-i.i =
    ap (λ (x : List LinesState). length x) inv.rooms ∙ length-drop c.loop-i.i c.in-Ok.field-0.lines.items in
    let n = c.in-Ok.ensures.lines.count in
    let s : length c.as_slice-script-items.result.now ≡ length c.args.scripts.now =
    ap (λ (x : List (List Verdict)). length x) c.as_slice-script-items.ensures.value in
    let t : length c.as_slice.result.now ≡ length c.args.scripts.now = ap (λ (x : List (List Verdict)). length x) c.as_slice.ensures.value in
    let test = c.loop-i-test.true in
    omega arith

pub run_script-requires-clause-fresh : goal.run_script-requires-clause-fresh
run_script-requires-clause-fresh c =
    let s : length c.as_slice-script-items.result.now ≡ length c.args.scripts.now =
    ap (λ (x : List (List Verdict)). length x) c.as_slice-script-items.ensures.value in
    let test = c.loop-i-test.true in
    let inside : c.loop-i.i < length c.args.scripts.now = omega arith in
    next_fresh c.args.engine.now.config.world c.args.scripts.now c.loop-i.i c.args.seat c.loop-i.seat c.loop-i.lists.items c.requires.seat inside
    c.loop-i.invariant.upto

pub run_script-requires-clause-room : goal.run_script-requires-clause-room
run_script-requires-clause-room c =
    let i : ℕ = c.loop-i.i in
    let rooms = c.in-Ok.field-0.lines.items in
    let all = c.as_slice.result.now in
    let some = c.as_slice-script-items.result.now in
    let script = c.script-item.result in
    let same : all ≡ some = c.as_slice.ensures.value ∙ sym c.as_slice-script-items.ensures.value in
    let s : length all ≡ length some = ap (λ (x : List (List Verdict)). length x) same in
    let test = c.loop-i-test.true in
    let inside : c.loop-i.i < length all = omega arith in
    let zero_more : c.loop-i.i ≡ c.loop-i.i + 0 = omega arith in
    let here : get_or rooms i c.in-Some.room ≡ c.in-Some.room =
    ap (λ (n : ℕ). get_or rooms n c.in-Some.room) zero_more ∙ sym (get_or-drop i rooms 0 c.in-Some.room)
    ∙ ap (λ (x : List LinesState). get_or x 0 c.in-Some.room) (sym c.loop-i.invariant.rooms ∙ c.in-Some.ensures.items) in
    let is : get_or all i [] ≡ c.as_slice-in-loop-i.result.now =
    ap (λ (x : List (List Verdict)). get_or x i []) same ∙ get_or_default some i [] script test ∙ sym c.script-item.is
    ∙ sym c.as_slice-in-loop-i.ensures.value in
    subst (HasRoom c.as_slice-in-loop-i.result.now) here
    (subst (λ (x : List Verdict). HasRoom x (get_or rooms i c.in-Some.room)) is (c.in-Ok.ensures.lines.each i c.in-Some.room inside))

pub loop-i-preserved : goal.loop-i-preserved
loop-i-preserved c =
    let inv = c.loop-i.invariant in
    let i : ℕ = c.loop-i.i in
    let w = c.args.engine.now.config.world in
    let scripts = c.args.scripts.now in
    let some = c.as_slice-script-items.result.now in
    let same = c.as_slice-script-items.ensures.value in
    let s : length c.as_slice-script-items.result.now ≡ length c.args.scripts.now = ap (λ (x : List (List Verdict)). length x) same in
    let test = c.loop-i-test.true in
    let inside : c.loop-i.i < length c.args.scripts.now = omega arith in
    let is : get_or scripts i [] ≡ c.as_slice-in-loop-i.result.now =
    ap (λ (x : List (List Verdict)). get_or x i []) (sym same) ∙ get_or_default some i [] c.script-item.result test ∙ sym c.script-item.is
    ∙ sym c.as_slice-in-loop-i.ensures.value in
    let pushed = c.push_reserved.ensures.items in
    record {
      upto = subst (RunsUpTo w scripts (i + 1) c.args.seat c.run_script.new.seat) (sym pushed)
          (RunsUpTo-more w scripts i c.args.seat c.loop-i.seat c.loop-i.lists.items c.requires.seat inside inv.upto c.run_script.new.seat
          c.as_slice-in-loop-i.result.now c.into_list.result is c.run_script.ensures.seat (c.into_list.ensures.value ∙ c.run_script.ensures.outcomes));
      rooms = c.in-Some.ensures.rest ∙ ap (λ (x : List LinesState). drop 1 x) inv.rooms ∙ drop-drop 1 i c.in-Ok.field-0.lines.items;
      count = ap (λ (x : List (List Outcome)). length x) pushed ∙ length_push c.loop-i.lists.items c.into_list.result ∙ ap (λ (n : ℕ). n + 1) inv.count;
      room = let a = inv.room in let b = c.push_reserved.ensures.capacity in omega arith;
    }

pub returns-clause-run : goal.returns-clause-run
returns-clause-run c =
    let s : length c.as_slice-script-items.result.now ≡ length c.args.scripts.now =
    ap (λ (x : List (List Verdict)). length x) c.as_slice-script-items.ensures.value in
    let test = c.loop-i-test.false in
    let all : length c.args.scripts.now ≤ c.loop-i.i = omega arith in
    (RunsUpTo-all c.args.engine.now.config.world c.args.scripts.now c.loop-i.i c.args.seat c.loop-i.seat c.loop-i.lists.items c.requires.seat all
    c.loop-i.invariant.upto).0

pub returns-clause-outcomes : goal.returns-clause-outcomes
returns-clause-outcomes c =
    let s : length c.as_slice-script-items.result.now ≡ length c.args.scripts.now =
    ap (λ (x : List (List Verdict)). length x) c.as_slice-script-items.ensures.value in
    let test = c.loop-i-test.false in
    let all : length c.args.scripts.now ≤ c.loop-i.i = omega arith in
    c.of.ensures.value
    ∙ (RunsUpTo-all c.args.engine.now.config.world c.args.scripts.now c.loop-i.i c.args.seat c.loop-i.seat c.loop-i.lists.items c.requires.seat all
    c.loop-i.invariant.upto).1
