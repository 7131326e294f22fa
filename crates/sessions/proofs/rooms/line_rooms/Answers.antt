use Rattle.std.proofs.Common.{ℕ, ◌≡◌, ◌+◌, length, get_or, [], ap, sym, ◌∙◌, subst, arith}
use Rattle.std.proofs.lemmas.List.{length_push, get_or_default}
use Rattle.sessions.specs.LinesValue.{LinesState}
use Rattle.sessions.specs.ScriptLines.{HasRoom}
use Rattle.dt_model.specs.declared.replies.Verdict.{Verdict}
use Rattle.sessions.proofs.CuttingLemmas.{each_push}
use Rattle.std.proofs.Common.{List}
use Rattle.sessions.proofs.rooms.line_rooms.Goals as goal

pub loop-script-preserved : goal.loop-script-preserved
loop-script-preserved c =
    let inv = c.loop-script.invariant in
    let i : ℕ = c.loop-script.script-index in
    let scripts = c.args.scripts.now in
    let pushed = c.in_ok-push_back.ensures.items in
    let same : get_or scripts i [] ≡ c.script-item.result =
    get_or_default scripts i [] c.script-item.result c.loop-script-test.true ∙ sym c.script-item.is in
    let long : length (get_or scripts i []) ≡ length c.script-item.result = ap (λ (x : List Verdict). length x) same in
    let counted = c.len.ensures.value in
    let spare = c.in_ok-room.ensures.spare in
    let here : HasRoom (get_or scripts i []) c.in_ok-room.room = record { empty = c.in_ok-room.ensures.outcomes; room = omega arith } in
    record {
      count = ap (λ (x : List LinesState). length x) pushed ∙ length_push c.loop-script.lines.items c.in_ok-room.room ∙ ap (λ (n : ℕ). n + 1) inv.count;
      each = λ k d b. subst (λ (x : List LinesState). HasRoom (get_or scripts k []) (get_or x k d)) (sym pushed)
          (each_push (λ j x. HasRoom (get_or scripts j []) x) i c.loop-script.lines.items c.in_ok-room.room inv.count inv.each here k d b);
    }
