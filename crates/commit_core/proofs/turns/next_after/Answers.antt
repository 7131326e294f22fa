use Rattle.std.proofs.Common.{◌≡◌, ◌+◌, ◌∙◌, sym, ap, false}
use Rattle.std.specs.Prelude.{unwrap_or, is_some}
use Rattle.dt_model.specs.Runs.{call_of}
use Rattle.commit_core.specs.Turns.{script_of, lines_in}
use Rattle.commit_core.proofs.ValidScripts.{find_later, copied_is_some}
use Rattle.commit_core.proofs.turns.next_after.Goals as goal

pub loop-line-preserved : goal.loop-line-preserved
loop-line-preserved c =
    let w = c.args.world.now in
    let none : is_some (call_of w c.args.session (c.loop-line.line + 1)) ≡ false = ap is_some (sym c.call_of.ensures.value) ∙ copied_is_some c.call_of.result
    ∙ sym c.is_some.ensures ∙ c.if-is_some.false in
    ap (λ o. unwrap_or o 0) (sym (find_later (λ k. is_some (call_of w c.args.session k)) c.loop-line.line (lines_in (script_of w c.args.session))
    (rw (← c.lines_of-line-end.ensures.value) c.loop-line-test.true) none)) ∙ c.loop-line.invariant
