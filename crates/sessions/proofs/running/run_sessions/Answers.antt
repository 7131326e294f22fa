use Rattle.std.proofs.Common.{List, ◌≡◌, length, sym, ◌∙◌, subst}
use Rattle.std.proofs.lemmas.List.{with_items_is}
use Rattle.dt_model.specs.declared.replies.Verdict.{Verdict}
use Rattle.sessions.specs.SessionRuns.{HaveRoom, AreCut, AreDone}
use Rattle.sessions.proofs.SessionRunsLemmas.{AreCut-ready, AreDone-ran}
use Rattle.sessions.proofs.running.run_sessions.Goals as goal

pub run_each-requires-clause-ready : goal.run_each-requires-clause-ready
run_each-requires-clause-ready g c κs within =
    let scripts = c.args.scripts.now in
    let old = c.args.seat in
    let lines = c.in-Ok.field-0.lines.items in
    let before = c.as_mut_slice.result.now in
    let rooms : HaveRoom scripts lines = subst (λ (x : List (List Verdict)). HaveRoom x lines) c.as_slice.ensures.value c.in-Ok.ensures.lines in
    let cut : AreCut old lines before = subst (AreCut old lines) (sym c.as_mut_slice.ensures.value) c.cut-runs.ensures.runs in
    AreCut-ready c.args.engine.now scripts old lines before c.requires.engine c.requires.seat rooms cut

pub joined-requires-clause-done : goal.joined-requires-clause-done
joined-requires-clause-done g c =
    let table = c.args.engine.now in
    let scripts = c.args.scripts.now in
    let old = c.args.seat in
    let lines = c.in-Ok.field-0.lines.items in
    let before = c.as_mut_slice.result.now in
    let after = c.run_each.new.runs in
    let same : length after ≡ length before = c.run_each.auto.runs in
    let rooms : HaveRoom scripts lines = subst (λ (x : List (List Verdict)). HaveRoom x lines) c.as_slice.ensures.value c.in-Ok.ensures.lines in
    let cut : AreCut old lines before = subst (AreCut old lines) (sym c.as_mut_slice.ensures.value) c.cut-runs.ensures.runs in
    let done = subst (AreDone table scripts old) (sym (with_items_is c.cut-runs.result after (same ∙ c.as_mut_slice.ensures.len)))
    (AreDone-ran table scripts old lines before after c.requires.engine c.requires.seat rooms cut same c.run_each.ensures.ran) in
    (scripts, old, done)

pub returns-clause-run : goal.returns-clause-run
returns-clause-run g c =
    let table = c.args.engine.now in
    let scripts = c.args.scripts.now in
    let old = c.args.seat in
    let lines = c.in-Ok.field-0.lines.items in
    let before = c.as_mut_slice.result.now in
    let after = c.run_each.new.runs in
    let same : length after ≡ length before = c.run_each.auto.runs in
    let rooms : HaveRoom scripts lines = subst (λ (x : List (List Verdict)). HaveRoom x lines) c.as_slice.ensures.value c.in-Ok.ensures.lines in
    let cut : AreCut old lines before = subst (AreCut old lines) (sym c.as_mut_slice.ensures.value) c.cut-runs.ensures.runs in
    let done = subst (AreDone table scripts old) (sym (with_items_is c.cut-runs.result after (same ∙ c.as_mut_slice.ensures.len)))
    (AreDone-ran table scripts old lines before after c.requires.engine c.requires.seat rooms cut same c.run_each.ensures.ran) in
    c.joined.ensures.seat scripts old done

pub returns-clause-outcomes : goal.returns-clause-outcomes
returns-clause-outcomes g c =
    let table = c.args.engine.now in
    let scripts = c.args.scripts.now in
    let old = c.args.seat in
    let lines = c.in-Ok.field-0.lines.items in
    let before = c.as_mut_slice.result.now in
    let after = c.run_each.new.runs in
    let same : length after ≡ length before = c.run_each.auto.runs in
    let rooms : HaveRoom scripts lines = subst (λ (x : List (List Verdict)). HaveRoom x lines) c.as_slice.ensures.value c.in-Ok.ensures.lines in
    let cut : AreCut old lines before = subst (AreCut old lines) (sym c.as_mut_slice.ensures.value) c.cut-runs.ensures.runs in
    let done = subst (AreDone table scripts old) (sym (with_items_is c.cut-runs.result after (same ∙ c.as_mut_slice.ensures.len)))
    (AreDone-ran table scripts old lines before after c.requires.engine c.requires.seat rooms cut same c.run_each.ensures.ran) in
    c.joined.ensures.outcomes scripts old done
