use Rattle.fiber_latch.specs.Conditions.{the_view}
use Rattle.std.proofs.Common.{◌≤◌, [], ◌∷◌, sym, ap, ◌∙◌, subst}
use Rattle.fiber_latch.specs.declared.view.TableConfig.{TableConfig}
use Rattle.fiber_latch.proofs.RuleLemmas.{owner_is_session}
use Rattle.fiber_latch.proofs.ConditionsLemmas.{TakesLatch-steps, same_value}
use Rattle.fiber_latch.proofs.raw.try_take.Goals as goal

pub absorb_pass-requires-clause-table : goal.absorb_pass-requires-clause-table
absorb_pass-requires-clause-table g c =
    let t = c.requires.table in
    record { same = c.take_value-kept.ensures.same.table ∙ c.take_step-found.ensures.same.table ∙ t.same; sized = t.sized }

pub absorb_pass-requires-clause-latch : goal.absorb_pass-requires-clause-latch
absorb_pass-requires-clause-latch g c = subst (λ (x : TableConfig). c.args.latch ≤ x.end) c.requires.knows.config c.requires.ready.inside

pub absorb_pass-requires-clause-pass : goal.absorb_pass-requires-clause-pass
absorb_pass-requires-clause-pass g c =
    let k = c.take_step-found.ensures.step.0 c.if-found-ne0.false in
    let h = k.2 in
    let x = same_value _ _ _ _ _ (ap (λ m. m.1) h.0) c.take_value-kept.ensures.was in (
      ap (λ z. z.pass.table_id) (sym x) ∙ h.2 ∙ c.requires.knows.name,
      ap (λ z. z.pass.views) (sym x) ∙ h.1
          ∙ ap (λ u. u ∷ []) (ap the_view (sym h.1) ∙ ap (λ z. the_view z.pass.views) x),
    )

pub returns-clause-ok : goal.returns-clause-ok
returns-clause-ok g c =
    let r = c.requires.ready in
    let k = c.take_step-found.ensures.step.0 c.if-found-ne0.false in
    let h = k.2 in
    let v = c.args.token.now.me.0 in
    TakesLatch-steps g.C.Keep.content g.C.Keep.sound c.args.latch c.args.session v k.1 c.args.token.now.me.1 c.take_step-found.new.token.me
    c.take_value-kept.new.token.me c.absorb_pass.new.token.me k.0 c.take_value-kept.result
    (owner_is_session v.role c.args.session r.owns) r.idle h.0 h.1 h.3 h.4 c.take_value-kept.ensures.was c.take_value-kept.ensures.me
    c.absorb_pass.ensures.me c.absorb_pass.ensures.told
