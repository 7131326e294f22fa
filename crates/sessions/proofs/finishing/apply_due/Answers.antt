use Rattle.std.proofs.Common.{List, length, ap, sym, ◌∙◌, refl, arith}
use Rattle.dt_model.specs.declared.calls.Update.{Update}
use Rattle.dt_model.specs.Contents.{with_updates}
use Rattle.fiber_store.specs.Stores.{store_content}
use Rattle.sessions.proofs.OwnUpdates.{own_made}
use Rattle.sessions.proofs.finishing.apply_due.Goals as goal

pub loop-update-init : goal.loop-update-init
loop-update-init c = record { made = refl; sound = λ d m s. s }

pub loop-update-preserved : goal.loop-update-preserved
loop-update-preserved c =
    let inv = c.loop-update.invariant in
    let first = c.in-Some.ensures.some in
    record {
      made = own_made c.loop-update.store c.apply.new.self c.in-Some.update first.0 _ first.1 (c.apply.ensures.due first.0 first.1) c.apply.ensures.content
          inv.made;
      sound = λ d m s. c.apply.ensures.sound d m (inv.sound d m s);
    }

pub loop-update-smaller : goal.loop-update-smaller
loop-update-smaller c =
    let first = c.in-Some.ensures.some in
    let before = ap (λ (us : List Update). length us) first.1 in
    let after = ap (λ (us : List Update). length us) (c.apply.ensures.due first.0 first.1) in
    omega (arith, before, after)

pub returns-clause-content : goal.returns-clause-content
returns-clause-content c =
    sym (ap (λ (us : List Update). with_updates (store_content c.loop-update.store) us) c.in_default.ensures.none) ∙ c.loop-update.invariant.made
