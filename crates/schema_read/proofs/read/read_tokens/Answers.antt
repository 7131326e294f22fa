use Rattle.std.proofs.Common.{◌≡◌, sym, ◌∙◌, ap, subst, Ok}
use Rattle.dt_text.specs.Spans.{bytes_of}
use Rattle.schema_read.specs.Tokens.{token_of}
use Rattle.schema_read.specs.Scans.{step}
use Rattle.schema_read.proofs.ReadLemmas.{read_from-ok}
use Rattle.schema_read.proofs.Rooms.{Tied, step_scan}
use Rattle.schema_read.proofs.read.read_tokens.Goals as goal

pub with_role-requires : goal.with_role-requires
with_role-requires c =
    let stepped : step c.loop-span.scan (token_of (bytes_of c.args.text.now c.in-Some.span)) ≡ Ok (c.in-Ok.next, c.in-Ok.role) =
    ap (step c.loop-span.scan) (sym c.token_of-token.ensures.value) ∙ sym c.step.ensures.value ∙ c.in-Ok.is in
    record { room = (step_scan c.loop-span.scan _ c.loop-span.draft c.in-Ok.next c.in-Ok.role c.loop-span.invariant.2 stepped).0 }

pub loop-span-preserved : goal.loop-span-preserved
loop-span-preserved c =
    let text = c.args.text.now in
    let scan = c.loop-span.scan in
    let draft = c.loop-span.draft in
    let next = c.in-Ok.next in
    let role = c.in-Ok.role in
    let old = c.loop-span.invariant in
    let split = c.in-Some.ensures.first in
    let stepped : step scan (token_of (bytes_of text c.in-Some.span)) ≡ Ok (next, role) =
    ap (step scan) (sym c.token_of-token.ensures.value) ∙ sym c.step.ensures.value ∙ c.in-Ok.is in
    let made = c.in_ok-draft-in-Ok.ensures.value in (
      c.in-Some.ensures.forward.2,
      read_from-ok text scan next draft c.in_ok-draft-in-Ok.draft role _ _ _ split stepped made ∙ old.1,
      subst (λ d. Tied next.place next.counts.kinds d.kinds.items) (sym made)
          (step_scan scan (token_of (bytes_of text c.in-Some.span)) draft next role old.2 stepped).1,
    )
