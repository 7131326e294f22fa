use Rattle.std.proofs.Common.{◌≡◌, sym, ◌∙◌, ap, Ok}
use Rattle.dt_text.specs.Spans.{bytes_of}
use Rattle.index_read.specs.Tokens.{token_of}
use Rattle.index_read.specs.Scans.{step}
use Rattle.index_read.proofs.ReadLemmas.{fault_from-ok, read_from-ok}
use Rattle.index_read.proofs.read.read_tree.Goals as goal

pub loop-span-preserved : goal.loop-span-preserved
loop-span-preserved c =
    let text = c.args.text.now in
    let scan = c.loop-span.scan in
    let next = c.in-Ok.next in
    let role = c.in-Ok.role in
    let old = c.loop-span.invariant in
    let split = c.in-Some.ensures.first in
    let stepped : step scan (token_of (bytes_of text c.in-Some.span)) ≡ Ok (next, role) = ap (step scan) (sym c.token_of-token.ensures.value)
    ∙ sym c.step.ensures.value ∙ c.in-Ok.is in (
      c.in-Some.ensures.forward.2,
      fault_from-ok text scan next role c.loop-span.at _ _ _ split stepped ∙ old.1,
      read_from-ok text scan next c.loop-span.tree c.in_ok-tree-in-Ok.tree role _ _ _ split stepped c.in_ok-tree-in-Ok.ensures.value ∙ old.2,
    )
