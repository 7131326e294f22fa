use Rattle.std.proofs.Common.{◌≡◌, ◌∷◌, length, map, ap, sym, ◌∙◌, arith}
use Rattle.std.proofs.lemmas.List.Elements.{All-rest}
use Rattle.dt_text.specs.Spans.{bytes_of, IsSpanOf}
use Rattle.dt_text.specs.Content.{content_from}
use Rattle.dt_text.proofs.ContentLemmas.{content_from-skipped}
use Rattle.dt_text.proofs.content.ContentLinesIterator.next.Goals as goal

pub invariant_of-self : goal.invariant_of-self
invariant_of-self c =
    let left : c.loop-span.self-inside.spans ≡ c.in-Some.span ∷ c.next.new.self = c.in-Some.ensures.steps in
    let one_less = ap length left in
    (omega arith, All-rest (IsSpanOf c.loop-span.self-inside.text.now) c.in-Some.span c.next.new.self _ left c.loop-span.invariant.inside)

pub loop-span-preserved : goal.loop-span-preserved
loop-span-preserved c =
    let before = c.loop-span.self-inside in
    let left : before.spans ≡ c.in-Some.span ∷ c.next.new.self = c.in-Some.ensures.steps in
    let one_less = ap length left in
    record {
      left = sym (content_from-skipped before.number before.text.now c.in-Some.span c.next.new.self (sym c.is_skipped.ensures.value
          ∙ c.if-not-is_skipped.false))
          ∙ ap (λ spans. content_from before.number (map (bytes_of before.text.now) spans)) (sym left)
          ∙ c.loop-span.invariant.left;
      numbered = omega arith;
      inside = All-rest (IsSpanOf before.text.now) c.in-Some.span c.next.new.self _ left c.loop-span.invariant.inside;
    }
