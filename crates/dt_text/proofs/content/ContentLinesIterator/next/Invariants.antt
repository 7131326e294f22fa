use Rattle.std.proofs.Common.{◌≡◌, ◌+◌, ◌<◌, ◌^◌, length, map}
use Rattle.std.specs.List.{All}
use Rattle.dt_text.specs.Spans.{bytes_of, IsSpanOf}
use Rattle.dt_text.specs.Content.{content_from}
use Rattle.dt_text.proofs.content.ContentLinesIterator.next.Given as goal

abbrev pub invariant-loop-span : goal.invariant-loop-span
invariant-loop-span l = record {
  left : content_from l.self-inside.number (map (bytes_of l.self-inside.text.now) l.self-inside.spans)
      ≡ content_from l.initial.self-inside.number (map (bytes_of l.initial.self-inside.text.now) l.initial.self-inside.spans);
  numbered : l.self-inside.number + length l.self-inside.spans < 2 ^ 32;
  inside : All (IsSpanOf l.self-inside.text.now) l.self-inside.spans;
}

abbrev pub decreases-loop-span : goal.decreases-loop-span
decreases-loop-span l = length l.self-inside.spans
