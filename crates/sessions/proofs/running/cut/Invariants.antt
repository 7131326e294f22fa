use Rattle.std.proofs.Common.{◌≤◌, vec_capacity}
use Rattle.sessions.proofs.CuttingLemmas.{CutSo}
use Rattle.sessions.proofs.running.cut.Given as goal

abbrev pub invariant-loop-done : goal.invariant-loop-done
invariant-loop-done l = record {
  so : CutSo l.fn.seat l.fn.lines.items l.done l.lines.items l.seat l.runs.items;
  room : l.last ≤ vec_capacity l.runs;
}
