use Rattle.std.proofs.Common.{◌≡◌, ◌≤◌, length, drop, vec_capacity}
use Rattle.sessions.proofs.AloneLemmas.{RunsUpTo}
use Rattle.sessions.proofs.alone.run_alone.Given as goal

abbrev pub invariant-loop-i : goal.invariant-loop-i
invariant-loop-i l = record {
  upto : RunsUpTo l.engine.config.world l.scripts l.i l.fn.seat l.seat l.lists.items;
  rooms : l.lines.items ≡ drop l.i l.initial.lines.items;
  count : length l.lists.items ≡ l.i;
  room : length l.scripts ≤ vec_capacity l.lists;
}
