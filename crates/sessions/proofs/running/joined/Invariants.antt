use Rattle.std.proofs.Common.{◌≡◌, ◌+◌, ◌≤◌, List, length, vec_len, vec_capacity}
use Rattle.dt_model.specs.declared.replies.Verdict.{Verdict}
use Rattle.fiber_latch.specs.Seats.{SeatState}
use Rattle.sessions.specs.SessionRuns.{AreDone}
use Rattle.sessions.proofs.JoiningLemmas.{JoinedSo}
use Rattle.sessions.proofs.running.joined.Given as goal

abbrev pub invariant-loop-run : goal.invariant-loop-run
invariant-loop-run l = record {
  so : (scripts : List (List Verdict)) (old : SeatState) → AreDone l.engine scripts old l.fn.runs.items
      → JoinedSo l.engine scripts old l.fn.runs.items (length l.lists.items) l.runs.items l.seat l.lists.items;
  count : vec_len l.runs + length l.lists.items ≡ vec_len l.fn.runs;
  room : vec_len l.fn.runs ≤ vec_capacity l.lists;
}

abbrev pub decreases-loop-run : goal.decreases-loop-run
decreases-loop-run l = vec_len l.runs
