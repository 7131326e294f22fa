-- Sessions that were cut off are ready, and are done when each has run its script.
use Rattle.std.proofs.Common.{◌≡◌, ℕ, ◌-◌, ◌<◌, ◌≤◌, true, List, [], ◌++◌, length, get_or, sym, ap, ◌∙◌, subst, arith, Some, All}
use Rattle.dt_model.specs.declared.calls.Call.TheVariants.{Get}
use Rattle.dt_model.specs.declared.calls.Cell.{Cell}
use Rattle.dt_model.specs.declared.calls.Entry.{Entry}
use Rattle.dt_model.specs.declared.replies.Verdict.{Verdict}
use Rattle.dt_model.specs.declared.replies.World.{World}
use Rattle.dt_model.specs.Runs.{has_turn}
use Rattle.fiber_latch.specs.Views.{In}
use Rattle.fiber_latch.specs.Seats.{SeatState, TableState, BelongsTo}
use Rattle.sessions.specs.declared.running.SessionRun.{SessionRun}
use Rattle.sessions.specs.LinesValue.{LinesState}
use Rattle.sessions.specs.Running.{scripted_call, IsScripted, CanRun}
use Rattle.sessions.specs.ScriptLines.{HasRoom}
use Rattle.sessions.specs.SessionRuns.{script_of, HaveRoom, IsPart, AreCut, IsReady, Finishes, RunsScript, IsDone, AreDone}
use Rattle.sessions.proofs.RunningLemmas.{script_of-there}
use Rattle.sessions.proofs.ScriptedLemmas.{IsAtLine-scripted, IsAtLine-gets}

-- ---- before the run

-- each session that was cut off is ready
pub AreCut-ready : (table : TableState) (scripts : List (List Verdict)) (old : SeatState) (lines : List LinesState) (runs : List SessionRun)
    → BelongsTo old table → CanRun scripts old → HaveRoom scripts lines → AreCut old lines runs → All (IsReady table scripts) runs
AreCut-ready table scripts old lines runs belongs can rooms cut k d b =
    let run : SessionRun = get_or runs k d in
    let s : ℕ = length lines - k in
    let part = (cut.each k d b).part in
    let n = cut.count in
    let m = rooms.count in
    let first_is : run.seat.first ≡ s = ap (λ (x : SeatState). x.first) part.rest in
    let last_is : run.seat.last ≡ s = ap (λ (x : SeatState). x.last) part.rest in
    let seen_is : run.seat.seen ≡ old.seen = ap (λ (x : SeatState). x.seen) part.rest in
    let first = can.first in
    let last = can.last in
    let room : HasRoom (get_or scripts (s - 1) []) (get_or lines (s - 1) run.lines) = rooms.each (s - 1) run.lines (omega arith) in
    record {
      engine = (ap (λ (x : SeatState). x.table) part.rest ∙ belongs.0, ap (λ (x : SeatState). x.config) part.rest ∙ belongs.1);
      one = last_is ∙ sym first_is;
      low = omega arith;
      high = omega arith;
      idle = ap (λ (x : SeatState). x.held) part.rest ∙ can.idle;
      fresh = λ e i q. let same : e.turn.session ≡ s = q ∙ first_is in can.unused e (subst (In e) seen_is i) (omega arith, omega arith);
      room = subst (λ (f : ℕ). HasRoom (get_or scripts (f - 1) []) run.lines) (sym first_is)
          (subst (HasRoom (get_or scripts (s - 1) [])) (sym (cut.each k d b).room) room);
    }

-- ---- after the run

-- where each session that was cut off has run its script, all are done
pub AreDone-ran : (table : TableState) (scripts : List (List Verdict)) (old : SeatState) (lines : List LinesState) (before after : List SessionRun)
    → BelongsTo old table → CanRun scripts old → HaveRoom scripts lines → AreCut old lines before → length after ≡ length before
    → ((k : ℕ) (d : SessionRun) → k < length before → RunsScript table.config.world scripts (get_or before k d) (get_or after k d))
    → AreDone table scripts old after
AreDone-ran table scripts old lines before after belongs can rooms cut same ran = record {
  engine = belongs;
  could = can;
  count = same ∙ cut.count ∙ rooms.count;
  each = λ k d b.
      let part = (cut.each k d (omega (arith, b, same))).part in
      let s : length lines - k ≡ length after - k = ap (λ (n : ℕ). n - k) (sym (same ∙ cut.count)) in
      record {
        part = (get_or before k d).seat;
        cut = subst (λ (n : ℕ). IsPart old n (get_or before k d).seat) s part;
        done = subst (λ (n : ℕ). Finishes table.config.world n (script_of scripts n) (get_or before k d).seat (get_or after k d))
            (ap (λ (x : SeatState). x.first) part.rest ∙ s) (ran k d (omega (arith, b, same)));
      };
}

module _ (w : World) (scripts : List (List Verdict)) (old : SeatState) (s : ℕ) (run : SessionRun) (d : IsDone w scripts old s run) (low : 1 ≤ s)
    (high : s ≤ length scripts) where
  -- the seat of a session that is done
  pub done_rest : run.seat ≡ record old { first = s; last = s; seen = run.seat.seen; conflicts = run.seat.conflicts }
  done_rest = d.done.seat.rest ∙ ap (λ (x : SeatState). record x { seen = run.seat.seen; conflicts = run.seat.conflicts }) d.cut.rest

  -- what it had seen comes first
  pub done_begins : (more : List Entry) × (run.seat.seen ≡ old.seen ++ more)
  done_begins = (
    d.done.seat.grown.0,
    d.done.seat.grown.1 ∙ ap (λ (x : SeatState). x.seen ++ d.done.seat.grown.0) d.cut.rest,
  )

  -- each entry of the session is scripted
  pub done_own : (e : Entry) → In e run.seat.seen → e.turn.session ≡ s → IsScripted scripts e
  done_own = IsAtLine-scripted scripts s (script_of scripts s) low (script_of-there scripts s low high) d.part run.seat d.done.seat

  -- each get of the session was made
  pub done_gets : (n : ℕ) (cell : Cell) → scripted_call scripts s n ≡ Some (Get cell) → has_turn run.seat.seen s n ≡ true
  done_gets = IsAtLine-gets scripts s (script_of scripts s) low (script_of-there scripts s low high) d.part run.seat d.done.seat
