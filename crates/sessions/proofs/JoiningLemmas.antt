-- The seats of sessions that are done are joined, from the first session up.
use Rattle.std.proofs.Common.{◌≡◌, ℕ, ◌+◌, ◌-◌, ◌<◌, ◌≤◌, true, List, [], ◌∷◌, ◌++◌, length, take, get_or, refl, sym, ap, ◌∙◌, subst, ⊎_elim, arith, Some}
use Rattle.std.proofs.lemmas.List.{append_assoc, length-take-le, length_push, same_from_push, take_all, take_more}
use Rattle.dt_model.specs.declared.calls.Call.TheVariants.{Get}
use Rattle.dt_model.specs.declared.calls.Entry.{Entry}
use Rattle.dt_model.specs.declared.replies.Verdict.{Verdict}
use Rattle.dt_model.specs.declared.replies.World.{World}
use Rattle.dt_model.specs.Runs.{has_turn}
use Rattle.fiber_latch.specs.Seats.{SeatState, TableState, BelongsTo, HasJoined}
use Rattle.sessions.specs.declared.outcomes.Outcome.{Outcome}
use Rattle.sessions.specs.declared.running.SessionRun.{SessionRun}
use Rattle.sessions.specs.Outcomes.{session_outcomes, outcomes_from, outcomes_after}
use Rattle.sessions.specs.Running.{scripted_call, CanRun, HasRun}
use Rattle.sessions.specs.SessionRuns.{script_of, IsDone, AreDone}
use Rattle.sessions.proofs.HistoriesLemmas.{has_turn-past, le_or_next}
use Rattle.sessions.proofs.OutcomesLemmas.{outcomes_from-more, outcomes_after-all}
use Rattle.sessions.proofs.ScriptedLemmas.{In-own, replies-outside, session_outcomes-outside}
use Rattle.sessions.proofs.SessionRunsLemmas.{done_rest, done_begins, done_own, done_gets}

-- sessions 1 to m are joined, and these are their outcomes
pub record Joins (w : World) (scripts : List (List Verdict)) (old : SeatState) (m : ℕ) (seat : SeatState) (os : List (List Outcome)) : Type 0 where
  pub ran : HasRun scripts (record old { last = m }) seat
  pub outcomes : os ≡ outcomes_from w seat.seen 1 (take m scripts)

-- the first session alone
pub Joins-first : (w : World) (scripts : List (List Verdict)) (old : SeatState) (run : SessionRun) → CanRun scripts old → IsDone w scripts old 1 run
    → Joins w scripts old 1 run.seat (run.lines.outcomes ∷ [])
Joins-first w scripts old run can d =
    let some = can.some in
    let first = can.first in
    let low : 1 ≤ 1 = omega arith in
    record {
      ran = record {
        rest = done_rest w scripts old 1 run d low some
            ∙ ap (λ (f : ℕ). record old { first = f; last = 1; seen = run.seat.seen; conflicts = run.seat.conflicts }) (sym can.first);
        begins = done_begins w scripts old 1 run d low some;
        own = λ e i o. let a = o.0 in let b = o.1 in done_own w scripts old 1 run d low some e i (omega arith);
        gets = λ s n cell o c.
            let a = o.0 in
            let b = o.1 in
            let one : s ≡ 1 = omega arith in
            subst (λ (k : ℕ). has_turn run.seat.seen k n ≡ true) (sym one)
            (done_gets w scripts old 1 run d low some n cell (subst (λ (k : ℕ). scripted_call scripts k n ≡ Some (Get cell)) one c));
      };
      outcomes = outcomes_from-more w scripts 0 run.seat.seen run.seat.seen [] run.lines.outcomes (omega arith) refl
          (λ s k a b. absurd (omega (arith, a, b))) d.done.outcomes;
    }

-- one session more
pub Joins-more : (w : World) (scripts : List (List Verdict)) (old : SeatState) (m : ℕ) (seat new : SeatState) (os : List (List Outcome)) (run : SessionRun)
    → CanRun scripts old → 1 ≤ m → m < length scripts → Joins w scripts old m seat os → IsDone w scripts old (m + 1) run → HasJoined seat run.seat new
    → Joins w scripts old (m + 1) new (os ++ run.lines.outcomes ∷ [])
Joins-more w scripts old m seat new os run can some inside before d joined =
    let s : ℕ = m + 1 in
    let low : 1 ≤ m + 1 = omega arith in
    let high : m + 1 ≤ length scripts = omega arith in
    let ran = before.ran in
    let own_rest = done_rest w scripts old (m + 1) run d low high in
    let seat_first : seat.first ≡ old.first = ap (λ (x : SeatState). x.first) ran.rest in
    let seat_last : seat.last ≡ m = ap (λ (x : SeatState). x.last) ran.rest in
    let run_first : run.seat.first ≡ m + 1 = ap (λ (x : SeatState). x.first) own_rest in
    let run_last : run.seat.last ≡ m + 1 = ap (λ (x : SeatState). x.last) own_rest in
    let first = can.first in
    let mine = joined.mine in
    let theirs = joined.theirs in
    let less : m + 1 - 1 ≡ m = omega arith in
    record {
      ran = record {
        rest = joined.rest
            ∙ ap (λ (x : SeatState). record x { last = run.seat.last; seen = new.seen; conflicts = seat.conflicts ++ run.seat.conflicts }) ran.rest
            ∙ ap (λ (l : ℕ). record old { last = l; seen = new.seen; conflicts = seat.conflicts ++ run.seat.conflicts }) run_last
            ∙ ap (λ (c : List (ℕ × ℕ)). record old { last = m + 1; seen = new.seen; conflicts = c }) (sym (ap (λ (x : SeatState). x.conflicts) joined.rest));
        begins = (
          ran.begins.0 ++ mine.0,
          mine.1 ∙ ap (λ (x : List Entry). x ++ mine.0) ran.begins.1 ∙ append_assoc old.seen ran.begins.0 mine.0,
        );
        own = λ e i o. ⊎_elim
            (λ (a : e.turn.session ≤ m).
            let f = o.0 in
            ran.own e (In-own seat.first seat.last e seat.seen new.seen mine (omega arith) (omega arith) i) (f, a))
            (λ (q : e.turn.session ≡ m + 1).
            done_own w scripts old (m + 1) run d low high e
            (In-own run.seat.first run.seat.last e run.seat.seen new.seen theirs (omega arith) (omega arith) i) q)
            (le_or_next e.turn.session m o.1);
        gets = λ k n cell o c. ⊎_elim
            (λ (a : k ≤ m). subst (λ (x : List Entry). has_turn x k n ≡ true) (sym mine.1)
            (has_turn-past k n seat.seen mine.0 (ran.gets k n cell (o.0, a) c)))
            (λ (q : k ≡ m + 1). subst (λ (x : List Entry). has_turn x k n ≡ true) (sym theirs.1)
            (has_turn-past k n run.seat.seen theirs.0 (subst (λ (j : ℕ). has_turn run.seat.seen j n ≡ true) (sym q)
            (done_gets w scripts old (m + 1) run d low high n cell (subst (λ (j : ℕ). scripted_call scripts j n ≡ Some (Get cell)) q c)))))
            (le_or_next k m o.1);
      };
      outcomes = outcomes_from-more w scripts m seat.seen new.seen os run.lines.outcomes inside before.outcomes
          (λ k n a b. replies-outside w seat.first seat.last k n seat.seen new.seen mine (omega arith) (omega arith))
          (d.done.outcomes
          ∙ session_outcomes-outside w run.seat.first run.seat.last (m + 1) (script_of scripts (m + 1)) run.seat.seen new.seen theirs (omega arith)
          (omega arith)
          ∙ ap (λ (j : ℕ). session_outcomes w new.seen (m + 1) (get_or scripts j [])) less);
    }

-- all sessions
pub Joins-all : (w : World) (scripts : List (List Verdict)) (old : SeatState) (m : ℕ) (seat : SeatState) (os : List (List Outcome)) → CanRun scripts old
    → m ≡ length scripts → Joins w scripts old m seat os → HasRun scripts old seat × (os ≡ outcomes_after w seat.seen scripts)
Joins-all w scripts old m seat os can all joins = (
  subst (λ (l : ℕ). HasRun scripts (record old { last = l }) seat) (all ∙ sym can.last) joins.ran,
  joins.outcomes ∙ outcomes_after-all w scripts seat.seen m (omega (arith, all)),
)

-- ---- the loop of joins

-- m sessions are joined, and the runs of the others are left
pub record JoinedSo (table : TableState) (scripts : List (List Verdict)) (old : SeatState) (all : List SessionRun) (m : ℕ) (runs : List SessionRun)
    (seat : SeatState)
    (os : List (List Outcome)) : Type 0 where
  pub front : runs ≡ take (length all - m) all
  pub some : 1 ≤ m
  pub most : m ≤ length all
  pub joins : Joins table.config.world scripts old m seat os

-- the same outcomes in another list
pub JoinedSo-list : (table : TableState) (scripts : List (List Verdict)) (old : SeatState) (all : List SessionRun) (m : ℕ) (runs : List SessionRun)
    (seat : SeatState) (os os' : List (List Outcome)) → os' ≡ os → length os ≡ m → JoinedSo table scripts old all m runs seat os
    → JoinedSo table scripts old all (length os') runs seat os'
JoinedSo-list table scripts old all m runs seat os os' same count so =
    subst (λ (x : List (List Outcome)). JoinedSo table scripts old all (length x) runs seat x) (sym same)
    (subst (λ (n : ℕ). JoinedSo table scripts old all n runs seat os) (sym count) so)

-- the run that is taken out is that of the next session
pub next_done : (table : TableState) (scripts : List (List Verdict)) (old : SeatState) (all : List SessionRun) (m : ℕ) (runs runs' : List SessionRun)
    (run : SessionRun)
    → AreDone table scripts old all → m ≤ length all → runs ≡ take (length all - m) all → runs ≡ runs' ++ run ∷ []
    → (m < length all) × (runs' ≡ take (length all - (m + 1)) all) × IsDone table.config.world scripts old (m + 1) run
next_done table scripts old all m runs runs' run done most front popped =
    let long : length runs ≡ length runs' + 1 = ap (λ (x : List SessionRun). length x) popped ∙ length_push runs' run in
    let few : length runs ≡ length all - m = ap (λ (x : List SessionRun). length x) front ∙ length-take-le (length all - m) all (omega arith) in
    let inside : m < length all = omega arith in
    let at : ℕ = length all - (m + 1) in
    let one : length all - m ≡ length all - (m + 1) + 1 = omega arith in
    let both = same_from_push runs' (take (length all - (m + 1)) all) run (get_or all (length all - (m + 1)) run)
    (sym popped ∙ front ∙ ap (λ (n : ℕ). take n all) one ∙ take_more all (length all - (m + 1)) run (omega arith)) in
    let next : length all - (length all - (m + 1)) ≡ m + 1 = omega arith in
    let is = done.each (length all - (m + 1)) run (omega arith) in (
      inside,
      both.0,
      subst (λ (n : ℕ). IsDone table.config.world scripts old n run) next
          (subst (IsDone table.config.world scripts old (length all - (length all - (m + 1)))) (sym both.1) is),
    )

-- the first session
pub JoinedSo-first : (table : TableState) (scripts : List (List Verdict)) (old : SeatState) (all runs' : List SessionRun) (run : SessionRun)
    → AreDone table scripts old all → all ≡ runs' ++ run ∷ [] → JoinedSo table scripts old all 1 runs' run.seat (run.lines.outcomes ∷ [])
JoinedSo-first table scripts old all runs' run done popped =
    let zero_left : all ≡ take (length all - 0) all = sym (take_all (length all - 0) all (omega arith)) in
    let next = next_done table scripts old all 0 all runs' run done (omega arith) zero_left popped in
    let b = next.0 in
    record {
      front = next.1;
      some = omega arith;
      most = omega arith;
      joins = Joins-first table.config.world scripts old run done.could next.2;
    }

module _ (table : TableState) (scripts : List (List Verdict)) (old : SeatState) (all : List SessionRun) (m : ℕ) (runs runs' : List SessionRun)
    (seat : SeatState)
    (os : List (List Outcome)) (run : SessionRun) (done : AreDone table scripts old all) (so : JoinedSo table scripts old all m runs seat os) (popped : runs
    ≡ runs' ++ run ∷ []) where
  -- the next session's seat may be joined
  pub JoinedSo-can : (BelongsTo seat table × BelongsTo run.seat table) × (run.seat.first ≡ seat.last + 1) × ((seat.held ≡ []) × (run.seat.held ≡ []))
  JoinedSo-can =
      let next = next_done table scripts old all m runs runs' run done so.most so.front popped in
      let b = next.0 in
      let c = done.count in
      let mine = so.joins.ran.rest in
      let theirs = done_rest table.config.world scripts old (m + 1) run next.2 (omega arith) (omega arith) in
      let idle = done.could.idle in (
        (
          (ap (λ (x : SeatState). x.table) mine ∙ done.engine.0, ap (λ (x : SeatState). x.config) mine ∙ done.engine.1),
          (ap (λ (x : SeatState). x.table) theirs ∙ done.engine.0, ap (λ (x : SeatState). x.config) theirs ∙ done.engine.1),
        ),
        ap (λ (x : SeatState). x.first) theirs ∙ ap (λ (n : ℕ). n + 1) (sym (ap (λ (x : SeatState). x.last) mine)),
        (ap (λ (x : SeatState). x.held) mine ∙ idle, ap (λ (x : SeatState). x.held) theirs ∙ idle),
      )

  -- one session more
  pub JoinedSo-more : (new : SeatState) → HasJoined seat run.seat new → JoinedSo table scripts old all (m + 1) runs' new (os ++ run.lines.outcomes ∷ [])
  JoinedSo-more new joined =
      let next = next_done table scripts old all m runs runs' run done so.most so.front popped in
      let b = next.0 in
      let c = done.count in
      record {
        front = next.1;
        some = omega arith;
        most = omega arith;
        joins = Joins-more table.config.world scripts old m seat new os run done.could so.some (omega arith) so.joins next.2 joined;
      }

-- all sessions
pub JoinedSo-all : (table : TableState) (scripts : List (List Verdict)) (old : SeatState) (all : List SessionRun) (m : ℕ) (runs : List SessionRun)
    (seat : SeatState)
    (os : List (List Outcome)) → AreDone table scripts old all → JoinedSo table scripts old all m runs seat os → runs ≡ []
    → HasRun scripts old seat × (os ≡ outcomes_after table.config.world seat.seen scripts)
JoinedSo-all table scripts old all m runs seat os done so empty =
    let few : length runs ≡ length all - m = ap (λ (x : List SessionRun). length x) so.front ∙ length-take-le (length all - m) all (omega arith) in
    let none : length runs ≡ 0 = ap (λ (x : List SessionRun). length x) empty in
    let most = so.most in
    let count = done.count in
    Joins-all table.config.world scripts old m seat os done.could (omega arith) so.joins
