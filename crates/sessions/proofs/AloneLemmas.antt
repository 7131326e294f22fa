-- One thread has run the first sessions' scripts.
use Rattle.std.proofs.Common.{◌≡◌, ℕ, ◌+◌, ◌-◌, ◌<◌, ◌≤◌, true, List, [], ◌∷◌, ◌++◌, length, take, get_or, refl, sym, ap, ◌∙◌, subst, ⊎_elim, arith, Some}
use Rattle.std.specs.Prelude.{slice_get}
use Rattle.std.proofs.lemmas.List.{append-nil, append_assoc}
use Rattle.dt_model.specs.declared.calls.Call.TheVariants.{Get}
use Rattle.dt_model.specs.declared.calls.Cell.{Cell}
use Rattle.dt_model.specs.declared.calls.Entry.{Entry}
use Rattle.dt_model.specs.declared.replies.Verdict.{Verdict}
use Rattle.dt_model.specs.declared.replies.World.{World}
use Rattle.dt_model.specs.Runs.{has_turn}
use Rattle.fiber_latch.specs.Views.{In}
use Rattle.fiber_latch.specs.Seats.{SeatState, OwnsSession}
use Rattle.fiber_latch.proofs.ViewsLemmas.{in_append}
use Rattle.sessions.specs.declared.outcomes.Outcome.{Outcome}
use Rattle.sessions.specs.Outcomes.{session_outcomes, outcomes_from, outcomes_after}
use Rattle.sessions.specs.Running.{scripted_call, IsScripted, CanRun, HasRun}
use Rattle.sessions.specs.ScriptLines.{IsFresh, IsAtLine}
use Rattle.sessions.proofs.HistoriesLemmas.{has_turn-past, reply_of_turn-fresh, le_or_next}
use Rattle.sessions.proofs.OutcomesLemmas.{outcomes_from-more, outcomes_after-all}
use Rattle.sessions.proofs.RunningLemmas.{script_of-there}
use Rattle.sessions.proofs.ScriptedLemmas.{IsAtLine-scripted, IsAtLine-gets}

-- of the seat's sessions, those up to m have run their scripts, the others have no entry, and these are the outcomes
pub record RunsUpTo (w : World) (scripts : List (List Verdict)) (m : ℕ) (old seat : SeatState) (os : List (List Outcome)) : Type 0 where
  pub rest : seat ≡ record old { seen = seat.seen; conflicts = seat.conflicts }
  pub begins : (more : List Entry) × (seat.seen ≡ old.seen ++ more)
  pub own : (e : Entry) → In e seat.seen → OwnsSession old e.turn.session → (e.turn.session ≤ m) × IsScripted scripts e
  pub gets : (s n : ℕ) (cell : Cell) → OwnsSession old s → s ≤ m → scripted_call scripts s n ≡ Some (Get cell) → has_turn seat.seen s n ≡ true
  pub outcomes : os ≡ outcomes_from w seat.seen 1 (take m scripts)

-- before the first session
pub RunsUpTo-none : (w : World) (scripts : List (List Verdict)) (seat : SeatState) → CanRun scripts seat → RunsUpTo w scripts 0 seat seat []
RunsUpTo-none w scripts seat can = record {
  rest = refl;
  begins = ([], sym (append-nil seat.seen));
  own = λ e i o. absurd (can.unused e i o);
  gets = λ s n cell o l c. let a = o.0 in let f = can.first in absurd (omega (arith, a, f, l));
  outcomes = refl;
}

module _ (w : World) (scripts : List (List Verdict)) (m : ℕ) (old mid : SeatState) (os : List (List Outcome)) (can : CanRun scripts old)
    (inside : m < length scripts)
    (upto : RunsUpTo w scripts m old mid os) where
  -- the next session is the seat's
  pub next_owned : OwnsSession old (m + 1)
  next_owned = let f = can.first in let l = can.last in (omega arith, omega arith)

  -- the seat has seen no entry of the next session
  pub next_fresh : IsFresh (m + 1) mid.seen
  next_fresh e i q =
      let o = upto.own e i (subst (OwnsSession old) (sym q) next_owned) in
      let b = o.0 in
      absurd (omega (arith, b, q))

  -- one session more
  pub RunsUpTo-more : (new : SeatState) (script : List Verdict) (last : List Outcome) → get_or scripts m [] ≡ script
      → IsAtLine script (m + 1) (length script) mid new
      → last ≡ session_outcomes w new.seen (m + 1) script → RunsUpTo w scripts (m + 1) old new (os ++ last ∷ [])
  RunsUpTo-more new script last is at ended =
      let low : 1 ≤ m + 1 = omega arith in
      let less : m + 1 - 1 ≡ m = omega arith in
      let there : slice_get scripts (m + 1 - 1) ≡ Some script =
      script_of-there scripts (m + 1) low (omega arith) ∙ ap Some (ap (λ (j : ℕ). get_or scripts j []) less ∙ is) in
      let past = at.grown in
      let first = can.first in
      let end = can.last in
      let to_mid : (k : ℕ) → OwnsSession old k → OwnsSession mid k = λ k o. subst (λ (x : SeatState). OwnsSession x k) (sym upto.rest) o in
      record {
        rest = at.rest ∙ ap (λ (x : SeatState). record x { seen = new.seen; conflicts = new.conflicts }) upto.rest;
        begins = (
          upto.begins.0 ++ past.0,
          past.1 ∙ ap (λ (x : List Entry). x ++ past.0) upto.begins.1 ∙ append_assoc old.seen upto.begins.0 past.0,
        );
        own = λ e i o. ⊎_elim
            (λ (a : In e mid.seen). let b = upto.own e a o in let c = b.0 in (omega arith, b.1))
            (λ (b : In e past.0).
            let q : e.turn.session ≡ m + 1 = past.2 e b (to_mid e.turn.session o) in
            (omega arith, IsAtLine-scripted scripts (m + 1) script low there mid new at e i q))
            (in_append e mid.seen past.0 (subst (In e) past.1 i));
        gets = λ s n cell o l c. ⊎_elim
            (λ (a : s ≤ m). subst (λ (x : List Entry). has_turn x s n ≡ true) (sym past.1)
            (has_turn-past s n mid.seen past.0 (upto.gets s n cell o a c)))
            (λ (q : s ≡ m + 1). subst (λ (j : ℕ). has_turn new.seen j n ≡ true) (sym q)
            (IsAtLine-gets scripts (m + 1) script low there mid new at n cell (subst (λ (j : ℕ). scripted_call scripts j n ≡ Some (Get cell)) q c)))
            (le_or_next s m l);
        outcomes = outcomes_from-more w scripts m mid.seen new.seen os last inside upto.outcomes
            (λ s n a b. reply_of_turn-fresh w mid.seen past.0 new.seen s n past.1 (λ e i q.
            let owned : OwnsSession old e.turn.session = (omega arith, omega arith) in
            let next = past.2 e i (to_mid e.turn.session owned) in
            absurd (omega (arith, q, next, b))))
            (ended ∙ ap (session_outcomes w new.seen (m + 1)) (sym is));
      }

-- all sessions
pub RunsUpTo-all : (w : World) (scripts : List (List Verdict)) (m : ℕ) (old seat : SeatState) (os : List (List Outcome)) → CanRun scripts old
    → length scripts ≤ m → RunsUpTo w scripts m old seat os → HasRun scripts old seat × (os ≡ outcomes_after w seat.seen scripts)
RunsUpTo-all w scripts m old seat os can all upto = (
  record {
    rest = upto.rest;
    begins = upto.begins;
    own = λ e i o. (upto.own e i o).1;
    gets = λ s n cell o c. let b = o.1 in let l = can.last in upto.gets s n cell o (omega arith) c;
  },
  upto.outcomes ∙ outcomes_after-all w scripts seat.seen m all,
)
