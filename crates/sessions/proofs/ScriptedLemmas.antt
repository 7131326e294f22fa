-- A session that has come to the end of its script, seen from all scripts.
use Rattle.std.proofs.Common.{◌≡◌, ℕ, ◌-◌, ◌≤◌, true, List, length, sym, ◌∙◌, subst, ⊎_elim, Some}
use Rattle.std.specs.Prelude.{slice_get}
use Rattle.dt_model.specs.declared.calls.Call.TheVariants.{Get}
use Rattle.dt_model.specs.declared.calls.Cell.{Cell}
use Rattle.dt_model.specs.declared.calls.Entry.{Entry}
use Rattle.dt_model.specs.declared.replies.Verdict.{Verdict}
use Rattle.dt_model.specs.declared.replies.World.{World}
use Rattle.dt_model.specs.Runs.{has_turn, reply_of_turn}
use Rattle.fiber_latch.specs.Views.{In, Extends}
use Rattle.fiber_latch.specs.Seats.{SeatState, IsOutside}
use Rattle.fiber_latch.proofs.ViewsLemmas.{in_append}
use Rattle.sessions.specs.Outcomes.{session_outcomes}
use Rattle.sessions.specs.Running.{scripted_call, IsScripted}
use Rattle.sessions.specs.ScriptLines.{line_call, IsAtLine}
use Rattle.sessions.proofs.HistoriesLemmas.{reply_of_turn-fresh}
use Rattle.sessions.proofs.OutcomesLemmas.{line_outcomes-same}
use Rattle.sessions.proofs.RunningLemmas.{scripted_call-line}
use Rattle.sessions.proofs.ScriptLinesLemmas.{line_call-within}

module _ (scripts : List (List Verdict)) (s : ℕ) (script : List Verdict) (low : 1 ≤ s) (there : slice_get scripts (s - 1) ≡ Some script) (old new : SeatState)
    (at : IsAtLine script s (length script) old new) where
  -- each entry of the session is scripted
  pub IsAtLine-scripted : (e : Entry) → In e new.seen → e.turn.session ≡ s → IsScripted scripts e
  IsAtLine-scripted e i q =
      let line = at.own e i q in
      subst (λ (k : ℕ). scripted_call scripts k e.turn.number ≡ Some e.call) (sym q)
      (scripted_call-line scripts s e.turn.number script low there ∙ line.call)

  -- each get of the session was made
  pub IsAtLine-gets : (n : ℕ) (cell : Cell) → scripted_call scripts s n ≡ Some (Get cell) → has_turn new.seen s n ≡ true
  IsAtLine-gets n cell c =
      let line : line_call script n ≡ Some (Get cell) = sym (scripted_call-line scripts s n script low there) ∙ c in
      at.gets n cell (line_call-within script n (Get cell) line) line

-- an entry of the seat's sessions is one that the seat had seen
pub In-own : (f t : ℕ) (e : Entry) (seen new : List Entry) → Extends (IsOutside f t) seen new → f ≤ e.turn.session → e.turn.session ≤ t → In e new → In e seen
In-own f t e seen new past low high i = ⊎_elim (λ (a : In e seen). a) (λ (b : In e past.0). absurd (past.2 e b (low, high)))
    (in_append e seen past.0 (subst (In e) past.1 i))

-- entries of other sessions leave a session's replies
pub replies-outside : (w : World) (f t s n : ℕ) (seen new : List Entry) → Extends (IsOutside f t) seen new → f ≤ s → s ≤ t
    → reply_of_turn w new s n ≡ reply_of_turn w seen s n
replies-outside w f t s n seen new past low high = reply_of_turn-fresh w seen past.0 new s n past.1 (λ e i q.
    past.2 e i (subst (λ (k : ℕ). (f ≤ k) × (k ≤ t)) (sym q) (low, high)))

-- and its outcomes
pub session_outcomes-outside : (w : World) (f t s : ℕ) (script : List Verdict) (seen new : List Entry) → Extends (IsOutside f t) seen new → f ≤ s → s ≤ t
    → session_outcomes w seen s script ≡ session_outcomes w new s script
session_outcomes-outside w f t s script seen new past low high =
    line_outcomes-same (reply_of_turn w seen s) (reply_of_turn w new s) 1 script (λ k a b. sym (replies-outside w f t s k seen new past low high))
