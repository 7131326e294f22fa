-- What holds of a core at every moment.
use Rattle.std.specs.Prelude.{ℕ, ◌≡◌, ◌<◌, true, false, ◌||◌, ◌⊎◌, Option, Some, None}
use Rattle.dt_model.specs.declared.calls.Call.{Call}
use Rattle.dt_model.specs.declared.replies.Reply.{Reply}
use Rattle.dt_model.specs.declared.replies.Reply.TheVariants.{Done, Value, Result}
use Rattle.dt_model.specs.declared.replies.World.{World}
use Rattle.dt_model.specs.Runs.{IsOrder, contents_after, restricted_to, reply_of_entry, call_of, has_turn}
use Rattle.commit_core.specs.declared.events.Event.{Event}
use Rattle.commit_core.specs.declared.events.Event.TheVariants.{Take, Commit, Give, Quit}
use Rattle.commit_core.specs.declared.events.Position.{Position}
use Rattle.commit_core.specs.Machine.{Reached, commit_needs}
use Rattle.commit_core.specs.Turns.{is_lost}
use Rattle.commit_core.specs.Events.{Progress, current_call, is_possible, holds_below}
use Rattle.commit_core.specs.State.{reply_in}

-- the number that a reply has, where it is a get's
abbrev pub value_in : Option Reply → Option ℕ
value_in None = None
value_in (Some Done) = None
value_in (Some (Value v)) = Some v
value_in (Some (Result pairs)) = None

-- a session that stands here has come past line n; one without a call has come past every line
abbrev pub IsPast : Position → ℕ → Type 0
IsPast position n = (position.number ≡ 0) ⊎ (n < position.number)

-- the event is a take, a commit or a give
abbrev pub IsNoQuit : Event → Type 0
IsNoQuit (Take s l) = Unit {0}
IsNoQuit (Commit s) = Unit {0}
IsNoQuit (Give s l) = Unit {0}
IsNoQuit (Quit s) = ⊥

-- what a run of the core promises at every moment
pub record IsSound (w : World) (p : Progress) : Type 0 where
  -- takes, commits and gives of the machine have led here
  pub reached : Reached w p.machine
  -- the history is an order of the World's accepted calls
  pub order : IsOrder w p.machine.history
  -- each latch, held or free, has its cells of what the history makes of the base
  pub contents : (l : ℕ) → p.machine.content l ≡ restricted_to w.decls (contents_after w p.machine.history) l
  -- each get has read what one thread answers at its place
  pub replies : (place : ℕ) → reply_in p.replies place ≡ value_in (reply_of_entry w p.machine.history place)
  -- no turn is both made and lost
  pub once : (s n : ℕ) → has_turn p.machine.history s n ≡ true → is_lost p.lost s n ≡ false
  -- each accepted call before a session's current one is made or lost
  pub settled : (s n : ℕ) (call : Call) → call_of w s n ≡ Some call → IsPast (p.position s) n → (has_turn p.machine.history s n || is_lost p.lost s n) ≡ true
  -- a session is at one of its accepted calls, or has none left
  pub standing : (s : ℕ) → ((p.position s).number ≡ 0) ⊎ ((call : Call) × (current_call w p s ≡ Some call))
  -- before its commit a session holds the first of the latches that it needs
  pub first : (s l : ℕ) (call : Call) → current_call w p s ≡ Some call → (p.position s).committed ≡ false → p.machine.holder l ≡ s
      → (commit_needs w.decls call l ≡ true) × (holds_below w.decls p.machine.holder s call l ≡ true)
  -- while a session has a call left, some take, commit or give is possible
  pub goes_on : (s : ℕ) (call : Call) → current_call w p s ≡ Some call → (e : Event) × IsNoQuit e × (is_possible w p e ≡ true)
