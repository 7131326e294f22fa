-- The last step of a call: its entry goes into the history while its fibers are held. No public clause cites this module.
use Rattle.std.specs.Prelude.{◌≡◌, ℕ, List, [], ◌∷◌, ◌++◌, IsTrue}
use Rattle.dt_model.specs.declared.calls.Entry.{Entry}
use Rattle.dt_model.specs.Latches.{needs}
use Rattle.dt_model.specs.Verdicts.{call_is_valid}
use Rattle.fiber_latch.specs.Views.{In, IsAboveAll, Extends, IsUnrelated}
use Rattle.fiber_latch.specs.Seats.{SeatState, OwnsSession, HoldsLatch}
use Rattle.sessions.specs.Calling.{IsNext}

-- the entry is of no session of the seat, and touches no latch that it holds
abbrev pub IsForeign : SeatState → Entry → Type 0
IsForeign s = IsUnrelated s.config (OwnsSession s) (HoldsLatch s)

-- the latch is above each that is listed
abbrev pub IsAboveHeld : ℕ → List (ℕ × ℕ) → Type 0
IsAboveHeld l held = IsAboveAll (λ (h : ℕ × ℕ). h.0) l held

-- the seat may enter this entry: it holds each latch of the call for the entry's session, and all are below the journal's
pub record CanEnter (e : Entry) (s : SeatState) : Type 0 where
  pub next : IsNext e.turn s
  pub valid : IsTrue (call_is_valid s.config.world.decls e.call)
  pub held : (l : ℕ) → IsTrue (needs s.config.world.decls e.call l) → In (l, e.turn.session) s.held
  pub below : IsAboveHeld s.config.end s.held

-- the entry was entered, behind entries that touch no latch that the seat holds
pub record HasEntered (e : Entry) (old new : SeatState) : Type 0 where
  pub before : List Entry
  pub grown : Extends (IsForeign old) old.seen before
  pub rest : new ≡ record old { seen = before ++ e ∷ []; conflicts = new.conflicts }
