-- Which conflicts a seat notes while it takes latches. No public clause cites this module.
use Rattle.std.specs.Prelude.{◌≡◌, ℕ, Bool, true, false, List, [], ◌∷◌, Result, Ok, Err}
use Rattle.fiber_latch.specs.declared.rule.Busy.{Busy}
use Rattle.fiber_latch.specs.Seats.{SeatState}
use Rattle.sessions.specs.declared.hands.Fault.{Fault}
use Rattle.sessions.specs.declared.hands.Fault.TheVariants.{Held, Full}
use Rattle.sessions.specs.Calling.{NotesConflicts}

-- the conflict that stopped a take, if one did
abbrev pub stop_of_take : {X : Type 0} → Result X Busy → List (ℕ × ℕ)
stop_of_take (Ok x) = []
stop_of_take (Err b) = (b.latch, b.holder) ∷ []

-- the conflict that stopped a call, unless it ran out of memory
abbrev pub stop_of_fault : Fault → List (ℕ × ℕ)
stop_of_fault (Held b) = (b.latch, b.holder) ∷ []
stop_of_fault Full = []

-- the conflict that stopped a call, if one did
abbrev pub stop_of_call : {X : Type 0} → Result X Fault → List (ℕ × ℕ)
stop_of_call (Ok x) = []
stop_of_call (Err f) = stop_of_fault f

-- conflicts were noted with such latches alone: by a taker that doesn't wait the one that stopped it, if one did, and no other; one
-- that waits was stopped by none
pub record Notes (waits : Bool) (latches : ℕ → Bool) (stop : List (ℕ × ℕ)) (old new : SeatState) : Type 0 where
  pub conflicts : NotesConflicts latches old new
  pub tries : waits ≡ false → conflicts.later ≡ stop
  pub waiting : waits ≡ true → stop ≡ []
