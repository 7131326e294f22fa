-- What each event is to the latch machine.
use Rattle.std.specs.Prelude.{ℕ, ◌≡◌, ◌≢◌, Some}
use Rattle.dt_model.specs.declared.calls.Call.{Call}
use Rattle.dt_model.specs.declared.calls.Entry.{Entry}
use Rattle.dt_model.specs.declared.replies.World.{World}
use Rattle.commit_core.specs.declared.events.Event.{Event}
use Rattle.commit_core.specs.declared.events.Event.TheVariants.{Take, Commit, Give, Quit}
use Rattle.commit_core.specs.Machine.{Machine, CanTake, taken, CanCommit, committed, CanGive, given, Gives}
use Rattle.commit_core.specs.Events.{Progress, current_call, turn_now}

-- the entry of session s's current call
abbrev pub entry_now : Progress → ℕ → Call → Entry
entry_now p s call = record { turn = turn_now p s; call = call }

-- the machine may do what the event says and has done it: a take, a commit of the current call, a give, or, for a quit,
-- gives until the session holds nothing
abbrev pub IsStep : World → Progress → Event → Machine → Type 0
IsStep w p (Take s l) new = CanTake w.decls p.machine s l × (new ≡ taken p.machine s l)
IsStep w p (Commit s) new = (call : Call) × (current_call w p s ≡ Some call) × CanCommit w.decls p.machine (entry_now p s call)
    × (new ≡ committed w.decls p.machine (entry_now p s call))
IsStep w p (Give s l) new = CanGive p.machine s l × (new ≡ given p.machine l)
IsStep w p (Quit s) new = Gives s p.machine new × ((l : ℕ) → new.holder l ≢ s)

-- the event is one that takes memory: a commit or a quit
abbrev pub TakesMemory : Event → Type 0
TakesMemory (Take s l) = ⊥
TakesMemory (Commit s) = Unit {0}
TakesMemory (Give s l) = ⊥
TakesMemory (Quit s) = Unit {0}
