-- What a seat holds in the middle of a call: latches with their stores, of any type, in the order in which they were taken.
-- No public clause cites this module.
use Rattle.std.specs.Prelude.{◌≡◌, ℕ, List, [], ◌∷◌, ◌++◌, fold, IsTrue}
use Rattle.dt_model.specs.declared.calls.Call.{Call}
use Rattle.dt_model.specs.declared.calls.Call.TheVariants.{Get, Batch, Query}
use Rattle.dt_model.specs.declared.calls.Entry.{Entry}
use Rattle.dt_model.specs.declared.calls.Update.{Update}
use Rattle.dt_model.specs.declared.declared_tensors.Decls.{Decls}
use Rattle.dt_model.specs.Contents.{Contents, with_updates}
use Rattle.dt_model.specs.Latches.{needs}
use Rattle.dt_model.specs.Runs.{contents_after}
use Rattle.fiber_latch.specs.declared.view.TableConfig.{TableConfig}
use Rattle.fiber_latch.specs.declared.rule.Kept.{Kept}
use Rattle.fiber_latch.specs.declared.rule.Kept.TheVariants.{Fiber}
use Rattle.fiber_latch.specs.Rule.{GoodAt}
use Rattle.fiber_latch.specs.Views.{In, Extends}
use Rattle.fiber_latch.specs.Seats.{SeatState, IsTaken}
use Rattle.fiber_store.specs.Stores.{StoreState, IsSound, own, store_content}
use Rattle.sessions.specs.declared.hands.Hand.{Hand}
use Rattle.sessions.specs.declared.hands.Fault.{Fault}
use Rattle.sessions.specs.declared.hands.Fault.TheVariants.{Held, Full}
use Rattle.sessions.specs.declared.faults.TryFault.{TryFault}
use Rattle.sessions.specs.declared.faults.TryFault.TheVariants as fault
use Rattle.sessions.specs.Entering.{IsForeign, IsAboveHeld}

-- the updates that a store is due
abbrev pub due_of : StoreState → List Update
due_of s = s.due

-- the latches with their session, the last first
abbrev pub listed : {C : Type 0} → ℕ → List (Hand C) → List (ℕ × ℕ)
listed s hands = fold (λ hs h. (h.latch, s) ∷ hs) [] hands

-- the store of latch l is due what the call changes there
abbrev pub IsDue : {C : Type 0} → (C → List Update) → Decls → Call → ℕ → C → Type 0
IsDue due d (Get cell) l c = Unit {0}
IsDue due d (Batch updates) l c = due c ≡ own d l updates
IsDue due d (Query stmt) l c = Unit {0}

-- each store is good for the entries p
abbrev pub AreGood : {C : Type 0} → (C → Contents) → (Decls → ℕ → C → Type 0) → TableConfig → List Entry → List (Hand C) → Type 0
AreGood content sound config p hands = (h : Hand _) → In h hands → GoodAt content sound config p h.latch (Fiber h.store)

-- each store is due what the call changes in its latch's cells
abbrev pub AreDue : {C : Type 0} → (C → List Update) → Decls → Call → List (Hand C) → Type 0
AreDue due d call hands = (h : Hand _) → In h hands → IsDue due d call h.latch h.store

-- the seat holds these latches and no others, for the session, and their stores are good
pub record Holds {C : Type 0} (content : C → Contents) (sound : Decls → ℕ → C → Type 0) (s : ℕ) (seat : SeatState) (hands : List (Hand C)) : Type 0 where
  pub held : seat.held ≡ listed s hands
  pub good : AreGood content sound seat.config seat.seen hands

-- ---- one take

-- the latch is taken with its value for the session, whatever conflicts were noted before
abbrev pub IsTakenInTime : ℕ → ℕ → SeatState → Kept StoreState → SeatState → Type 0
IsTakenInTime l s old y new = (conflicts : List (ℕ × ℕ)) × IsTaken (GoodAt store_content IsSound) l s (record old { conflicts = conflicts }) y new

-- nothing changed, but that conflicts may have been noted
abbrev pub IsOnlyNoted : SeatState → SeatState → Type 0
IsOnlyNoted old new = new ≡ record old { conflicts = new.conflicts }

-- the seat holds what it held, and has seen no entry that touches it
pub record IsAsBefore (old new : SeatState) : Type 0 where
  pub rest : new ≡ record old { seen = new.seen; conflicts = new.conflicts }
  pub grown : Extends (IsForeign old) old.seen new.seen

-- ---- all takes

-- all latches of the call are held, below the journal's, and each store is due its own updates
pub record IsReady {C : Type 0} (due : C → List Update) (s : ℕ) (call : Call) (seat : SeatState) (hands : List (Hand C)) : Type 0 where
  pub all : (l : ℕ) → IsTrue (needs seat.config.world.decls call l) → In (l, s) seat.held
  pub below : IsAboveHeld seat.config.end seat.held
  pub dues : AreDue due seat.config.world.decls call hands

-- the entry of these updates was just entered: the stores are good for the entries before it, and due their own updates
pub record HoldsBehind {C : Type 0} (content : C → Contents) (sound : Decls → ℕ → C → Type 0) (due : C
    → List Update) (s : ℕ) (updates : List Update) (seat : SeatState) (hands : List (Hand C)) : Type 0 where
  pub before : List Entry
  pub held : seat.held ≡ listed s hands
  pub seen : contents_after seat.config.world seat.seen ≡ with_updates (contents_after seat.config.world before) updates
  pub good : AreGood content sound seat.config before hands
  pub dues : AreDue due seat.config.world.decls (Batch updates) hands

-- the fault, with what comes back
abbrev pub fault_with : {T : Type 0} → Fault → T → TryFault T
fault_with (Held b) back = fault.Busy b back
fault_with Full back = fault.NoMemory back
