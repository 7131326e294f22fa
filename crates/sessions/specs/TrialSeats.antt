-- The seats of the tests of an engine's calls. No public clause cites this module.
use Rattle.std.specs.Prelude.{◌≡◌, ℕ, [], ◌∷◌}
use Rattle.fiber_latch.specs.declared.rule.Kept.{Kept}
use Rattle.fiber_latch.specs.Rule.{GoodAt}
use Rattle.fiber_latch.specs.Seats.{BelongsTo, SeatState, TableState}
use Rattle.fiber_store.specs.Stores.{IsSound, StoreState, store_content}
use Rattle.sessions.specs.declared.faults.TryFault.{TryFault}
use Rattle.sessions.specs.declared.faults.TryFault.TheVariants as fault
use Rattle.sessions.specs.RunTests.{two_vectors}

-- a table over the tensors v and w, for 16 calls of each session
pub record IsTrial (table : TableState) : Type 0 where
  pub world : table.config.world ≡ two_vectors
  pub calls : table.config.calls ≡ 16

-- a seat of the table's between its calls
pub record IsFree (table : TableState) (s : SeatState) : Type 0 where
  pub of : BelongsTo s table
  pub free : s.held ≡ []

-- a seat of the table's that holds this latch alone, whose value is good for what the seat has seen
pub record IsHolding (table : TableState) (latch : ℕ) (y : Kept StoreState) (s : SeatState) : Type 0 where
  pub of : BelongsTo s table
  pub session : ℕ
  pub held : s.held ≡ (latch, session) ∷ []
  pub good : GoodAt store_content IsSound s.config s.seen latch y

-- what a fault hands back
abbrev pub back_of : {T : Type 0} → TryFault T → T
back_of (fault.Busy b back) = back
back_of (fault.NoMemory back) = back
