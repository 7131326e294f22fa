-- What is true of a seat between its calls. No public clause cites this module.
use Rattle.std.specs.Prelude.{◌≡◌, ℕ, ◌-◌, ◌<◌, ◌≤◌, List, [], ◌∷◌, slice_index, false, Option, None}
use Rattle.atomic_table.specs.Seated.{TableId}
use Rattle.atomic_table.specs.Table.{Me}
use Rattle.dt_model.specs.declared.limits.TheConstants.{MOST_SESSIONS}
use Rattle.dt_model.specs.declared.calls.Entry.{Entry}
use Rattle.fiber_latch.specs.declared.view.Mark.TheVariants.{Kept}
use Rattle.fiber_latch.specs.declared.view.Hold.{Hold}
use Rattle.fiber_latch.specs.declared.view.Role.TheVariants.{Sessions}
use Rattle.fiber_latch.specs.declared.view.View.{View}
use Rattle.fiber_latch.specs.declared.rule.SlotValue.{SlotValue}
use Rattle.fiber_latch.specs.Views.{id_of, IsLawful}
use Rattle.fiber_latch.specs.Seats.{SeatState, last_number}

-- the latches with their sessions, without the marks
abbrev pub pairs : List Hold → List (ℕ × ℕ)
pairs [] = []
pairs (h ∷ hs) = (h.latch, h.session) ∷ pairs hs

-- an empty slot in hand for each latch
abbrev pub hands : {C : Type 0} → List Hold → List (ℕ × Option (SlotValue C))
hands [] = []
hands (h ∷ hs) = (h.latch, None) ∷ hands hs

-- the seat keeps each latch
abbrev pub KeepsAll : List Hold → Type 0
KeepsAll [] = Unit {0}
KeepsAll (h ∷ hs) = (h.mark ≡ Kept) × KeepsAll hs

-- what callers see of a seat
abbrev pub state_of : TableId → ℕ → ℕ → View → SeatState
state_of z f t v = record { table = z; config = v.config; first = f; last = t; seen = v.seen; held = pairs v.held; conflicts = v.conflicts }

-- the seat has an empty slot in hand for each latch that it holds, and keeps each
pub record IsSeat {C : Type 0} (z : TableId) (f t : ℕ) (me : Me (Option (SlotValue C)) View) : Type 0 where
  pub role : me.0.role ≡ Sessions f t
  pub some_session : 0 < f
  pub known : me.0.fresh ≡ false
  pub idle : me.0.last_join ≡ None
  pub table : id_of me.0.table ≡ z
  pub within : t ≤ me.0.config.sessions
  pub law : IsLawful me.0.config me.0.seen
  pub hand : me.1 ≡ hands me.0.held
  pub kept : KeepsAll me.0.held

-- place s - 1 has the last number of session s
pub record HasNumbers (f t : ℕ) (numbers : List ℕ) (seen : List Entry) : Type 0 where
  pub order : f ≤ t
  pub few : t ≤ MOST_SESSIONS
  pub each : (s : ℕ) → f ≤ s → s ≤ t → slice_index numbers (s - 1) ≡ last_number s seen
