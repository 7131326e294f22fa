-- When a seat may make a step, and what a whole take tells. No public clause cites this module.
use Rattle.std.specs.Prelude.{drop, ◌≡◌, ◌≢◌, ℕ, ◌+◌, ◌<◌, ◌≤◌, List, [], ◌∷◌, ◌++◌, length, false, Option, None, IsTrue, All}
use Rattle.atomic_table.specs.Seated.{TableId}
use Rattle.atomic_table.specs.Table.{Me, rest}
use Rattle.atomic_table.specs.declared.shared.Seat.{Seat}
use Rattle.dt_model.specs.declared.calls.Entry.{Entry}
use Rattle.dt_model.specs.declared.limits.TheConstants.{MOST_SESSIONS, MOST_CALLS}
use Rattle.dt_model.specs.Verdicts.{call_is_valid}
use Rattle.dt_model.specs.Tensors.{latch_count}
use Rattle.fiber_latch.specs.declared.view.Mark.TheVariants.{Taken, Kept}
use Rattle.fiber_latch.specs.declared.view.Hold.{Hold}
use Rattle.fiber_latch.specs.declared.view.Role.TheVariants.{Pass, Sessions}
use Rattle.fiber_latch.specs.declared.view.TableConfig.{TableConfig}
use Rattle.fiber_latch.specs.declared.view.View.{View}
use Rattle.fiber_latch.specs.declared.rule.TableKey.{TableKey}
use Rattle.fiber_latch.specs.declared.rule.Kept as kept
use Rattle.fiber_latch.specs.declared.rule.SlotValue.{SlotValue}
use Rattle.fiber_latch.specs.Views.{id_of, In, Touches, IsLawful, Owns, IsSession, Keeps, Extends, IsUnrelated, IsAboveAll, hold, spent_view}
use Rattle.fiber_latch.specs.Steps.{top_session}

-- what the table was opened for
abbrev pub config_of : TableKey → TableConfig
config_of key = record { world = key.world.value; end = key.end; sessions = key.sessions; calls = key.calls }

-- the table has a word for each latch and the clock, and a slot for each latch, and its key is within the limits
pub record IsSized (z : TableId) (key : TableKey) : Type 0 where
  pub words : z.words ≡ key.end + 2
  pub slots : z.slots ≡ key.end + 1
  pub small : key.end < 4294967295
  pub sessions : key.sessions ≤ MOST_SESSIONS
  pub calls : key.calls ≤ MOST_CALLS
  pub latches : key.end ≡ latch_count key.world.value.decls

-- a seat of this table, which is z: the table has the size that its key says
pub record FitsTable (z : TableId) (key : TableKey) (seat : TableId) : Type 0 where
  pub same : seat ≡ z
  pub sized : IsSized z key

-- the view carries what the table was opened for, and the table's name
pub record KnowsTable (z : TableId) (key : TableKey) (v : View) : Type 0 where
  pub config : v.config ≡ config_of key
  pub name : id_of v.table ≡ z

-- the library's seat is the same after a step: of the same table, under the same number
pub record IsSameSeat {S V : Type 0} (old new : Seat S V) : Type 0 where
  pub table : new.table_id ≡ old.table_id
  pub id : new.id ≡ old.id

-- ---- take

-- the seat of sessions may take this latch for this session
pub record CanTry (v : View) (s l : ℕ) : Type 0 where
  pub owns : Owns v.role s
  pub some_session : 0 < s
  pub inside : l ≤ v.config.end
  pub above : IsAboveAll (λ (h : Hold). h.latch) l v.held
  pub idle : v.last_join ≡ None

-- the seat has just taken this latch, and u is its pass
pub record CanAbsorb (v u : View) (l s : ℕ) : Type 0 where
  pub session : IsSession v.role
  pub top : v.held ≡ hold l s Taken ∷ drop 1 v.held
  pub pass : u.role ≡ Pass l

-- what a whole take tells
pub record TakesLatch {C : Type 0} (good : TableConfig → List Entry → ℕ → kept.Kept C
    → Type 0) (l s : ℕ) (me : Me (Option (SlotValue C)) View) (y : kept.Kept C) (me' : Me (Option (SlotValue C)) View) : Type 0 where
  pub seen : List Entry
  pub me_is : me' ≡ (record me.0 { held = hold l s Kept ∷ me.0.held; seen = seen }, (l, None) ∷ me.1)
  pub grown : Extends (IsUnrelated me.0.config (Owns me.0.role) (λ j. (j ≢ l) × Keeps me.0 j)) me.0.seen seen
  pub law : IsLawful me.0.config seen
  pub fits : good me.0.config seen l y

-- the first view, which is the one of a badge that was a single seat
abbrev pub the_view : List View → View
the_view [] = spent_view
the_view (u ∷ us) = u

-- ---- commit

-- the seat keeps all that the entry's commit needs, for the entry's session
pub record CanAddEntry (config : TableConfig) (v : View) (e : Entry) : Type 0 where
  pub owns : Owns v.role e.turn.session
  pub held : (l : ℕ) → Touches config l e → (h : Hold) × In h v.held × (h.latch ≡ l) × (h.session ≡ e.turn.session) × (h.mark ≡ Kept)
  pub valid : IsTrue (call_is_valid config.world.decls e.call)
  pub above : All (λ f. f.turn.session ≡ e.turn.session → f.turn.number < e.turn.number) v.seen
  pub law : IsLawful config v.seen → IsLawful config (v.seen ++ e ∷ [])
  pub room : length v.seen < 18446744073709551615
  pub idle : v.last_join ≡ None

-- ---- give

-- the latch is the greatest that the seat holds, and the value is good for what the seat has seen
pub record CanReturn {C : Type 0} (good : TableConfig → List Entry → ℕ → kept.Kept C
    → Type 0) (me : Me (Option (SlotValue C)) View) (l : ℕ) (y : kept.Kept C) : Type 0 where
  pub session : IsSession me.0.role
  pub top : me.0.held ≡ hold l (top_session me.0) Kept ∷ drop 1 me.0.held
  pub hand : me.1 ≡ (l, None) ∷ rest me.1
  pub known : me.0.fresh ≡ false
  pub idle : me.0.last_join ≡ None
  pub fits : good me.0.config me.0.seen l y

-- ---- split and join

-- a seat of sessions between calls, with no latch
pub record IsIdle (v : View) (f t : ℕ) : Type 0 where
  pub role : v.role ≡ Sessions f t
  pub held : v.held ≡ []
  pub idle : v.last_join ≡ None
  pub known : v.fresh ≡ false
