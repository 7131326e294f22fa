-- What callers see of a seat, of the table, and of what a closed table leaves.
use Rattle.std.specs.Prelude.{drop, ◌≡◌, ◌≢◌, ◌⊎◌, ℕ, ◌+◌, ◌*◌, ◌<◌, ◌≤◌, ◌==◌, List, [], ◌∷◌, ◌++◌, length, slice_index_or, fold, if◌then◌else◌}
use Rattle.atomic_table.specs.Seated.{TableId}
use Rattle.dt_model.specs.declared.calls.Entry.{Entry}
use Rattle.dt_model.specs.declared.declared_tensors.Decls.{Decls}
use Rattle.dt_model.specs.declared.replies.World.{World}
use Rattle.dt_model.specs.Contents.{Contents}
use Rattle.dt_model.specs.JournalValue.{JournalValue}
use Rattle.dt_model.specs.Runs.{contents_after, restricted_to}
use Rattle.dt_model.specs.Tensors.{latch_count}
use Rattle.fiber_latch.specs.declared.view.TableConfig.{TableConfig}
use Rattle.fiber_latch.specs.declared.rule.Busy.{Busy}
use Rattle.fiber_latch.specs.declared.rule.Kept as kept
use Rattle.fiber_latch.specs.Views.{In, Extends, IsUnrelated}

-- ---- the two values

-- a seat: its table, what the table was opened for, the sessions first to last that it owns, the entries that it has seen,
-- the latches that it holds, the greatest first, each with its session, and the latch and holder that each failed take found
pub record SeatState : Type 0 where
  pub table : TableId
  pub config : TableConfig
  pub first : ℕ
  pub last : ℕ
  pub seen : List Entry
  pub held : List (ℕ × ℕ)
  pub conflicts : List (ℕ × ℕ)

-- a table: which one it is, and what it was opened for
pub record TableState : Type 0 where
  pub table : TableId
  pub config : TableConfig

-- what a table of this world is opened for; the journal's latch is the number behind all others
abbrev pub config_for : World → ℕ → ℕ → TableConfig
config_for w sessions calls = record { world = w; end = latch_count w.decls; sessions = sessions; calls = calls }

-- the seat is this table's
abbrev pub BelongsTo : SeatState → TableState → Type 0
BelongsTo s h = (s.table ≡ h.table) × (s.config ≡ h.config)

-- the seat of all sessions, before any call
abbrev pub first_state : TableId → TableConfig → SeatState
first_state z config = record { table = z; config = config; first = 1; last = config.sessions; seen = []; held = []; conflicts = [] }

-- ---- numbers

-- the entry's number where it is of session s, else the number before
abbrev pub later_number : ℕ → ℕ → Entry → ℕ
later_number s n e = if e.turn.session == s then e.turn.number else n

-- the number of the session's last entry, or 0
abbrev pub last_number : ℕ → List Entry → ℕ
last_number s entries = fold (λ n e. later_number s n e) 0 entries

-- ---- values

module _ {C : Type 0} (content : C → Contents) (sound : Decls → ℕ → C → Type 0) (config : TableConfig) where
  -- the store has the shape of latch l, and the cells that the entries leave there
  abbrev pub IsStore : List Entry → ℕ → C → Type 0
  IsStore seen l c = sound config.world.decls l c × (content c ≡ restricted_to config.world.decls (contents_after config.world seen) l)

  -- one store for each latch but the journal's, in their order
  pub record AreStores (seen : List Entry) (stores : List C) : Type 0 where
    pub count : length stores ≡ config.end
    pub each : (l : ℕ) (d : C) → l < length stores → IsStore seen l (slice_index_or stores l d)

-- the journal has these entries, and room for all that may come
pub record IsJournal (config : TableConfig) (seen : List Entry) (j : JournalValue) : Type 0 where
  pub entries : j.entries ≡ seen
  pub room : config.sessions * config.calls ≤ length seen + j.spare

-- ---- take

-- the session is the seat's
abbrev pub OwnsSession : SeatState → ℕ → Type 0
OwnsSession s n = (s.first ≤ n) × (n ≤ s.last)

-- the seat holds the latch for some session
abbrev pub HoldsLatch : SeatState → ℕ → Type 0
HoldsLatch s l = (n : ℕ) × In (l, n) s.held

-- a take: the latch is held for the session, and the value is good for the entries that are seen now
pub record IsTaken {C : Type 0} (good : TableConfig → List Entry → ℕ → kept.Kept C
    → Type 0) (l s : ℕ) (old : SeatState) (y : kept.Kept C) (new : SeatState) : Type 0 where
  pub rest : new ≡ record old { held = (l, s) ∷ old.held; seen = new.seen }
  pub grown : Extends (IsUnrelated old.config (OwnsSession old) (HoldsLatch old)) old.seen new.seen
  pub fits : good old.config new.seen l y

-- what a take found that failed: the latch held by a session of the table's that is none of the seat's
pub record IsHeldBy (n : ℕ) (old : SeatState) : Type 0 where
  pub held : n ≢ 0
  pub session : n ≤ old.config.sessions
  pub other : ¬ OwnsSession old n

-- a take, after tries that may have failed
pub record IsTakenAfterTries {C : Type 0} (good : TableConfig → List Entry → ℕ → kept.Kept C
    → Type 0) (l s : ℕ) (old : SeatState) (y : kept.Kept C) (new : SeatState) : Type 0 where
  pub conflicts : List (ℕ × ℕ)
  pub tries : (p : ℕ × ℕ) → In p conflicts → (p.0 ≡ l) × IsHeldBy p.1 old
  pub got : IsTaken good l s (record old { conflicts = old.conflicts ++ conflicts }) y new

-- a take that failed: it notes this latch and a session of another seat as its holder, and nothing else changed
pub record IsBusy (l : ℕ) (old : SeatState) (b : Busy) (new : SeatState) : Type 0 where
  pub latch : b.latch ≡ l
  pub holder : IsHeldBy b.holder old
  pub conflicts : new ≡ record old { conflicts = old.conflicts ++ (l, b.holder) ∷ [] }

-- ---- give

-- the latch is the greatest that the seat holds
abbrev pub IsTop : ℕ → List (ℕ × ℕ) → Type 0
IsTop l [] = ⊥
IsTop l (x ∷ xs) = x.0 ≡ l

-- the greatest latch is listed no more
abbrev pub without_top : SeatState → SeatState
without_top s = record s { held = drop 1 s.held }

-- ---- join

-- the entry is of none of the sessions f to t
abbrev pub IsOutside : ℕ → ℕ → Entry → Type 0
IsOutside f t e = ¬ ((f ≤ e.turn.session) × (e.turn.session ≤ t))

-- both lists are beginnings of the new one, which is one of them, and no later entry is of the one's sessions
pub record HasJoined (old other new : SeatState) : Type 0 where
  pub rest : new ≡ record old { last = other.last; seen = new.seen; conflicts = old.conflicts ++ other.conflicts }
  pub one : (new.seen ≡ old.seen) ⊎ (new.seen ≡ other.seen)
  pub mine : Extends (IsOutside old.first old.last) old.seen new.seen
  pub theirs : Extends (IsOutside other.first other.last) other.seen new.seen
