-- The rule of the latch table, which holds between any two atomic steps, over any meaning of what a latch guards.
use Rattle.std.specs.Prelude.{◌≡◌, ◌≢◌, ◌⊎◌, ℕ, ◌+◌, ◌*◌, ◌<◌, ◌≤◌, List, [], ◌∷◌, ◌++◌, length, slice_index, true, Option, Some, None, if◌then◌else◌, nat_le}
use mathlib.Core.Option.{none, some}
use mathlib.Core.Option as maybe
use lib.ListN.{get_elem?}
use Rattle.atomic_table.specs.Table.{State}
use Rattle.commit_core.specs.Machine.{Machine, Reached}
use Rattle.dt_model.specs.declared.calls.Entry.{Entry}
use Rattle.dt_model.specs.declared.declared_tensors.Decls.{Decls}
use Rattle.dt_model.specs.Contents.{Contents}
use Rattle.dt_model.specs.Runs.{contents_after, restricted_to}
use Rattle.dt_model.specs.Tensors.{latch_count}
use Rattle.fiber_latch.specs.declared.view.Mark.{Mark}
use Rattle.fiber_latch.specs.declared.view.Mark.TheVariants.{Opened, Taken, Kept, Parted}
use Rattle.fiber_latch.specs.declared.view.Hold.{Hold}
use Rattle.fiber_latch.specs.declared.view.Role.{Role}
use Rattle.fiber_latch.specs.declared.view.Role.TheVariants.{Pass}
use Rattle.fiber_latch.specs.declared.view.JoinRecord.{JoinRecord}
use Rattle.fiber_latch.specs.declared.view.TableConfig.{TableConfig}
use Rattle.fiber_latch.specs.declared.view.View.{View}
use Rattle.fiber_latch.specs.declared.view.TableName.{TableName}
use Rattle.fiber_latch.specs.declared.rule.Kept as kept
use Rattle.fiber_latch.specs.declared.rule.Kept.TheVariants.{Fiber, Journal}
use Rattle.fiber_latch.specs.declared.rule.SlotValue.{SlotValue}
use Rattle.fiber_latch.specs.Views.{id_of, In, Touches, IsLawful, Owns, IsSession, IsLive, Keeps, Knows, IsUnrelated, IsDescending, pass_view}

-- ---- what the last join met

-- no later entry touches the other's latch, where it was a pass, or is of the other's sessions
abbrev pub IsOutsideOther : TableConfig → Role → Entry → Type 0
IsOutsideOther config (Pass w) e = ¬ Touches config w e
IsOutsideOther config r e = ¬ Owns r e.turn.session

-- no later entry is of the seat's sessions, or touches a latch that it kept before
abbrev pub IsOutsideMine : TableConfig → Role → View → Role → Entry → Type 0
IsOutsideMine config (Pass w) v was e = IsUnrelated config (Owns was) (λ l. (l ≢ w) × Keeps v l) e
IsOutsideMine config r v was e = ¬ Owns was e.turn.session

-- both lists that a join met are beginnings of what the seat has seen
pub record IsJoinRecord (config : TableConfig) (v : View) (o : JoinRecord) : Type 0 where
  pub mine : (past : List Entry) × (v.seen ≡ o.mine ++ past) × ((e : Entry) → In e past → IsOutsideMine config o.other v o.was e)
  pub theirs : (past : List Entry) × (v.seen ≡ o.theirs ++ past) × ((e : Entry) → In e past → IsOutsideOther config o.other e)

-- where the seat has just joined another, what it met is as it must be
abbrev pub IsLastJoin : TableConfig → View → Option JoinRecord → Type 0
IsLastJoin config v None = Unit {0}
IsLastJoin config v (Some o) = IsJoinRecord config v o

-- ---- one view

-- H is the history, owner the number of the seat of each session, keeper that of each latch
pub record IsSoundView (config : TableConfig) (H : List Entry) (owner keeper : ℕ → ℕ) (words : List ℕ) (name : TableName) (id : ℕ) (v : View) : Type 0 where
  pub named : v.table ≡ name
  pub same_config : v.config ≡ config
  pub sees : (past : List Entry) × (H ≡ v.seen ++ past) × ((e : Entry) → In e past → IsUnrelated config (Owns v.role) (Knows v) e)
  pub mine : (s : ℕ) → Owns v.role s → owner s ≡ id
  pub within : (s : ℕ) → Owns v.role s → (0 < s) × (s ≤ config.sessions)
  pub keeps : (l : ℕ) → Keeps v l → keeper l ≡ id
  pub holds : (h : Hold) → In h v.held → (h.latch ≤ config.end) × Owns v.role h.session × (0 < h.session) × (slice_index words h.latch ≡ h.session)
  pub descending : IsDescending v.held
  pub last_join : IsLastJoin config v v.last_join

-- ---- one latch

-- the slots: none where a seat has it in hand, else what lies in it
abbrev pub Homes : Type 0 → Type 0
Homes C = List (maybe.Option (Option (SlotValue C)))

module _ {C : Type 0} (good : List Entry → ℕ → kept.Kept C → Type 0) (config : TableConfig) (owner : ℕ
    → ℕ) (k : ℕ) (words : List ℕ) (homes : Homes C) (views : List View) (l : ℕ) where
  -- a value and the latch's pass lie in the slot, and the value is good for what the pass has seen
  abbrev pub IsAtHome : SlotValue C → View → Type 0
  IsAtHome y u = (get_elem? homes l ≡ some (some (Some y))) × (y.pass.views ≡ u ∷ []) × (y.pass.table_id ≡ id_of u.table) × (get_elem? views k ≡ some u)
      × (u.role ≡ Pass l) × good u.seen l y.kept

  -- where the slot is, by the seat's mark
  abbrev pub IsSlotAt : Mark → Type 0
  IsSlotAt Opened = get_elem? homes l ≡ some (some None)
  IsSlotAt Kept = get_elem? homes l ≡ some none
  IsSlotAt Taken = (get_elem? homes l ≡ some none) × ((u : View) × (get_elem? views k ≡ some u) × (u.role ≡ Pass l))
  IsSlotAt (Parted p) = (get_elem? homes l ≡ some none) × ((u : View) × (get_elem? views k ≡ some u) × (u ≡ pass_view u.table config l p))

  -- the seat that owns the word's session lists the latch
  abbrev pub IsOut : View → Hold → Type 0
  IsOut v h = (get_elem? views (owner (slice_index words l)) ≡ some v) × IsSession v.role × In h v.held × (h.latch ≡ l) × IsSlotAt h.mark

  -- the word is 0 and the slot is at home, or the word is a session that holds the latch
  abbrev pub IsSoundLatch : Type 0
  IsSoundLatch = ((slice_index words l ≡ 0) × ((y : SlotValue C) × (u : View) × IsAtHome y u)) ⊎ ((slice_index words l ≢ 0)
      × ((v : View) × (h : Hold) × IsOut v h))

-- a live seat has the session
abbrev pub HasOwner : List View → (ℕ → ℕ) → ℕ → Type 0
HasOwner views owner i = (v : View) × ((get_elem? views (owner i) ≡ some v) × Owns v.role i)

-- ---- the machine behind the table

-- the session in each latch's word, and 0 past the journal's latch
abbrev pub holders : ℕ → List ℕ → ℕ → ℕ
holders end words l = if nat_le l end then slice_index words l else 0

-- the words as holders, each latch's cells after the history, and the history
abbrev pub machine_at : TableConfig → List ℕ → List Entry → Machine
machine_at config words H = record {
  holder = holders config.end words;
  content = λ l. restricted_to config.world.decls (contents_after config.world H) l;
  history = H;
}

-- ---- the whole table

-- the words are those of the latches and, last, the clock; the slots are those of the latches
pub record KeepsRule {C : Type 0} (config : TableConfig) (good : List Entry → ℕ → kept.Kept C → Type 0) (s : State (Option (SlotValue C)) View) : Type 0 where
  pub history : List Entry
  pub owner : ℕ → ℕ
  pub keeper : ℕ → ℕ
  pub name : TableName
  pub journal : config.end ≡ latch_count config.world.decls
  pub wide : length s.words ≡ config.end + 2
  pub deep : length s.homes ≡ config.end + 1
  pub clock : slice_index s.words (config.end + 1) ≡ length history
  pub law : IsLawful config history
  pub run : Reached config.world (machine_at config s.words history)
  pub each_view : (id : ℕ) (v : View) → get_elem? s.views id ≡ some v → IsLive v.role → IsSoundView config history owner keeper s.words name id v
  pub owned : (i : ℕ) → 0 < i → i ≤ config.sessions → HasOwner s.views owner i
  pub each_latch : (l : ℕ) → l ≤ config.end → IsSoundLatch good config owner (keeper l) s.words s.homes s.views l
  pub alone : (id : ℕ) (v : View) → get_elem? s.views id ≡ some v → v.fresh ≡ true → (j : ℕ) (u : View) → get_elem? s.views j ≡ some u → j ≡ id

-- ---- what a latch guards after a history

module _ {C : Type 0} (content : C → Contents) (sound : Decls → ℕ → C → Type 0) (config : TableConfig) where
  -- a fiber's store is sound and has the cells of its latch; the journal is the history, with room for all that may come
  abbrev pub Good : List Entry → ℕ → kept.Kept C → Type 0
  Good p l (Fiber c) = (l < config.end) × sound config.world.decls l c × (content c ≡ restricted_to config.world.decls (contents_after config.world p) l)
  Good p l (Journal j) = (l ≡ config.end) × (j.entries ≡ p) × (config.sessions * config.calls ≤ length p + j.spare)

-- the same, of any table's terms, as clauses pass it on
abbrev pub GoodAt : {C : Type 0} → (C → Contents) → (Decls → ℕ → C → Type 0) → TableConfig → List Entry → ℕ → kept.Kept C → Type 0
GoodAt content sound config = Good content sound config
