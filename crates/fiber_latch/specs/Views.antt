-- What a seat at the table knows: its role, the latches that it lists, and the entries that it has seen.
use Rattle.std.specs.Prelude.{◌≡◌, ◌⊎◌, ℕ, ◌<◌, ◌≤◌, List, [], ◌∷◌, ◌++◌, false, None, IsTrue}
use Rattle.atomic_table.specs.Seated.{TableId}
use Rattle.dt_model.specs.declared.calls.Entry.{Entry}
use Rattle.dt_model.specs.Latches.{needs}
use Rattle.dt_model.specs.Runs.{IsLegal}
use Rattle.fiber_latch.specs.declared.view.Mark.{Mark}
use Rattle.fiber_latch.specs.declared.view.Mark.TheVariants.{Opened, Taken, Kept, Parted}
use Rattle.fiber_latch.specs.declared.view.Hold.{Hold}
use Rattle.fiber_latch.specs.declared.view.Role.{Role}
use Rattle.fiber_latch.specs.declared.view.Role.TheVariants.{Spent, Pass, Sessions}
use Rattle.fiber_latch.specs.declared.view.TableConfig.{TableConfig}
use Rattle.fiber_latch.specs.declared.view.View.{View}
use Rattle.fiber_latch.specs.declared.view.TableName.{TableName}

-- ---- names of tables

-- the table of this name
abbrev pub id_of : TableName → TableId
id_of t = record { words = t.words; slots = t.slots; views_name = t.views_name; atom = t.atom; block = t.block; offset = t.offset; slot_names = t.slot_names }

-- the name of a table
abbrev pub name_of : TableId → TableName
name_of t = record { words = t.words; slots = t.slots; views_name = t.views_name; atom = t.atom; block = t.block; offset = t.offset; slot_names = t.slot_names }

-- the name of no table, before a seat has learned which it is
abbrev pub no_name : TableName
no_name = record { words = 0; slots = 0; views_name = 0; atom = 0; block = 0; offset = 0; slot_names = [] }

-- ---- lists

-- the value is an element of the list
abbrev pub In : {A : Type 0} → A → List A → Type 0
In a [] = ⊥
In a (x ∷ xs) = (a ≡ x) ⊎ In a xs

-- the latch is above each of the list, of whose elements `latch` gives the latch
abbrev pub IsAboveAll : {A : Type 0} → (A → ℕ) → ℕ → List A → Type 0
IsAboveAll latch l xs = (x : _) → In x xs → latch x < l

-- H is seen with some entries behind it, of each of which P holds
abbrev pub Extends : (Entry → Type 0) → List Entry → List Entry → Type 0
Extends P seen H = (past : List Entry) × (H ≡ seen ++ past) × ((e : Entry) → In e past → P e)

-- ---- entries

-- a commit of the entry needs the latch: its call does, or it is the journal's
abbrev pub Touches : TableConfig → ℕ → Entry → Type 0
Touches x l e = (l ≡ x.end) ⊎ IsTrue (needs x.world.decls e.call l)

-- a history that the table allows
abbrev pub IsLawful : TableConfig → List Entry → Type 0
IsLawful x H = IsLegal x.world.decls x.sessions x.calls H

-- the entry is of no session that `owns` has, and touches no latch that `has` has
pub record IsUnrelated (config : TableConfig) (owns has : ℕ → Type 0) (e : Entry) : Type 0 where
  pub session : ¬ owns e.turn.session
  pub latch : (l : ℕ) → has l → ¬ Touches config l e

-- ---- roles and marks

-- the session is the seat's
abbrev pub Owns : Role → ℕ → Type 0
Owns Spent s = ⊥
Owns (Pass w) s = ⊥
Owns (Sessions f t) s = (f ≤ s) × (s ≤ t)

-- the view is of a seat of sessions
abbrev pub IsSession : Role → Type 0
IsSession Spent = ⊥
IsSession (Pass w) = ⊥
IsSession (Sessions f t) = Unit {0}

-- the view is of a seat or a pass that was not joined into another
abbrev pub IsLive : Role → Type 0
IsLive Spent = ⊥
IsLive (Pass w) = Unit {0}
IsLive (Sessions f t) = Unit {0}

-- the seat keeps a latch with this mark
abbrev pub IsKeptMark : Mark → Type 0
IsKeptMark Opened = Unit {0}
IsKeptMark Taken = ⊥
IsKeptMark Kept = Unit {0}
IsKeptMark (Parted p) = ⊥

-- the seat has seen all that touches a latch with this mark
abbrev pub IsKnownMark : Mark → Type 0
IsKnownMark Opened = Unit {0}
IsKnownMark Taken = ⊥
IsKnownMark Kept = Unit {0}
IsKnownMark (Parted p) = Unit {0}

-- a pass marks its own latch; a seat of sessions marks those that it lists so
abbrev pub HasMark : (Mark → Type 0) → Role → List Hold → ℕ → Type 0
HasMark K Spent hs l = ⊥
HasMark K (Pass w) hs l = w ≡ l
HasMark K (Sessions f t) hs l = (h : Hold) × In h hs × (h.latch ≡ l) × K h.mark

-- the seat or the pass keeps the latch
abbrev pub Keeps : View → ℕ → Type 0
Keeps v l = HasMark IsKeptMark v.role v.held l

-- the seat or the pass has seen all that touches the latch
abbrev pub Knows : View → ℕ → Type 0
Knows v l = HasMark IsKnownMark v.role v.held l

-- the greatest latch comes first
abbrev pub IsDescending : List Hold → Type 0
IsDescending [] = Unit {0}
IsDescending (h ∷ hs) = IsAboveAll (λ (g : Hold). g.latch) h.latch hs × IsDescending hs

-- latch l for session s, with mark m
abbrev pub hold : ℕ → ℕ → Mark → Hold
hold l s m = record { latch = l; session = s; mark = m }

-- ---- views

-- the terms of no table
abbrev pub no_config : TableConfig
no_config = record { world = record { decls = record { schemas = []; tensors = [] }; base = []; scripts = [] }; end = 0; sessions = 0; calls = 0 }

-- the pass of a latch
abbrev pub pass_view : TableName → TableConfig → ℕ → List Entry → View
pass_view z config l p = record { role = Pass l; config = config; fresh = false; seen = p; held = []; conflicts = []; last_join = None; table = z }

-- what is left of a view that was joined into another
abbrev pub spent_view : View
spent_view = record { role = Spent; config = no_config; fresh = false; seen = []; held = []; conflicts = []; last_join = None; table = no_name }
