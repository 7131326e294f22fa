-- What each kind of atomic step does to the seat that makes it, and tells it.
use Rattle.std.specs.Prelude.{drop, ◌≡◌, ◌≢◌, ℕ, ◌-◌, ◌≤◌, ◌==◌, List, [], ◌∷◌, ◌++◌, Bool, true, false, Option, Some, None}
use Rattle.atomic_table.specs.Table.{Me, Step, rest}
use Rattle.dt_model.specs.declared.calls.Call.TheVariants.{Get}
use Rattle.dt_model.specs.declared.calls.Entry.{Entry}
use Rattle.fiber_latch.specs.declared.view.Mark.{Mark}
use Rattle.fiber_latch.specs.declared.view.Mark.TheVariants.{Opened, Taken, Kept, Parted}
use Rattle.fiber_latch.specs.declared.view.Hold.{Hold}
use Rattle.fiber_latch.specs.declared.view.Role.{Role}
use Rattle.fiber_latch.specs.declared.view.Role.TheVariants.{Spent, Pass, Sessions}
use Rattle.fiber_latch.specs.declared.view.TableConfig.{TableConfig}
use Rattle.fiber_latch.specs.declared.view.View.{View}
use Rattle.fiber_latch.specs.declared.view.TableName.{TableName}
use Rattle.fiber_latch.specs.declared.rule.Kept as kept
use Rattle.fiber_latch.specs.declared.rule.SlotValue.{SlotValue}
use Rattle.fiber_latch.specs.Views.{id_of, Owns, IsLawful, hold, pass_view}
use Rattle.fiber_latch.specs.Rule.{IsLastJoin}

-- ---- take and give

-- the latch is listed, before all others
abbrev pub listed : View → ℕ → ℕ → Mark → List Hold → View
listed v l s m hs = record v { held = hold l s m ∷ hs }

-- a try gives the slot's value and its pass where it found 0; else it found a session of the table's, none of the seat's own, and notes it
abbrev pub TriesLatch : {C : Type 0} → (TableConfig → List Entry → ℕ → kept.Kept C → Type 0) → Step (Option (SlotValue C)) → Me (Option (SlotValue C)) View
    → ℕ → Me (Option (SlotValue C)) View → Type 0
TriesLatch {C} good st me n me' =
    (n ≡ 0 → (y : SlotValue C) × (u : View) × ((me' ≡ (listed me.0 st.word st.second Taken me.0.held, (st.word, Some y) ∷ me.1)) × (y.pass.views ≡ u ∷ [])
    × (y.pass.table_id ≡ id_of me.0.table) × (u.role ≡ Pass st.word) × good me.0.config u.seen st.word y.kept))
    × (n ≢ 0 → (me' ≡ (record me.0 { conflicts = me.0.conflicts ++ (st.word, n) ∷ [] }, me.1)) × (¬ Owns me.0.role n) × (n ≤ me.0.config.sessions))

-- the latch that was taken last
abbrev pub head_hold : List Hold → Hold
head_hold [] = hold 0 0 Opened
head_hold (h ∷ hs) = h

-- the session for which the latch that was taken last is held
abbrev pub top_session : View → ℕ
top_session v = (head_hold v.held).session

-- the latch that was taken last is listed no more
abbrev pub ReturnsLatch : {C : Type 0} → Step (Option (SlotValue C)) → Me (Option (SlotValue C)) View → ℕ → Me (Option (SlotValue C)) View → Type 0
ReturnsLatch st me n me' = me' ≡ (record me.0 { held = drop 1 me.0.held }, rest me.1)

-- ---- meet, part and look

-- the longer of two beginnings of one history
abbrev pub longer : List Entry → List Entry → List Entry
longer [] b = b
longer (x ∷ xs) [] = x ∷ xs
longer (x ∷ xs) (y ∷ ys) = x ∷ longer xs ys

-- the latch that was taken last gets this mark
abbrev pub mark_top : Mark → List Hold → List Hold
mark_top m [] = []
mark_top m (h ∷ hs) = hold h.latch h.session m ∷ hs

-- the seat takes in the pass of the latch that it took last
abbrev pub with_pass : View → View → View
with_pass v u = record v {
  held = mark_top Kept v.held;
  seen = longer v.seen u.seen;
  last_join = Some
      (record { mine = v.seen; was = v.role; theirs = u.seen; other = u.role });
}

-- a look at any word tells what the last join met, and that what was seen is legal
abbrev pub ReadsWord : {C : Type 0} → Step (Option (SlotValue C)) → Me (Option (SlotValue C)) View → ℕ → Me (Option (SlotValue C)) View → Type 0
ReadsWord st me n me' = (me' ≡ (record me.0 { last_join = None }, me.1)) × (IsLastJoin me.0.config me.0 me.0.last_join × IsLawful me.0.config me.0.seen)

-- nothing is left to be told of the last join
abbrev pub without_join : View → View
without_join v = record v { last_join = None }

-- the number of the latch that was taken last
abbrev pub top_latch : List Hold → ℕ
top_latch [] = 0
top_latch (h ∷ hs) = h.latch

-- the seat parts with the latch that it took last, and its new pass has what the seat has seen
abbrev pub without_pass : View → View
without_pass v = record v { held = mark_top (Parted v.seen) v.held }

-- the pass that a seat parts with: of the latch that was taken last, with what the seat has seen
abbrev pub top_pass : View → View
top_pass v = pass_view v.table v.config (top_latch v.held) v.seen

-- ---- commit

-- one entry more is seen
abbrev pub AddsEntry : {C : Type 0} → Entry → Step (Option (SlotValue C)) → Me (Option (SlotValue C)) View → ℕ → Me (Option (SlotValue C)) View → Type 0
AddsEntry e st me n me' = me' ≡ (record me.0 { seen = me.0.seen ++ e ∷ [] }, me.1)

-- an entry that is asked for nowhere, to stand where none is picked
abbrev pub no_entry : Entry
no_entry = record { turn = record { session = 0; number = 0 }; call = Get (record { tensor = 0; at = [] }) }

-- ---- seats of sessions are cut and joined

-- the sessions below a
abbrev pub low_part : ℕ → Role → Role
low_part a Spent = Spent
low_part a (Pass w) = Pass w
low_part a (Sessions f t) = Sessions f (a - 1)

-- the sessions from a on
abbrev pub high_part : ℕ → Role → Role
high_part a Spent = Spent
high_part a (Pass w) = Pass w
high_part a (Sessions f t) = Sessions a t

-- the sessions from a on go to a new seat
abbrev pub lower_view : ℕ → View → View
lower_view a v = record v { role = low_part a v.role }

-- the new seat has them, has seen the same, and holds nothing
abbrev pub upper_view : ℕ → View → View
upper_view a v = record v { role = high_part a v.role; held = []; conflicts = []; last_join = None }

-- the sessions of both, where the second follow the first
abbrev pub joined_role : Role → Role → Role
joined_role (Sessions f t) (Sessions g u) = Sessions f u
joined_role r q = r

-- the seat of the sessions that follow is taken in
abbrev pub joined_view : View → View → View
joined_view v u = record v {
  role = joined_role v.role u.role;
  seen = longer v.seen u.seen;
  conflicts = v.conflicts
      ++ u.conflicts;
  last_join = Some (record { mine = v.seen; was = v.role; theirs = u.seen; other = u.role });
}

-- ---- opening

-- the latch is kept, where this is true
abbrev pub keep_if : Bool → Hold → Hold
keep_if true h = hold h.latch h.session Kept
keep_if false h = h

-- latch l is kept, and each other latch has the mark it had
abbrev pub keep_at : ℕ → List Hold → List Hold
keep_at l [] = []
keep_at l (h ∷ hs) = keep_if (h.latch == l) h ∷ keep_at l hs

-- the empty slot of a latch that was opened comes into the seat's hand
abbrev pub OpensSlot : {C : Type 0} → Step (Option (SlotValue C)) → Me (Option (SlotValue C)) View → ℕ → Me (Option (SlotValue C)) View → Type 0
OpensSlot st me n me' = me' ≡ (record me.0 { held = keep_at st.word me.0.held }, (st.word, None) ∷ me.1)

-- the first seat learns which table it is
abbrev pub LearnsTable : {C : Type 0} → TableName → Step (Option (SlotValue C)) → Me (Option (SlotValue C)) View → ℕ → Me (Option (SlotValue C)) View → Type 0
LearnsTable z st me n me' = me' ≡ (record me.0 { fresh = false; table = z }, me.1)
