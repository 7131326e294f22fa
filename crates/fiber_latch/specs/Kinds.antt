-- What each kind of step does to the machine behind the table, and which conflict its seat notes. No public clause cites this module.
use Rattle.std.specs.Prelude.{◌≡◌, ◌≢◌, ℕ, ◌<◌, List, [], ◌∷◌, ◌++◌, length, slice_index, slice_set, Option}
use mathlib.Core.Option.{some}
use lib.ListN.{get_elem?}
use Rattle.atomic_table.specs.Table.{State, Me, Act, Valid, stepped, carried_after}
use Rattle.commit_core.specs.Machine.{Machine, CanTake, CanCommit, CanGive, taken, committed, given}
use Rattle.dt_model.specs.declared.calls.Entry.{Entry}
use Rattle.dt_model.specs.declared.declared_tensors.Decls.{Decls}
use Rattle.fiber_latch.specs.declared.view.TableConfig.{TableConfig}
use Rattle.fiber_latch.specs.declared.view.View.{View}
use Rattle.fiber_latch.specs.declared.rule.Kept as kept
use Rattle.fiber_latch.specs.declared.rule.SlotValue.{SlotValue}
use Rattle.fiber_latch.specs.Rule.{machine_at, KeepsRule}

-- ---- what a step does to the machine

-- session s takes latch l, which the machine allows
pub record MachineTakes (d : Decls) (old new : Machine) (s l : ℕ) : Type 0 where
  pub can : CanTake d old s l
  pub after : new ≡ taken old s l

-- the entry is committed, which the machine allows
pub record MachineCommits (d : Decls) (old new : Machine) (e : Entry) : Type 0 where
  pub can : CanCommit d old e
  pub after : new ≡ committed d old e

-- session s gives latch l back, which the machine allows
pub record MachineGives (old new : Machine) (s l : ℕ) : Type 0 where
  pub can : CanGive old s l
  pub after : new ≡ given old l

-- ---- what each kind does: n is the number found, v and w are the seat's views before and after

-- a try: where it found 0, the machine takes the latch and no conflict is noted; else the machine stays, n holds the
-- latch in it, and the seat notes this latch with n and nothing else
pub record TryDoes (d : Decls) (s l : ℕ) (v : View) (n : ℕ) (old new : Machine) (w : View) : Type 0 where
  pub takes : n ≡ 0 → MachineTakes d old new s l × (w.conflicts ≡ v.conflicts)
  pub finds : n ≢ 0 → (new ≡ old) × (old.holder l ≡ n) × (w.conflicts ≡ v.conflicts ++ (l, n) ∷ [])

-- a commit: the machine commits the entry, and no conflict is noted
pub record CommitDoes (d : Decls) (e : Entry) (v : View) (n : ℕ) (old new : Machine) (w : View) : Type 0 where
  pub commits : MachineCommits d old new e
  pub conflicts : w.conflicts ≡ v.conflicts

-- a give: the machine gives latch l back for session s, and no conflict is noted
pub record GiveDoes (s l : ℕ) (v : View) (n : ℕ) (old new : Machine) (w : View) : Type 0 where
  pub gives : MachineGives old new s l
  pub conflicts : w.conflicts ≡ v.conflicts

-- every other step at a word: the machine stays, and no conflict is noted
pub record NothingDone (v : View) (n : ℕ) (old new : Machine) (w : View) : Type 0 where
  pub machine : new ≡ old
  pub conflicts : w.conflicts ≡ v.conflicts

-- ---- from any table that keeps the rule to the table after the step

module _ {C : Type 0} (good : List Entry → ℕ → kept.Kept C → Type 0) (config : TableConfig) where
  -- the machine of a table that keeps the rule: its words as holders, and its history
  abbrev pub machine_of : (s : State (Option (SlotValue C)) View) → KeepsRule config good s → Machine
  machine_of s r = machine_at config s.words r.history

  -- whatever the table is, when word i becomes f of what it was: the table after the seat's step keeps the rule, the
  -- caller gets `then`, and `does` is true of the number
  -- that was found, the machines of the tables before and after, and the seat's view after
  pub record Steps (slots id : ℕ) (me : Me (Option (SlotValue C)) View) (i : ℕ) (f : ℕ → ℕ) (then : ℕ → Me (Option (SlotValue C)) View → Type 0) (does : ℕ
      → Machine → Machine → View → Type 0) : Type 0 where
    pub goes : (s : State (Option (SlotValue C)) View) (r : KeepsRule config good s) → length s.homes ≡ slots → get_elem? s.views id ≡ some me.0
        → slice_index s.words i < 18446744073709551616
        → (w : View) × (a : Act (Option (SlotValue C))) × (valid : Valid s.homes me.1 a)
        × (after : KeepsRule config good (stepped s i (f (slice_index s.words i)) id me.1 w a))
        × (told : then (slice_index s.words i) (w, carried_after me.1 a))
        × does (slice_index s.words i) (machine_of s r) (machine_of (stepped s i (f (slice_index s.words i)) id me.1 w a) after) w

  -- whatever the table is, when the view of seat id is cut in two: the table after keeps the rule, and the machine stays
  abbrev pub Cuts : ℕ → View → View → View → Type 0
  Cuts id v left right = (s : State (Option (SlotValue C)) View) (r : KeepsRule config good s) → get_elem? s.views id ≡ some v
      → (after : KeepsRule config good record { words = s.words; homes = s.homes; views = slice_set s.views id left ++ right ∷ [] })
      × (machine_of record { words = s.words; homes = s.homes; views = slice_set s.views id left ++ right ∷ [] } after ≡ machine_of s r)

  -- whatever the table is, when seat id takes in the view of seat `other`: the table after keeps the rule, and the machine stays
  abbrev pub Merges : ℕ → View → ℕ → View → View → View → Type 0
  Merges id v other u both spent = (s : State (Option (SlotValue C)) View) (r : KeepsRule config good s) → get_elem? s.views id ≡ some v → ¬ (other ≡ id)
      → get_elem? (slice_set s.views id both) other ≡ some u
      → (after : KeepsRule config good record { words = s.words; homes = s.homes; views = slice_set (slice_set s.views id both) other spent })
      × (machine_of record { words = s.words; homes = s.homes; views = slice_set (slice_set s.views id both) other spent } after ≡ machine_of s r)
