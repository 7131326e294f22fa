-- A step whose effect on the machine is known is one that the table allows.
use Rattle.std.proofs.Common.{ℕ, List, Option}
use Rattle.atomic_table.specs.Table.{Me, Allows, Splits, Joins}
use Rattle.commit_core.specs.Machine.{Machine}
use Rattle.dt_model.specs.declared.calls.Entry.{Entry}
use Rattle.fiber_latch.specs.declared.view.TableConfig.{TableConfig}
use Rattle.fiber_latch.specs.declared.view.View.{View}
use Rattle.fiber_latch.specs.declared.rule.Kept as kept
use Rattle.fiber_latch.specs.declared.rule.SlotValue.{SlotValue}
use Rattle.fiber_latch.specs.Rule.{KeepsRule}
use Rattle.fiber_latch.specs.Kinds.{Steps, Cuts, Merges}

module _ {C : Type 0} (good : List Entry → ℕ → kept.Kept C → Type 0) (config : TableConfig) where
  -- the table allows a step at a word whose effect is known
  pub allows : {slots id i : ℕ} {me : Me (Option (SlotValue C)) View} {f : ℕ → ℕ} {then : ℕ → Me (Option (SlotValue C)) View → Type 0} {does : ℕ → Machine
      → Machine → View → Type 0}
      → Steps good config slots id me i f then does → Allows (KeepsRule config good) slots id me i f then
  allows h s r deep at small = let x = h.goes s r deep at small in (x.0, x.1, x.2, x.3, x.4)

  -- the table allows a cut of a view whose effect is known
  pub splits : {id : ℕ} {v left right : View} → Cuts good config id v left right → Splits (KeepsRule config good) id v left right
  splits h s r at = (h s r at).0

  -- the table allows a merge of two views whose effect is known
  pub joins : {id other : ℕ} {v u both spent : View} → Merges good config id v other u both spent → Joins (KeepsRule config good) id v other u both spent
  joins h s r at apart there = (h s r at apart there).0
