-- What a closed table's slots hold, and what is made of them.
use Rattle.std.specs.Prelude.{◌≡◌, ℕ, ◌<◌, List, length, slice_index_or, Option, Some}
use mathlib.Core.Option.{some}
use lib.ListN.{get_elem?}
use Rattle.dt_model.specs.JournalValue.{JournalValue}
use Rattle.fiber_latch.specs.declared.rule.Kept as kept
use Rattle.fiber_latch.specs.declared.rule.Kept.TheVariants.{Fiber, Journal}
use Rattle.fiber_latch.specs.declared.rule.SlotValue.{SlotValue}

-- slot l holds this value, and some pass beside it
abbrev pub HasValue : {C : Type 0} → List (Option (SlotValue C)) → ℕ → kept.Kept C → Type 0
HasValue {C} slots l y = (z : SlotValue C) × (get_elem? slots l ≡ some (Some z)) × (z.kept ≡ y)

-- each slot below end holds a store, and the slot at end the journal
pub record HasAll {C : Type 0} (end : ℕ) (slots : List (Option (SlotValue C))) : Type 0 where
  pub fibers : (l : ℕ) → l < end → (c : C) × HasValue slots l (Fiber c)
  pub journal : (j : JournalValue) × HasValue slots end (Journal j)

-- the stores are those that the first slots hold, in their order
pub record AreFromSlots {C : Type 0} (n : ℕ) (slots : List (Option (SlotValue C))) (stores : List C) : Type 0 where
  pub count : length stores ≡ n
  pub each : (l : ℕ) (d : C) → l < n → HasValue slots l (Fiber (slice_index_or stores l d))
