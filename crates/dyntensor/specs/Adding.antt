-- Items that are added one after the other, and why that stops. No public clause cites this module.
use Rattle.std.specs.Prelude.{ℕ, ◌≡◌, List, ◌∷◌, ◌++◌, Option, Some, Ok, Err, IfSome, ⊤}
use Rattle.dt_outside.specs.Faults.{ShelfState}
use Rattle.script_read.specs.declared.declarations.Declared.{Declared}
use Rattle.script_read.specs.declared.items.Item.{Item}
use Rattle.script_read.specs.Sound.{AreSound}
use Rattle.dyntensor.specs.declared.stops.Stop.{Stop}
use Rattle.dyntensor.specs.declared.stops.Stop.TheVariants.{Refused, Unfetched, NoMemory}
use Rattle.dyntensor.specs.Gathering.{IsGatheredFrom}
use Rattle.dyntensor.specs.Reached.{file_of}
use Rattle.dyntensor.specs.Readings.{HasFailed}
use Rattle.dyntensor.specs.Workload.{Files, Gathered, with_items}

-- items that may be added one after the other
pub record CanAddAll (g : Gathered) (items : List (ℕ × Item)) : Type 0 where
  pub declared : Declared
  pub gathered : IsGatheredFrom declared g
  pub sound : AreSound declared items

-- the items up to those behind were added
pub record IsAdded (o : Option Files) (manifest : List ℕ) (g : Gathered) (items : List (ℕ × Item)) (new : Gathered)
    (behind : List (ℕ × Item)) : Type 0 where
  pub here : List (ℕ × Item)
  pub split : items ≡ here ++ behind
  pub added : IfSome o (λ files. with_items files manifest g here ≡ Ok new)
  pub can : CanAddAll new behind

-- the file of one of the items, where those before it have no fault
pub record IsNext (files : Files) (manifest : List ℕ) (g : Gathered) (items : List (ℕ × Item)) (file : List ℕ) : Type 0 where
  pub before : List (ℕ × Item)
  pub item : ℕ × Item
  pub behind : List (ℕ × Item)
  pub split : items ≡ before ++ item ∷ behind
  pub named : file_of item.1 ≡ Some file
  pub gathered : Gathered
  pub sound : with_items files manifest g before ≡ Ok gathered

-- why an adding of items stops
abbrev pub IsItemsStop : ShelfState → ShelfState → List ℕ → Gathered → List (ℕ × Item) → Stop → Type 0
IsItemsStop old new manifest g items (Refused fault) = IfSome old.files (λ files. with_items files manifest g items ≡ Err fault)
IsItemsStop old new manifest g items (Unfetched file) = HasFailed old new file × IfSome old.files (λ files. IsNext files manifest g items file)
IsItemsStop old new manifest g items NoMemory = ⊤
