-- The files that a run has to fetch.
use Rattle.std.specs.Prelude.{ℕ, ◌≡◌, List, ◌∷◌, ◌++◌, Option, Some, None, Ok, ◌⊎◌}
use Rattle.script_read.specs.declared.items.Item.{Item}
use Rattle.script_read.specs.declared.items.Item.TheVariants.{Schema, Tensor, Load, Session, Print}
use Rattle.dyntensor.specs.Workload.{Files, Gathered, nothing, with_items, items_in}

-- the file that an item names
abbrev pub file_of : Item → Option (List ℕ)
file_of (Schema file) = Some file
file_of (Tensor name dims formats latches) = None
file_of (Load name file) = Some file
file_of (Session file) = Some file
file_of (Print name) = None

-- the file of an item of the manifest, where the items before it have no fault
pub record IsFetched (files : Files) (manifest file : List ℕ) : Type 0 where
  pub before : List (ℕ × Item)
  pub item : ℕ × Item
  pub behind : List (ℕ × Item)
  pub items : items_in files manifest ≡ Ok (before ++ item ∷ behind)
  pub named : file_of item.1 ≡ Some file
  pub gathered : Gathered
  pub sound : with_items files manifest nothing before ≡ Ok gathered

-- a file that a run has to fetch: the manifest, or that of one of its items
abbrev pub IsReached : Files → List ℕ → List ℕ → Type 0
IsReached files manifest file = (file ≡ manifest) ⊎ IsFetched files manifest file
