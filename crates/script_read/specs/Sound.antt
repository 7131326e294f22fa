-- What holds of the items of a manifest that is read, and of the verdicts of a script that is read.
use Rattle.std.specs.Prelude.{ℕ, ◌≡◌, ◌≤◌, ◌^◌, true, false, List, [], ◌∷◌, length, sum_by, ◌&&◌, nat_lt, nat_le}
use Rattle.std.specs.List.{list_all}
use Rattle.dt_model.specs.declared.declared_tensors.Decls.{Decls}
use Rattle.dt_model.specs.declared.limits.TheConstants.{MOST_ORDER, MOST_TENSOR_LATCHES, MOST_CALLS}
use Rattle.dt_model.specs.declared.replies.Verdict.{Verdict}
use Rattle.dt_model.specs.Names.{is_name}
use Rattle.dt_model.specs.Worlds.{updates_in, verdict_is_valid}
use Rattle.script_read.specs.declared.declarations.Declared.{Declared}
use Rattle.script_read.specs.declared.item_lines.ItemLine.{ItemLine}
use Rattle.script_read.specs.declared.item_lines.ItemLine.TheVariants.{Whole, OutOfRange}
use Rattle.script_read.specs.declared.items.Item.{Item}
use Rattle.script_read.specs.declared.items.Item.TheVariants.{Schema, Tensor, Load, Session, Print}
use Rattle.script_read.specs.Manifests.{declared_with, is_declared, is_within_limits}

-- ---- manifests

-- a tensor's name, 1 to 5 dimensions from 1 to 2^32 - 1, a format for each, and 1 to 256 latches
pub record IsSoundTensor (name dims : List ℕ) (formats : List (List ℕ)) (latches : ℕ) : Type 0 where
  pub is_named : is_name name ≡ true
  pub low_order : 1 ≤ length dims
  pub high_order : length dims ≤ MOST_ORDER
  pub in_range : list_all (λ n. nat_le 1 n && nat_lt n (2 ^ 32)) dims ≡ true
  pub as_many : length formats ≡ length dims
  pub low_latches : 1 ≤ latches
  pub high_latches : latches ≤ MOST_TENSOR_LATCHES

-- the tensor of a line is sound, if it is a tensor's line whose numbers are in range
abbrev pub IsSoundLine : ItemLine → Type 0
IsSoundLine (Whole (Tensor name dims formats latches)) = IsSoundTensor name dims formats.items latches
IsSoundLine (Whole (Schema file)) = Unit {0}
IsSoundLine (Whole (Load name file)) = Unit {0}
IsSoundLine (Whole (Session file)) = Unit {0}
IsSoundLine (Whole (Print name)) = Unit {0}
IsSoundLine (OutOfRange name) = Unit {0}

-- a new tensor before each session
pub record IsNewTensor (d : Declared) (name : List ℕ) : Type 0 where
  pub fresh : is_declared d name ≡ false
  pub early : d.sessions ≡ 0

-- a load for a declared tensor before each session
pub record IsLoad (d : Declared) (name : List ℕ) : Type 0 where
  pub declared : is_declared d name ≡ true
  pub early : d.sessions ≡ 0

-- what an item may ask for, after what earlier items declare
abbrev pub MayAsk : Declared → Item → Type 0
MayAsk d (Tensor name dims formats latches) = IsSoundTensor name dims formats.items latches × IsNewTensor d name
MayAsk d (Load name file) = IsLoad d name
MayAsk d (Session file) = Unit {0}
MayAsk d (Print name) = is_declared d name ≡ true
MayAsk d (Schema file) = d.sessions ≡ 0

-- an item that may be asked for, and keeps the limits
pub record IsSoundItem (d : Declared) (item : Item) : Type 0 where
  pub asked : MayAsk d item
  pub limits : is_within_limits (declared_with d item) ≡ true

-- items, each sound after what the earlier ones declare
abbrev pub AreSound : Declared → List (ℕ × Item) → Type 0
AreSound d [] = Unit {0}
AreSound d (p ∷ ps) = IsSoundItem d p.1 × AreSound (declared_with d p.1) ps

-- ---- scripts

-- valid verdicts, at most 65,536, with at most so many updates in all
pub record IsSoundScript (d : Decls) (most : ℕ) (verdicts : List Verdict) : Type 0 where
  pub calls : length verdicts ≤ MOST_CALLS
  pub updates : sum_by updates_in verdicts ≤ most
  pub valid : list_all (verdict_is_valid d) verdicts ≡ true
