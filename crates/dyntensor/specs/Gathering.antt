-- What is known of what was gathered from a manifest's items, whatever the files have. No public clause cites this module.
use Rattle.std.specs.Prelude.{ℕ, ◌≡◌, ◌<◌, ◌+◌, ◌&&◌, Bool, List, map, length, All, nat_le, sum_by}
use Rattle.dt_model.specs.declared.limits.TheConstants.{FILE_LIMIT}
use Rattle.dt_model.specs.declared.replies.Verdict.{Verdict}
use Rattle.dt_model.specs.declared.replies.World.{World}
use Rattle.dt_model.specs.Tensors.{total_latches}
use Rattle.dt_model.specs.Worlds.{IsValid, updates_in}
use Rattle.script_read.specs.declared.declarations.Declared.{Declared}
use Rattle.script_read.specs.declared.items.Item.{Item}
use Rattle.script_read.specs.Sound.{IsSoundItem}
use Rattle.dyntensor.specs.Workload.{Gathered, lines_left, work_of}

-- a valid world, and tensors of it to print
pub record IsRunnable (w : World) (printed : List ℕ) : Type 0 where
  pub valid : IsValid w
  pub are_declared : All (λ t. t < length w.decls.tensors) printed

-- it was gathered from items that declare this
pub record IsGatheredFrom (d : Declared) (g : Gathered) : Type 0 where
  pub names : map (λ t. t.name) g.tensors ≡ d.tensors
  pub sessions : length g.scripts ≡ d.sessions
  pub latches : total_latches g.tensors ≡ d.latches
  pub runnable : IsRunnable (work_of g).world g.printed

-- an item that may be added to what was gathered
pub record CanAdd (g : Gathered) (item : Item) : Type 0 where
  pub declared : Declared
  pub gathered : IsGatheredFrom declared g
  pub sound : IsSoundItem declared item

-- whether a script of so many bytes may be added: all scripts are within their limit, and the updates within theirs
abbrev pub has_room : Gathered → ℕ → List Verdict → Bool
has_room g bytes script = nat_le (g.script_bytes + bytes) FILE_LIMIT && nat_le (sum_by updates_in script) (lines_left g)
