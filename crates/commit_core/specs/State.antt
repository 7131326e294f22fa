-- What contracts see of a core, and the progress that it stands for.
use Rattle.std.specs.Prelude.{ℕ, List, slice_index, false, Option, slice_get, option_and_then}
use Rattle.std.specs.List.{slice_index_or}
use Rattle.dt_model.specs.declared.calls.Turn.{Turn}
use Rattle.dt_model.specs.declared.calls.Entry.{Entry}
use Rattle.dt_model.specs.declared.declared_tensors.Decls.{Decls}
use Rattle.dt_model.specs.Runs.{restricted_to}
use Rattle.dt_model.specs.declared.replies.World.{World}
use Rattle.dt_model.specs.Contents.{Contents}
use Rattle.commit_core.specs.declared.events.Position.{Position}
use Rattle.commit_core.specs.Cells.{Cells, contents_of}
use Rattle.commit_core.specs.Machine.{Machine}
use Rattle.commit_core.specs.Events.{Progress}

-- the World; by latch the session that holds it; by session where it stands, from place 1 on; by tensor its cells; the
-- entries; per entry the number that it read; the turns that quit
pub record CoreState : Type 0 where
  pub world : World
  pub holders : List ℕ
  pub positions : List Position
  pub tensors : List Cells
  pub entries : List Entry
  pub replies : List (Option ℕ)
  pub lost : List Turn

-- the content of latch l: what the cells of all tensors say of the cells of that latch
abbrev pub content_in : Decls → List Cells → ℕ → Contents
content_in d tensors l = restricted_to d (contents_of tensors) l

-- a session that has no call
abbrev pub no_position : Position
no_position = record { number = 0; committed = false }

-- where session s stands
abbrev pub position_in : List Position → ℕ → Position
position_in positions s = slice_index_or positions s no_position

-- the latch machine that a core stands for
abbrev pub machine_of : CoreState → Machine
machine_of c = record { holder = λ l. slice_index c.holders l; content = content_in c.world.decls c.tensors; history = c.entries }

-- the progress that a core stands for
abbrev pub progress_of : CoreState → Progress
progress_of c = record { machine = machine_of c; position = position_in c.positions; lost = c.lost; replies = c.replies }

-- what the entry at a place read, if there is one and it is a get
abbrev pub reply_in : List (Option ℕ) → ℕ → Option ℕ
reply_in replies place = option_and_then (λ r. r) (slice_get replies place)
