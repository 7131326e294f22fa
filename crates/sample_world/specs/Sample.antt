-- The sample of a number n: a world of one tensor with n loaded lines and four sessions, and the contents once it was run.
use Rattle.std.specs.Prelude.{ℕ, ◌+◌, ◌-◌, ◌*◌, ◌/◌, ◌%◌, zero, suc, List, [], ◌∷◌, map, codes}
use Rattle.std.specs.List.{flat_map, range_with_len}
use Rattle.dt_model.specs.declared.calls.Call.TheVariants.{Batch}
use Rattle.dt_model.specs.declared.calls.Update.{Update}
use Rattle.dt_model.specs.declared.calls.Update.TheVariants.{Add}
use Rattle.dt_model.specs.declared.declared_tensors.Decls.{Decls}
use Rattle.dt_model.specs.declared.declared_tensors.TensorDecl.{TensorDecl}
use Rattle.dt_model.specs.declared.replies.Verdict.{Verdict}
use Rattle.dt_model.specs.declared.replies.Verdict.TheVariants.{Accepted}
use Rattle.dt_model.specs.declared.replies.World.{World}
use Rattle.dt_model.specs.Contents.{Contents, with_updates}
use Rattle.dt_model.specs.Flat.{flat_schema}
use Rattle.dt_model.specs.Runs.{base_of}
use Rattle.sample_world.specs.declared.sizes.TheConstants.{GENERATOR_PRIME, SAMPLE_ROWS, SAMPLE_COLUMNS, SAMPLE_LATCHES, SAMPLE_SESSIONS}

-- ---- cells

-- what the generator gives after x
abbrev pub next_number : ℕ → ℕ
next_number x = (75 * x + 74) % GENERATOR_PRIME

-- the k-th number of the generator, which begins with 0
unfoldable pub generated : ℕ → ℕ
generated zero = 0
generated (suc k) = next_number (generated k)

-- the coordinates of the cell that a number stands for
abbrev pub place_of : ℕ → List ℕ
place_of x = x % SAMPLE_ROWS ∷ x / SAMPLE_ROWS ∷ []

-- the coordinates of the k-th cell
abbrev pub place_at : ℕ → List ℕ
place_at k = place_of (generated k)

-- ---- the world

-- the tensor S of 1,000 by 66, flat, with 8 latches
abbrev pub sample_tensor : TensorDecl
sample_tensor = record { name = codes "S"; dims = SAMPLE_ROWS ∷ SAMPLE_COLUMNS ∷ []; formats = record { items = 0 ∷ 0 ∷ [] }; latches = SAMPLE_LATCHES }

-- the declarations: the schema `flat`, and the tensor
unfoldable pub sample_decls : Decls
sample_decls = record { schemas = flat_schema ∷ []; tensors = sample_tensor ∷ [] }

-- loaded line k is the k-th cell with the value k
abbrev pub sample_line : ℕ → List ℕ × ℕ
sample_line k = (place_at k, k)

-- the loaded lines: line 1 to line n
abbrev pub sample_lines : ℕ → List (List ℕ × ℕ)
sample_lines n = map sample_line (range_with_len 1 n)

-- how many calls a session has
abbrev pub calls_each : ℕ → ℕ
calls_each n = n / SAMPLE_SESSIONS

-- call j of session s adds s to a cell: the calls take the cells behind those of the lines, session after session
abbrev pub sample_add : ℕ → ℕ → ℕ → Update
sample_add n s j = Add (record { tensor = 0; at = place_at (n + (s - 1) * calls_each n + j) }) s

-- the adds of a session
abbrev pub adds_of : ℕ → ℕ → List Update
adds_of n s = map (sample_add n s) (range_with_len 1 (calls_each n))

-- line j of its script: the batch of the add alone
abbrev pub sample_call : ℕ → ℕ → ℕ → Verdict
sample_call n s j = Accepted (Batch (sample_add n s j ∷ []))

-- a session's script: a line for each of its adds
abbrev pub sample_script : ℕ → ℕ → List Verdict
sample_script n s = map (sample_call n s) (range_with_len 1 (calls_each n))

-- the world: the tensor with the lines, and the scripts of sessions 1 to 4
unfoldable pub sample_world : ℕ → World
sample_world n = record { decls = sample_decls; base = sample_lines n ∷ []; scripts = map (sample_script n) (range_with_len 1 SAMPLE_SESSIONS) }

-- ---- the contents

-- the adds of all sessions, one session after the other
abbrev pub sample_adds : ℕ → List Update
sample_adds n = flat_map (adds_of n) (range_with_len 1 SAMPLE_SESSIONS)

-- the contents once every call was made: the loaded lines, and then the adds
unfoldable pub sample_contents : ℕ → Contents
sample_contents n = with_updates (base_of (sample_world n)) (sample_adds n)
