-- What a manifest asks for: a world, and the tensors that are printed after its run; or the first fault of a file.
use Rattle.std.specs.Prelude.{ℕ, ◌+◌, ◌-◌, Bool, List, [], ◌∷◌, ◌++◌, map, length, sum_by, slice_index_or, slice_set, Result, Ok, Err, nat_le, nat_lt, nat_eq, not}
use Rattle.std.specs.List.{list_all, list_any}
use Rattle.std.specs.Cmp.Lexicographic.{pointwise}
use Rattle.dt_model.specs.declared.declared_tensors.Decls.{Decls}
use Rattle.dt_model.specs.declared.declared_tensors.Schema.{Schema}
use Rattle.dt_model.specs.declared.declared_tensors.TensorDecl.{TensorDecl}
use Rattle.dt_model.specs.declared.limits.TheConstants.{FILE_LIMIT, MOST_LINES, MOST_SCHEMAS}
use Rattle.dt_model.specs.declared.replies.Verdict.{Verdict}
use Rattle.dt_model.specs.declared.replies.World.{World}
use Rattle.dt_model.specs.Flat.{flat_name, flat_schema}
use Rattle.dt_model.specs.Tensors.{dims_of}
use Rattle.dt_model.specs.Verdicts.{tensor_number}
use Rattle.dt_model.specs.Worlds.{updates_in}
use Rattle.tns_io.specs.declared.faults.FileCause.TheVariants as because
use Rattle.tns_io.specs.Faults.{fault_at}
use Rattle.tns_io.specs.Tns.{tns_of}
use Rattle.script_read.specs.declared.items.Item.{Item}
use Rattle.script_read.specs.declared.items.Item.TheVariants as a
use Rattle.script_read.specs.Readings.{◌>>=◌, check, equals_text}
use Rattle.script_read.specs.Manifests.{manifest_of}
use Rattle.script_read.specs.Scripts.{script_of}
use Rattle.schema_check.specs.Breaches.{checked}
use Rattle.schema_check.specs.declared.breaches.Breach.{Breach}
use Rattle.dyntensor.specs.declared.faults.Cause.TheVariants as the
use Rattle.dyntensor.specs.declared.faults.Fault.{Fault}
pub use Rattle.dyntensor.specs.Files.{Files, fault_in, located, too_large, text_in, schemas_of}

-- ---- what the items of a manifest bring

-- the schemas that were read, the tensors, the loaded lines of each, the scripts with the count of their bytes, and the
-- numbers of the tensors to print
pub record Gathered : Type 0 where
  pub schemas : List Schema
  pub tensors : List TensorDecl
  pub base : List (List (List ℕ × ℕ))
  pub scripts : List (List Verdict)
  pub script_bytes : ℕ
  pub printed : List ℕ

-- nothing
abbrev pub nothing : Gathered
nothing = record { schemas = []; tensors = []; base = []; scripts = []; script_bytes = 0; printed = [] }

-- the declarations: the schema `flat` and those that were read, and the tensors
abbrev pub decls_of : Gathered → Decls
decls_of g = record { schemas = flat_schema ∷ g.schemas; tensors = g.tensors }

-- how many lines tensors have together
abbrev pub lines_in : List (List (List ℕ × ℕ)) → ℕ
lines_in base = sum_by length base

-- how many updates the accepted calls of scripts have together
abbrev pub updates_of : List (List Verdict) → ℕ
updates_of scripts = sum_by (λ script. sum_by updates_in script) scripts

-- how many loaded lines and accepted updates there may still be
abbrev pub lines_left : Gathered → ℕ
lines_left g = MOST_LINES - (lines_in g.base + updates_of g.scripts)

-- a schema more
abbrev pub with_schema : Gathered → Schema → Gathered
with_schema g s = record g { schemas = g.schemas ++ s ∷ [] }

-- a tensor more, without lines; all its modes have schema number 0
abbrev pub with_tensor : Gathered → List ℕ → List ℕ → ℕ → Gathered
with_tensor g name dims latches = record g {
  tensors = g.tensors ++ record { name = name; dims = dims; formats = record { items = map (λ d. 0) dims }; latches = latches } ∷ [];
  base = g.base ++ [] ∷ [];
}

-- lines more of tensor t, behind those that it has
abbrev pub with_lines : Gathered → ℕ → List (List ℕ × ℕ) → Gathered
with_lines g t lines = record g { base = slice_set g.base t (slice_index_or g.base t [] ++ lines) }

-- a script more, from a text of this length
abbrev pub with_script : Gathered → ℕ → List Verdict → Gathered
with_script g bytes script = record g { scripts = g.scripts ++ script ∷ []; script_bytes = g.script_bytes + bytes }

-- a tensor more to print
abbrev pub with_print : Gathered → ℕ → Gathered
with_print g t = record g { printed = g.printed ++ t ∷ [] }

-- ---- the items of a manifest in turn

-- whether a schema's name is `flat`
abbrev pub is_flat : List ℕ → Bool
is_flat name = equals_text flat_name name

-- whether a schema has this name: `flat`, or one that was read
abbrev pub is_schema : Gathered → List ℕ → Bool
is_schema g name = list_any (λ s. pointwise nat_eq s.name name) (flat_schema ∷ g.schemas)

-- a schema that keeps the rules, or the fault of a line that it breaks one
abbrev pub ruled : List ℕ → ℕ → Result Schema Breach → Result Schema Fault
ruled manifest line (Ok s) = Ok s
ruled manifest line (Err b) = Err (record { file = manifest; line = line; cause = the.Breach b })

-- what a schema of a line's file adds: its name is new, it is one of the first 16, and it keeps the rules
abbrev pub taken : List ℕ → ℕ → Gathered → Schema → Result Gathered Fault
taken manifest line g s =
    check (not (is_schema g s.name)) (fault_in manifest (fault_at line because.Twice)) >>= (λ _.
    check (nat_lt (length g.schemas) MOST_SCHEMAS) (fault_in manifest (fault_at line because.Limit)) >>= (λ _.
    ruled manifest line (checked s) >>= (λ sound. Ok (with_schema g sound))))

-- what the schemas of a line's file add one after the other
abbrev pub all_taken : List ℕ → ℕ → Gathered → List Schema → Result Gathered Fault
all_taken manifest line g [] = Ok g
all_taken manifest line g (s ∷ schemas) = taken manifest line g s >>= (λ more. all_taken manifest line more schemas)

-- what a `schema` line adds: the schemas of its file
abbrev pub with_schemas : Files → List ℕ → Gathered → ℕ → List ℕ → Result Gathered Fault
with_schemas files manifest g line file = schemas_of files file >>= (λ schemas. all_taken manifest line g schemas)

-- what a `tensor` line adds, where each of its schemas is one, and all are flat; others aren't built
abbrev pub declared_tensor : List ℕ → Gathered → ℕ → List ℕ → List ℕ → List (List ℕ) → ℕ → Result Gathered Fault
declared_tensor manifest g line name dims formats latches =
    check (list_all (is_schema g) formats) (fault_in manifest (fault_at line because.Name)) >>= (λ _.
    check (list_all is_flat formats) (fault_in manifest (fault_at line because.NotBuilt)) >>= (λ _.
    Ok (with_tensor g name dims latches)))

-- what a `load` line adds: the lines of its file
abbrev pub loaded : Files → Gathered → List ℕ → List ℕ → Result Gathered Fault
loaded files g name file = let t = tensor_number (decls_of g) name in
    text_in files file >>= (λ text.
    located file (tns_of (dims_of (decls_of g) t) (lines_left g) text) >>= (λ lines.
    Ok (with_lines g t lines)))

-- what a script of this file and text adds: its verdicts, where all scripts so far are no longer than the limit
abbrev pub with_text : Gathered → List ℕ → List ℕ → Result Gathered Fault
with_text g file text =
    check (nat_le (g.script_bytes + length text) FILE_LIMIT) (too_large file) >>= (λ _.
    located file (script_of (decls_of g) (lines_left g) text) >>= (λ script.
    Ok (with_script g (length text) script)))

-- what a `session` line adds: the script of its file
abbrev pub with_session : Files → Gathered → List ℕ → Result Gathered Fault
with_session files g file = text_in files file >>= (λ text. with_text g file text)

-- what an item at a line of the manifest adds, or its fault
abbrev pub with_item : Files → List ℕ → Gathered → ℕ → Item → Result Gathered Fault
with_item files manifest g line (a.Schema file) = with_schemas files manifest g line file
with_item files manifest g line (a.Tensor name dims formats latches) = declared_tensor manifest g line name dims formats.items latches
with_item files manifest g line (a.Load name file) = loaded files g name file
with_item files manifest g line (a.Session file) = with_session files g file
with_item files manifest g line (a.Print name) = Ok (with_print g (tensor_number (decls_of g) name))

-- what the items add one after the other, or the first fault
abbrev pub with_items : Files → List ℕ → Gathered → List (ℕ × Item) → Result Gathered Fault
with_items files manifest g [] = Ok g
with_items files manifest g (item ∷ items) = with_item files manifest g item.0 item.1 >>= (λ more. with_items files manifest more items)

-- ---- the workload

-- a world, and the numbers of the tensors that are printed after its run
pub record Work : Type 0 where
  pub world : World
  pub printed : List ℕ

-- the work that was gathered
abbrev pub work_of : Gathered → Work
work_of g = record { world = record { decls = decls_of g; base = g.base; scripts = g.scripts }; printed = g.printed }

-- the items of a manifest
abbrev pub items_in : Files → List ℕ → Result (List (ℕ × Item)) Fault
items_in files manifest = text_in files manifest >>= (λ text. located manifest (manifest_of text))

-- what a manifest asks for, or the first fault: those of its lines first, then its files in the order of its lines
abbrev pub workload : Files → List ℕ → Result Work Fault
workload files manifest = items_in files manifest >>= (λ items. with_items files manifest nothing items >>= (λ g. Ok (work_of g)))
