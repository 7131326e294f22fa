-- What the schemas of a manifest's files add.
use Rattle.std.proofs.Common.{◌≡◌, ℕ, ◌<◌, true, List, [], ◌∷◌, length, ap, ◌∙◌, arith, subst, Option, Some, None, Result, Ok, Err, not}
use Rattle.std.specs.Prelude.{nat_lt, nat_le}
use Rattle.std.specs.List.{list_all}
use Rattle.std.proofs.lemmas.Bool.Decides.{nat_tests}
use Rattle.dt_model.specs.declared.declared_tensors.Schema.{Schema}
use Rattle.dt_model.specs.declared.limits.TheConstants.{MOST_SCHEMAS}
use Rattle.dt_model.proofs.Booleans.{both_true}
use Rattle.tns_io.specs.declared.faults.FileCause.TheVariants as because
use Rattle.tns_io.specs.Faults.{fault_at}
use Rattle.schema_read.specs.declared.read.SchemaFault.{SchemaFault}
use Rattle.schema_read.specs.Reading.{schemas_in}
use Rattle.schema_read.specs.Readings.{Reads}
use Rattle.schema_read.proofs.Answering.{are_small-read}
use Rattle.schema_read.proofs.Telling.{schemas_in-reads}
use Rattle.schema_check.specs.Breaches.{culprits, first_breach, unless_breached, checked}
use Rattle.schema_check.specs.declared.breaches.Breach.{Breach}
use Rattle.script_read.specs.declared.declarations.Declared.{Declared}
use Rattle.script_read.specs.Readings.{◌>>=◌, check}
use Rattle.script_read.proofs.ReadingsLemmas.{check-Ok, Ok-same, Err-Ok}
use Rattle.dyntensor.specs.declared.faults.Cause.TheVariants as the
use Rattle.dyntensor.specs.declared.faults.Fault.{Fault}
use Rattle.dyntensor.specs.Files.{Files, fault_in, text_in, schema_fault_in, schemas_located, schemas_of}
use Rattle.dyntensor.specs.Workload.{Gathered, is_schema, with_schema, ruled, taken, all_taken}
use Rattle.dyntensor.specs.Gathering.{IsGatheredFrom}
use Rattle.dyntensor.proofs.Bindings.{bind-Ok}
use Rattle.dyntensor.proofs.DeclaredLemmas.{has_few_kinds}
use Rattle.dyntensor.proofs.GatheringLemmas.{IsGatheredFrom-schema}

-- a schema that is taken is the one that was read
ruled-Ok : (manifest : List ℕ) (line : ℕ) (s sound : Schema) (o : Option Breach) → ruled manifest line (unless_breached o s) ≡ Ok sound → s ≡ sound
ruled-Ok manifest line s sound None h = Ok-same {E = Fault} s sound h
ruled-Ok manifest line s sound (Some b) h = absurd (Err-Ok (record { file = manifest; line = line; cause = the.Breach b }) sound h)

fewer : (n m : ℕ) → nat_lt n m ≡ true → n < m
fewer n m h = grind (arith, nat_tests)

-- what was gathered with a schema that is taken
IsGatheredFrom-one : (d : Declared) (manifest : List ℕ) (line : ℕ) (g : Gathered) (s : Schema) (new : Gathered) → IsGatheredFrom d g → d.sessions ≡ 0
    → has_few_kinds s ≡ true → taken manifest line g s ≡ Ok new → IsGatheredFrom d new
IsGatheredFrom-one d manifest line g s new h early small e =
    let a = check-Ok (not (is_schema g s.name)) (fault_in manifest (fault_at line because.Twice))
    (λ _. check (nat_lt (length g.schemas) MOST_SCHEMAS) (fault_in manifest (fault_at line because.Limit)) >>= (λ _.
    ruled manifest line (checked s) >>= (λ sound. Ok (with_schema g sound)))) new e in
    let b = check-Ok (nat_lt (length g.schemas) MOST_SCHEMAS) (fault_in manifest (fault_at line because.Limit))
    (λ _. ruled manifest line (checked s) >>= (λ sound. Ok (with_schema g sound))) new a.1 in
    let c = bind-Ok (ruled manifest line (checked s)) (λ sound. Ok (with_schema g sound)) new b.1 in
    let same : s ≡ c.0 = ruled-Ok manifest line s c.0 (first_breach 1 (culprits s)) c.1 in
    subst (IsGatheredFrom d) (ap (with_schema g) same ∙ Ok-same {E = Fault} (with_schema g c.0) new c.2)
    (IsGatheredFrom-schema d g s h early (fewer (length g.schemas) MOST_SCHEMAS b.0) small)

-- what was gathered with the schemas of a file
pub IsGatheredFrom-taken : (d : Declared) (manifest : List ℕ) (line : ℕ) (g : Gathered) (schemas : List Schema) (new : Gathered) → IsGatheredFrom d g
    → d.sessions ≡ 0 → list_all has_few_kinds schemas ≡ true → all_taken manifest line g schemas ≡ Ok new → IsGatheredFrom d new
IsGatheredFrom-taken d manifest line g [] new h early small e = subst (IsGatheredFrom d) (Ok-same {E = Fault} g new e) h
IsGatheredFrom-taken d manifest line g (s ∷ schemas) new h early small e =
    let both = both_true (has_few_kinds s) (list_all has_few_kinds schemas) small in
    let a = bind-Ok (taken manifest line g s) (λ more. all_taken manifest line more schemas) new e in
    IsGatheredFrom-taken d manifest line a.0 schemas new (IsGatheredFrom-one d manifest line g s a.0 h early both.0 a.1) early both.1 a.2

-- schemas that were read of a located text
schemas_located-Ok : (file : List ℕ) (r : Result (List Schema) SchemaFault) (schemas : List Schema) → schemas_located file r ≡ Ok schemas → r ≡ Ok schemas
schemas_located-Ok file (Ok ss) schemas h = ap Ok (Ok-same {E = Fault} ss schemas h)
schemas_located-Ok file (Err fault) schemas h = absurd (Err-Ok (schema_fault_in file fault) schemas h)

-- the schemas of a file have few kinds
pub schemas_of-small : (files : Files) (file : List ℕ) (schemas : List Schema) → schemas_of files file ≡ Ok schemas → list_all has_few_kinds schemas ≡ true
schemas_of-small files file schemas e =
    let a = bind-Ok (text_in files file) (λ text. schemas_located file (schemas_in text)) schemas e in
    let reads : Reads a.0 (Ok schemas) = subst (Reads a.0) (schemas_located-Ok file (schemas_in a.0) schemas a.2) (schemas_in-reads a.0) in
    (both_true (nat_le (length schemas) MOST_SCHEMAS) (list_all has_few_kinds schemas) (are_small-read a.0 schemas reads)).1
