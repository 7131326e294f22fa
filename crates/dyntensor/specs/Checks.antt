-- What `check` prints of a file of schemas, and why it ends otherwise.
use Rattle.std.specs.Prelude.{ℕ, ◌≡◌, Bool, true, false, List, [], ◌∷◌, map, Option, Some, None, Result, Ok, Err, IfSome, MatchResult, ◌⊎◌, is_ok, codes, if◌then◌else◌}
use Rattle.std.specs.List.{list_all}
use Rattle.dt_model.specs.declared.declared_tensors.Schema.{Schema}
use Rattle.dt_model.specs.Texts.{text_of}
use Rattle.dt_outside.specs.Faults.{ShelfState, HasRisen}
use Rattle.schema_check.specs.Breaches.{checked}
use Rattle.schema_check.specs.declared.breaches.Breach.{Breach}
use Rattle.dyntensor.specs.declared.outcomes.Outcome.{Outcome}
use Rattle.dyntensor.specs.declared.outcomes.Outcome.TheVariants.{Report, Usage, Breaches, Refused, Unfetched, OutOfMemory}
use Rattle.dyntensor.specs.FaultTexts.{breach_words}
use Rattle.dyntensor.specs.Files.{Files, schemas_of}

-- ---- the text

-- the words behind a schema's name
abbrev pub check_words : Result Schema Breach → List (List ℕ)
check_words (Ok s) = codes "ok" ∷ []
check_words (Err b) = breach_words b

-- the row of a schema: `NAME ok`, or `NAME breach RULE KIND`
abbrev pub check_row : Schema → List (List ℕ)
check_row s = s.name ∷ check_words (checked s)

-- a row for each schema
abbrev pub check_text : List Schema → List ℕ
check_text schemas = text_of (map check_row schemas)

-- whether each schema keeps the rules
abbrev pub all_keep : List Schema → Bool
all_keep schemas = list_all (λ s. is_ok (checked s)) schemas

-- the bytes are the rows of the file's schemas, which all keep the rules
pub record PrintsChecks (files : Files) (file bytes : List ℕ) : Type 0 where
  pub schemas : List Schema
  pub asked : schemas_of files file ≡ Ok schemas
  pub kept : all_keep schemas ≡ true
  pub printed : bytes ≡ check_text schemas

-- ---- the cause of an outcome

-- the rows of some schemas, which all keep the rules or don't; where the files are exposed, those of the file
pub record IsCheck (old : ShelfState) (file text : List ℕ) (kept : Bool) : Type 0 where
  pub schemas : List Schema
  pub asked : IfSome old.files (λ files. schemas_of files file ≡ Ok schemas)
  pub verdict : all_keep schemas ≡ kept
  pub printed : text ≡ check_text schemas

-- the shelf failed to give the file: its count rose in the call, and it blames this file
pub record IsUngiven (old new : ShelfState) (file name : List ℕ) : Type 0 where
  pub rose : HasRisen old.faults new.faults
  pub blamed : new.blamed ≡ name
  pub same : name ≡ file

-- the cause of an outcome, where the words name a file, by the shelf before and after the call
abbrev pub HasCheckCauseIn : List ℕ → ShelfState → ShelfState → Outcome → Type 0
HasCheckCauseIn file old new (Report text) = IsCheck old file text.items true
HasCheckCauseIn file old new Usage = ⊥
HasCheckCauseIn file old new (Breaches text) = IsCheck old file text.items false
HasCheckCauseIn file old new (Refused fault) = IfSome old.files (λ files. schemas_of files file ≡ Err fault)
HasCheckCauseIn file old new (Unfetched name) = IsUngiven old new file name
HasCheckCauseIn file old new OutOfMemory = Unit {0}

-- the cause of an outcome, by the file that the words name, if they do, and by the shelf
abbrev pub HasCheckCause : Option (List ℕ) → ShelfState → ShelfState → Outcome → Type 0
HasCheckCause None old new outcome = outcome ≡ Usage
HasCheckCause (Some file) old new outcome = HasCheckCauseIn file old new outcome

-- ---- which checks end how

-- the file's schemas are checked, and a file with a fault is refused; or the call is out of memory
abbrev pub CompletesCheck : Files → List ℕ → ℕ → Type 0
CompletesCheck files file status = MatchResult (schemas_of files file)
    (λ schemas. (status ≡ (if all_keep schemas then 0 else 2)) ⊎ (status ≡ 5)) (λ fault. (status ≡ 2) ⊎ (status ≡ 5))
