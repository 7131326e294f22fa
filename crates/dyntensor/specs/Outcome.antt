-- How a run of the program ends: with which status and text, and why.
use Rattle.std.specs.Prelude.{ℕ, ◌≡◌, ◌≤◌, List, length, take, Option, Some, None, Ok, Err, IfSome, IsSomeAnd, ◌⊎◌, codes}
use Rattle.dt_model.specs.Report.{history, PrintsRun}
use Rattle.dt_outside.specs.Faults.{ShelfState, HasRisen, IsAppended}
use Rattle.fiber_latch.specs.declared.closing.Closed.{Closed}
use Rattle.fiber_store.specs.Stores.{StoreState}
use Rattle.dyntensor.specs.declared.outcomes.Outcome.{Outcome}
use Rattle.dyntensor.specs.declared.outcomes.Outcome.TheVariants.{Report, Usage, Breaches, Refused, Unfetched, OutOfMemory}
use Rattle.dyntensor.specs.FaultTexts.{refused_text, shelf_text}
use Rattle.dyntensor.specs.Leaving.{IsLeftBy}
use Rattle.dyntensor.specs.Reached.{IsReached}
use Rattle.dyntensor.specs.Workload.{Work, workload}

-- the status of an outcome
abbrev pub status_of : Outcome → ℕ
status_of (Report text) = 0
status_of Usage = 1
status_of (Breaches text) = 2
status_of (Refused fault) = 2
status_of (Unfetched file) = 3
status_of OutOfMemory = 5

-- the text that is due
abbrev pub due_text : Outcome → List ℕ
due_text (Report text) = text.items
due_text Usage = codes "usage: dyntensor run MANIFEST | check SCHEMAS | sample N\n"
due_text (Breaches text) = text.items
due_text (Refused fault) = refused_text fault
due_text (Unfetched file) = shelf_text file
due_text OutOfMemory = codes "no memory\n"

-- a report: it is what a run of some work prints, and where the files are exposed, of the workload; the table is left with the
-- history in it
pub record IsReport (old : ShelfState) (manifest : List ℕ) (end : Option (Closed StoreState)) (text : List ℕ) : Type 0 where
  pub work : Work
  pub asked : IfSome old.files (λ files. workload files manifest ≡ Ok work)
  pub printed : PrintsRun work.world work.printed text
  pub left : IsSomeAnd end (IsLeftBy work.world (history work.world text))

-- a file that the shelf failed to give: its count rose in the run, and it blames this file, which the run had to fetch
pub record IsUnfetched (old new : ShelfState) (manifest file : List ℕ) : Type 0 where
  pub rose : HasRisen old.faults new.faults
  pub blamed : new.blamed ≡ file
  pub reached : IfSome old.files (λ files. IsReached files manifest file)

-- the cause of an outcome, where the words name a manifest, by the shelf before and after the run and what is left of the table,
-- which is nothing but at a report
abbrev pub HasCauseIn : List ℕ → ShelfState → ShelfState → Option (Closed StoreState) → Outcome → Type 0
HasCauseIn manifest old new end (Report text) = IsReport old manifest end text.items
HasCauseIn manifest old new end Usage = ⊥
HasCauseIn manifest old new end (Breaches text) = ⊥
HasCauseIn manifest old new end (Refused fault) = (end ≡ None) × IfSome old.files (λ files. workload files manifest ≡ Err fault)
HasCauseIn manifest old new end (Unfetched file) = (end ≡ None) × IsUnfetched old new manifest file
HasCauseIn manifest old new end OutOfMemory = end ≡ None

-- the cause of an outcome, by the manifest that the words name, if they do, by the shelf, and by what is left of the table
abbrev pub HasCause : Option (List ℕ) → ShelfState → ShelfState → Option (Closed StoreState) → Outcome → Type 0
HasCause None old new end outcome = (outcome ≡ Usage) × (end ≡ None)
HasCause (Some manifest) old new end outcome = HasCauseIn manifest old new end outcome

-- a part of the text, from its beginning on, was written
pub record IsBegun (old : Option (List ℕ)) (text : List ℕ) (new : Option (List ℕ)) : Type 0 where
  pub count : ℕ
  pub within : count ≤ length text
  pub written : IsAppended old (take count text) new

-- a text was written: the whole, and its status answered; or the sink's count rose, a part was written, and the status is 4
abbrev pub IsWritten : ℕ → List ℕ → ℕ → Option (List ℕ) → Option (List ℕ) → ℕ → ℕ → Type 0
IsWritten due text status old new before after =
    ((status ≡ due) × IsAppended old text new × (after ≡ before))
    ⊎ ((status ≡ 4) × IsBegun old text new × HasRisen before after)

-- how a call of the program ended: with an outcome that has its cause, by what the sink has and its count of faults, both before
-- and after
pub record Ends (Cause : Outcome → Type 0) (status : ℕ) (old new : Option (List ℕ)) (before after : ℕ) : Type 0 where
  pub outcome : Outcome
  pub cause : Cause outcome
  pub printed : IsWritten (status_of outcome) (due_text outcome) status old new before after
