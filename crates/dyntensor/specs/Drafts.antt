-- Scripts that are fetched and read before they are added. No public clause cites this module.
use Rattle.std.specs.Prelude.{ℕ, ◌≡◌, ◌≤◌, ◌&&◌, Bool, true, false, List, [], ◌∷◌, map, length, All, Option, Some, None, Result, Ok, IfSome}
use Rattle.dt_model.specs.declared.declared_tensors.Decls.{Decls}
use Rattle.dt_model.specs.declared.limits.TheConstants.{FILE_LIMIT, MOST_LINES}
use Rattle.dt_outside.specs.Faults.{ShelfState}
use Rattle.script_read.specs.declared.items.Item.{Item}
use Rattle.script_read.specs.declared.items.Item.TheVariants.{Session}
use Rattle.script_read.specs.Readings.{◌>>=◌}
use Rattle.script_read.specs.Scripts.{script_of}
use Rattle.dyntensor.specs.declared.drafts.Draft.{Draft}
use Rattle.dyntensor.specs.declared.drafts.Fetched.{Fetched}
use Rattle.dyntensor.specs.declared.faults.Fault.{Fault}
use Rattle.dyntensor.specs.declared.stops.Stop.{Stop}
use Rattle.dyntensor.specs.Adding.{CanAddAll}
use Rattle.dyntensor.specs.Readings.{HoldsOf, IsQuiet, IsFileStop}
use Rattle.dyntensor.specs.Workload.{Files, Gathered, text_in, with_text}

-- ---- sessions that follow one another

-- whether an item is a session
abbrev pub is_session : Item → Bool
is_session (Session file) = true
is_session item = false

-- whether items begin with two sessions
abbrev pub is_run : List (ℕ × Item) → Bool
is_run [] = false
is_run (first ∷ []) = false
is_run (first ∷ second ∷ items) = is_session first.1 && is_session second.1

-- ---- one draft

-- its text is no longer than a file may be
abbrev pub IsShort : Draft → Type 0
IsShort draft = length draft.text.items ≤ FILE_LIMIT

-- its verdicts, if it has any, are those of its text, where no more updates may be accepted than in a workload
abbrev pub IsRead : Decls → Draft → Type 0
IsRead d draft = IfSome draft.read (λ script. (most : ℕ) × (most ≤ MOST_LINES) × (script_of d most draft.text.items ≡ Ok script))

-- its text was read
pub record Reads (d : Decls) (old new : Draft) : Type 0 where
  pub file : new.file ≡ old.file
  pub text : new.text.items ≡ old.text.items
  pub read : IsRead d new

-- ---- drafts in turn

-- what drafts add one after the other, or the first fault
abbrev pub with_drafts : Gathered → List Draft → Result Gathered Fault
with_drafts g [] = Ok g
with_drafts g (draft ∷ drafts) = with_text g draft.file draft.text.items >>= (λ more. with_drafts more drafts)

-- the items of drafts may be added
abbrev pub CanAddDrafts : Gathered → List Draft → Type 0
CanAddDrafts g drafts = CanAddAll g (map (λ draft. (0, Session draft.file)) drafts)

-- ---- what is fetched

-- drafts are of the sessions that items begin with, and have their texts; and the items behind
abbrev pub AreTexts : Option Files → List (ℕ × Item) → List Draft → List (ℕ × Item) → Type 0
AreTexts o items [] behind = items ≡ behind
AreTexts o items (draft ∷ drafts) behind = (line : ℕ) × (rest : List (ℕ × Item)) × (items ≡ (line, Session draft.file) ∷ rest)
    × HoldsOf o (λ files. text_in files draft.file ≡ Ok draft.text.items) × AreTexts o rest drafts behind

-- a fetch stopped for the script of the first of these items
pub record IsStopped (old new : ShelfState) (items : List (ℕ × Item)) (stop : Stop) : Type 0 where
  pub line : ℕ
  pub file : List ℕ
  pub behind : List (ℕ × Item)
  pub first : items ≡ (line, Session file) ∷ behind
  pub fails : IsFileStop old new (Some file) (λ files. text_in files file) stop

-- all fetches were quiet, or the last one stopped for the first of these items
abbrev pub HasEnded : ShelfState → ShelfState → List (ℕ × Item) → Option Stop → Type 0
HasEnded old new items None = IsQuiet old new
HasEnded old new items (Some stop) = (mid : ShelfState) × IsQuiet old mid × IsStopped mid new items stop

-- the scripts of sessions that items begin with were fetched
pub record Fetches (old new : ShelfState) (items : List (ℕ × Item)) (fetched : Fetched) : Type 0 where
  pub behind : List (ℕ × Item)
  pub texts : AreTexts old.files items fetched.drafts.items behind
  pub short : All IsShort fetched.drafts.items
  pub ended : HasEnded old new behind fetched.stop
