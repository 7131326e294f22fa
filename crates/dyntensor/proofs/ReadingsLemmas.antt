-- Readings of files that go on, and that stop.
use Rattle.std.proofs.Common.{inl, true, false, arith, ◌≡◌, ℕ, ◌<◌, ◌≤◌, List, [], length, refl, ap, sym, ◌∙◌, subst, Option, Some, None, Result, Ok, Err}
use Rattle.std.specs.Prelude.{IfSome, nat_le}
use Rattle.std.proofs.lemmas.Bool.Decides.{nat_tests}
use Rattle.dt_model.specs.declared.limits.TheConstants.{FILE_LIMIT}
use Rattle.dt_outside.specs.Faults.{ShelfState, HasRisen}
use Rattle.script_read.specs.declared.declarations.Declared.{Declared}
use Rattle.script_read.specs.declared.items.Item.{Item}
use Rattle.script_read.specs.Readings.{◌>>=◌, check}
use Rattle.script_read.specs.Manifests.{declared_with}
use Rattle.script_read.specs.Sound.{IsSoundItem}
use Rattle.dyntensor.specs.declared.faults.Fault.{Fault}
use Rattle.dyntensor.specs.declared.stops.Stop.{Stop}
use Rattle.dyntensor.specs.declared.stops.Stop.TheVariants.{Refused, Unfetched, NoMemory}
use Rattle.dyntensor.specs.Reached.{IsReached}
use Rattle.dyntensor.specs.Workload.{Files, too_large, text_in, Gathered, Work, nothing, work_of, with_item, with_items, items_in, workload}
use Rattle.dyntensor.specs.Readings.{IsFaultStop, HoldsOf, IsQuiet, HasFailed, IsFileStop, IsStop}
use Rattle.dyntensor.specs.Gathering.{IsGatheredFrom}
use Rattle.dyntensor.proofs.Bindings.{bind-of, bind-Err}
use Rattle.dyntensor.proofs.WorkloadLemmas.{IsGatheredFrom-item}

-- ---- files

-- what follows for all files follows for these
pub HoldsOf-map : (o : Option Files) (P Q : Files → Type 0) → ((files : Files) → P files → Q files) → HoldsOf o P → HoldsOf o Q
HoldsOf-map None P Q f h = (h.0, f h.0 h.1)
HoldsOf-map (Some files) P Q f h = f files h

-- what is said of no files follows
pub HoldsOf-any : (o : Option Files) (P : Files → Type 0) (Q : Type 0) → ((files : Files) → P files → Q) → HoldsOf o P → Q
HoldsOf-any None P Q f h = f h.0 h.1
HoldsOf-any (Some files) P Q f h = f files h

-- what holds of all files holds of these
pub HoldsOf-always : (o : Option Files) (P : Files → Type 0) → ((files : Files) → P files) → HoldsOf o P
HoldsOf-always None P f = (λ name. [], f (λ name. []))
HoldsOf-always (Some files) P f = f files

-- the same files, as they were before
pub HoldsOf-at : (o p : Option Files) → o ≡ p → (P : Files → Type 0) → HoldsOf o P → HoldsOf p P
HoldsOf-at o p e P h = subst (λ q. HoldsOf q P) e h

-- what holds of exposed files, and what follows
pub IfSome-map : (o : Option Files) (P Q : Files → Type 0) → ((files : Files) → P files → Q files) → IfSome o P → IfSome o Q
IfSome-map None P Q f h = tt
IfSome-map (Some files) P Q f h = f files h

-- what holds of the files holds where they are exposed
pub IfSome-HoldsOf : (o : Option Files) (P : Files → Type 0) → HoldsOf o P → IfSome o P
IfSome-HoldsOf None P h = tt
IfSome-HoldsOf (Some files) P h = h

-- two facts on exposed files
pub IfSome-both : (o : Option Files) (P Q R : Files → Type 0) → ((files : Files) → P files → Q files → R files) → IfSome o P → IfSome o Q → IfSome o R
IfSome-both None P Q R f h k = tt
IfSome-both (Some files) P Q R f h k = f files h k

-- two quiet stretches
pub IsQuiet-trans : (old mid new : ShelfState) → IsQuiet old mid → IsQuiet mid new → IsQuiet old new
IsQuiet-trans old mid new p q = record { files = q.files ∙ p.files; faults = q.faults ∙ p.faults }

-- a failure after a quiet stretch
pub HasFailed-after : (old mid new : ShelfState) (file : List ℕ) → IsQuiet old mid → HasFailed mid new file → HasFailed old new file
HasFailed-after old mid new file q h = record { rose = subst (λ n. HasRisen n new.faults) q.faults h.rose; blamed = h.blamed }

-- ---- one file

text_is : (files : Files) (file text : List ℕ) → length text ≤ FILE_LIMIT → text ≡ files file → text_in files file ≡ Ok text
text_is files file text short same =
    let test : nat_le (length text) FILE_LIMIT ≡ true = grind (arith, nat_tests) in
    subst (λ t. (check (nat_le (length t) FILE_LIMIT) (too_large file) >>= (λ _. Ok t)) ≡ Ok text) same
    (ap (λ b. check b (too_large file) >>= (λ _. Ok text)) test)

-- a stop of a first reading is that of both
pub IsFileStop-bind : {X Y : Type 0} (old new : ShelfState) (file : Option (List ℕ)) (first : Files → Result X Fault) (then : Files → X → Result Y Fault)
    (stop : Stop)
    → IsFileStop old new file first stop → IsFileStop old new file (λ files. first files >>= then files) stop
IsFileStop-bind old new file first then (Refused fault) h =
    IfSome-map old.files (λ files. first files ≡ Err fault) (λ files. (first files >>= then files) ≡ Err fault)
    (λ files. bind-Err (first files) (then files) fault) h
IsFileStop-bind old new file first then (Unfetched name) h = h
IsFileStop-bind old new file first then NoMemory h = tt

-- a stop of a reading that fetches no file is one that fetches files
pub IsFileStop-fault : {X : Type 0} (old new : ShelfState) (file : Option (List ℕ)) (reading : Result X Fault) (stop : Stop) → IsFaultStop reading stop
    → IsFileStop old new file (λ files. reading) stop
IsFileStop-fault old new file reading (Refused fault) h = always old.files
  where
    always : (o : Option Files) → IfSome o (λ files. reading ≡ Err fault)
    always None = tt
    always (Some files) = h
IsFileStop-fault old new file reading (Unfetched name) h = absurd h
IsFileStop-fault old new file reading NoMemory h = tt

-- a stop of a first reading that fetches no file is that of both
pub IsFaultStop-bind : {X Y : Type 0} (first : Result X Fault) (then : X → Result Y Fault) (stop : Stop) → IsFaultStop first stop
    → IsFaultStop (first >>= then) stop
IsFaultStop-bind first then (Refused fault) h = bind-Err first then fault h
IsFaultStop-bind first then (Unfetched name) h = absurd h
IsFaultStop-bind first then NoMemory h = tt

-- a stop after a first reading of a file is that of both
pub IsFileStop-then : {X Y : Type 0} (old new : ShelfState) (file : Option (List ℕ)) (first : Files → Result X Fault) (then : X → Result Y Fault) (x : X)
    (stop : Stop)
    → HoldsOf old.files (λ files. first files ≡ Ok x) → IsFaultStop (then x) stop → IsFileStop old new file (λ files. first files >>= then) stop
IsFileStop-then old new file first then x (Refused fault) h s =
    IfSome-map old.files (λ files. first files ≡ Ok x) (λ files. (first files >>= then) ≡ Err fault)
    (λ files is. bind-of (first files) then x is ∙ s) (IfSome-HoldsOf old.files (λ files. first files ≡ Ok x) h)
IsFileStop-then old new file first then x (Unfetched name) h s = absurd s
IsFileStop-then old new file first then x NoMemory h s = tt

-- two readings of files, one after the other
pub HoldsOf-then : {X Y : Type 0} (o : Option Files) (first : Files → Result X Fault) (then : X → Result Y Fault) (x : X) (y : Y)
    → HoldsOf o (λ files. first files ≡ Ok x) → then x ≡ Ok y → HoldsOf o (λ files. (first files >>= then) ≡ Ok y)
HoldsOf-then o first then x y h e =
    HoldsOf-map o (λ files. first files ≡ Ok x) (λ files. (first files >>= then) ≡ Ok y) (λ files is. bind-of (first files) then x is ∙ e) h

-- a file that was fetched
pub fetched : (o : Option Files) (file text : List ℕ) → length text ≤ FILE_LIMIT → IfSome o (λ f. text ≡ f file)
    → HoldsOf o (λ files. text_in files file ≡ Ok text)
fetched None file text short bytes = (λ name. text, text_is (λ name. text) file text short refl)
fetched (Some files) file text short bytes = text_is files file text short bytes

-- a file that is too large
pub fetched-large : (o : Option Files) (file : List ℕ) → IfSome o (λ f. FILE_LIMIT < length (f file))
    → IfSome o (λ files. text_in files file ≡ Err (too_large file))
fetched-large None file h = tt
fetched-large (Some files) file h =
    let test : nat_le (length (files file)) FILE_LIMIT ≡ false = grind (arith, nat_tests) in
    ap (λ b. check b (too_large file) >>= (λ _. Ok (files file))) test

-- what is read of a file's text is read of the file
pub after_text : {X : Type 0} (o : Option Files) (file text : List ℕ) (f : List ℕ → Result X Fault) (r : Result X Fault)
    → HoldsOf o (λ files. text_in files file ≡ Ok text) → f text ≡ r → HoldsOf o (λ files. (text_in files file >>= f) ≡ r)
after_text o file text f r h e =
    HoldsOf-map o (λ files. text_in files file ≡ Ok text) (λ files. (text_in files file >>= f) ≡ r) (λ files is. bind-of (text_in files file) f text is ∙ e) h

-- the fault of a file's text is that of the file
pub text_fault : {X : Type 0} (o : Option Files) (file text : List ℕ) (f : List ℕ → Result X Fault) (fault : Fault)
    → HoldsOf o (λ files. text_in files file ≡ Ok text) → f text ≡ Err fault → IfSome o (λ files. (text_in files file >>= f) ≡ Err fault)
text_fault o file text f fault h e = IfSome-HoldsOf o (λ files. (text_in files file >>= f) ≡ Err fault) (after_text o file text f (Err fault) h e)

-- ---- the items of a manifest

-- what was gathered with one item more
pub gathered_more : (o : Option Files) (d : Declared) (manifest : List ℕ) (line : ℕ) (item : Item) (g new : Gathered) → IsGatheredFrom d g → IsSoundItem d item
    → HoldsOf o (λ files. with_item files manifest g line item ≡ Ok new) → IsGatheredFrom (declared_with d item) new
gathered_more o d manifest line item g new h s here =
    HoldsOf-any o (λ files. with_item files manifest g line item ≡ Ok new) (IsGatheredFrom (declared_with d item) new)
    (λ files e. IsGatheredFrom-item d g new files manifest line item h s e) here

-- ---- the workload

-- the work of what was gathered
pub workload_of : (o : Option Files) (manifest : List ℕ) (items : List (ℕ × Item)) (g : Gathered) (work : Work) → work ≡ work_of g
    → HoldsOf o (λ files. items_in files manifest ≡ Ok items) → IfSome o (λ files. with_items files manifest nothing items ≡ Ok g)
    → IfSome o (λ files. workload files manifest ≡ Ok work)
workload_of None manifest items g work is all gathered = tt
workload_of (Some files) manifest items g work is all gathered =
    bind-of (items_in files manifest) (λ items. with_items files manifest nothing items >>= (λ g. Ok (work_of g))) items all
    ∙ bind-of (with_items files manifest nothing items) (λ g. Ok (work_of g)) g gathered
    ∙ ap Ok (sym is)

-- a stop at the manifest itself
pub manifest_stop : (old new : ShelfState) (manifest : List ℕ) (stop : Stop) → IsFileStop old new (Some manifest) (λ files. items_in files manifest) stop
    → IsStop old new manifest (λ files. workload files manifest) stop
manifest_stop old new manifest (Refused fault) h =
    IfSome-map old.files (λ files. items_in files manifest ≡ Err fault) (λ files. workload files manifest ≡ Err fault)
    (λ files. bind-Err (items_in files manifest) (λ items. with_items files manifest nothing items >>= (λ g. Ok (work_of g))) fault) h
manifest_stop old new manifest (Unfetched file) h = (h.1, reached old.files)
  where
    same : file ≡ manifest
    same = let e = h.0 in cc

    reached : (o : Option Files) → IfSome o (λ files. IsReached files manifest file)
    reached None = tt
    reached (Some files) = inl same
manifest_stop old new manifest NoMemory h = tt

-- a stop at the items of the manifest
pub workload_stop : (old mid new : ShelfState) (manifest : List ℕ) (items : List (ℕ × Item)) (stop : Stop) → IsQuiet old mid
    → HoldsOf old.files (λ files. items_in files manifest ≡ Ok items) → IsStop mid new manifest (λ files. with_items files manifest nothing items) stop
    → IsStop old new manifest (λ files. workload files manifest) stop
workload_stop old mid new manifest items (Refused fault) quiet all h =
    IfSome-both old.files (λ files. items_in files manifest ≡ Ok items) (λ files. with_items files manifest nothing items ≡ Err fault)
    (λ files. workload files manifest ≡ Err fault)
    (λ files a b. bind-of (items_in files manifest) (λ items. with_items files manifest nothing items >>= (λ g. Ok (work_of g))) items a
    ∙ bind-Err (with_items files manifest nothing items) (λ g. Ok (work_of g)) fault b)
    (IfSome-HoldsOf old.files (λ files. items_in files manifest ≡ Ok items) all)
    (subst (λ o. IfSome o (λ files. with_items files manifest nothing items ≡ Err fault)) quiet.files h)
workload_stop old mid new manifest items (Unfetched file) quiet all h =
    (HasFailed-after old mid new file quiet h.0, subst (λ o. IfSome o (λ files. IsReached files manifest file)) quiet.files h.1)
workload_stop old mid new manifest items NoMemory quiet all h = tt
