-- What the items of a manifest add, one after the other.
use Rattle.std.proofs.Common.{◌≡◌, ℕ, zero, suc, ◌+◌, List, [], ◌∷◌, ◌++◌, length, take, refl, ap, ◌∙◌, arith, subst, Some, Result, Ok, Err}
use Rattle.std.specs.Prelude.{slice_get, nat_le}
use Rattle.std.specs.List.{list_all}
use Rattle.std.proofs.lemmas.Option.{none-some}
use Rattle.dt_model.specs.declared.limits.TheConstants.{FILE_LIMIT}
use Rattle.dt_model.specs.Verdicts.{tensor_number}
use Rattle.dt_model.specs.Tensors.{dims_of}
use Rattle.tns_io.specs.declared.faults.FileCause.TheVariants as because
use Rattle.tns_io.specs.Faults.{fault_at}
use Rattle.tns_io.specs.Tns.{tns_of}
use Rattle.script_read.specs.declared.declarations.Declared.{Declared}
use Rattle.script_read.specs.declared.items.Item.{Item}
use Rattle.script_read.specs.declared.items.Item.TheVariants.{Schema, Tensor, Load, Session, Print}
use Rattle.script_read.specs.Manifests.{declared_with}
use Rattle.script_read.specs.Readings.{◌>>=◌, check}
use Rattle.script_read.specs.Scripts.{script_of}
use Rattle.script_read.specs.Sound.{IsSoundItem}
use Rattle.script_read.proofs.ReadingsLemmas.{check-Ok, Ok-same}
use Rattle.dyntensor.specs.declared.faults.Fault.{Fault}
use Rattle.dyntensor.specs.Workload.{Files, fault_in, located, too_large, text_in, Gathered, decls_of, lines_left, with_tensor, with_lines, with_script, with_print, with_text, is_flat, is_schema, all_taken, schemas_of, with_item, with_items}
use Rattle.dyntensor.specs.Gathering.{IsGatheredFrom}
use Rattle.dyntensor.proofs.Bindings.{bind-Ok, located-Ok}
use Rattle.dyntensor.proofs.SchemasTaken.{IsGatheredFrom-taken, schemas_of-small}
use Rattle.dyntensor.proofs.GatheringLemmas.{IsGatheredFrom-tensor, IsGatheredFrom-lines, IsGatheredFrom-script, IsGatheredFrom-print, number_is_declared}
use Rattle.tns_io.proofs.ReadPairs.{length-tns_of, tns_of-in_range}
use Rattle.script_read.proofs.ScriptsLemmas.{IsSoundScript-script_of}

-- ---- an item more

-- what was gathered with the script of a text more, where it has no fault
pub IsGatheredFrom-text : (d : Declared) (g new : Gathered) (file text : List ℕ) → IsGatheredFrom d g → IsSoundItem d (Session file)
    → with_text g file text ≡ Ok new → IsGatheredFrom (declared_with d (Session file)) new
IsGatheredFrom-text d g new file text h s e =
    let b = check-Ok (nat_le (g.script_bytes + length text) FILE_LIMIT) (too_large file)
    (λ _. located file (script_of (decls_of g) (lines_left g) text) >>= (λ script. Ok (with_script g (length text) script))) new e in
    let c = bind-Ok (located file (script_of (decls_of g) (lines_left g) text)) (λ script. Ok (with_script g (length text) script)) new b.1 in
    let read = located-Ok file (script_of (decls_of g) (lines_left g) text) c.0 c.1 in
    subst (IsGatheredFrom (declared_with d (Session file))) (Ok-same {E = Fault} (with_script g (length text) c.0) new c.2)
    (IsGatheredFrom-script d g file (length text) c.0 h s (IsSoundScript-script_of (decls_of g) (lines_left g) text c.0 read))

-- what was gathered with an item more, where it has no fault
pub IsGatheredFrom-item : (d : Declared) (g new : Gathered) (files : Files) (manifest : List ℕ) (line : ℕ) (item : Item) → IsGatheredFrom d g
    → IsSoundItem d item
    → with_item files manifest g line item ≡ Ok new → IsGatheredFrom (declared_with d item) new
IsGatheredFrom-item d g new files manifest line (Schema file) h s e =
    let a = bind-Ok (schemas_of files file) (λ schemas. all_taken manifest line g schemas) new e in
    IsGatheredFrom-taken d manifest line g a.0 new h s.asked (schemas_of-small files file a.0 a.1) a.2
IsGatheredFrom-item d g new files manifest line (Tensor name dims formats latches) h s e =
    let known = check-Ok (list_all (is_schema g) formats.items) (fault_in manifest (fault_at line because.Name))
    (λ _. check (list_all is_flat formats.items) (fault_in manifest (fault_at line because.NotBuilt)) >>= (λ _. Ok (with_tensor g name dims latches))) new e in
    let made = check-Ok (list_all is_flat formats.items) (fault_in manifest (fault_at line because.NotBuilt)) (λ _. Ok (with_tensor g name dims latches)) new
    known.1 in
    subst (IsGatheredFrom (declared_with d (Tensor name dims formats latches))) (Ok-same {E = Fault} (with_tensor g name dims latches) new made.1)
    (IsGatheredFrom-tensor d g name dims formats.items latches h s)
IsGatheredFrom-item d g new files manifest line (Load name file) h s e =
    let t = tensor_number (decls_of g) name in
    let a = bind-Ok (text_in files file) (λ text. located file (tns_of (dims_of (decls_of g) t) (lines_left g) text) >>= (λ lines. Ok (with_lines g t lines)))
    new e in
    let b = bind-Ok (located file (tns_of (dims_of (decls_of g) t) (lines_left g) a.0)) (λ lines. Ok (with_lines g t lines)) new a.2 in
    let read = located-Ok file (tns_of (dims_of (decls_of g) t) (lines_left g) a.0) b.0 b.1 in
    subst (IsGatheredFrom d) (Ok-same {E = Fault} (with_lines g t b.0) new b.2)
    (IsGatheredFrom-lines d g t b.0 h (number_is_declared d g name h s.asked.declared) (length-tns_of (dims_of (decls_of g) t) (lines_left g) a.0 b.0 read)
    (tns_of-in_range (dims_of (decls_of g) t) (lines_left g) a.0 b.0 read))
IsGatheredFrom-item d g new files manifest line (Session file) h s e =
    let a = bind-Ok (text_in files file) (λ text. with_text g file text) new e in
    IsGatheredFrom-text d g new file a.0 h s a.2
IsGatheredFrom-item d g new files manifest line (Print name) h s e =
    subst (IsGatheredFrom (declared_with d (Print name))) (Ok-same {E = Fault} (with_print g (tensor_number (decls_of g) name)) new e)
    (IsGatheredFrom-print d g name h s.asked)

-- ---- the items of a manifest

-- what some items and then others add
pub with_items-append : (files : Files) (manifest : List ℕ) (g : Gathered) (xs ys : List (ℕ × Item))
    → with_items files manifest g (xs ++ ys) ≡ (with_items files manifest g xs >>= (λ h. with_items files manifest h ys))
with_items-append files manifest g [] ys = refl
with_items-append files manifest g (x ∷ xs) ys = step (λ more. with_items-append files manifest more xs ys) (with_item files manifest g x.0 x.1)
  where
    step : ((more : Gathered) → with_items files manifest more (xs ++ ys) ≡ (with_items files manifest more xs >>= (λ h. with_items files manifest h ys)))
        → (r : Result Gathered Fault) → (r >>= (λ more. with_items files manifest more (xs ++ ys)))
        ≡ ((r >>= (λ more. with_items files manifest more xs)) >>= (λ h. with_items files manifest h ys))
    step later (Ok more) = later more
    step later (Err e) = refl

-- the items up to one, and that one
pub take_one_more : {X : Type 0} (xs : List X) (i : ℕ) (x : X) → slice_get xs i ≡ Some x → take (i + 1) xs ≡ take i xs ++ x ∷ []
take_one_more [] i x e = absurd (none-some x e)
take_one_more (y ∷ ys) zero x e = let same : y ≡ x = cc in ap (λ z. z ∷ []) same
take_one_more (y ∷ ys) (suc i) x e =
    let one : suc i + 1 ≡ suc (i + 1) = omega arith in
    ap (λ n. take n (y ∷ ys)) one ∙ ap (λ zs. y ∷ zs) (take_one_more ys i x e)
