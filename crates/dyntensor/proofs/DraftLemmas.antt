-- Scripts that are fetched and read before they are added.
use Rattle.std.proofs.Common.{◌≡◌, ◌≤◌, ◌<◌, ◌+◌, ◌++◌, ℕ, suc, List, [], ◌∷◌, map, length, drop, get_or, refl, ap, sym, ◌∙◌, subst, arith, Option, Some, None, Result, Ok, Err}
use Rattle.std.specs.Prelude.{All, IfSome, nat_le}
use Rattle.dt_model.specs.declared.declared_tensors.Decls.{Decls}
use Rattle.dt_model.specs.declared.limits.TheConstants.{FILE_LIMIT}
use Rattle.dt_outside.specs.Faults.{ShelfState}
use Rattle.script_read.specs.declared.declarations.Declared.{Declared}
use Rattle.script_read.specs.declared.items.Item.{Item}
use Rattle.script_read.specs.declared.items.Item.TheVariants.{Session}
use Rattle.script_read.specs.Manifests.{declared_with}
use Rattle.script_read.specs.Readings.{◌>>=◌}
use Rattle.script_read.specs.Scripts.{script_of}
use Rattle.script_read.specs.Sound.{AreSound}
use Rattle.script_read.proofs.ReadingsLemmas.{check-Ok, Ok-same, Err-Ok}
use Rattle.dyntensor.specs.declared.drafts.Draft.{Draft}
use Rattle.dyntensor.specs.declared.faults.Fault.{Fault}
use Rattle.dyntensor.specs.declared.stops.Stop.{Stop}
use Rattle.dyntensor.specs.declared.stops.Stop.TheVariants.{Refused, Unfetched, NoMemory}
use Rattle.dyntensor.specs.Adding.{CanAddAll, IsAdded, IsItemsStop}
use Rattle.dyntensor.specs.Drafts.{IsShort, IsRead, Reads, with_drafts, CanAddDrafts, AreTexts, IsStopped}
use Rattle.dyntensor.specs.Readings.{HoldsOf, IsFaultStop}
use Rattle.dyntensor.specs.Workload.{Files, Gathered, decls_of, lines_left, located, too_large, text_in, with_script, with_text, with_items}
use Rattle.dyntensor.proofs.AddingLemmas.{IsAdded-none, IsAdded-one, IsAdded-then, IsItemsStop-one}
use Rattle.dyntensor.proofs.Bindings.{bind-Ok, bind-of}
use Rattle.dyntensor.proofs.ReadingsLemmas.{HoldsOf-then, IsFileStop-bind}
use Rattle.dyntensor.proofs.WorkloadLemmas.{IsGatheredFrom-text}

-- the first of some elements
pub All-first : {X : Type 0} (P : X → Type 0) (x : X) (xs : List X) → All P (x ∷ xs) → P x
All-first P x xs h = h 0 x (omega arith)

-- all but the first
pub All-rest : {X : Type 0} (P : X → Type 0) (x : X) (xs : List X) → All P (x ∷ xs) → All P xs
All-rest P x xs h = λ k d l. h (suc k) d (omega (arith, l))

-- ---- drafts that are read

-- their texts stay
AreTexts-read : (o : Option Files) (d : Decls) (items : List (ℕ × Item)) (olds news : List Draft) (behind : List (ℕ × Item))
    → length news ≡ length olds
    → ((k : ℕ) (e : Draft) → k < length olds → Reads d (get_or olds k e) (get_or news k e)) → AreTexts o items olds behind → AreTexts o items news behind
AreTexts-read o d items [] [] behind same reads h = h
AreTexts-read o d items [] (y ∷ ys) behind same reads h = absurd (omega (arith, same))
AreTexts-read o d items (x ∷ xs) [] behind same reads h = absurd (omega (arith, same))
AreTexts-read o d items (x ∷ xs) (y ∷ ys) behind same reads h =
    let r = reads 0 x (omega arith) in (
      h.0,
      h.1,
      h.2 ∙ ap (λ file. (h.0, Session file) ∷ h.1) (sym r.file),
      subst (λ text. HoldsOf o (λ files. text_in files y.file ≡ Ok text)) (sym r.text)
          (subst (λ file. HoldsOf o (λ files. text_in files file ≡ Ok x.text.items)) (sym r.file) h.3),
      AreTexts-read o d h.1 xs ys behind (omega (arith, same)) (λ k e l. reads (suc k) e (omega (arith, l))) h.4,
    )

-- they are no longer than before
All-short : (d : Decls) (olds news : List Draft) → length news ≡ length olds
    → ((k : ℕ) (e : Draft) → k < length olds → Reads d (get_or olds k e) (get_or news k e)) → All IsShort olds → All IsShort news
All-short d olds news same reads short =
    λ k e l. subst (λ text. length text ≤ FILE_LIMIT) (sym (reads k e (omega (arith, l))).text) (short k e (omega (arith, l)))

-- their verdicts are there
All-read : (d : Decls) (olds news : List Draft) → length news ≡ length olds
    → ((k : ℕ) (e : Draft) → k < length olds → Reads d (get_or olds k e) (get_or news k e)) → All (IsRead d) news
All-read d olds news same reads = λ k e l. (reads k e (omega (arith, l))).read

-- drafts of the items up to those behind, with their texts and verdicts
pub record AreReadTexts (o : Option Files) (d : Decls) (items : List (ℕ × Item)) (drafts : List Draft) (behind : List (ℕ × Item)) : Type 0 where
  pub texts : AreTexts o items drafts behind
  pub short : All IsShort drafts
  pub read : All (IsRead d) drafts

-- each of them was read where it stood before
pub AreReadTexts-after : (o : Option Files) (d : Decls) (items : List (ℕ × Item)) (olds before after news : List Draft) (behind : List (ℕ × Item))
    → before ≡ olds → news ≡ after → length after ≡ length before
    → ((k : ℕ) (e : Draft) → k < length before → Reads d (get_or before k e) (get_or after k e)) → AreTexts o items olds behind → All IsShort olds
    → AreReadTexts o d items news behind
AreReadTexts-after o d items olds before after news behind was is same reads texts short = subst (λ ds. AreReadTexts o d items ds behind) (sym is) (record {
  texts = AreTexts-read o d items before after behind same reads (subst (λ ds. AreTexts o items ds behind) (sym was) texts);
  short = All-short d before after same reads (subst (All IsShort) (sym was) short);
  read = All-read d before after same reads;
})

-- ---- drafts that are fetched

-- one draft more
pub AreTexts-push : (o : Option Files) (items : List (ℕ × Item)) (drafts : List Draft) (draft : Draft) (line : ℕ) (here rest : List (ℕ × Item))
    → AreTexts o items drafts here → here ≡ (line, Session draft.file) ∷ rest → HoldsOf o (λ files. text_in files draft.file ≡ Ok draft.text.items)
    → AreTexts o items (drafts ++ draft ∷ []) rest
AreTexts-push o items [] draft line here rest h first text = (line, rest, h ∙ first, text, refl)
AreTexts-push o items (x ∷ xs) draft line here rest h first text = (h.0, h.1, h.2, h.3, AreTexts-push o h.1 xs draft line here rest h.4 first text)

-- the items behind them
pub AreTexts-behind : (o : Option Files) (items : List (ℕ × Item)) (drafts : List Draft) (behind : List (ℕ × Item)) → AreTexts o items drafts behind
    → drop (length drafts) items ≡ behind
AreTexts-behind o items [] behind h = h
AreTexts-behind o items (x ∷ xs) behind h = ap (drop (suc (length xs))) h.2 ∙ AreTexts-behind o h.1 xs behind h.4

-- they are no more than the items
pub AreTexts-count : (o : Option Files) (items : List (ℕ × Item)) (drafts : List Draft) (behind : List (ℕ × Item)) → AreTexts o items drafts behind
    → length drafts ≤ length items
AreTexts-count o items [] behind h = omega arith
AreTexts-count o items (x ∷ xs) behind h =
    let rest = AreTexts-count o h.1 xs behind h.4 in let all : length items ≡ suc (length h.1) = ap length h.2 in omega arith

-- ---- drafts that are added

-- the items of drafts, whatever their lines
abbrev items_of : List Draft → List (ℕ × Item)
items_of drafts = map (λ (draft : Draft). (0, Session draft.file)) drafts

sound_drafts : (o : Option Files) (d : Declared) (items : List (ℕ × Item)) (drafts : List Draft) (behind : List (ℕ × Item)) → AreTexts o items drafts behind
    → AreSound d items → AreSound d (items_of drafts)
sound_drafts o d items [] behind h sound = tt
sound_drafts o d items (x ∷ xs) behind h sound =
    let s = subst (AreSound d) h.2 sound in (s.0, sound_drafts o (declared_with d (Session x.file)) h.1 xs behind h.4 s.1)

-- they may be added as their items may
pub CanAddDrafts-texts : (o : Option Files) (g : Gathered) (items : List (ℕ × Item)) (drafts : List Draft) (behind : List (ℕ × Item))
    → AreTexts o items drafts behind
    → CanAddAll g items → CanAddDrafts g drafts
CanAddDrafts-texts o g items drafts behind h can = record {
  declared = can.declared;
  gathered = can.gathered;
  sound = sound_drafts o can.declared items drafts behind h can.sound;
}

-- the declarations are the same with a script more
pub decls_of-text : (g new : Gathered) (file text : List ℕ) → with_text g file text ≡ Ok new → decls_of new ≡ decls_of g
decls_of-text g new file text e =
    let a = check-Ok (nat_le (g.script_bytes + length text) FILE_LIMIT) (too_large file)
    (λ _. located file (script_of (decls_of g) (lines_left g) text) >>= (λ script. Ok (with_script g (length text) script))) new e in
    let b = bind-Ok (located file (script_of (decls_of g) (lines_left g) text)) (λ script. Ok (with_script g (length text) script)) new a.1 in
    ap decls_of (sym (Ok-same {E = Fault} (with_script g (length text) b.0) new b.2))

-- the others may be added after the first
pub CanAddDrafts-rest : (g new : Gathered) (draft : Draft) (drafts : List Draft) → CanAddDrafts g (draft ∷ drafts)
    → with_text g draft.file draft.text.items ≡ Ok new → CanAddDrafts new drafts
CanAddDrafts-rest g new draft drafts can e = record {
  declared = declared_with can.declared (Session draft.file);
  gathered = IsGatheredFrom-text can.declared g new draft.file draft.text.items can.gathered can.sound.0 e;
  sound = can.sound.1;
}

-- their items are added
pub IsAdded-drafts : (o : Option Files) (manifest : List ℕ) (g new : Gathered) (items : List (ℕ × Item)) (drafts : List Draft) (behind : List (ℕ × Item))
    → AreTexts o items drafts behind
    → CanAddAll g items → with_drafts g drafts ≡ Ok new → IsAdded o manifest g items new behind
IsAdded-drafts o manifest g new items [] behind h can e =
    subst (λ x. IsAdded o manifest g items x behind) (Ok-same {E = Fault} g new e)
    (subst (λ xs. IsAdded o manifest g items g xs) h (IsAdded-none o manifest g items can))
IsAdded-drafts o manifest g new items (x ∷ xs) behind h can e =
    let a = bind-Ok (with_text g x.file x.text.items) (λ more. with_drafts more xs) new e in
    let text = HoldsOf-then o (λ files. text_in files x.file) (λ text. with_text g x.file text) x.text.items a.0 h.3 a.1 in
    let one : IsAdded o manifest g ((h.0, Session x.file) ∷ h.1) a.0 h.1 =
    IsAdded-one o manifest g a.0 (h.0, Session x.file) h.1 (subst (CanAddAll g) h.2 can) text in
    IsAdded-then o manifest g a.0 new items h.1 behind (subst (λ ys. IsAdded o manifest g ys a.0 h.1) (sym h.2) one)
    (IsAdded-drafts o manifest a.0 new h.1 xs behind h.4 one.can a.2)

-- the fault of one of them is that of the items
drafts_fault : (files : Files) (manifest : List ℕ) (g : Gathered) (items : List (ℕ × Item)) (drafts : List Draft) (behind : List (ℕ × Item)) (fault : Fault)
    → AreTexts (Some files) items drafts behind
    → with_drafts g drafts ≡ Err fault → with_items files manifest g items ≡ Err fault
drafts_fault files manifest g items [] behind fault h e = absurd (Err-Ok fault g (sym e))
drafts_fault files manifest g items (x ∷ xs) behind fault h e =
    ap (with_items files manifest g) h.2
    ∙ ap (λ r. r >>= (λ more. with_items files manifest more h.1)) (bind-of (text_in files x.file) (λ text. with_text g x.file text) x.text.items h.3)
    ∙ step (λ more. drafts_fault files manifest more h.1 xs behind fault h.4) (with_text g x.file x.text.items) e
  where
    step : ((more : Gathered) → with_drafts more xs ≡ Err fault → with_items files manifest more h.1 ≡ Err fault) → (r : Result Gathered Fault)
        → (r >>= (λ more. with_drafts more xs)) ≡ Err fault → (r >>= (λ more. with_items files manifest more h.1)) ≡ Err fault
    step later (Ok more) f = later more f
    step later (Err c) f = let same : c ≡ fault = cc in ap Err same

-- what stops the adding of drafts stops that of the items
pub IsItemsStop-drafts : (old new : ShelfState) (manifest : List ℕ) (g : Gathered) (items : List (ℕ × Item)) (drafts : List Draft) (behind : List (ℕ × Item))
    (stop : Stop)
    → AreTexts old.files items drafts behind → IsFaultStop (with_drafts g drafts) stop → IsItemsStop old new manifest g items stop
IsItemsStop-drafts old new manifest g items drafts behind (Refused fault) h s = at_files old.files h
  where
    at_files : (o : Option Files) → AreTexts o items drafts behind → IfSome o (λ files. with_items files manifest g items ≡ Err fault)
    at_files None t = tt
    at_files (Some files) t = drafts_fault files manifest g items drafts behind fault t s
IsItemsStop-drafts old new manifest g items drafts behind (Unfetched file) h s = absurd s
IsItemsStop-drafts old new manifest g items drafts behind NoMemory h s = tt

-- a fetch that stopped stops the adding of items
pub IsItemsStop-fetch : (old new : ShelfState) (manifest : List ℕ) (g : Gathered) (items : List (ℕ × Item)) (stop : Stop) → IsStopped old new items stop
    → IsItemsStop old new manifest g items stop
IsItemsStop-fetch old new manifest g items stop h =
    subst (λ xs. IsItemsStop old new manifest g xs stop) (sym h.first)
    (IsItemsStop-one old new manifest g (h.line, Session h.file) h.behind stop
    (IsFileStop-bind old new (Some h.file) (λ files. text_in files h.file) (λ files text. with_text g h.file text) stop h.fails))
