-- Items that are added one after the other, and why that stops.
use Rattle.std.proofs.Common.{◌≡◌, ℕ, List, [], ◌∷◌, ◌++◌, refl, ap, sym, ◌∙◌, subst, inr, Option, Some, None, Ok, Err}
use Rattle.std.specs.Prelude.{IfSome}
use Rattle.std.proofs.lemmas.List.{append_assoc, append-nil}
use Rattle.dt_outside.specs.Faults.{ShelfState}
use Rattle.script_read.specs.declared.items.Item.{Item}
use Rattle.script_read.specs.Manifests.{declared_with}
use Rattle.dyntensor.specs.declared.stops.Stop.{Stop}
use Rattle.dyntensor.specs.declared.stops.Stop.TheVariants.{Refused, Unfetched, NoMemory}
use Rattle.dyntensor.specs.Adding.{CanAddAll, IsAdded, IsNext, IsItemsStop}
use Rattle.dyntensor.specs.Reached.{file_of, IsReached}
use Rattle.dyntensor.specs.Readings.{HoldsOf, IsQuiet, IsFileStop, IsStop}
use Rattle.dyntensor.specs.Workload.{Files, Gathered, nothing, with_item, with_items, items_in}
use Rattle.dyntensor.proofs.Bindings.{bind-of, bind-Err}
use Rattle.dyntensor.proofs.WorkloadLemmas.{with_items-append}
use Rattle.dyntensor.proofs.ReadingsLemmas.{HoldsOf-map, IfSome-map, IfSome-HoldsOf, IfSome-both, HasFailed-after, gathered_more}

-- what holds of all files holds of exposed ones
IfSome-always : (o : Option Files) (P : Files → Type 0) → ((files : Files) → P files) → IfSome o P
IfSome-always None P f = tt
IfSome-always (Some files) P f = f files

-- ---- items that are added

-- no items
pub IsAdded-none : (o : Option Files) (manifest : List ℕ) (g : Gathered) (items : List (ℕ × Item)) → CanAddAll g items → IsAdded o manifest g items g items
IsAdded-none o manifest g items can = record {
  here = [];
  split = refl;
  added = IfSome-always o (λ files. with_items files manifest g [] ≡ Ok g) (λ files. refl);
  can = can;
}

-- one item
pub IsAdded-one : (o : Option Files) (manifest : List ℕ) (g new : Gathered) (p : ℕ × Item) (behind : List (ℕ × Item)) → CanAddAll g (p ∷ behind)
    → HoldsOf o (λ files. with_item files manifest g p.0 p.1 ≡ Ok new) → IsAdded o manifest g (p ∷ behind) new behind
IsAdded-one o manifest g new p behind can h = record {
  here = p ∷ [];
  split = refl;
  added = IfSome-HoldsOf o (λ files. with_items files manifest g (p ∷ []) ≡ Ok new)
      (HoldsOf-map o (λ files. with_item files manifest g p.0 p.1 ≡ Ok new) (λ files. with_items files manifest g (p ∷ []) ≡ Ok new)
      (λ files e. bind-of (with_item files manifest g p.0 p.1) (λ more. with_items files manifest more []) new e) h);
  can = record {
    declared = declared_with can.declared p.1;
    gathered = gathered_more o can.declared manifest p.0 p.1 g new can.gathered can.sound.0 h;
    sound = can.sound.1;
  };
}

-- what is added behind items that were added
with_both : (files : Files) (manifest : List ℕ) (g h : Gathered) (xs ys : List (ℕ × Item)) → with_items files manifest g xs ≡ Ok h
    → with_items files manifest g (xs ++ ys) ≡ with_items files manifest h ys
with_both files manifest g h xs ys e =
    with_items-append files manifest g xs ys ∙ bind-of (with_items files manifest g xs) (λ more. with_items files manifest more ys) h e

-- items behind others
pub IsAdded-then : (o : Option Files) (manifest : List ℕ) (g h new : Gathered) (items rest behind : List (ℕ × Item)) → IsAdded o manifest g items h rest
    → IsAdded o manifest h rest new behind → IsAdded o manifest g items new behind
IsAdded-then o manifest g h new items rest behind a b = record {
  here = a.here ++ b.here;
  split = a.split ∙ ap (λ xs. a.here ++ xs) b.split ∙ sym (append_assoc a.here b.here behind);
  added = IfSome-both o (λ files. with_items files manifest g a.here ≡ Ok h) (λ files. with_items files manifest h b.here ≡ Ok new)
      (λ files. with_items files manifest g (a.here ++ b.here) ≡ Ok new)
      (λ files x y. with_both files manifest g h a.here b.here x ∙ y) a.added b.added;
  can = b.can;
}

-- all items
pub IsAdded-all : (o : Option Files) (manifest : List ℕ) (g new : Gathered) (items behind : List (ℕ × Item)) → IsAdded o manifest g items new behind
    → behind ≡ [] → IfSome o (λ files. with_items files manifest g items ≡ Ok new)
IsAdded-all o manifest g new items behind a none =
    let all : items ≡ a.here = a.split ∙ ap (λ xs. a.here ++ xs) none ∙ append-nil a.here in
    IfSome-map o (λ files. with_items files manifest g a.here ≡ Ok new) (λ files. with_items files manifest g items ≡ Ok new)
    (λ files e. ap (with_items files manifest g) all ∙ e) a.added

-- ---- why it stops

-- a stop at the first item
pub IsItemsStop-one : (old new : ShelfState) (manifest : List ℕ) (g : Gathered) (p : ℕ × Item) (behind : List (ℕ × Item)) (stop : Stop)
    → IsFileStop old new (file_of p.1) (λ files. with_item files manifest g p.0 p.1) stop → IsItemsStop old new manifest g (p ∷ behind) stop
IsItemsStop-one old new manifest g p behind (Refused fault) h =
    IfSome-map old.files (λ files. with_item files manifest g p.0 p.1 ≡ Err fault) (λ files. with_items files manifest g (p ∷ behind) ≡ Err fault)
    (λ files. bind-Err (with_item files manifest g p.0 p.1) (λ more. with_items files manifest more behind) fault) h
IsItemsStop-one old new manifest g p behind (Unfetched file) h = (
  h.1,
  IfSome-always old.files (λ files. IsNext files manifest g (p ∷ behind) file)
      (λ files. record { before = []; item = p; behind = behind; split = refl; named = h.0; gathered = g; sound = refl }),
)
IsItemsStop-one old new manifest g p behind NoMemory h = tt

-- a stop behind items that were added
pub IsItemsStop-then : (old mid new : ShelfState) (manifest : List ℕ) (g h : Gathered) (items rest : List (ℕ × Item)) (stop : Stop) → IsQuiet old mid
    → IsAdded old.files manifest g items h rest → IsItemsStop mid new manifest h rest stop → IsItemsStop old new manifest g items stop
IsItemsStop-then old mid new manifest g h items rest (Refused fault) quiet a s =
    IfSome-both old.files (λ files. with_items files manifest g a.here ≡ Ok h) (λ files. with_items files manifest h rest ≡ Err fault)
    (λ files. with_items files manifest g items ≡ Err fault)
    (λ files x y. ap (with_items files manifest g) a.split ∙ with_both files manifest g h a.here rest x ∙ y) a.added
    (subst (λ o. IfSome o (λ files. with_items files manifest h rest ≡ Err fault)) quiet.files s)
IsItemsStop-then old mid new manifest g h items rest (Unfetched file) quiet a s = (
  HasFailed-after old mid new file quiet s.0,
  IfSome-both old.files (λ files. with_items files manifest g a.here ≡ Ok h) (λ files. IsNext files manifest h rest file)
      (λ files. IsNext files manifest g items file)
      (λ files x n. record {
        before = a.here ++ n.before;
        item = n.item;
        behind = n.behind;
        split = a.split ∙ ap (λ xs. a.here ++ xs) n.split ∙ sym (append_assoc a.here n.before (n.item ∷ n.behind));
        named = n.named;
        gathered = n.gathered;
        sound = with_both files manifest g h a.here n.before x ∙ n.sound;
      }) a.added (subst (λ o. IfSome o (λ files. IsNext files manifest h rest file)) quiet.files s.1),
)
IsItemsStop-then old mid new manifest g h items rest NoMemory quiet a s = tt

-- a stop at the items of a manifest
pub IsStop-items : (old new : ShelfState) (manifest : List ℕ) (items : List (ℕ × Item)) (stop : Stop)
    → HoldsOf old.files (λ files. items_in files manifest ≡ Ok items) → IsItemsStop old new manifest nothing items stop
    → IsStop old new manifest (λ files. with_items files manifest nothing items) stop
IsStop-items old new manifest items (Refused fault) all h = h
IsStop-items old new manifest items (Unfetched file) all h = (
  h.0,
  IfSome-both old.files (λ files. items_in files manifest ≡ Ok items) (λ files. IsNext files manifest nothing items file)
      (λ files. IsReached files manifest file)
      (λ files e n. inr (record {
        before = n.before;
        item = n.item;
        behind = n.behind;
        items = e ∙ ap Ok n.split;
        named = n.named;
        gathered = n.gathered;
        sound = n.sound;
      })) (IfSome-HoldsOf old.files (λ files. items_in files manifest ≡ Ok items) all) h.1,
)
IsStop-items old new manifest items NoMemory all h = tt
