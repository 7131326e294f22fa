-- Cells of a fiber are those of its latch, and what is written among cells leaves them ascending.
use Rattle.std.proofs.Common.{◌≡◌, ◌≢◌, ℕ, zero, suc, ◌+◌, ◌/◌, ◌^◌, ◌<◌, ◌≤◌, Bool, true, false, cond, List, [], ◌∷◌, length, refl, ap, sym, ◌∙◌, subst, arith, inl, inr, IsTrue, All, filter, drop, get_or}
use Rattle.std.specs.Prelude.{◌&&◌, ◌==◌, nat_lt, slice_index}
use Rattle.std.specs.List.{list_all}
use Rattle.std.proofs.lemmas.Bool.Decides.{nat_tests, Decides-eqb}
use Rattle.std.proofs.lemmas.List.{drop_all}
use Rattle.std.proofs.lemmas.List.Elements.{All-append, All-cons, All-drop, All-set, All-take}
use Rattle.commit_core.specs.Calls.{updates_are_valid}
use Rattle.commit_core.specs.Cells.{Cells, Puts}
use Rattle.commit_core.proofs.CellsLemmas.{IsAscending-set, IsAscending-insert, Puts-set, Puts-insert, none_else_at, none_of_gap}
use Rattle.dt_model.specs.declared.calls.Cell.{Cell}
use Rattle.dt_model.specs.declared.calls.Update.{Update}
use Rattle.dt_model.specs.declared.declared_tensors.Decls.{Decls}
use Rattle.dt_model.specs.Latches.{latch_of_cell}
use Rattle.dt_model.specs.Pairs.{IsAscending}
use Rattle.dt_model.specs.Tensors.{dims_of, first_latch, latch_of}
use Rattle.dt_model.specs.Verdicts.{all_in_range, cell_is_valid, update_cell}
use Rattle.dt_model.specs.Worlds.{decls_are_valid}
use Rattle.dt_model.proofs.Booleans.{both_true, first_true, last_true}
use Rattle.fiber_store.specs.declared.fibers.Fiber.{Fiber}
use Rattle.fiber_store.specs.Fibers.{Writes, has_cell, state_of}
use Rattle.fiber_store.specs.Stores.{AreValid, IsInFiber, IsSound, own}
use Rattle.fiber_store.proofs.LatchRanges.{tensor_of_latch}

-- ---- cells in range

-- coordinates in range are as many as the dimensions
pub length-in_range : (ds cs : List ℕ) → all_in_range ds cs ≡ true → length cs ≡ length ds
length-in_range [] [] h = refl
length-in_range [] (c ∷ cs) h = cc
length-in_range (d ∷ ds) [] h = cc
length-in_range (d ∷ ds) (c ∷ cs) h = ap suc (length-in_range ds cs (both_true (nat_lt c d) (all_in_range ds cs) h).1)

-- coordinates that aren't as many aren't in range
pub in_range-other_length : (ds cs : List ℕ) → length ds ≢ length cs → all_in_range ds cs ≡ false
in_range-other_length ds cs other = go (all_in_range ds cs) refl
  where
    go : (b : Bool) → all_in_range ds cs ≡ b → b ≡ false
    go true e = absurd (other (sym (length-in_range ds cs e)))
    go false e = refl

-- coordinates from mode i on are in range where the first of them is and the others are
pub in_range-drop : (ds cs : List ℕ) (i : ℕ) → i < length ds → i < length cs
    → all_in_range (drop i ds) (drop i cs) ≡ (nat_lt (get_or cs i 0) (get_or ds i 0) && all_in_range (drop (suc i) ds) (drop (suc i) cs))
in_range-drop [] cs i l m = absurd (omega arith)
in_range-drop (d ∷ ds) [] i l m = absurd (omega arith)
in_range-drop (d ∷ ds) (c ∷ cs) zero l m = refl
in_range-drop (d ∷ ds) (c ∷ cs) (suc i) l m = in_range-drop ds cs i (omega arith) (omega arith)

-- no coordinates are in range of no dimensions
pub in_range-end : (ds cs : List ℕ) (i : ℕ) → length ds ≤ i → length cs ≤ i → all_in_range (drop i ds) (drop i cs) ≡ true
in_range-end ds cs i l m = rw (drop_all i ds l, drop_all i cs m) refl

equal_of : (a b : ℕ) → (a == b) ≡ true → a ≡ b
equal_of a b e = (Decides-eqb a b).0 e

-- a fiber's cell is of its tensor
pub tensor-has_cell : (f : Fiber) (cell : Cell) → has_cell f cell ≡ true → cell.tensor ≡ f.tensor
tensor-has_cell f cell h =
    equal_of cell.tensor f.tensor (first_true _ (all_in_range f.dims cell.at) (first_true _ (slice_index cell.at 0 / f.width == f.number) h))

-- a fiber's cell is in range
pub in_range-has_cell : (f : Fiber) (cell : Cell) → has_cell f cell ≡ true → all_in_range f.dims cell.at ≡ true
in_range-has_cell f cell h = last_true (cell.tensor == f.tensor) _ (first_true _ (slice_index cell.at 0 / f.width == f.number) h)

number-has_cell : (f : Fiber) (cell : Cell) → has_cell f cell ≡ true → slice_index cell.at 0 / f.width ≡ f.number
number-has_cell f cell h = equal_of (slice_index cell.at 0 / f.width) f.number (last_true ((cell.tensor == f.tensor) && all_in_range f.dims cell.at) _ h)

-- ---- cells of a latch

-- in a sound store a fiber's cell is in the fiber of the latch
pub IsInFiber-has_cell : (d : Decls) (w : ℕ) (f : Fiber) (cells : Cells) (due : List Update) (cell : Cell) → IsSound d w (state_of f cells due)
    → has_cell f cell ≡ true → IsInFiber d f.tensor w cell.at
IsInFiber-has_cell d w f cells due cell sound h = record {
  in_range = subst (λ ds. all_in_range ds cell.at ≡ true) sound.dims (in_range-has_cell f cell h);
  latch = ap (λ n. first_latch d f.tensor + slice_index cell.at 0 / n) (sym sound.width)
      ∙ ap (λ n. first_latch d f.tensor + n) (number-has_cell f cell h) ∙ sound.latch;
}

shifted : (a q n w : ℕ) → a + n ≡ w → (q == n) ≡ (a + q == w)
shifted a q n w e = grind (arith, nat_tests)

-- in a sound store the fiber's cells are those of the latch, among valid ones
pub has_cell-latch : (d : Decls) (w : ℕ) (f : Fiber) (cells : Cells) (due : List Update) (cell : Cell) → IsTrue (decls_are_valid d)
    → cell_is_valid d cell ≡ true → IsSound d w (state_of f cells due) → has_cell f cell ≡ (latch_of_cell d cell == w)
has_cell-latch d w f cells due cell valid h sound = go (cell.tensor == f.tensor) refl (latch_of_cell d cell == w) refl
  where
    go : (b : Bool) → (cell.tensor == f.tensor) ≡ b → (e : Bool) → (latch_of_cell d cell == w) ≡ e
        → (b && all_in_range f.dims cell.at && (slice_index cell.at 0 / f.width == f.number)) ≡ e
    go false k false j = refl
    go false k true j =
        let is : latch_of_cell d cell ≡ first_latch d f.tensor + f.number = equal_of (latch_of_cell d cell) w j ∙ sym sound.latch in
        let same = tensor_of_latch d cell f.tensor f.number valid h sound.declared sound.latched is in
        absurd (differ cell.tensor f.tensor same k)
      where
        differ : (a b : ℕ) → a ≡ b → (a == b) ≡ false → ⊥
        differ a b s e = grind (arith, nat_tests)
    go true k e j =
        let same : cell.tensor ≡ f.tensor = equal_of cell.tensor f.tensor k in
        let valid_at : all_in_range (dims_of d cell.tensor) cell.at ≡ true =
        (both_true (nat_lt cell.tensor (length d.tensors)) (all_in_range (dims_of d cell.tensor) cell.at) h).1 in
        let range : all_in_range f.dims cell.at ≡ true = ap (λ ds. all_in_range ds cell.at) (sound.dims ∙ ap (dims_of d) (sym same)) ∙ valid_at in
        ap (λ b. b && (slice_index cell.at 0 / f.width == f.number)) range
        ∙ shifted (first_latch d f.tensor) (slice_index cell.at 0 / f.width) f.number w sound.latch
        ∙ ap (λ n. first_latch d f.tensor + slice_index cell.at 0 / n == w) sound.width
        ∙ ap (λ t. latch_of d t cell.at == w) (sym same) ∙ j

-- in a sound store the updates of the fiber's cells are the latch's own, among valid ones
pub filter-own : (d : Decls) (w : ℕ) (f : Fiber) (cells : Cells) (due : List Update) (us : List Update) → AreValid d us → IsSound d w (state_of f cells due)
    → filter (λ u. has_cell f (update_cell u)) us ≡ own d w us
filter-own d w f cells due us valid sound = go us valid.cells
  where
    go : (us : List Update) → updates_are_valid d us ≡ true → filter (λ u. has_cell f (update_cell u)) us ≡ own d w us
    go [] h = refl
    go (u ∷ us) h =
        let both = both_true (cell_is_valid d (update_cell u)) (list_all (λ x. cell_is_valid d (update_cell x)) us) h in
        ap (λ b. cond b (u ∷ filter (λ x. has_cell f (update_cell x)) us) (filter (λ x. has_cell f (update_cell x)) us))
        (has_cell-latch d w f cells due (update_cell u) valid.decls both.0 sound)
        ∙ ap (λ xs. cond (latch_of_cell d (update_cell u) == w) (u ∷ xs) xs) (go us both.1)

-- ---- what is written among cells

-- cells that ascend still do
pub IsAscending-Writes : (old new : Cells) (c : List ℕ) (v : ℕ) → IsAscending old → Writes old new c v → IsAscending new
IsAscending-Writes old new c v up (inl (i, at, is)) = rw is (IsAscending-set old c i v up at)
IsAscending-Writes old new c v up (inr (i, gap, is)) = rw is (IsAscending-insert old c i v gap up)

-- the number is at c, and every other number is as before
pub Puts-Writes : (old new : Cells) (c : List ℕ) (v : ℕ) → v < 2 ^ 64 → IsAscending old → Writes old new c v → Puts old new c v
Puts-Writes old new c v small up (inl (i, at, is)) = rw is (Puts-set old c i v small at (none_else_at old c i up at))
Puts-Writes old new c v small up (inr (i, gap, is)) = rw is (Puts-insert old c i v small (none_of_gap old c i gap))

-- what holds of each cell and of the written one holds of each
pub All-Writes : (P : List ℕ × ℕ → Type 0) (old new : Cells) (c : List ℕ) (v : ℕ) → P (c, v) → All P old → Writes old new c v → All P new
All-Writes P old new c v one all (inl (i, at, is)) = rw is (All-set P old i (c, v) one all)
All-Writes P old new c v one all (inr (i, gap, is)) =
    rw is (All-append P _ _ (All-take P i old all) (All-cons P (c, v) _ one (All-drop P i old all)))
