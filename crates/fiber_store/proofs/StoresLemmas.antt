-- What a store has in each cell after an update, and that it stays sound.
use Rattle.std.proofs.Common.{◌≡◌, ℕ, ◌+◌, ◌%◌, ◌^◌, ◌<◌, Bool, true, false, List, refl, ap, sym, ◌∙◌, subst, arith, All}
use Rattle.std.specs.Prelude.{◌&&◌, ◌==◌, if◌then◌else◌, nat_eq}
use Rattle.std.specs.Cmp.Lexicographic.{pointwise}
use Rattle.std.proofs.lemmas.Bool.Decides.{nat_tests}
use Rattle.std.proofs.lemmas.List.Elements.{All-weaker}
use Rattle.commit_core.specs.Cells.{Cells, Puts, without_zeros}
use Rattle.dt_model.specs.declared.calls.Cell.{Cell}
use Rattle.dt_model.specs.declared.calls.Update.{Update}
use Rattle.dt_model.specs.declared.calls.Update.TheVariants.{Set, Add}
use Rattle.dt_model.specs.declared.declared_tensors.Decls.{Decls}
use Rattle.dt_model.specs.Contents.{with_cell, with_update}
use Rattle.dt_model.specs.Pairs.{total_at, IsAscending}
use Rattle.dt_model.specs.Statements.{all_below, nonzeros}
use Rattle.dt_model.specs.Tensors.{dims_of}
use Rattle.dt_model.specs.Verdicts.{all_in_range, update_cell}
use Rattle.fiber_store.specs.declared.fibers.Fiber.{Fiber}
use Rattle.fiber_store.specs.Fibers.{Writes, has_cell, number_after, state_of}
use Rattle.fiber_store.specs.Stores.{StoreState, IsInFiber, IsSound, content_of, store_content}
use Rattle.fiber_store.proofs.FibersLemmas.{All-Writes, IsAscending-Writes, IsInFiber-has_cell, Puts-Writes, tensor-has_cell}
use Rattle.fiber_store.proofs.NonzerosLemmas.{without_zeros-nonzeros}

-- ---- contents

own_tensor : (t : ℕ) → (t == t) ≡ true
own_tensor t = grind (arith, nat_tests)

-- the numbers in the tensor's own cells
pub content_of-own : (t : ℕ) (cells : Cells) (c : List ℕ) → content_of t cells t c ≡ total_at cells c
content_of-own t cells c = ap (λ b. if b then total_at cells c else 0) (own_tensor t)

-- a number that is put into a cell of the tensor
pub content_of-Puts : (t : ℕ) (c : List ℕ) (v : ℕ) (old new : Cells) → Puts old new c v → content_of t new ≡ with_cell (content_of t old) t c v
content_of-Puts t c v old new puts = λ i u d. go u d (t == u) i
  where
    go : (u : ℕ) (d : List ℕ) (b : Bool) → (if b then total_at new d else 0) ≡ (if b && pointwise nat_eq c d then v else (if b then total_at old d else 0))
    go u d true = puts d
    go u d false = refl

-- an update that is made in a cell of the tensor
pub content_of-with_update : (t : ℕ) (u : Update) (old new : Cells) (v : ℕ) → (update_cell u).tensor ≡ t → v ≡ number_after (total_at old) u
    → Puts old new (update_cell u).at v → content_of t new ≡ with_update (content_of t old) u
content_of-with_update t (Set cell n) old new v same is puts =
    content_of-Puts t cell.at v old new puts ∙ ap (λ k. with_cell (content_of t old) t cell.at k) is
    ∙ ap (λ x. with_cell (content_of t old) x cell.at n) (sym same)
content_of-with_update t (Add cell n) old new v same is puts =
    content_of-Puts t cell.at v old new puts ∙ ap (λ k. with_cell (content_of t old) t cell.at k) is
    ∙ ap (λ k. with_cell (content_of t old) t cell.at ((k + n) % 2 ^ 64)) (sym (content_of-own t old cell.at))
    ∙ ap (λ x. with_cell (content_of t old) x cell.at ((content_of t old x cell.at + n) % 2 ^ 64)) (sym same)

-- the update that a whole store is due first leaves it with the update made
pub content_of-due : (f : Fiber) (u : Update) (old new : Cells) (v : ℕ) → has_cell f (update_cell u) ≡ true → v < 2 ^ 64 → IsAscending old
    → v ≡ number_after (total_at old) u → Writes old new (update_cell u).at v
    → content_of f.tensor new ≡ with_update (content_of f.tensor old) u
content_of-due f u old new v has small up is written =
    content_of-with_update f.tensor u old new v (tensor-has_cell f (update_cell u) has) is (Puts-Writes old new (update_cell u).at v small up written)

-- ---- sound stores

-- a store is as sound as before, whatever it is due
pub IsSound-due : (d : Decls) (w : ℕ) (f : Fiber) (cells : Cells) (before after : List Update) → IsSound d w (state_of f cells before)
    → IsSound d w (state_of f cells after)
IsSound-due d w f cells before after sound = record {
  declared = sound.declared;
  dims = sound.dims;
  width = sound.width;
  latched = sound.latched;
  latch = sound.latch;
  ascending = sound.ascending;
  cells = sound.cells;
}

-- a number that is written in one of the fiber's cells leaves a store sound
pub IsSound-Writes : (d : Decls) (w : ℕ) (f : Fiber) (cell : Cell) (v : ℕ) (old new : Cells) (before after : List Update) → has_cell f cell ≡ true
    → Writes old new cell.at v → IsSound d w (state_of f old before) → IsSound d w (state_of f new after)
IsSound-Writes d w f cell v old new before after has written sound = record {
  declared = sound.declared;
  dims = sound.dims;
  width = sound.width;
  latched = sound.latched;
  latch = sound.latch;
  ascending = IsAscending-Writes old new cell.at v sound.ascending written;
  cells = All-Writes (λ (p : List ℕ × ℕ). IsInFiber d f.tensor w p.0) old new cell.at v (IsInFiber-has_cell d w f old before cell sound has) sound.cells
      written;
}

-- the cells of a sound store without zeros are the nonzeros of what it has in its tensor
pub without_zeros-sound : (d : Decls) (w : ℕ) (s : StoreState) (pairs : Cells) → IsSound d w s → pairs ≡ without_zeros s.cells
    → All (λ (p : List ℕ × ℕ). p.1 < 2 ^ 64) pairs → pairs ≡ nonzeros (store_content s s.tensor) (all_below (dims_of d s.tensor))
without_zeros-sound d w s pairs sound is small =
    is ∙ without_zeros-nonzeros (dims_of d s.tensor) (store_content s s.tensor) s.cells sound.ascending
    (All-weaker (λ (p : List ℕ × ℕ). IsInFiber d s.tensor w p.0) (λ (p : List ℕ × ℕ). all_in_range (dims_of d s.tensor) p.0
    ≡ true) (λ p h. h.in_range) s.cells sound.cells) (subst (All (λ (p : List ℕ × ℕ). p.1 < 2 ^ 64)) is small) (λ c. content_of-own s.tensor s.cells c)
