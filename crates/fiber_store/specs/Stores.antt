-- What contracts see of a fiber's store: what it has in its cells, when it is sound for a latch, and which updates are a latch's own.
use Rattle.std.specs.Prelude.{ℕ, ◌+◌, ◌<◌, ◌≡◌, ◌==◌, List, length, filter, All, IsTrue, if◌then◌else◌}
use Rattle.commit_core.specs.Calls.{updates_are_valid}
use Rattle.dt_model.specs.declared.calls.Update.{Update}
use Rattle.dt_model.specs.declared.declared_tensors.Decls.{Decls}
use Rattle.dt_model.specs.Contents.{Contents}
use Rattle.dt_model.specs.Latches.{latch_of_cell}
use Rattle.dt_model.specs.Pairs.{total_at, IsAscending}
use Rattle.dt_model.specs.Tensors.{dims_of, width_of, latches_of_tensor, first_latch, latch_of}
use Rattle.dt_model.specs.Verdicts.{all_in_range, update_cell}
use Rattle.dt_model.specs.Worlds.{decls_are_valid}

-- ---- data

-- the number and the dimensions of the store's tensor, how many leading coordinates each of its fibers has, the number of the store's
-- fiber, the cells with their numbers, and the updates that the store is due
pub record StoreState : Type 0 where
  pub tensor : ℕ
  pub dims : List ℕ
  pub width : ℕ
  pub fiber : ℕ
  pub cells : List (List ℕ × ℕ)
  pub due : List Update

-- ---- functions

-- what cells of tensor t stand for: their numbers, and 0 in every other cell
abbrev pub content_of : ℕ → List (List ℕ × ℕ) → Contents
content_of t cells = λ u c. if t == u then total_at cells c else 0

-- what the store has in each cell
abbrev pub store_content : StoreState → Contents
store_content s = content_of s.tensor s.cells

-- the updates of the cells of latch w, in their order
abbrev pub own : Decls → ℕ → List Update → List Update
own d w updates = filter (λ u. latch_of_cell d (update_cell u) == w) updates

-- ---- facts

-- the coordinates are in range of tensor t, and in the fiber of latch w
pub record IsInFiber (d : Decls) (t w : ℕ) (c : List ℕ) : Type 0 where
  pub in_range : IsTrue (all_in_range (dims_of d t) c)
  pub latch : latch_of d t c ≡ w

-- the store has the tensor and the fiber of latch w; its cells ascend and are all in that fiber; a cell's number may be 0
pub record IsSound (d : Decls) (w : ℕ) (s : StoreState) : Type 0 where
  pub declared : s.tensor < length d.tensors
  pub dims : s.dims ≡ dims_of d s.tensor
  pub width : s.width ≡ width_of d s.tensor
  pub latched : s.fiber < latches_of_tensor d s.tensor
  pub latch : first_latch d s.tensor + s.fiber ≡ w
  pub ascending : IsAscending s.cells
  pub cells : All (λ p. IsInFiber d s.tensor w p.0) s.cells

-- updates of valid cells, by valid declarations
pub record AreValid (d : Decls) (updates : List Update) : Type 0 where
  pub decls : IsTrue (decls_are_valid d)
  pub cells : IsTrue (updates_are_valid d updates)
