-- The stores of an engine that is opened: the loaded lines, cut into the fibers of their latches. No public clause cites this module.
use Rattle.std.specs.Prelude.{◌≡◌, ◌≢◌, ℕ, ◌<◌, ◌≤◌, ◌++◌, false, List, ◌∷◌, length, drop, take, slice_index_or, All, IsTrue}
use Rattle.dt_model.specs.declared.declared_tensors.Decls.{Decls}
use Rattle.dt_model.specs.Contents.{Contents}
use Rattle.dt_model.specs.Pairs.{IsAscending, total_at}
use Rattle.dt_model.specs.Tensors.{dims_of, latch_of}
use Rattle.dt_model.specs.Verdicts.{all_in_range, cell_is_valid}
use Rattle.fiber_store.specs.Stores.{StoreState, IsInFiber}
use Rattle.sessions.specs.HeldTables.{IsFiberOf}

-- nothing lies outside the declared tensors and their dimensions
abbrev pub IsInside : Decls → Contents → Type 0
IsInside d m = (t : ℕ) (c : List ℕ) → cell_is_valid d (record { tensor = t; at = c }) ≡ false → m t c ≡ 0

-- the rows ascend, are in range, and add up to the contents of tensor t
pub record AreRowsOf (d : Decls) (m : Contents) (t : ℕ) (rows : List (List ℕ × ℕ)) : Type 0 where
  pub ascending : IsAscending rows
  pub in_range : All (λ p. IsTrue (all_in_range (dims_of d t) p.0)) rows
  pub total : (c : List ℕ) → total_at rows c ≡ m t c

-- each row is of a latch of which P holds
abbrev pub AllHaveLatch : Decls → ℕ → (ℕ → Type 0) → List (List ℕ × ℕ) → Type 0
AllHaveLatch d t P rows = All (λ (p : List ℕ × ℕ). P (latch_of d t p.0)) rows

-- the rows before place `from` are of latches below l, and those from there on of no such latch
pub record IsCutAt (d : Decls) (t l : ℕ) (rows : List (List ℕ × ℕ)) (from : ℕ) : Type 0 where
  pub within : from ≤ length rows
  pub below : AllHaveLatch d t (λ k. k < l) (take from rows)
  pub above : AllHaveLatch d t (λ k. l ≤ k) (drop from rows)

-- the run is what the rows have from one place to another, all in the fiber of latch l; the row behind it, if there is one, isn't
pub record IsRunOf (d : Decls) (t l : ℕ) (rows : List (List ℕ × ℕ)) (from to : ℕ) (run : List (List ℕ × ℕ)) : Type 0 where
  pub order : from ≤ to
  pub within : to ≤ length rows
  pub cut : drop from rows ≡ run ++ drop to rows
  pub own : All (λ p. IsInFiber d t l p.0) run
  pub next : (p : List ℕ × ℕ) (rest : List (List ℕ × ℕ)) → drop to rows ≡ p ∷ rest → latch_of d t p.0 ≢ l

-- there are n stores, each of which has what the contents have in the cells of its latch
pub record AreFibersBelow (d : Decls) (m : Contents) (n : ℕ) (stores : List StoreState) : Type 0 where
  pub count : length stores ≡ n
  pub each : (l : ℕ) (s : StoreState) → l < n → IsFiberOf d m l (slice_index_or stores l s)
