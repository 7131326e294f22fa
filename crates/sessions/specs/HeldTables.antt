-- The tables that a query is answered over: those of the stores that a seat holds. No public clause cites this module.
use Rattle.std.specs.Prelude.{◌≡◌, ℕ, ◌++◌, Bool, true, List, Some, IsTrue}
use Rattle.dt_model.specs.declared.declared_tensors.Decls.{Decls}
use Rattle.dt_model.specs.Contents.{Contents}
use Rattle.dt_model.specs.Latches.{is_latch_of}
use Rattle.dt_model.specs.Runs.{restricted_to}
use Rattle.dt_model.specs.Statements.{all_below, nonzeros}
use Rattle.dt_model.specs.Tensors.{dims_of}
use Rattle.fiber_latch.specs.Views.{In}
use Rattle.fiber_store.specs.Stores.{StoreState, IsSound, store_content}
use Rattle.slow_eval.specs.Contents.{rows_for}
use Rattle.slow_eval.specs.Given.{has_entry}
use Rattle.sessions.specs.declared.hands.Hand.{Hand}

-- the store has the shape of latch l, and what the contents have in its cells
pub record IsFiberOf (d : Decls) (m : Contents) (l : ℕ) (s : StoreState) : Type 0 where
  pub sound : IsSound d l s
  pub content : store_content s ≡ restricted_to d m l

-- each store that is held has what the contents have in its latch's cells
abbrev pub AreFibersOf : Decls → Contents → List (Hand StoreState) → Type 0
AreFibersOf d m hands = (h : Hand StoreState) → In h hands → IsFiberOf d m h.latch h.store

-- each of these latches is held
abbrev pub HoldsEach : (ℕ → Bool) → List (Hand StoreState) → Type 0
HoldsEach latches hands = (l : ℕ) → IsTrue (latches l) → (h : Hand StoreState) × In h hands × (h.latch ≡ l)

-- the pairs are a tensor's nonzeros in all contents that the stores have, if all its latches are held
abbrev pub IsHeldTable : Decls → List (Hand StoreState) → ℕ → List (List ℕ × ℕ) → Type 0
IsHeldTable d hands t pairs = (m : Contents) → AreFibersOf d m hands → HoldsEach (λ l. is_latch_of d l (Some t)) hands
    → pairs ≡ nonzeros (m t) (all_below (dims_of d t))

-- each tensor that has a table has its nonzeros there
abbrev pub AreHeldTables : Decls → List (Hand StoreState) → List (ℕ × List (List ℕ × ℕ)) → Type 0
AreHeldTables d hands tables = (t : ℕ) → has_entry tables t ≡ true → IsHeldTable d hands t (rows_for tables (Some t))

-- the store that was found is one that is held under this latch
abbrev pub IsStoreAt : List (Hand StoreState) → ℕ → StoreState → Type 0
IsStoreAt hands l s = (h : Hand StoreState) × In h hands × (h.latch ≡ l) × (h.store ≡ s)

-- the pairs are put at the end that a store has in its tensor's cells, whatever it is sound for
pub record AddsFiber (old new : List (List ℕ × ℕ)) (s : StoreState) : Type 0 where
  pub pairs : List (List ℕ × ℕ)
  pub added : new ≡ old ++ pairs
  pub value : (d : Decls) (l : ℕ) → IsSound d l s → pairs ≡ nonzeros (store_content s s.tensor) (all_below (dims_of d s.tensor))

-- the pairs of a store of this kind are put at the end, if there is one
abbrev pub AddsStore : (StoreState → Type 0) → List (List ℕ × ℕ) → List (List ℕ × ℕ) → Type 0
AddsStore is old new = ((s : StoreState) × is s) → (s : StoreState) × is s × AddsFiber old new s

-- where `has` says which stores latches have: each latch of tensor t has one, which has what the contents have in its cells
pub record AreFibersFor (has : ℕ → StoreState → Type 0) (d : Decls) (m : Contents) (t : ℕ) : Type 0 where
  pub there : (l : ℕ) → IsTrue (is_latch_of d l (Some t)) → (s : StoreState) × has l s
  pub fiber : (l : ℕ) (s : StoreState) → IsTrue (is_latch_of d l (Some t)) → has l s → IsFiberOf d m l s
