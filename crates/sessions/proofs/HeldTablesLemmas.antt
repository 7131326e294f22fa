-- The tables of a query over the stores that are held: one more, and what they are to an answer.
use Rattle.std.proofs.Common.{◌≡◌, ◌≢◌, ◌<◌, ◌+◌, ℕ, ◌++◌, Bool, true, false, cond, List, [], ◌∷◌, refl, ap, arith, sym, ◌∙◌, subst, Option, Some, None, length, get_or, IsTrue}
use Rattle.std.specs.Prelude.{◌||◌, nat_eq, nat_le, nat_lt, slice_get, is_none}
use Rattle.std.proofs.lemmas.Bool.Decides.{nat_tests}
use Rattle.dt_model.specs.declared.calls.Call.TheVariants.{Query}
use Rattle.dt_model.specs.declared.calls.Entry.{Entry}
use Rattle.dt_model.specs.declared.declared_tensors.Decls.{Decls}
use Rattle.dt_model.specs.declared.replies.World.{World}
use Rattle.dt_model.specs.declared.statements.Stmt.{Stmt}
use Rattle.dt_model.specs.Contents.{Contents}
use Rattle.dt_model.specs.Latches.{is_latch_of, needs}
use Rattle.dt_model.specs.Runs.{contents_after}
use Rattle.dt_model.specs.Statements.{accesses}
use Rattle.dt_model.specs.Tensors.{first_latch, latch_count, latches_of_tensor, tensor_named}
use Rattle.dt_model.proofs.Booleans.{both_true}
use Rattle.commit_core.proofs.NeededLatches.{element}
use Rattle.std.proofs.lemmas.Option.{get_or_from_slice_get}
use Rattle.fiber_latch.specs.Views.{In}
use Rattle.fiber_store.specs.Stores.{StoreState, IsSound, store_content}
use Rattle.slow_eval.specs.Contents.{rows_for}
use Rattle.slow_eval.specs.Given.{AreTablesOf, has_entry}
use Rattle.slow_eval.proofs.GivenLemmas.{rows_for-added, has_entry-added}
use Rattle.sessions.specs.declared.hands.Hand.{Hand}
use Rattle.sessions.specs.Closing.{AreStoresAfter}
use Rattle.sessions.specs.HeldTables.{AddsFiber, AddsStore, AreFibersFor, AreFibersOf, AreHeldTables, HoldsEach, IsFiberOf, IsHeldTable, IsStoreAt}
use Rattle.sessions.specs.QueryTables.{HaveTables}
use Rattle.sessions.proofs.LatchNumbers.{latches_below}
use Rattle.sessions.proofs.NeedingLemmas.{any_at}

-- ---- one fiber more

-- the store that was found has what the contents have
pub IsFiberOf-at : (d : Decls) (m : Contents) (hands : List (Hand StoreState)) (l : ℕ) (s : StoreState) → AreFibersOf d m hands → IsStoreAt hands l s
    → IsFiberOf d m l s
IsFiberOf-at d m hands l s are at = subst (λ (p : ℕ × StoreState). IsFiberOf d m p.0 p.1) (λ i. (at.2 i, at.3 i)) (are at.0 at.1)

-- a store that was found and added
pub AddsStore-some : (is : StoreState → Type 0) (old new : List (List ℕ × ℕ)) (s : StoreState) → is s → AddsFiber old new s → AddsStore is old new
AddsStore-some is old new s here adds there = (s, here, adds)

-- no store was found, although there is one
pub AddsStore-none : (is : StoreState → Type 0) (old new : List (List ℕ × ℕ)) → ((s : StoreState) → ¬ is s) → AddsStore is old new
AddsStore-none is old new none there = absurd (none there.0 there.1)

-- the stores that are held are those of a tensor, if all its latches are held
pub AreFibersFor-held : (d : Decls) (m : Contents) (hands : List (Hand StoreState)) (t : ℕ) → AreFibersOf d m hands
    → HoldsEach (λ l. is_latch_of d l (Some t)) hands → AreFibersFor (λ l s. IsStoreAt hands l s) d m t
AreFibersFor-held d m hands t are each = record {
  there = λ l own. let h = each l own in (h.0.store, (h.0, h.1, h.2, refl));
  fiber = λ l s own at. IsFiberOf-at d m hands l s are at;
}

-- ---- one table more

same_number : (a b : ℕ) → nat_eq a b ≡ true → a ≡ b
same_number a b h = grind (arith, nat_tests)

added_by : (d : Decls) (hands : List (Hand StoreState)) (tables : List (ℕ × List (List ℕ × ℕ))) (e : ℕ × List (List ℕ × ℕ)) (t : ℕ) (had is : Bool)
    → has_entry tables t ≡ had → nat_eq e.0 t ≡ is → (had || is) ≡ true → AreHeldTables d hands tables → IsHeldTable d hands e.0 e.1
    → IsHeldTable d hands t (cond had (rows_for tables (Some t)) (cond is e.1 []))
added_by d hands tables e t true is h i k old new = old t h
added_by d hands tables e t false true h i k old new = subst (λ n. IsHeldTable d hands n e.1) (same_number e.0 t i) new
added_by d hands tables e t false false h i k old new = absurd (cc)

-- one table more
pub AreHeldTables-added : (d : Decls) (hands : List (Hand StoreState)) (tables : List (ℕ × List (List ℕ × ℕ))) (e : ℕ × List (List ℕ × ℕ))
    → AreHeldTables d hands tables → IsHeldTable d hands e.0 e.1 → AreHeldTables d hands (tables ++ e ∷ [])
AreHeldTables-added d hands tables e old new t has =
    subst (IsHeldTable d hands t) (sym (rows_for-added tables e t))
    (added_by d hands tables e t (has_entry tables t) (nat_eq e.0 t) refl refl (sym (has_entry-added tables e t) ∙ has) old new)

-- ---- those of a statement

-- all latches of a tensor that a statement names are held
named_latches : (d : Decls) (hands : List (Hand StoreState)) (s : Stmt) (k t : ℕ) (a : List ℕ × List ℕ) → HoldsEach (needs d (Query s)) hands
    → k < length (accesses s.right) → tensor_named d (get_or (accesses s.right) k a).0 ≡ Some t → HoldsEach (λ l. is_latch_of d l (Some t)) hands
named_latches d hands s k t a holds l is latch h =
    holds latch (any_at (λ a. is_latch_of d latch (tensor_named d a.0)) (accesses s.right) k a l (ap (is_latch_of d latch) is ∙ h))

-- the tables are those of the statement, in all contents that the stores have
pub AreTablesOf-held : (d : Decls) (m : Contents) (hands : List (Hand StoreState)) (s : Stmt) (tables : List (ℕ × List (List ℕ × ℕ)))
    → AreHeldTables d hands tables → HaveTables d tables (accesses s.right) → AreFibersOf d m hands → HoldsEach (needs d (Query s)) hands
    → AreTablesOf d m s tables
AreTablesOf-held d m hands s tables are have fibers holds = λ k a l t is.
    are t (have k a l t is) m fibers (named_latches d hands s k t a holds l is)

-- ---- the stores of a closed run

-- a store of a closed run has what the entries leave in its latch's cells
pub IsFiberOf-closed : (d : Decls) (w : World) (seen : List Entry) (stores : List StoreState) (l : ℕ) (s : StoreState) → w.decls ≡ d
    → AreStoresAfter w seen stores → l < length stores → get_or stores l s ≡ s → IsFiberOf d (contents_after w seen) l s
IsFiberOf-closed d w seen stores l s same are below at =
    let kept = are.2.each l s below in
    subst (λ x. IsFiberOf x (contents_after w seen) l s) same (record {
      sound = subst (λ x. IsSound w.decls l x) at kept.0;
      content = ap store_content (sym at) ∙ kept.1;
    })

-- where an option has nothing it is none
pub is_none-true : {X : Type 0} (o : Option X) → is_none o ≡ true → o ≡ None
is_none-true None h = refl
is_none-true (Some x) h = absurd (cc)

-- the store of a latch in a closed run
pub closed_store : (d : Decls) (w : World) (seen : List Entry) (stores : List StoreState) (l : ℕ) → w.decls ≡ d → AreStoresAfter w seen stores → l <
    latch_count d
    → (s : StoreState) × (slice_get stores l ≡ Some s) × IsFiberOf d (contents_after w seen) l s
closed_store d w seen stores l same are below =
    let many : length stores ≡ latch_count d = are.2.count ∙ ap latch_count same in
    let x = element stores l (omega (arith, many, below)) in
    (x.0, x.1, IsFiberOf-closed d w seen stores l x.0 same are (omega (arith, many, below)) (get_or_from_slice_get stores l x.0 x.0 x.1))

-- the stores of a closed run are those of each tensor
pub AreFibersFor-closed : (d : Decls) (w : World) (seen : List Entry) (stores : List StoreState) (t : ℕ) → t < length d.tensors → w.decls ≡ d
    → AreStoresAfter w seen stores → AreFibersFor (λ l s. slice_get stores l ≡ Some s) d (contents_after w seen) t
AreFibersFor-closed d w seen stores t declared same are = record {
  there = λ l own. let s = closed_store d w seen stores l same are (below l own) in (s.0, s.1);
  fiber = λ l s own look.
      let many : length stores ≡ latch_count d = are.2.count ∙ ap latch_count same in
      let b = below l own in
      IsFiberOf-closed d w seen stores l s same are (omega (arith, many, b)) (get_or_from_slice_get stores l s s look);
}
  where
    lt_of : (a b : ℕ) → nat_lt a b ≡ true → a < b
    lt_of a b e = grind (arith, nat_tests)

    below : (l : ℕ) → IsTrue (is_latch_of d l (Some t)) → l < latch_count d
    below l own =
        let high = lt_of l (first_latch d t + latches_of_tensor d t) (both_true (nat_le (first_latch d t) l) (nat_lt l (first_latch d t
        + latches_of_tensor d t)) own).1 in
        let all = latches_below d t declared in
        omega (arith, high, all)
