-- The cells of a valid call have the orders of their tensors.
use Rattle.std.proofs.Common.{◌≡◌, ℕ, true, List, [], ◌∷◌, zero, suc, length, refl, ap, ◌∙◌, Some, map, subst}
use Rattle.std.specs.Prelude.{◌&&◌, nat_lt, nat_le, slice_get}
use Rattle.std.specs.List.{list_all}
use Rattle.std.proofs.lemmas.List.Elements.{All-weaker}
use Rattle.std.proofs.lemmas.List.Sums.{AllPass-from_list_all}
use Rattle.dt_model.specs.declared.calls.Call.{Call}
use Rattle.dt_model.specs.declared.calls.Call.TheVariants.{Get, Batch, Query}
use Rattle.dt_model.specs.declared.calls.Cell.{Cell}
use Rattle.dt_model.specs.declared.calls.Update.{Update}
use Rattle.dt_model.specs.declared.declared_tensors.Decls.{Decls}
use Rattle.dt_model.specs.declared.limits.TheConstants.{MOST_UPDATES}
use Rattle.dt_model.specs.Tensors.{dims_of, dims_in}
use Rattle.dt_model.specs.Verdicts.{all_in_range, cell_is_valid, update_cell, call_is_valid}
use Rattle.dt_model.proofs.Booleans.{both_true}
use Rattle.dt_model.proofs.VerdictsLemmas.{is_declared}
use Rattle.commit_core.specs.Orders.{orders_of, IsCellOf, IsCallOf}
use Rattle.commit_core.proofs.NeededLatches.{element}

-- coordinates in range are as many as the dimensions
pub length-all_in_range : (ds cs : List ℕ) → all_in_range ds cs ≡ true → length cs ≡ length ds
length-all_in_range [] [] h = refl
length-all_in_range [] (c ∷ cs) h = cc
length-all_in_range (d ∷ ds) [] h = cc
length-all_in_range (d ∷ ds) (c ∷ cs) h = ap suc (length-all_in_range ds cs (both_true (nat_lt c d) (all_in_range ds cs) h).1)

-- what is seen of an item is at its index among what is seen of all
pub slice_get-map : {X : Type 0} {Y : Type 0} (f : X → Y) (xs : List X) (i : ℕ) (x : X) → slice_get xs i ≡ Some x → slice_get (map f xs) i ≡ Some (f x)
slice_get-map f [] i x e = cc
slice_get-map f (y ∷ ys) zero x e = cc
slice_get-map f (y ∷ ys) (suc i) x e = slice_get-map f ys i x e

-- a valid cell has the order of its tensor
pub IsCellOf-valid : (d : Decls) (cell : Cell) → cell_is_valid d cell ≡ true → IsCellOf (orders_of d) cell
IsCellOf-valid d cell h =
    let x = element d.tensors cell.tensor (is_declared d cell h) in
    let range : all_in_range x.0.dims cell.at ≡ true = subst (λ o. all_in_range (dims_in o) cell.at
    ≡ true) x.1 (both_true (nat_lt cell.tensor (length d.tensors)) (all_in_range (dims_of d cell.tensor) cell.at) h).1 in
    slice_get-map (λ t. length t.dims) d.tensors cell.tensor x.0 x.1
    ∙ ap Some (same (length cell.at) (length x.0.dims) (length-all_in_range x.0.dims cell.at range))
  where
    same : (a b : ℕ) → a ≡ b → b ≡ a
    same a b e = cc

-- the cells of a valid call have the orders of their tensors
pub IsCallOf-valid : (d : Decls) (call : Call) → call_is_valid d call ≡ true → IsCallOf (orders_of d) call
IsCallOf-valid d (Get cell) h = IsCellOf-valid d cell h
IsCallOf-valid d (Batch updates) h = All-weaker (λ (u : Update). cell_is_valid d (update_cell u)
    ≡ true) (λ u. IsCellOf (orders_of d) (update_cell u)) (λ u e. IsCellOf-valid d (update_cell u) e) updates
    (AllPass-from_list_all (λ u. cell_is_valid d (update_cell u)) updates (both_true (nat_le 1 (length updates)
    && nat_le (length updates) MOST_UPDATES) (list_all (λ u. cell_is_valid d (update_cell u)) updates) h).1)
IsCallOf-valid d (Query stmt) h = tt
