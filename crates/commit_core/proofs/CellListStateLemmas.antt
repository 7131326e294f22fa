-- What a change of one tensor's cells does to the cells, orders and contents of all.
use Rattle.std.proofs.Common.{◌≡◌, ◌≢◌, ℕ, ◌<◌, true, false, List, [], ◌∷◌, ◌++◌, zero, suc, length, get_or, set, take, drop, refl, ap, sym, ◌∙◌, subst, arith, Some}
use Rattle.std.specs.Prelude.{if◌then◌else◌, nat_eq, ◌==◌, ◌&&◌, slice_get}
use Rattle.std.specs.Cmp.Lexicographic.{pointwise}
use Rattle.std.proofs.lemmas.List.{take_at, get_or-set_same, get_or-set_other, get_or_default, map-set}
use Rattle.std.proofs.lemmas.Bool.Decides.{nat_tests}
use Rattle.std.proofs.Math.Seq.{map-set_same}
use Rattle.dt_model.specs.Contents.{with_cell}
use Rattle.dt_model.specs.Pairs.{total_at}
use Rattle.commit_core.specs.Cells.{Cells, contents_of, Puts}
use Rattle.commit_core.specs.CellListState.{CellListState, all_cells, all_orders}

-- ---- one list that is changed

-- a list with the same cells
pub all_cells-kept : (xs : List CellListState) (i : ℕ) (x y : CellListState) → y.cells ≡ (get_or xs i x).cells → all_cells (set xs i y) ≡ all_cells xs
all_cells-kept xs i x y same = map-set_same (λ t. t.cells) xs i y x same

-- a list of the same order
pub all_orders-kept : (xs : List CellListState) (i : ℕ) (x y : CellListState) → y.order ≡ (get_or xs i x).order → all_orders (set xs i y) ≡ all_orders xs
all_orders-kept xs i x y same = map-set_same (λ t. t.order) xs i y x same

-- there are as many lists of cells as tensors
pub length-all_cells : (xs : List CellListState) → length (all_cells xs) ≡ length xs
length-all_cells [] = refl
length-all_cells (x ∷ xs) = ap suc (length-all_cells xs)

-- there are as many orders as tensors
pub length-all_orders : (xs : List CellListState) → length (all_orders xs) ≡ length xs
length-all_orders [] = refl
length-all_orders (x ∷ xs) = ap suc (length-all_orders xs)

cells_at : (xs : List CellListState) (i : ℕ) (x : CellListState) → (get_or xs i x).cells ≡ get_or (all_cells xs) i x.cells
cells_at [] i x = refl
cells_at (z ∷ xs) zero x = refl
cells_at (z ∷ xs) (suc i) x = cells_at xs i x

total-put : (ts : List Cells) (i : ℕ) (c : List ℕ) (v : ℕ) (old new : Cells) → i < length ts → old ≡ get_or ts i [] → Puts old new c v
    → (t : ℕ) (d : List ℕ) → total_at (get_or (set ts i new) t []) d ≡ (if (i == t) && pointwise nat_eq c d then v else total_at (get_or ts t []) d)
total-put ts i c v old new l at puts t d = elim (i == t) as (λ b. (i == t) ≡ b → total_at (get_or (set ts i new) t []) d
    ≡ (if b && pointwise nat_eq c d then v else total_at (get_or ts t []) d)) [
      | true ↦ λ e.
          let same : i ≡ t = grind (arith, nat_tests) in
          subst (λ u. total_at (get_or (set ts i new) u []) d ≡ (if pointwise nat_eq c d then v else total_at (get_or ts u []) d)) same
          (ap (λ ps. total_at ps d) (get_or-set_same ts i new [] l) ∙ puts d ∙ ap (λ ps. if pointwise nat_eq c d then v else total_at ps d) at)
      | false ↦ λ e. let other : t ≢ i = grind (arith, nat_tests) in ap (λ ps. total_at ps d) (get_or-set_other ts i t new [] other)
    ] refl

-- a number that is put into a cell of one tensor
pub contents-put : (xs : List CellListState) (i : ℕ) (c : List ℕ) (v : ℕ) (x y : CellListState) → i < length xs → Puts (get_or xs i x).cells y.cells c v
    → contents_of (all_cells (set xs i y)) ≡ with_cell (contents_of (all_cells xs)) i c v
contents-put xs i c v x y l puts = λ k t d. (
    ap (λ ts. total_at (get_or ts t []) d) (map-set (λ (z : CellListState). z.cells) xs i y)
    ∙ total-put (all_cells xs) i c v (get_or xs i x).cells y.cells (subst (λ n. i < n) (sym (length-all_cells xs)) l)
    (cells_at xs i x ∙ get_or_default (all_cells xs) i x.cells [] (subst (λ n. i < n) (sym (length-all_cells xs)) l)) puts t d
    ) k

-- ---- the order of a tensor

-- a tensor that has an order is one of the tensors
pub within-all_orders : (xs : List CellListState) (t n : ℕ) → slice_get (all_orders xs) t ≡ Some n → t < length xs
within-all_orders [] t n e = cc
within-all_orders (x ∷ xs) zero n e = omega arith
within-all_orders (x ∷ xs) (suc t) n e = let rest = within-all_orders xs t n e in omega (arith, rest)

-- the order of the tensor at an index
pub order-all_orders : (xs : List CellListState) (t n : ℕ) → slice_get (all_orders xs) t ≡ Some n → (d : CellListState) → n ≡ (get_or xs t d).order
order-all_orders [] t n e d = cc
order-all_orders (x ∷ xs) zero n e d = cc
order-all_orders (x ∷ xs) (suc t) n e d = order-all_orders xs t n e d

-- ---- slices

-- a slice of all items that was changed is all items
pub whole : {A : Type 0} (n : ℕ) (new old : List A) → length new ≡ n → take n (new ++ drop (length new) old) ≡ new
whole n new old e = take_at new (drop (length new) old) n e
