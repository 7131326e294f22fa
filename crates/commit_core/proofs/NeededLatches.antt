-- A valid call needs only latches of the World's tensors.
use Rattle.std.proofs.Common.{◌≡◌, ℕ, ◌+◌, ◌-◌, ◌*◌, ◌/◌, ◌<◌, ◌≤◌, Bool, true, false, List, [], ◌∷◌, length, get_or, refl, ap, arith, subst, Option, Some, None, zero, suc, inl, inr, take, sum_by, IsTrue}
use Rattle.std.specs.Prelude.{◌&&◌, ◌==◌, nat_le, nat_lt, slice_get, slice_index, position, nat_eq, if◌then◌else◌}
use Rattle.std.specs.List.{list_any, list_all, position_or_len}
use Rattle.std.specs.Cmp.Lexicographic.{pointwise}
use Rattle.std.proofs.lemmas.Bool.{or_cases}
use Rattle.std.proofs.lemmas.Bool.Decides.{nat_tests, Decides-eqb}
use Rattle.std.proofs.lemmas.Option.{get_or_from_slice_get}
use Rattle.std.proofs.Math.Nat.{div-lt_iff_lt-mul, lt-mul-div-succ}
use Rattle.dt_model.specs.declared.calls.Call.{Call}
use Rattle.dt_model.specs.declared.calls.Call.TheVariants.{Get, Batch, Query}
use Rattle.dt_model.specs.declared.calls.Cell.{Cell}
use Rattle.dt_model.specs.declared.calls.Update.{Update}
use Rattle.dt_model.specs.declared.declared_tensors.Decls.{Decls}
use Rattle.dt_model.specs.Tensors.{latch_count, first_latch, width_in, dims_of, dims_in, latches_in, latches_of_tensor, tensor_named}
use Rattle.dt_model.specs.Statements.{accesses}
use Rattle.dt_model.specs.Latches.{needs, is_latch_of, latch_of_cell}
use Rattle.dt_model.specs.Verdicts.{all_in_range, cell_is_valid, update_cell, call_is_valid}
use Rattle.dt_model.specs.Worlds.{decls_are_valid}
use Rattle.dt_model.specs.declared.limits.TheConstants.{MOST_UPDATES}
use Rattle.dt_model.proofs.Booleans.{both_true}
use Rattle.dt_model.proofs.VerdictsLemmas.{is_declared}
use Rattle.dt_model.proofs.WorldsLemmas.{has_mode_at, has_latch_at}
use Rattle.dt_model.proofs.TensorsLemmas.{first_latch-le}

-- there is an item at each index below the length
pub element : {X : Type 0} (xs : List X) (i : ℕ) → i < length xs → (x : X) × (slice_get xs i ≡ Some x)
element [] i l = absurd (omega arith)
element (x ∷ xs) zero l = (x, refl)
element (x ∷ xs) (suc i) l = element xs i (omega arith)

leads : (ds cs : List ℕ) → all_in_range ds cs ≡ true → 0 < length ds → slice_index cs 0 < slice_index ds 0
leads [] cs h l = absurd (omega arith)
leads (d ∷ ds) [] h l = cc
leads (d ∷ ds) (c ∷ cs) h l = let lt : nat_lt c d ≡ true = (both_true (nat_lt c d) (all_in_range ds cs) h).0 in lt_of c d lt
  where
    lt_of : (a b : ℕ) → nat_lt a b ≡ true → a < b
    lt_of a b e = grind (arith, nat_tests)

fits_below : (c d latches q : ℕ) → 0 < latches → c < d → d + latches - 1 < latches * (q + 1) → c < latches * q
fits_below c d latches q some l room = omega arith

some_width : (c latches q : ℕ) → c < latches * q → 0 < q
some_width c latches zero l = absurd (omega arith)
some_width c latches (suc q) l = omega arith

-- a coordinate in range lies in one of the tensor's fibers
fiber_below : (c d latches : ℕ) → 0 < latches → c < d → c / width_in d latches < latches
fiber_below c d latches some l =
    let q : ℕ = (d + latches - 1) / latches in
    let low : c < latches * q = fits_below c d latches q some l (lt-mul-div-succ (d + latches - 1) some) in
    (div-lt_iff_lt-mul {k = q} {x = c} {y = latches} (some_width c latches q low)).1 low

lt_of : (a b : ℕ) → nat_lt a b ≡ true → a < b
lt_of a b e = grind (arith, nat_tests)

-- the latch of a cell in range is one of its tensor's
pub cell_latch_below : (d : Decls) (cell : Cell) → IsTrue (decls_are_valid d) → cell_is_valid d cell ≡ true → latch_of_cell d cell < latch_count d
cell_latch_below d cell valid h =
    let l : cell.tensor < length d.tensors = is_declared d cell h in
    let x = element d.tensors cell.tensor l in
    let at : get_or d.tensors cell.tensor x.0 ≡ x.0 = get_or_from_slice_get d.tensors cell.tensor x.0 x.0 x.1 in
    let range : all_in_range x.0.dims cell.at ≡ true = subst (λ o. all_in_range (dims_in o) cell.at
    ≡ true) x.1 (both_true (nat_lt cell.tensor (length d.tensors)) (all_in_range (dims_of d cell.tensor) cell.at) h).1 in
    let lead : slice_index cell.at 0 < slice_index x.0.dims 0 = leads x.0.dims cell.at range (has_mode_at d cell x.0 valid h at) in
    let fiber : slice_index cell.at 0 / width_in (slice_index x.0.dims 0) x.0.latches < x.0.latches =
    fiber_below (slice_index cell.at 0) (slice_index x.0.dims 0) x.0.latches (has_latch_at d cell x.0 valid h at) lead in
    let all : sum_by (λ y. y.latches) (take cell.tensor d.tensors) + x.0.latches ≤ latch_count d = first_latch-le d cell.tensor x.0 l at in
    let is : latch_of_cell d cell ≡ first_latch d cell.tensor
    + slice_index cell.at 0 / width_in (slice_index x.0.dims 0) x.0.latches = ap (λ o. first_latch d cell.tensor
    + slice_index cell.at 0 / width_in (slice_index (dims_in o) 0) (latches_in o)) x.1 in
    omega arith

updates_below : (d : Decls) (us : List Update) (l : ℕ) → IsTrue (decls_are_valid d) → list_all (λ u. cell_is_valid d (update_cell u)) us ≡ true
    → list_any (λ u. latch_of_cell d (update_cell u) == l) us ≡ true → l < latch_count d
updates_below d [] l valid all h = cc
updates_below d (u ∷ us) l valid all h =
    let both = both_true (cell_is_valid d (update_cell u)) (list_all (λ x. cell_is_valid d (update_cell x)) us) all in
    elim (or_cases (latch_of_cell d (update_cell u) == l) (list_any (λ x. latch_of_cell d (update_cell x) == l) us) h) [
      | inl own ↦ subst (λ k. k < latch_count d) ((Decides-eqb (latch_of_cell d (update_cell u)) l).0 own) (cell_latch_below d (update_cell u) valid both.0)
      | inr rest ↦ updates_below d us l valid both.1 rest
    ]

place_within : {X : Type 0} (p : X → Bool) (xs : List X) (i : ℕ) → position p xs ≡ Some i → i < length xs
place_within p xs i e = elim (nat_lt (position_or_len p xs) (length xs)) as (λ b. nat_lt (position_or_len p xs) (length xs) ≡ b
    → (if b then Some (position_or_len p xs) else None) ≡ Some i → i < length xs) [
      | true ↦ λ t same. let at : position_or_len p xs ≡ i = cc in subst (λ k. k < length xs) at (lt_of (position_or_len p xs) (length xs) t)
      | false ↦ λ t same. cc
    ] refl e

tensor_below : (d : Decls) (name : List ℕ) (o : Option ℕ) (l : ℕ) → tensor_named d name ≡ o → is_latch_of d l o ≡ true → l < latch_count d
tensor_below d name None l e h = cc
tensor_below d name (Some t) l e h =
    let in' : t < length d.tensors = place_within (λ x. pointwise nat_eq x.name name) d.tensors t e in
    let x = element d.tensors t in' in
    let at : get_or d.tensors t x.0 ≡ x.0 = get_or_from_slice_get d.tensors t x.0 x.0 x.1 in
    let all : sum_by (λ y. y.latches) (take t d.tensors) + x.0.latches ≤ latch_count d = first_latch-le d t x.0 in' at in
    let below : l < first_latch d t + latches_of_tensor d t = lt_of l (first_latch d t
    + latches_of_tensor d t) (both_true (nat_le (first_latch d t) l) (nat_lt l (first_latch d t + latches_of_tensor d t)) h).1 in
    let is : latches_of_tensor d t ≡ x.0.latches = ap latches_in x.1 in
    omega arith

accesses_below : (d : Decls) (as' : List (List ℕ × List ℕ)) (l : ℕ) → list_any (λ a. is_latch_of d l (tensor_named d a.0)) as' ≡ true → l < latch_count d
accesses_below d [] l h = cc
accesses_below d (a ∷ as') l h = elim (or_cases (is_latch_of d l (tensor_named d a.0)) (list_any (λ x. is_latch_of d l (tensor_named d x.0)) as') h) [
  | inl own ↦ tensor_below d a.0 (tensor_named d a.0) l refl own
  | inr rest ↦ accesses_below d as' l rest
]

-- a valid call needs only latches of the World's tensors
pub needs_below : (d : Decls) (call : Call) (l : ℕ) → IsTrue (decls_are_valid d) → call_is_valid d call ≡ true → needs d call l ≡ true → l < latch_count d
needs_below d (Get cell) l valid ok h = subst (λ k. k < latch_count d) ((Decides-eqb (latch_of_cell d cell) l).0 h) (cell_latch_below d cell valid ok)
needs_below d (Batch updates) l valid ok h = updates_below d updates l valid (both_true (nat_le 1 (length updates)
    && nat_le (length updates) MOST_UPDATES) (list_all (λ u. cell_is_valid d (update_cell u)) updates) ok).1 h
needs_below d (Query stmt) l valid ok h = accesses_below d (accesses stmt.right) l h
