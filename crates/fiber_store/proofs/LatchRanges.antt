-- The latches of a tensor lie together, before those of the next one.
use Rattle.std.proofs.Common.{◌≡◌, ℕ, ◌+◌, ◌-◌, ◌*◌, ◌/◌, ◌<◌, ◌≤◌, true, List, [], ◌∷◌, length, get_or, ap, arith, subst, zero, suc, inl, inr, take, IsTrue}
use Rattle.std.specs.Prelude.{nat_lt, slice_get, slice_index}
use Rattle.std.proofs.lemmas.Bool.{cases_lt}
use Rattle.std.proofs.lemmas.Bool.Decides.{nat_tests}
use Rattle.std.proofs.lemmas.List.Sums.{sum_by-cons}
use Rattle.std.proofs.lemmas.Option.{get_or_from_slice_get}
use Rattle.std.proofs.Math.Nat.{div-lt_iff_lt-mul, lt-mul-div-succ}
use Rattle.dt_model.specs.declared.calls.Cell.{Cell}
use Rattle.dt_model.specs.declared.declared_tensors.Decls.{Decls}
use Rattle.dt_model.specs.declared.declared_tensors.TensorDecl.{TensorDecl}
use Rattle.dt_model.specs.Latches.{latch_of_cell}
use Rattle.dt_model.specs.Tensors.{dims_in, dims_of, first_latch, latches_in, latches_of_tensor, total_latches, width_in}
use Rattle.dt_model.specs.Verdicts.{all_in_range, cell_is_valid}
use Rattle.dt_model.specs.Worlds.{decls_are_valid}
use Rattle.dt_model.proofs.Booleans.{both_true}
use Rattle.dt_model.proofs.VerdictsLemmas.{is_declared}
use Rattle.dt_model.proofs.WorldsLemmas.{has_mode_at, has_latch_at}
use Rattle.commit_core.proofs.NeededLatches.{element}

-- ---- tensors in order

before : (ts : List TensorDecl) (t u : ℕ) → t < u → t < length ts → total_latches (take t ts) + latches_in (slice_get ts t) ≤ total_latches (take u ts)
before [] t u l within = absurd (omega arith)
before (x ∷ ts) t zero l within = absurd (omega arith)
before (x ∷ ts) zero (suc u) l within = let all = sum_by-cons (λ (y : TensorDecl). y.latches) x (take u ts) in omega (arith, all)
before (x ∷ ts) (suc t) (suc u) l within =
    let rest = before ts t u (omega arith) (omega arith) in
    let low = sum_by-cons (λ (y : TensorDecl). y.latches) x (take t ts) in
    let high = sum_by-cons (λ (y : TensorDecl). y.latches) x (take u ts) in
    omega (arith, rest, low, high)

-- the latches of a tensor come before those of a later one
pub latches_before : (d : Decls) (t u : ℕ) → t < u → t < length d.tensors → first_latch d t + latches_of_tensor d t ≤ first_latch d u
latches_before d t u l within = before d.tensors t u l within

-- ---- fibers of one tensor

lt_of : (a b : ℕ) → nat_lt a b ≡ true → a < b
lt_of a b e = grind (arith, nat_tests)

leads : (ds cs : List ℕ) → all_in_range ds cs ≡ true → 0 < length ds → slice_index cs 0 < slice_index ds 0
leads [] cs h l = absurd (omega arith)
leads (d ∷ ds) [] h l = cc
leads (d ∷ ds) (c ∷ cs) h l = let lt : nat_lt c d ≡ true = (both_true (nat_lt c d) (all_in_range ds cs) h).0 in lt_of c d lt

fits_below : (c d latches q : ℕ) → 0 < latches → c < d → d + latches - 1 < latches * (q + 1) → c < latches * q
fits_below c d latches q some l room = omega arith

some_width : (c latches q : ℕ) → c < latches * q → 0 < q
some_width c latches zero l = absurd (omega arith)
some_width c latches (suc q) l = omega arith

-- a coordinate in range lies in one of the tensor's fibers
fiber_below : (c d latches : ℕ) → 0 < latches → c < d → c / width_in d latches < latches
fiber_below c d latches some l =
    let q : ℕ = (d + latches - 1) / latches in
    let low : c < latches * q = fits_below c d latches q some l (lt-mul-div-succ (d + latches - 1) some) in
    (div-lt_iff_lt-mul {k = q} {x = c} {y = latches} (some_width c latches q low)).1 low

-- the latch of a valid cell is below those of the next tensor
pub latch_within : (d : Decls) (cell : Cell) → IsTrue (decls_are_valid d) → IsTrue (cell_is_valid d cell)
    → latch_of_cell d cell < first_latch d cell.tensor + latches_of_tensor d cell.tensor
latch_within d cell valid h =
    let l : cell.tensor < length d.tensors = is_declared d cell h in
    let x = element d.tensors cell.tensor l in
    let at : get_or d.tensors cell.tensor x.0 ≡ x.0 = get_or_from_slice_get d.tensors cell.tensor x.0 x.0 x.1 in
    let range : all_in_range x.0.dims cell.at ≡ true = subst (λ o. all_in_range (dims_in o) cell.at
    ≡ true) x.1 (both_true (nat_lt cell.tensor (length d.tensors)) (all_in_range (dims_of d cell.tensor) cell.at) h).1 in
    let lead : slice_index cell.at 0 < slice_index x.0.dims 0 = leads x.0.dims cell.at range (has_mode_at d cell x.0 valid h at) in
    let fiber : slice_index cell.at 0 / width_in (slice_index x.0.dims 0) x.0.latches < x.0.latches =
    fiber_below (slice_index cell.at 0) (slice_index x.0.dims 0) x.0.latches (has_latch_at d cell x.0 valid h at) lead in
    let is : latch_of_cell d cell ≡ first_latch d cell.tensor
    + slice_index cell.at 0 / width_in (slice_index x.0.dims 0) x.0.latches = ap (λ o. first_latch d cell.tensor
    + slice_index cell.at 0 / width_in (slice_index (dims_in o) 0) (latches_in o)) x.1 in
    let many : latches_of_tensor d cell.tensor ≡ x.0.latches = ap latches_in x.1 in
    omega arith

-- a valid cell with a latch of a tensor is that tensor's
pub tensor_of_latch : (d : Decls) (cell : Cell) (t f : ℕ) → IsTrue (decls_are_valid d) → IsTrue (cell_is_valid d cell) → t < length d.tensors
    → f < latches_of_tensor d t → latch_of_cell d cell ≡ first_latch d t + f → cell.tensor ≡ t
tensor_of_latch d cell t f valid h within low is =
    let own = latch_within d cell valid h in
    elim (cases_lt cell.tensor t) [
      | inl less ↦ let before = latches_before d cell.tensor t less (is_declared d cell h) in absurd (omega (arith, own, before, low, is))
      | inr more ↦ elim (cases_lt t cell.tensor) [
        | inl less ↦ let after = latches_before d t cell.tensor less within in absurd (omega (arith, after, low, is))
        | inr same ↦ omega arith
      ]
    ]
