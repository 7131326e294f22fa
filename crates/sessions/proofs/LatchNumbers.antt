-- The latches of the declared tensors, one tensor after the other.
use Rattle.std.proofs.Common.{◌≡◌, ◌≤◌, ◌<◌, ◌+◌, ℕ, zero, suc, Some, true, List, [], ◌∷◌, length, take, get_or, inl, inr, arith, ap, sym, subst, ◌∙◌}
use Rattle.std.specs.Prelude.{nat_le, nat_lt, slice_get, sum_by}
use Rattle.std.proofs.lemmas.Bool.Decides.{nat_tests}
use Rattle.std.proofs.lemmas.Option.{slice_get-get_or}
use Rattle.std.proofs.lemmas.Bool.{cases_lt}
use Rattle.std.proofs.lemmas.List.Sums.{sum_by-cons}
use Rattle.dt_model.specs.declared.declared_tensors.Decls.{Decls}
use Rattle.dt_model.specs.declared.declared_tensors.TensorDecl.{TensorDecl}
use Rattle.dt_model.specs.Latches.{is_latch_of}
use Rattle.dt_model.proofs.Booleans.{true_both}
use Rattle.dt_model.specs.Tensors.{first_latch, latch_count, latches_in, latches_of_tensor, total_latches}
use Rattle.fiber_store.proofs.LatchRanges.{latches_before}

next_total : (ts : List TensorDecl) (t : ℕ) → t < length ts → total_latches (take (suc t) ts) ≡ total_latches (take t ts) + latches_in (slice_get ts t)
next_total [] t l = absurd (omega arith)
next_total (x ∷ ts) zero l = let one = sum_by-cons (λ (y : TensorDecl). y.latches) x [] in omega (arith, one)
next_total (x ∷ ts) (suc t) l =
    let rest = next_total ts t (omega arith) in
    let low = sum_by-cons (λ (y : TensorDecl). y.latches) x (take t ts) in
    let high = sum_by-cons (λ (y : TensorDecl). y.latches) x (take (suc t) ts) in
    omega (arith, rest, low, high)

-- the latches of the next tensor come behind those of this one
pub first_latch-next : (d : Decls) (t : ℕ) → t < length d.tensors → first_latch d (t + 1) ≡ first_latch d t + latches_of_tensor d t
first_latch-next d t l = let next : t + 1 ≡ suc t = omega arith in ap (λ n. first_latch d n) next ∙ next_total d.tensors t l

up_to_all : (ts : List TensorDecl) (t : ℕ) → t < length ts → total_latches (take t ts) + latches_in (slice_get ts t) ≤ total_latches ts
up_to_all [] t l = absurd (omega arith)
up_to_all (x ∷ ts) zero l = let all = sum_by-cons (λ (y : TensorDecl). y.latches) x ts in omega (arith, all)
up_to_all (x ∷ ts) (suc t) l =
    let rest = up_to_all ts t (omega arith) in
    let low = sum_by-cons (λ (y : TensorDecl). y.latches) x (take t ts) in
    let high = sum_by-cons (λ (y : TensorDecl). y.latches) x ts in
    omega (arith, rest, low, high)

-- the latches of a tensor are below the journal's
pub latches_below : (d : Decls) (t : ℕ) → t < length d.tensors → first_latch d t + latches_of_tensor d t ≤ latch_count d
latches_below d t l = up_to_all d.tensors t l

-- a latch is of one tensor
pub one_tensor : (d : Decls) (t u f g : ℕ) → t < length d.tensors → u < length d.tensors → f < latches_of_tensor d t → g < latches_of_tensor d u
    → first_latch d u + g ≡ first_latch d t + f → u ≡ t
one_tensor d t u f g lt lu few gew is = elim (cases_lt u t) [
  | inl less ↦ let before = latches_before d u t less lu in absurd (omega (arith, before, is, few, gew))
  | inr more ↦ elim (cases_lt t u) [
    | inl less ↦ let after = latches_before d t u less lt in absurd (omega (arith, after, is, few, gew))
    | inr same ↦ omega arith
  ]
]

-- the number of a tensor's first latch, as it is added up
pub first_latch-sum : (d : Decls) (xs : List TensorDecl) (t first : ℕ) → xs ≡ d.tensors → first ≡ sum_by (λ y. y.latches) (take t xs) → first ≡ first_latch d t
first_latch-sum d xs t first same is = is ∙ ap (λ ys. sum_by (λ y. y.latches) (take t ys)) same

-- the number of a tensor's latches, as it is declared
pub latches_of_tensor-at : (d : Decls) (xs : List TensorDecl) (t : ℕ) (x : TensorDecl) → xs ≡ d.tensors → t < length xs → x ≡ get_or xs t x
    → x.latches ≡ latches_of_tensor d t
latches_of_tensor-at d xs t x same l at =
    let declared : t < length d.tensors = subst (λ ys. t < length ys) same l in
    let look : slice_get d.tensors t ≡ Some (get_or d.tensors t x) = slice_get-get_or d.tensors t x declared in
    ap (λ y. y.latches) (at ∙ ap (λ ys. get_or ys t x) same) ∙ sym (ap latches_in look)

-- a latch of a tensor
pub is_latch_of-range : (d : Decls) (t k : ℕ) → first_latch d t ≤ k → k < first_latch d t + latches_of_tensor d t → is_latch_of d k (Some t) ≡ true
is_latch_of-range d t k low high =
    let a : nat_le (first_latch d t) k ≡ true = grind (arith, nat_tests) in
    let b : nat_lt k (first_latch d t + latches_of_tensor d t) ≡ true = grind (arith, nat_tests) in
    true_both (nat_le (first_latch d t) k) (nat_lt k (first_latch d t + latches_of_tensor d t)) a b
