-- Loaded lines that are in range: with a tensor more, and with lines more.
use Rattle.std.proofs.Common.{◌≡◌, ℕ, zero, suc, ◌+◌, ◌<◌, Bool, true, List, [], ◌∷◌, ◌++◌, length, refl, ap, ◌∙◌, arith, subst, get_or, set}
use Rattle.std.specs.Prelude.{◌&&◌}
use Rattle.std.specs.List.{list_all, enumerate_from}
use Rattle.dt_model.specs.declared.declared_tensors.Decls.{Decls}
use Rattle.dt_model.specs.Tensors.{dims_of}
use Rattle.dt_model.specs.Verdicts.{all_in_range}
use Rattle.dt_model.specs.Worlds.{loads_are_valid}
use Rattle.dt_model.proofs.Booleans.{both_true, list_all-append}

-- whether these lines, of tensor n and those behind it, are in range
abbrev pub from_tensor : Decls → ℕ → List (List (List ℕ × ℕ)) → Bool
from_tensor d n base = list_all (loads_are_valid d) (enumerate_from n base)

-- lines are in range where the dimensions are the same
pub from_tensor-same : (d e : Decls) (n : ℕ) (base : List (List (List ℕ × ℕ))) → ((t : ℕ) → t < n + length base → dims_of e t ≡ dims_of d t)
    → from_tensor e n base ≡ from_tensor d n base
from_tensor-same d e n [] same = refl
from_tensor-same d e n (lines ∷ base) same =
    ap (λ ds. list_all (λ (l : List ℕ × ℕ). all_in_range ds l.0) lines && from_tensor e (n + 1) base) (same n (omega arith))
    ∙ ap (λ b. loads_are_valid d (n, lines) && b) (from_tensor-same d e (n + 1) base (λ t l. same t (omega (arith, l))))

-- a tensor more without lines
pub from_tensor-push : (d : Decls) (n : ℕ) (base : List (List (List ℕ × ℕ))) → from_tensor d n base ≡ true → from_tensor d n (base ++ [] ∷ []) ≡ true
from_tensor-push d n [] h = refl
from_tensor-push d n (lines ∷ base) h =
    let both = both_true (loads_are_valid d (n, lines)) (from_tensor d (n + 1) base) h in
    rw (both.0) (from_tensor-push d (n + 1) base both.1)

-- lines more of a tensor
pub from_tensor-set : (d : Decls) (n : ℕ) (base : List (List (List ℕ × ℕ))) (t : ℕ) (more : List (List ℕ × ℕ)) → t < length base → from_tensor d n base ≡ true
    → list_all (λ l. all_in_range (dims_of d (n + t)) l.0) more ≡ true → from_tensor d n (set base t (get_or base t [] ++ more)) ≡ true
from_tensor-set d n [] t more l h m = absurd (omega arith)
from_tensor-set d n (lines ∷ base) zero more l h m =
    let both = both_true (loads_are_valid d (n, lines)) (from_tensor d (n + 1) base) h in
    let here : n + 0 ≡ n = omega arith in
    let inside : list_all (λ (l : List ℕ × ℕ). all_in_range (dims_of d n) l.0) more
    ≡ true = subst (λ k. list_all (λ (l : List ℕ × ℕ). all_in_range (dims_of d k) l.0) more ≡ true) here m in
    let all : loads_are_valid d (n, lines ++ more) ≡ true = list_all-append (λ (l : List ℕ × ℕ). all_in_range (dims_of d n) l.0) lines more both.0 inside in
    rw (all) both.1
from_tensor-set d n (lines ∷ base) (suc t) more l h m =
    let both = both_true (loads_are_valid d (n, lines)) (from_tensor d (n + 1) base) h in
    let there : n + suc t ≡ n + 1 + t = omega arith in
    let inside : list_all (λ (l : List ℕ × ℕ). all_in_range (dims_of d (n + 1 + t)) l.0) more
    ≡ true = subst (λ k. list_all (λ (l : List ℕ × ℕ). all_in_range (dims_of d k) l.0) more ≡ true) there m in
    rw (both.0) (from_tensor-set d (n + 1) base t more (omega arith) both.1 inside)
