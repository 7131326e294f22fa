-- Boolean tests of lists: what they say of parts and of wholes.
use Rattle.std.proofs.Common.{◌≡◌, ℕ, ◌<◌, ◌++◌, Bool, true, false, not, List, [], ◌∷◌, length, refl, ap, sym, ◌∙◌, ◌+◌, arith, get_or, All, AllPairs}
use native.Mathlib.Numerals.{unary_clauses}
use Rattle.std.specs.Prelude.{◌&&◌}
use Rattle.std.specs.List.{list_all}
use Rattle.std.proofs.lemmas.List.Folds.{list_all_at}

-- where both hold, each holds
pub both_true : (a b : Bool) → (a && b) ≡ true → (a ≡ true) × (b ≡ true)
both_true true b e = (refl, e)
both_true false b e = absurd (cc)

-- the last of some tests
pub last_true : (a b : Bool) → (a && b) ≡ true → b ≡ true
last_true a b h = (both_true a b h).1

-- all but the last of some tests
pub first_true : (a b : Bool) → (a && b) ≡ true → a ≡ true
first_true a b h = (both_true a b h).0

-- where each holds, both hold
pub true_both : (a b : Bool) → a ≡ true → b ≡ true → (a && b) ≡ true
true_both a b p q = rw (p, q) refl

-- where the negation holds, it is false
pub not_true : (a : Bool) → not a ≡ true → a ≡ false
not_true true e = sym e
not_true false e = refl

-- where all pass a test, all pass a weaker one
pub list_all-weaker : {X : Type 0} (p q : X → Bool) (xs : List X) → ((x : X) → p x ≡ true → q x ≡ true) → list_all p xs ≡ true → list_all q xs ≡ true
list_all-weaker p q [] f h = refl
list_all-weaker p q (x ∷ xs) f h =
    let both = both_true (p x) (list_all p xs) h in
    true_both (q x) (list_all q xs) (f x both.0) (list_all-weaker p q xs f both.1)

-- where all of two lists pass, all of the two together pass
pub list_all-append : {X : Type 0} (p : X → Bool) (xs ys : List X) → list_all p xs ≡ true → list_all p ys ≡ true → list_all p (xs ++ ys) ≡ true
list_all-append p [] ys h k = k
list_all-append p (x ∷ xs) ys h k =
    let both = both_true (p x) (list_all p xs) h in
    true_both (p x) (list_all p (xs ++ ys)) both.0 (list_all-append p xs ys both.1 k)

-- where all pass, the one at an index passes
pub list_all-at : {X : Type 0} (p : X → Bool) (xs : List X) (i : ℕ) (d : X) → i < length xs → list_all p xs ≡ true → p (get_or xs i d) ≡ true
list_all-at p xs i d l h = elim (p (get_or xs i d)) as (λ b. p (get_or xs i d) ≡ b → b ≡ true) [
  | true ↦ λ _. refl
  | false ↦ λ e. sym (list_all_at p xs i d l e) ∙ h
] refl

-- what holds of all holds of all but the first
pub All-rest : {X : Type 0} (P : X → Type 0) (x : X) (xs : List X) → All P (x ∷ xs) → All P xs
All-rest P x xs h = λ k d l. simp unary_clauses at (h (k + 1) d (omega arith))

-- the first of a list is in the relation to each later one
pub pairs_first : {X : Type 0} (R : X → X → Type 0) (x : X) (xs : List X) → AllPairs R (x ∷ xs) → All (R x) xs
pairs_first R x xs h = λ k d l. simp unary_clauses at (h 0 (k + 1) d (omega arith) (omega arith))

-- of the others each is in the relation to each later one
pub pairs_rest : {X : Type 0} (R : X → X → Type 0) (x : X) (xs : List X) → AllPairs R (x ∷ xs) → AllPairs R xs
pairs_rest R x xs h = λ i j d l m. simp unary_clauses at (h (i + 1) (j + 1) d (omega arith) (omega arith))

-- nothing appended changes nothing
pub append_none : {X : Type 0} (xs : List X) → xs ++ [] ≡ xs
append_none [] = refl
append_none (x ∷ xs) = ap (λ ys. x ∷ ys) (append_none xs)
