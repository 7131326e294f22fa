-- The operands that are left are of the set, and rise.
use Rattle.std.proofs.Common.{◌≡◌, ℕ, ◌+◌, ◌≤◌, ◌++◌, Bool, true, false, cond, List, [], ◌∷◌, refl, subst, arith, Option, Some, None}
use Rattle.std.specs.Prelude.{All}
use Rattle.std.proofs.lemmas.List.Elements.{All-append, All-nil, All-cons}
use Rattle.dt_model.specs.declared.statements.Expr.{Expr, end_of-Expr, more_of-Expr}
use Rattle.dt_model.specs.declared.statements.Expr.TheVariants.{Literal, Access, Plus', Minus', Times', Negate'}
use Rattle.dt_model.specs.Statements.{contains_number}
use Rattle.merge_lattice.specs.Lattices.{operands}
use Rattle.merge_lattice.proofs.Rests.{Rest, times_rests, plus_rests, minus_rests, negate_rest, rest_of}
use Rattle.merge_lattice.proofs.Rises.{Rises, Rises-below, Rises-append, Rises-wider}

-- what is left of an expression whose operands are those from lo on and below hi
abbrev pub IsKept : (ℕ → Bool) → ℕ → ℕ → Option Rest → Type 0
IsKept on lo hi None = lo ≤ hi
IsKept on lo hi (Some l) = Rises lo hi l.1 × All (λ n. on n ≡ true) l.1

lower : (on : ℕ → Bool) (lo hi : ℕ) (p : Option Rest) → IsKept on lo hi p → lo ≤ hi
lower on lo hi None k = k
lower on lo hi (Some l) k = Rises-below lo hi l.1 k.0

both : (on : ℕ → Bool) (lo mid hi : ℕ) (xs ys : List ℕ) → Rises lo mid xs × All (λ n. on n ≡ true) xs → Rises mid hi ys × All (λ n. on n ≡ true) ys
    → Rises lo hi (xs ++ ys) × All (λ n. on n ≡ true) (xs ++ ys)
both on lo mid hi xs ys k h = (Rises-append lo mid hi xs ys k.0 h.0, All-append (λ n. on n ≡ true) xs ys k.1 h.1)

first : (on : ℕ → Bool) (lo mid hi : ℕ) (xs : List ℕ) → mid ≤ hi → Rises lo mid xs × All (λ n. on n ≡ true) xs → Rises lo hi xs × All (λ n. on n ≡ true) xs
first on lo mid hi xs l k = (Rises-wider lo lo mid hi xs (omega arith) l k.0, k.1)

second : (on : ℕ → Bool) (lo mid hi : ℕ) (xs : List ℕ) → lo ≤ mid → Rises mid hi xs × All (λ n. on n ≡ true) xs → Rises lo hi xs × All (λ n. on n ≡ true) xs
second on lo mid hi xs l k = (Rises-wider lo mid hi hi xs l (omega arith) k.0, k.1)

kept_plus : (on : ℕ → Bool) (lo mid hi : ℕ) (p q : Option Rest) → IsKept on lo mid p → IsKept on mid hi q → IsKept on lo hi (plus_rests p q)
kept_plus on lo mid hi None None k h = omega (arith, k, h)
kept_plus on lo mid hi None (Some b) k h = second on lo mid hi b.1 k h
kept_plus on lo mid hi (Some a) None k h = first on lo mid hi a.1 h k
kept_plus on lo mid hi (Some a) (Some b) k h = both on lo mid hi a.1 b.1 k h

kept_minus : (on : ℕ → Bool) (lo mid hi : ℕ) (p q : Option Rest) → IsKept on lo mid p → IsKept on mid hi q → IsKept on lo hi (minus_rests p q)
kept_minus on lo mid hi None None k h = omega (arith, k, h)
kept_minus on lo mid hi None (Some b) k h = second on lo mid hi b.1 k h
kept_minus on lo mid hi (Some a) None k h = first on lo mid hi a.1 h k
kept_minus on lo mid hi (Some a) (Some b) k h = both on lo mid hi a.1 b.1 k h

kept_times : (on : ℕ → Bool) (lo mid hi : ℕ) (p q : Option Rest) → IsKept on lo mid p → IsKept on mid hi q → IsKept on lo hi (times_rests p q)
kept_times on lo mid hi None q k h = omega (arith, k, lower on mid hi q h)
kept_times on lo mid hi (Some a) None k h = omega (arith, h, lower on lo mid (Some a) k)
kept_times on lo mid hi (Some a) (Some b) k h = both on lo mid hi a.1 b.1 k h

kept_negate : (on : ℕ → Bool) (lo hi : ℕ) (p : Option Rest) → IsKept on lo hi p → IsKept on lo hi (negate_rest p)
kept_negate on lo hi None k = k
kept_negate on lo hi (Some a) k = k

sides : (v : ℕ) (on : ℕ → Bool) (k : ℕ) (a b : Expr) (p : Option Rest) → IsKept on k (k + operands v a + operands v b) p
    → IsKept on k (k + (operands v a + operands v b)) p
sides v on k a b p h = let e : k + operands v a + operands v b ≡ k + (operands v a + operands v b) = omega arith in subst (λ n. IsKept on k n p) e h

-- the operands that are left are of the set, and rise
pub rest_of-kept : (v : ℕ) (on : ℕ → Bool) (k : ℕ) (e : Expr) → IsKept on k (k + operands v e) (rest_of v on k e)
rest_of-kept v on k (Literal n) = (omega arith, All-nil (λ m. on m ≡ true))
rest_of-kept v on k (Access tensor vars) = tests (contains_number vars v) (on k) refl
  where
    tests : (a b : Bool) → on k ≡ b → IsKept on k (k + cond a 1 0) (cond a (cond b (Some (Access tensor vars, k ∷ [])) None) (Some (Access tensor vars, [])))
    tests true true e = ((omega arith, omega arith, omega arith), All-cons (λ m. on m ≡ true) k [] e (All-nil (λ m. on m ≡ true)))
    tests true false e = omega arith
    tests false b e = (omega arith, All-nil (λ m. on m ≡ true))
rest_of-kept v on k (Plus' s (more_of-Expr a end_of-Expr) t (more_of-Expr b end_of-Expr)) =
    sides v on k a b _ (kept_plus on k (k + operands v a) (k + operands v a + operands v b) (rest_of v on k a) (rest_of v on (k + operands v a) b)
    (rest_of-kept v on k a) (rest_of-kept v on (k + operands v a) b))
rest_of-kept v on k (Minus' s (more_of-Expr a end_of-Expr) t (more_of-Expr b end_of-Expr)) =
    sides v on k a b _ (kept_minus on k (k + operands v a) (k + operands v a + operands v b) (rest_of v on k a) (rest_of v on (k + operands v a) b)
    (rest_of-kept v on k a) (rest_of-kept v on (k + operands v a) b))
rest_of-kept v on k (Times' s (more_of-Expr a end_of-Expr) t (more_of-Expr b end_of-Expr)) =
    sides v on k a b _ (kept_times on k (k + operands v a) (k + operands v a + operands v b) (rest_of v on k a) (rest_of v on (k + operands v a) b)
    (rest_of-kept v on k a) (rest_of-kept v on (k + operands v a) b))
rest_of-kept v on k (Negate' s (more_of-Expr a end_of-Expr)) = kept_negate on k (k + operands v a) (rest_of v on k a) (rest_of-kept v on k a)
