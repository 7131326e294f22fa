-- The point of an expression is what is left of it, with its operands as a set.
use Rattle.std.proofs.Common.{◌≡◌, ℕ, ◌+◌, ◌%◌, ◌^◌, ◌++◌, Bool, true, false, cond, List, [], ◌∷◌, refl, ap, sym, ◌∙◌, arith, Option, Some, None}
use Rattle.std.specs.Option.{option_map}
use native.Mathlib.Nat.{add-mod}
use Rattle.std.proofs.lemmas.List.Sums.{sum_by-append, sum_by-cons}
use Rattle.dt_model.specs.declared.statements.Expr.{Expr, end_of-Expr, more_of-Expr}
use Rattle.dt_model.specs.declared.statements.Expr.TheVariants.{Literal, Access, Plus', Minus', Times', Negate'}
use Rattle.dt_model.specs.declared.statements.Expr.TheViews.{Plus, Minus, Times}
use Rattle.dt_model.specs.Statements.{contains_number}
use Rattle.merge_lattice.specs.declared.points.Point.{Point}
use Rattle.merge_lattice.specs.Lattices.{operands}
use Rattle.merge_lattice.specs.Points.{times_points, plus_points, minus_points, negate_point, point_in}
use Rattle.merge_lattice.proofs.Bits.{bits_of}
use Rattle.merge_lattice.proofs.Rests.{Rest, times_rests, plus_rests, minus_rests, negate_rest, rest_of}

-- the rest with its operands as a set
abbrev pub point_of : Rest → Point
point_of l = record { present = bits_of l.1 % 2 ^ 16; expr = l.0 }

bits : (xs ys : List ℕ) → (bits_of xs % 2 ^ 16 + bits_of ys % 2 ^ 16) % 2 ^ 16 ≡ bits_of (xs ++ ys) % 2 ^ 16
bits xs ys = sym (add-mod (bits_of xs) (bits_of ys) (2 ^ 16)) ∙ ap (λ n. n % 2 ^ 16) (sym (sum_by-append (λ (n : ℕ). 2 ^ n) xs ys))

abbrev made : ℕ → Expr → Option Point
made n e = Some (record { present = n; expr = e })

times_same : (p q : Option Rest) → times_points (option_map point_of p) (option_map point_of q) ≡ option_map point_of (times_rests p q)
times_same None q = refl
times_same (Some a) None = refl
times_same (Some a) (Some b) = ap (λ n. made n (Times a.0 b.0)) (bits a.1 b.1)

plus_same : (p q : Option Rest) → plus_points (option_map point_of p) (option_map point_of q) ≡ option_map point_of (plus_rests p q)
plus_same None q = refl
plus_same (Some a) None = refl
plus_same (Some a) (Some b) = ap (λ n. made n (Plus a.0 b.0)) (bits a.1 b.1)

negate_same : (p : Option Rest) → negate_point (option_map point_of p) ≡ option_map point_of (negate_rest p)
negate_same None = refl
negate_same (Some a) = refl

minus_same : (p q : Option Rest) → minus_points (option_map point_of p) (option_map point_of q) ≡ option_map point_of (minus_rests p q)
minus_same None q = negate_same q
minus_same (Some a) None = refl
minus_same (Some a) (Some b) = ap (λ n. made n (Minus a.0 b.0)) (bits a.1 b.1)

-- the point of an expression is what is left of it
pub point_in-rest : (v : ℕ) (on : ℕ → Bool) (k : ℕ) (e : Expr) → point_in v on k e ≡ option_map point_of (rest_of v on k e)
point_in-rest v on k (Literal n) = refl
point_in-rest v on k (Access tensor vars) = tests (contains_number vars v) (on k)
  where
    one : (n : ℕ) → n % 2 ^ 16 ≡ (n + 0) % 2 ^ 16
    one n = grind arith

    tests : (a b : Bool) → cond a (cond b (made (2 ^ k % 2 ^ 16) (Access tensor vars)) None) (made 0 (Access tensor vars))
        ≡ option_map point_of (cond a (cond b (Some (Access tensor vars, k ∷ [])) None) (Some (Access tensor vars, [])))
    tests true true = ap (λ n. made n (Access tensor vars)) (one (2 ^ k) ∙ ap (λ n. n % 2 ^ 16) (sym (sum_by-cons (λ (n : ℕ). 2 ^ n) k [])))
    tests true false = refl
    tests false b = refl
point_in-rest v on k (Plus' s (more_of-Expr a end_of-Expr) t (more_of-Expr b end_of-Expr)) =
    rw (point_in-rest v on k a, point_in-rest v on (k + operands v a) b) (plus_same (rest_of v on k a) (rest_of v on (k + operands v a) b))
point_in-rest v on k (Minus' s (more_of-Expr a end_of-Expr) t (more_of-Expr b end_of-Expr)) =
    rw (point_in-rest v on k a, point_in-rest v on (k + operands v a) b) (minus_same (rest_of v on k a) (rest_of v on (k + operands v a) b))
point_in-rest v on k (Times' s (more_of-Expr a end_of-Expr) t (more_of-Expr b end_of-Expr)) =
    rw (point_in-rest v on k a, point_in-rest v on (k + operands v a) b) (times_same (rest_of v on k a) (rest_of v on (k + operands v a) b))
point_in-rest v on k (Negate' s (more_of-Expr a end_of-Expr)) = ap negate_point (point_in-rest v on k a) ∙ (negate_same (rest_of v on k a))
