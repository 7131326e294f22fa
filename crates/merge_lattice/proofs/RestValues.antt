-- What is left of an expression has its value.
use Rattle.std.proofs.Common.{◌≡◌, ℕ, ◌+◌, ◌*◌, ◌%◌, ◌^◌, ◌<◌, ◌++◌, Bool, true, false, cond, List, [], ◌∷◌, length, get_or, refl, ap, sym, ◌∙◌, arith, Option, Some, None, add-zero, zero-add, lit<}
use native.Mathlib.Nat.{mod-lt, mod-eq_of_lt, add-mod_right}
use Rattle.std.proofs.lemmas.List.{length-append, get_or_append_left, get_or-append-add}
use Rattle.dt_model.specs.declared.statements.Expr.{Expr, end_of-Expr, more_of-Expr}
use Rattle.dt_model.specs.declared.statements.Expr.TheVariants.{Literal, Access, Plus', Minus', Times', Negate'}
use Rattle.dt_model.specs.Statements.{contains_number, plus64, minus64}
use Rattle.merge_lattice.specs.Lattices.{operands, value_at, IsZeroOutside}
use Rattle.merge_lattice.proofs.Laws.{operands-Plus, operands-Minus, operands-Times, operands-Negate, value_at-Plus, value_at-Minus, value_at-Times, value_at-Negate}
use Rattle.merge_lattice.proofs.Rests.{Rest, times_rests, plus_rests, minus_rests, negate_rest, rest_of}

-- the rest has the value x, where its operands have the numbers of those that stand in it; nothing is left only where x is 0
abbrev pub HasValue : ℕ → (ℕ → List ℕ → List ℕ → ℕ) → (List ℕ → List ℕ → ℕ) → ℕ → Option Rest → Type 0
HasValue v at others x None = x ≡ 0
HasValue v at others x (Some l) = (operands v l.0 ≡ length l.1)
    × ((own : ℕ → List ℕ → List ℕ → ℕ) (j : ℕ) → ((n : ℕ) → n < length l.1 → own (j + n) ≡ at (get_or l.1 n 0)) → value_at v own others j l.0 ≡ x)

abbrev Others : Type 0
Others = List ℕ → List ℕ → ℕ

abbrev Numbers : Type 0
Numbers = ℕ → List ℕ → List ℕ → ℕ

small : (n : ℕ) → n % 2 ^ 64 < 2 ^ 64
small n = mod-lt n (lit< tt)

-- a value is below 2^64
pub value_at-small : (v : ℕ) (at : Numbers) (others : Others) (k : ℕ) (e : Expr) → value_at v at others k e < 2 ^ 64
value_at-small v at others k (Literal n) = small _
value_at-small v at others k (Access tensor vars) = small _
value_at-small v at others k (Plus' s (more_of-Expr a end_of-Expr) t (more_of-Expr b end_of-Expr)) = small _
value_at-small v at others k (Minus' s (more_of-Expr a end_of-Expr) t (more_of-Expr b end_of-Expr)) = small _
value_at-small v at others k (Times' s (more_of-Expr a end_of-Expr) t (more_of-Expr b end_of-Expr)) = small _
value_at-small v at others k (Negate' s (more_of-Expr a end_of-Expr)) = small _

-- the operands of two parts are those of the first, then those of the second
first_part : (at own : Numbers) (j : ℕ) (xs ys : List ℕ) → ((n : ℕ) → n < length (xs ++ ys) → own (j + n) ≡ at (get_or (xs ++ ys) n 0)) → (n : ℕ)
    → n < length xs → own (j + n) ≡ at (get_or xs n 0)
first_part at own j xs ys h n low = h n (omega (arith, length-append xs ys)) ∙ ap at (get_or_append_left xs ys 0 n low)

second_part : (at own : Numbers) (j k : ℕ) (xs ys : List ℕ) → k ≡ length xs
    → ((n : ℕ) → n < length (xs ++ ys) → own (j + n) ≡ at (get_or (xs ++ ys) n 0)) → (n : ℕ) → n < length ys → own (j + k + n) ≡ at (get_or ys n 0)
second_part at own j k xs ys e h n low =
    let place : j + k + n ≡ j + (length xs + n) = omega arith in
    ap own place ∙ h (length xs + n) (omega (arith, length-append xs ys)) ∙ ap at (get_or-append-add xs ys n 0)

plus_zero : (x : ℕ) → x < 2 ^ 64 → plus64 x 0 ≡ x
plus_zero x h = ap (λ n. n % 2 ^ 64) (add-zero x) ∙ mod-eq_of_lt h

zero_plus : (x : ℕ) → x < 2 ^ 64 → plus64 0 x ≡ x
zero_plus x h = ap (λ n. n % 2 ^ 64) (zero-add x) ∙ mod-eq_of_lt h

minus_zero : (x : ℕ) → x < 2 ^ 64 → minus64 x 0 ≡ x
minus_zero x h = add-mod_right x (2 ^ 64) ∙ mod-eq_of_lt h

step_plus : (v : ℕ) (at : Numbers) (others : Others) (x y : ℕ) (p q : Option Rest) → x < 2 ^ 64 → y < 2 ^ 64 → HasValue v at others x p
    → HasValue v at others y q → HasValue v at others (plus64 x y) (plus_rests p q)
step_plus v at others x y None None sx sy h k = rw (h, k) refl
step_plus v at others x y None (Some b) sx sy h k = rw (h, zero_plus y sy) k
step_plus v at others x y (Some a) None sx sy h k = rw (k, plus_zero x sx) h
step_plus v at others x y (Some a) (Some b) sx sy h k = (
  operands-Plus v a.0 b.0 ∙ omega (arith, h.0, k.0, length-append a.1 b.1),
  λ own j g. value_at-Plus v own others j a.0 b.0
      ∙ rw (h.1 own j (first_part at own j a.1 b.1 g), k.1 own (j + operands v a.0) (second_part at own j (operands v a.0) a.1 b.1 h.0 g)) refl,
)

step_minus : (v : ℕ) (at : Numbers) (others : Others) (x y : ℕ) (p q : Option Rest) → x < 2 ^ 64 → y < 2 ^ 64 → HasValue v at others x p
    → HasValue v at others y q → HasValue v at others (minus64 x y) (minus_rests p q)
step_minus v at others x y None None sx sy h k = rw (h, k) refl
step_minus v at others x y None (Some b) sx sy h k =
    (operands-Negate v b.0 ∙ k.0, λ own j g. value_at-Negate v own others j b.0 ∙ rw (h, k.1 own j g) refl)
step_minus v at others x y (Some a) None sx sy h k = rw (k, minus_zero x sx) h
step_minus v at others x y (Some a) (Some b) sx sy h k = (
  operands-Minus v a.0 b.0 ∙ omega (arith, h.0, k.0, length-append a.1 b.1),
  λ own j g. value_at-Minus v own others j a.0 b.0
      ∙ rw (h.1 own j (first_part at own j a.1 b.1 g), k.1 own (j + operands v a.0) (second_part at own j (operands v a.0) a.1 b.1 h.0 g)) refl,
)

times_zero : (x : ℕ) → (x * 0) % 2 ^ 64 ≡ 0
times_zero x = grind arith

zero_times : (x : ℕ) → (0 * x) % 2 ^ 64 ≡ 0
zero_times x = grind arith

step_times : (v : ℕ) (at : Numbers) (others : Others) (x y : ℕ) (p q : Option Rest) → HasValue v at others x p → HasValue v at others y q
    → HasValue v at others ((x * y) % 2 ^ 64) (times_rests p q)
step_times v at others x y None q h k = ap (λ n. (n * y) % 2 ^ 64) h ∙ zero_times y
step_times v at others x y (Some a) None h k = ap (λ n. (x * n) % 2 ^ 64) k ∙ times_zero x
step_times v at others x y (Some a) (Some b) h k = (
  operands-Times v a.0 b.0 ∙ omega (arith, h.0, k.0, length-append a.1 b.1),
  λ own j g. value_at-Times v own others j a.0 b.0
      ∙ rw (h.1 own j (first_part at own j a.1 b.1 g), k.1 own (j + operands v a.0) (second_part at own j (operands v a.0) a.1 b.1 h.0 g)) refl,
)

step_negate : (v : ℕ) (at : Numbers) (others : Others) (x : ℕ) (p : Option Rest) → HasValue v at others x p → HasValue v at others (minus64 0 x) (negate_rest p)
step_negate v at others x None h = rw h refl
step_negate v at others x (Some a) h = (operands-Negate v a.0 ∙ h.0, λ own j g. value_at-Negate v own others j a.0 ∙ rw (h.1 own j g) refl)

-- what is left of an expression where the operands outside a set are absent has its value at all numbers that are 0 outside the set
pub rest_of-value : (v : ℕ) (on : ℕ → Bool) (at : Numbers) (others : Others) (k : ℕ) (e : Expr) → IsZeroOutside on at
    → HasValue v at others (value_at v at others k e) (rest_of v on k e)
rest_of-value v on at others k (Literal n) z = (refl, λ own j h. refl)
rest_of-value v on at others k (Access tensor vars) z = cases_of (contains_number vars v) refl (on k) refl
  where
    cases_of : (a : Bool) → contains_number vars v ≡ a → (b : Bool) → on k ≡ b
        → HasValue v at others (cond a (at k tensor vars) (others tensor vars) % 2 ^ 64)
        (cond a (cond b (Some (Access tensor vars, k ∷ [])) None) (Some (Access tensor vars, [])))
    cases_of true e true f = (
      ap (λ (b : Bool). cond b 1 0) e,
      λ own j h. ap (λ b. cond b (own j tensor vars) (others tensor vars) % 2 ^ 64) e
          ∙ ap (λ (f : List ℕ → List ℕ → ℕ). f tensor vars % 2 ^ 64) (ap own (sym (add-zero j)) ∙ h 0 (omega arith)),
    )
    cases_of true e false f = ap (λ n. n % 2 ^ 64) (z k f tensor vars)
    cases_of false e b f = (ap (λ (b : Bool). cond b 1 0) e, λ own j h. ap (λ b. cond b (own j tensor vars) (others tensor vars) % 2 ^ 64) e)
rest_of-value v on at others k (Plus' s (more_of-Expr a end_of-Expr) t (more_of-Expr b end_of-Expr)) z =
    step_plus v at others _ _ (rest_of v on k a) (rest_of v on (k + operands v a) b) (value_at-small v at others k a)
    (value_at-small v at others (k + operands v a) b) (rest_of-value v on at others k a z) (rest_of-value v on at others (k + operands v a) b z)
rest_of-value v on at others k (Minus' s (more_of-Expr a end_of-Expr) t (more_of-Expr b end_of-Expr)) z =
    step_minus v at others _ _ (rest_of v on k a) (rest_of v on (k + operands v a) b) (value_at-small v at others k a)
    (value_at-small v at others (k + operands v a) b) (rest_of-value v on at others k a z) (rest_of-value v on at others (k + operands v a) b z)
rest_of-value v on at others k (Times' s (more_of-Expr a end_of-Expr) t (more_of-Expr b end_of-Expr)) z =
    step_times v at others _ _ (rest_of v on k a) (rest_of v on (k + operands v a) b) (rest_of-value v on at others k a z)
    (rest_of-value v on at others (k + operands v a) b z)
rest_of-value v on at others k (Negate' s (more_of-Expr a end_of-Expr)) z = step_negate v at others _ (rest_of v on k a) (rest_of-value v on at others k a z)
