-- Numbers that rise.
use Rattle.std.proofs.Common.{ℕ, ◌+◌, ◌≤◌, ◌<◌, ◌++◌, List, [], ◌∷◌, arith}

-- numbers from lo on and below hi, each above the one before it
abbrev pub Rises : ℕ → ℕ → List ℕ → Type 0
Rises lo hi [] = lo ≤ hi
Rises lo hi (n ∷ ns) = (lo ≤ n) × (n < hi) × Rises (n + 1) hi ns

-- the bounds are in order
pub Rises-below : (lo hi : ℕ) (ns : List ℕ) → Rises lo hi ns → lo ≤ hi
Rises-below lo hi [] r = r
Rises-below lo hi (n ∷ ns) r = omega (arith, r.0, r.1)

-- wider bounds
pub Rises-wider : (low lo hi high : ℕ) (ns : List ℕ) → low ≤ lo → hi ≤ high → Rises lo hi ns → Rises low high ns
Rises-wider low lo hi high [] l h r = omega (arith, l, h, r)
Rises-wider low lo hi high (n ∷ ns) l h r = (omega (arith, l, r.0), omega (arith, h, r.1), Rises-wider (n + 1) (n + 1) hi high ns (omega arith) h r.2)

-- one list behind the other
pub Rises-append : (lo mid hi : ℕ) (xs ys : List ℕ) → Rises lo mid xs → Rises mid hi ys → Rises lo hi (xs ++ ys)
Rises-append lo mid hi [] ys r s = Rises-wider lo mid hi hi ys r (omega arith) s
Rises-append lo mid hi (x ∷ xs) ys r s = (r.0, omega (arith, r.1, Rises-below mid hi ys s), Rises-append (x + 1) mid hi xs ys r.2 s)
