-- Lists of pairs: coordinates, and the value there.
use Rattle.std.specs.Prelude.{ℕ, ◌≡◌, ◌%◌, ◌^◌, List, AllPairs, Bool, ◌&&◌, sum_by, nat_eq, if◌then◌else◌}
use Rattle.std.specs.Cmp.Lexicographic.{pointwise, slice_cmp}
use Rattle.std.specs.Ordering.{nat_cmp}
use Rattle.std.specs.declared.cmp.Ordering.TheVariants.{Less}

-- the values at these coordinates, added up modulo 2^64
abbrev pub total_at : List (List ℕ × ℕ) → List ℕ → ℕ
total_at ps c = sum_by (λ p. if pointwise nat_eq p.0 c then p.1 else 0) ps % 2 ^ 64

-- each pair's coordinates come before those of the pairs behind it, compared from the first mode on
abbrev pub IsAscending : List (List ℕ × ℕ) → Type 0
IsAscending ps = AllPairs (λ p q. slice_cmp nat_cmp p.0 q.0 ≡ Less) ps

-- whether two pairs have the same coordinates and value
abbrev pub same_pair : List ℕ × ℕ → List ℕ × ℕ → Bool
same_pair p q = pointwise nat_eq p.0 q.0 && nat_eq p.1 q.1
