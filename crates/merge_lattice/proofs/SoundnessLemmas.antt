-- The points of all sets are a sound table.
use Rattle.std.proofs.Common.{◌≡◌, ℕ, ◌+◌, ◌%◌, ◌^◌, ◌≤◌, ◌<◌, true, List, length, get_or, map, refl, ap, sym, ◌∙◌, subst, arith, Option, Some, None, zero-add}
use Rattle.std.specs.Prelude.{is_some, All}
use Rattle.std.specs.List.{range_with_len}
use Rattle.std.specs.Option.{option_map}
use native.Mathlib.Nat.{mod-eq_of_lt}
use Rattle.std.proofs.Math.Pow.{pow_mono}
use Rattle.std.proofs.lemmas.List.FromFn.{length-map-range_with_len, get_or-map-range_with_len}
use Rattle.dt_model.specs.declared.statements.Expr.{Expr}
use Rattle.merge_lattice.specs.declared.points.Point.{Point}
use Rattle.merge_lattice.specs.Lattices.{operands, is_present, value_at, IsZeroOutside, bit_of, standing}
use Rattle.merge_lattice.specs.Points.{point_in}
use Rattle.merge_lattice.specs.Soundness.{members, numbered, IsEntryFor, IsSound}
use Rattle.merge_lattice.proofs.Rises.{Rises, Rises-wider}
use Rattle.merge_lattice.proofs.Bits.{bits_of, bits_of-small, filter-bits}
use Rattle.merge_lattice.proofs.Rests.{Rest, rest_of, rest_of-present}
use Rattle.merge_lattice.proofs.RestValues.{HasValue, rest_of-value}
use Rattle.merge_lattice.proofs.Kept.{IsKept, rest_of-kept}
use Rattle.merge_lattice.proofs.Standing.{operands_left, rest_of-standing}
use Rattle.merge_lattice.proofs.PointsLemmas.{point_of, point_in-rest}

-- the members of the set of some operands are these operands
members-bits : (hi : ℕ) (ns : List ℕ) → hi ≤ 15 → Rises 0 hi ns → members (bits_of ns % 2 ^ 16) ≡ ns
members-bits hi ns h r =
    let low : bits_of ns < 2 ^ 16 = omega (arith, bits_of-small 0 hi ns r, pow_mono {i = hi} {j = 16} (omega (arith, h))) in
    ap members (mod-eq_of_lt low) ∙ filter-bits 0 16 16 ns refl (Rises-wider 0 0 hi 16 ns (omega arith) (omega (arith, h)) r)

entry_of : (v set : ℕ) (e : Expr) (p : Option Rest) → operands v e ≤ 15 → is_some p ≡ is_present v (bit_of set) 0 e
    → ((at : ℕ → List ℕ → List ℕ → ℕ) (others : List ℕ → List ℕ → ℕ) → IsZeroOutside (bit_of set) at → HasValue v at others (value_at v at others 0 e) p)
    → IsKept (bit_of set) 0 (operands v e) p → operands_left p ≡ standing v (bit_of set) 0 e → IsEntryFor v e set (option_map point_of p)
entry_of v set e None few there value kept exact = (sym there, value)
entry_of v set e (Some l) few there value kept exact =
    let same = members-bits (operands v e) l.1 few kept.0 in (
      sym there,
      record {
        within = subst (All (λ n. bit_of set n ≡ true)) (sym same) kept.1;
        exact = same ∙ exact;
        stand = (value (λ n t c. 0) (λ t c. 0) (λ n off t c. refl)).0 ∙ ap length (sym same);
        value = λ at others zero. (value at others zero).1 (numbered (bits_of l.1 % 2 ^ 16) at) 0 (λ n low. at_place at n same);
      },
    )
  where
    at_place : (at : ℕ → List ℕ → List ℕ → ℕ) (n : ℕ) → members (bits_of l.1 % 2 ^ 16) ≡ l.1 → numbered (bits_of l.1 % 2 ^ 16) at (0 + n) ≡ at (get_or l.1 n 0)
    at_place at n same = let e : 0 + n ≡ n = omega arith in ap (numbered (bits_of l.1 % 2 ^ 16) at) e ∙ ap (λ xs. at (get_or xs n 0)) same

-- the point of a set is its entry
pub point_in-entry : (v set : ℕ) (e : Expr) → operands v e ≤ 15 → IsEntryFor v e set (point_in v (bit_of set) 0 e)
point_in-entry v set e few =
    subst (IsEntryFor v e set) (sym (point_in-rest v (bit_of set) 0 e))
    (entry_of v set e (rest_of v (bit_of set) 0 e) few (rest_of-present v (bit_of set) 0 e) (λ at others zero. rest_of-value v (bit_of set) at others 0 e zero)
    (subst (λ n. IsKept (bit_of set) 0 n (rest_of v (bit_of set) 0 e)) (zero-add (operands v e)) (rest_of-kept v (bit_of set) 0 e))
    (rest_of-standing v (bit_of set) 0 e))

-- the points of all sets
abbrev pub all_points : ℕ → Expr → List (Option Point)
all_points v e = map (λ set. point_in v (bit_of set) 0 e) (range_with_len 0 (2 ^ operands v e))

-- the points of all sets are a sound table
pub all_points-sound : (v : ℕ) (e : Expr) → operands v e ≤ 15 → IsSound v e (all_points v e)
all_points-sound v e few = record {
  sets = length-map-range_with_len (λ set. point_in v (bit_of set) 0 e) 0 (2 ^ operands v e);
  entry = λ set low. subst (IsEntryFor v e set)
      (sym (get_or-map-range_with_len (λ s. point_in v (bit_of s) 0 e) 0 (2 ^ operands v e) set set None low (omega arith)))
      (point_in-entry v set e few);
}
