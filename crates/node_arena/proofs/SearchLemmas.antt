-- Where a coordinate is among packed elements, and in a run that rises.
use Rattle.std.proofs.Common.{◌≡◌, ◌≤◌, ◌<◌, ℕ, zero, suc, Bool, true, false, List, [], ◌∷◌, length, get_or, map, ltb, cond, arith}
use Rattle.node_arena.specs.declared.packing.Packed.{Packed}
use Rattle.node_arena.specs.Arenas.{place_in}
use Rattle.node_arena.specs.Conforming.{IsRising, RisesFrom}
use Rattle.node_arena.specs.Packing.{unpacked}

abbrev place : ℕ → List Packed → ℕ
place at ps = place_in at (map unpacked ps)

low : (b : Bool) (n m : ℕ) → n ≤ m → cond b (suc n) 0 ≤ suc m
low true n m h = omega arith
low false n m h = omega arith

more : (b : Bool) (i n : ℕ) → (i ≤ n → suc i ≤ n) → suc i ≤ cond b (suc n) 0 → suc (suc i) ≤ cond b (suc n) 0
more true i n f h = let g : suc i ≤ n = f (omega arith) in omega arith
more false i n f h = absurd (omega arith)

-- the place is at most the length
pub place_low : (at : ℕ) (ps : List Packed) → place_in at (map unpacked ps) ≤ length ps
place_low at [] = omega arith
place_low at (p ∷ ps) = low (ltb p.at at) (place at ps) (length ps) (place_low at ps)

-- the place is behind an element that is below, where it isn't before it
pub place_more : (at : ℕ) (ps : List Packed) (i : ℕ) (d : Packed) → i ≤ place_in at (map unpacked ps) → i < length ps → (get_or ps i d).at < at
    → suc i ≤ place_in at (map unpacked ps)
place_more at [] i d h l e = absurd (omega arith)
place_more at (p ∷ ps) zero d h l e =
    let t : ltb p.at at ≡ true = grind (arith, e) in
    rw t (omega arith)
place_more at (p ∷ ps) (suc i) d h l e = more (ltb p.at at) i (place at ps) (λ g. place_more at ps i d g (omega arith) e) h

-- the place isn't behind an element that isn't below
pub place_above : (at : ℕ) (ps : List Packed) (i : ℕ) (d : Packed) → i < length ps → at ≤ (get_or ps i d).at → place_in at (map unpacked ps) ≤ i
place_above at [] i d l e = absurd (omega arith)
place_above at (p ∷ ps) zero d l e =
    let t : ltb p.at at ≡ false = grind (arith, e) in
    rw t (omega arith)
place_above at (p ∷ ps) (suc i) d l e = low (ltb p.at at) (place at ps) i (place_above at ps i d (omega arith) e)

RisesFrom-at : (n : ℕ) (ps : List Packed) (i : ℕ) (d : Packed) → RisesFrom n (map unpacked ps) → i < length ps → n < (get_or ps i d).at
RisesFrom-at n [] i d r l = absurd (omega arith)
RisesFrom-at n (p ∷ ps) zero d r l = r.0
RisesFrom-at n (p ∷ ps) (suc i) d r l = let rest : p.at < (get_or ps i d).at = RisesFrom-at p.at ps i d r.1 (omega arith) in omega (arith, r.0)

RisesFrom-IsRising : (n : ℕ) (ps : List Packed) → RisesFrom n (map unpacked ps) → IsRising (map unpacked ps)
RisesFrom-IsRising n [] r = tt
RisesFrom-IsRising n (p ∷ ps) r = r.1

-- in a run that rises the place is behind each element that is below
pub place_below : (at : ℕ) (ps : List Packed) (i : ℕ) (d : Packed) → IsRising (map unpacked ps) → i < length ps → (get_or ps i d).at < at
    → suc i ≤ place_in at (map unpacked ps)
place_below at [] i d r l e = absurd (omega arith)
place_below at (p ∷ ps) zero d r l e =
    let t : ltb p.at at ≡ true = grind (arith, e) in
    rw t (omega arith)
place_below at (p ∷ ps) (suc i) d r l e =
    let rest : suc i ≤ place at ps = place_below at ps i d (RisesFrom-IsRising p.at ps r) (omega arith) e in
    let first : p.at < (get_or ps i d).at = RisesFrom-at p.at ps i d r (omega arith) in
    let t : ltb p.at at ≡ true = grind (arith, first, e) in
    rw t (omega arith)

-- the four of them
pub ruleset place_laws = (place_low, place_more, place_above, place_below)
