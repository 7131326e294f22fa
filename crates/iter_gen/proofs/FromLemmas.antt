-- Elements from a coordinate on.
use Rattle.std.proofs.Common.{◌≡◌, ◌≤◌, ◌<◌, ℕ, zero, Bool, true, false, ltb, cond, List, [], ◌∷◌, ◌++◌}
use Rattle.std.proofs.Common.{length, drop, get_or, Some, suc, ◌-◌, refl, ap, ◌∙◌, sym, subst, arith}
use Rattle.std.proofs.Props.{props}
use Rattle.node_arena.specs.declared.elements.Elem.{Elem}
use Rattle.node_arena.specs.Arenas.{place_in, coordinate_at}
use Rattle.node_arena.specs.Conforming.{RisesFrom, IsRising}
use Rattle.iter_gen.specs.Frames.{from, StartsFrom, first_coordinate}

-- ---- rising lists

-- what rises from a number rises
pub RisesFrom-IsRising : (n : ℕ) (xs : List Elem) → RisesFrom n xs → IsRising xs
RisesFrom-IsRising n [] r = tt
RisesFrom-IsRising n (x ∷ xs) r = r.1

-- what rises from a number rises from a lower one
pub RisesFrom-low : (n m : ℕ) (xs : List Elem) → n ≤ m → RisesFrom m xs → RisesFrom n xs
RisesFrom-low n m [] l r = tt
RisesFrom-low n m (x ∷ xs) l r = (let f : m < x.at = r.0 in omega arith, r.1)

-- the later part rises from the number too
pub RisesFrom-later : (n : ℕ) (xs ys : List Elem) → RisesFrom n (xs ++ ys) → RisesFrom n ys
RisesFrom-later n [] ys r = r
RisesFrom-later n (x ∷ xs) ys r = let f : n < x.at = r.0 in RisesFrom-low n x.at ys (omega arith) (RisesFrom-later x.at xs ys r.1)

-- the earlier part rises from the number too
pub RisesFrom-earlier : (n : ℕ) (xs ys : List Elem) → RisesFrom n (xs ++ ys) → RisesFrom n xs
RisesFrom-earlier n [] ys r = tt
RisesFrom-earlier n (x ∷ xs) ys r = (r.0, RisesFrom-earlier x.at xs ys r.1)

-- the later part of what rises does so
pub IsRising-later : (xs ys : List Elem) → IsRising (xs ++ ys) → IsRising ys
IsRising-later [] ys r = r
IsRising-later (x ∷ xs) ys r = RisesFrom-IsRising x.at ys (RisesFrom-later x.at xs ys r)

-- the earlier part of what rises does so
pub IsRising-earlier : (xs ys : List Elem) → IsRising (xs ++ ys) → IsRising xs
IsRising-earlier [] ys r = tt
IsRising-earlier (x ∷ xs) ys r = RisesFrom-earlier x.at xs ys r

-- behind an element all rise from its coordinate
pub RisesFrom-behind : (xs : List Elem) (x : Elem) (ys : List Elem) → IsRising (xs ++ x ∷ ys) → RisesFrom x.at ys
RisesFrom-behind xs x ys r = IsRising-later xs (x ∷ ys) r

-- before an element all are below it
below-first : (n : ℕ) (xs : List Elem) (x : Elem) (ys : List Elem) → RisesFrom n (xs ++ x ∷ ys) → n < x.at
below-first n xs x ys r = (RisesFrom-later n xs (x ∷ ys) r).0

-- ---- from a coordinate on

-- an element that is below is dropped
pub from-below : (at : ℕ) (x : Elem) (xs : List Elem) → x.at < at → from at (x ∷ xs) ≡ from at xs
from-below at x xs l = let t : ltb x.at at ≡ true = grind (arith, l) in rw t refl

-- one that isn't below is kept
pub from-above : (at : ℕ) (x : Elem) (xs : List Elem) → at ≤ x.at → from at (x ∷ xs) ≡ x ∷ xs
from-above at x xs l = let t : ltb x.at at ≡ false = grind (arith, l) in rw t refl

-- from 0 on all are there
pub from-zero : (xs : List Elem) → from 0 xs ≡ xs
from-zero [] = refl
from-zero (x ∷ xs) = from-above 0 x xs (omega arith)

-- all starts from 0
pub StartsFrom-zero : (xs : List Elem) → StartsFrom 0 xs
StartsFrom-zero [] = tt
StartsFrom-zero (x ∷ xs) = omega arith

-- what starts from the coordinate is kept
pub from-starts : (at : ℕ) (xs : List Elem) → StartsFrom at xs → from at xs ≡ xs
from-starts at [] s = refl
from-starts at (x ∷ xs) s = from-above at x xs s

-- two parts that start from the coordinate do so one after another
pub StartsFrom-append : (at : ℕ) (xs ys : List Elem) → StartsFrom at xs → StartsFrom at ys → StartsFrom at (xs ++ ys)
StartsFrom-append at [] ys s t = t
StartsFrom-append at (x ∷ xs) ys s t = s

from-cases : (b : Bool) (at : ℕ) (x : Elem) (xs : List Elem) → ltb x.at at ≡ b → (x.at < at → StartsFrom at (from at xs)) → StartsFrom at (from at (x ∷ xs))
from-cases true at x xs e f = let l : x.at < at = grind (arith, e) in subst (StartsFrom at) (sym (from-below at x xs l)) (f l)
from-cases false at x xs e f = let l : at ≤ x.at = grind (arith, e) in subst (StartsFrom at) (sym (from-above at x xs l)) l

-- what is left starts from the coordinate
pub StartsFrom-from : (at : ℕ) (xs : List Elem) → StartsFrom at (from at xs)
StartsFrom-from at [] = tt
StartsFrom-from at (x ∷ xs) = from-cases (ltb x.at at) at x xs refl (λ l. StartsFrom-from at xs)

-- elements that rise up to one that is below are dropped, and that one is
pub from-past : (at : ℕ) (xs : List Elem) (x : Elem) (ms ys : List Elem) → IsRising (xs ++ x ∷ ms) → x.at < at → from at (xs ++ x ∷ ys) ≡ from at ys
from-past at [] x ms ys r l = from-below at x ys l
from-past at (y ∷ xs) x ms ys r l =
    let f : y.at < x.at = below-first y.at xs x ms r in
    from-below at y (xs ++ x ∷ ys) (omega arith) ∙ from-past at xs x ms ys (RisesFrom-IsRising y.at (xs ++ x ∷ ms) r) l

-- elements that rise up to one that isn't above are dropped
pub from-up-to : (at : ℕ) (xs : List Elem) (x : Elem) (ys : List Elem) → IsRising (xs ++ x ∷ ys) → x.at ≤ at → from at (xs ++ x ∷ ys) ≡ from at (x ∷ ys)
from-up-to at [] x ys r l = refl
from-up-to at (y ∷ xs) x ys r l =
    let f : y.at < x.at = below-first y.at xs x ys r in
    from-below at y (xs ++ x ∷ ys) (omega arith) ∙ from-up-to at xs x ys (RisesFrom-IsRising y.at (xs ++ x ∷ ys) r) l

-- the rest rises too
from-rising-cases : (b : Bool) (at : ℕ) (x : Elem) (xs : List Elem) → ltb x.at at ≡ b → IsRising (x ∷ xs) → (x.at < at → IsRising (from at xs))
    → IsRising (from at (x ∷ xs))
from-rising-cases true at x xs e r f = let l : x.at < at = grind (arith, e) in subst IsRising (sym (from-below at x xs l)) (f l)
from-rising-cases false at x xs e r f = let l : at ≤ x.at = grind (arith, e) in subst IsRising (sym (from-above at x xs l)) r

-- what is left rises
pub IsRising-from : (at : ℕ) (xs : List Elem) → IsRising xs → IsRising (from at xs)
IsRising-from at [] r = tt
IsRising-from at (x ∷ xs) r = from-rising-cases (ltb x.at at) at x xs refl r (λ l. IsRising-from at xs (RisesFrom-IsRising x.at xs r))

-- the others rise
pub IsRising-drop : (xs : List Elem) → IsRising xs → IsRising (drop 1 xs)
IsRising-drop [] r = tt
IsRising-drop (x ∷ xs) r = RisesFrom-IsRising x.at xs r

-- ---- places

place-cases : (b : Bool) (at : ℕ) (x : Elem) (xs : List Elem) → ltb x.at at ≡ b → from at xs ≡ drop (place_in at xs) xs
    → from at (x ∷ xs) ≡ drop (place_in at (x ∷ xs)) (x ∷ xs)
place-cases true at x xs e ih = rw e ih
place-cases false at x xs e ih = rw e refl

-- from a coordinate on is from its place on
pub from-place : (at : ℕ) (xs : List Elem) → from at xs ≡ drop (place_in at xs) xs
from-place at [] = refl
from-place at (x ∷ xs) = place-cases (ltb x.at at) at x xs refl (from-place at xs)

place-low-cases : (b : Bool) (n m : ℕ) → n ≤ m → cond b (suc n) 0 ≤ suc m
place-low-cases true n m h = omega arith
place-low-cases false n m h = omega arith

-- the place is at most the length
pub place-low : (at : ℕ) (xs : List Elem) → place_in at xs ≤ length xs
place-low at [] = omega arith
place-low at (x ∷ xs) = place-low-cases (ltb x.at at) (place_in at xs) (length xs) (place-low at xs)

place-next-cases : (b : Bool) (at : ℕ) (x : Elem) (xs : List Elem) (d : Elem) → ltb x.at at ≡ b
    → (place_in at xs < length xs → at ≤ (get_or xs (place_in at xs) d).at)
    → cond b (suc (place_in at xs)) 0 < suc (length xs) → at ≤ (get_or (x ∷ xs) (cond b (suc (place_in at xs)) 0) d).at
place-next-cases true at x xs d e ih l = ih (omega arith)
place-next-cases false at x xs d e ih l = grind (arith, e)

-- the element at the place isn't below
pub place-next : (at : ℕ) (xs : List Elem) (d : Elem) → place_in at xs < length xs → at ≤ (get_or xs (place_in at xs) d).at
place-next at [] d l = absurd (omega arith)
place-next at (x ∷ xs) d l = place-next-cases (ltb x.at at) at x xs d refl (place-next at xs d) l

place-before-cases : (b : Bool) (at : ℕ) (x : Elem) (xs : List Elem) (q : ℕ) (d : Elem) → ltb x.at at ≡ b
    → ((r : ℕ) → place_in at xs ≡ suc r → (get_or xs r d).at < at)
    → cond b (suc (place_in at xs)) 0 ≡ suc q → (get_or (x ∷ xs) q d).at < at
place-before-cases true at x xs zero d e ih l = grind (arith, e)
place-before-cases true at x xs (suc r) d e ih l = ih r (omega arith)
place-before-cases false at x xs q d e ih l = absurd (omega arith)

-- the element before the place is below
pub place-before : (at : ℕ) (xs : List Elem) (q : ℕ) (d : Elem) → place_in at xs ≡ suc q → (get_or xs q d).at < at
place-before at [] q d l = absurd (omega arith)
place-before at (x ∷ xs) q d l = place-before-cases (ltb x.at at) at x xs q d refl (λ r. place-before at xs r d) l

RisesFrom-coordinate : (n : ℕ) (xs : List Elem) (i c : ℕ) → RisesFrom n xs → coordinate_at xs i ≡ Some c → n < c
RisesFrom-coordinate n [] i c r e = cc
RisesFrom-coordinate n (x ∷ xs) zero c r e = let same : x.at ≡ c = cc (e) in let f : n < x.at = r.0 in omega arith
RisesFrom-coordinate n (x ∷ xs) (suc i) c r e =
    let f : n < x.at = r.0 in
    let ih : x.at < c = RisesFrom-coordinate x.at xs i c r.1 e in
    omega arith

-- where the last element is below, all are
pub place-whole : (at : ℕ) (xs : List Elem) (c : ℕ) → IsRising xs → coordinate_at xs (length xs - 1) ≡ Some c → c < at → place_in at xs ≡ length xs
place-whole at [] c r e l = refl
place-whole at (x ∷ []) c r e l =
    let same : x.at ≡ c = cc (e) in
    let t : ltb x.at at ≡ true = grind (arith, l, same) in
    rw t refl
place-whole at (x ∷ y ∷ xs) c r e l =
    let shift : suc (suc (length xs)) - 1 ≡ suc (length xs) = omega arith in
    let back : length xs ≡ suc (length xs) - 1 = omega arith in
    let last : coordinate_at (y ∷ xs) (length xs) ≡ Some c = subst (λ i. coordinate_at (x ∷ y ∷ xs) i ≡ Some c) shift e in
    let below : x.at < c = RisesFrom-coordinate x.at (y ∷ xs) (length xs) c r last in
    let t : ltb x.at at ≡ true = grind (arith, l, below) in
    let ih : place_in at (y ∷ xs) ≡ length (y ∷ xs) =
    place-whole at (y ∷ xs) c r.1 (subst (λ i. coordinate_at (y ∷ xs) i ≡ Some c) back last) l in
    rw t (ap suc ih)

-- that elements rise from a number is a plain fact
pub RisesFrom-prop : (n : ℕ) (xs : List Elem) → IsProp (RisesFrom n xs)
RisesFrom-prop n [] = hlevel
RisesFrom-prop n (x ∷ xs) = let ih : IsProp (RisesFrom x.at xs) = RisesFrom-prop x.at xs in hlevel (props, ih)

-- that elements rise is a plain fact
pub IsRising-prop : (xs : List Elem) → IsProp (IsRising xs)
IsRising-prop [] = hlevel
IsRising-prop (x ∷ xs) = RisesFrom-prop x.at xs

place-some-cases : (b : Bool) (at : ℕ) (x : Elem) (n : ℕ) → ltb x.at at ≡ b → 1 ≤ cond b (suc n) 0 → x.at < at
place-some-cases true at x n e l = grind (arith, e)
place-some-cases false at x n e l = absurd (omega arith)

-- where some elements are below, the first one is
pub place-some : (at : ℕ) (xs : List Elem) → 1 ≤ place_in at xs → first_coordinate xs < at
place-some at [] l = absurd (omega arith)
place-some at (x ∷ xs) l = place-some-cases (ltb x.at at) at x (place_in at xs) refl l
