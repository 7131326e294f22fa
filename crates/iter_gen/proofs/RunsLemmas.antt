-- A walk in a flat run.
use Rattle.std.proofs.Common.{◌≡◌, ◌≤◌, ◌<◌, ℕ, zero, suc, List, [], ◌∷◌, length, drop, Option, Some, None, IsSome, refl, ap, ◌∙◌, sym, subst, arith}
use Rattle.std.specs.Prelude.{IfSome}
use Rattle.std.specs.Option.{IsSomeAnd}
use Rattle.std.specs.List.{slice_get}
use Rattle.node_arena.specs.declared.elements.Elem.{Elem}
use Rattle.node_arena.specs.Arenas.{RunState, ArenaState, run_at, place_in}
use Rattle.node_arena.specs.Conforming.{RisesFrom, IsRising}
use Rattle.iter_gen.specs.declared.paths.RunSpot.{RunSpot}
use Rattle.iter_gen.specs.Frames.{from, StartsFrom, RunHas}
use Rattle.iter_gen.proofs.FromLemmas.{from-below, from-starts, from-place, RisesFrom-IsRising, IsRising-prop}

RisesFrom-get : (m : ℕ) (xs : List Elem) (n : ℕ) (x : Elem) → RisesFrom m xs → Some x ≡ slice_get xs n → m < x.at
RisesFrom-get m [] n x r e = cc
RisesFrom-get m (y ∷ xs) zero x r e = let same : x ≡ y = cc (e) in subst (λ (z : Elem). m < z.at) (sym same) r.0
RisesFrom-get m (y ∷ xs) (suc n) x r e =
    let f : m < y.at = r.0 in
    let ih : y.at < x.at = RisesFrom-get y.at xs n x r.1 e in
    omega arith

-- what comes before an element that is below can be dropped first
pub from-drop : (at : ℕ) (xs : List Elem) (n : ℕ) (x : Elem) → IsRising xs → Some x ≡ slice_get xs n → x.at < at → from at xs ≡ from at (drop n xs)
from-drop at [] n x r e l = cc
from-drop at (y ∷ xs) zero x r e l = refl
from-drop at (y ∷ xs) (suc n) x r e l =
    let f : y.at < x.at = RisesFrom-get y.at xs n x r e in
    from-below at y xs (omega (arith, l)) ∙ from-drop at xs n x (RisesFrom-IsRising y.at xs r) e l

-- where the element at a place isn't below, or there is none, nothing is dropped
pub starts-drop : (at : ℕ) (xs : List Elem) (n : ℕ) → ((x : Elem) → Some x ≡ slice_get xs n → at ≤ x.at) → StartsFrom at (drop n xs)
starts-drop at [] zero f = tt
starts-drop at [] (suc n) f = tt
starts-drop at (x ∷ xs) zero f = f x refl
starts-drop at (x ∷ xs) (suc n) f = starts-drop at xs n f

-- ---- of a run that is there

-- a run has these elements from the spot on
abbrev pub HasAt : RunSpot → List Elem → RunState → Type 0
HasAt spot xs r = (drop spot.place r.elems ≡ xs) × IsRising r.elems × (spot.len ≡ length r.elems)

-- a run with a fact is there
pub run-some : (o : Option RunState) (P : RunState → Type 0) → IsSomeAnd o P → IsSome o
run-some None P h = absurd h
run-some (Some r) P h = refl

-- from one fact of a run to another
pub run-and : (o : Option RunState) (P Q : RunState → Type 0) → IsSomeAnd o P → ((r : RunState) → P r → Q r) → IsSomeAnd o Q
run-and None P Q h f = absurd h
run-and (Some r) P Q h f = f r h

-- that a run is there and rises is a plain fact
pub run-prop : (o : Option RunState) → IsProp (IsSomeAnd o (λ r. IsRising r.elems))
run-prop None = hlevel
run-prop (Some r) = IsRising-prop r.elems

run-reads : (o : Option RunState) (P R T Q : RunState → Type 0) → IsSomeAnd o P → IfSome o R → IfSome o T → ((r : RunState) → P r → R r → T r → Q r)
    → IsSomeAnd o Q
run-reads None P R T Q h g k f = absurd h
run-reads (Some r) P R T Q h g k f = f r h g k

module _ (a : ArenaState) (spot : RunSpot) (at : ℕ) (xs : List Elem) (h : RunHas a spot xs) where
  -- a search goes to the first element that isn't below
  pub searched : (x : Elem) (place : ℕ) → IfSome (run_at a spot.run) (λ r. Some x ≡ slice_get r.elems spot.place) → x.at < at
      → IfSome (run_at a spot.run) (λ r. place ≡ place_in at r.elems) → RunHas a (record { run = spot.run; place = place; len = spot.len }) (from at xs)
  searched x place read l found =
      run-reads (run_at a spot.run) (HasAt spot xs) (λ r. Some x ≡ slice_get r.elems spot.place) (λ r. place ≡ place_in at r.elems)
      (HasAt (record { run = spot.run; place = place; len = spot.len }) (from at xs)) h read found
      (λ r p e f. (
        ap (λ n. drop n r.elems) f ∙ sym (from-place at r.elems) ∙ from-drop at r.elems spot.place x p.1 e l ∙ ap (from at) p.0,
        p.1,
        p.2,
      ))

  run-read : (o : Option RunState) (P R Q : RunState → Type 0) → IsSomeAnd o P → IfSome o R → ((r : RunState) → P r → R r → Q r) → IsSomeAnd o Q
  run-read None P R Q h g f = absurd h
  run-read (Some r) P R Q h g f = f r h g

  -- where the element isn't below, all stays
  pub stayed : (result : Option Elem) → IfSome (run_at a spot.run) (λ r. result ≡ slice_get r.elems spot.place) → ((x : Elem) → result ≡ Some x → at ≤ x.at)
      → RunHas a spot (from at xs)
  stayed result read f =
      run-read (run_at a spot.run) (HasAt spot xs) (λ r. result ≡ slice_get r.elems spot.place) (HasAt spot (from at xs)) h read
      (λ r p e. (
        p.0 ∙ sym (from-starts at xs (subst (StartsFrom at) p.0 (starts-drop at r.elems spot.place (λ x g. f x (e ∙ sym g))))),
        p.1,
        p.2,
      ))
