-- Where a walk begins.
use Rattle.std.proofs.Common.{◌≡◌, ◌≤◌, ◌<◌, ◌+◌, ℕ, zero, suc, max, Bool, true, false, ltb, cond, List}
use Rattle.std.proofs.Common.{[], ◌∷◌, length, drop, Option, Some, None, IsSome, refl, ap, ◌∙◌, sym, subst, arith, append-nil}
use Rattle.std.specs.Prelude.{IfSome, if◌then◌else◌, nat_lt}
use Rattle.std.specs.Option.{IsSomeAnd}
use Rattle.std.specs.List.{slice_get}
use Rattle.node_arena.specs.declared.elements.Elem.{Elem}
use Rattle.node_arena.specs.declared.elements.Structure.{Structure}
use Rattle.node_arena.specs.declared.elements.Top.TheVariants as tops
use Rattle.node_arena.specs.declared.elements.TheConstants.{MOST_SPINE}
use Rattle.node_arena.specs.declared.kinds.NodeKind.{NodeKind}
use Rattle.node_arena.specs.Arenas.{RunState, ArenaState, run_at}
use Rattle.node_arena.specs.Conforming.{Conform, whole, spine, IsRising}
use Rattle.node_arena.specs.Kinds.{kinds_of, shape_at}
use Rattle.node_arena.specs.Rules.{AreSound}
use Rattle.node_arena.specs.Structures.{Tree, empty, rooted, flat, walk_of, IsStanding, IsConforming}
use Rattle.node_arena.specs.Trees.{Trees, done, node}
use Rattle.node_arena.proofs.HeightsLemmas.{levels, levels-structure}
use Rattle.iter_gen.specs.declared.paths.RunSpot.{RunSpot}
use Rattle.iter_gen.specs.declared.paths.NodeSpot.{NodeSpot}
use Rattle.iter_gen.specs.Frames.{from, depth, IsSound, Frame, parts_in, elements, PathHas, PathTakes, RunHas, IsToEnter}
use Rattle.iter_gen.specs.Walkers.{WalkerState, Has, AreLeft, TakesFirst}
use Rattle.iter_gen.proofs.ConformingLemmas.{least-some, sound-hang, depth-bound}
use Rattle.iter_gen.proofs.FromLemmas.{from-zero, IsRising-drop, IsRising-from}
use Rattle.iter_gen.proofs.NodesLemmas.{elements-walk}
use Rattle.iter_gen.proofs.RunsLemmas.{HasAt, run-and}

node-same : (i j : ℕ) → tops.Node i ≡ tops.Node j → i ≡ j
node-same i j e = cc

run-same : (i j : ℕ) → tops.Run i ≡ tops.Run j → i ≡ j
run-same i j e = cc

module _ (s : List NodeKind) (sound : AreSound s) (a : ArenaState) (k : ℕ) (st : Structure) (short : st.len < 4294967296) where
  begins-rooted : (i m : ℕ) (run : List Elem) (ls : Trees) → IsStanding s a st (rooted i m run ls) → IsConforming s k st (rooted i m run ls)
      → IsToEnter s a [] i 0 (walk_of s (rooted i m run ls))
  begins-rooted i m run ls h c =
      let f : Frame = record { kind = m; run = run; links = ls } in
      let conform : Conform s k (node i m run ls done) = c.tree.1 in
      let walkable : IsSound s a (node i m run ls done) =
      sound-hang s sound a (whole s k ∷ []) (node i m run ls done) (least-some s sound k (shape_at s k), tt) conform.hangs h.nodes conform.rising in
      let few : levels s (node i m run ls done) ≤ 32 = levels-structure s sound a k st (rooted i m run ls) h c short in
      let bound : depth s (node i m run ls done) ≤ spine s (node i m run ls done) + max 1 (levels s (node i m run ls done)) =
      depth-bound s (whole s k ∷ []) (node i m run ls done) conform.hangs in
      let low : spine s (node i m run ls done) ≤ MOST_SPINE = conform.low in
      record {
        frames = [];
        frame = f;
        spots = tt;
        sound = walkable;
        room = omega arith;
        starts = tt;
        are = ap (from 0) (append-nil (elements s (parts_in s f))) ∙ from-zero (elements s (parts_in s f)) ∙ elements-walk s i f;
      }

  -- a structure with a root is entered there
  pub begins : (i : ℕ) (t : Tree) → st.top ≡ tops.Node i → IsStanding s a st t → IsConforming s k st t → IsToEnter s a [] i 0 (walk_of s t)
  begins i empty e h c = let top = sym e ∙ h.top in cc
  begins i (rooted j m run ls) e h c =
      let same : j ≡ i = node-same j i (sym h.top ∙ e) in
      subst (λ n. IsToEnter s a [] n 0 (walk_of s (rooted j m run ls))) same (begins-rooted j m run ls h c)
  begins i (flat j run) e h c = let top = sym e ∙ h.top in cc

-- an empty structure has no elements
pub nothing-there : (s : List NodeKind) (a : ArenaState) (k : ℕ) (st : Structure) (t : Tree) → st.top ≡ tops.Empty → IsStanding s a st t → walk_of s t ≡ []
nothing-there s a k st empty e h = refl
nothing-there s a k st (rooted i m run ls) e h = let top = sym e ∙ h.top in cc
nothing-there s a k st (flat i run) e h = let top = sym e ∙ h.top in cc

has-some : (o : Option RunState) (P : RunState → Type 0) → IsSomeAnd o P → IsSome o
has-some None P h = absurd h
has-some (Some r) P h = refl

-- the run of a flat structure stands
pub run-stands : (s : List NodeKind) (a : ArenaState) (st : Structure) (t : Tree) (i : ℕ) → st.top ≡ tops.Run i → IsStanding s a st t → IsSome (run_at a i)
run-stands s a st empty i e h = let top = sym e ∙ h.top in cc
run-stands s a st (rooted j m run ls) i e h = let top = sym e ∙ h.top in cc
run-stands s a st (flat j run) i e h =
    let same : j ≡ i = run-same j i (sym h.top ∙ e) in
    subst (λ n. IsSome (run_at a n)) same (has-some (run_at a j) (λ r. r.elems ≡ run) h.run)

-- the walk of what conforms rises
pub conforms-rising : (s : List NodeKind) (k : ℕ) (st : Structure) (t : Tree) → IsConforming s k st t → IsRising (walk_of s t)
conforms-rising s k st empty c = tt
conforms-rising s k st (rooted i m run ls) c = c.tree.1.rising
conforms-rising s k st (flat i run) c = c.tree.2

-- ---- a walker's run and path

has-run : (w : WalkerState) (spot : RunSpot) (xs : List Elem) → w.run ≡ Some spot → AreLeft w xs → RunHas w.arena spot xs
has-run w spot xs e l = subst (λ o. Has (kinds_of w.code) w.arena o w.path xs) e l.has

has-path : (w : WalkerState) (xs : List Elem) → w.run ≡ None → AreLeft w xs → PathHas (kinds_of w.code) w.arena w.path xs
has-path w xs e l = subst (λ o. Has (kinds_of w.code) w.arena o w.path xs) e l.has

path-has : (w : WalkerState) (path : List NodeSpot) (xs : List Elem) → w.run ≡ None → PathHas (kinds_of w.code) w.arena path xs
    → Has (kinds_of w.code) w.arena w.run path xs
path-has w path xs e h = subst (λ o. Has (kinds_of w.code) w.arena o path xs) (sym e) h

slice-first : (xs : List Elem) (n : ℕ) → slice_get xs n ≡ slice_get (drop n xs) 0
slice-first [] zero = refl
slice-first [] (suc n) = refl
slice-first (x ∷ xs) zero = refl
slice-first (x ∷ xs) (suc n) = slice-first xs n

drop-suc : (xs : List Elem) (n : ℕ) → drop (suc n) xs ≡ drop 1 (drop n xs)
drop-suc xs zero = refl
drop-suc [] (suc n) = refl
drop-suc (x ∷ xs) (suc n) = drop-suc xs n

drop-one : (xs : List Elem) (n : ℕ) → drop (n + 1) xs ≡ drop 1 (drop n xs)
drop-one xs n = let e : n + 1 ≡ suc n = omega arith in ap (λ k. drop k xs) e ∙ drop-suc xs n

drop-all : (xs : List Elem) (n : ℕ) → length xs ≤ n → drop n xs ≡ []
drop-all [] zero l = refl
drop-all [] (suc n) l = refl
drop-all (x ∷ xs) zero l = absurd (omega arith)
drop-all (x ∷ xs) (suc n) l = drop-all xs n (omega arith)

-- the spot of the next element, or the same at the end
abbrev pub next_spot : RunSpot → RunSpot
next_spot spot = record { run = spot.run; place = if nat_lt spot.place spot.len then (spot.place + 1) else spot.place; len = spot.len }

next-drop : (b : Bool) (elems : List Elem) (place len : ℕ) → ltb place len ≡ b → len ≡ length elems
    → drop (cond b (place + 1) place) elems ≡ drop 1 (drop place elems)
next-drop true elems place len e l = drop-one elems place
next-drop false elems place len e l =
    let past : len ≤ place = grind (arith, e) in
    let none : drop place elems ≡ [] = drop-all elems place (omega (arith, past, l)) in
    none ∙ ap (drop 1) (sym none)

run-next : (a : ArenaState) (spot : RunSpot) (xs : List Elem) → RunHas a spot xs → RunHas a (next_spot spot) (drop 1 xs)
run-next a spot xs h =
    run-and (run_at a spot.run) (HasAt spot xs) (HasAt (next_spot spot) (drop 1 xs)) h
    (λ r p. (next-drop (ltb spot.place spot.len) r.elems spot.place spot.len refl p.2 ∙ ap (drop 1) p.0, p.1, p.2))

run-first : (o : Option RunState) (spot : RunSpot) (xs : List Elem) (result : Option Elem) → IsSomeAnd o (HasAt spot xs)
    → IfSome o (λ r. result ≡ slice_get r.elems spot.place) → result ≡ slice_get xs 0
run-first None spot xs result h r = absurd h
run-first (Some q) spot xs result h r = r ∙ slice-first q.elems spot.place ∙ ap (λ ys. slice_get ys 0) h.0

module _ (w : WalkerState) (xs : List Elem) (l : AreLeft w xs) where
  pub run-of : (spot : RunSpot) → w.run ≡ Some spot → RunHas w.arena spot xs
  run-of spot e = has-run w spot xs e l

  pub path-of : (kinds : List NodeKind) → kinds ≡ kinds_of w.code → w.run ≡ None → PathHas kinds w.arena w.path xs
  path-of kinds k e = subst (λ s. PathHas s w.arena w.path xs) (sym k) (has-path w xs e l)

  -- the next element of a flat run is taken
  pub run-taken : (spot next : RunSpot) (result : Option Elem) → w.run ≡ Some spot → next ≡ next_spot spot
      → IfSome (run_at w.arena spot.run) (λ r. result ≡ slice_get r.elems spot.place)
      → TakesFirst (record { code = w.code; arena = w.arena; run = Some next; path = w.path }) result xs
  run-taken spot next result e n r = record {
    first = run-first (run_at w.arena spot.run) spot xs result (run-of spot e) r;
    others = record {
      has = subst (λ s. RunHas w.arena s (drop 1 xs)) (sym n) (run-next w.arena spot xs (run-of spot e));
      rising = IsRising-drop xs l.rising;
    };
  }

  -- the next element of the path is taken
  pub path-taken : (kinds : List NodeKind) (path : List NodeSpot) (result : Option Elem) → kinds ≡ kinds_of w.code → w.run ≡ None
      → ((ys : List Elem) → PathHas kinds w.arena w.path ys → PathTakes kinds w.arena path result ys)
      → TakesFirst (record { code = w.code; arena = w.arena; run = w.run; path = path }) result xs
  path-taken kinds path result k e f =
      let t : PathTakes (kinds_of w.code) w.arena path result xs = subst (λ s. PathTakes s w.arena path result xs) k (f xs (path-of kinds k e)) in
      record { first = t.first; others = record { has = path-has w path (drop 1 xs) e t.others; rising = IsRising-drop xs l.rising } }

  pub run-dropped : (at : ℕ) (spot next : RunSpot) → w.run ≡ Some spot → ((ys : List Elem) → RunHas w.arena spot ys → RunHas w.arena next (from at ys))
      → AreLeft (record { code = w.code; arena = w.arena; run = Some next; path = w.path }) (from at xs)
  run-dropped at spot next e f = record { has = f xs (run-of spot e); rising = IsRising-from at xs l.rising }

  pub path-dropped : (at : ℕ) (kinds : List NodeKind) (path : List NodeSpot) → kinds ≡ kinds_of w.code → w.run ≡ None
      → ((ys : List Elem) → PathHas kinds w.arena w.path ys → IsRising ys → PathHas kinds w.arena path (from at ys))
      → AreLeft (record { code = w.code; arena = w.arena; run = w.run; path = path }) (from at xs)
  path-dropped at kinds path k e f = record {
    has = path-has w path (from at xs) e (subst (λ s. PathHas s w.arena path (from at xs)) k (f xs (path-of kinds k e) l.rising));
    rising = IsRising-from at xs l.rising;
  }
