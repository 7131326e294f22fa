-- The last place of a path: its element, and what comes behind it.
use Rattle.std.proofs.Common.{◌≡◌, ◌≤◌, ◌<◌, ◌+◌, ◌-◌, ◌⊎◌, inl, inr, ℕ, zero, suc, List, [], ◌∷◌, ◌++◌}
use Rattle.std.proofs.Common.{length, get_or, Option, Some, None, refl, ap, ◌∙◌, sym, subst, arith}
use Rattle.std.specs.List.{slice_get}
use Rattle.std.specs.Prelude.{IfSome}
use Rattle.std.specs.Option.{option_map}
use Rattle.std.proofs.lemmas.Option.{slice_get-get_or}
use Rattle.node_arena.specs.declared.elements.Elem.{Elem}
use Rattle.node_arena.specs.declared.kinds.NodeKind.{NodeKind}
use Rattle.node_arena.specs.Arenas.{NodeState, ArenaState, node_at, coordinate_at}
use Rattle.node_arena.specs.Conforming.{IsRising}
use Rattle.node_arena.specs.Kinds.{shape_at}
use Rattle.node_arena.specs.Trees.{Trees, stored}
use Rattle.node_arena.specs.Walks.{Part, item}
use Rattle.iter_gen.specs.declared.paths.NodeSpot.{NodeSpot}
use Rattle.iter_gen.specs.declared.paths.TheConstants.{MOST_PLACES}
use Rattle.iter_gen.specs.Behind.{behind, past_link, BeginsWithItems}
use Rattle.iter_gen.specs.Frames.{from, StartsFrom, depth_by, depth, Frame, tree_at, parts_in, elements, left_in}
use Rattle.iter_gen.specs.Frames.{LiesIn, LieIn, ahead, PathHas, PathTakes, IsToEnter, IsToGoOn}
use Rattle.iter_gen.proofs.BehindLemmas.{past_link-begins}
use Rattle.iter_gen.proofs.FromLemmas.{from-zero, StartsFrom-zero, from-below}
use Rattle.iter_gen.proofs.FromLemmas.{from-up-to, IsRising-later}
use Rattle.iter_gen.proofs.NodesLemmas.{depth-some, item-in, end-in, from-element, blank}
use Rattle.iter_gen.proofs.ReadingLemmas.{at-some}
use Rattle.iter_gen.proofs.PathsLemmas.{below-or-not, LieIn-push, ahead-push}

leaves-first : (at c : ℕ) (xs ys zs : List Elem) → xs ++ ys ≡ zs → IsRising zs → coordinate_at ys 0 ≡ Some c → c ≤ at → from at ys ≡ from at zs
leaves-first at c xs [] zs e r k low = cc
leaves-first at c xs (y ∷ ys) zs e r k low =
    let same : y.at ≡ c = cc (k) in
    sym (from-up-to at xs y ys (subst IsRising (sym e) r) (omega (arith, same, low))) ∙ ap (from at) e

-- what has no first element starts from any coordinate
pub starts-none : (at : ℕ) (xs : List Elem) → coordinate_at xs 0 ≡ None → StartsFrom at xs
starts-none at [] e = tt
starts-none at (x ∷ xs) e = cc

-- what has a first element starts from those that aren't above it
pub starts-some : (at c : ℕ) (xs : List Elem) → coordinate_at xs 0 ≡ Some c → at ≤ c → StartsFrom at xs
starts-some at c [] e l = tt
starts-some at c (x ∷ xs) e l = let same : x.at ≡ c = cc (e) in omega (arith, l, same)

module _ (s : List NodeKind) (a : ArenaState) where
  -- the path without its last place
  record Parted (n : ℕ) (path : List NodeSpot) (spot : NodeSpot) (frames : List Frame) : Type 0 where
    before : List Frame
    frame : Frame
    is : frames ≡ before ++ frame ∷ []
    spots : LieIn s a n path before
    here : LiesIn s a spot frame (n + length path)

  parted : (n : ℕ) (path : List NodeSpot) (spot : NodeSpot) (frames : List Frame) → LieIn s a n (path ++ spot ∷ []) frames → Parted n path spot frames
  parted n [] spot [] h = absurd h
  parted n [] spot (f ∷ []) h = record { before = []; frame = f; is = refl; spots = tt; here = subst (LiesIn s a spot f) (omega arith) h.0 }
  parted n [] spot (f ∷ g ∷ fs) h = absurd h.1
  parted n (p ∷ path) spot [] h = absurd h
  parted n (p ∷ path) spot (f ∷ fs) h =
      let i : Parted (suc n) path spot fs = parted (suc n) path spot fs h.1 in
      record {
        before = f ∷ i.before;
        frame = i.frame;
        is = ap (λ r. f ∷ r) i.is;
        spots = (h.0, i.spots);
        here = subst (LiesIn s a spot i.frame) (omega arith) i.here;
      }

  -- the last place of a path, its element, and what comes behind
  pub record Last (path : List NodeSpot) (spot : NodeSpot) (xs : List Elem) : Type 0 where
    pub frames : List Frame
    pub frame : Frame
    pub spots : LieIn s a 0 path frames
    pub here : LiesIn s a spot frame (length path)
    pub inside : spot.place < length frame.run
    pub first : Elem
    pub read : slice_get frame.run spot.place ≡ Some first
    pub same : get_or frame.run spot.place blank ≡ first
    pub next : past_link (behind spot.place (parts_in s frame)) ≡ item first ∷ behind (suc spot.place) (parts_in s frame)
    pub are : (first ∷ elements s (behind (suc spot.place) (parts_in s frame))) ++ ahead s path frames ≡ xs

  begins-some : (n : ℕ) (ps : List (Part Trees)) → 0 < n → BeginsWithItems n ps → ps ≡ [] → ⊥
  begins-some zero ps l b e = absurd (omega arith)
  begins-some (suc n) ps l b e = subst (BeginsWithItems (suc n)) e b

  inside-run : (spot : NodeSpot) (f : Frame) (n : ℕ) → LiesIn s a spot f n → (spot.place < length f.run) ⊎ (length f.run ≤ spot.place)
      → spot.place < length f.run
  inside-run spot f n h (inl l) = l
  inside-run spot f n h (inr l) =
      absurd (begins-some (spot.stop - spot.place) (past_link (behind spot.place (parts_in s f))) (let r : spot.place < spot.stop =
      h.ready in omega arith) h.straight
      (end-in s a spot.node spot.place f h.sound l))

  pub last : (path : List NodeSpot) (spot : NodeSpot) (xs : List Elem) → PathHas s a (path ++ spot ∷ []) xs → Last path spot xs
  last path spot xs h =
      let p : Parted 0 path spot h.frames = parted 0 path spot h.frames h.spots in
      let inside : spot.place < length p.frame.run = inside-run spot p.frame (0 + length path) p.here (below-or-not spot.place (length p.frame.run)) in
      let first : Elem = get_or p.frame.run spot.place blank in
      let next : past_link (behind spot.place (parts_in s p.frame)) ≡ item first ∷ behind (suc spot.place) (parts_in s p.frame) =
      item-in s a spot.node spot.place p.frame blank p.here.sound inside in
      record {
        frames = p.before;
        frame = p.frame;
        spots = p.spots;
        here = subst (LiesIn s a spot p.frame) (omega arith) p.here;
        inside = inside;
        first = first;
        read = slice_get-get_or p.frame.run spot.place blank inside;
        same = refl;
        next = next;
        are =
            ap (λ ps. elements s ps ++ ahead s path p.before) (sym next) ∙ sym (ahead-push s a 0 path spot p.before p.frame p.spots)
            ∙ ap (ahead s (path ++ spot ∷ [])) (sym p.is) ∙ h.are;
      }

  -- nothing is left where the path is empty
  pub nothing : (path : List NodeSpot) (xs : List Elem) → path ≡ [] → PathHas s a path xs → xs ≡ []
  nothing path xs e h = sym h.are ∙ ap (λ p. ahead s p h.frames) e

  module _ (path : List NodeSpot) (spot : NodeSpot) (xs : List Elem) (l : Last path spot xs) where
    abbrev pub others : List Elem
    others = elements s (behind (suc spot.place) (parts_in s l.frame)) ++ ahead s path l.frames

    pub last-stands : node_at a spot.node ≡ Some (stored l.frame.kind l.frame.run l.frame.links)
    last-stands = l.here.sound.0

    -- the next element of the node follows with no link between
    pub stays : suc spot.place < spot.stop → PathHas s a (path ++ record { node = spot.node; place = suc spot.place; stop = spot.stop } ∷ []) others
    stays less =
        let q : NodeSpot = record { node = spot.node; place = suc spot.place; stop = spot.stop } in
        let two : spot.stop - spot.place ≡ suc (spot.stop - suc spot.place) = omega arith in
        let one : suc (spot.stop - suc (suc spot.place)) ≡ spot.stop - suc spot.place = omega arith in
        let straight : BeginsWithItems (suc (spot.stop - suc spot.place)) (item l.first ∷ behind (suc spot.place) (parts_in s l.frame)) =
        subst (λ k. BeginsWithItems k (item l.first ∷ behind (suc spot.place) (parts_in s l.frame))) two (subst (BeginsWithItems
        (spot.stop - spot.place)) l.next l.here.straight) in
        let begins : BeginsWithItems (suc (spot.stop - suc (suc spot.place))) (behind (suc spot.place) (parts_in s l.frame)) =
        subst (λ k. BeginsWithItems k (behind (suc spot.place) (parts_in s l.frame))) (sym one) straight in
        let past : past_link (behind (suc spot.place) (parts_in s l.frame)) ≡ behind (suc spot.place) (parts_in s l.frame) =
        past_link-begins (spot.stop - suc (suc spot.place)) (behind (suc spot.place) (parts_in s l.frame)) begins in
        let there : LiesIn s a q l.frame (0 + length path) = record {
          sound = l.here.sound;
          ready = less;
          straight = subst (BeginsWithItems (spot.stop - suc spot.place)) (sym past) straight;
          room = let r = l.here.room in omega arith;
        } in
        record {
          frames = l.frames ++ l.frame ∷ [];
          spots = LieIn-push s a 0 path q l.frames l.frame l.spots there;
          are = ahead-push s a 0 path q l.frames l.frame l.spots ∙ ap (λ ps. elements s ps ++ ahead s path l.frames) past;
        }

    -- the walk goes on behind the element
    pub goes-on : IsToGoOn s a path spot.node (suc spot.place) 0 others
    goes-on = record {
      frames = l.frames;
      frame = l.frame;
      spots = l.spots;
      sound = l.here.sound;
      room = l.here.room;
      starts = StartsFrom-zero (ahead s path l.frames);
      within = let i = l.inside in omega arith;
      next = StartsFrom-zero (left_in s l.frame (suc spot.place));
      are = from-zero others;
    }

    pub takes : (n : NodeState) → node_at a spot.node ≡ Some n → (result : Option Elem) (new : List NodeSpot) → result ≡ slice_get n.run spot.place
        → PathHas s a new others
        → PathTakes s a new result xs
    takes n is result new r h =
        let both : Some n ≡ Some (stored l.frame.kind l.frame.run l.frame.links) = sym is ∙ last-stands in
        let same : n ≡ stored l.frame.kind l.frame.run l.frame.links = cc (both) in
        let read : result ≡ slice_get l.frame.run spot.place = r ∙ ap (λ (m : NodeState). slice_get m.run spot.place) same in
        subst (PathTakes s a new result) l.are (record { first = read ∙ l.read; others = h })

    next-number : suc spot.place ≡ spot.place + 1
    next-number = omega arith

    -- the same with numbers as the code has them
    pub stays-there : spot.place + 1 < spot.stop → PathHas s a (path ++ record { node = spot.node; place = spot.place + 1; stop = spot.stop } ∷ []) others
    stays-there less =
        subst (λ n. PathHas s a (path ++ record { node = spot.node; place = n; stop = spot.stop } ∷ []) others) next-number (stays (omega (arith, less)))

    pub goes-on-there : IsToGoOn s a path spot.node (spot.place + 1) 0 others
    goes-on-there = subst (λ n. IsToGoOn s a path spot.node n 0 others) next-number goes-on

    pub low-place : spot.place < 16
    low-place = let i : spot.place < length l.frame.run = l.inside in let f : length l.frame.run ≤ 16 = l.here.sound.1.few in omega arith

    pub last-short : length path < MOST_PLACES
    last-short =
        let room : depth s (tree_at spot.node l.frame) + length path ≤ MOST_PLACES = l.here.room in
        let some : 1 ≤ depth_by (shape_at s l.frame.kind) (depth s l.frame.links) = depth-some (shape_at s l.frame.kind) (depth s l.frame.links) in
        omega arith

    -- the coordinate that is read is that of the first element
    pub coming-is : (result : Option ℕ) → IfSome (node_at a spot.node) (λ n. result ≡ coordinate_at n.run spot.place) → result ≡ coordinate_at xs 0
    coming-is result r =
        let read : result ≡ coordinate_at l.frame.run spot.place =
        at-some (node_at a spot.node) (stored l.frame.kind l.frame.run l.frame.links) (λ n. result ≡ coordinate_at n.run spot.place) last-stands r in
        subst (λ ys. result ≡ coordinate_at ys 0) l.are (read ∙ ap (option_map (λ (e : Elem). e.at)) l.read)

    -- where the next element of the outer nodes isn't above the coordinate, the node is left
    pub leaves : (at c : ℕ) → IsRising xs → coordinate_at (ahead s path l.frames) 0 ≡ Some c → c ≤ at → from at (ahead s path l.frames) ≡ from at xs
    leaves at c r e low = leaves-first at c (l.first ∷ elements s (behind (suc spot.place) (parts_in s l.frame))) (ahead s path l.frames) xs l.are r e low

    pub outer : PathHas s a path (ahead s path l.frames)
    outer = record { frames = l.frames; spots = l.spots; are = refl }

    pub outer-rising : IsRising xs → IsRising (ahead s path l.frames)
    outer-rising r =
        IsRising-later (l.first ∷ elements s (behind (suc spot.place) (parts_in s l.frame))) (ahead s path l.frames) (subst IsRising (sym l.are) r)

    -- where the first element is below, the node is entered again
    pub searches : (at c : ℕ) → coordinate_at xs 0 ≡ Some c → c < at → StartsFrom at (ahead s path l.frames) → IsToEnter s a path spot.node at (from at xs)
    searches at c e low starts =
        let is : Some l.first.at ≡ Some c = ap (λ ys. coordinate_at ys 0) l.are ∙ e in
        let same : l.first.at ≡ c = cc (is) in
        let below : (get_or l.frame.run spot.place blank).at < at = subst (λ (x : Elem). x.at < at) (sym l.same) (omega (arith, same, low)) in
        record {
          frames = l.frames;
          frame = l.frame;
          spots = l.spots;
          sound = l.here.sound;
          room = l.here.room;
          starts = starts;
          are = from-element s a spot.node l.frame spot.place at blank (ahead s path l.frames) l.here.sound l.inside below
              ∙ sym (from-below at l.first others (omega (arith, same, low))) ∙ ap (from at) l.are;
        }

-- a path whose last place is this one
pub record EndsIn (path : List NodeSpot) (spot : NodeSpot) : Type 0 where
  pub before : List NodeSpot
  pub is : path ≡ before ++ spot ∷ []

-- the last place is the one that is read
pub ends-in : (path : List NodeSpot) (spot : NodeSpot) → Some spot ≡ slice_get path (length path - 1) → EndsIn path spot
ends-in [] spot e = cc
ends-in (p ∷ []) spot e = let same : spot ≡ p = cc (e) in record { before = []; is = ap (λ q. q ∷ []) (sym same) }
ends-in (p ∷ q ∷ path) spot e =
    let shift : suc (suc (length path)) - 1 ≡ suc (length path) = omega arith in
    let back : length path ≡ suc (length path) - 1 = omega arith in
    let there : Some spot ≡ slice_get (q ∷ path) (length path) = subst (λ i. Some spot ≡ slice_get (p ∷ q ∷ path) i) shift e in
    let i : EndsIn (q ∷ path) spot = ends-in (q ∷ path) spot (subst (λ i. Some spot ≡ slice_get (q ∷ path) i) back there) in
    record { before = p ∷ i.before; is = ap (λ r. p ∷ r) i.is }
