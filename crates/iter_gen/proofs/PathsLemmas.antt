-- A path on the way down and up.
use Rattle.std.proofs.Common.{◌≡◌, ◌≤◌, ◌<◌, ◌+◌, ◌-◌, ◌⊎◌, inl, inr, ℕ, zero, suc, List, [], ◌∷◌, ◌++◌}
use Rattle.std.proofs.Common.{map, length, get_or, Option, Some, None, refl, ap, ◌∙◌, sym, subst, arith, append_assoc, append-nil, length-append}
use Rattle.std.specs.Option.{option_map, unwrap_or}
use Rattle.node_arena.specs.declared.elements.Elem.{Elem}
use Rattle.node_arena.specs.declared.kinds.NodeKind.{NodeKind}
use Rattle.node_arena.specs.declared.kinds.Shape.{Shape}
use Rattle.node_arena.specs.Arenas.{NodeState, ArenaState, node_at, place_in}
use Rattle.node_arena.specs.Conforming.{IsRising}
use Rattle.node_arena.specs.Kinds.{shape_at}
use Rattle.node_arena.specs.Trees.{Trees, done, absent, node, roots, stored}
use Rattle.node_arena.specs.Walks.{item, parts, walk}
use Rattle.iter_gen.specs.declared.paths.NodeSpot.{NodeSpot}
use Rattle.iter_gen.specs.declared.paths.TheConstants.{MOST_PLACES}
use Rattle.iter_gen.specs.Acts.{HasAllLinks}
use Rattle.iter_gen.specs.Behind.{behind, first_link, past_link, BeginsWithItems}
use Rattle.iter_gen.specs.Frames.{from, StartsFrom, depth_by, depth, Frame, tree_at, parts_in, elements, left_in}
use Rattle.iter_gen.specs.Frames.{LiesIn, LieIn, ahead, PathHas, IsToEnter, IsToGoOn, GoesDown, first_coordinate, first_at, part_map}
use Rattle.iter_gen.proofs.BehindLemmas.{behind-map, past_link-map, BeginsWithItems-map}
use Rattle.iter_gen.proofs.FromLemmas.{from-starts, StartsFrom-append}
use Rattle.iter_gen.proofs.FromLemmas.{place-low, place-next, place-before, place-some}
use Rattle.iter_gen.proofs.NodesLemmas.{root, heads, link_walk, elements-first, elements-walk, number_of, read-in, IsLink, IsChild}
use Rattle.iter_gen.proofs.NodesLemmas.{child-at, depth-some, depth-inside, depth-last, item-in, end-in, rising-in, rises-last, run-rising, from-element, blank}
use Rattle.iter_gen.proofs.ReadingLemmas.{read}

-- a number is below another, or isn't
pub below-or-not : (n m : ℕ) → (n < m) ⊎ (m ≤ n)
below-or-not n zero = inr (omega arith)
below-or-not zero (suc m) = inl (omega arith)
below-or-not (suc n) (suc m) = more (below-or-not n m)
  where
    more : (n < m) ⊎ (m ≤ n) → (suc n < suc m) ⊎ (suc m ≤ suc n)
    more (inl l) = inl (omega arith)
    more (inr l) = inr (omega arith)

module _ (s : List NodeKind) (a : ArenaState) where
  -- ---- one place more

  pub LieIn-push : (n : ℕ) (ps : List NodeSpot) (p : NodeSpot) (fs : List Frame) (f : Frame) → LieIn s a n ps fs → LiesIn s a p f (n + length ps)
      → LieIn s a n (ps ++ p ∷ []) (fs ++ f ∷ [])
  LieIn-push n [] p [] f h k = (subst (LiesIn s a p f) (omega arith) k, tt)
  LieIn-push n [] p (g ∷ fs) f h k = absurd h
  LieIn-push n (q ∷ ps) p [] f h k = absurd h
  LieIn-push n (q ∷ ps) p (g ∷ fs) f h k = (h.0, LieIn-push (suc n) ps p fs f h.1 (subst (LiesIn s a p f) (omega arith) k))

  pub ahead-push : (n : ℕ) (ps : List NodeSpot) (p : NodeSpot) (fs : List Frame) (f : Frame) → LieIn s a n ps fs
      → ahead s (ps ++ p ∷ []) (fs ++ f ∷ []) ≡ left_in s f p.place ++ ahead s ps fs
  ahead-push n [] p [] f h = sym (append-nil (left_in s f p.place))
  ahead-push n [] p (g ∷ fs) f h = absurd h
  ahead-push n (q ∷ ps) p [] f h = absurd h
  ahead-push n (q ∷ ps) p (g ∷ fs) f h =
      ap (λ w. w ++ left_in s g q.place) (ahead-push (suc n) ps p fs f h.1) ∙ append_assoc (left_in s f p.place) (ahead s ps fs) (left_in s g q.place)

  -- ---- down

  goes-to : (path : List NodeSpot) (at : ℕ) (xs : List Elem) (frames : List Frame) (t : Trees) → LieIn s a 0 path frames → IsLink s a t
      → depth s t + length path ≤ MOST_PLACES → StartsFrom at (ahead s path frames) → from at (walk s t ++ ahead s path frames) ≡ xs
      → GoesDown s a path (root t) at xs
  goes-to path at xs frames done h l room starts are = absurd l
  goes-to path at xs frames (absent u) h l room starts are =
      let none : walk s u ≡ [] = ap (walk s) l in
      record {
        frames = frames;
        spots = h;
        are =
            sym (from-starts at (ahead s path frames) starts) ∙ subst (λ w. from at (w ++ ahead s path frames) ≡ xs) none are;
      }
  goes-to path at xs frames (node i k run ls u) h l room starts are =
      let f : Frame = record { kind = k; run = run; links = ls } in
      let same : walk s (node i k run ls u) ≡ elements s (parts_in s f) = ap (λ v. walk s (node i k run ls v)) l.0 ∙ sym (elements-walk s i f) in
      let low : depth s (tree_at i f) + length path ≤ MOST_PLACES = subst (λ v. depth s (node i k run ls v) + length path ≤ MOST_PLACES) l.0 room in
      record {
        frames = frames;
        frame = f;
        spots = h;
        sound = l.1;
        room = low;
        starts = starts;
        are = subst (λ w. from at (w ++ ahead s path frames) ≡ xs) same are;
      }

  -- what hangs before the path's elements is entered, if there is something
  goes : (path : List NodeSpot) (at : ℕ) (xs : List Elem) (frames : List Frame) (o : Option Trees) → LieIn s a 0 path frames
      → ((t : Trees) → o ≡ Some t → IsLink s a t × (depth s t + length path ≤ MOST_PLACES)) → StartsFrom at (ahead s path frames)
      → from at (link_walk s o ++ ahead s path frames) ≡ xs → GoesDown s a path (number_of o) at xs
  goes path at xs frames None h all starts are = record { frames = frames; spots = h; are = sym (from-starts at (ahead s path frames) starts) ∙ are }
  goes path at xs frames (Some t) h all starts are = let c : IsLink s a t × (depth s t + length path ≤ MOST_PLACES) = all t refl in
      goes-to path at xs frames t h c.0 c.1 starts are

  module _ (path : List NodeSpot) (id place at : ℕ) (xs : List Elem) (p : IsToGoOn s a path id place at xs) where
    pub stands : node_at a id ≡ Some (stored p.frame.kind p.frame.run p.frame.links)
    stands = p.sound.0

    child : (t : Trees) → first_link (behind place (parts_in s p.frame)) ≡ Some t → IsChild s a (depth s p.frame.links) t
    child t e = child-at s a id place p.frame t p.sound e

    -- the last link is entered, and the node left
    pub down-last : length p.frame.run ≤ place → GoesDown s a path (number_of (first_link (behind place (parts_in s p.frame)))) at xs
    down-last l =
        let none : past_link (behind place (parts_in s p.frame)) ≡ [] = end-in s a id place p.frame p.sound l in
        let alone : elements s (behind place (parts_in s p.frame)) ≡ link_walk s (first_link (behind place (parts_in s p.frame))) =
        elements-first s (behind place (parts_in s p.frame))
        ∙ ap (λ ps. link_walk s (first_link (behind place (parts_in s p.frame))) ++ elements s ps) none
        ∙ append-nil (link_walk s (first_link (behind place (parts_in s p.frame)))) in
        goes path at xs p.frames (first_link (behind place (parts_in s p.frame))) p.spots
        (λ t e. let c : IsChild s a (depth s p.frame.links) t = child t e in
        let low : depth s t ≤ depth_by (shape_at s p.frame.kind) (depth s p.frame.links) =
        depth-last s (shape_at s p.frame.kind) place (depth s p.frame.links) p.frame.run p.frame.links t p.sound.1.links e c.1 in
        let room : depth s (tree_at id p.frame) + length path ≤ MOST_PLACES = p.room in
        (c.0, omega arith))
        p.starts (subst (λ w. from at (w ++ ahead s path p.frames) ≡ xs) alone p.are)

    -- the node stays on the path, and the link before its next element is entered
    pub down-inside : (stop : ℕ) → place < length p.frame.run → place < stop → BeginsWithItems (stop - place) (past_link (behind place (parts_in s p.frame)))
        → GoesDown s a (path ++ record { node = id; place = place; stop = stop } ∷ []) (number_of (first_link (behind place (parts_in s p.frame)))) at xs
    down-inside stop l ready straight =
        let spot : NodeSpot = record { node = id; place = place; stop = stop } in
        let room : depth s (tree_at id p.frame) + length path ≤ MOST_PLACES = p.room in
        let here : LiesIn s a spot p.frame (0 + length path) = record { sound = p.sound; ready = ready; straight = straight; room = omega arith } in
        let pushed : ahead s (path ++ spot ∷ []) (p.frames ++ p.frame ∷ []) ≡ left_in s p.frame place ++ ahead s path p.frames =
        ahead-push 0 path spot p.frames p.frame p.spots in
        let whole : elements s (behind place (parts_in s p.frame)) ++ ahead s path p.frames
        ≡ link_walk s (first_link (behind place (parts_in s p.frame))) ++ ahead s (path ++ spot ∷ []) (p.frames ++ p.frame ∷ []) =
        ap (λ w. w ++ ahead s path p.frames) (elements-first s (behind place (parts_in s p.frame)))
        ∙ append_assoc (link_walk s (first_link (behind place (parts_in s p.frame)))) (left_in s p.frame place) (ahead s path p.frames)
        ∙ ap (λ w. link_walk s (first_link (behind place (parts_in s p.frame))) ++ w) (sym pushed) in
        goes (path ++ spot ∷ []) at xs (p.frames ++ p.frame ∷ []) (first_link (behind place (parts_in s p.frame)))
        (LieIn-push 0 path spot p.frames p.frame p.spots here)
        (λ t e. let c : IsChild s a (depth s p.frame.links) t = child t e in
        let low : 1 + depth s t ≤ depth_by (shape_at s p.frame.kind) (depth s p.frame.links) =
        depth-inside s (shape_at s p.frame.kind) place (depth s p.frame.links) p.frame.run p.frame.links t l e c.1 in
        let len : length (path ++ spot ∷ []) ≡ length path + 1 = length-append path (spot ∷ []) in
        (c.0, omega arith))
        (subst (StartsFrom at) (sym pushed) (StartsFrom-append at (left_in s p.frame place) (ahead s path p.frames) p.next p.starts))
        (subst (λ w. from at w ≡ xs) whole p.are)

    -- the same where the spot's place is another term for the number
    pub down-shown : (shown stop : ℕ) → shown ≡ place → place < length p.frame.run → place < stop
        → BeginsWithItems (stop - place) (past_link (behind place (parts_in s p.frame)))
        → GoesDown s a (path ++ record { node = id; place = shown; stop = stop } ∷ []) (number_of (first_link (behind place (parts_in s p.frame)))) at xs
    down-shown shown stop e l ready straight =
        subst (λ n. GoesDown s a (path ++ record { node = id; place = n; stop = stop } ∷ [])
        (number_of (first_link (behind place (parts_in s p.frame)))) at xs) (sym e) (down-inside stop l ready straight)

    module _ (n : NodeState) (is : node_at a id ≡ Some n) where
      same-node : stored p.frame.kind p.frame.run p.frame.links ≡ n
      same-node = let both : Some (stored p.frame.kind p.frame.run p.frame.links) ≡ Some n = sym stands ∙ is in cc (both)

      -- the node that is read is the frame
      pub same-run : n.run ≡ p.frame.run
      same-run = sym (ap (λ (m : NodeState). m.run) same-node)

      pub same-length : length n.run ≡ length p.frame.run
      same-length = ap length same-run

      pub few : length n.run ≤ 16
      few = let f : length p.frame.run ≤ 16 = p.sound.1.few in omega (arith, same-length)

      pub inside : place ≤ length n.run
      inside = let w : place ≤ length p.frame.run = p.within in omega (arith, same-length)

      -- it has the links of its shape
      pub links-are : (shape : Shape) → shape ≡ shape_at s n.kind → HasAllLinks shape n.run n.links
      links-are shape e =
          subst (λ sh. HasAllLinks sh n.run n.links) (sym e) (subst (λ (m : NodeState). HasAllLinks (shape_at s m.kind) m.run m.links) same-node
          p.sound.1.links)

      -- what is read before the next element is the number of what hangs there
      pub link-is : (shape : Shape) (result : Option ℕ) → shape ≡ shape_at s n.kind → result ≡ read shape n.run n.links place
          → result ≡ number_of (first_link (behind place (parts_in s p.frame)))
      link-is shape result e r =
          r ∙ ap (λ sh. read sh n.run n.links place) e ∙ ap (λ (m : NodeState). read (shape_at s m.kind) m.run m.links place) (sym same-node)
          ∙ read-in s p.frame place

      pub straight-is : (shape : Shape) (stop : ℕ) → shape ≡ shape_at s n.kind
          → BeginsWithItems (stop - place) (past_link (behind place (parts shape n.run n.links)))
          → BeginsWithItems (stop - place) (past_link (behind place (parts_in s p.frame)))
      straight-is shape stop e b =
          let here : BeginsWithItems (stop - place) (past_link (behind place (parts (shape_at s p.frame.kind) p.frame.run (roots p.frame.links)))) =
          subst (λ (m : NodeState). BeginsWithItems (stop - place) (past_link (behind place (parts (shape_at s m.kind) m.run m.links)))) (sym same-node)
          (subst (λ sh. BeginsWithItems (stop - place) (past_link (behind place (parts sh n.run n.links)))) e b) in
          let mapped : past_link (behind place (parts (shape_at s p.frame.kind) p.frame.run (roots p.frame.links)))
          ≡ map (part_map root) (past_link (behind place (parts_in s p.frame))) =
          ap (λ ps. past_link (behind place ps)) (sym (heads (shape_at s p.frame.kind) p.frame.run p.frame.links))
          ∙ ap past_link (behind-map root place (parts_in s p.frame)) ∙ past_link-map root (behind place (parts_in s p.frame)) in
          BeginsWithItems-map root (stop - place) (past_link (behind place (parts_in s p.frame))) (subst (BeginsWithItems (stop - place)) mapped here)

    entered-first : (o : Option Trees) (c : ℕ) → first_link (behind place (parts_in s p.frame)) ≡ o → number_of o ≡ Some c → length p.frame.run ≤ place
        → first_coordinate p.frame.run < first_at a c
    entered-first None c e r l = cc
    entered-first (Some done) c e r l = cc
    entered-first (Some (absent u)) c e r l = cc
    entered-first (Some (node i k run ls u)) c e r l =
        let link_child : IsChild s a (depth s p.frame.links) (node i k run ls u) = child (node i k run ls u) e in
        let f : Frame = record { kind = k; run = run; links = ls } in
        let same : node i k run ls u ≡ tree_at i f = ap (node i k run ls) link_child.0.0 in
        let number : i ≡ c = cc (r) in
        let below : first_coordinate p.frame.run < first_coordinate run =
        rises-last s p.frame f i place (node i k run ls u) (rising-in s a id p.frame p.sound) (let some : 1 ≤ length p.frame.run =
        p.sound.1.some in omega arith) e same
        link_child.0.1.1.some in
        let there : first_at a i ≡ first_coordinate run = ap (λ o. unwrap_or (option_map (λ (n : NodeState). first_coordinate n.run) o) 0) link_child.0.1.0 in
        subst (λ m. first_coordinate p.frame.run < first_at a m) number (subst (λ m. first_coordinate p.frame.run < m) (sym there) below)

    -- the child behind the run begins above the node
    pub rises : (c : ℕ) → number_of (first_link (behind place (parts_in s p.frame))) ≡ Some c → length p.frame.run ≤ place → first_at a id < first_at a c
    rises c r l =
        let here : first_at a id ≡ first_coordinate p.frame.run = ap (λ o. unwrap_or (option_map (λ (n : NodeState). first_coordinate n.run) o) 0) stands in
        subst (λ m. m < first_at a c) (sym here) (entered-first (first_link (behind place (parts_in s p.frame))) c refl r l)

    -- there is a place left on the path
    pub short-path : length path < MOST_PLACES
    short-path =
        let room : depth s (tree_at id p.frame) + length path ≤ MOST_PLACES = p.room in
        let some : 1 ≤ depth_by (shape_at s p.frame.kind) (depth s p.frame.links) = depth-some (shape_at s p.frame.kind) (depth s p.frame.links) in
        omega arith

  -- ---- into a node

  module _ (path : List NodeSpot) (id at : ℕ) (xs : List Elem) (q : IsToEnter s a path id at xs) where
    pub is-there : node_at a id ≡ Some (stored q.frame.kind q.frame.run q.frame.links)
    is-there = q.sound.0

    same-entered : (n : NodeState) → node_at a id ≡ Some n → n.run ≡ q.frame.run
    same-entered n is =
        let both : Some n ≡ Some (stored q.frame.kind q.frame.run q.frame.links) = sym is ∙ q.sound.0 in
        let same : n ≡ stored q.frame.kind q.frame.run q.frame.links = cc (both) in
        ap (λ (m : NodeState). m.run) same

    pub entered-length : (n : NodeState) → node_at a id ≡ Some n → length n.run ≡ length q.frame.run
    entered-length n is = ap length (same-entered n is)

    pub entered-some : (n : NodeState) → node_at a id ≡ Some n → 1 ≤ length n.run
    entered-some n is = subst (λ run. 1 ≤ length run) (sym (same-entered n is)) q.sound.1.some

    pub entered-rising : (n : NodeState) → node_at a id ≡ Some n → IsRising n.run
    entered-rising n is = subst IsRising (sym (same-entered n is)) (run-rising s a id q.frame q.sound)

    starts-there : (place : ℕ) → place ≡ place_in at q.frame.run → (place < length q.frame.run) ⊎ (length q.frame.run ≤ place)
        → StartsFrom at (left_in s q.frame place)
    starts-there place e (inl l) =
        let next : past_link (behind place (parts_in s q.frame)) ≡ item (get_or q.frame.run place blank) ∷ behind (suc place) (parts_in s q.frame) =
        item-in s a id place q.frame blank q.sound l in
        let above : at ≤ (get_or q.frame.run place blank).at =
        subst (λ n. at ≤ (get_or q.frame.run n blank).at) (sym e) (place-next at q.frame.run blank (omega (arith, e))) in
        subst (λ ps. StartsFrom at (elements s ps)) (sym next) above
    starts-there place e (inr l) = subst (λ ps. StartsFrom at (elements s ps)) (sym (end-in s a id place q.frame q.sound l)) tt

    same-from : (place : ℕ) → place ≡ place_in at q.frame.run
        → from at (elements s (behind place (parts_in s q.frame)) ++ ahead s path q.frames) ≡ from at (elements s (parts_in s q.frame) ++ ahead s path q.frames)
    same-from zero e = refl
    same-from (suc n) e =
        let low : place_in at q.frame.run ≤ length q.frame.run = place-low at q.frame.run in
        sym (from-element s a id q.frame n at blank (ahead s path q.frames) q.sound (omega (arith, e)) (place-before at q.frame.run n blank (sym e)))

    -- so many elements are passed as lie below the coordinate
    pub enters : (n : NodeState) → node_at a id ≡ Some n → (place : ℕ) → place ≡ place_in at n.run → IsToGoOn s a path id place at xs
    enters n there place e =
        let is : place ≡ place_in at q.frame.run = e ∙ ap (place_in at) (same-entered n there) in
        let low : place_in at q.frame.run ≤ length q.frame.run = place-low at q.frame.run in
        record {
          frames = q.frames;
          frame = q.frame;
          spots = q.spots;
          sound = q.sound;
          room = q.room;
          starts = q.starts;
          within = omega (arith, is);
          next = starts-there place is (below-or-not place (length q.frame.run));
          are = same-from place is ∙ q.are;
        }

    -- where the whole run is passed, its first element is below
    pub first-below : (n : NodeState) → node_at a id ≡ Some n → (place : ℕ) → place ≡ place_in at n.run → length q.frame.run ≤ place
        → first_at a id < at
    first-below n there place e l =
        let is : place ≡ place_in at q.frame.run = e ∙ ap (place_in at) (same-entered n there) in
        let here : first_at a id ≡ first_coordinate q.frame.run = ap (λ o. unwrap_or (option_map (λ (n : NodeState). first_coordinate n.run) o) 0) q.sound.0 in
        subst (λ m. m < at) (sym here) (place-some at q.frame.run (let some : 1 ≤ length q.frame.run = q.sound.1.some in omega (arith, is)))

    pub short-enough : length path ≤ MOST_PLACES
    short-enough = let room : depth s (tree_at id q.frame) + length path ≤ MOST_PLACES = q.room in omega arith

  pub go-some : (path : List NodeSpot) (o : Option ℕ) (child at : ℕ) (xs : List Elem) → o ≡ Some child → GoesDown s a path o at xs
      → IsToEnter s a path child at xs
  go-some path o child at xs e g = subst (λ v. GoesDown s a path v at xs) e g

  pub go-none : (path : List NodeSpot) (o : Option ℕ) (at : ℕ) (xs : List Elem) → o ≡ None → GoesDown s a path o at xs → PathHas s a path xs
  go-none path o at xs e g = subst (λ v. GoesDown s a path v at xs) e g

-- no value is there where each is excluded
pub none-left : (o : Option ℕ) → ((n : ℕ) → o ≡ Some n → ⊥) → o ≡ None
none-left None h = refl
none-left (Some n) h = absurd (h n refl)
