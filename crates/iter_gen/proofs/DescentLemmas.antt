-- A step of a search, by the shape of the node.
use Rattle.std.proofs.Common.{◌≡◌, ◌⊎◌, inl, inr, ◌≤◌, ◌<◌, ◌+◌, ◌-◌, ℕ, zero, suc, List, [], ◌∷◌, ◌++◌, map, length}
use Rattle.std.proofs.Common.{get_or, slice_get, Option, Some, None, refl, ap, ◌∙◌, sym, subst, arith, append-nil, Bool, true, false, eqb, ltb, cond}
use Rattle.node_arena.specs.declared.elements.Elem.{Elem}
use Rattle.node_arena.specs.declared.kinds.NodeKind.{NodeKind}
use Rattle.node_arena.specs.declared.kinds.Shape.{Shape}
use Rattle.node_arena.specs.declared.kinds.Shape.TheVariants.{Flat, Post, Ends, Woven}
use Rattle.node_arena.specs.Arenas.{NodeState, ArenaState, node_at, coordinate_at, place_in}
use Rattle.node_arena.specs.Conforming.{Place, Hang, children, places, woven_places, whole, least_of}
use Rattle.node_arena.specs.Kinds.{kind_at, shape_at}
use Rattle.node_arena.specs.Trees.{Trees, done, absent, node, roots, stored, Stands}
use Rattle.node_arena.specs.Walks.{item, link, parts, weave, joined, walk, walks}
use Rattle.iter_gen.specs.LookingUp.{elem_with, elem_in, HasNode}
use Rattle.iter_gen.specs.Folding.{first_walk}
use Rattle.iter_gen.specs.Searching.{RisesWithin, Searches, Leads, link_before, link_behind, IsHere}
use Rattle.iter_gen.proofs.RisingLemmas.{after, RisesWithin-room, RisesWithin-lower, RisesWithin-left}
use Rattle.iter_gen.proofs.RisingLemmas.{RisesWithin-right, RisesWithin-before, RisesWithin-behind, RisesWithin-elem}
use Rattle.iter_gen.proofs.RisingLemmas.{below-after, after-last, elem_with-above, elem_with-below}
use Rattle.iter_gen.proofs.RisingLemmas.{elem_with-past, elem_with-within, elem_with-found, elem_with-missing}
use Rattle.iter_gen.proofs.PartsLemmas.{behind_first, joined-items, joined-bare, joined-post, joined-ends, joined-last, Around, Around-node}

same-elem : (x y : Elem) → Some x ≡ Some y → x ≡ y
same-elem x y e = cc

-- ---- leads

module _ (s : List NodeKind) (a : ArenaState) (at : ℕ) where
  Leads-same : (o : Option ℕ) (low end : ℕ) (xs ys : List Elem) (ls : Trees) → elem_with at ys ≡ elem_with at xs → Leads s a at o low end xs ls
      → Leads s a at o low end ys ls
  Leads-same None low end xs ys ls e h = e ∙ h
  Leads-same (Some i) low end xs ys ls e h = record { tree = h.tree; searches = h.searches; same = e ∙ h.same; inside = h.inside }

  Leads-inside : (o : Option ℕ) (low end : ℕ) (xs : List Elem) (ls ks : Trees) → ((j : ℕ) → HasNode j ls → HasNode j ks) → Leads s a at o low end xs ls
      → Leads s a at o low end xs ks
  Leads-inside None low end xs ls ks f h = h
  Leads-inside (Some i) low end xs ls ks f h = record { tree = h.tree; searches = h.searches; same = h.same; inside = λ j g. f j (h.inside j g) }

  Searches-lower : (i low from end : ℕ) (t : Trees) → from ≤ low → Searches s a i low end t → Searches s a i from end t
  Searches-lower i low from end t le h = record {
    has = h.has;
    place = h.place;
    least = h.least;
    hangs = h.hangs;
    top = h.top;
    rises = RisesWithin-lower low from h.top (walk s t) le h.rises;
    bound = h.bound;
  }

  Leads-lower : (o : Option ℕ) (low from end : ℕ) (xs : List Elem) (ls : Trees) → from ≤ low → Leads s a at o low end xs ls → Leads s a at o from end xs ls
  Leads-lower None low from end xs ls le h = h
  Leads-lower (Some i) low from end xs ls le h = record {
    tree = h.tree;
    searches = Searches-lower i low from end h.tree le h.searches;
    same = h.same;
    inside = h.inside;
  }

  HasNode-first : (i k : ℕ) (run : List Elem) (ls rest : Trees) (j : ℕ) → HasNode j (node i k run ls done) → HasNode j (node i k run ls rest)
  HasNode-first i k run ls rest j (inl e) = inl e
  HasNode-first i k run ls rest j (inr (inl h)) = inr (inl h)
  HasNode-first i k run ls rest j (inr (inr h)) = absurd h

  HasNode-behind : (row : Trees) (j : ℕ) → HasNode j (behind_first row) → HasNode j row
  HasNode-behind done j h = h
  HasNode-behind (absent rest) j h = h
  HasNode-behind (node i k run ls rest) j h = inr (inr h)

  Stands-behind : (row : Trees) → Stands a row → Stands a (behind_first row)
  Stands-behind done h = h
  Stands-behind (absent rest) h = h
  Stands-behind (node i k run ls rest) h = h.2

  -- to what hangs at the first link of a row
  Leads-first : (p : Place) (ps : List Place) (row : Trees) (low end top : ℕ) → 1 ≤ p.least → Hang s (p ∷ ps) row → Stands a row
      → RisesWithin low top (first_walk s row) → (top ≤ end) ⊎ (end ≡ 4294967296)
      → Leads s a at (get_or (roots row) 0 None) low end (first_walk s row) row
  Leads-first p ps done low end top least h st r b = refl
  Leads-first p ps (absent rest) low end top least h st r b = refl
  Leads-first p ps (node i k run ls rest) low end top least h st r b =
      let w : List Elem = joined (parts (shape_at s k) run (walks s ls)) in
      record {
        tree = node i k run ls done;
        searches = record {
          has = record { root = refl; stands = (st.0, st.1, tt) };
          place = p;
          least = least;
          hangs = (h.0, h.1, h.2, h.3, refl);
          top = top;
          rises = subst (RisesWithin low top) (sym (append-nil w)) r;
          bound = b;
        };
        same = ap (elem_with at) (sym (append-nil w));
        inside = HasNode-first i k run ls rest;
      }

  -- ---- behind the run

  post-behind : (p : Place) (ps : List Place) (run : List Elem) (row : Trees) (low end top m : ℕ) → 1 ≤ p.least → Hang s (p ∷ ps) row → Stands a row
      → RisesWithin low top (run ++ first_walk s row) → (top ≤ end) ⊎ (end ≡ 4294967296) → after low run ≡ m → m ≤ at
      → Leads s a at (get_or (roots row) 0 None) m end (run ++ first_walk s row) row
  post-behind p ps run row low end top m least h st r b is le =
      let past : after low run ≤ at = omega arith in
      let none = elem_with-below at low (after low run) run past (RisesWithin-left low top run (first_walk s row) r) in
      Leads-same (get_or (roots row) 0 None) m end (first_walk s row) (run ++ first_walk s row) row (elem_with-past at run (first_walk s row) none)
      (Leads-first p ps row m end top least h st (subst (λ n. RisesWithin n top (first_walk s row)) is (RisesWithin-right low top run (first_walk s row) r)) b)

  roots-second : (p q : Place) (row : Trees) → Hang s (p ∷ q ∷ []) row → get_or (roots row) 1 None ≡ get_or (roots (behind_first row)) 0 None
  roots-second p q done h = cc
  roots-second p q (absent rest) h = refl
  roots-second p q (node i k run ls rest) h = refl

  Hang-behind : (p q : Place) (row : Trees) → Hang s (p ∷ q ∷ []) row → Hang s (q ∷ []) (behind_first row)
  Hang-behind p q done h = cc
  Hang-behind p q (absent rest) h = h.1
  Hang-behind p q (node i k run ls rest) h = h.4

  ends-behind : (p q : Place) (run : List Elem) (row : Trees) (low end top m : ℕ) → 1 ≤ q.least → Hang s (p ∷ q ∷ []) row → Stands a row
      → RisesWithin low top (first_walk s row ++ (run ++ first_walk s (behind_first row))) → (top ≤ end) ⊎ (end ≡ 4294967296)
      → ((l : ℕ) → after l run ≡ m) → m ≤ at
      → Leads s a at (get_or (roots row) 1 None) m end (first_walk s row ++ (run ++ first_walk s (behind_first row))) row
  ends-behind p q run row low end top m least h st r b is le =
      let first : List Elem = first_walk s row in
      let rest : List Elem = run ++ first_walk s (behind_first row) in
      let rises : RisesWithin (after low first) top rest = RisesWithin-right low top first rest r in
      let up : after low first ≤ after (after low first) run =
      RisesWithin-room (after low first) (after (after low first) run) run (RisesWithin-left (after low first) top run (first_walk s
      (behind_first row)) rises) in
      let at_m : after (after low first) run ≡ m = is (after low first) in
      let past : after low first ≤ at = omega arith in
      let none = elem_with-below at low (after low first) first past (RisesWithin-left low top first rest r) in
      subst (λ o. Leads s a at o m end (first ++ rest) row) (sym (roots-second p q row h))
      (Leads-inside (get_or (roots (behind_first row)) 0 None) m end (first ++ rest) (behind_first row) row (HasNode-behind row)
      (Leads-same (get_or (roots (behind_first row)) 0 None) m end rest (first ++ rest) (behind_first row) (elem_with-past at first rest none)
      (post-behind q [] run (behind_first row) (after low first) end top m least (Hang-behind p q row h) (Stands-behind row st) rises b at_m le)))

  weave-up : (run : List Elem) (ws : List (List Elem)) (low top : ℕ) → RisesWithin low top (joined (weave run ws)) → low ≤ after low run
  weave-up [] ws low top h = omega arith
  weave-up (x ∷ xs) [] low top h = let r : suc x.at ≤ after (suc x.at) xs = weave-up xs [] (suc x.at) top h.1 in omega (arith, h.0)
  weave-up (x ∷ xs) (w ∷ ws) low top h =
      let e = RisesWithin-elem low top w x (joined (weave xs ws)) h in
      let r : suc x.at ≤ after (suc x.at) xs = weave-up xs ws (suc x.at) top (RisesWithin-behind low top w x (joined (weave xs ws)) h) in
      omega (arith, e.0)

  -- an element that is below, and what comes before it, are passed
  past-elem : (w : List Elem) (x : Elem) (ys : List Elem) (low top : ℕ) → RisesWithin low top (w ++ x ∷ ys) → x.at < at
      → elem_with at (w ++ x ∷ ys) ≡ elem_with at ys
  past-elem w x ys low top h below =
      let none = elem_with-below at low x.at w (omega arith) (RisesWithin-before low top w x ys h) in
      let t : eqb x.at at ≡ false = grind (arith, below) in
      elem_with-past at w (x ∷ ys) none ∙ rw t refl

  weave-behind : (p : Place) (run : List Elem) (ls : Trees) (low end top : ℕ) → 1 ≤ p.least → Hang s (children p run) ls → Stands a ls
      → RisesWithin low top (joined (weave run (walks s ls))) → (top ≤ end) ⊎ (end ≡ 4294967296) → after low run ≤ at
      → Leads s a at (get_or (roots ls) (length run) None) (after low run) end (joined (weave run (walks s ls))) ls
  weave-behind p [] ls low end top least h st r b le =
      let e = joined-last s p ls h in
      subst (λ w. Leads s a at (get_or (roots ls) 0 None) low end w ls) (sym e)
      (Leads-first p [] ls low end top least h st (subst (RisesWithin low top) e r) b)
  weave-behind p (x ∷ xs) done low end top least h st r b le = cc
  weave-behind p (x ∷ xs) (absent rest) low end top least h st r b le =
      let up : suc x.at ≤ after (suc x.at) xs = weave-up xs (walks s rest) (suc x.at) top r.1 in
      let o : Option ℕ = get_or (roots rest) (length xs) None in
      Leads-same o (after (suc x.at) xs) end (joined (weave xs (walks s rest))) (x ∷ joined (weave xs (walks s rest))) (absent rest)
      (past-elem [] x (joined (weave xs (walks s rest))) low top r (omega arith))
      (Leads-inside o (after (suc x.at) xs) end (joined (weave xs (walks s rest))) rest (absent rest) (λ j g. g)
      (weave-behind p xs rest (suc x.at) end top least h.1 st r.1 b le))
  weave-behind p (x ∷ xs) (node i k run ls rest) low end top least h st r b le =
      let w : List Elem = joined (parts (shape_at s k) run (walks s ls)) in
      let js : List Elem = joined (weave xs (walks s rest)) in
      let r2 = RisesWithin-behind low top w x js r in
      let up : suc x.at ≤ after (suc x.at) xs = weave-up xs (walks s rest) (suc x.at) top r2 in
      let o : Option ℕ = get_or (roots rest) (length xs) None in
      Leads-same o (after (suc x.at) xs) end js (w ++ x ∷ js) (node i k run ls rest) (past-elem w x js low top r (omega arith))
      (Leads-inside o (after (suc x.at) xs) end js rest (node i k run ls rest) (λ j g. inr (inr g))
      (weave-behind p xs rest (suc x.at) end top least h.4 st.2 r2 b le))

  -- ---- before an element

  -- a run, and what comes behind it, have none where the element at the place is above
  post-before : (run w : List Elem) (e : Elem) (low top : ℕ) → RisesWithin low top (run ++ w) → slice_get run (place_in at run) ≡ Some e → at < e.at
      → elem_with at (run ++ w) ≡ None
  post-before run w e low top r g above =
      let left = RisesWithin-left low top run w r in
      let up : e.at < after low run = below-after low (after low run) run (place_in at run) e left g in
      elem_with-past at run w (elem_with-missing at low (after low run) run e left g above)
      ∙ elem_with-above at (after low run) top w (omega arith) (RisesWithin-right low top run w r)

  ends-first : (p : Place) (ps : List Place) (run : List Elem) (row : Trees) (w : List Elem) (e : Elem) (low end top : ℕ) → 1 ≤ p.least
      → Hang s (p ∷ ps) row → Stands a row → RisesWithin low top (first_walk s row ++ (run ++ w)) → slice_get run (place_in at run) ≡ Some e → at < e.at
      → slice_get run 0 ≡ Some e → Leads s a at (get_or (roots row) 0 None) low e.at (first_walk s row ++ (run ++ w)) row
  ends-first p ps [] row w e low end top least h st r g above first = cc
  ends-first p ps (x ∷ xs) row w e low end top least h st r g above first =
      let same : x ≡ e = same-elem x e first in
      let rises : RisesWithin low x.at (first_walk s row) = RisesWithin-before low top (first_walk s row) x (xs ++ w) r in
      let none = post-before (x ∷ xs) w e (after low (first_walk s row)) top (RisesWithin-right low top (first_walk s row) (x ∷ xs ++ w) r) g above in
      Leads-same (get_or (roots row) 0 None) low e.at (first_walk s row) (first_walk s row ++ (x ∷ xs ++ w)) row
      (elem_with-within at (first_walk s row) (x ∷ xs ++ w) none)
      (Leads-first p ps row low e.at e.at least h st (subst (λ (v : Elem). RisesWithin low v.at (first_walk s row)) same rises) (inl (omega arith)))

  ends-later : (run : List Elem) (v w : List Elem) (e x : Elem) (low top : ℕ) → RisesWithin low top (v ++ (run ++ w))
      → slice_get run (place_in at run) ≡ Some e → at < e.at → slice_get run 0 ≡ Some x → x.at < at → elem_with at (v ++ (run ++ w)) ≡ None
  ends-later [] v w e x low top r g above first below = cc
  ends-later (y ∷ ys) v w e x low top r g above first below =
      let same : y.at ≡ x.at = ap (λ (z : Elem). z.at) (same-elem y x first) in
      let none = elem_with-below at low y.at v (omega arith) (RisesWithin-before low top v y (ys ++ w) r) in
      elem_with-past at v (y ∷ ys ++ w) none
      ∙ post-before (y ∷ ys) w e (after low v) top (RisesWithin-right low top v (y ∷ ys ++ w) r) g above

  weave-step : (p : Place) (x : Elem) (xs : List Elem) (ls : Trees) (e : Elem) (low top : ℕ) (b : Bool) → ltb x.at at ≡ b → 1 ≤ p.least
      → Hang s (children p (x ∷ xs)) ls → Stands a ls → RisesWithin low top (joined (weave (x ∷ xs) (walks s ls)))
      → slice_get (x ∷ xs) (cond b (suc (place_in at xs)) 0) ≡ Some e → at < e.at
      → ((row : Trees) (from : ℕ) → Hang s (children p xs) row → Stands a row → RisesWithin from top (joined (weave xs (walks s row)))
      → slice_get xs (place_in at xs) ≡ Some e → Leads s a at (get_or (roots row) (place_in at xs) None) from e.at (joined (weave xs (walks s row))) row)
      → Leads s a at (get_or (roots ls) (cond b (suc (place_in at xs)) 0) None) low e.at (joined (weave (x ∷ xs) (walks s ls))) ls
  weave-step p x xs done e low top b t least h st r g above f = cc
  weave-step p x xs (absent rest) e low top true t least h st r g above f =
      let below : x.at < at = grind (arith, t) in
      let js : List Elem = joined (weave xs (walks s rest)) in
      let o : Option ℕ = get_or (roots rest) (place_in at xs) None in
      let up : low ≤ suc x.at = omega (arith, r.0) in
      Leads-same o low e.at js (x ∷ js) (absent rest) (past-elem [] x js low top r below)
      (Leads-inside o low e.at js rest (absent rest) (λ j k. k) (Leads-lower o (suc x.at) low e.at js rest up (f rest (suc x.at) h.1 st r.1 g)))
  weave-step p x xs (absent rest) e low top false t least h st r g above f =
      let same : x.at ≡ e.at = ap (λ (v : Elem). v.at) (same-elem x e g) in
      elem_with-above at x.at top (x ∷ joined (weave xs (walks s rest))) (omega arith) (omega arith, r.1)
  weave-step p x xs (node i k run ls rest) e low top true t least h st r g above f =
      let below : x.at < at = grind (arith, t) in
      let w : List Elem = joined (parts (shape_at s k) run (walks s ls)) in
      let js : List Elem = joined (weave xs (walks s rest)) in
      let o : Option ℕ = get_or (roots rest) (place_in at xs) None in
      let within = RisesWithin-elem low top w x js r in
      let up : low ≤ suc x.at = omega (arith, within.0) in
      Leads-same o low e.at js (w ++ x ∷ js) (node i k run ls rest) (past-elem w x js low top r below)
      (Leads-inside o low e.at js rest (node i k run ls rest) (λ j q. inr (inr q))
      (Leads-lower o (suc x.at) low e.at js rest up (f rest (suc x.at) h.4 st.2 (RisesWithin-behind low top w x js r) g)))
  weave-step p x xs (node i k run ls rest) e low top false t least h st r g above f =
      let w : List Elem = joined (parts (shape_at s k) run (walks s ls)) in
      let js : List Elem = joined (weave xs (walks s rest)) in
      let same : x ≡ e = same-elem x e g in
      let at_same : x.at ≡ e.at = ap (λ (v : Elem). v.at) same in
      let behind : RisesWithin (suc x.at) top js = RisesWithin-behind low top w x js r in
      let none = elem_with-above at x.at top (x ∷ js) (omega arith) (omega arith, behind) in
      let rises : RisesWithin low e.at w = subst (λ n. RisesWithin low n w) at_same (RisesWithin-before low top w x js r) in
      Leads-same (Some i) low e.at w (w ++ x ∷ js) (node i k run ls rest) (elem_with-within at w (x ∷ js) none)
      (Leads-first p (children p xs) (node i k run ls rest) low e.at e.at least h st rises (inl (omega arith)))

  weave-before : (p : Place) (run : List Elem) (ls : Trees) (e : Elem) (low top : ℕ) → 1 ≤ p.least → Hang s (children p run) ls → Stands a ls
      → RisesWithin low top (joined (weave run (walks s ls))) → slice_get run (place_in at run) ≡ Some e → at < e.at
      → Leads s a at (get_or (roots ls) (place_in at run) None) low e.at (joined (weave run (walks s ls))) ls
  weave-before p [] ls e low top least h st r g above = cc
  weave-before p (x ∷ xs) ls e low top least h st r g above =
      weave-step p x xs ls e low top (ltb x.at at) refl least h st r g above (λ row from hr sr rr gr. weave-before p xs row e from top least hr sr rr gr above)

  -- ---- by the shape

  module _ (some : (k : ℕ) → 1 ≤ (kind_at s k).lo) where
    least-of : (k : ℕ) (shape : Shape) → 1 ≤ least_of (kind_at s k) shape
    least-of k Flat = some k
    least-of k (Post p) = some k
    least-of k (Ends p q) = some k
    least-of k Woven = omega arith

    pub least-whole : (k : ℕ) → 1 ≤ (whole s k).least
    least-whole k = least-of k (shape_at s k)

    flat-behind : (run : List Elem) (ls : Trees) (low top m : ℕ) → Hang s [] ls → RisesWithin low top (joined (map item run ++ map link (walks s ls)))
        → after low run ≡ m → m ≤ at → elem_with at (joined (map item run ++ map link (walks s ls))) ≡ None
    flat-behind run done low top m h r is le =
        let past : after low run ≤ at = omega arith in
        let r2 : RisesWithin low top (run ++ []) = subst (RisesWithin low top) (joined-items run []) r in
        ap (elem_with at) (joined-items run []) ∙ elem_with-past at run [] (elem_with-below at low (after low run) run past
        (RisesWithin-left low top run [] r2))
    flat-behind run (absent rest) low top m h r is le = absurd h
    flat-behind run (node i k v ls rest) low top m h r is le = absurd h

    woven-behind : (p : Place) (run : List Elem) (ls : Trees) (low end top m : ℕ) → 1 ≤ p.least → Hang s (woven_places p run ls) ls → Stands a ls
        → RisesWithin low top (joined (weave run (walks s ls))) → (top ≤ end) ⊎ (end ≡ 4294967296) → after low run ≡ m → m ≤ at
        → Leads s a at (get_or (roots ls) (length run) None) m end (joined (weave run (walks s ls))) ls
    woven-behind p run done low end top m least h st r b is le =
        let past : after low run ≤ at = omega arith in
        let r2 : RisesWithin low top run = subst (RisesWithin low top) (joined-bare run) r in
        let r3 : RisesWithin low top (run ++ []) = subst (RisesWithin low top) (sym (append-nil run)) r2 in
        ap (elem_with at) (joined-bare run) ∙ elem_with-below at low (after low run) run past (RisesWithin-left low top run [] r3)
    woven-behind p run (absent rest) low end top m least h st r b is le =
        subst (λ n. Leads s a at (get_or (roots (absent rest)) (length run) None) n end (joined (weave run (walks s (absent rest)))) (absent rest)) is
        (weave-behind p run (absent rest) low end top least h st r b (omega arith))
    woven-behind p run (node i k v ls rest) low end top m least h st r b is le =
        subst (λ n. Leads s a at (get_or (roots (node i k v ls rest)) (length run) None) n end (joined (weave run (walks s (node i k v ls rest))))
        (node i k v ls rest)) is
        (weave-behind p run (node i k v ls rest) low end top least h st r b (omega arith))

    shape-behind : (shape : Shape) (k : ℕ) (run : List Elem) (ls : Trees) (low end top m : ℕ) → Hang s (places s shape k run ls) ls → Stands a ls
        → RisesWithin low top (joined (parts shape run (walks s ls))) → (top ≤ end) ⊎ (end ≡ 4294967296) → ((l : ℕ) → after l run ≡ m) → m ≤ at
        → Leads s a at (link_behind shape (length run) (roots ls)) m end (joined (parts shape run (walks s ls))) ls
    shape-behind Flat k run ls low end top m h st r b is le = flat-behind run ls low top m h r (is low) le
    shape-behind (Post p) k run ls low end top m h st r b is le =
        let e = joined-post s (whole s p) run ls h in
        subst (λ w. Leads s a at (get_or (roots ls) 0 None) m end w ls) (sym e)
        (post-behind (whole s p) [] run ls low end top m (least-whole p) h st (subst (RisesWithin low top) e r) b (is low) le)
    shape-behind (Ends p q) k run ls low end top m h st r b is le =
        let e = joined-ends s (whole s p) (whole s q) run ls h in
        subst (λ w. Leads s a at (get_or (roots ls) 1 None) m end w ls) (sym e)
        (ends-behind (whole s p) (whole s q) run ls low end top m (least-whole q) h st (subst (RisesWithin low top) e r) b is le)
    shape-behind Woven k run ls low end top m h st r b is le =
        woven-behind (record { kind = k; least = (kind_at s k).lo; must = true }) run ls low end top m (some k) h st r b (is low) le

    flat-before : (run : List Elem) (ls : Trees) (e : Elem) (low top : ℕ) → RisesWithin low top (joined (map item run ++ map link (walks s ls)))
        → slice_get run (place_in at run) ≡ Some e → at < e.at → elem_with at (joined (map item run ++ map link (walks s ls))) ≡ None
    flat-before run ls e low top r g above =
        let f = joined-items run (map link (walks s ls)) in
        ap (elem_with at) f ∙ post-before run (joined (map link (walks s ls))) e low top (subst (RisesWithin low top) f r) g above

    ends-step : (p q : Place) (x : Elem) (xs : List Elem) (ls : Trees) (e : Elem) (low top : ℕ) (b : Bool) → ltb x.at at ≡ b → 1 ≤ p.least
        → Hang s (p ∷ q ∷ []) ls → Stands a ls → RisesWithin low top (first_walk s ls ++ (x ∷ xs ++ first_walk s (behind_first ls)))
        → slice_get (x ∷ xs) (place_in at (x ∷ xs)) ≡ Some e → place_in at (x ∷ xs) ≡ cond b (suc (place_in at xs)) 0 → at < e.at
        → Leads s a at (cond (eqb (cond b (suc (place_in at xs)) 0) 0) (get_or (roots ls) 0 None) None) low e.at
        (first_walk s ls ++ (x ∷ xs ++ first_walk s (behind_first ls))) ls
    ends-step p q x xs ls e low top true t least h st r g is above =
        let below : x.at < at = grind (arith, t) in
        let n : eqb (suc (place_in at xs)) 0 ≡ false = grind arith in
        rw n (ends-later (x ∷ xs) (first_walk s ls) (first_walk s (behind_first ls)) e x low top r g above refl below)
    ends-step p q x xs ls e low top false t least h st r g is above =
        let first : slice_get (x ∷ xs) 0 ≡ Some e = subst (λ n. slice_get (x ∷ xs) n ≡ Some e) is g in
        ends-first p (q ∷ []) (x ∷ xs) ls (first_walk s (behind_first ls)) e low top top least h st r g above first

    ends-before : (p q : Place) (run : List Elem) (ls : Trees) (e : Elem) (low top : ℕ) → 1 ≤ p.least → Hang s (p ∷ q ∷ []) ls → Stands a ls
        → RisesWithin low top (first_walk s ls ++ (run ++ first_walk s (behind_first ls))) → slice_get run (place_in at run) ≡ Some e → at < e.at
        → Leads s a at (cond (eqb (place_in at run) 0) (get_or (roots ls) 0 None) None) low e.at
        (first_walk s ls ++ (run ++ first_walk s (behind_first ls))) ls
    ends-before p q [] ls e low top least h st r g above = cc
    ends-before p q (x ∷ xs) ls e low top least h st r g above = ends-step p q x xs ls e low top (ltb x.at at) refl least h st r g refl above

    woven-before : (p : Place) (run : List Elem) (ls : Trees) (e : Elem) (low top : ℕ) → 1 ≤ p.least → Hang s (woven_places p run ls) ls → Stands a ls
        → RisesWithin low top (joined (weave run (walks s ls))) → slice_get run (place_in at run) ≡ Some e → at < e.at
        → Leads s a at (get_or (roots ls) (place_in at run) None) low e.at (joined (weave run (walks s ls))) ls
    woven-before p run done e low top least h st r g above =
        ap (elem_with at) (joined-bare run) ∙ elem_with-missing at low top run e (subst (RisesWithin low top) (joined-bare run) r) g above
    woven-before p run (absent rest) e low top least h st r g above = weave-before p run (absent rest) e low top least h st r g above
    woven-before p run (node i k v ls rest) e low top least h st r g above = weave-before p run (node i k v ls rest) e low top least h st r g above

    shape-before : (shape : Shape) (k : ℕ) (run : List Elem) (ls : Trees) (e : Elem) (low top : ℕ) → Hang s (places s shape k run ls) ls → Stands a ls
        → RisesWithin low top (joined (parts shape run (walks s ls))) → slice_get run (place_in at run) ≡ Some e → at < e.at
        → Leads s a at (link_before shape (place_in at run) (roots ls)) low e.at (joined (parts shape run (walks s ls))) ls
    shape-before Flat k run ls e low top h st r g above = flat-before run ls e low top r g above
    shape-before (Post p) k run ls e low top h st r g above = flat-before run ls e low top r g above
    shape-before (Ends p q) k run ls e low top h st r g above =
        let f = joined-ends s (whole s p) (whole s q) run ls h in
        subst (λ w. Leads s a at (cond (eqb (place_in at run) 0) (get_or (roots ls) 0 None) None) low e.at w ls) (sym f)
        (ends-before (whole s p) (whole s q) run ls e low top (least-whole p) h st (subst (RisesWithin low top) f r) g above)
    shape-before Woven k run ls e low top h st r g above =
        woven-before (record { kind = k; least = (kind_at s k).lo; must = true }) run ls e low top (some k) h st r g above

    -- ---- at a node

    -- what is known of the node in hand: it is the root of the tree, and its run isn't empty
    pub record Root (i low end : ℕ) (t : Trees) (n : NodeState) : Type 0 where
      pub links : Trees
      pub is_node : n ≡ stored n.kind n.run links
      pub tree : t ≡ node i n.kind n.run links done
      pub some_run : 1 ≤ length n.run
      pub hangs : Hang s (places s (shape_at s n.kind) n.kind n.run links) links
      pub stands : Stands a links
      pub top : ℕ
      pub rises : RisesWithin low top (joined (parts (shape_at s n.kind) n.run (walks s links)))
      pub bound : (top ≤ end) ⊎ (end ≡ 4294967296)

    number-same : (i j : ℕ) (xs ys : List (Option ℕ)) → Some i ∷ xs ≡ Some j ∷ ys → i ≡ j
    number-same i j xs ys e = cc

    no-head : (i : ℕ) (xs ys : List (Option ℕ)) → None ∷ xs ≡ Some i ∷ ys → ⊥
    no-head i xs ys e = cc

    root-node : (i low end : ℕ) (j k : ℕ) (run : List Elem) (ls rest : Trees) → Searches s a i low end (node j k run ls rest)
        → Root i low end (node j k run ls rest) (stored k run ls)
    root-node i low end j k run ls done h =
        let w : List Elem = joined (parts (shape_at s k) run (walks s ls)) in
        let same : j ≡ i = number-same j i [] [] h.has.root in
        let le : h.place.least ≤ length run = h.hangs.1 in
        let least = h.least in
        record {
          links = ls;
          is_node = refl;
          tree = ap (λ v. node v k run ls done) same;
          some_run = omega arith;
          hangs = h.hangs.3;
          stands = h.has.stands.1;
          top = h.top;
          rises = subst (RisesWithin low h.top) (append-nil w) h.rises;
          bound = h.bound;
        }
    root-node i low end j k run ls (absent rest) h = absurd h.hangs.4
    root-node i low end j k run ls (node m q v l rest) h = absurd h.hangs.4

    -- the node in hand is the root of the tree
    pub root-of : (i low end : ℕ) (t : Trees) (n : NodeState) → Searches s a i low end t → node_at a i ≡ Some n → Root i low end t n
    root-of i low end done n h is = let e = h.has.root in cc
    root-of i low end (absent rest) n h is = absurd (no-head i (roots rest) [] h.has.root)
    root-of i low end (node j k run ls rest) n h is =
        let same : j ≡ i = number-same j i (roots rest) [] h.has.root in
        let at_j : node_at a j ≡ Some (stored k run ls) = h.has.stands.0 in
        let at_i : node_at a i ≡ Some (stored k run ls) = subst (λ v. node_at a v ≡ Some (stored k run ls)) same at_j in
        subst (λ (v : NodeState). Root i low end (node j k run ls rest) v) (state-same (stored k run ls) n (sym at_i
        ∙ is)) (root-node i low end j k run ls rest h)
      where
        state-same : (x y : NodeState) → Some x ≡ Some y → x ≡ y
        state-same x y e = cc

    -- the tree in hand has a node
    pub root-there : (i low end : ℕ) (t : Trees) → Searches s a i low end t → (n : NodeState) × (node_at a i ≡ Some n)
    root-there i low end done h = let e = h.has.root in cc
    root-there i low end (absent rest) h = absurd (no-head i (roots rest) [] h.has.root)
    root-there i low end (node j k run ls rest) h =
        let same : j ≡ i = number-same j i (roots rest) [] h.has.root in
        (stored k run ls, subst (λ v. node_at a v ≡ Some (stored k run ls)) same h.has.stands.0)

    walk-node : (i k : ℕ) (run : List Elem) (ls : Trees) → walk s (node i k run ls done) ≡ joined (parts (shape_at s k) run (walks s ls))
    walk-node i k run ls = append-nil (joined (parts (shape_at s k) run (walks s ls)))

    -- the links as they are stored
    links-same : (n : NodeState) (links : Trees) → n ≡ stored n.kind n.run links → n.links ≡ roots links
    links-same n links e = ap (λ (v : NodeState). v.links) e

    up-to : (i low end from to : ℕ) (t : Trees) (n : NodeState) (o : Option ℕ) (r : Root i low end t n)
        → Leads s a at o from to (joined (parts (shape_at s n.kind) n.run (walks s r.links))) r.links → Leads s a at o from to (walk s t) t
    up-to i low end from to t n o r h =
        let w : List Elem = joined (parts (shape_at s n.kind) n.run (walks s r.links)) in
        subst (λ v. Leads s a at o from to (walk s v) v) (sym r.tree)
        (Leads-inside o from to (walk s (node i n.kind n.run r.links done)) r.links (node i n.kind n.run r.links done) (λ j g. inr (inl g))
        (Leads-same o from to w (walk s (node i n.kind n.run r.links done)) r.links (ap (elem_with at) (walk-node i n.kind n.run r.links)) h))

    -- behind a run whose elements are all below
    pub lead-behind : (i low end : ℕ) (t : Trees) (n : NodeState) (last from : ℕ) (o : Option ℕ) → Root i low end t n
        → coordinate_at n.run (length n.run - 1) ≡ Some last → last < at → from ≡ last + 1
        → o ≡ link_behind (shape_at s n.kind) (length n.run) n.links → Leads s a at o from end (walk s t) t
    lead-behind i low end t n last from o r is below next link_is =
        let ends : (l : ℕ) → after l n.run ≡ from = λ l. let k : after l n.run ≡ suc last = after-last l n.run last is in omega arith in
        let go : Leads s a at (link_behind (shape_at s n.kind) (length n.run) (roots r.links)) from end (joined (parts (shape_at s n.kind) n.run
        (walks s r.links))) r.links =
        shape-behind (shape_at s n.kind) n.kind n.run r.links low end r.top from r.hangs r.stands r.rises r.bound ends (omega arith) in
        let same : link_behind (shape_at s n.kind) (length n.run) (roots r.links) ≡ o =
        ap (link_behind (shape_at s n.kind) (length n.run)) (sym (links-same n r.links r.is_node)) ∙ sym link_is in
        up-to i low end from end t n o r
        (subst (λ v. Leads s a at v from end (joined (parts (shape_at s n.kind) n.run (walks s r.links))) r.links) same go)

    -- before an element that is the first one above
    pub lead-before : (i low end : ℕ) (t : Trees) (n : NodeState) (e : Elem) (place : ℕ) (o : Option ℕ) → Root i low end t n → place ≡ place_in at n.run
        → slice_get n.run place ≡ Some e → at < e.at → o ≡ link_before (shape_at s n.kind) place n.links → Leads s a at o low e.at (walk s t) t
    lead-before i low end t n e place o r is g above link_is =
        let there : slice_get n.run (place_in at n.run) ≡ Some e = subst (λ v. slice_get n.run v ≡ Some e) is g in
        let go : Leads s a at (link_before (shape_at s n.kind) (place_in at n.run) (roots r.links)) low e.at (joined (parts (shape_at s n.kind) n.run
        (walks s r.links))) r.links =
        shape-before (shape_at s n.kind) n.kind n.run r.links e low r.top r.hangs r.stands r.rises there above in
        let same : link_before (shape_at s n.kind) (place_in at n.run) (roots r.links) ≡ o =
        ap (link_before (shape_at s n.kind) (place_in at n.run)) (sym (links-same n r.links r.is_node))
        ∙ ap (λ v. link_before (shape_at s n.kind) v n.links) (sym is) ∙ sym link_is in
        up-to i low end low e.at t n o r
        (subst (λ v. Leads s a at v low e.at (joined (parts (shape_at s n.kind) n.run (walks s r.links))) r.links) same go)

    Around-root : (i low end : ℕ) (t : Trees) (n : NodeState) (e : Elem) (j : ℕ) → Root i low end t n → slice_get n.run j ≡ Some e → Around e (walk s t)
    Around-root i low end t n e j r g = subst (λ v. Around e (walk s v)) (sym r.tree) (Around-node s e i n.kind n.run r.links j g)

    rises-root : (i low end : ℕ) (t : Trees) (n : NodeState) (r : Root i low end t n) → RisesWithin low r.top (walk s t)
    rises-root i low end t n r =
        subst (λ v. RisesWithin low r.top (walk s v)) (sym r.tree)
        (subst (RisesWithin low r.top) (sym (walk-node i n.kind n.run r.links)) r.rises)

    -- an element of the node in hand lies within the bounds
    pub root-within : (i low end : ℕ) (t : Trees) (n : NodeState) (e : Elem) (j : ℕ) → Root i low end t n → slice_get n.run j ≡ Some e
        → (low ≤ e.at) × ((e.at < end) ⊎ (end ≡ 4294967296))
    root-within i low end t n e j r g =
        let m = Around-root i low end t n e j r g in
        let w = RisesWithin-elem low r.top m.before e m.behind (subst (RisesWithin low r.top) m.is (rises-root i low end t n r)) in
        (w.0, elim r.bound as (λ v. (e.at < end) ⊎ (end ≡ 4294967296)) [ inl le ↦ inl (let l = w.1 in omega arith) | inr same ↦ inr same ])

    -- an element of the node in hand is the one with its coordinate
    pub root-found : (i low end : ℕ) (t : Trees) (n : NodeState) (e : Elem) (j : ℕ) → Root i low end t n → node_at a i ≡ Some n → slice_get n.run j ≡ Some e
        → e.at ≡ at → IsHere s a at i j t
    root-found i low end t n e j r is g same =
        let m = Around-root i low end t n e j r g in
        record {
          elem = e;
          there = subst (λ o. elem_in o j ≡ Some e) (sym is) g;
          found =
              ap (elem_with at) m.is ∙ elem_with-found at low r.top m.before e m.behind (subst (RisesWithin low r.top) m.is (rises-root i low end t n r)) same;
        }

-- ---- readings of a node

-- the coordinate at a place is an element's
pub elem-of : (run : List Elem) (j v : ℕ) → coordinate_at run j ≡ Some v → (e : Elem) × (slice_get run j ≡ Some e) × (e.at ≡ v)
elem-of [] j v h = cc
elem-of (x ∷ xs) zero v h = (x, refl, number x.at v h)
  where
    number : (i j : ℕ) → Some i ≡ Some j → i ≡ j
    number i j e = cc
elem-of (x ∷ xs) (suc j) v h = elem-of xs j v h

place-low : (b : Bool) (n m : ℕ) → n < m → cond b (suc n) 0 < suc m
place-low true n m h = omega arith
place-low false n m h = omega arith

-- there is an element at the place where the last one isn't below
pub place-within : (at : ℕ) (run : List Elem) (last : ℕ) → coordinate_at run (length run - 1) ≡ Some last → at ≤ last → place_in at run < length run
place-within at [] last h le = cc
place-within at (x ∷ []) last h le =
    let same : x.at ≡ last = number x.at last h in
    let t : ltb x.at at ≡ false = grind (arith, same, le) in
    rw t (omega arith)
  where
    number : (i j : ℕ) → Some i ≡ Some j → i ≡ j
    number i j e = cc
place-within at (x ∷ y ∷ xs) last h le =
    let shorter : length (x ∷ y ∷ xs) - 1 ≡ suc (length (y ∷ xs) - 1) = omega arith in
    place-low (ltb x.at at) (place_in at (y ∷ xs)) (length (y ∷ xs))
    (place-within at (y ∷ xs) last (subst (λ n. coordinate_at (x ∷ y ∷ xs) n ≡ Some last) shorter h) le)

above-step : (at : ℕ) (x : Elem) (xs : List Elem) (e : Elem) (b : Bool) → ltb x.at at ≡ b → slice_get (x ∷ xs) (cond b (suc (place_in at xs)) 0) ≡ Some e
    → (slice_get xs (place_in at xs) ≡ Some e → at ≤ e.at) → at ≤ e.at
above-step at x xs e true t g f = f g
above-step at x xs e false t g f =
    let same : x.at ≡ e.at = ap (λ (v : Elem). v.at) (same-elem x e g) in
    let le : at ≤ x.at = grind (arith, t) in
    omega arith

-- the element at the place isn't below
pub place-above : (at : ℕ) (run : List Elem) (e : Elem) → slice_get run (place_in at run) ≡ Some e → at ≤ e.at
place-above at [] e g = cc
place-above at (x ∷ xs) e g = above-step at x xs e (ltb x.at at) refl g (place-above at xs e)

-- ---- measures

-- fewer coordinates are left behind one that lies within the bounds
pub smaller-low : (low end last : ℕ) → last < 4294967296 → (low ≤ last) × ((last < end) ⊎ (end ≡ 4294967296)) → end - (last + 1) < end - low
smaller-low low end last f h = elim h.1 [ inl l ↦ (let g = h.0 in omega arith) | inr e ↦ (let g = h.0 in omega arith) ]

-- fewer coordinates are left before one that lies within the bounds
pub smaller-end : (low end v : ℕ) → v < 4294967296 → (low ≤ v) × ((v < end) ⊎ (end ≡ 4294967296)) → v - low < end - low
smaller-end low end v f h = elim h.1 [ inl l ↦ (let g = h.0 in omega arith) | inr e ↦ (let g = h.0 in omega arith) ]

-- a coordinate within the bounds is below end
pub elem-below : (n end : ℕ) → n < 4294967296 → (n < end) ⊎ (end ≡ 4294967296) → n < end
elem-below n end f (inl l) = l
elem-below n end f (inr e) = omega arith
