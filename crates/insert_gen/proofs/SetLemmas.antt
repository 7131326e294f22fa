-- Trees in which an element of one node stands in the place of another: all that counts for their form is as before.
use Rattle.std.proofs.Common.{◌≡◌, ◌≢◌, ◌≤◌, ◌<◌, ◌+◌, ◌⊎◌, inl, inr, ℕ, suc, max, Bool, true, false, eqb, List, [], ◌∷◌, ◌++◌, length, take, drop}
use Rattle.std.proofs.Common.{Some, None, slice_set, slice_get, refl, ap, ◌∙◌, sym, subst, arith}
use Rattle.std.proofs.lemmas.Bool.Decides.{eqb_tells}
use Rattle.std.proofs.lemmas.List.{length-set, set-get_or}
use Rattle.std.proofs.lemmas.Option.{get_or_from_slice_get}
use Rattle.node_arena.specs.declared.elements.Elem.{Elem}
use Rattle.node_arena.specs.declared.kinds.NodeKind.{NodeKind}
use Rattle.node_arena.specs.declared.kinds.Shape.{Shape}
use Rattle.node_arena.specs.declared.kinds.Shape.TheVariants.{Flat, Post, Ends, Woven}
use Rattle.node_arena.specs.Arenas.{ArenaState, NodeState, node_at, ChangesNode}
use Rattle.node_arena.specs.Conforming.{Place, children, woven_places, places, Hang, height, AllHigh, IsLevelAt, IsLevel, spine, spine_by}
use Rattle.node_arena.specs.Kinds.{kind_at, shape_at}
use Rattle.node_arena.specs.Trees.{Trees, done, absent, node, roots, stored, Stands, Avoids, IsApart, IsReachedOnce}
use Rattle.node_arena.specs.Walks.{parts, joined, walks}
use Rattle.iter_gen.specs.LookingUp.{HasNode}
use Rattle.insert_gen.proofs.HoleLemmas.{HoleIn, HoleIn-first, HoleIn-next, HoleIn-same, run-hole, below-hole, set-split}

-- the run with the element in that place, where it is the one
abbrev pub set_run : Bool → List Elem → ℕ → Elem → List Elem
set_run true run p y = slice_set run p y
set_run false run p y = run

-- the trees with an element in a place of the run of node i
abbrev pub set_elem : ℕ → ℕ → Elem → Trees → Trees
set_elem i p y done = done
set_elem i p y (absent rest) = absent (set_elem i p y rest)
set_elem i p y (node j k run ls rest) = node j k (set_run (eqb j i) run p y) (set_elem i p y ls) (set_elem i p y rest)

length-set_run : (b : Bool) (run : List Elem) (p : ℕ) (y : Elem) → length (set_run b run p y) ≡ length run
length-set_run true run p y = length-set run p y
length-set_run false run p y = refl

differ-eqb : (i j : ℕ) → j ≢ i → eqb j i ≡ false
differ-eqb i j h = pick (eqb_tells j i)
  where
    pick : ((eqb j i ≡ true) × (j ≡ i)) ⊎ ((eqb j i ≡ false) × (j ≢ i)) → eqb j i ≡ false
    pick (inl e) = absurd (h e.1)
    pick (inr e) = e.0

module _ (i p : ℕ) (y : Elem) where
  pub roots-set : (t : Trees) → roots (set_elem i p y t) ≡ roots t
  roots-set done = refl
  roots-set (absent t) = ap (λ l. None ∷ l) (roots-set t)
  roots-set (node j k run ls t) = ap (λ l. Some j ∷ l) (roots-set t)

  -- ---- apart and once

  pub Avoids-set : (j : ℕ) (t : Trees) → Avoids j t → Avoids j (set_elem i p y t)
  Avoids-set j done h = tt
  Avoids-set j (absent t) h = Avoids-set j t h
  Avoids-set j (node g k run ls t) h = (h.0, Avoids-set j ls h.1, Avoids-set j t h.2)

  IsApart-set : (t u : Trees) → IsApart t u → IsApart (set_elem i p y t) (set_elem i p y u)
  IsApart-set done u h = tt
  IsApart-set (absent t) u h = IsApart-set t u h
  IsApart-set (node j k run ls t) u h = (Avoids-set j u h.0, IsApart-set ls u h.1, IsApart-set t u h.2)

  pub IsReachedOnce-set : (t : Trees) → IsReachedOnce t → IsReachedOnce (set_elem i p y t)
  IsReachedOnce-set done h = tt
  IsReachedOnce-set (absent t) h = IsReachedOnce-set t h
  IsReachedOnce-set (node j k run ls t) h =
      (Avoids-set j ls h.0, Avoids-set j t h.1, IsApart-set ls t h.2, IsReachedOnce-set ls h.3, IsReachedOnce-set t h.4)

  -- ---- form

  module _ (s : List NodeKind) where
    children-same : (place : Place) (xs ys : List Elem) → length xs ≡ length ys → children place xs ≡ children place ys
    children-same place [] [] e = refl
    children-same place [] (z ∷ zs) e = absurd (omega (arith, e))
    children-same place (x ∷ xs) [] e = absurd (omega (arith, e))
    children-same place (x ∷ xs) (z ∷ zs) e = ap (λ l. place ∷ l) (children-same place xs zs (omega (arith, e)))

    woven_places-set : (place : Place) (xs ys : List Elem) (ls : Trees) → length xs ≡ length ys
        → woven_places place xs (set_elem i p y ls) ≡ woven_places place ys ls
    woven_places-set place xs ys done e = refl
    woven_places-set place xs ys (absent t) e = children-same place xs ys e
    woven_places-set place xs ys (node j k run ls t) e = children-same place xs ys e

    places-set : (sh : Shape) (k : ℕ) (xs ys : List Elem) (ls : Trees) → length xs ≡ length ys
        → places s sh k xs (set_elem i p y ls) ≡ places s sh k ys ls
    places-set Flat k xs ys ls e = refl
    places-set (Post q) k xs ys ls e = refl
    places-set (Ends q r) k xs ys ls e = refl
    places-set Woven k xs ys ls e = woven_places-set (record { kind = k; least = (kind_at s k).lo; must = true }) xs ys ls e

    pub Hang-set : (ps : List Place) (t : Trees) → Hang s ps t → Hang s ps (set_elem i p y t)
    Hang-set ps done h = h
    Hang-set [] (absent t) h = absurd h
    Hang-set (q ∷ ps) (absent t) h = (h.0, Hang-set ps t h.1)
    Hang-set [] (node j k run ls t) h = absurd h
    Hang-set (q ∷ ps) (node j k run ls t) h =
        let len : length (set_run (eqb j i) run p y) ≡ length run = length-set_run (eqb j i) run p y in
        let below = Hang-set (places s (shape_at s k) k run ls) ls h.3 in (
          h.0,
          subst (λ n. q.least ≤ n) (sym len) h.1,
          subst (λ n. n ≤ (kind_at s k).hi) (sym len) h.2,
          subst (λ l. Hang s l (set_elem i p y ls)) (sym (places-set (shape_at s k) k (set_run (eqb j i) run p y) run ls len)) below,
          Hang-set ps t h.4,
        )

    height-set : (t : Trees) → height s (set_elem i p y t) ≡ height s t
    height-set done = refl
    height-set (absent t) = refl
    height-set (node j k run ls t) = ap (λ n. 1 + n) (height-set ls)

    AllHigh-set : (h : ℕ) (t : Trees) → AllHigh s h t → AllHigh s h (set_elem i p y t)
    AllHigh-set h done a = tt
    AllHigh-set h (absent t) a = (a.0, AllHigh-set h t a.1)
    AllHigh-set h (node j k run ls t) a = (ap (λ n. 1 + n) (height-set ls) ∙ a.0, AllHigh-set h t a.1)

    IsLevelAt-set : (sh : Shape) (ls : Trees) → IsLevelAt s sh ls → IsLevelAt s sh (set_elem i p y ls)
    IsLevelAt-set Flat ls h = tt
    IsLevelAt-set (Post q) ls h = tt
    IsLevelAt-set (Ends q r) ls h = tt
    IsLevelAt-set Woven ls h = subst (λ n. AllHigh s n (set_elem i p y ls)) (sym (height-set ls)) (AllHigh-set (height s ls) ls h)

    pub IsLevel-set : (t : Trees) → IsLevel s t → IsLevel s (set_elem i p y t)
    IsLevel-set done h = tt
    IsLevel-set (absent t) h = IsLevel-set t h
    IsLevel-set (node j k run ls t) h = (IsLevelAt-set (shape_at s k) ls h.0, IsLevel-set ls h.1, IsLevel-set t h.2)

    pub spine-set : (t : Trees) → spine s (set_elem i p y t) ≡ spine s t
    spine-set done = refl
    spine-set (absent t) = spine-set t
    spine-set (node j k run ls t) =
        ap (λ n. max (spine_by (shape_at s k) n) (spine s (set_elem i p y t))) (spine-set ls)
        ∙ ap (λ n. max (spine_by (shape_at s k) (spine s ls)) n) (spine-set t)

  -- ---- in the arena

  -- trees without the node are as before
  pub set-away : (t : Trees) → Avoids i t → set_elem i p y t ≡ t
  set-away done h = refl
  set-away (absent t) h = ap absent (set-away t h)
  set-away (node j k run ls t) h =
      let same : set_run (eqb j i) run p y ≡ run = ap (λ b. set_run b run p y) (differ-eqb i j h.0) in
      ap (λ r. node j k r (set_elem i p y ls) (set_elem i p y t)) same ∙ ap (λ l. node j k run l (set_elem i p y t)) (set-away ls h.1)
      ∙ ap (λ l. node j k run ls l) (set-away t h.2)

  module _ (a : ArenaState) (n : NodeState) (there : node_at a i ≡ Some n) where
    state-same : (m q : NodeState) → Some m ≡ Some q → m ≡ q
    state-same m q e = cc

    pub Stands-set : (b : ArenaState) → ChangesNode a b i (Some (record n { run = slice_set n.run p y })) → (t : Trees) → Stands a t
        → Stands b (set_elem i p y t)
    Stands-set b ch done h = tt
    Stands-set b ch (absent t) h = Stands-set b ch t h
    Stands-set b ch (node j k run ls t) h = (own (eqb_tells j i), Stands-set b ch ls h.1, Stands-set b ch t h.2)
      where
        links : stored k (set_run (eqb j i) run p y) ls ≡ stored k (set_run (eqb j i) run p y) (set_elem i p y ls)
        links = ap (λ l. record { kind = k; run = set_run (eqb j i) run p y; links = l }) (sym (roots-set ls))

        own : ((eqb j i ≡ true) × (j ≡ i)) ⊎ ((eqb j i ≡ false) × (j ≢ i))
            → node_at b j ≡ Some (stored k (set_run (eqb j i) run p y) (set_elem i p y ls))
        own (inl e) =
            let same : n ≡ stored k run ls = state-same n (stored k run ls) (sym there ∙ ap (node_at a) (sym e.1) ∙ h.0) in
            ap (node_at b) e.1 ∙ ch.node.changed ∙ ap {A = NodeState} (λ q. Some (record q { run = slice_set q.run p y })) same
            ∙ ap (λ c. Some (stored k (set_run c run p y) ls)) (sym e.0) ∙ ap {A = NodeState} (λ q. Some q) links
        own (inr e) =
            ch.node.others j e.1 ∙ h.0 ∙ ap (λ c. Some (stored k (set_run c run p y) ls)) (sym e.0) ∙ ap {A = NodeState} (λ q. Some q) links

    -- with the element that is there in its place nothing changes
    pub set-same : slice_get n.run p ≡ Some y → (t : Trees) → Stands a t → set_elem i p y t ≡ t
    set-same get done h = refl
    set-same get (absent t) h = ap absent (set-same get t h)
    set-same get (node j k run ls t) h =
        ap (λ r. node j k r (set_elem i p y ls) (set_elem i p y t)) (own (eqb_tells j i))
        ∙ ap (λ l. node j k run l (set_elem i p y t)) (set-same get ls h.1) ∙ ap (λ l. node j k run ls l) (set-same get t h.2)
      where
        own : ((eqb j i ≡ true) × (j ≡ i)) ⊎ ((eqb j i ≡ false) × (j ≢ i)) → set_run (eqb j i) run p y ≡ run
        own (inr e) = ap (λ c. set_run c run p y) e.0
        own (inl e) =
            let same : n ≡ stored k run ls = state-same n (stored k run ls) (sym there ∙ ap (node_at a) (sym e.1) ∙ h.0) in
            let runs : n.run ≡ run = ap (λ q. q.run) same in
            let at : slice_get run p ≡ Some y = ap (λ r. slice_get r p) (sym runs) ∙ get in
            ap (λ c. set_run c run p y) e.0 ∙ ap (λ z. slice_set run p z) (sym (get_or_from_slice_get run p y y at)) ∙ set-get_or run p y

-- ---- the walk

-- a number that trees avoid isn't that of one of their nodes
pub HasNode-differs : (i j : ℕ) (t : Trees) → HasNode i t → Avoids j t → j ≢ i
HasNode-differs i j done h v = absurd h
HasNode-differs i j (absent t) h v = HasNode-differs i j t h v
HasNode-differs i j (node g k run ls t) (inl e) v = λ z. v.0 (e ∙ sym z)
HasNode-differs i j (node g k run ls t) (inr (inl h)) v = HasNode-differs i j ls h v.1
HasNode-differs i j (node g k run ls t) (inr (inr h)) v = HasNode-differs i j t h v.2

apart-left : (i : ℕ) (t u : Trees) → IsApart t u → HasNode i t → Avoids i u
apart-left i done u h n = absurd n
apart-left i (absent t) u h n = apart-left i t u h n
apart-left i (node j k run ls t) u h (inl e) = subst (λ g. Avoids g u) e h.0
apart-left i (node j k run ls t) u h (inr (inl n)) = apart-left i ls u h.1 n
apart-left i (node j k run ls t) u h (inr (inr n)) = apart-left i t u h.2 n

apart-right : (i : ℕ) (t u : Trees) → IsApart t u → HasNode i u → Avoids i t
apart-right i done u h n = tt
apart-right i (absent t) u h n = apart-right i t u h n
apart-right i (node j k run ls t) u h n = (HasNode-differs i j u n h.0, apart-right i ls u h.1 n, apart-right i t u h.2 n)

module _ (s : List NodeKind) (a : ArenaState) (i p : ℕ) (n : NodeState) (there : node_at a i ≡ Some n) (low : p < length n.run) where
  state-equal : (m q : NodeState) → Some m ≡ Some q → m ≡ q
  state-equal m q e = cc

  -- the walks of trees with the node have one element to be chosen
  pub set-hole : (t : Trees) → Stands a t → IsReachedOnce t → HasNode i t → HoleIn (λ y. walks s (set_elem i p y t))
  set-hole done st once h = absurd h
  set-hole (absent t) st once h = HoleIn-next [] (λ y. walks s (set_elem i p y t)) (set-hole t st once h)
  set-hole (node j k run ls t) st once (inl e) =
      let same : n ≡ stored k run ls = state-equal n (stored k run ls) (sym there ∙ ap (node_at a) (sym e) ∙ st.0) in
      let few : p < length run = subst (λ q. p < length q) (ap (λ q. q.run) same) low in
      let mine : eqb j i ≡ true = hit (eqb_tells j i) in
      let below : Avoids i ls = subst (λ g. Avoids g ls) e once.0 in
      let beside : Avoids i t = subst (λ g. Avoids g t) e once.1 in
      HoleIn-same (λ y. walks s (set_elem i p y (node j k run ls t)))
      (λ y. joined (parts (shape_at s k) (take p run ++ y ∷ drop (suc p) run) (walks s ls)) ∷ walks s t)
      (λ y. ap (λ b. joined (parts (shape_at s k) (set_run b run p y) (walks s (set_elem i p y ls))) ∷ walks s (set_elem i p y t)) mine
      ∙ ap (λ r. joined (parts (shape_at s k) r (walks s (set_elem i p y ls))) ∷ walks s (set_elem i p y t)) (set-split run p few y)
      ∙ ap (λ l. joined (parts (shape_at s k) (take p run ++ y ∷ drop (suc p) run) (walks s l)) ∷ walks s (set_elem i p y t)) (set-away i p y ls below)
      ∙ ap (λ l. joined (parts (shape_at s k) (take p run ++ y ∷ drop (suc p) run) (walks s ls)) ∷ walks s l) (set-away i p y t beside))
      (HoleIn-first (λ y. joined (parts (shape_at s k) (take p run ++ y ∷ drop (suc p) run) (walks s ls))) (walks s t)
      (run-hole (shape_at s k) (take p run) (drop (suc p) run) (walks s ls)))
    where
      hit : ((eqb j i ≡ true) × (j ≡ i)) ⊎ ((eqb j i ≡ false) × (j ≢ i)) → eqb j i ≡ true
      hit (inl q) = q.0
      hit (inr q) = absurd (q.1 e)
  set-hole (node j k run ls t) st once (inr (inl h)) =
      let other : eqb j i ≡ false = differ-eqb i j (HasNode-differs i j ls h once.0) in
      let beside : Avoids i t = apart-left i ls t once.2 h in
      HoleIn-same (λ y. walks s (set_elem i p y (node j k run ls t))) (λ y. joined (parts (shape_at s k) run (walks s (set_elem i p y ls))) ∷ walks s t)
      (λ y. ap (λ b. joined (parts (shape_at s k) (set_run b run p y) (walks s (set_elem i p y ls))) ∷ walks s (set_elem i p y t)) other
      ∙ ap (λ l. joined (parts (shape_at s k) run (walks s (set_elem i p y ls))) ∷ walks s l) (set-away i p y t beside))
      (HoleIn-first (λ y. joined (parts (shape_at s k) run (walks s (set_elem i p y ls)))) (walks s t)
      (below-hole (shape_at s k) run (λ y. walks s (set_elem i p y ls)) (set-hole ls st.1 once.3 h)))
  set-hole (node j k run ls t) st once (inr (inr h)) =
      let other : eqb j i ≡ false = differ-eqb i j (HasNode-differs i j t h once.1) in
      let below : Avoids i ls = apart-right i ls t once.2 h in
      HoleIn-same (λ y. walks s (set_elem i p y (node j k run ls t)))
      (λ y. joined (parts (shape_at s k) run (walks s ls)) ∷ walks s (set_elem i p y t))
      (λ y. ap (λ b. joined (parts (shape_at s k) (set_run b run p y) (walks s (set_elem i p y ls))) ∷ walks s (set_elem i p y t)) other
      ∙ ap (λ l. joined (parts (shape_at s k) run (walks s l)) ∷ walks s (set_elem i p y t)) (set-away i p y ls below))
      (HoleIn-next (joined (parts (shape_at s k) run (walks s ls))) (λ y. walks s (set_elem i p y t)) (set-hole t st.2 once.4 h))
