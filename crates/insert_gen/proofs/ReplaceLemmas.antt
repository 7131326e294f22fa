-- A structure in which one element is another.
use Rattle.std.proofs.Common.{◌≡◌, ◌≢◌, ◌≤◌, ◌<◌, ◌+◌, ◌⊎◌, inl, inr, ℕ, suc, true, false, eqb, cond, List, [], ◌∷◌, ◌++◌, length, length-append}
use Rattle.std.proofs.Common.{take, drop, Option, Some, None, slice_set, slice_get, refl, ap, ◌∙◌, sym, subst, arith}
use Rattle.std.specs.Option.{IsSomeAnd}
use Rattle.std.proofs.lemmas.Bool.{cases_lt}
use Rattle.std.proofs.lemmas.Bool.Decides.{eqb_tells}
use Rattle.std.proofs.lemmas.List.{length-set, set-get_or}
use Rattle.std.proofs.lemmas.Option.{get_or_from_slice_get, slice_get_past}
use Rattle.node_arena.specs.declared.elements.Elem.{Elem}
use Rattle.node_arena.specs.declared.elements.Structure.{Structure}
use Rattle.node_arena.specs.declared.kinds.NodeKind.{NodeKind}
use Rattle.node_arena.specs.Arenas.{ArenaState, NodeState, RunState, node_at, run_at, ChangesNode, ChangesRun}
use Rattle.node_arena.specs.Conforming.{whole, spine, RisesFrom, IsRising}
use Rattle.node_arena.specs.Structures.{Tree, empty, rooted, flat, links_of, walk_of, IsStanding, IsConforming}
use Rattle.node_arena.specs.Trees.{done, node}
use Rattle.node_arena.specs.Walks.{walk}
use Rattle.node_arena.proofs.ChangesLemmas.{Keeps-change, Keeps-change_run}
use Rattle.node_arena.proofs.StructuresLemmas.{tree_unique}
use Rattle.iter_gen.specs.declared.looking_up.Spot.{Spot}
use Rattle.iter_gen.specs.declared.looking_up.Spot.TheVariants as spots
use Rattle.iter_gen.specs.LookingUp.{elem_with, elem_in, elem_of_run, HasNode, IsRun, IsSpotWith}
use Rattle.insert_gen.specs.Replacing.{Exchanges, IsReplacedIn, ReplacesAt}
use Rattle.insert_gen.proofs.HoleLemmas.{walk-hole, set-split}
use Rattle.insert_gen.proofs.SetLemmas.{set_run, set_elem, Avoids-set, IsReachedOnce-set, Hang-set, IsLevel-set, spine-set, Stands-set, set-same}
use Rattle.insert_gen.proofs.SetLemmas.{set-hole, HasNode-differs}

-- ---- lists

some-equal : (x y : Elem) → Some x ≡ Some y → x ≡ y
some-equal x y e = cc

-- what is found has the coordinate
elem_with-at : (at : ℕ) (es : List Elem) (e : Elem) → elem_with at es ≡ Some e → e.at ≡ at
elem_with-at at [] e h = cc
elem_with-at at (z ∷ zs) e h = pick (eqb_tells z.at at) (λ g. elem_with-at at zs e g)
  where
    pick : ((eqb z.at at ≡ true) × (z.at ≡ at)) ⊎ ((eqb z.at at ≡ false) × (z.at ≢ at)) → (elem_with at zs ≡ Some e → e.at ≡ at) → e.at ≡ at
    pick (inl q) f =
        let here : Some z ≡ Some e = ap (λ b. cond b (Some z) (elem_with at zs)) (sym q.0) ∙ h in
        ap (λ v. v.at) (sym (some-equal z e here)) ∙ q.1
    pick (inr q) f = f (ap (λ b. cond b (Some z) (elem_with at zs)) (sym q.0) ∙ h)

-- a place with an element is below the length
place-low : (xs : List Elem) (p : ℕ) (e : Elem) → slice_get xs p ≡ Some e → p < length xs
place-low xs p e h = pick (cases_lt p (length xs))
  where
    pick : (p < length xs) ⊎ (length xs ≤ p) → p < length xs
    pick (inl l) = l
    pick (inr l) = let none : slice_get xs p ≡ None = slice_get_past xs p l in cc

RisesFrom-exchanged : (n : ℕ) (before after : List Elem) (e x : Elem) → e.at ≡ x.at → RisesFrom n (before ++ e ∷ after) → RisesFrom n (before ++ x ∷ after)
RisesFrom-exchanged n [] after e x same h = subst (λ v. (n < v) × RisesFrom v after) same h
RisesFrom-exchanged n (z ∷ zs) after e x same h = (h.0, RisesFrom-exchanged z.at zs after e x same h.1)

IsRising-exchanged : (before after : List Elem) (e x : Elem) → e.at ≡ x.at → IsRising (before ++ e ∷ after) → IsRising (before ++ x ∷ after)
IsRising-exchanged [] after e x same h = subst (λ v. RisesFrom v after) same h
IsRising-exchanged (z ∷ zs) after e x same h = RisesFrom-exchanged z.at zs after e x same h

-- a list in which one is exchanged rises as before
rising-after : (x : Elem) (old new : List Elem) → Exchanges x old new → IsRising old → IsRising new
rising-after x old new c h =
    subst IsRising (sym c.is) (IsRising-exchanged c.before c.after c.elem x c.same_at (subst IsRising c.was h))

-- and is as long
length-after : (x : Elem) (old new : List Elem) → Exchanges x old new → length new ≡ length old
length-after x old new c =
    let a : length old ≡ length (c.before ++ c.elem ∷ c.after) = ap length c.was in
    let b : length new ≡ length (c.before ++ x ∷ c.after) = ap length c.is in
    let f : length (c.before ++ c.elem ∷ c.after) ≡ length c.before + length (c.elem ∷ c.after) = length-append c.before (c.elem ∷ c.after) in
    let g : length (c.before ++ x ∷ c.after) ≡ length c.before + length (x ∷ c.after) = length-append c.before (x ∷ c.after) in
    omega (arith, a, b, f, g)

-- ---- nodes

module _ (s : List NodeKind) (k : ℕ) (a b : ArenaState) (x : Elem) (st : Structure) where
  -- an element of a node is exchanged
  pub IsReplacedIn-node : (t : Tree) (i p : ℕ) (n : NodeState) (e : Elem) → IsStanding s a st t → IsConforming s k st t → HasNode i (links_of t)
      → node_at a i ≡ Some n → slice_get n.run p ≡ Some e → e.at ≡ x.at → ChangesNode a b i (Some (record n { run = slice_set n.run p x }))
      → IsReplacedIn s k a b x t st
  IsReplacedIn-node empty i p n e h c has there get same ch = absurd has
  IsReplacedIn-node (flat j run) i p n e h c has there get same ch = absurd has
  IsReplacedIn-node (rooted m q run ls) i p n e h c has there get same ch =
      let t0 = node m q run ls done in
      let u = set_elem i p x t0 in
      let hole = walk-hole s (λ y. set_elem i p y t0) (set-hole s a i p n there (place-low n.run p e get) t0 h.nodes h.once has) in
      let exchanges : Exchanges x (walk s t0) (walk s u) = record {
        before = hole.before;
        elem = e;
        after = hole.after;
        was = ap (walk s) (sym (set-same i p e a n there get t0 h.nodes)) ∙ hole.is e;
        same_at = same;
        is = hole.is x;
      } in
      let spines : spine s u ≡ spine s t0 = spine-set i p x s t0 in
      let kept = c.spine_kept in
      let low = c.tree.1.low in
      record {
        tree = rooted m q (set_run (eqb m i) run p x) (set_elem i p x ls);
        stands = record {
          top = h.top;
          nodes = Stands-set i p x a n there b ch t0 h.nodes;
          once = IsReachedOnce-set i p x t0 h.once;
          run = tt;
          counted = length-after x (walk s t0) (walk s u) exchanges ∙ h.counted;
        };
        conforms = record {
          tree = (
            c.tree.0,
            record {
              hangs = Hang-set i p x s (whole s k ∷ []) t0 c.tree.1.hangs;
              level = IsLevel-set i p x s t0 c.tree.1.level;
              low = omega (arith, spines, low);
              rising = rising-after x (walk s t0) (walk s u) exchanges c.tree.1.rising;
            },
          );
          spine_kept = omega (arith, spines, kept);
          spine_low = c.spine_low;
        };
        exchanges = exchanges;
        keeps = Keeps-change a b (rooted m q run ls) i (Some (record n { run = slice_set n.run p x })) ch (λ v. HasNode-differs i i t0 has v refl);
        news = record { nodes = λ j g v. Avoids-set i p x j t0 v; runs = λ j g v. tt };
      }

  -- ---- flat runs

  elems-same : (o : Option RunState) (r : RunState) (run : List Elem) → o ≡ Some r → IsSomeAnd o (λ q. q.elems ≡ run) → r.elems ≡ run
  elems-same None r run e h = absurd h
  elems-same (Some q) r run e h = let same : q ≡ r = cc (e) in ap (λ v. v.elems) (sym same) ∙ h

  -- an element of the run is exchanged
  pub IsReplacedIn-run : (t : Tree) (i p : ℕ) (r : RunState) (e : Elem) → IsStanding s a st t → IsConforming s k st t → IsRun i t
      → run_at a i ≡ Some r → slice_get r.elems p ≡ Some e → e.at ≡ x.at → ChangesRun a b i (Some (record r { elems = slice_set r.elems p x }))
      → IsReplacedIn s k a b x t st
  IsReplacedIn-run empty i p r e h c is there get same ch = absurd is
  IsReplacedIn-run (rooted m q run ls) i p r e h c is there get same ch = absurd is
  IsReplacedIn-run (flat j run) i p r e h c is there get same ch =
      let elems : r.elems ≡ run =
      elems-same (run_at a i) r run there (subst (λ g. IsSomeAnd (run_at a g) (λ q. q.elems ≡ run)) is h.run) in
      let at : slice_get run p ≡ Some e = ap (λ l. slice_get l p) (sym elems) ∙ get in
      let few : p < length run = place-low run p e at in
      let old : slice_set run p e ≡ run = ap (λ z. slice_set run p z) (sym (get_or_from_slice_get run p e e at)) ∙ set-get_or run p e in
      let exchanges : Exchanges x run (slice_set run p x) = record {
        before = take p run;
        elem = e;
        after = drop (suc p) run;
        was = sym old ∙ set-split run p few e;
        same_at = same;
        is = set-split run p few x;
      } in
      let long : length (slice_set run p x) ≡ length run = length-set run p x in
      let some = c.tree.1 in
      let there_now : run_at b j ≡ Some (record r { elems = slice_set r.elems p x }) = ap (run_at b) is ∙ ch.run.changed in
      record {
        tree = flat j (slice_set run p x);
        stands = record {
          top = h.top;
          nodes = tt;
          once = tt;
          run = subst (λ o. IsSomeAnd o (λ q. q.elems ≡ slice_set run p x)) (sym there_now) (ap (λ l. slice_set l p x) elems);
          counted = long ∙ h.counted;
        };
        conforms = record {
          tree = (c.tree.0, omega (arith, some, long), rising-after x run (slice_set run p x) exchanges c.tree.2);
          spine_kept = c.spine_kept;
          spine_low = c.spine_low;
        };
        exchanges = exchanges;
        keeps = Keeps-change_run a b j run (Some (record r { elems = slice_set r.elems p x }))
            (subst (λ g. ChangesRun a b g (Some (record r { elems = slice_set r.elems p x }))) (sym is) ch);
        news = record { nodes = λ g q v. tt; runs = λ g q v. v };
      }

  -- ---- at a spot

  in-node : (o : Option NodeState) (t : Tree) (i p : ℕ) (e : Elem) → node_at a i ≡ o → IsStanding s a st t → IsConforming s k st t
      → HasNode i (links_of t) → elem_in o p ≡ Some e → e.at ≡ x.at
      → IsSomeAnd o (λ n. ChangesNode a b i (Some (record n { run = slice_set n.run p x }))) → IsReplacedIn s k a b x t st
  in-node None t i p e is h c has get same ch = cc
  in-node (Some n) t i p e is h c has get same ch = IsReplacedIn-node t i p n e h c has is get same ch

  in-run : (o : Option RunState) (t : Tree) (i p : ℕ) (e : Elem) → run_at a i ≡ o → IsStanding s a st t → IsConforming s k st t
      → IsRun i t → elem_of_run o p ≡ Some e → e.at ≡ x.at
      → IsSomeAnd o (λ r. ChangesRun a b i (Some (record r { elems = slice_set r.elems p x }))) → IsReplacedIn s k a b x t st
  in-run None t i p e is h c has get same ch = cc
  in-run (Some r) t i p e is h c has get same ch = IsReplacedIn-run t i p r e h c has is get same ch

  -- the element at the spot that was found is exchanged
  pub IsReplacedIn-spot : (t : Tree) (spot : Spot) → IsStanding s a st t → IsConforming s k st t → IsSpotWith s a x.at t spot → ReplacesAt a b x spot
      → IsReplacedIn s k a b x t st
  IsReplacedIn-spot t (spots.Node i p) h c f r = in-node (node_at a i) t i p f.elem refl h c f.inside f.there (elem_with-at x.at (walk_of s t) f.elem f.found) r
  IsReplacedIn-spot t (spots.Run i p) h c f r = in-run (run_at a i) t i p f.elem refl h c f.inside f.there (elem_with-at x.at (walk_of s t) f.elem f.found) r

-- the same with what is known of the structure's tree
pub IsReplacedIn-found : (s : List NodeKind) (k : ℕ) (a b : ArenaState) (x : Elem) (st : Structure) (t t0 : Tree) (spot : Spot) → IsStanding s a st t
    → IsStanding s a st t0 → IsConforming s k st t0 → IsSpotWith s a x.at t0 spot → ReplacesAt a b x spot → IsReplacedIn s k a b x t st
IsReplacedIn-found s k a b x st t t0 spot h h0 c f r =
    subst (λ u. IsReplacedIn s k a b x u st) (sym (tree_unique s a st t t0 h h0)) (IsReplacedIn-spot s k a b x st t0 spot h0 c f r)
