-- The end of the way and what is done there, as the code says it.
use Rattle.std.proofs.Common.{◌≡◌, ◌≤◌, ◌+◌, inl, inr, ℕ, Bool, true, false, cond, List, [], ◌∷◌, get_or, Option, Some, None, is_some, IsSomeAnd, IfSome, refl, ap, ◌∙◌, sym, subst, arith}
use Rattle.node_arena.specs.declared.elements.Elem.{Elem}
use Rattle.node_arena.specs.declared.elements.Side.{Side}
use Rattle.node_arena.specs.declared.elements.Side.TheVariants as sides
use Rattle.node_arena.specs.declared.elements.Step.{Step}
use Rattle.node_arena.specs.declared.elements.Step.TheVariants.{Done, Pass}
use Rattle.node_arena.specs.declared.elements.TheConstants.{MOST_SPINE}
use Rattle.node_arena.specs.declared.kinds.NodeKind.{NodeKind}
use Rattle.node_arena.specs.declared.kinds.Shape.{Shape}
use Rattle.node_arena.specs.declared.kinds.Shape.TheVariants.{Flat, Post, Ends, Woven}
use Rattle.node_arena.specs.Arenas.{ArenaState, NodeState, node_at, ChangesNode}
use Rattle.node_arena.specs.Conforming.{spine}
use Rattle.node_arena.specs.Insertions.{Lacks, DifferInFew}
use Rattle.node_arena.specs.Kinds.{kind_at, shape_at}
use Rattle.node_arena.specs.Passing.{CanPutIn, IsDone, IsPassed, Leaves, deeper, wedge_depth}
use Rattle.node_arena.specs.Rules.{AreSound, Serves}
use Rattle.node_arena.specs.Trees.{Trees, done, node, roots, stored, Stands}
use Rattle.node_arena.specs.Walks.{walk}
use Rattle.node_arena.proofs.DepthsLemmas.{Deepens-within, wedge_depth-deeper, IsDone-told}
use Rattle.chunk_tree.specs.Descents.{Chunks, IsWithin, Finds}
use Rattle.chunk_tree.specs.Ways.{Takes, HasTwoLinks, next_on, kind_on, has_two_links}
use Rattle.chunk_tree.specs.Writes.{HasKindsRun, GoesInside, GoesBeside}
use Rattle.chunk_tree.proofs.Behind.{ends-of}
use Rattle.chunk_tree.proofs.Descending.{open-chunks, is_stored}
use Rattle.chunk_tree.proofs.Ending.{run-walk, fitted, wedged, hung-pre, hung-post}
use Rattle.chunk_tree.proofs.Opening.{Opened}
use Rattle.chunk_tree.proofs.Options.{at_known, and_known, known}
use Rattle.chunk_tree.proofs.Passed.{pass-pre, pass-post, pass-cut}

-- ---- what is asked for

-- the tree, whose root has two links
pub chunks-of : (s : List NodeKind) (a : ArenaState) (x : Elem) (i : ℕ) (t : Trees) → CanPutIn s a x i t
    → IsSomeAnd (node_at a i) (λ n. HasTwoLinks (shape_at s n.kind)) → Chunks s a i t
chunks-of s a x i t h two =
    let st : Stands a (node i h.kind h.run h.links done) = subst (Stands a) h.is h.stands in
    let ends = ends-of (shape_at s h.kind) (subst (λ v. IsSomeAnd v (λ n. HasTwoLinks (shape_at s n.kind))) st.0 two) in
    record {
      kind = h.kind;
      run = h.run;
      links = h.links;
      is = h.is;
      pre = ends.0;
      post = ends.1;
      shape = ends.2;
      stands = h.stands;
      once = h.once;
      conforms = h.conforms;
    }

module _ (s : List NodeKind) (a : ArenaState) (x : Elem) (i : ℕ) (way : Option Side) (above : ℕ) (t : Trees) (sound : AreSound s)
    (f : Finds s a x i way above t) where
  -- the node at which the way ends
  pub here : Opened s a i f.comes.chunks.kind f.comes.chunks.pre f.comes.chunks.post f.comes.chunks.run f.comes.chunks.links
  here = open-chunks s a i f.comes.tree sound f.comes.chunks

  pub here-is : f.old ≡ stored f.comes.chunks.kind f.comes.chunks.run f.comes.chunks.links
  here-is = is_stored s a i _ _ _ _ _ f.old here f.there

  pub run-there : Serves s a → IsSomeAnd (node_at a i) (HasKindsRun s a)
  run-there serves =
      let c = f.comes.chunks in
      let k = c.kind in
      and_known (node_at a i) (HasKindsRun s a) (stored c.kind c.run c.links) here.stands.0
      (record { high = here.high; some = omega (arith, sound.some k, sound.bounds k); few = sound.few k; serves = serves k })

  pub takes-here : Takes (kind_at s f.comes.chunks.kind).hi x.at (stored f.comes.chunks.kind f.comes.chunks.run f.comes.chunks.links) way
  takes-here = subst (λ n. Takes (kind_at s n.kind).hi x.at n way) here-is f.takes

  pub ends-here : next_on s (stored f.comes.chunks.kind f.comes.chunks.run f.comes.chunks.links) way ≡ None
  ends-here = subst (λ n. next_on s n way ≡ None) here-is f.ends

  pub within-here : IsWithin s a x above (node i f.comes.chunks.kind f.comes.chunks.run f.comes.chunks.links done) t
  within-here = subst (λ u. IsWithin s a x above u t) f.comes.chunks.is f.comes.within

  pub low-here : spine s (node i f.comes.chunks.kind f.comes.chunks.run f.comes.chunks.links done) ≤ MOST_SPINE
  low-here = subst (λ u. spine s u ≤ MOST_SPINE) f.comes.chunks.is f.comes.chunks.conforms.low

-- ---- what is done

module _ (s : List NodeKind) (a b : ArenaState) (x : Elem) (i above : ℕ) (t : Trees) (n m : ℕ) (sound : AreSound s) (lacks : Lacks x.at (walk s t)) where
  -- x in the run leaves the spine as it was
  settled-run : (inner : Trees) → IsWithin s a x above inner t → IsDone s a b x inner (Some 0) → IsDone s a b x t (Some 0)
  settled-run inner w r =
      let q = w.lift b (Some 0) r in
      IsDone-told s a b x t (Some (above + 0)) (Some 0) q (Deepens-within (above + 0) (spine s t) (spine s q.tree) (omega (arith, w.spine_low)) q.goes.deepens)
      (λ e. cc)

  -- a new node behind the run goes deeper by those that are above
  settled-wedge : (inner : Trees) (kind : ℕ) (link : Option ℕ) → IsWithin s a x above inner t
      → IsDone s a b x inner (wedge_depth (shape_at s kind) (is_some link) 1) → IsDone s a b x t (wedge_depth (shape_at s kind) (is_some link) (above + 1))
  settled-wedge inner kind link w r =
      let told = wedge_depth (shape_at s kind) (is_some link) 1 in
      let q = w.lift b told r in
      IsDone-told s a b x t (deeper above told) (wedge_depth (shape_at s kind) (is_some link) (above + 1)) q
      (wedge_depth-deeper (shape_at s kind) (is_some link) above 1 (spine s t) (spine s q.tree) (omega (arith, w.spine_low)) q.goes.deepens)
      (wedge-none (shape_at s kind) (is_some link))
    where
      -- where no depth is told, none was told at the node
      wedge-none : (sh : Shape) (behind : Bool) → wedge_depth sh behind (above + 1) ≡ None → deeper above (wedge_depth sh behind 1) ≡ None
      wedge-none Flat behind e = cc
      wedge-none (Post q) behind e = cc
      wedge-none (Ends p q) false e = cc
      wedge-none (Ends p q) true e = refl
      wedge-none Woven behind e = cc

  -- into the run
  settled : (f : Finds s a x i None above t) (step : Step)
      → GoesInside s x a b i (stored f.comes.chunks.kind f.comes.chunks.run f.comes.chunks.links) above step n m → Leaves s a b x t step n m
  settled f (Done deep) (inl d) =
      let c = f.comes.chunks in
      subst (IsDone s a b x t) (sym d.2)
      (settled-run (node i c.kind c.run c.links done) (within-here s a x i None above t sound f)
      (fitted s a b x i c.kind c.pre c.post c.run c.links sound (here s a x i None above t sound f) (takes-here s a x i None above t sound f) d.0))
  settled f (Done deep) (inr d) =
      let c = f.comes.chunks in
      subst (IsDone s a b x t) (sym d.3)
      (settled-wedge (node i c.kind c.run c.links done) (kind_on (shape_at s c.kind) sides.Post) (get_or (roots c.links) 1 None)
      (within-here s a x i None above t sound f)
      (wedged s a b x i c.kind c.pre c.post c.run c.links sound (here s a x i None above t sound f) d.1.0 d.0 (takes-here s a x i None above t sound f) d.1.1))
  settled f (Pass j side xs over) d =
      let c = f.comes.chunks in
      let o = here s a x i None above t sound f in
      let on : kind_on (shape_at s c.kind) sides.Post ≡ c.post = ap (λ sh. kind_on sh sides.Post) o.shape in
      let walks = o.walk_is in
      let cost = d.4 in
      let told = above + 1 in
      let p : IsPassed s a b x t i sides.Post xs.items told n (n + 1) =
      pass-cut s a x i c.kind c.pre c.post above c.run c.links t o (within-here s a x i None above t sound f) lacks
      (low-here s a x i None above t sound f) b xs.items n
      (run-walk s a b x i c.kind c.pre c.post c.run c.links sound o (kind_at s c.kind).hi (takes-here s a x i None above t sound f))
      (ap (shape_at s) (sym on) ∙ d.2) d.3 (let e = cost.0.spare in omega arith) in
      subst (λ l. IsPassed s a b x t j side xs.items l n m) (sym d.5)
      (subst (λ k. IsPassed s a b x t k side xs.items told n m) (sym d.0)
      (subst (λ w. IsPassed s a b x t i w xs.items told n m) (sym d.1) (subst (IsPassed s a b x t i sides.Post xs.items told n) (sym cost.1) p)))

  if-none : (v : Bool) (l : Option ℕ) → cond v l None ≡ None → v ≡ true → l ≡ None
  if-none true l e h = e
  if-none false l e h = cc

  -- beside the run
  gone : (side : Side) (f : Finds s a x i (Some side) above t) (step : Step) → GoesBeside s x a b i
      (stored f.comes.chunks.kind f.comes.chunks.run f.comes.chunks.links) side above step n m
      → Leaves s a b x t step n m
  gone sides.Pre f (Done deep) d =
      let c = f.comes.chunks in
      let none = if-none (has_two_links (shape_at s (kind_on (shape_at s c.kind) sides.Pre))) (get_or (roots c.links) 0 None)
      (ends-here s a x i (Some sides.Pre) above t sound f) d.0 in
      subst (IsDone s a b x t) (sym d.3)
      ((within-here s a x i (Some sides.Pre) above t sound f).lift b (Some 2)
      (hung-pre s a b x i c.kind c.pre c.post c.run c.links sound (here s a x i (Some sides.Pre) above t sound f) d.1.0 (kind_at s c.kind).hi none
      (takes-here s a x i (Some sides.Pre) above t sound f) d.0 d.1.1))
  gone sides.Post f (Done deep) d =
      let c = f.comes.chunks in
      let none = if-none (has_two_links (shape_at s (kind_on (shape_at s c.kind) sides.Post))) (get_or (roots c.links) 1 None)
      (ends-here s a x i (Some sides.Post) above t sound f) d.0 in
      subst (IsDone s a b x t) (sym d.3)
      ((within-here s a x i (Some sides.Post) above t sound f).lift b (Some 2)
      (hung-post s a b x i c.kind c.pre c.post c.run c.links sound (here s a x i (Some sides.Post) above t sound f) d.1.0 (kind_at s c.kind).hi none
      (takes-here s a x i (Some sides.Post) above t sound f) d.0 d.1.1))
  gone sides.Pre f (Pass j to xs over) d =
      let c = f.comes.chunks in
      let o = here s a x i (Some sides.Pre) above t sound f in
      let on : kind_on (shape_at s c.kind) sides.Pre ≡ c.pre = ap (λ sh. kind_on sh sides.Pre) o.shape in
      let told = above + 1 in
      let p : IsPassed s a a x t i sides.Pre (x ∷ []) told n n =
      pass-pre s a x i c.kind c.pre c.post above c.run c.links t o (within-here s a x i (Some sides.Pre) above t sound f) lacks
      (low-here s a x i (Some sides.Pre) above t sound f) (kind_at s c.kind).hi n
      (takes-here s a x i (Some sides.Pre) above t sound f) (subst (λ k. has_two_links (shape_at s k) ≡ false) on d.2) in
      subst (λ l. IsPassed s a b x t j to xs.items l n m) (sym d.6)
      (subst (λ k. IsPassed s a b x t k to xs.items told n m) (sym d.0)
      (subst (λ w. IsPassed s a b x t i w xs.items told n m) (sym d.1)
      (subst (λ c. IsPassed s a c x t i sides.Pre xs.items told n m) (sym d.3)
      (subst (λ w. IsPassed s a a x t i sides.Pre w told n m) (sym d.4) (subst (IsPassed s a a x t i sides.Pre (x ∷ []) told n) (sym d.5) p)))))
  gone sides.Post f (Pass j to xs over) d =
      let c = f.comes.chunks in
      let o = here s a x i (Some sides.Post) above t sound f in
      let on : kind_on (shape_at s c.kind) sides.Post ≡ c.post = ap (λ sh. kind_on sh sides.Post) o.shape in
      let told = above + 1 in
      let p : IsPassed s a a x t i sides.Post (x ∷ []) told n n =
      pass-post s a x i c.kind c.pre c.post above c.run c.links t o (within-here s a x i (Some sides.Post) above t sound f) lacks
      (low-here s a x i (Some sides.Post) above t sound f) (kind_at s c.kind).hi n
      (takes-here s a x i (Some sides.Post) above t sound f) (subst (λ k. has_two_links (shape_at s k) ≡ false) on d.2) in
      subst (λ l. IsPassed s a b x t j to xs.items l n m) (sym d.6)
      (subst (λ k. IsPassed s a b x t k to xs.items told n m) (sym d.0)
      (subst (λ w. IsPassed s a b x t i w xs.items told n m) (sym d.1)
      (subst (λ c. IsPassed s a c x t i sides.Post xs.items told n m) (sym d.3)
      (subst (λ w. IsPassed s a a x t i sides.Post w told n m) (sym d.4) (subst (IsPassed s a a x t i sides.Post (x ∷ []) told n) (sym d.5) p)))))

  pub settle-leaves : (way : Option Side) → way ≡ None → (f : Finds s a x i way above t) (step : Step)
      → IfSome (node_at a i) (λ v. GoesInside s x a b i v above step n m)
      → Leaves s a b x t step n m
  settle-leaves (Some side) e f step d = cc
  settle-leaves None e f step d =
      settled f step (at_known (node_at a i) (λ v. GoesInside s x a b i v above step n m) _ (here s a x i None above t sound f).stands.0 d)

  pub beside-leaves : (way : Option Side) (side : Side) → way ≡ Some side → (f : Finds s a x i way above t) (step : Step)
      → IfSome (node_at a i) (λ v. GoesBeside s x a b i v side above step n m)
      → Leaves s a b x t step n m
  beside-leaves None side e f step d = cc
  beside-leaves (Some w) side e f step d =
      let same : side ≡ w = cc (e) in
      let old = stored f.comes.chunks.kind f.comes.chunks.run f.comes.chunks.links in
      gone w f step (subst (λ z. GoesBeside s x a b i old z above step n m) same
      (at_known (node_at a i) (λ v. GoesBeside s x a b i v side above step n m) old (here s a x i (Some w) above t sound f).stands.0 d))

-- ---- what it costs

-- two nodes differ at most, one was made at most, and the rest is as before
pub record Cheap (a b : ArenaState) (n m : ℕ) : Type 0 where
  pub few : DifferInFew 2 a b
  pub spare : a.nodes.spare ≤ b.nodes.spare + 1
  pub steps : m ≤ n + 2
  pub runs : b.runs ≡ a.runs
  pub most : b.nodes.most ≡ a.nodes.most
  pub places : b.nodes.places ≡ a.nodes.places

few-one : (a b : ArenaState) (i : ℕ) (slot : Option NodeState) → ChangesNode a b i slot → DifferInFew 2 a b
few-one a b i slot c = record { touched = i ∷ []; few = omega arith; others = λ j h. c.node.others j (λ e. h.0 (sym e)) }

few-two : (a m b : ArenaState) (i j : ℕ) (slot next : Option NodeState) → ChangesNode a m j slot → ChangesNode m b i next → DifferInFew 2 a b
few-two a m b i j slot next c d = record {
  touched = i ∷ j ∷ [];
  few = omega arith;
  others = λ k h. d.node.others k (λ e. h.0 (sym e)) ∙ c.node.others k (λ e. h.1.0 (sym e));
}

few-none : (a b : ArenaState) → b ≡ a → DifferInFew 2 a b
few-none a b e = record { touched = []; few = omega arith; others = λ k h. ap (λ c. node_at c k) e }

module _ (s : List NodeKind) (a b : ArenaState) (x : Elem) (i above n m : ℕ) (v : NodeState) where
  settled-cheap : (step : Step) → GoesInside s x a b i v above step n m → Cheap a b n m
  settled-cheap (Done deep) (inl d) = record {
    few = few-one a b i _ d.0.puts;
    spare = let e = d.1.0.spare in omega arith;
    steps = let e = d.1.1 in omega arith;
    runs = d.1.0.runs;
    most = d.1.0.most;
    places = d.1.0.places;
  }
  settled-cheap (Done deep) (inr d) = record {
    few = few-two a d.1.1.between b i d.1.0 _ _ d.1.1.makes d.1.1.puts;
    spare = let e = d.2.0.spare in omega arith;
    steps = let e = d.2.1 in omega arith;
    runs = d.2.0.runs;
    most = d.2.0.most;
    places = d.2.0.places;
  }
  settled-cheap (Pass j side xs over) d = record {
    few = few-one a b i _ d.3.puts;
    spare = let e = d.4.0.spare in omega arith;
    steps = let e = d.4.1 in omega arith;
    runs = d.4.0.runs;
    most = d.4.0.most;
    places = d.4.0.places;
  }

  gone-cheap : (side : Side) (step : Step) → GoesBeside s x a b i v side above step n m → Cheap a b n m
  gone-cheap side (Done deep) d = record {
    few = few-two a d.1.1.between b i d.1.0 _ _ d.1.1.makes d.1.1.puts;
    spare = let e = d.2.0.spare in omega arith;
    steps = let e = d.2.1 in omega arith;
    runs = d.2.0.runs;
    most = d.2.0.most;
    places = d.2.0.places;
  }
  gone-cheap side (Pass j to xs over) d = record {
    few = few-none a b d.3;
    spare = let e : b.nodes.spare ≡ a.nodes.spare = ap (λ c. c.nodes.spare) d.3 in omega arith;
    steps = let e = d.5 in omega arith;
    runs = ap (λ c. c.runs) d.3;
    most = ap (λ c. c.nodes.most) d.3;
    places = ap (λ c. c.nodes.places) d.3;
  }

module _ (s : List NodeKind) (a b : ArenaState) (x : Elem) (i above n m : ℕ) where
  pub settle-cheap : (step : Step) → IsSomeAnd (node_at a i) (HasKindsRun s a) → IfSome (node_at a i) (λ v. GoesInside s x a b i v above step n m)
      → Cheap a b n m
  settle-cheap step there d =
      let k = known (node_at a i) (HasKindsRun s a) there in
      settled-cheap s a b x i above n m k.value step (at_known (node_at a i) _ k.value k.is d)

  pub beside-cheap : (side : Side) (step : Step) → IsSomeAnd (node_at a i) (HasKindsRun s a)
      → IfSome (node_at a i) (λ v. GoesBeside s x a b i v side above step n m) → Cheap a b n m
  beside-cheap side step there d =
      let k = known (node_at a i) (HasKindsRun s a) there in
      gone-cheap s a b x i above n m k.value side step (at_known (node_at a i) _ k.value k.is d)
