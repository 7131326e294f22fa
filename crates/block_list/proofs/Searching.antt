-- The search along a chain: each step comes nearer, and what is left further on is left of the whole.
use Rattle.std.proofs.Common.{◌≡◌, ◌≤◌, ◌<◌, ◌+◌, ◌-◌, inl, ℕ, List, [], ◌∷◌, ◌++◌, length, Option, Some, None, IsSome, IsSomeAnd, IfSome, refl, ap, ◌∙◌, sym, subst, arith, length-append}
use Rattle.std.specs.Prelude.{slice_set, slice_index_or}
use Rattle.node_arena.specs.declared.elements.Elem.{Elem}
use Rattle.node_arena.specs.declared.elements.Side.{Side}
use Rattle.node_arena.specs.declared.elements.Step.{Step}
use Rattle.node_arena.specs.declared.elements.Step.TheVariants.{Done, Pass}
use Rattle.node_arena.specs.declared.kinds.NodeKind.{NodeKind}
use Rattle.node_arena.specs.Arenas.{ArenaState, NodeState, node_at, coordinate_at}
use Rattle.node_arena.specs.Conforming.{Hang, IsRising, spine, whole}
use Rattle.node_arena.specs.Kinds.{shape_at}
use Rattle.node_arena.specs.Passing.{discipline, chains, CanPutIn, IsDone, IsPassed, Leaves, deeper}
use Rattle.node_arena.specs.Rules.{AreSound}
use Rattle.node_arena.specs.Trees.{Trees, done, absent, node, roots, stored, Stands}
use Rattle.node_arena.specs.Walks.{walk}
use Rattle.node_arena.proofs.ChangesLemmas.{KeepsOutside-only}
use Rattle.node_arena.proofs.InsertionsLemmas.{PutsAt-PutsIn}
use Rattle.node_arena.proofs.PlacesLemmas.{hang-none}
use Rattle.node_arena.proofs.PutInLemmas.{append-Lacks, IsRising-prefix}
use Rattle.block_list.specs.Chains.{AllBelow, first_of, first_at, link_of, HasChainBehind, Turns, Comes}
use Rattle.block_list.specs.declared.chains.Turn.TheVariants as turns
use Rattle.block_list.proofs.Ends.{some-node, linked}
use Rattle.block_list.proofs.Lists.{put_in-past, AllBelow-last, Stops-last, first-rises, first-append, first-below}
use Rattle.block_list.proofs.Opening.{Opened, opened, behind-conforms, behind-root}
use Rattle.block_list.proofs.Parts.{spine-post}
use Rattle.block_list.proofs.Walks.{walk-chain}

-- ---- options

-- what is said of a node if there is one, said of the one that there is
pub of-node : (o : Option NodeState) (n : NodeState) (P : NodeState → Type 0) → o ≡ Some n → IfSome o P → P n
of-node o n P e h = subst (λ q. IfSome q P) e h

-- what is said of the node that is there, with the node being there
pub has-node : (o : Option NodeState) (n : NodeState) (P : NodeState → Type 0) → o ≡ Some n → P n → IsSomeAnd o P
has-node o n P e h = subst (λ q. IsSomeAnd q P) (sym e) h

-- ---- where a coordinate goes at a node

-- what is said of the node that is there, said of it if there is one
pub if-node : (o : Option NodeState) (n : NodeState) (P : NodeState → Type 0) → o ≡ Some n → P n → IfSome o P
if-node o n P e h = subst (λ q. IfSome q P) (sym e) h

module _ (s : List NodeKind) (at last : ℕ) (n : NodeState) (ready : (0 < length n.run) × IsRising n.run)
    (ends : coordinate_at n.run (length n.run - 1) ≡ Some last) where
  -- the last element isn't below
  pub turn-into : at ≤ last → Turns s at n turns.Into
  turn-into l = inl (Stops-last at n.run last (omega (arith, ready.0)) ends l)

  -- the next node is of a chain
  pub turn-on : (next : ℕ) → last < at → Some next ≡ link_of n → HasChainBehind s (shape_at s n.kind) → Turns s at n (turns.On next)
  turn-on next l link h = (AllBelow-last at n.run last ready.1 ends l, sym link, h)

  -- what hangs behind is of another discipline
  pub turn-behind : (next : ℕ) → last < at → Some next ≡ link_of n → (HasChainBehind s (shape_at s n.kind) → ⊥) → Turns s at n turns.Behind
  turn-behind next l link h = (
    AllBelow-last at n.run last ready.1 ends l,
    (λ none. let f : Some next ≡ None = link ∙ none in cc),
    h,
  )

-- ---- the next node

-- what hangs at a link that names a node
pub record IsNode (i k : ℕ) (t : Trees) : Type 0 where
  pub run : List Elem
  pub links : Trees
  pub is : t ≡ node i k run links done

-- what hangs at a link that names a node has its kind and number
pub next-node : (s : List NodeKind) (p next : ℕ) (ls : Trees) → Hang s (whole s p ∷ []) ls → slice_index_or (roots ls) 0 None ≡ Some next → IsNode next p ls
next-node s p next done h e = cc
next-node s p next (absent rest) h e = cc
next-node s p next (node j m r l rest) h e =
    let none : rest ≡ done = hang-none s rest h.4 in
    let number : j ≡ next = cc (e) in
    let kind : m ≡ p = h.0 in
    record { run = r; links = l; is = ap (λ u. node j m r l u) none ∙ ap (λ n. node n m r l done) number ∙ ap (λ n. node next n r l done) kind }

-- what hangs at a link that names none has no elements
pub next-none : (s : List NodeKind) (p : ℕ) (ls : Trees) → Hang s (whole s p ∷ []) ls → slice_index_or (roots ls) 0 None ≡ None → walk s ls ≡ []
next-none s p done h e = refl
next-none s p (absent rest) h e = ap (walk s) (hang-none s rest h.1)
next-none s p (node i k run ls rest) h e = cc

-- ---- from a node to the one before it

module _ (s : List NodeKind) (a : ArenaState) (x : Elem) (i k : ℕ) (run : List Elem) (ls : Trees) (o : Opened s a x i k run ls)
    (below : AllBelow x.at run) where
  -- where x is below what hangs behind, it is in the whole
  done-next : (b : ArenaState) (deep : Option ℕ) → IsDone s a b x ls deep → IsDone s a b x (node i k run ls done) deep
  done-next b deep d =
      let r = behind-root s a x i k run ls o in
      let some : IsSome (node_at a i) = some-node a i (stored k run ls) o.link.stands.0 in
      let at : node_at b i ≡ Some (stored k run ls) = KeepsOutside-only a b ls d.tree d.puts.only i some o.link.once.0 ∙ o.link.stands.0 in
      let tops : roots ls ≡ slice_set (roots ls) 0 r.0 = subst (λ ts. ts ≡ slice_set ts 0 r.0) (sym r.1) refl in
      linked s x i k o.post run ls a a b b run (x ∷ []) r.0 r.0 d.tree o.link r.1 o.link.low o.link.high (sym (put_in-past x run (walk s ls) below)) some
      (λ j h. refl)
      (PutsAt-PutsIn s o.post a b (x ∷ []) ls d.tree d.puts o.link.links o.level)
      (d.same_root ∙ r.1)
      (record {
        node = record {
          changed = at ∙ ap (λ ts. Some (record { kind = k; run = run; links = ts })) tops;
          others = λ j h. refl;
          most = refl;
          places = refl;
        };
        runs = refl;
      })
      deep d.goes

  walk_is : walk s (node i k run ls done) ≡ run ++ walk s ls
  walk_is = walk-chain s i k o.post run ls o.link.shape

  -- what is passed on behind the run is passed on by the whole
  passed-next : (b : ArenaState) (j : ℕ) (at_side : Side) (xs : List Elem) (above n m : ℕ) → IsPassed s a b x ls j at_side xs above n m
      → IsPassed s a b x (node i k run ls done) j at_side xs above n m
  passed-next b j at_side xs above n m q = record {
    on = record {
      passer = q.on.passer;
      there = q.on.there;
      link = q.on.link;
      has_link = q.on.has_link;
      width = q.on.width;
      other = q.on.other;
      below = q.on.below;
      leads = q.on.leads;
      stands = q.on.stands;
      once = q.on.once;
      away = q.on.away;
      conforms = q.on.conforms;
      spine_low =
          let f : spine s (node i k run ls done) ≡ spine s ls = spine-post s i k o.post run ls o.link.shape in
          let g : spine s q.on.below ≤ spine s ls = q.on.spine_low in
          omega arith;
    };
    can = record {
      some = q.can.some;
      beside = q.can.beside;
      lack = q.can.lack;
      counted =
          let f : length (walk s (node i k run ls done)) ≡ length run + length (walk s ls) = ap length walk_is ∙ length-append run (walk s ls) in
          let g : length xs + length (walk s q.on.below) ≤ length (walk s ls) = q.can.counted in
          omega arith;
    };
    goes_on = q.goes_on;
    spare = q.spare;
    lift = λ c d v top w root e deep h. done-next d (deeper above deep) (q.lift c d v top w root e deep h);
  }

  -- what is left behind the run is left of the whole
  pub leaves-next : (b : ArenaState) (step : Step) (n m : ℕ) → Leaves s a b x ls step n m → Leaves s a b x (node i k run ls done) step n m
  leaves-next b (Done deep) n m d = done-next b deep d
  leaves-next b (Pass j at_side xs above) n m q = passed-next b j at_side xs.items above n m q

-- ---- the search

module _ (s : List NodeKind) (a : ArenaState) (x : Elem) (sound : AreSound s) where
  -- what is known of the node in hand
  pub open-here : (i : ℕ) (t : Trees) → (c : Comes s a x i t) → Opened s a x i c.here.kind c.here.run c.here.links
  open-here i t c = opened s a x i c.tree sound c.here c.chain

  -- the search begins
  pub comes-first : (i : ℕ) (t : Trees) → (c : CanPutIn s a x i t) → IfSome (node_at a i) (λ n. discipline (shape_at s n.kind) ≡ chains) → Comes s a x i t
  comes-first i t c d =
      let st = subst (Stands a) c.is c.stands in
      record {
        tree = t;
        here = c;
        chain = of-node (node_at a i) (stored c.kind c.run c.links) (λ n. discipline (shape_at s n.kind) ≡ chains) st.0 d;
        lift = λ b step n m l. l;
      }

  -- a node is there, whose run can be read
  pub comes-ready : (i : ℕ) (t : Trees) → Comes s a x i t → IsSomeAnd (node_at a i) (λ n. (0 < length n.run) × IsRising n.run)
  comes-ready i t c =
      let o = open-here i t c in
      has-node (node_at a i) (stored c.here.kind c.here.run c.here.links) (λ n. (0 < length n.run) × IsRising n.run) o.link.stands.0
      (omega (arith, o.link.low), IsRising-prefix c.here.run (walk s c.here.links) o.rising)

  -- what is said of the node in hand is said of one that is there
  pub comes-there : (i : ℕ) (t : Trees) (P : NodeState → Type 0) → Comes s a x i t → IfSome (node_at a i) P → IsSomeAnd (node_at a i) P
  comes-there i t P c h =
      let o = open-here i t c in
      let n = stored c.here.kind c.here.run c.here.links in
      has-node (node_at a i) n P o.link.stands.0 (of-node (node_at a i) n P o.link.stands.0 h)

  module _ (i : ℕ) (t : Trees) (next : ℕ) (c : Comes s a x i t) (turn : IfSome (node_at a i) (λ n. Turns s x.at n (turns.On next))) where
    o : Opened s a x i c.here.kind c.here.run c.here.links
    o = open-here i t c

    way : Turns s x.at (stored c.here.kind c.here.run c.here.links) (turns.On next)
    way = of-node (node_at a i) (stored c.here.kind c.here.run c.here.links) (λ n. Turns s x.at n (turns.On next)) o.link.stands.0 turn

    chain : discipline (shape_at s o.post) ≡ chains
    chain = subst (HasChainBehind s) o.link.shape way.2

    found : IsNode next o.post c.here.links
    found = next-node s o.post next c.here.links o.link.links way.1

    -- the next node begins a chain too
    next-here : CanPutIn s a x next c.here.links
    next-here = record {
      kind = o.post;
      run = found.run;
      links = found.links;
      is = found.is;
      stands = o.link.stands.1;
      once = o.link.once.3;
      conforms = behind-conforms s a x i c.here.kind c.here.run c.here.links o;
      lacks = (append-Lacks x.at c.here.run (walk s c.here.links) o.lacks).1;
    }

    -- the search goes on
    pub comes-next : Comes s a x next t
    unfolding next-here o
    comes-next = record {
      tree = c.here.links;
      here = next-here;
      chain = chain;
      lift = λ b step n m l. c.lift b step n m (subst (λ u. Leaves s a b x u step n m) (sym c.here.is)
          (leaves-next s a x i c.here.kind c.here.run c.here.links o way.0 b step n m l));
    }

    -- the first coordinate of the next node is nearer
    pub nearer : x.at - first_at (node_at a next) < x.at - first_at (node_at a i)
    unfolding next-here o
    nearer =
        let p : Opened s a x next o.post found.run found.links = opened s a x next c.here.links sound next-here chain in
        let f : first_at (node_at a i) ≡ first_of c.here.run = ap first_at o.link.stands.0 in
        let g : first_at (node_at a next) ≡ first_of found.run = ap first_at p.link.stands.0 in
        let w : walk s c.here.links ≡ found.run ++ walk s found.links = ap (walk s) found.is
        ∙ walk-chain s next o.post p.post found.run found.links p.link.shape in
        let up : IsRising (c.here.run ++ (found.run ++ walk s found.links)) = subst (λ v. IsRising (c.here.run ++ v)) w o.rising in
        let len : length (found.run ++ walk s found.links) ≡ length found.run + length (walk s found.links) = length-append found.run (walk s found.links) in
        let rise : first_of c.here.run < first_of (found.run ++ walk s found.links) =
        first-rises c.here.run (found.run ++ walk s found.links) o.link.low (omega (arith, p.link.low)) up in
        let head : first_of (found.run ++ walk s found.links) ≡ first_of found.run = first-append found.run (walk s found.links) p.link.low in
        let far : first_of c.here.run < x.at = first-below x.at c.here.run way.0 o.link.low in
        omega arith
