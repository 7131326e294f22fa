-- Elements that go one after another into a woven structure, and the link that is set then.
use Rattle.std.proofs.Common.{◌≡◌, ◌≤◌, ◌<◌, ◌+◌, ◌*◌, ◌^◌, ℕ, suc, List, [], ◌∷◌, length, Option, Some, None, IfSome, IsSome, slice_set, refl, ap}
use Rattle.std.proofs.Common.{◌∙◌, sym, subst, arith}
use Rattle.std.specs.Option.{IsSomeAnd}
use Rattle.std.proofs.Math.Nat.{suc-mul}
use Rattle.node_arena.specs.declared.elements.Elem.{Elem}
use Rattle.node_arena.specs.declared.kinds.NodeKind.{NodeKind}
use Rattle.node_arena.specs.declared.kinds.Shape.TheVariants.{Woven}
use Rattle.node_arena.specs.Arenas.{ArenaState, NodeState, node_at, ChangesNode}
use Rattle.node_arena.specs.Conforming.{spine}
use Rattle.node_arena.specs.Insertions.{DifferInFew}
use Rattle.node_arena.specs.Kinds.{kind_at, shape_at}
use Rattle.node_arena.specs.Passing.{AllLack}
use Rattle.node_arena.specs.Rules.{AreSound, HasSoundLinks}
use Rattle.node_arena.specs.Trees.{Trees, Avoids}
use Rattle.node_arena.specs.Walks.{walk}
use Rattle.node_arena.proofs.ChangesLemmas.{ChangesOnly-same, KeepsOutside-only, DifferInFew-one}
use Rattle.node_arena.proofs.InsertionsLemmas.{Conform-PutsAt}
use Rattle.node_arena.proofs.PutInLemmas.{length-put_in, AllLack-put_in, RisesFrom-rising}
use Rattle.btree_nodes.specs.Links.{CanPutAt, HasSpareFor, PutsUnder}
use Rattle.btree_nodes.proofs.SpineLemmas.{spine-woven, PutsAt-then}
use Rattle.insert_gen.specs.Below.{HasLinkAt, CanTake, HasSpareForAll, PutsBelow, Relinks}

-- ---- one element after another

module _ (s : List NodeKind) (k : ℕ) (a : ArenaState) (link : Option ℕ) (t : Trees) where
  -- the first of some elements may be put in
  pub CanPutAt-first : (x : Elem) (xs : List Elem) → CanTake s k a link (x ∷ xs) t → CanPutAt s k a x link t
  CanPutAt-first x xs c = record {
    leads = c.leads;
    stands = c.stands;
    once = c.once;
    conforms = c.conforms;
    lacks = c.lack.0;
    few = omega (arith, c.few);
  }

  -- once it is in, the others may be put in at the new root
  pub CanTake-rest : (b : ArenaState) (x : Elem) (xs : List Elem) (i : ℕ) → shape_at s k ≡ Woven → CanTake s k a link (x ∷ xs) t
      → (p : PutsUnder s k a b x t i) → CanTake s k b (Some i) xs p.tree
  CanTake-rest b x xs i e c p =
      let zero : spine s p.tree ≡ 0 = spine-woven s k p.tree e p.puts.hangs in
      let count : length (walk s p.tree) ≡ length (walk s t) + 1 = ap length p.puts.walk_is ∙ length-put_in x (walk s t) in
      record {
        leads = p.leads;
        stands = p.puts.stands;
        once = p.puts.once;
        conforms = Conform-PutsAt s k a b (x ∷ []) t p.tree p.puts c.conforms (omega (arith, zero)) tt (c.lack.0, tt);
        rising = RisesFrom-rising x.at xs c.rising;
        lack = subst (λ es. AllLack xs es) (sym p.puts.walk_is) (AllLack-put_in xs x (walk s t) c.rising c.lack.1);
        few = omega (arith, c.few, count);
      }

  -- where there are none, all are in
  pub PutsBelow-none : CanTake s k a link [] t → PutsBelow s k a a [] t link
  PutsBelow-none c = record {
    tree = t;
    leads = c.leads;
    puts = record {
      stands = c.stands;
      once = c.once;
      hangs = c.conforms.hangs;
      level = c.conforms.level;
      spine_low = omega arith;
      walk_is = refl;
      only = ChangesOnly-same a t;
    };
  }

  -- the first and then the others are all
  pub PutsBelow-then : (b c : ArenaState) (x : Elem) (xs : List Elem) (i : ℕ) (after : Option ℕ) → shape_at s k ≡ Woven
      → (p : PutsUnder s k a b x t i) → PutsBelow s k b c xs p.tree after → PutsBelow s k a c (x ∷ xs) t after
  PutsBelow-then b c x xs i after e p q =
      record { tree = q.tree; leads = q.leads; puts = PutsAt-then s k a b c (x ∷ []) xs t p.tree q.tree e p.puts q.puts }

-- ---- spare nodes

one-more : (count d : ℕ) → (count + 1) * d ≡ count * d + d
one-more count d = let e : count + 1 ≡ suc count = omega arith in ap (λ n. n * d) e ∙ suc-mul count d

-- there are spare nodes for the first
pub HasSpareFor-first : (count n spare : ℕ) → HasSpareForAll (count + 1) (count + 1 + n) spare → HasSpareFor n spare
HasSpareFor-first count n spare h =
    let m = one-more count h.digits in
    record { digits = h.digits; more = omega (arith, h.more); room = omega (arith, h.room, m) }

-- and then for the others
pub HasSpareForAll-rest : (count n old new : ℕ) → HasSpareForAll (count + 1) (count + 1 + n) old → ((d : ℕ) → n + 1 < 2 ^ d → old ≤ new + d)
    → HasSpareForAll count (count + (n + 1)) new
HasSpareForAll-rest count n old new h falls =
    let m = one-more count h.digits in
    let less : n + 1 < 2 ^ h.digits = omega (arith, h.more) in
    let fall : old ≤ new + h.digits = falls h.digits less in
    record { digits = h.digits; more = omega (arith, h.more); room = omega (arith, h.room, m, fall) }

-- what the first takes and what the others take is what all take
pub spare-all : (count d old mid new : ℕ) → old ≤ mid + d → mid ≤ new + count * d → old ≤ new + (count + 1) * d
spare-all count d old mid new h g = let m = one-more count d in omega (arith, h, g, m)

-- ---- a list that begins with an element

module _ (s : List NodeKind) (k : ℕ) (a : ArenaState) (link : Option ℕ) (t : Trees) (es : List Elem) (x : Elem) (xs : List Elem) (is : es ≡ x ∷ xs)
    (e : shape_at s k ≡ Woven) (c : CanTake s k a link es t) where
  begun : CanTake s k a link (x ∷ xs) t
  begun = subst (λ l. CanTake s k a link l t) is c

  -- the first may be put in
  pub CanPutAt-begun : CanPutAt s k a x link t
  CanPutAt-begun = CanPutAt-first s k a link t x xs begun

  module _ (b : ArenaState) (i : ℕ) (p : PutsUnder s k a b x t i) (falls : (d : ℕ) → length (walk s t) + 1 < 2 ^ d → a.nodes.spare ≤ b.nodes.spare + d) where
    -- and then the others
    pub CanTake-begun : CanTake s k b (Some i) xs p.tree
    CanTake-begun = CanTake-rest s k a link t b x xs i e begun p

    one-longer : length (walk s p.tree) ≡ length (walk s t) + 1
    one-longer = ap length p.puts.walk_is ∙ length-put_in x (walk s t)

    count : length es ≡ length xs + 1
    count = let l : length es ≡ length (x ∷ xs) = ap length is in omega (arith, l)

    -- for which there are spare nodes
    pub HasSpareForAll-begun : HasSpareForAll (length es) (length es + length (walk s t)) a.nodes.spare
        → HasSpareForAll (length xs) (length xs + length (walk s p.tree)) b.nodes.spare
    HasSpareForAll-begun h =
        let all : HasSpareForAll (length xs + 1) (length xs + 1 + length (walk s t)) a.nodes.spare =
        subst (λ n. HasSpareForAll n (n + length (walk s t)) a.nodes.spare) count h in
        subst (λ n. HasSpareForAll (length xs) (length xs + n) b.nodes.spare) (sym one-longer)
        (HasSpareForAll-rest (length xs) (length (walk s t)) a.nodes.spare b.nodes.spare all falls)

    -- with the others put in, all are
    pub PutsBelow-begun : (d : ArenaState) (after : Option ℕ) → PutsBelow s k b d xs p.tree after → PutsBelow s k a d es t after
    PutsBelow-begun d after q =
        subst (λ l. PutsBelow s k a d l t after) (sym is) (PutsBelow-then s k a link t b d x xs i after e p q)

    -- and no more nodes are taken than for each
    pub spare-begun : (d new : ℕ) → length es + length (walk s t) < 2 ^ d
        → (length xs + length (walk s p.tree) < 2 ^ d → b.nodes.spare ≤ new + length xs * d) → a.nodes.spare ≤ new + length es * d
    spare-begun d new l h =
        let less : length xs + length (walk s p.tree) < 2 ^ d = omega (arith, l, count, one-longer) in
        let first : a.nodes.spare ≤ b.nodes.spare + d = falls d (omega (arith, l, count)) in
        subst (λ n. a.nodes.spare ≤ new + n * d) (sym count) (spare-all (length xs) d a.nodes.spare b.nodes.spare new first (h less))

-- ---- the link

-- there is one
some-of : (P : NodeState → Type 0) (o : Option NodeState) → IsSomeAnd o P → IsSome o
some-of P None h = absurd h
some-of P (Some n) h = refl

module _ (s : List NodeKind) (k : ℕ) (a c : ArenaState) (i place : ℕ) (xs : List Elem) (t : Trees) (link : Option ℕ)
    (p : PutsBelow s k a c xs t link) (away : Avoids i t) (there : IsSomeAnd (node_at a i) (HasLinkAt place)) where
  pub same-node : node_at c i ≡ node_at a i
  same-node = KeepsOutside-only a c t p.tree p.puts.only i (some-of (HasLinkAt place) (node_at a i) there) away

  -- the node is as before
  pub HasLinkAt-still : IsSomeAnd (node_at c i) (HasLinkAt place)
  HasLinkAt-still = subst (λ o. IsSomeAnd o (HasLinkAt place)) (sym same-node) there

  -- the link is set
  abbrev pub Relinks-set : (b : ArenaState) → IfSome (node_at c i) (λ n. ChangesNode c b i (Some (record n { links = slice_set n.links place link })))
      → Relinks s k a b i place xs t
  Relinks-set b h = record {
    between = c;
    link = link;
    below = p;
    sets = subst (λ o. IfSome o (λ n. ChangesNode c b i (Some (record n { links = slice_set n.links place link })))) same-node h;
  }

-- a node that is there and is changed is one node
pub DifferInFew-set : (a b : ArenaState) (i : ℕ) (o : Option NodeState) (f : NodeState → NodeState) (P : NodeState → Type 0) → IsSomeAnd o P
    → IfSome o (λ n. ChangesNode a b i (Some (f n))) → DifferInFew 1 a b
DifferInFew-set a b i None f P h g = absurd h
DifferInFew-set a b i (Some n) f P h g = DifferInFew-one a b i (Some (f n)) g

-- runs of a woven kind may have an element
pub hi-woven : (s : List NodeKind) (k : ℕ) → AreSound s → shape_at s k ≡ Woven → 1 ≤ (kind_at s k).hi
hi-woven s k sound e =
    let h : HasSoundLinks s (kind_at s k) Woven = subst (HasSoundLinks s (kind_at s k)) e (sound.links k) in
    omega (arith, h.0)
