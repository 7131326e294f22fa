-- What is put in below a link, seen from the whole tree.
use Rattle.std.proofs.Common.{◌≡◌, ◌≢◌, ◌≤◌, ◌<◌, ◌+◌, ◌*◌, ◌/◌, ◌^◌, ◌⊎◌, inl, inr, ℕ, max, List, [], ◌∷◌, length, Option, Some, None, IfSome}
use Rattle.std.proofs.Common.{IsSome, slice_set, slice_index_or, refl, ap, ◌∙◌, sym, subst, arith}
use Rattle.std.specs.Option.{IsSomeAnd}
use Rattle.std.proofs.Math.Nat.{mul-le-mul_right}
use Rattle.std.proofs.lemmas.List.{set-get_or}
use Rattle.node_arena.specs.declared.elements.Elem.{Elem}
use Rattle.node_arena.specs.declared.elements.Side.{Side}
use Rattle.node_arena.specs.declared.elements.Side.TheVariants as side
use Rattle.node_arena.specs.declared.kinds.NodeKind.{NodeKind}
use Rattle.node_arena.specs.declared.kinds.Shape.{Shape}
use Rattle.node_arena.specs.declared.kinds.Shape.TheVariants.{Flat, Post, Ends, Woven}
use Rattle.node_arena.specs.Arenas.{ArenaState, NodeState, node_at, ChangesNode}
use Rattle.node_arena.specs.Conforming.{Conform, IsRising, spine}
use Rattle.node_arena.specs.Insertions.{Lacks}
use Rattle.node_arena.specs.Kinds.{kind_at, shape_at}
use Rattle.node_arena.specs.Passing.{LinkPlace, link_at, link_total, LieBeside, AllLack, CanPutIn, PutsAt, deeper, GoesDeep, IsDone, IsPassed}
use Rattle.node_arena.specs.Rules.{AreSound, HasSoundLinks, MayFollow, post_of}
use Rattle.node_arena.specs.Trees.{Trees, done, absent, node, roots, stored, Stands, IsReachedOnce}
use Rattle.node_arena.specs.Walks.{walk}
use Rattle.node_arena.proofs.ChangesLemmas.{KeepsOutside-only}
use Rattle.node_arena.proofs.DepthsLemmas.{GoesDeep-told}
use Rattle.node_arena.proofs.InsertionsLemmas.{PutsAt-PutsIn}
use Rattle.node_arena.proofs.PutInLemmas.{IsRising-prefix, IsRising-suffix}
use Rattle.insert_gen.specs.Below.{IsLinked, own_depth, HasLinkAt, link_in, CanTake, HasSpareForAll, Relinks}
use Rattle.node_arena.proofs.Uniqueness.{trees_unique}
use Rattle.btree_nodes.proofs.SpineLemmas.{spine-woven}
use Rattle.insert_gen.specs.Needs.{passed_to_woven}
use Rattle.insert_gen.proofs.SpineLemmas.{passed-woven}

-- ---- kinds

linked-of : (sh : Shape) → sh ≢ Flat → sh ≢ Woven → IsLinked sh
linked-of Flat f w = absurd (f refl)
linked-of (Post p) f w = tt
linked-of (Ends p q) f w = tt
linked-of Woven f w = absurd (w refl)

follower-linked : (s : List NodeKind) (kind : NodeKind) (p : ℕ) → MayFollow s kind p → shape_at s p ≢ Woven → IsLinked (shape_at s p)
follower-linked s kind p follow other = pick follow.1
  where
    alike : (sh : Shape) → post_of sh ≡ Some p → sh ≢ Woven → IsLinked sh
    alike Flat e w = cc
    alike (Post q) e w = tt
    alike (Ends q r) e w = tt
    alike Woven e w = cc

    pick : (shape_at s p ≡ Woven) ⊎ ((post_of (shape_at s p) ≡ Some p) × ((kind.hi + 1) / 2 ≤ (kind_at s p).hi)) → IsLinked (shape_at s p)
    pick (inl e) = absurd (other e)
    pick (inr h) = alike (shape_at s p) h.0 other

link-linked : (s : List NodeKind) (kind : NodeKind) (sh : Shape) (sd : Side) (link : LinkPlace) → HasSoundLinks s kind sh → link_at sh sd ≡ Some link
    → shape_at s link.kind ≢ Woven → IsLinked (shape_at s link.kind)
link-linked s kind Flat sd link h e w = cc
link-linked s kind (Post p) side.Pre link h e w = cc
link-linked s kind (Post p) side.Post link h e w =
    let same : link.kind ≡ p = cc (e) in
    subst (λ k. IsLinked (shape_at s k)) (sym same) (follower-linked s kind p h.1 (λ v. w (ap (shape_at s) same ∙ v)))
link-linked s kind (Ends p q) side.Pre link h e w =
    let same : link.kind ≡ p = cc (e) in
    subst (λ k. IsLinked (shape_at s k)) (sym same) (linked-of (shape_at s p) h.2 (λ v. w (ap (shape_at s) same ∙ v)))
link-linked s kind (Ends p q) side.Post link h e w =
    let same : link.kind ≡ q = cc (e) in
    subst (λ k. IsLinked (shape_at s k)) (sym same) (follower-linked s kind q h.3 (λ v. w (ap (shape_at s) same ∙ v)))
link-linked s kind Woven sd link h e w = cc

place-low : (sh : Shape) (sd : Side) (link : LinkPlace) → link_at sh sd ≡ Some link → link.place < link_total sh
place-low Flat sd link e = cc
place-low (Post p) side.Pre link e = cc
place-low (Post p) side.Post link e = let same : link.place ≡ 0 = cc (e) in omega (arith, same)
place-low (Ends p q) side.Pre link e = let same : link.place ≡ 0 = cc (e) in omega (arith, same)
place-low (Ends p q) side.Post link e = let same : link.place ≡ 1 = cc (e) in omega (arith, same)
place-low Woven sd link e = cc

total-low : (sh : Shape) → link_total sh ≤ 2
total-low Flat = omega arith
total-low (Post p) = omega arith
total-low (Ends p q) = omega arith
total-low Woven = omega arith

-- ---- trees

head-same : (x y : Option ℕ) (xs ys : List (Option ℕ)) → x ∷ xs ≡ y ∷ ys → x ≡ y
head-same x y xs ys e = cc

tail-same : (x y : Option ℕ) (xs ys : List (Option ℕ)) → x ∷ xs ≡ y ∷ ys → xs ≡ ys
tail-same x y xs ys e = cc

number-same : (i j : ℕ) → Some i ≡ Some j → i ≡ j
number-same i j e = cc

-- nothing hangs at a link that leads nowhere
pub empty-below : (u : Trees) → roots u ≡ None ∷ [] → u ≡ absent done
empty-below done e = cc
empty-below (absent done) e = refl
empty-below (absent (absent u)) e = let f = tail-same _ _ _ _ e in cc
empty-below (absent (node i k run ls u)) e = let f = tail-same _ _ _ _ e in cc
empty-below (node i k run ls u) e = let f = head-same _ _ _ _ e in cc

-- what hangs at a link is a tree with the root to which it leads
pub CanPutIn-root : (s : List NodeKind) (k : ℕ) (a : ArenaState) (x : Elem) (i : ℕ) (u : Trees) → roots u ≡ Some i ∷ [] → Stands a u → IsReachedOnce u
    → Conform s k u → Lacks x.at (walk s u) → CanPutIn s a x i u
CanPutIn-root s k a x i done e st once c lacks = cc
CanPutIn-root s k a x i (absent u) e st once c lacks = let f = head-same _ _ _ _ e in cc
CanPutIn-root s k a x i (node j m run ls (absent u)) e st once c lacks = let f = tail-same _ _ _ _ e in cc
CanPutIn-root s k a x i (node j m run ls (node g n r gs u)) e st once c lacks = let f = tail-same _ _ _ _ e in cc
CanPutIn-root s k a x i (node j m run ls done) e st once c lacks =
    let same : j ≡ i = number-same j i (head-same _ _ _ _ e) in
    record {
      kind = m;
      run = run;
      links = ls;
      is = ap (λ n. node n m run ls done) same;
      stands = st;
      once = once;
      conforms = subst (λ n. Conform s n (node j m run ls done)) (sym c.hangs.0) c;
      lacks = lacks;
    }

-- the root of what hangs at a link is of the link's kind
pub linked-root : (s : List NodeKind) (k : ℕ) (a : ArenaState) (i : ℕ) (u : Trees) → roots u ≡ Some i ∷ [] → Stands a u → Conform s k u
    → IsLinked (shape_at s k) → IsSomeAnd (node_at a i) (λ n. IsLinked (shape_at s n.kind))
linked-root s k a i done e st c linked = cc
linked-root s k a i (absent u) e st c linked = let f = head-same _ _ _ _ e in cc
linked-root s k a i (node j m run ls u) e st c linked =
    let same : j ≡ i = number-same j i (head-same _ _ _ _ e) in
    let there : node_at a i ≡ Some (stored m run ls) = ap (node_at a) (sym same) ∙ st.0 in
    subst (λ o. IsSomeAnd o (λ n. IsLinked (shape_at s n.kind))) (sym there) (subst (λ n. IsLinked (shape_at s n)) (sym c.hangs.0) linked)

-- ---- passing on

module _ (s : List NodeKind) (a b : ArenaState) (x : Elem) (t : Trees) (i : ℕ) (sd : Side) (xs : List Elem) (above n m : ℕ)
    (p : IsPassed s a b x t i sd xs above n m) where
  rising-beside : (sd : Side) (run : List Elem) → LieBeside sd run xs → IsRising xs
  rising-beside side.Pre run h = IsRising-prefix xs run h
  rising-beside side.Post run h = IsRising-suffix run xs h

  -- what is passed on can go in below the link
  pub CanTake-passed : length (walk s t) ≤ 4294967295 → CanTake s p.on.link.kind b (link_in (node_at b i) p.on.link.place) xs p.on.below
  CanTake-passed few = record {
    leads = p.on.leads ∙ ap (λ o. link_in o p.on.link.place ∷ []) (sym p.on.there);
    stands = p.on.stands;
    once = p.on.once;
    conforms = p.on.conforms;
    rising = rising-beside sd p.on.passer.run p.can.beside;
    lack = p.can.lack;
    few = omega (arith, p.can.counted, few);
  }

  -- the link is there
  pub HasLinkAt-passed : IsSomeAnd (node_at b i) (HasLinkAt p.on.link.place)
  HasLinkAt-passed =
      let low = place-low (shape_at s p.on.passer.kind) sd p.on.link p.on.has_link in
      let few = total-low (shape_at s p.on.passer.kind) in
      let here : HasLinkAt p.on.link.place p.on.passer = (omega (arith, low, p.on.width), omega (arith, few, p.on.width)) in
      subst (λ o. IsSomeAnd o (HasLinkAt p.on.link.place)) (sym p.on.there) here

  -- the kind at the link has links, where it isn't woven
  pub IsLinked-passed : AreSound s → shape_at s p.on.link.kind ≢ Woven → IsLinked (shape_at s p.on.link.kind)
  IsLinked-passed sound other =
      link-linked s (kind_at s p.on.passer.kind) (shape_at s p.on.passer.kind) sd p.on.link (sound.links p.on.passer.kind) p.on.has_link other

  -- only to a woven kind more than x is passed on
  pub alone-passed : shape_at s p.on.link.kind ≢ Woven → (b ≡ a) × (xs ≡ x ∷ []) × (m ≡ n)
  alone-passed other = pick p.goes_on
    where
      pick : ((b ≡ a) × (xs ≡ x ∷ []) × (m ≡ n)) ⊎ ((shape_at s p.on.link.kind ≡ Woven) × ChangesNode a b i (Some p.on.passer) × (m ≡ n + 1))
          → (b ≡ a) × (xs ≡ x ∷ []) × (m ≡ n)
      pick (inl h) = h
      pick (inr h) = absurd (other h.0)

  -- with what is passed on put in, and the link set, x is in
  pub IsDone-relinked : (d : ArenaState) (r : Relinks s p.on.link.kind b d i p.on.link.place xs p.on.below) (deep : Option ℕ)
      → GoesDeep s b r.between p.on.below r.below.tree deep → IsDone s a d x t (deeper above deep)
  IsDone-relinked d r deep h =
      let sets : ChangesNode r.between d i (Some (record p.on.passer { links = slice_set p.on.passer.links p.on.link.place r.link })) =
      subst (λ o. IfSome o (λ q. ChangesNode r.between d i (Some (record q { links = slice_set q.links p.on.link.place r.link })))) p.on.there r.sets in
      p.lift r.between d r.below.tree r.link r.below.puts r.below.leads sets deep h

  -- x is in, once it is below a link that keeps its root
  pub IsDone-below : (c : ArenaState) (deep : Option ℕ) → xs ≡ x ∷ [] → IsDone s b c x p.on.below deep → IsDone s a c x t (deeper above deep)
  IsDone-below c deep one r =
      let link = slice_index_or p.on.passer.links p.on.link.place None in
      let kept : node_at c i ≡ Some p.on.passer =
      KeepsOutside-only b c p.on.below r.tree r.puts.only i (subst IsSome (sym p.on.there) refl) p.on.away ∙ p.on.there in
      let same : slice_set p.on.passer.links p.on.link.place link ≡ p.on.passer.links = set-get_or p.on.passer.links p.on.link.place None in
      let still : node_at c i ≡ Some (record p.on.passer { links = slice_set p.on.passer.links p.on.link.place link }) =
      kept ∙ ap (λ l. Some (record p.on.passer { links = l })) (sym same) in
      let puts : PutsAt s p.on.link.kind b c (x ∷ []) p.on.below r.tree =
      PutsAt-PutsIn s p.on.link.kind b c (x ∷ []) p.on.below r.tree r.puts p.on.conforms.hangs p.on.conforms.level in
      p.lift c c r.tree link (subst (λ l. PutsAt s p.on.link.kind b c l p.on.below r.tree) (sym one) puts) (r.same_root ∙ p.on.leads)
      (record { node = record { changed = still; others = λ j h. refl; most = refl; places = refl }; runs = refl }) deep r.goes

  -- a link by its place, and the number of its kind, as they were read at the node's kind
  pub hook-passed : (at_kind place kind : ℕ) → IfSome (node_at b i) (λ q. at_kind ≡ q.kind)
      → ((link : LinkPlace) → link_at (shape_at s at_kind) sd ≡ Some link → (place ≡ link.place) × (kind ≡ link.kind))
      → (place ≡ p.on.link.place) × (kind ≡ p.on.link.kind)
  hook-passed at_kind place kind h v =
      let e : at_kind ≡ p.on.passer.kind = subst (λ o. IfSome o (λ q. at_kind ≡ q.kind)) p.on.there h in
      v p.on.link (ap (λ k. link_at (shape_at s k) sd) e ∙ p.on.has_link)

  module _ (place kind : ℕ) (same : (place ≡ p.on.link.place) × (kind ≡ p.on.link.kind)) where
    -- the same of the link as it was read
    pub CanTake-hook : length (walk s t) ≤ 4294967295 → CanTake s kind b (link_in (node_at b i) place) xs p.on.below
    CanTake-hook few =
        let own : CanTake s p.on.link.kind b (link_in (node_at b i) place) xs p.on.below =
        subst (λ l. CanTake s p.on.link.kind b (link_in (node_at b i) l) xs p.on.below) (sym same.0) (CanTake-passed few) in
        subst (λ k. CanTake s k b (link_in (node_at b i) place) xs p.on.below) (sym same.1) own

    pub HasLinkAt-hook : IsSomeAnd (node_at b i) (HasLinkAt place)
    HasLinkAt-hook = subst (λ l. IsSomeAnd (node_at b i) (HasLinkAt l)) (sym same.0) HasLinkAt-passed

    other-hook : shape_at s kind ≢ Woven → shape_at s p.on.link.kind ≢ Woven
    other-hook other e = other (ap (shape_at s) same.1 ∙ e)

    pub IsLinked-hook : AreSound s → shape_at s kind ≢ Woven → IsLinked (shape_at s kind)
    IsLinked-hook sound other = subst (λ k. IsLinked (shape_at s k)) (sym same.1) (IsLinked-passed sound (other-hook other))

    pub alone-hook : shape_at s kind ≢ Woven → (b ≡ a) × (xs ≡ x ∷ []) × (m ≡ n)
    alone-hook other = alone-passed (other-hook other)

    relinked-hook : (d : ArenaState) → Relinks s kind b d i place xs p.on.below → Relinks s p.on.link.kind b d i p.on.link.place xs p.on.below
    relinked-hook d r =
        subst (λ l. Relinks s p.on.link.kind b d i l xs p.on.below) same.0 (subst (λ k. Relinks s k b d i place xs p.on.below) same.1 r)

    -- x is in, once what is passed on is in a woven structure
    pub IsDone-woven : shape_at s kind ≡ Woven → (d : ArenaState) → Relinks s kind b d i place xs p.on.below → IsDone s a d x t (deeper above (Some 0))
    IsDone-woven e d r =
        let weaves : shape_at s p.on.link.kind ≡ Woven = ap (shape_at s) (sym same.1) ∙ e in
        let own = relinked-hook d r in
        let before : spine s p.on.below ≡ 0 = spine-woven s p.on.link.kind p.on.below weaves p.on.conforms.hangs in
        let after : spine s own.below.tree ≡ 0 = spine-woven s p.on.link.kind own.below.tree weaves own.below.puts.hangs in
        IsDone-relinked d own (Some 0) (GoesDeep-told s b own.between p.on.below own.below.tree 0 (omega (arith, before, after)))

    empty-hook : link_in (node_at b i) place ≡ None → p.on.below ≡ absent done
    empty-hook none =
        let leads : roots p.on.below ≡ link_in (node_at b i) place ∷ [] =
        p.on.leads ∙ ap (λ o. link_in o p.on.link.place ∷ []) (sym p.on.there) ∙ ap (λ l. link_in (node_at b i) l ∷ []) (sym same.0) in
        empty-below p.on.below (leads ∙ ap (λ l. l ∷ []) none)

    -- x is in, once it is in a first node
    pub IsDone-empty : shape_at s kind ≢ Woven → link_in (node_at b i) place ≡ None → (d : ArenaState)
        → (r : Relinks s kind b d i place (x ∷ []) (absent done)) → spine s r.below.tree ≡ own_depth (shape_at s kind)
        → IsDone s a d x t (deeper above (Some (own_depth (shape_at s kind))))
    IsDone-empty other none d r deep =
        let one : xs ≡ x ∷ [] = (alone-hook other).1 in
        let none_below : p.on.below ≡ absent done = empty-hook none in
        let puts : PutsAt s p.on.link.kind b r.between xs p.on.below r.below.tree =
        subst (λ u. PutsAt s p.on.link.kind b r.between xs u r.below.tree) (sym none_below)
        (subst (λ l. PutsAt s p.on.link.kind b r.between l (absent done) r.below.tree) (sym one)
        (subst (λ k. PutsAt s k b r.between (x ∷ []) (absent done) r.below.tree) same.1 r.below.puts)) in
        let sets = subst (λ l. IfSome (node_at b i) (λ q. ChangesNode r.between d i (Some (record q { links = slice_set q.links l r.link })))) same.0 r.sets in
        let zero : spine s p.on.below ≡ 0 = ap (spine s) none_below in
        IsDone-relinked d
        (record { between = r.between; link = r.link; below = record { tree = r.below.tree; leads = r.below.leads; puts = puts }; sets = sets })
        (Some (own_depth (shape_at s kind))) (GoesDeep-told s b r.between p.on.below r.below.tree (own_depth (shape_at s kind)) (omega (arith, zero, deep)))

    root-hook : (root : ℕ) → link_in (node_at b i) place ≡ Some root → roots p.on.below ≡ Some root ∷ []
    root-hook root e =
        p.on.leads ∙ ap (λ o. link_in o p.on.link.place ∷ []) (sym p.on.there) ∙ ap (λ l. link_in (node_at b i) l ∷ []) (sym same.0) ∙ ap (λ l. l ∷ []) e

    -- x can be put in at the root to which the link leads
    pub CanPutIn-hook : shape_at s kind ≢ Woven → (root : ℕ) → link_in (node_at b i) place ≡ Some root → CanPutIn s b x root p.on.below
    CanPutIn-hook other root e =
        let one : xs ≡ x ∷ [] = (alone-hook other).1 in
        let lacks = subst (λ l. AllLack l (walk s p.on.below)) one p.can.lack in
        CanPutIn-root s p.on.link.kind b x root p.on.below (root-hook root e) p.on.stands p.on.once p.on.conforms lacks.0

    pub linked-hook : AreSound s → shape_at s kind ≢ Woven → (root : ℕ) → link_in (node_at b i) place ≡ Some root
        → IsSomeAnd (node_at b root) (λ q. IsLinked (shape_at s q.kind))
    linked-hook sound other root e =
        linked-root s p.on.link.kind b root p.on.below (root-hook root e) p.on.stands p.on.conforms (IsLinked-passed sound (other-hook other))

    -- x is in, once it is in below that root
    pub IsDone-linked : shape_at s kind ≢ Woven → (root : ℕ) → link_in (node_at b i) place ≡ Some root → (c : ArenaState) (deep : Option ℕ)
        → ((u : Trees) → CanPutIn s b x root u → IsDone s b c x u deep) → IsDone s a c x t (deeper above deep)
    IsDone-linked other root e c deep r = IsDone-below c deep (alone-hook other).1 (r p.on.below (CanPutIn-hook other root e))

-- a depth that is told is that of some node
pub deep-low : (s : List NodeKind) (a b : ArenaState) (x : Elem) (t : Trees) (deep : Option ℕ) → IsDone s a b x t deep → spine s t ≤ 96
    → IfSome deep (λ n. n ≤ 255)
deep-low s a b x t None r low = tt
deep-low s a b x t (Some n) r low = let l = r.puts.spine_low in let e : spine s r.tree ≡ max (spine s t) n = r.goes.deepens in omega (arith, l, e, low)

-- fewer than 2 to the 32 can be counted
pub few-counted : (n room : ℕ) → n ≤ room → room < 4294967296 → n ≤ 4294967295
few-counted n room l f = omega (arith, l, f)

-- a root determines its tree
pub CanPutIn-unique : (s : List NodeKind) (a : ArenaState) (x : Elem) (i : ℕ) (t u : Trees) → CanPutIn s a x i t → CanPutIn s a x i u → t ≡ u
CanPutIn-unique s a x i t u c d = trees_unique a t u c.stands d.stands (ap roots c.is ∙ sym (ap roots d.is))

-- the link as it was read
pub link-read : (o : Option NodeState) (place : ℕ) (link : Option ℕ) → IsSomeAnd o (HasLinkAt place)
    → IfSome o (λ q. link ≡ slice_index_or q.links place None) → link_in o place ≡ link
link-read None place link h e = absurd h
link-read (Some q) place link h e = sym e

-- ---- spare nodes

-- the spare nodes for an insertion are enough for what is passed on to a woven structure
pub HasSpareForAll-passed : (s : List NodeKind) (k count all len d spare : ℕ) → shape_at s k ≡ Woven → count ≤ 8 → all ≤ len → len < 2 ^ d
    → 1 + passed_to_woven s * d ≤ spare → HasSpareForAll count all spare
HasSpareForAll-passed s k count all len d spare e few less more room =
    let eight : passed_to_woven s * d ≡ 8 * d = ap (λ v. v * d) (passed-woven s k e) in
    let low : count * d ≤ 8 * d = mul-le-mul_right d few in
    record { digits = d; more = omega (arith, less, more); room = omega (arith, eight, low, room) }

-- and no more are taken of them
pub spare-passed : (s : List NodeKind) (k count d old new : ℕ) → shape_at s k ≡ Woven → count ≤ 8 → old ≤ new + count * d
    → old ≤ new + (1 + passed_to_woven s * d)
spare-passed s k count d old new e few fall =
    let eight : passed_to_woven s * d ≡ 8 * d = ap (λ v. v * d) (passed-woven s k e) in
    let low : count * d ≤ 8 * d = mul-le-mul_right d few in
    omega (arith, eight, low, fall)
