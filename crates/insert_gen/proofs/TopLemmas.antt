-- A whole structure with an element put in.
use Rattle.std.proofs.Common.{◌≡◌, ◌≢◌, ◌≤◌, ◌<◌, ◌+◌, ◌*◌, ◌^◌, ◌⊎◌, inl, inr, ℕ, suc, Bool, true, false, max, List, [], ◌∷◌, length, Option, Some}
use Rattle.std.proofs.Common.{None, refl, ap, ◌∙◌, sym, subst, arith}
use Rattle.std.proofs.Math.Nat.{two-pow-succ}
use Rattle.std.proofs.lemmas.Nat.{pow_pos}
use Rattle.std.specs.Option.{IsSomeAnd}
use Rattle.node_arena.specs.declared.elements.Elem.{Elem}
use Rattle.node_arena.specs.declared.elements.Structure.{Structure}
use Rattle.node_arena.specs.declared.elements.Top.TheVariants as tops
use Rattle.node_arena.specs.declared.kinds.NodeKind.{NodeKind}
use Rattle.node_arena.specs.declared.kinds.Shape.{Shape}
use Rattle.node_arena.specs.declared.kinds.Shape.TheVariants.{Flat, Post, Ends, Woven}
use Rattle.node_arena.specs.Arenas.{ArenaState, node_at}
use Rattle.node_arena.specs.Conforming.{Conform, spine}
use Rattle.node_arena.specs.Insertions.{Lacks, IsPutIn}
use Rattle.node_arena.specs.Kinds.{shape_at}
use Rattle.node_arena.specs.Passing.{CanPutIn, PutsAt, Deepens, IsDone, PushesDown}
use Rattle.node_arena.specs.Structures.{Tree, empty, rooted, flat, links_of, walk_of, spine_of, IsStanding, IsConforming}
use Rattle.node_arena.specs.Trees.{Trees, done, absent, node, roots, Stands}
use Rattle.node_arena.specs.Walks.{walk}
use Rattle.node_arena.proofs.ChangesLemmas.{ChangesOnlyTree-nodes}
use Rattle.node_arena.proofs.InsertionsLemmas.{Conform-PutsAt, IsPutIn-node}
use Rattle.node_arena.proofs.StructuresLemmas.{tree_unique}
use Rattle.node_arena.proofs.Uniqueness.{trees_unique}
use Rattle.insert_gen.specs.Below.{IsLinked, own_depth, IsEnough, PutsBelow, IsFirst}
use Rattle.insert_gen.specs.Inserting.{has_ends, raised, KeepsLow}
use Rattle.insert_gen.specs.Needs.{passed_to_woven, nodes_for, WantsNodes}
use Rattle.insert_gen.proofs.BelowLemmas.{CanPutIn-root, linked-root}
use Rattle.insert_gen.proofs.SpineLemmas.{spine-none}

-- ---- kept spines

-- a spine to be kept: as it was where no kind has two links, else raised by the depth
pub record IsRaised (s : List NodeKind) (kept v : ℕ) (deep : Option ℕ) : Type 0 where
  pub low : has_ends s ≡ true → kept < 96
  pub none : has_ends s ≡ false → v ≡ kept
  pub ends : has_ends s ≡ true → v ≡ raised kept deep

-- it is at least the new spine, at most one more than before, and no higher than the new spine where the depth is told
pub record Fits (s : List NodeKind) (kept v new : ℕ) (deep : Option ℕ) : Type 0 where
  pub enough : new ≤ v
  pub low : v ≤ 96
  pub one : v ≤ kept + 1
  pub told : (v ≤ max kept new) ⊎ (deep ≡ None)

fits-told : (s : List NodeKind) (kept old new v : ℕ) (deep : Option ℕ) → Deepens deep old new → new ≤ 1 + old → old ≤ kept → kept < 96
    → v ≡ raised kept deep → Fits s kept v new deep
fits-told s kept old new v None h one low less e =
    record { enough = omega (arith, h, low, e); low = omega (arith, less, e); one = omega (arith, e); told = inr refl }
fits-told s kept old new v (Some d) h one low less e = record {
  enough = omega (arith, h, low, e);
  low = omega (arith, h, one, low, less, e);
  one = omega (arith, h, one, low, e);
  told = inl (omega (arith, h, e));
}

fits : (s : List NodeKind) (kept v : ℕ) (t u : Trees) (deep : Option ℕ) → Deepens deep (spine s t) (spine s u) → spine s u ≤ 1 + spine s t
    → spine s t ≤ kept → kept ≤ 96 → IsRaised s kept v deep → Fits s kept v (spine s u) deep
fits s kept v t u deep h one low most r = decide (has_ends s) refl
  where
    decide : (b : Bool) → has_ends s ≡ b → Fits s kept v (spine s u) deep
    decide true e = fits-told s kept (spine s t) (spine s u) v deep h one low (r.low e) (r.ends e)
    decide false e =
        let zero : spine s u ≡ 0 = spine-none s u e in
        let same : v ≡ kept = r.none e in
        record {
          enough = omega (arith, zero);
          low = omega (arith, same, most);
          one = omega (arith, same);
          told = inl (omega (arith, same));
        }

-- ---- the root

linked-other : (sh : Shape) → IsLinked sh → sh ≢ Flat
linked-other Flat h e = absurd h
linked-other (Post p) h e = cc
linked-other (Ends p q) h e = cc
linked-other Woven h e = absurd h

head-same : (x y : Option ℕ) (xs ys : List (Option ℕ)) → x ∷ xs ≡ y ∷ ys → x ≡ y
head-same x y xs ys e = cc

number-same : (i j : ℕ) → Some i ≡ Some j → i ≡ j
number-same i j e = cc

node-same : (i j : ℕ) → tops.Node i ≡ tops.Node j → i ≡ j
node-same i j e = cc

-- x can be put in below the root of a structure
pub CanPutIn-top : (s : List NodeKind) (k : ℕ) (a : ArenaState) (st : Structure) (t : Tree) (x : Elem) (i : ℕ) → IsStanding s a st t
    → IsConforming s k st t → Lacks x.at (walk_of s t) → st.top ≡ tops.Node i
    → CanPutIn s a x i (links_of t) × (length (walk s (links_of t)) ≤ st.len)
CanPutIn-top s k a st empty x i h c lacks top = let e = sym h.top ∙ top in cc
CanPutIn-top s k a st (flat j run) x i h c lacks top = let e = sym h.top ∙ top in cc
CanPutIn-top s k a st (rooted j m run ls) x i h c lacks top =
    let same : j ≡ i = node-same j i (sym h.top ∙ top) in (
      CanPutIn-root s k a x i (node j m run ls done) (ap (λ n. Some n ∷ []) same) h.nodes h.once c.tree.1 lacks,
      omega (arith, h.counted),
    )

-- the root has links
pub linked-top : (s : List NodeKind) (k : ℕ) (a : ArenaState) (st : Structure) (t : Tree) (i : ℕ) → IsStanding s a st t
    → IsConforming s k st t → IsLinked (shape_at s k) → st.top ≡ tops.Node i → IsSomeAnd (node_at a i) (λ n. IsLinked (shape_at s n.kind))
linked-top s k a st empty i h c linked top = let e = sym h.top ∙ top in cc
linked-top s k a st (flat j run) i h c linked top = let e = sym h.top ∙ top in cc
linked-top s k a st (rooted j m run ls) i h c linked top =
    let same : j ≡ i = node-same j i (sym h.top ∙ top) in
    linked-root s k a i (node j m run ls done) (ap (λ n. Some n ∷ []) same) h.nodes c.tree.1 linked

-- ---- what it becomes

-- the kept spine of the new structure is low, where that of its tree is told
keeps-low : (s : List NodeKind) (a b : ArenaState) (st new : Structure) (u : Trees) (i : ℕ) (deep : Option ℕ) → Stands b u → roots u ≡ Some i ∷ []
    → new.top ≡ tops.Node i → IsRaised s st.spine new.spine deep → Fits s st.spine new.spine (spine s u) deep → (r0 : Trees)
    → ((t : Tree) → IsStanding s a st t → links_of t ≡ r0) → (deep ≡ None → PushesDown a b r0 u) → KeepsLow s a b st new
keeps-low s a b st new u i deep stands root top r f r0 old told = record { one = f.one; none = r.none; told = λ t v h g. pick t v h g f.told }
  where
    links-same : (t : Tree) → IsStanding s b new t → roots (links_of t) ≡ roots u
    links-same empty h = let e = sym h.top ∙ top in cc
    links-same (flat j run) h = let e = sym h.top ∙ top in cc
    links-same (rooted j m run ls) h = ap (λ n. Some n ∷ []) (node-same j i (sym h.top ∙ top)) ∙ sym root

    pick : (t v : Tree) → IsStanding s a st t → IsStanding s b new v → (new.spine ≤ max st.spine (spine s u)) ⊎ (deep ≡ None)
        → (new.spine ≤ max st.spine (spine_of s v)) ⊎ PushesDown a b (links_of t) (links_of v)
    pick t v g h (inl l) =
        let same : links_of v ≡ u = trees_unique b (links_of v) u h.nodes stands (links-same v h) in
        inl (subst (λ w. new.spine ≤ max st.spine (spine s w)) (sym same) l)
    pick t v g h (inr e) =
        let same : links_of v ≡ u = trees_unique b (links_of v) u h.nodes stands (links-same v h) in
        inr (subst (λ w. PushesDown a b w (links_of v)) (sym (old t g)) (subst (PushesDown a b r0) (sym same) (told e)))

module _ (s : List NodeKind) (k : ℕ) (a b : ArenaState) (x : Elem) (st new : Structure) (i : ℕ) where
  -- x is put in below the root
  pub put-linked : (t : Tree) (deep : Option ℕ) → b.runs ≡ a.runs → IsStanding s a st t → IsConforming s k st t → Lacks x.at (walk_of s t)
      → st.top ≡ tops.Node i → IsDone s a b x (links_of t) deep
      → new.top ≡ tops.Node i → new.len ≡ st.len + 1 → IsRaised s st.spine new.spine deep
      → IsPutIn s k a b x t new × KeepsLow s a b st new
  put-linked empty deep runs h c lacks old r top len raise = let e = sym h.top ∙ old in cc
  put-linked (flat j run) deep runs h c lacks old r top len raise = let e = sym h.top ∙ old in cc
  put-linked (rooted j m run ls) deep runs h c lacks old r top len raise =
      let same : j ≡ i = node-same j i (sym h.top ∙ old) in
      let root : roots r.tree ≡ Some i ∷ [] = r.same_root ∙ ap (λ n. Some n ∷ []) same in
      let f = fits s st.spine new.spine (node j m run ls done) r.tree deep r.goes.deepens r.puts.spine_low c.spine_kept c.spine_low raise in (
        IsPutIn-node s k a b x st new j m run ls i r.tree runs h c lacks r.puts root top len f.enough f.low,
        keeps-low s a b st new r.tree i deep r.puts.stands root top raise f (node j m run ls done)
            (λ t g. ap links_of (tree_unique s a st t (rooted j m run ls) g h)) r.goes.pushes,
      )

  first-tree : (u : Trees) (p : PutsBelow s k a b (x ∷ []) (absent done) (Some i)) → p.tree ≡ u → b.runs ≡ a.runs → st.len ≡ 0
      → shape_at s k ≢ Flat → new.top ≡ tops.Node i → new.len ≡ st.len + 1 → spine s u ≤ new.spine → new.spine ≤ 96 → IsPutIn s k a b x empty new
  first-tree done p e runs none other top len enough low = let root = ap roots (sym e) ∙ p.leads in cc
  first-tree (absent u) p e runs none other top len enough low = let root = ap roots (sym e) ∙ p.leads in cc
  first-tree (node j m run ls (absent u)) p e runs none other top len enough low = let root = ap roots (sym e) ∙ p.leads in cc
  first-tree (node j m run ls (node g n r gs u)) p e runs none other top len enough low = let root = ap roots (sym e) ∙ p.leads in cc
  first-tree (node j m run ls done) p e runs none other top len enough low =
      let u = node j m run ls done in
      let root : roots u ≡ Some i ∷ [] = ap roots (sym e) ∙ p.leads in
      let same : j ≡ i = number-same j i (head-same (Some j) (Some i) [] [] root) in
      let puts : PutsAt s k a b (x ∷ []) (absent done) u = subst (PutsAt s k a b (x ∷ []) (absent done)) e p.puts in
      let count : length (walk s u) ≡ 1 = ap length puts.walk_is in
      let bare : Conform s k (absent done) = record { hangs = (refl, refl); level = tt; low = omega arith; rising = tt } in
      let conform : Conform s k u = Conform-PutsAt s k a b (x ∷ []) (absent done) u puts bare (omega (arith, enough, low)) tt (tt, tt) in
      record {
        tree = rooted j m run ls;
        stands = record {
          top = top ∙ ap tops.Node (sym same);
          nodes = puts.stands;
          once = puts.once;
          run = tt;
          counted = omega (arith, count, len, none);
        };
        conforms = record { tree = (other, conform); spine_kept = enough; spine_low = low };
        walk_is = puts.walk_is;
        only = ChangesOnlyTree-nodes a b empty (rooted j m run ls) puts.only runs (λ r. tt) (λ r. tt);
      }

  -- x is the first element
  pub put-first : (t : Tree) → b.runs ≡ a.runs → IsStanding s a st t → IsConforming s k st t → IsLinked (shape_at s k)
      → ((n : ℕ) → st.top ≢ tops.Node n) → IsFirst s k a b x i → new.top ≡ tops.Node i → new.len ≡ st.len + 1
      → IsRaised s st.spine new.spine (Some (own_depth (shape_at s k))) → IsPutIn s k a b x t new × KeepsLow s a b st new
  put-first (rooted j m run ls) runs h c linked apart f top len raise = absurd (apart j h.top)
  put-first (flat j run) runs h c linked apart f top len raise = absurd (linked-other (shape_at s k) linked c.tree.0)
  put-first empty runs h c linked apart f top len raise =
      let p = f.below in
      let deep : Deepens (Some (own_depth (shape_at s k))) 0 (spine s p.tree) = omega (arith, f.deep) in
      let fit = fits s st.spine new.spine (absent done) p.tree (Some (own_depth (shape_at s k))) deep p.puts.spine_low c.spine_kept c.spine_low raise in
      let told : Some (own_depth (shape_at s k)) ≡ None → PushesDown a b (absent done) p.tree = λ e. cc in
      let bound : 0 ≡ st.len = h.counted in (
        first-tree p.tree p refl runs (sym bound) (linked-other (shape_at s k) linked) top len fit.enough fit.low,
        keeps-low s a b st new p.tree i (Some (own_depth (shape_at s k))) p.puts.stands p.leads top raise fit (absent done)
            (λ t g. ap links_of (tree_unique s a st t empty g h)) told,
      )

-- ---- spare nodes

nodes_for-linked : (s : List NodeKind) (sh : Shape) (d : ℕ) → IsLinked sh → nodes_for s sh d ≡ 1 + passed_to_woven s * d
nodes_for-linked s Flat d h = absurd h
nodes_for-linked s (Post p) d h = refl
nodes_for-linked s (Ends p q) d h = refl
nodes_for-linked s Woven d h = absurd h

-- the nodes that are wanted are enough
pub IsEnough-wanted : (s : List NodeKind) (k len n spare : ℕ) → IsLinked (shape_at s k) → WantsNodes s k len n → n ≤ spare → IsEnough s len spare
IsEnough-wanted s k len n spare linked w low =
    let e : nodes_for s (shape_at s k) w.0 ≡ 1 + passed_to_woven s * w.0 = nodes_for-linked s (shape_at s k) w.0 linked in
    record { digits = w.0; more = w.1.0; room = omega (arith, e, w.2, low) }

-- no more are taken than are wanted
pub spare-wanted : (s : List NodeKind) (k len n old new : ℕ) → IsLinked (shape_at s k)
    → ((d : ℕ) → len < 2 ^ d → old ≤ new + (1 + passed_to_woven s * d)) → WantsNodes s k len n → old ≤ new + n
spare-wanted s k len n old new linked falls w =
    let e : nodes_for s (shape_at s k) w.0 ≡ 1 + passed_to_woven s * w.0 = nodes_for-linked s (shape_at s k) w.0 linked in
    let f : old ≤ new + (1 + passed_to_woven s * w.0) = falls w.0 w.1.0 in
    omega (arith, e, w.2, f)

-- where one is taken, no more are taken than are wanted
pub one-wanted : (s : List NodeKind) (k len n old new : ℕ) → IsLinked (shape_at s k) → new + 1 ≡ old → WantsNodes s k len n → old ≤ new + n
one-wanted s k len n old new linked one w =
    let e : nodes_for s (shape_at s k) w.0 ≡ 1 + passed_to_woven s * w.0 = nodes_for-linked s (shape_at s k) w.0 linked in
    omega (arith, e, w.2, one)

-- the spine that is kept
pub raise-of : (s : List NodeKind) (kept v n : ℕ) (deep : Option ℕ) → v ≡ n → (has_ends s ≡ true → kept < 96) → (has_ends s ≡ false → n ≡ kept)
    → (has_ends s ≡ true → n ≡ raised kept deep) → IsRaised s kept v deep
raise-of s kept v n deep e low none ends = record { low = low; none = λ h. e ∙ none h; ends = λ h. e ∙ ends h }

-- ---- a woven root

-- the nodes that are wanted are enough for each level and a new root
pub woven-wanted : (s : List NodeKind) (k len n spare : ℕ) → shape_at s k ≡ Woven → WantsNodes s k len n → n ≤ spare
    → (d : ℕ) × (len + 1 < 2 ^ d) × (d ≤ spare)
woven-wanted s k len n spare e w low =
    let d = w.0 in
    let wanted : nodes_for s (shape_at s k) d ≡ 1 + d = ap (λ sh. nodes_for s sh d) e in
    let two : 2 ^ suc d ≡ 2 ^ d + 2 ^ d = two-pow-succ d in
    let some : 0 < 2 ^ d = pow_pos d in
    (suc d, omega (arith, two, some, w.1.0), omega (arith, wanted, w.2, low))

-- and no more are taken
pub spare-woven : (s : List NodeKind) (k len n old new : ℕ) → shape_at s k ≡ Woven → ((d : ℕ) → len + 1 < 2 ^ d → old ≤ new + d) → WantsNodes s k len n
    → old ≤ new + n
spare-woven s k len n old new e falls w =
    let room = woven-wanted s k len n n e w (omega arith) in
    let fall : old ≤ new + room.0 = falls room.0 room.1 in
    omega (arith, fall, room.2)
