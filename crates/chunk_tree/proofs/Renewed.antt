-- A structure that was built anew, and whose old nodes were freed.
use Rattle.std.proofs.Common.{◌≡◌, ◌≢◌, ◌≤◌, ◌<◌, ◌+◌, ◌*◌, ◌^◌, ℕ, zero, suc, List, [], ◌∷◌, length, None, refl, ap, ◌∙◌, sym, subst, arith, slice_index_or}
use Rattle.std.proofs.Math.Nat.{two-pow-succ}
use Rattle.node_arena.specs.declared.elements.Elem.{Elem}
use Rattle.node_arena.specs.declared.elements.Structure.{Structure}
use Rattle.node_arena.specs.declared.kinds.NodeKind.{NodeKind}
use Rattle.node_arena.specs.declared.kinds.Shape.TheVariants.{Flat}
use Rattle.node_arena.specs.Arenas.{ArenaState, node_at, run_at}
use Rattle.node_arena.specs.Conforming.{IsRising, spine, spine_by}
use Rattle.node_arena.specs.Insertions.{Misses}
use Rattle.node_arena.specs.Kinds.{shape_at}
use Rattle.node_arena.specs.Structures.{Tree, empty, rooted, flat, links_of, walk_of, spine_of, ConformTree, HaveOwnRuns, AreApart, Keeps, IsStructure}
use Rattle.node_arena.specs.Trees.{Trees, done, absent, node, IsApart}
use Rattle.node_arena.proofs.ChangesLemmas.{Keeps-same, TakesNew-same}
use Rattle.node_arena.proofs.HeightsLemmas.{pow-below}
use Rattle.node_arena.proofs.StructuresLemmas.{IsStanding-outside, AreApart-new, AreApart-flip}
use Rattle.bulk_build.specs.Building.{IsBuilt}
use Rattle.chunk_tree.specs.Balancing.{IsRebalanced}
use Rattle.chunk_tree.specs.Numbering.{AreNodes, AreNumbersOf}
use Rattle.chunk_tree.proofs.Listing.{HasNode-avoided, AreNodes-kept}

-- ---- kinds

-- a kind with links is one of the kinds
pub declared-kind : (s : List NodeKind) (k : ℕ) → shape_at s k ≢ Flat → k < length s
declared-kind [] k f = absurd (f refl)
declared-kind (x ∷ s) zero f = omega arith
declared-kind (x ∷ s) (suc k) f = let ih : k < length s = declared-kind s k f in omega arith

-- ---- powers of two

-- a spine of at most the binary digits of a number of 32 digits
pub spine-few : (n len : ℕ) → 2 ^ n ≤ 2 * len + 1 → len < 4294967296 → n ≤ 32
spine-few n len low few = let l : n < 33 = pow-below n 33 (omega arith) in omega arith

-- where 2 to d is above a number, a spine that is low enough isn't above d
pub spine-within : (n d len : ℕ) → 2 ^ n ≤ 2 * len + 1 → len < 2 ^ d → n ≤ d
spine-within n d len low above =
    let e : 2 ^ suc d ≡ 2 ^ d + 2 ^ d = two-pow-succ d in
    let l : n < suc d = pow-below n (suc d) (omega arith) in
    omega arith

-- ---- the structure as it is

module _ (s : List NodeKind) (k : ℕ) (a : ArenaState) (st : Structure) (t : Tree) (h : IsStructure s k a st t) where
  -- the structure, with a spine that is low enough
  pub as-it-is : (new : Structure) → new.top ≡ st.top → new.len ≡ st.len → spine_of s t ≤ new.spine → 2 ^ new.spine ≤ 2 * st.len + 1 → new.spine ≤ 32
      → IsRebalanced s k a a st t new
  as-it-is new top len kept low few = record {
    tree = t;
    holds = record {
      stands = record {
        top = top ∙ h.stands.top;
        nodes = h.stands.nodes;
        once = h.stands.once;
        run = h.stands.run;
        counted = h.stands.counted ∙ sym len;
      };
      conforms = record { tree = h.conforms.tree; spine_kept = kept; spine_low = omega arith };
    };
    walk_is = refl;
    len_is = len;
    spine_low = low;
    spine_few = few;
    keeps = Keeps-same a t;
    news = TakesNew-same a t;
    nodes = record { gone = λ i g v. absurd (HasNode-avoided i (links_of t) g v); others = λ i v w. refl };
  }

-- a structure whose root has no two links has no spine
pub level-spine : (s : List NodeKind) (k : ℕ) (t : Tree) → ConformTree s k t → ((n : ℕ) → spine_by (shape_at s k) n ≡ 0) → spine_of s t ≡ 0
level-spine s k empty c none = refl
level-spine s k (flat i run) c none = refl
level-spine s k (rooted i m run ls) c none =
    let e : spine_by (shape_at s m) (spine s ls) ≡ 0 = ap (λ j. spine_by (shape_at s j) (spine s ls)) c.1.hangs.0 ∙ none (spine s ls) in
    omega arith

-- ---- built anew

rising-walk : (s : List NodeKind) (k : ℕ) (t : Tree) → ConformTree s k t → IsRising (walk_of s t)
rising-walk s k empty c = tt
rising-walk s k (flat i run) c = c.2
rising-walk s k (rooted i m run ls) c = c.1.rising

nothing-apart : (t : Trees) → IsApart t (absent done)
nothing-apart done = tt
nothing-apart (absent t) = nothing-apart t
nothing-apart (node i k run ls t) = (tt, nothing-apart ls, nothing-apart t)

own-run : (t : Tree) → HaveOwnRuns t empty
own-run empty = tt
own-run (rooted i k run ls) = tt
own-run (flat i run) = tt

module _ (s : List NodeKind) (k : ℕ) (a b : ArenaState) (es : List Elem) (st new : Structure) (t : Tree) (linked : shape_at s k ≢ Flat)
    (h : IsStructure s k a st t) (same : es ≡ walk_of s t) where
  -- the elements rise
  pub rising-elems : IsRising es
  rising-elems = subst IsRising (sym same) (rising-walk s k t h.conforms.tree)

  -- there are as many as the structure has
  pub counted-elems : length es ≡ st.len
  counted-elems = ap length same ∙ h.stands.counted

  module _ (l : IsBuilt s k a b es new) (ids : List ℕ) (n : AreNumbersOf a (links_of t) ids) where
    -- the old nodes are still there
    pub still-nodes : AreNodes b ids
    still-nodes = AreNodes-kept a b ids (λ i some. l.keeps.nodes i some tt) n.nodes

    -- the old nodes are freed
    pub renewed : (c : ArenaState) → ((i : ℕ) → (Misses i ids → ⊥) → node_at c i ≡ None) → ((i : ℕ) → Misses i ids → node_at c i ≡ node_at b i)
        → c.runs ≡ b.runs → b.runs ≡ a.runs → st.len < 4294967296 → IsRebalanced s k a c st t new
    renewed c gone others runs kept few =
        let walk_is : walk_of s l.tree ≡ walk_of s t = l.walk_is ∙ same in
        let len : length es ≡ st.len = counted-elems in
        let low : 2 ^ new.spine ≤ 2 * length es + 1 = l.spine_low in
        let run_same : (i : ℕ) → run_at c i ≡ run_at b i = λ i. ap (λ r. slice_index_or r.slots i None) runs in
        let apart : AreApart l.tree t = AreApart-flip t l.tree
        (AreApart-new s a st empty l.tree t l.news h.stands (record { nodes = nothing-apart (links_of t); runs = own-run t })) in
        let freed : Keeps b c t = record { nodes = λ i some v. others i (n.only i v); runs = λ i some v. run_same i } in
        record {
          tree = l.tree;
          holds = record { stands = IsStanding-outside s b c new t l.tree freed apart l.stands; conforms = l.conforms };
          walk_is = walk_is;
          len_is = sym l.stands.counted ∙ ap length walk_is ∙ h.stands.counted;
          spine_low = omega arith;
          spine_few = spine-few new.spine st.len (omega arith) few;
          keeps = record {
            nodes = λ i some v. others i (n.only i v) ∙ l.keeps.nodes i some tt;
            runs = λ i some v. run_same i ∙ ap (λ r. slice_index_or r.slots i None) kept;
          };
          news = record { nodes = λ i some v. l.news.nodes i some tt; runs = λ i some v. l.news.runs i some tt };
          nodes = record {
            gone = λ i g v. gone i (λ m. HasNode-avoided i (links_of t) g (n.all i m));
            others = λ i v w. others i (n.only i v) ∙ l.other_nodes i w;
          };
        }
