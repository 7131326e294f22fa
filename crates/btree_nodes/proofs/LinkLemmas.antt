-- What becomes of the tree at a link.
use Rattle.std.proofs.Common.{◌≡◌, ◌≤◌, ◌<◌, ◌+◌, ◌*◌, ◌^◌, ◌⊎◌, inl, inr, ℕ, zero, suc, List, [], ◌∷◌, ◌++◌, length, drop, Option, Some, None, refl, ap, ◌∙◌, sym, subst, arith, append-nil}
use Rattle.std.proofs.Math.Nat.{pow-le-pow_right}
use Rattle.node_arena.specs.declared.elements.Elem.{Elem}
use Rattle.node_arena.specs.declared.kinds.NodeKind.{NodeKind}
use Rattle.node_arena.specs.declared.kinds.Shape.TheVariants.{Woven}
use Rattle.node_arena.specs.Arenas.{ArenaState, NodeState, node_at, ChangesNode}
use Rattle.node_arena.specs.Kinds.{kind_at, shape_at}
use Rattle.node_arena.specs.Trees.{Trees, done, absent, node, roots, Stands, Avoids, IsReachedOnce, ChangesOnly}
use Rattle.node_arena.specs.Walks.{walk, walks, joined, weave}
use Rattle.node_arena.specs.Conforming.{height, spine, IsRising}
use Rattle.node_arena.specs.Rules.{AreSound, HasSoundLinks}
use Rattle.node_arena.specs.Insertions.{put_in, DifferInFew}
use Rattle.node_arena.proofs.ChangesLemmas.{ChangesOnly-change, ChangesOnly-then, DifferInFew-one, DifferInFew-then, DifferInFew-wider}
use Rattle.node_arena.proofs.FramesLemmas.{Stands-changed, Avoids-free}
use Rattle.node_arena.proofs.HeightsLemmas.{height-bound}
use Rattle.node_arena.proofs.PutInLemmas.{IsRising-put_in}
use Rattle.node_arena.proofs.RowsLemmas.{beside, roots-beside, walks-beside, Stands-beside, IsReachedOnce-beside}
use Rattle.node_arena.proofs.Uniqueness.{trees_unique}
use Rattle.btree_nodes.specs.Weaving.{IsRow, IsWovenKind, IsWovenTree}
use Rattle.btree_nodes.specs.Splits.{node_of}
use Rattle.btree_nodes.specs.Descents.{KeepsRoot, SplitsRoot}
use Rattle.btree_nodes.specs.Links.{CanPutAt, HasSpareFor, PutsUnder, WritesFewAt}
use Rattle.btree_nodes.proofs.RowLemmas.{IsRow-beside, IsRow-height, walks-one, IsApart-done, some_differs}
use Rattle.btree_nodes.proofs.SplitLemmas.{walk-node}
use Rattle.btree_nodes.proofs.ConformLemmas.{OneTree, one_tree, no-roots, Rooted, rooted-of, conform-of}

-- a power below a number that another power is above
pub pow-below : (h d n : ℕ) → 2 ^ h ≤ n → n < 2 ^ d → h < d
pow-below h d n l g = pick (below_cases h d)
  where
    below_cases : (h d : ℕ) → (h < d) ⊎ (d ≤ h)
    below_cases zero zero = inr (omega arith)
    below_cases zero (suc d) = inl (omega arith)
    below_cases (suc h) zero = inr (omega arith)
    below_cases (suc h) (suc d) = more (below_cases h d)
      where
        more : (h < d) ⊎ (d ≤ h) → (suc h < suc d) ⊎ (suc d ≤ suc h)
        more (inl e) = inl (omega arith)
        more (inr e) = inr (omega arith)

    pick : (h < d) ⊎ (d ≤ h) → h < d
    pick (inl e) = e
    pick (inr e) = let m : 2 ^ d ≤ 2 ^ h = pow-le-pow_right (omega arith) e in absurd (omega arith)

-- a woven kind of kinds that keep the rules
pub woven_kind : (s : List NodeKind) (k : ℕ) → AreSound s → shape_at s k ≡ Woven → IsWovenKind s k
woven_kind s k sound e =
    let links = subst (HasSoundLinks s (kind_at s k)) e (sound.links k) in
    record { shape = e; some = sound.some k; half = links.1; few = sound.few k }

-- a link that leads nowhere
bare : (t : Trees) → roots t ≡ None ∷ [] → t ≡ absent done
bare done e = cc
bare (absent t) e = ap absent (no-roots t (ap (λ (q : List (Option ℕ)). drop 1 q) e))
bare (node i k run ls t) e = cc

module _ (s : List NodeKind) (sound : AreSound s) (k : ℕ) (kind : IsWovenKind s k) (a : ArenaState) (x : Elem) (link : Option ℕ) (t : Trees)
    (can : CanPutAt s k a x link t) where
  -- what holds of its one tree holds of each tree at the link
  pub of_each : (P : Trees → Type 0) → P t → (u : Trees) → CanPutAt s k a x link u → P u
  of_each P h u c = subst P (trees_unique a t u can.stands c.stands (can.leads ∙ sym c.leads)) h

  -- the tree has no more levels than its number of elements allows
  pub low : 2 ^ height s t ≤ length (walk s t) + 1
  low = height-bound s sound k t kind.shape can.conforms.hangs can.conforms.level

  -- fewer levels than a number whose power is above the number of elements
  pub high : (d : ℕ) → length (walk s t) + 1 < 2 ^ d → height s t < d
  high d more = pow-below (height s t) d (length (walk s t) + 1) low more

  -- where no more spare nodes are taken than one more than the levels, no more are taken than the number of elements has digits
  pub spare-digits : (old new : ℕ) → old ≤ new + height s t + 1 → (u : Trees) → CanPutAt s k a x link u → (d : ℕ)
      → length (walk s u) + 1 < 2 ^ d → old ≤ new + d
  spare-digits old new l u c d more =
      let same : length (walk s u) ≡ length (walk s t) = of_each (λ v. length (walk s v) ≡ length (walk s t)) refl u c in
      let h : height s t < d = high d (omega arith) in
      omega arith

  -- another root, under which x is put in
  put : (b : ArenaState) (i h : ℕ) (run : List Elem) (links : Trees) → Stands b (node i k run links done) → IsReachedOnce (node i k run links done)
      → IsRow s k 1 h (node i k run links done) → walk s (node i k run links done) ≡ put_in x (walk s t)
      → ChangesOnly a b t (node i k run links done) → PutsUnder s k a b x t i
  put b i h run links stands once row is only =
      let up = IsRising-put_in x (walk s t) can.conforms.rising can.lacks in
      let c = conform-of s k kind h (node i k run links done) row refl (subst IsRising (sym is) up) in
      record {
        tree = node i k run links done;
        leads = refl;
        puts = record {
          stands = stands;
          once = once;
          hangs = c.0.hangs;
          level = c.0.level;
          spine_low = c.1 (1 + spine s t);
          walk_is = is;
          only = only;
        };
      }

  -- a first root
  pub started : (b : ArenaState) (new : ℕ) → link ≡ None → node_at a new ≡ None → ChangesNode a b new (Some (node_of k (x ∷ []) []))
      → PutsUnder s k a b x t new
  started b new none free ch =
      let no : t ≡ absent done = bare t (can.leads ∙ ap (λ l. l ∷ []) none) in
      let some : 1 ≤ (kind_at s k).lo = kind.some in
      let half : 2 * (kind_at s k).lo ≤ (kind_at s k).hi = kind.half in
      put b new 1 (x ∷ []) done (ch.node.changed, tt, tt) (tt, tt, tt, tt, tt) (refl, omega arith, omega arith, inl refl, refl, tt, tt)
      (walk-node s new k (x ∷ []) done kind.shape ∙ ap (λ u. put_in x (walk s u)) (sym no))
      (subst (λ u. ChangesOnly a b u (node new k (x ∷ []) done done)) (sym no)
      (ChangesOnly-change a b (absent done) (node new k (x ∷ []) done done) new (Some (node_of k (x ∷ []) [])) ch (λ w. w.0 refl) (λ j w. tt)
      (λ j h v. (some_differs a j new h free, tt, tt))))

  -- one node was written
  pub few-started : (b : ArenaState) (new : ℕ) (slot : Option NodeState) (old now : ℕ) → ChangesNode a b new slot → now ≡ old + 1
      → WritesFewAt s a b t old now
  few-started b new slot old now ch e = record {
    low = low;
    steps = omega arith;
    differ = DifferInFew-wider 1 (2 * height s t + 1) a b (omega arith) (DifferInFew-one a b new slot ch);
  }

  -- the descent alone wrote nodes
  pub few-kept : (b : ArenaState) (old now : ℕ) → DifferInFew (2 * height s t) a b → now ≤ old + 2 * height s t → WritesFewAt s a b t old now
  few-kept b old now d e = record {
    low = low;
    steps = omega arith;
    differ = DifferInFew-wider (2 * height s t) (2 * height s t + 1) a b (omega arith) d;
  }

  -- and a new root was written
  pub few-raised : (b c : ArenaState) (new : ℕ) (slot : Option NodeState) (old now : ℕ) → DifferInFew (2 * height s t) a b → ChangesNode b c new slot
      → now ≤ old + 2 * height s t + 1 → WritesFewAt s a c t old now
  few-raised b c new slot old now d ch e = record {
    low = low;
    steps = e;
    differ = DifferInFew-then (2 * height s t) 1 a b c d (DifferInFew-one b c new slot ch);
  }

  module _ (i : ℕ) (named : link ≡ Some i) where
    leads : roots t ≡ Some i ∷ []
    leads = can.leads ∙ ap (λ l. l ∷ []) named

    root : Rooted s k kind i t
    root = rooted-of s k kind i t leads can.conforms

    -- the descent may begin
    pub woven : (kind_at s k).hi ≤ a.nodes.most → HasSpareFor (length (walk s t)) a.nodes.spare → IsWovenTree s k a i 32 t
    woven most spare =
        let room = spare.room in
        let few = can.few in
        let h : height s t < spare.digits = high spare.digits spare.more in
        let g : height s t < 32 = high 32 (omega arith) in
        record {
          run = root.run;
          links = root.links;
          is = root.is;
          kind = kind;
          most = most;
          stands = can.stands;
          once = can.once;
          row = root.row;
          rising = can.conforms.rising;
          low = omega arith;
          room = omega arith;
        }

    -- the root is kept
    pub kept : (b : ArenaState) → KeepsRoot s k a b x t → PutsUnder s k a b x t i
    kept b r =
        let row : IsRow s k 1 (height s t) r.tree = r.row 1 kind.some root.row in
        let one : OneTree k i r.tree = one_tree s k 1 (height s t) i r.tree row (r.same_roots ∙ leads) in
        put b i (height s t) one.run one.links (subst (Stands b) one.is r.stands) (subst IsReachedOnce one.is r.once)
        (subst (IsRow s k 1 (height s t)) one.is row) (ap (walk s) (sym one.is) ∙ r.walk_is) (subst (ChangesOnly a b t) one.is r.only)

    -- a new root over two trees
    pub raised : (b c : ArenaState) (up : Elem) (right new : ℕ) → SplitsRoot s k a b x t up right → node_at b new ≡ None
        → ChangesNode b c new (Some (node_of k (up ∷ []) (Some i ∷ Some right ∷ []))) → PutsUnder s k a c x t new
    raised b c up right new r free ch =
        let two : Trees = beside r.lower r.upper in
        let first : roots r.lower ≡ Some i ∷ [] = r.same_roots ∙ leads in
        let pair : roots two ≡ Some i ∷ Some right ∷ [] = roots-beside r.lower r.upper ∙ ap (λ q. q ++ roots r.upper) first
        ∙ ap (λ q. Some i ∷ q) r.right_root in
        let stands : Stands b two = Stands-beside b r.lower r.upper r.stands.0 r.stands.1 in
        let once : IsReachedOnce two = IsReachedOnce-beside r.lower r.upper r.once.0 r.once.1 r.once.2 in
        let away : Avoids new two = Avoids-free b two new free stands in
        let line : IsRow s k (kind_at s k).lo (height s t) two =
        IsRow-beside s k (kind_at s k).lo (height s t) r.lower r.upper r.row.0 r.row.1 in
        let count : length (roots two) ≡ 2 = ap length pair in
        let high : height s two ≡ height s t = IsRow-height s k (kind_at s k).lo (height s t) two line (omega arith) in
        let some : 1 ≤ (kind_at s k).lo = kind.some in
        let half : 2 * (kind_at s k).lo ≤ (kind_at s k).hi = kind.half in
        let is : walk s (node new k (up ∷ []) two done) ≡ put_in x (walk s t) =
        walk-node s new k (up ∷ []) two kind.shape
        ∙ ap (λ v. joined (weave (up ∷ []) v)) (walks-beside s r.lower r.upper ∙ ap (λ v. v ++ walks s r.upper) (walks-one s r.lower i first)
        ∙ ap (λ v. walk s r.lower ∷ v) (walks-one s r.upper right r.right_root))
        ∙ ap (λ v. walk s r.lower ++ up ∷ v) (append-nil (walk s r.upper))
        ∙ r.walk_is in
        put c new (1 + height s two) (up ∷ []) two
        (ch.node.changed ∙ ap (λ q. Some (node_of k (up ∷ []) q)) (sym pair), Stands-changed two ch away stands, tt)
        (away, tt, IsApart-done two, once, tt)
        (refl, omega arith, omega arith, inr count, refl, subst (λ h. IsRow s k (kind_at s k).lo h two) (sym high) line, tt)
        is
        (ChangesOnly-then a b c t two (node new k (up ∷ []) two done) r.only
        (ChangesOnly-change b c two (node new k (up ∷ []) two done) new (Some (node_of k (up ∷ []) (Some i ∷ Some right ∷ []))) ch (λ w. w.0 refl) (λ j w. w.1)
        (λ j h v. (some_differs b j new h free, v, tt))))
