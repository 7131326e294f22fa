-- A node with two links of which one leads to another tree, and maybe with another run.
use Rattle.std.proofs.Common.{◌≡◌, ◌≤◌, ◌+◌, ℕ, max, List, [], ◌∷◌, Some, ◌∙◌, sym, arith}
use Rattle.node_arena.specs.declared.elements.Elem.{Elem}
use Rattle.node_arena.specs.declared.kinds.NodeKind.{NodeKind}
use Rattle.node_arena.specs.declared.kinds.Shape.TheVariants.{Ends}
use Rattle.node_arena.specs.Arenas.{ArenaState, ChangesNode}
use Rattle.node_arena.specs.Conforming.{Hang, whole, IsLevel, spine}
use Rattle.node_arena.specs.Insertions.{PutsIn, all_put_in}
use Rattle.node_arena.specs.Kinds.{shape_at}
use Rattle.node_arena.specs.Trees.{Trees, done, node, stored, Stands, Avoids, IsApart, IsReachedOnce, TakesFree, ChangesOnly}
use Rattle.node_arena.specs.Walks.{walk}
use Rattle.node_arena.proofs.ChangesLemmas.{KeepsOutside-only}
use Rattle.node_arena.proofs.FramesLemmas.{Stands-changed, Stands-outside, IsApart-done}
use Rattle.node_arena.proofs.RowsLemmas.{beside, beside-Stands, Stands-beside, beside-Avoids, Avoids-beside, beside-IsApart, IsApart-beside, beside-IsReachedOnce, IsReachedOnce-beside, IsApart-flip, IsApart-new}
use Rattle.chunk_tree.proofs.Pairs.{level-join, level-parts, level-ends, spine-join, spine-ends}

-- a tree and one more number
abbrev pub with_number : ℕ → Trees → Trees
with_number i t = node i 0 [] t done

IsApart-with : (i : ℕ) (u t : Trees) → Avoids i u → IsApart u t → IsApart u (with_number i t)
IsApart-with i u t h g = IsApart-flip (with_number i t) u (h, IsApart-flip u t g, tt)

-- what hangs below node i at a link of this kind has become another tree, while that node may have changed
pub record Turns (s : List NodeKind) (p : ℕ) (a c : ArenaState) (i : ℕ) (t v : Trees) : Type 0 where
  pub stands : Stands c v
  pub once : IsReachedOnce v
  pub hangs : Hang s (whole s p ∷ []) v
  pub level : IsLevel s v
  pub spine_low : spine s v ≤ 1 + spine s t
  pub away : Avoids i v
  pub only : ChangesOnly a c (with_number i t) (with_number i v)

-- what changes a tree alone changes that tree and one more number alone
pub with-only : (a b : ArenaState) (i : ℕ) (t u : Trees) → ChangesOnly a b t u → ChangesOnly a b (with_number i t) (with_number i u)
with-only a b i t u h = record {
  others = λ j v w. h.others j v.1 w.1;
  stays = λ j w. (w.0, h.stays j w.1, tt);
  news = λ j some v. (v.0, h.news j some v.1, tt);
}

module _ (s : List NodeKind) (a c d : ArenaState) (i k p q kind : ℕ) (run new_run zs : List Elem) (before t v later : Trees) where
  abbrev row : Trees → Trees
  row w = beside before (beside w later)

  -- the node with it
  pub turned : shape_at s k ≡ Ends p q → Stands a (node i k run (row t) done) → IsReachedOnce (node i k run (row t) done) → Turns s kind a c i t v
      → ChangesNode c d i (Some (stored k new_run (row v)))
      → ((m : ℕ) → Hang s (whole s m ∷ []) (node i k run (row t) done) → Hang s (whole s m ∷ []) (node i k new_run (row v) done))
      → walk s (node i k new_run (row v) done) ≡ all_put_in zs (walk s (node i k run (row t) done))
      → PutsIn s a d zs (node i k run (row t) done) (node i k new_run (row v) done)
  turned e st once r ch hang walks =
      let ab = beside-Avoids i before (beside t later) once.0 in
      let al = beside-Avoids i t later ab.1 in
      let sb = beside-Stands a before (beside t later) st.1 in
      let sl = beside-Stands a t later sb.1 in
      let ob = beside-IsReachedOnce before (beside t later) once.3 in
      let ol = beside-IsReachedOnce t later ob.1 in
      let pb = beside-IsApart before t later ob.2 in
      let keeps = KeepsOutside-only a c (with_number i t) (with_number i v) r.only in
      let news : TakesFree a (with_number i t) v = λ j h w. (r.only.news j h w).1 in
      let bw : IsApart before (with_number i t) = IsApart-with i before t ab.0 pb.0 in
      let lw : IsApart later (with_number i t) = IsApart-with i later t al.1 (IsApart-flip t later ol.2) in
      let cb : Stands c before = Stands-outside a c (with_number i t) before keeps bw sb.0 in
      let cl : Stands c later = Stands-outside a c (with_number i t) later keeps lw sl.1 in
      let nb : IsApart before v = IsApart-new a (with_number i t) v before news sb.0 bw in
      let nl : IsApart later v = IsApart-new a (with_number i t) v later news sl.1 lw in
      let s1 : spine s (node i k new_run (row v) done) ≡ 1 + spine s (row v) = spine-ends s i k p q new_run (row v) e in
      let s2 : spine s (row v) ≡ max (spine s before) (spine s (beside v later)) = spine-join s before (beside v later) in
      let s3 : spine s (beside v later) ≡ max (spine s v) (spine s later) = spine-join s v later in
      let s4 : spine s (node i k run (row t) done) ≡ 1 + spine s (row t) = spine-ends s i k p q run (row t) e in
      let s5 : spine s (row t) ≡ max (spine s before) (spine s (beside t later)) = spine-join s before (beside t later) in
      let s6 : spine s (beside t later) ≡ max (spine s t) (spine s later) = spine-join s t later in
      record {
        stands = (
          ch.node.changed,
          Stands-beside d before (beside v later) (Stands-changed before ch ab.0 cb)
              (Stands-beside d v later (Stands-changed v ch r.away r.stands) (Stands-changed later ch al.1 cl)),
          tt,
        );
        once = (
          Avoids-beside i before (beside v later) ab.0 (Avoids-beside i v later r.away al.1),
          tt,
          IsApart-done (row v),
          IsReachedOnce-beside before (beside v later) ob.0 (IsReachedOnce-beside v later r.once ol.1 (IsApart-flip later v nl))
              (IsApart-beside before v later nb pb.1),
          tt,
        );
        hangs = hang;
        level = λ h.
            let l1 = level-parts s before (beside t later) h.1 in
            let l2 = level-parts s t later l1.1 in
            (level-ends s k p q (row v) e, level-join s before (beside v later) l1.0 (level-join s v later r.level l2.1), tt);
        spine_low = omega (arith, r.spine_low);
        walk_is = walks;
        only = record {
          others = λ j old new.
              let o = beside-Avoids j t later (beside-Avoids j before (beside t later) old.1).1 in
              let n = beside-Avoids j v later (beside-Avoids j before (beside v later) new.1).1 in
              ch.node.others j (λ z. old.0 (sym z)) ∙ r.only.others j (old.0, o.0, tt) (new.0, n.0, tt);
          stays = λ j new.
              let n1 = beside-Avoids j before (beside v later) new.1 in
              let n2 = beside-Avoids j v later n1.1 in
              (new.0, Avoids-beside j before (beside t later) n1.0 (Avoids-beside j t later (r.only.stays j (new.0, n2.0, tt)).1 n2.1), tt);
          news = λ j h w.
              let w1 = beside-Avoids j before (beside t later) w.1 in
              let w2 = beside-Avoids j t later w1.1 in
              (w.0, Avoids-beside j before (beside v later) w1.0 (Avoids-beside j v later (news j h (w.0, w2.0, tt)) w2.1), tt);
        };
      }
