-- A woven tree into which an element goes.
use Rattle.std.proofs.Common.{◌≡◌, ◌≢◌, ◌≤◌, ◌<◌, ◌+◌, ◌*◌, ◌/◌, inl, inr, ℕ, zero, suc, List, [], ◌∷◌, ◌++◌, length, take, drop, Some, IsSome, refl, ap, ◌∙◌, sym, subst, arith, append-nil, length-append}
use Rattle.node_arena.specs.declared.elements.Elem.{Elem}
use Rattle.node_arena.specs.declared.kinds.NodeKind.{NodeKind}
use Rattle.node_arena.specs.declared.kinds.Shape.TheVariants.{Woven}
use Rattle.node_arena.specs.Arenas.{ArenaState, node_at, ChangesNode}
use Rattle.node_arena.specs.Trees.{Trees, done, node, roots, stored, Stands, Avoids, IsReachedOnce, ChangesOnly}
use Rattle.node_arena.specs.Kinds.{kind_at, shape_at}
use Rattle.node_arena.specs.Walks.{walk, walks, joined, parts, weave}
use Rattle.node_arena.specs.Conforming.{height}
use Rattle.node_arena.specs.Insertions.{put_in, DifferInFew}
use Rattle.node_arena.proofs.RowsLemmas.{beside, walks-beside, Avoids-beside, beside-Stands, beside-Avoids, beside-IsReachedOnce}
use Rattle.node_arena.proofs.ChangesLemmas.{ChangesOnly-under}
use Rattle.node_arena.proofs.FramesLemmas.{Stands-changed, Avoids-free}
use Rattle.btree_nodes.proofs.WeaveLemmas.{walk-parted}
use Rattle.btree_nodes.specs.Weaving.{IsFan, IsRow, IsWovenKind}
use Rattle.btree_nodes.specs.Splits.{node_of, SplitsAt}
use Rattle.btree_nodes.specs.Descents.{KeepsRoot, SplitsRoot}
use Rattle.btree_nodes.proofs.PlacesLemmas.{walk-bare}
use Rattle.btree_nodes.proofs.RowLemmas.{count-beside, count-walks, beside-IsRow, IsRow-height, firsts, others, parts-beside, roots-firsts, roots-others, count-firsts, IsApart-done, IsApart-node, some_differs}

-- the walk of one woven node
pub walk-node : (s : List NodeKind) (i k : ℕ) (run : List Elem) (ls : Trees) → shape_at s k ≡ Woven
    → walk s (node i k run ls done) ≡ joined (weave run (walks s ls))
walk-node s i k run ls e = append-nil (joined (parts (shape_at s k) run (walks s ls))) ∙ ap (λ sh. joined (parts sh run (walks s ls))) e

-- the run and the row that a node is to have, when its child has changed
pub record Wide (s : List NodeKind) (k : ℕ) (a b : ArenaState) (x : Elem) (i : ℕ) (run : List Elem) (ls : Trees) (wider : List Elem)
    (row : Trees) : Type 0 where
  pub keeps_here : node_at b i ≡ node_at a i
  pub there : IsSome (node_at b i)
  pub stands : Stands b row
  pub once : IsReachedOnce row
  pub avoids : Avoids i row
  pub high : height s row ≡ height s ls
  pub line : IsRow s k (kind_at s k).lo (height s ls) row
  pub fan : IsFan wider row
  pub more : length wider ≡ length run + 1
  pub walk_is : joined (weave wider (walks s row)) ≡ put_in x (joined (weave run (walks s ls)))
  pub only : ChangesOnly a b ls row
  pub differ : DifferInFew (2 * height s ls) a b

-- the two halves of a row
pub record Cut (s : List NodeKind) (k h : ℕ) (lower upper : List Elem) (row : Trees) : Type 0 where
  pub fan_low : IsFan lower (firsts (length lower + 1) row)
  pub fan_up : IsFan upper (others (length lower + 1) row)
  pub high_low : height s (firsts (length lower + 1) row) ≡ height s row
  pub high_up : height s (others (length lower + 1) row) ≡ height s row
  pub line_low : IsRow s k (kind_at s k).lo h (firsts (length lower + 1) row)
  pub line_up : IsRow s k (kind_at s k).lo h (others (length lower + 1) row)

module _ (s : List NodeKind) (k : ℕ) where
  firsts-done : (n : ℕ) → firsts n done ≡ done
  firsts-done zero = refl
  firsts-done (suc n) = refl

  others-done : (n : ℕ) → others n done ≡ done
  others-done zero = refl
  others-done (suc n) = refl

  cut-fan : (h : ℕ) (wider lower upper : List Elem) (up : Elem) (row : Trees) → wider ≡ lower ++ up ∷ upper → IsFan wider row
      → IsRow s k (kind_at s k).lo h row → Cut s k h lower upper row
  cut-fan h wider lower upper up row e (inl none) line =
      let low : firsts (length lower + 1) row ≡ done = ap (firsts (length lower + 1)) none ∙ firsts-done (length lower + 1) in
      let high : others (length lower + 1) row ≡ done = ap (others (length lower + 1)) none ∙ others-done (length lower + 1) in
      record {
        fan_low = inl low;
        fan_up = inl high;
        high_low = ap (height s) (low ∙ sym none);
        high_up = ap (height s) (high ∙ sym none);
        line_low = subst (IsRow s k (kind_at s k).lo h) (sym low) tt;
        line_up = subst (IsRow s k (kind_at s k).lo h) (sym high) tt;
      }
  cut-fan h wider lower upper up row e (inr count) line =
      let len : length wider ≡ length lower + length (up ∷ upper) = ap length e ∙ length-append lower (up ∷ upper) in
      let two = beside-IsRow s k (kind_at s k).lo h (firsts (length lower + 1) row) (others (length lower + 1) row)
      (subst (IsRow s k (kind_at s k).lo h) (sym (parts-beside (length lower + 1) row)) line) in
      let low : length (roots (firsts (length lower + 1) row)) ≡ length lower + 1 = count-firsts (length lower + 1) row (omega arith) in
      let sum : length (roots row) ≡ length (roots (firsts (length lower + 1) row)) + length (roots (others (length lower + 1) row)) = ap
      (λ t. length (roots t)) (sym (parts-beside (length lower + 1) row)) ∙ count-beside (firsts (length lower + 1) row) (others (length lower + 1) row) in
      let high : length (roots (others (length lower + 1) row)) ≡ length upper + 1 = omega arith in
      let all : height s row ≡ h = IsRow-height s k (kind_at s k).lo h row line (omega arith) in
      record {
        fan_low = inr low;
        fan_up = inr high;
        high_low = IsRow-height s k (kind_at s k).lo h (firsts (length lower + 1) row) two.0 (omega arith) ∙ sym all;
        high_up = IsRow-height s k (kind_at s k).lo h (others (length lower + 1) row) two.1 (omega arith) ∙ sym all;
        line_low = two.0;
        line_up = two.1;
      }

  walk-cut : (wider lower upper : List Elem) (up : Elem) (row : Trees) → wider ≡ lower ++ up ∷ upper → IsFan wider row
      → joined (weave lower (walks s (firsts (length lower + 1) row))) ++ up ∷ joined (weave upper (walks s (others (length lower + 1) row))) ≡ joined
      (weave wider (walks s row))
  walk-cut wider lower upper up row e (inl none) =
      let low : firsts (length lower + 1) row ≡ done = ap (firsts (length lower + 1)) none ∙ firsts-done (length lower + 1) in
      let high : others (length lower + 1) row ≡ done = ap (others (length lower + 1)) none ∙ others-done (length lower + 1) in
      ap (λ t. joined (weave lower (walks s t)) ++ up ∷ joined (weave upper (walks s (others (length lower + 1) row)))) low
      ∙ ap (λ t. joined (weave lower []) ++ up ∷ joined (weave upper (walks s t))) high
      ∙ ap (λ w. w ++ up ∷ joined (weave upper [])) (walk-bare lower)
      ∙ ap (λ w. lower ++ up ∷ w) (walk-bare upper)
      ∙ sym (walk-bare (lower ++ up ∷ upper))
      ∙ ap (λ r. joined (weave r [])) (sym e)
      ∙ ap (λ t. joined (weave wider (walks s t))) (sym none)
  walk-cut wider lower upper up row e (inr count) =
      let len : length wider ≡ length lower + length (up ∷ upper) = ap length e ∙ length-append lower (up ∷ upper) in
      let low : length (roots (firsts (length lower + 1) row)) ≡ length lower + 1 = count-firsts (length lower + 1) row (omega arith) in
      sym (walk-parted lower up upper (walks s (firsts (length lower + 1) row)) (walks s (others (length lower + 1) row))
      (count-walks s (firsts (length lower + 1) row) ∙ low))
      ∙ ap (λ w. joined (weave (lower ++ up ∷ upper) w)) (sym (walks-beside s (firsts (length lower + 1) row) (others (length lower + 1) row)))
      ∙ ap (λ t. joined (weave (lower ++ up ∷ upper) (walks s t))) (parts-beside (length lower + 1) row)
      ∙ ap (λ r. joined (weave r (walks s row))) (sym e)

  module _ (a b c : ArenaState) (x : Elem) (i : ℕ) (run : List Elem) (ls : Trees) (wider : List Elem) (row : Trees) where
    -- the wider run fits
    pub fits : IsWovenKind s k → Wide s k a b x i run ls wider row → length wider ≤ (kind_at s k).hi
        → ChangesNode b c i (Some (node_of k wider (roots row))) → KeepsRoot s k a c x (node i k run ls done)
    fits kind w few ch =
        let more : length wider ≡ length run + 1 = w.more in
        let high : height s row ≡ height s ls = w.high in
        record {
          tree = node i k wider row done;
          same_roots = refl;
          stands = (ch.node.changed, Stands-changed row ch w.avoids w.stands, tt);
          once = (w.avoids, tt, IsApart-done row, w.once, tt);
          row = λ low le r. (refl, omega (arith, r.1), few, w.fan, omega arith, subst (λ h. IsRow s k (kind_at s k).lo h row) (sym high) w.line, tt);
          walk_is = walk-node s i k wider row kind.shape ∙ w.walk_is ∙ ap (put_in x) (sym (walk-node s i k run ls kind.shape));
          only = ChangesOnly-under a b c i k k run wider ls row (Some (node_of k wider (roots row))) w.only ch;
          differ = record {
            touched = i ∷ w.differ.touched;
            few = let f = w.differ.few in omega arith;
            others = λ j v. ch.node.others j (λ z. v.0 (sym z)) ∙ w.differ.others j v.1;
          };
        }

    -- the wider run is one too long, and the node is parted
    pub parted : IsWovenKind s k → length run ≤ (kind_at s k).hi → Wide s k a b x i run ls wider row → (up : Elem) (right : ℕ)
        → SplitsAt (kind_at s k).hi k b c i wider (roots row) up right → SplitsRoot s k a c x (node i k run ls done) up right
    parted kind old w up right sp =
        let n : ℕ = length sp.lower + 1 in
        let r1 : Trees = firsts n row in
        let r2 : Trees = others n row in
        let more : length wider ≡ length run + 1 = w.more in
        let len : length wider ≡ length sp.lower + length (up ∷ sp.upper) = ap length sp.run_is ∙ length-append sp.lower (up ∷ sp.upper) in
        let keep : length sp.lower ≡ ((kind_at s k).hi + 1) / 2 = sp.keep in
        let many : (kind_at s k).hi < length wider = sp.many in
        let half : 2 * (kind_at s k).lo ≤ (kind_at s k).hi = kind.half in
        let cut : Cut s k (height s ls) sp.lower sp.upper row = cut-fan (height s ls) wider sp.lower sp.upper up row sp.run_is w.fan w.line in
        let high : height s row ≡ height s ls = w.high in
        let high1 : height s r1 ≡ height s row = cut.high_low in
        let high2 : height s r2 ≡ height s row = cut.high_up in
        let both : beside r1 r2 ≡ row = parts-beside n row in
        let st : Stands b r1 × Stands b r2 = beside-Stands b r1 r2 (subst (Stands b) (sym both) w.stands) in
        let on = beside-IsReachedOnce r1 r2 (subst IsReachedOnce (sym both) w.once) in
        let av : Avoids i r1 × Avoids i r2 = beside-Avoids i r1 r2 (subst (Avoids i) (sym both) w.avoids) in
        let free1 : Avoids right r1 = Avoids-free b r1 right sp.free st.0 in
        let free2 : Avoids right r2 = Avoids-free b r2 right sp.free st.1 in
        let differ : right ≢ i = some_differs b i right w.there sp.free in
        let slot1 : node_of k sp.lower (take n (roots row)) ≡ stored k sp.lower r1 = ap (node_of k sp.lower) (sym (roots-firsts n row)) in
        let slot2 : node_of k sp.upper (drop n (roots row)) ≡ stored k sp.upper r2 = ap (node_of k sp.upper) (sym (roots-others n row)) in
        record {
          lower = node i k sp.lower r1 done;
          upper = node right k sp.upper r2 done;
          same_roots = refl;
          right_root = refl;
          stands = (
            (sp.puts.node.changed ∙ ap Some slot1, Stands-changed r1 sp.puts av.0 (Stands-changed r1 sp.makes free1 st.0), tt),
            (
              sp.puts.node.others right differ ∙ sp.makes.node.changed ∙ ap Some slot2,
              Stands-changed r2 sp.puts av.1
                  (Stands-changed r2 sp.makes free2 st.1),
              tt,
            ),
          );
          once = (
            (av.0, tt, IsApart-done r1, on.0, tt),
            (free2, tt, IsApart-done r2, on.1, tt),
            ((differ, av.1, tt), IsApart-node right k sp.upper r2 r1 free1 on.2, tt),
          );
          row = (
            (refl, omega arith, omega arith, cut.fan_low, omega arith, subst (λ h. IsRow s k (kind_at s k).lo h r1) (sym (high1 ∙ high)) cut.line_low, tt),
            (refl, omega arith, omega arith, cut.fan_up, omega arith, subst (λ h. IsRow s k (kind_at s k).lo h r2) (sym (high2 ∙ high)) cut.line_up, tt),
          );
          walk_is =
              ap (λ v. v ++ up ∷ walk s (node right k sp.upper r2 done)) (walk-node s i k sp.lower r1 kind.shape)
              ∙ ap (λ v. joined (weave sp.lower (walks s r1)) ++ up ∷ v) (walk-node s right k sp.upper r2 kind.shape)
              ∙ walk-cut wider sp.lower sp.upper up row sp.run_is w.fan
              ∙ w.walk_is
              ∙ ap (put_in x) (sym (walk-node s i k run ls kind.shape));
          only = record {
            others = λ j v u. sp.puts.node.others j (λ z. v.0 (sym z)) ∙ sp.makes.node.others j (λ z. u.2.0 (sym z))
                ∙ w.only.others j v.1 (subst (Avoids j) both (Avoids-beside j r1 r2 u.1 u.2.1));
            stays = λ j u. (u.0, w.only.stays j (subst (Avoids j) both (Avoids-beside j r1 r2 u.1 u.2.1)), tt);
            news = λ j h v.
                let away : Avoids j row = w.only.news j h v.1 in
                let some : IsSome (node_at b j) = subst IsSome (sym (w.only.others j v.1 away)) h in
                let two : Avoids j r1 × Avoids j r2 = beside-Avoids j r1 r2 (subst (Avoids j) (sym both) away) in
                (v.0, two.0, (some_differs b j right some sp.free, two.1, tt));
          };
          differ = record {
            touched = i ∷ right ∷ w.differ.touched;
            few = let f = w.differ.few in omega arith;
            others = λ j v. sp.puts.node.others j (λ z. v.0 (sym z)) ∙ sp.makes.node.others j (λ z. v.1.0 (sym z)) ∙ w.differ.others j v.1.1;
          };
        }
