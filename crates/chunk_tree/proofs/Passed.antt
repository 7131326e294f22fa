-- What is passed on to a structure of another discipline.
use Rattle.std.proofs.Common.{◌≡◌, ◌≢◌, ◌≤◌, ◌+◌, inl, inr, ℕ, false, List, [], ◌∷◌, ◌++◌, length, Some, None, IsSome, refl, ap, ◌∙◌, sym, subst, arith, append_assoc, length-append, slice_set}
use Rattle.node_arena.specs.declared.elements.Elem.{Elem}
use Rattle.node_arena.specs.declared.elements.Side.TheVariants as sides
use Rattle.node_arena.specs.declared.elements.TheConstants.{MOST_SPINE}
use Rattle.node_arena.specs.declared.kinds.NodeKind.{NodeKind}
use Rattle.node_arena.specs.declared.kinds.Shape.{Shape}
use Rattle.node_arena.specs.declared.kinds.Shape.TheVariants.{Flat, Post, Ends, Woven}
use Rattle.node_arena.specs.Arenas.{ArenaState, NodeState, node_at, ChangesNode}
use Rattle.node_arena.specs.Conforming.{spine, IsRising}
use Rattle.node_arena.specs.Insertions.{put_in, all_put_in, Lacks}
use Rattle.node_arena.specs.Kinds.{kind_at, shape_at}
use Rattle.node_arena.specs.Passing.{IsPassed, PutsAt, GoesOn, AllLack, discipline, link_at, link_total, IsDone, deeper}
use Rattle.node_arena.specs.Trees.{Trees, done, node, roots, stored, Avoids}
use Rattle.node_arena.specs.Walks.{walk}
use Rattle.node_arena.proofs.ChangesLemmas.{node_differs}
use Rattle.node_arena.proofs.DepthsLemmas.{deeper-deeper}
use Rattle.node_arena.proofs.FramesLemmas.{Stands-changed}
use Rattle.node_arena.proofs.PutInLemmas.{length-put_in, IsRising-put_in, IsRising-prefix, IsRising-suffix, AllLack-before, all_put_in-first}
use Rattle.node_arena.proofs.RowsLemmas.{beside, roots-beside}
use Rattle.chunk_tree.specs.Descents.{IsWithin}
use Rattle.chunk_tree.specs.Ways.{Takes, has_two_links}
use Rattle.chunk_tree.specs.Writes.{Cuts}
use Rattle.chunk_tree.proofs.Opening.{Opened, pre-hangs, post-hangs, both-stand, both-avoid, both-once, both-level, pre-rises, post-rises, run-rises, length-walk, lacks-parts, pre-turned, post-turned, pre-goes, post-goes, head-root, tail-root, both-roots}
use Rattle.chunk_tree.proofs.Order.{goes-pre, goes-post, rises-behind, rises-before}
use Rattle.chunk_tree.proofs.Pairs.{head_of, tail_of}
use Rattle.chunk_tree.proofs.Turning.{Turns}

-- nodes of another discipline
pub other-two : (sh : Shape) (p q : ℕ) → has_two_links sh ≡ false → discipline sh ≢ discipline (Ends p q)
other-two Flat p q h e = cc
other-two (Post r) p q h e = cc
other-two (Ends m r) p q h e = cc
other-two Woven p q h e = cc

-- what is put in below a node that was written
turns-after : (s : List NodeKind) (p : ℕ) (a b c : ArenaState) (i : ℕ) (slot : NodeState) (xs : List Elem) (t v : Trees) → ChangesNode a b i (Some slot)
    → Avoids i t → PutsAt s p b c xs t v
    → Turns s p a c i t v
turns-after s p a b c i slot xs t v ch av r = record {
  stands = r.stands;
  once = r.once;
  hangs = r.hangs;
  level = r.level;
  spine_low = r.spine_low;
  away = r.only.news i (subst IsSome (sym ch.node.changed) refl) av;
  only = record {
    others = λ j old new. r.only.others j old.1 new.1 ∙ ch.node.others j (λ z. old.0 (sym z));
    stays = λ j new. (new.0, r.only.stays j new.1, tt);
    news = λ j h w.
        let same = ch.node.others j (λ z. w.0 (sym z)) in
        (w.0, r.only.news j (subst IsSome (sym same) h) w.1, tt);
  };
}

module _ (s : List NodeKind) (a : ArenaState) (x : Elem) (i k p q above : ℕ) (run : List Elem) (ls t : Trees) (o : Opened s a i k p q run ls)
    (within : IsWithin s a x above (node i k run ls done) t) (lacks : Lacks x.at (walk s t)) (low : spine s (node i k run ls done) ≤ MOST_SPINE) where
  abbrev u : Trees
  u = head_of ls

  abbrev v : Trees
  v = tail_of ls

  -- no node is written
  unwritten : ChangesNode a a i (Some (stored k run ls))
  unwritten = record { node = record { changed = o.stands.0; others = λ j h. refl; most = refl; places = refl }; runs = refl }

  -- a free number isn't the root's
  off : (b : ArenaState) (j : ℕ) {n : NodeState} → node_at b i ≡ Some n → node_at b j ≡ None → j ≢ i
  off b j there free = node_differs b i j (subst IsSome (sym there) refl) free

  -- x is passed to what hangs before the run
  pub pass-pre : (hi n : ℕ) → Takes hi x.at (stored k run ls) (Some sides.Pre) → has_two_links (shape_at s p) ≡ false
      → IsPassed s a a x t i sides.Pre (x ∷ []) (above + 1) n n
  pass-pre hi n takes other =
      let here_lacks = lacks-parts s a i k p q run ls o x.at (within.lacks lacks) in
      let len = length-walk s a i k p q run ls o in
      let fewer = within.fewer in
      let some = o.low in
      let s1 = within.spine_low in
      record {
        on = record {
          passer = stored k run ls;
          there = o.stands.0;
          link = record { place = 0; kind = p };
          width = ap length (both-roots s a i k p q run ls o) ∙ ap link_total (sym o.shape);
          has_link = ap (λ sh. link_at sh sides.Pre) o.shape;
          other = subst (λ sh. discipline (shape_at s p) ≢ discipline sh) (sym o.shape) (other-two (shape_at s p) p q other);
          below = u;
          leads = head-root s a i k p q run ls o;
          stands = (both-stand s a i k p q run ls o).0;
          once = (both-once s a i k p q run ls o).0;
          away = (both-avoid s a i k p q run ls o).0;
          conforms = record {
            hangs = pre-hangs s a i k p q run ls o;
            level = (both-level s a i k p q run ls o).0;
            low = omega (arith, o.spine_is);
            rising = pre-rises s a i k p q run ls o;
          };
          spine_low = omega (arith, o.spine_is);
        };
        can = record {
          some = λ e. cc;
          beside = rises-before x (walk s u) run (walk s v) (run-rises s a i k p q run ls o) takes.0;
          lack = (here_lacks.0, tt);
          counted = omega arith;
        };
        goes_on = inl (refl, refl, refl);
        spare = refl;
        lift = λ c d w top r e ch deep h.
            let links : slice_set (roots ls) 0 top ≡ roots (beside w v) =
            ap (λ l. slice_set l 0 top) (both-roots s a i k p q run ls o) ∙ ap (λ l. top ∷ l) (sym (tail-root s a i k p q run ls o))
            ∙ ap (λ l. l ++ roots v) (sym e) ∙ sym (roots-beside w v) in
            subst (IsDone s a d x t) (deeper-deeper above 1 deep) (within.lift d (deeper 1 deep) (record {
              tree = node i k run (beside w v) done;
              same_root = refl;
              puts = pre-turned s a i k p q run ls o c d w run (x ∷ []) o.low o.high
                  (turns-after s p a a c i (stored k run ls) (x ∷ []) u w unwritten (both-avoid s a i k p q run ls o).0 r) (ap length e)
                  (subst (λ l. ChangesNode c d i (Some (record { kind = k; run = run; links = l }))) links ch)
                  (ap (λ z. z ++ (run ++ walk s v)) r.walk_is ∙ sym (goes-pre x (walk s u) run (walk s v) o.low takes.0));
              goes = pre-goes s a i k p q run ls o a a c d deep w run h (λ j free. free) (λ j free. ch.node.others j (off a j o.stands.0 free));
            }));
      }

  -- elements are passed to what hangs behind the run
  pass-behind : (b : ArenaState) (new_run xs : List Elem) (n m : ℕ) → ChangesNode a b i (Some (stored k new_run ls)) → 1 ≤ length new_run
      → length new_run ≤ (kind_at s k).hi
      → has_two_links (shape_at s q) ≡ false → xs ≢ [] → IsRising (new_run ++ xs) → AllLack xs (walk s v) → length xs ≤ length run
      → GoesOn s a b x i (stored k new_run ls) q xs n m → b.nodes.spare ≡ a.nodes.spare
      → walk s u ++ (new_run ++ all_put_in xs (walk s v)) ≡ put_in x (walk s u ++ (run ++ walk s v)) → IsPassed s a b x t i sides.Post xs (above + 1) n m
  pass-behind b new_run xs n m wrote low1 high1 other some rises lack few goes spare walks =
      let len = length-walk s a i k p q run ls o in
      let fewer = within.fewer in
      let s1 = within.spine_low in
      record {
        on = record {
          passer = stored k new_run ls;
          there = wrote.node.changed;
          link = record { place = 1; kind = q };
          width = ap length (both-roots s a i k p q run ls o) ∙ ap link_total (sym o.shape);
          has_link = ap (λ sh. link_at sh sides.Post) o.shape;
          other = subst (λ sh. discipline (shape_at s q) ≢ discipline sh) (sym o.shape) (other-two (shape_at s q) p q other);
          below = v;
          leads = tail-root s a i k p q run ls o;
          stands = Stands-changed v wrote (both-avoid s a i k p q run ls o).1 (both-stand s a i k p q run ls o).1;
          once = (both-once s a i k p q run ls o).1;
          away = (both-avoid s a i k p q run ls o).1;
          conforms = record {
            hangs = post-hangs s a i k p q run ls o;
            level = (both-level s a i k p q run ls o).1;
            low = omega (arith, o.spine_is);
            rising = post-rises s a i k p q run ls o;
          };
          spine_low = omega (arith, o.spine_is);
        };
        can = record {
          some = some;
          beside = rises;
          lack = lack;
          counted = omega arith;
        };
        goes_on = goes;
        spare = spare;
        lift = λ c d w top r e ch deep h.
            let links : slice_set (roots ls) 1 top ≡ roots (beside u w) =
            ap (λ l. slice_set l 1 top) (both-roots s a i k p q run ls o) ∙ ap (λ l. l ++ top ∷ []) (sym (head-root s a i k p q run ls o))
            ∙ ap (λ l. roots u ++ l) (sym e) ∙ sym (roots-beside u w) in
            subst (IsDone s a d x t) (deeper-deeper above 1 deep) (within.lift d (deeper 1 deep) (record {
              tree = node i k new_run (beside u w) done;
              same_root = refl;
              puts = post-turned s a i k p q run ls o c d w new_run (x ∷ []) low1 high1
                  (turns-after s q a b c i (stored k new_run ls) xs v w wrote (both-avoid s a i k p q run ls o).1 r)
                  (subst (λ l. ChangesNode c d i (Some (record { kind = k; run = new_run; links = l }))) links ch)
                  (ap (λ z. walk s u ++ (new_run ++ z)) r.walk_is ∙ walks);
              goes = post-goes s a i k p q run ls o a b c d deep w new_run h (λ j free. sym (wrote.node.others j (off b j wrote.node.changed free)) ∙ free)
                  (λ j free. ch.node.others j (off b j wrote.node.changed free));
            }));
      }

  -- x is passed to what hangs behind the run
  pub pass-post : (hi n : ℕ) → Takes hi x.at (stored k run ls) (Some sides.Post) → has_two_links (shape_at s q) ≡ false
      → IsPassed s a a x t i sides.Post (x ∷ []) (above + 1) n n
  pass-post hi n takes other =
      pass-behind a run (x ∷ []) n n unwritten o.low o.high other (λ e. cc) (rises-behind x (walk s u) run (walk s v) (run-rises s a i k p q run ls o) takes.0)
      ((lacks-parts s a i k p q run ls o x.at (within.lacks lacks)).2, tt) o.low (inl (refl, refl, refl)) refl
      (sym (goes-post x (walk s u) run (walk s v) o.low o.rising takes.0))

  -- the upper part of a run is passed to the woven structure behind it
  pub pass-cut : (b : ArenaState) (upper : List Elem) (n : ℕ) → put_in x (walk s u ++ (run ++ walk s v)) ≡ walk s u ++ (put_in x run ++ walk s v)
      → shape_at s q ≡ Woven → Cuts s x a b i (stored k run ls) upper → b.nodes.spare ≡ a.nodes.spare
      → IsPassed s a b x t i sides.Post upper (above + 1) n (n + 1)
  pass-cut b upper n walks woven c spare =
      let wrote : ChangesNode a b i (Some (stored k c.lower ls)) = subst (λ l. ChangesNode a b i (Some (record { kind = k; run = c.lower; links = l })))
      (sym (both-roots s a i k p q run ls o)) c.puts in
      let len : length (put_in x run) ≡ length run + 1 = length-put_in x run in
      let sum : length (put_in x run) ≡ length c.lower + length upper = ap length c.parts.both ∙ length-append c.lower upper in
      let low1 : 1 ≤ length c.lower = omega (arith, c.parts.keep) in
      let high1 : length c.lower ≤ (kind_at s k).hi = omega (arith, c.parts.keep, o.low, o.high) in
      let low2 : 1 ≤ length upper = omega (arith, c.parts.keep, c.parts.full, o.low, o.high) in
      let up : IsRising (put_in x (walk s u ++ (run ++ walk s v))) =
      IsRising-put_in x (walk s u ++ (run ++ walk s v)) o.rising (subst (Lacks x.at) o.walk_is (within.lacks lacks)) in
      let up1 : IsRising (walk s u ++ (put_in x run ++ walk s v)) = subst IsRising walks up in
      let up2 : IsRising ((c.lower ++ upper) ++ walk s v) = subst (λ z. IsRising (z ++ walk s v)) c.parts.both
      (IsRising-suffix (walk s u) (put_in x run ++ walk s v) up1) in
      let up3 : IsRising (upper ++ walk s v) = IsRising-suffix c.lower (upper ++ walk s v) (subst IsRising (append_assoc c.lower upper (walk s v)) up2) in
      pass-behind b c.lower upper n (n + 1) wrote low1 high1 (ap has_two_links woven) (λ e. let z : length upper ≡ 0 = ap length e in omega arith)
      (IsRising-prefix (c.lower ++ upper) (walk s v) up2) (AllLack-before upper (walk s v) up3) (omega arith) (inr (woven, wrote, refl)) spare
      (ap (λ z. walk s u ++ (c.lower ++ z)) (all_put_in-first upper (walk s v) up3) ∙ ap (λ z. walk s u ++ z) (sym (append_assoc c.lower upper (walk s v)))
      ∙ ap (λ z. walk s u ++ (z ++ walk s v)) (sym c.parts.both) ∙ sym walks)
