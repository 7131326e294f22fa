-- Trees that are added to an arena.
use Rattle.std.proofs.Common.{◌≡◌, ◌≢◌, ℕ, List, Some, None, IsSome, refl, ap, ◌∙◌, sym, subst}
use Rattle.node_arena.specs.declared.elements.Elem.{Elem}
use Rattle.node_arena.specs.Arenas.{ArenaState, node_at, ChangesNode}
use Rattle.node_arena.specs.Trees.{Trees, done, absent, node, stored, Stands, Avoids, IsApart, KeepsOutside, TakesFree}
use Rattle.node_arena.proofs.FramesLemmas.{Stands-changed, Stands-outside, Avoids-free, IsApart-done}
use Rattle.node_arena.proofs.RowsLemmas.{beside, Stands-beside, Avoids-beside, beside-Avoids, IsReachedOnce-beside, IsApart-flip}
use Rattle.bulk_build.specs.Layouts.{Adds}

-- a node that was there is there
pub some-after : (a b : ArenaState) (i : ℕ) → KeepsOutside a b done → IsSome (node_at a i) → IsSome (node_at b i)
some-after a b i f h = subst IsSome (sym (f i h tt)) h

-- what two calls keep, one after another
pub keeps-both : (a m b : ArenaState) → KeepsOutside a m done → KeepsOutside m b done → KeepsOutside a b done
keeps-both a m b f g i h v = g i (some-after a m i f h) tt ∙ f i h tt

-- trees of new numbers are apart from those that stood there
pub apart-new : (a : ArenaState) (t u : Trees) → Stands a t → TakesFree a done u → IsApart t u
apart-new a done u h n = tt
apart-new a (absent t) u h n = apart-new a t u h n
apart-new a (node i k run ls t) u h n = (n i (subst IsSome (sym h.0) refl) tt, apart-new a ls u h.1 n, apart-new a t u h.2 n)

-- a number with a node isn't a free one
pub differs : (a : ArenaState) (i j : ℕ) → IsSome (node_at a j) → node_at a i ≡ None → j ≢ i
differs a i j h free e =
    let gone : node_at a j ≡ None = ap (node_at a) e ∙ free in
    let k = subst IsSome gone h in
    cc

-- no trees
pub adds-done : (a : ArenaState) → Adds a a done
adds-done a = record { stands = tt; once = tt; keeps = λ i h v. refl; news = λ i h v. tt; others = λ i v. refl; runs = refl; most = refl }

-- an absent one
pub adds-absent : (a : ArenaState) → Adds a a (absent done)
adds-absent a = record { stands = tt; once = tt; keeps = λ i h v. refl; news = λ i h v. tt; others = λ i v. refl; runs = refl; most = refl }

-- the later trees are put behind the earlier ones
pub adds-behind : (a m b : ArenaState) (t u : Trees) → Adds a m t → Adds m b u → Adds a b (beside t u)
adds-behind a m b t u f g = record {
  stands = Stands-beside b t u (Stands-outside m b done t g.keeps (IsApart-done t) f.stands) g.stands;
  once = IsReachedOnce-beside t u f.once g.once (apart-new m t u f.stands g.news);
  keeps = keeps-both a m b f.keeps g.keeps;
  news = λ i h v. Avoids-beside i t u (f.news i h tt) (g.news i (some-after a m i f.keeps h) tt);
  others = λ i v. let p = beside-Avoids i t u v in g.others i p.1 ∙ f.others i p.0;
  runs = g.runs ∙ f.runs;
  most = g.most ∙ f.most;
}

-- the later trees are put before the earlier ones
pub adds-before : (a m b : ArenaState) (t u : Trees) → Adds a m t → Adds m b u → Adds a b (beside u t)
adds-before a m b t u f g = record {
  stands = Stands-beside b u t g.stands (Stands-outside m b done t g.keeps (IsApart-done t) f.stands);
  once = IsReachedOnce-beside u t g.once f.once (IsApart-flip t u (apart-new m t u f.stands g.news));
  keeps = keeps-both a m b f.keeps g.keeps;
  news = λ i h v. Avoids-beside i u t (g.news i (some-after a m i f.keeps h) tt) (f.news i h tt);
  others = λ i v. let p = beside-Avoids i u t v in g.others i p.0 ∙ f.others i p.1;
  runs = g.runs ∙ f.runs;
  most = g.most ∙ f.most;
}

-- a node is made above trees that were added
pub adds-node : (a m b : ArenaState) (i k : ℕ) (run : List Elem) (ls : Trees) → Adds a m ls → node_at m i ≡ None
    → ChangesNode m b i (Some (stored k run ls)) → Adds a b (node i k run ls done)
adds-node a m b i k run ls f free ch =
    let v : Avoids i ls = Avoids-free m ls i free f.stands in
    record {
      stands = (ch.node.changed, Stands-changed ls ch v f.stands, tt);
      once = (v, tt, IsApart-done ls, f.once, tt);
      keeps = keeps-both a m b f.keeps (λ j h w. ch.node.others j (differs m i j h free));
      others = λ j v. ch.node.others j (λ e. v.0 (sym e)) ∙ f.others j v.1;
      news = λ j h w. ((λ e. differs m i j (some-after a m j f.keeps h) free (sym e)), f.news j h tt, tt);
      runs = ch.runs ∙ f.runs;
      most = ch.node.most ∙ f.most;
    }
