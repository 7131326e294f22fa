-- Woven structures have no spine, so what is put in at a link in one go after another is put in together.
use Rattle.std.proofs.Common.{◌≡◌, ◌≢◌, ◌<◌, ◌+◌, ℕ, List, [], ◌∷◌, ◌++◌, length, Option, Some, None, refl, ap, ◌∙◌, sym, subst, arith}
use Rattle.node_arena.specs.declared.elements.Elem.{Elem}
use Rattle.node_arena.specs.declared.kinds.NodeKind.{NodeKind}
use Rattle.node_arena.specs.declared.kinds.Shape.TheVariants.{Woven}
use Rattle.node_arena.specs.Arenas.{ArenaState}
use Rattle.node_arena.specs.Kinds.{shape_at}
use Rattle.node_arena.specs.Trees.{Trees, done, absent, node}
use Rattle.node_arena.specs.Walks.{walk}
use Rattle.node_arena.specs.Conforming.{Hang, whole, spine, spine_by}
use Rattle.node_arena.specs.Insertions.{Lacks, put_in, all_put_in}
use Rattle.node_arena.specs.Passing.{PutsAt}
use Rattle.node_arena.proofs.ChangesLemmas.{ChangesOnly-then}
use Rattle.node_arena.proofs.InsertionsLemmas.{Conform-PutsAt}
use Rattle.node_arena.proofs.PutInLemmas.{length-put_in, Lacks-put_in}
use Rattle.btree_nodes.specs.Links.{CanPutAt, PutsUnder}

-- a woven structure has no spine
pub spine-woven : (s : List NodeKind) (k : ℕ) (t : Trees) → shape_at s k ≡ Woven → Hang s (whole s k ∷ []) t → spine s t ≡ 0
spine-woven s k done e h = refl
spine-woven s k (absent done) e h = refl
spine-woven s k (absent (absent t)) e h = absurd h.1
spine-woven s k (absent (node i m run ls t)) e h = absurd h.1
spine-woven s k (node i m run ls done) e h =
    let none : spine_by (shape_at s m) (spine s ls) ≡ 0 = ap (λ sh. spine_by sh (spine s ls)) (ap (shape_at s) h.0 ∙ e) in
    omega arith
spine-woven s k (node i m run ls (absent t)) e h = absurd h.4
spine-woven s k (node i m run ls (node j n r ks t)) e h = absurd h.4

all_put_in-append : (xs ys es : List Elem) → all_put_in (xs ++ ys) es ≡ all_put_in ys (all_put_in xs es)
all_put_in-append [] ys es = refl
all_put_in-append (x ∷ xs) ys es = all_put_in-append xs ys (put_in x es)

-- elements that are put in, and then others, are put in together
pub PutsAt-then : (s : List NodeKind) (k : ℕ) (a b c : ArenaState) (xs ys : List Elem) (t u v : Trees) → shape_at s k ≡ Woven → PutsAt s k a b xs t u
    → PutsAt s k b c ys u v → PutsAt s k a c (xs ++ ys) t v
PutsAt-then s k a b c xs ys t u v e p q =
    let none : spine s v ≡ 0 = spine-woven s k v e q.hangs in
    record {
      stands = q.stands;
      once = q.once;
      hangs = q.hangs;
      level = q.level;
      spine_low = omega arith;
      walk_is = q.walk_is ∙ ap (all_put_in ys) p.walk_is ∙ sym (all_put_in-append xs ys (walk s t));
      only = ChangesOnly-then a b c t u v p.only q.only;
    }

-- an element may be put in at a link that leads nowhere
pub CanPutAt-empty : (s : List NodeKind) (k : ℕ) (a : ArenaState) (x : Elem) → CanPutAt s k a x None (absent done)
CanPutAt-empty s k a x = record {
  leads = refl;
  stands = tt;
  once = tt;
  conforms = record { hangs = (refl, refl); level = tt; low = omega arith; rising = tt };
  lacks = tt;
  few = omega arith;
}

-- once x is in, y may be put in, which has another coordinate and wasn't there
pub CanPutAt-next : (s : List NodeKind) (k : ℕ) (a b : ArenaState) (x y : Elem) (link : Option ℕ) (i : ℕ) (t : Trees) → shape_at s k ≡ Woven
    → CanPutAt s k a x link t → (p : PutsUnder s k a b x t i) → x.at ≢ y.at → Lacks y.at (walk s t) → length (walk s t) + 1 < 4294967295
    → CanPutAt s k b y (Some i) p.tree
CanPutAt-next s k a b x y link i t e can p other lacks few =
    let none : spine s p.tree ≡ 0 = spine-woven s k p.tree e p.puts.hangs in
    let n : length (walk s p.tree) ≡ length (walk s t) + 1 = ap length p.puts.walk_is ∙ length-put_in x (walk s t) in
    record {
      leads = p.leads;
      stands = p.puts.stands;
      once = p.puts.once;
      conforms = Conform-PutsAt s k a b (x ∷ []) t p.tree p.puts can.conforms (omega arith) tt (can.lacks, tt);
      lacks = subst (Lacks y.at) (sym p.puts.walk_is) (Lacks-put_in y.at x (walk s t) other lacks);
      few = omega arith;
    }
