-- A first node, at a link that led nowhere.
use Rattle.std.proofs.Common.{◌≡◌, ◌≤◌, ℕ, List, [], ◌∷◌, ◌++◌, Some, None, refl, ap, sym, subst, arith}
use Rattle.node_arena.specs.declared.elements.Elem.{Elem}
use Rattle.node_arena.specs.declared.kinds.NodeKind.{NodeKind}
use Rattle.node_arena.specs.declared.kinds.Shape.{Shape}
use Rattle.node_arena.specs.declared.kinds.Shape.TheVariants.{Flat, Post, Ends, Woven}
use Rattle.node_arena.specs.Arenas.{ArenaState, node_at, ChangesNode}
use Rattle.node_arena.specs.Conforming.{Hang, places, least_of, IsLevelAt, IsLevel, spine, spine_by}
use Rattle.node_arena.specs.Kinds.{kind_at, shape_at}
use Rattle.node_arena.specs.Rules.{AreSound, HasSoundLinks}
use Rattle.node_arena.specs.Trees.{Trees, done, absent, node, roots, stored, Stands, Avoids, IsApart, IsReachedOnce}
use Rattle.node_arena.specs.Walks.{parts, joined, walks}
use Rattle.node_arena.proofs.ChangesLemmas.{node_differs, Stands-written, ChangesOnly-change}
use Rattle.insert_gen.specs.Below.{IsLinked, no_links, own_depth, IsFirst}

abbrev bare_links : Shape → Trees
bare_links Flat = done
bare_links (Post _) = absent done
bare_links (Ends _ _) = absent (absent done)
bare_links Woven = done

roots-bare : (sh : Shape) → roots (bare_links sh) ≡ no_links sh
roots-bare Flat = refl
roots-bare (Post p) = refl
roots-bare (Ends p q) = refl
roots-bare Woven = refl

stands-bare : (a : ArenaState) (sh : Shape) → Stands a (bare_links sh)
stands-bare a Flat = tt
stands-bare a (Post p) = tt
stands-bare a (Ends p q) = tt
stands-bare a Woven = tt

avoids-bare : (i : ℕ) (sh : Shape) → Avoids i (bare_links sh)
avoids-bare i Flat = tt
avoids-bare i (Post p) = tt
avoids-bare i (Ends p q) = tt
avoids-bare i Woven = tt

apart-bare : (sh : Shape) → IsApart (bare_links sh) done
apart-bare Flat = tt
apart-bare (Post p) = tt
apart-bare (Ends p q) = tt
apart-bare Woven = tt

once-bare : (sh : Shape) → IsReachedOnce (bare_links sh)
once-bare Flat = tt
once-bare (Post p) = tt
once-bare (Ends p q) = tt
once-bare Woven = tt

level-bare : (s : List NodeKind) (sh : Shape) → IsLinked sh → IsLevelAt s sh (bare_links sh) × IsLevel s (bare_links sh)
level-bare s Flat h = absurd h
level-bare s (Post p) h = (tt, tt)
level-bare s (Ends p q) h = (tt, tt)
level-bare s Woven h = absurd h

hang-bare : (s : List NodeKind) (sh : Shape) (k : ℕ) (run : List Elem) → IsLinked sh → Hang s (places s sh k run (bare_links sh)) (bare_links sh)
hang-bare s Flat k run h = absurd h
hang-bare s (Post p) k run h = (refl, refl)
hang-bare s (Ends p q) k run h = (refl, (refl, refl))
hang-bare s Woven k run h = absurd h

least-one : (s : List NodeKind) (kind : NodeKind) (sh : Shape) → IsLinked sh → HasSoundLinks s kind sh → least_of kind sh ≤ 1
least-one s kind Flat h l = absurd h
least-one s kind (Post p) h l = omega (arith, l.0)
least-one s kind (Ends p q) h l = omega (arith, l.0)
least-one s kind Woven h l = absurd h

some-linked : (s : List NodeKind) (kind : NodeKind) (sh : Shape) → IsLinked sh → HasSoundLinks s kind sh → kind.lo ≤ kind.hi → 1 ≤ kind.hi
some-linked s kind Flat h l o = absurd h
some-linked s kind (Post p) h l o = omega (arith, l.0, o)
some-linked s kind (Ends p q) h l o = omega (arith, l.0, o)
some-linked s kind Woven h l o = absurd h

-- runs of a kind with links may have an element
pub hi-linked : (s : List NodeKind) (k : ℕ) → AreSound s → IsLinked (shape_at s k) → 1 ≤ (kind_at s k).hi
hi-linked s k sound h = some-linked s (kind_at s k) (shape_at s k) h (sound.links k) (sound.bounds k)

spine-bare : (s : List NodeKind) (sh : Shape) → spine_by sh (spine s (bare_links sh)) ≡ own_depth sh
spine-bare s Flat = refl
spine-bare s (Post p) = refl
spine-bare s (Ends p q) = refl
spine-bare s Woven = refl

-- one node has at most one link's spine
pub own_depth-low : (sh : Shape) → own_depth sh ≤ 1
own_depth-low Flat = omega arith
own_depth-low (Post p) = omega arith
own_depth-low (Ends p q) = omega arith
own_depth-low Woven = omega arith

walk-bare : (s : List NodeKind) (sh : Shape) (x : Elem) → joined (parts sh (x ∷ []) (walks s (bare_links sh))) ≡ x ∷ []
walk-bare s Flat x = refl
walk-bare s (Post p) x = refl
walk-bare s (Ends p q) x = refl
walk-bare s Woven x = refl

-- a new node with x alone, at whose links nothing is, is a structure of its kind
pub first-made : (s : List NodeKind) (k : ℕ) (a b : ArenaState) (x : Elem) (i : ℕ) → AreSound s → IsLinked (shape_at s k) → node_at a i ≡ None
    → ChangesNode a b i (Some (record { kind = k; run = x ∷ []; links = no_links (shape_at s k) })) → IsFirst s k a b x i
first-made s k a b x i sound linked new ch =
    let sh = shape_at s k in
    let ls = bare_links sh in
    let made : ChangesNode a b i (Some (stored k (x ∷ []) ls)) =
    subst (λ l. ChangesNode a b i (Some (record { kind = k; run = x ∷ []; links = l }))) (sym (roots-bare sh)) ch in
    let own : spine_by sh (spine s ls) ≡ own_depth sh = spine-bare s sh in
    let low : own_depth sh ≤ 1 = own_depth-low sh in
    let level = level-bare s sh linked in
    record {
      below = record {
        tree = node i k (x ∷ []) ls done;
        leads = refl;
        puts = record {
          stands = Stands-written a b i k (x ∷ []) ls made (avoids-bare i sh) (stands-bare a sh);
          once = (avoids-bare i sh, tt, apart-bare sh, once-bare sh, tt);
          hangs = (
            refl,
            least-one s (kind_at s k) sh linked (sound.links k),
            hi-linked s k sound linked,
            hang-bare s sh k (x ∷ []) linked,
            refl,
          );
          level = (level.0, level.1, tt);
          spine_low = omega (arith, own, low);
          walk_is = ap (λ w. w ++ []) (walk-bare s sh x);
          only = ChangesOnly-change a b (absent done) (node i k (x ∷ []) ls done) i (Some (record { kind = k; run = x ∷ []; links = no_links sh })) ch
              (λ w. w.0 refl) (λ j w. tt) (λ j h av. (node_differs a j i h new, avoids-bare j sh, tt));
        };
      };
      deep = omega (arith, own);
    }
