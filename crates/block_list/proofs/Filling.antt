-- Elements put into a chain one after another.
use Rattle.std.proofs.Common.{◌≡◌, ◌≤◌, ◌<◌, ◌+◌, ◌⊎◌, inl, inr, ℕ, zero, suc, Bool, true, false, ltb, cond, List, [], ◌∷◌, length, get_or, set, Option, Some, None, IsSome, IfSome, refl, ap, ◌∙◌, sym, subst, arith}
use Rattle.node_arena.specs.declared.elements.Elem.{Elem}
use Rattle.node_arena.specs.declared.elements.Step.{Step}
use Rattle.node_arena.specs.declared.elements.Step.TheVariants.{Done, Pass}
use Rattle.node_arena.specs.declared.elements.TheConstants.{MOST_SPINE}
use Rattle.node_arena.specs.declared.kinds.NodeKind.{NodeKind}
use Rattle.node_arena.specs.declared.kinds.Shape.{Shape}
use Rattle.node_arena.specs.declared.kinds.Shape.TheVariants.{Flat, Post, Ends, Woven}
use Rattle.node_arena.specs.Arenas.{ArenaState, node_at, ChangesNode}
use Rattle.node_arena.specs.Conforming.{Hang, whole, IsRising, spine, spine_by}
use Rattle.node_arena.specs.Insertions.{put_in, Lacks}
use Rattle.node_arena.specs.Kinds.{kind_at, shape_at}
use Rattle.node_arena.specs.Passing.{discipline, chains, CanPutIn, IsDone, Leaves}
use Rattle.node_arena.specs.Rules.{AreSound, HasSoundLinks}
use Rattle.node_arena.specs.Trees.{Trees, done, absent, node, roots, stored, Stands}
use Rattle.node_arena.specs.Walks.{walk}
use Rattle.node_arena.proofs.PutInLemmas.{IsRising-put_in}
use Rattle.block_list.specs.Filling.{AllMarked, HasNoEnds, IsLow, Holds, HoldsAfter, LeadsInto, IsReadable}
use Rattle.block_list.proofs.Ends.{some-node}
use Rattle.block_list.proofs.Parts.{IsChain-discipline, hang-post, level-post, spine-post}
use Rattle.block_list.proofs.Searching.{IsNode, next-node}
use Rattle.block_list.proofs.Walks.{walk-chain}

-- ---- marks

-- a mark stays when another one is set
mark-kept : (marks : List Bool) (at j : ℕ) → get_or marks j false ≡ true → get_or (set marks at true) j false ≡ true
mark-kept [] at j e = e
mark-kept (b ∷ bs) zero zero e = refl
mark-kept (b ∷ bs) zero (suc j) e = e
mark-kept (b ∷ bs) (suc at) zero e = e
mark-kept (b ∷ bs) (suc at) (suc j) e = mark-kept bs at j e

-- a mark that is set is there
mark-set : (marks : List Bool) (at : ℕ) → at < length marks → get_or (set marks at true) at false ≡ true
mark-set [] at l = absurd (omega arith)
mark-set (b ∷ bs) zero l = refl
mark-set (b ∷ bs) (suc at) l = mark-set bs at (omega arith)

AllMarked-kept : (marks : List Bool) (at : ℕ) (es : List Elem) → AllMarked marks es → AllMarked (set marks at true) es
AllMarked-kept marks at [] h = tt
AllMarked-kept marks at (e ∷ es) h = (mark-kept marks at e.at h.0, AllMarked-kept marks at es h.1)

marked-step : (marks : List Bool) (x e : Elem) (es w : List Elem) (b : Bool) → get_or marks x.at false ≡ true → get_or marks e.at false ≡ true
    → AllMarked marks es → AllMarked marks w → AllMarked marks (cond b (e ∷ w) (x ∷ e ∷ es))
marked-step marks x e es w true hx he hes hw = (he, hw)
marked-step marks x e es w false hx he hes hw = (hx, (he, hes))

AllMarked-put_in : (marks : List Bool) (x : Elem) (es : List Elem) → get_or marks x.at false ≡ true → AllMarked marks es → AllMarked marks (put_in x es)
AllMarked-put_in marks x [] hx h = (hx, tt)
AllMarked-put_in marks x (e ∷ es) hx h = marked-step marks x e es (put_in x es) (ltb e.at x.at) hx h.0 h.1 (AllMarked-put_in marks x es hx h.1)

-- what isn't marked isn't there
Lacks-unmarked : (marks : List Bool) (at : ℕ) (es : List Elem) → get_or marks at false ≡ false → AllMarked marks es → Lacks at es
Lacks-unmarked marks at [] free h = tt
Lacks-unmarked marks at (e ∷ es) free h =
    ((λ same. let f : true ≡ false = sym h.0 ∙ ap (λ j. get_or marks j false) same ∙ free in cc), Lacks-unmarked marks at es free h.1)

-- ---- the spine

by-none : (shape : Shape) (n : ℕ) → HasNoEnds shape → n ≡ 0 → spine_by shape n ≡ 0
by-none Flat n h e = refl
by-none (Post p) n h e = e
by-none (Ends p q) n h e = absurd h
by-none Woven n h e = refl

-- where no kind has two links there is no spine
spine-none : (s : List NodeKind) → ((k : ℕ) → HasNoEnds (shape_at s k)) → (t : Trees) → spine s t ≡ 0
spine-none s h done = refl
spine-none s h (absent rest) = spine-none s h rest
spine-none s h (node i k run ls rest) =
    let f : spine_by (shape_at s k) (spine s ls) ≡ 0 = by-none (shape_at s k) (spine s ls) (h k) (spine-none s h ls) in
    let g : spine s rest ≡ 0 = spine-none s h rest in
    omega arith

-- ---- a chain of one element

module _ (s : List NodeKind) (sound : AreSound s) (a b : ArenaState) (x : Elem) where
  -- a node that is made begins a chain
  pub start-holds : (i : ℕ) (marks : List Bool) → discipline (shape_at s 0) ≡ chains → x.at < length marks
      → ChangesNode a b i (Some (record { kind = 0; run = x ∷ []; links = None ∷ [] }))
      → Holds s b i 0 (set marks x.at true) (node i 0 (x ∷ []) (absent done) done)
  start-holds i marks d l e =
      let h = IsChain-discipline s 0 d in
      let rule : HasSoundLinks s (kind_at s 0) (Post h.post) = subst (HasSoundLinks s (kind_at s 0)) h.shape (sound.links 0) in
      let some : 1 ≤ (kind_at s 0).lo = sound.some 0 in
      let bound : (kind_at s 0).lo ≤ (kind_at s 0).hi = sound.bounds 0 in
      let w : walk s (node i 0 (x ∷ []) (absent done) done) ≡ x ∷ [] = walk-chain s i 0 h.post (x ∷ []) (absent done) h.shape in
      let sp : spine s (node i 0 (x ∷ []) (absent done) done) ≡ 0 = spine-post s i 0 h.post (x ∷ []) (absent done) h.shape in
      record {
        kind = 0;
        run = x ∷ [];
        links = absent done;
        is = refl;
        stands = (e.node.changed, tt, tt);
        once = (tt, tt, tt, tt, tt);
        conforms = record {
          hangs = hang-post s i 0 h.post (x ∷ []) (absent done) h.shape rule.0 (omega arith) (omega arith) (refl, refl);
          level = (level-post s 0 h.post (absent done) h.shape, tt, tt);
          low = subst (λ n. n ≤ MOST_SPINE) (sym sp) (omega arith);
          rising = subst IsRising (sym w) tt;
        };
        chain = d;
        marked = subst (AllMarked (set marks x.at true)) (sym w) (mark-set marks x.at l, tt);
        low = inr (omega (arith, sp));
      }

  module _ (i n : ℕ) (marks : List Bool) (t : Trees) (h : Holds s a i n marks t) where
    -- an element that isn't marked can be put in
    pub can-put : get_or marks x.at false ≡ false → CanPutIn s a x i t
    can-put free = record {
      kind = h.kind;
      run = h.run;
      links = h.links;
      is = h.is;
      stands = h.stands;
      once = h.once;
      conforms = h.conforms;
      lacks = Lacks-unmarked marks x.at (walk s t) free h.marked;
    }

    -- with the element in, and marked, there is such a chain again
    done-holds : x.at < length marks → get_or marks x.at false ≡ false → IsLow s (n + 1) → (deep : Option ℕ) (d : IsDone s a b x t deep)
        → Holds s b i (n + 1) (set marks x.at true) d.tree
    done-holds l free low deep d =
        let hangs : Hang s (whole s h.kind ∷ []) d.tree = d.puts.hangs h.kind h.conforms.hangs in
        let root : get_or (roots d.tree) 0 None ≡ Some i = ap (λ ts. get_or ts 0 None) (d.same_root ∙ ap roots h.is) in
        let top : IsNode i h.kind d.tree = next-node s h.kind i d.tree hangs root in
        let more : spine s d.tree ≤ 1 + spine s t = d.puts.spine_low in
        let small : ((k : ℕ) → HasNoEnds (shape_at s k)) ⊎ (spine s d.tree ≤ n + 1) = keep h.low more in
        record {
          kind = h.kind;
          run = top.run;
          links = top.links;
          is = top.is;
          stands = d.puts.stands;
          once = d.puts.once;
          conforms = record {
            hangs = hangs;
            level = d.puts.level h.conforms.level;
            low = within small low;
            rising = subst IsRising (sym d.puts.walk_is) (IsRising-put_in x (walk s t) h.conforms.rising (Lacks-unmarked marks x.at (walk s t) free h.marked));
          };
          chain = h.chain;
          marked = subst (AllMarked (set marks x.at true)) (sym d.puts.walk_is)
              (AllMarked-put_in (set marks x.at true) x (walk s t) (mark-set marks x.at l) (AllMarked-kept marks x.at (walk s t) h.marked));
          low = small;
        }
      where
        keep : ((k : ℕ) → HasNoEnds (shape_at s k)) ⊎ (spine s t ≤ n) → spine s d.tree ≤ 1 + spine s t
            → ((k : ℕ) → HasNoEnds (shape_at s k)) ⊎ (spine s d.tree ≤ n + 1)
        keep (inl f) m = inl f
        keep (inr f) m = inr (omega arith)

        within : ((k : ℕ) → HasNoEnds (shape_at s k)) ⊎ (spine s d.tree ≤ n + 1) → IsLow s (n + 1) → spine s d.tree ≤ MOST_SPINE
        within (inl f) q = let z : spine s d.tree ≡ 0 = spine-none s f d.tree in omega arith
        within (inr f) (inl q) = let z : spine s d.tree ≡ 0 = spine-none s q d.tree in omega arith
        within (inr f) (inr q) = omega arith

    -- what an insertion leaves
    pub put-holds : x.at < length marks → get_or marks x.at false ≡ false → IsLow s (n + 1) → (step : Step) (m p : ℕ) → Leaves s a b x t step m p
        → HoldsAfter s b i (n + 1) (set marks x.at true) step
    put-holds l free low (Done deep) m p d = (d.tree, done-holds l free low deep d)
    put-holds l free low (Pass j at_side xs above) m p q = some-node b j q.on.passer q.on.there

    -- one more is counted
    pub still-holds : Holds s a i (n + 1) marks t
    still-holds = record {
      kind = h.kind;
      run = h.run;
      links = h.links;
      is = h.is;
      stands = h.stands;
      once = h.once;
      conforms = h.conforms;
      chain = h.chain;
      marked = h.marked;
      low = more h.low;
    }
      where
        more : ((k : ℕ) → HasNoEnds (shape_at s k)) ⊎ (spine s t ≤ n) → ((k : ℕ) → HasNoEnds (shape_at s k)) ⊎ (spine s t ≤ n + 1)
        more (inl f) = inl f
        more (inr f) = inr (omega arith)

    -- the chain can be read
    pub holds-leads : LeadsInto a (Some i) t
    holds-leads = record { stands = h.stands; place = 0; is = ap (λ ts. get_or ts 0 None) (sym (ap roots h.is)) }

-- ---- reading

-- a link that leads to a node
pub record Reads (a : ArenaState) (i : ℕ) : Type 0 where
  pub kind : ℕ
  pub run : List Elem
  pub links : Trees
  pub at : node_at a i ≡ Some (stored kind run links)
  pub stands : Stands a links

-- a link of links that stand leads to a node that stands
pub reads : (a : ArenaState) (i place : ℕ) (t : Trees) → Stands a t → Some i ≡ get_or (roots t) place None → Reads a i
reads a i place done st e = cc
reads a i zero (absent rest) st e = cc
reads a i (suc place) (absent rest) st e = reads a i place rest st e
reads a i zero (node j k run ls rest) st e =
    let same : j ≡ i = cc (e) in
    record { kind = k; run = run; links = ls; at = subst (λ n. node_at a n ≡ Some (stored k run ls)) same st.0; stands = st.1 }
reads a i (suc place) (node j k run ls rest) st e = reads a i place rest st.2 e

-- the node is there
pub leads-some : (a : ArenaState) (i : ℕ) (t : Trees) → LeadsInto a (Some i) t → IsSome (node_at a i)
leads-some a i t h = let r = reads a i h.place t h.stands h.is in subst IsSome (sym r.at) refl

-- a link of the node leads on
pub leads-on : (a : ArenaState) (i place : ℕ) (link : Option ℕ) (t : Trees) → LeadsInto a (Some i) t
    → IfSome (node_at a i) (λ n. link ≡ get_or n.links place None) → (u : Trees) × LeadsInto a link u
leads-on a i place link t h e =
    let r = reads a i h.place t h.stands h.is in
    let is : link ≡ get_or (roots r.links) place None = subst (λ o. IfSome o (λ n. link ≡ get_or n.links place None)) r.at e in
    (r.links, record { stands = r.stands; place = place; is = is })

-- no link leads nowhere
pub leads-none : (a : ArenaState) → LeadsInto a None done
leads-none a = record { stands = tt; place = 0; is = refl }

-- ---- counts

-- fewer are low too
pub IsLow-fewer : (s : List NodeKind) (n m : ℕ) → n ≤ m → IsLow s m → IsLow s n
IsLow-fewer s n m l (inl f) = inl f
IsLow-fewer s n m l (inr h) = inr (omega (arith, l, h))

-- ---- the same, by the coordinate

module _ (s : List NodeKind) (sound : AreSound s) (a b : ArenaState) (x : Elem) (at : ℕ) (e : x.at ≡ at) where
  -- a node that is made begins a chain
  pub start-at : (i : ℕ) (marks : List Bool) → discipline (shape_at s 0) ≡ chains → at < length marks
      → ChangesNode a b i (Some (record { kind = 0; run = x ∷ []; links = None ∷ [] })) → (t : Trees) × Holds s b i 0 (set marks at true) t
  start-at i marks d l c = (
    node i 0 (x ∷ []) (absent done) done,
    subst (λ n. Holds s b i 0 (set marks n true) (node i 0 (x ∷ []) (absent done) done)) e
        (start-holds s sound a b x i marks d (subst (λ n. n < length marks) (sym e) l) c),
  )

  -- an element that isn't marked can be put in
  pub can-put-at : (i n : ℕ) (marks : List Bool) (t : Trees) → Holds s a i n marks t → get_or marks at false ≡ false → CanPutIn s a x i t
  can-put-at i n marks t h free = can-put s sound a b x i n marks t h (subst (λ m. get_or marks m false ≡ false) (sym e) free)

  -- what an insertion leaves
  pub put-at : (i n : ℕ) (marks : List Bool) (t : Trees) → Holds s a i n marks t → at < length marks → get_or marks at false ≡ false → IsLow s (n + 1)
      → (step : Step) (m p : ℕ)
      → Leaves s a b x t step m p → HoldsAfter s b i (n + 1) (set marks at true) step
  put-at i n marks t h l free low step m p left =
      subst (λ k. HoldsAfter s b i (n + 1) (set marks k true) step) e
      (put-holds s sound a b x i n marks t h (subst (λ k. k < length marks) (sym e) l)
      (subst (λ k. get_or marks k false ≡ false) (sym e) free) low step m p left)

-- what is left can be read
pub readable : (s : List NodeKind) (a : ArenaState) (i n : ℕ) (marks : List Bool) (step : Step) → HoldsAfter s a i n marks step → IsReadable a i step
readable s a i n marks (Done deep) h = (h.0, record { stands = h.1.stands; place = 0; is = ap (λ ts. get_or ts 0 None) (sym (ap roots h.1.is)) })
readable s a i n marks (Pass j at_side xs above) h = h

-- a step that is there can be read
pub step-readable : (s : List NodeKind) (a : ArenaState) (i n : ℕ) (marks : List Bool) (t : Trees) → Holds s a i n marks t → IsReadable a i (Done (Some 0))
step-readable s a i n marks t h = (t, record { stands = h.stands; place = 0; is = ap (λ ts. get_or ts 0 None) (sym (ap roots h.is)) })
