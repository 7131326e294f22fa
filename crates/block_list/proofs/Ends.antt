-- What is done at a node of a chain is done to the structure that begins there.
use Rattle.std.proofs.Common.{◌≡◌, ◌≢◌, ◌≤◌, ◌+◌, ℕ, List, [], ◌∷◌, ◌++◌, length, Option, Some, None, IsSome, refl, ap, ◌∙◌, sym, subst, arith}
use Rattle.std.specs.Prelude.{slice_set, is_some}
use Rattle.node_arena.specs.declared.elements.Elem.{Elem}
use Rattle.node_arena.specs.declared.kinds.NodeKind.{NodeKind}
use Rattle.node_arena.specs.declared.kinds.Shape.{Shape}
use Rattle.node_arena.specs.declared.kinds.Shape.TheVariants.{Flat, Post, Ends, Woven}
use Rattle.node_arena.specs.Arenas.{ArenaState, NodeState, node_at, ChangesNode}
use Rattle.node_arena.specs.Conforming.{Hang, IsLevel, spine, whole}
use Rattle.node_arena.specs.Insertions.{put_in, all_put_in}
use Rattle.node_arena.specs.Kinds.{kind_at, shape_at}
use Rattle.std.specs.Option.{IsSomeAnd}
use Rattle.node_arena.specs.Passing.{PutsAt, IsDone, Deepens, GoesDeep, wedge_depth}
use Rattle.node_arena.specs.Rules.{post_of}
use Rattle.node_arena.specs.Trees.{Trees, done, absent, node, roots, stored, Stands, Avoids, IsReachedOnce}
use Rattle.node_arena.specs.Walks.{walk}
use Rattle.node_arena.proofs.ChangesLemmas.{node_differs, ChangesOnly-change}
use Rattle.node_arena.proofs.DepthsLemmas.{Deepens-same, wedge_depth-ends, wedge_depth-pushes, GoesDeep-told, GoesDeep-within}
use Rattle.node_arena.proofs.FramesLemmas.{Stands-changed, Avoids-free, Avoids-root, IsApart-done}
use Rattle.block_list.specs.Chains.{links_behind}
use Rattle.block_list.proofs.Parts.{hang-chain, hang-post, hang-ends, level-post, level-ends, spine-post, spine-ends}
use Rattle.block_list.proofs.Walks.{walk-chain, walk-half}

-- a node of a chain that stands, and what its schema says of it
pub record Link (s : List NodeKind) (a : ArenaState) (i k p : ℕ) (run : List Elem) (ls : Trees) : Type 0 where
  pub shape : shape_at s k ≡ Post p
  pub lo : (kind_at s k).lo ≡ 1
  pub low : 1 ≤ length run
  pub high : length run ≤ (kind_at s k).hi
  pub links : Hang s (whole s p ∷ []) ls
  pub stands : Stands a (node i k run ls done)
  pub once : IsReachedOnce (node i k run ls done)

-- a node that is known is there
pub some-node : (a : ArenaState) (i : ℕ) (n : NodeState) → node_at a i ≡ Some n → IsSome (node_at a i)
some-node a i n e = subst IsSome (sym e) refl

module _ (s : List NodeKind) (x : Elem) (i k p : ℕ) (run : List Elem) (ls : Trees) where
  -- elements put in behind a run are put in with the run, which may have been cut
  pub linked : (a b c d : ArenaState) (cut xs : List Elem) (r top : Option ℕ) (v : Trees) → Link s a i k p run ls → roots ls ≡ r ∷ []
      → 1 ≤ length cut → length cut ≤ (kind_at s k).hi → cut ++ all_put_in xs (walk s ls) ≡ put_in x (run ++ walk s ls)
      → IsSome (node_at b i) → ((j : ℕ) → j ≢ i → node_at b j ≡ node_at a j)
      → PutsAt s p b c xs ls v → roots v ≡ top ∷ []
      → ChangesNode c d i (Some (record { kind = k; run = cut; links = slice_set (roots ls) 0 top }))
      → (deep : Option ℕ) → GoesDeep s b c ls v deep → IsDone s a d x (node i k run ls done) deep
  linked a b c d cut xs r top v l one low high put some same w root e deep goes =
      let tops : slice_set (roots ls) 0 top ≡ roots v = ap (λ ts. slice_set ts 0 top) one ∙ sym root in
      let at : node_at d i ≡ Some (stored k cut v) = e.node.changed ∙ ap (λ ts. Some (record { kind = k; run = cut; links = ts })) tops in
      let away : Avoids i v = w.only.news i some l.once.0 in
      let taken = λ (j : ℕ) (free : node_at b j ≡ None). node_differs b i j some free in
      record {
        tree = node i k cut v done;
        same_root = refl;
        puts = record {
          stands = (at, Stands-changed v e away w.stands, tt);
          once = (away, tt, IsApart-done v, w.once, tt);
          hangs = λ m h. hang-chain s i k p m run cut ls v l.shape l.lo low high w.hangs h;
          level = λ h. (level-post s k p v l.shape, w.level, tt);
          spine_low = let f : spine s (node i k cut v done) ≡ spine s v = spine-post s i k p cut v l.shape in
              let g : spine s (node i k run ls done) ≡ spine s ls = spine-post s i k p run ls l.shape in
              let h : spine s v ≤ 1 + spine s ls = w.spine_low in
              omega arith;
          walk_is = walk-chain s i k p cut v l.shape ∙ ap (λ es. cut ++ es) w.walk_is ∙ put ∙ ap (put_in x) (sym (walk-chain s i k p run ls l.shape));
          only = record {
            others = λ j old new.
                let off : j ≢ i = λ f. old.0 (sym f) in
                e.node.others j off ∙ w.only.others j old.1 new.1 ∙ same j off;
            stays = λ j new. (new.0, w.only.stays j new.1, tt);
            news = λ j h old.
                let off : j ≢ i = λ f. old.0 (sym f) in
                (old.0, w.only.news j (subst IsSome (sym (same j off)) h) old.1, tt);
          };
        };
        goes = GoesDeep-within s a b c d ls v (node i k run ls done) (node i k cut v done) deep deep goes
            (Deepens-same deep (spine s ls) (spine s v) (spine s (node i k run ls done)) (spine s (node i k cut v done))
            (spine-post s i k p run ls l.shape) (spine-post s i k p cut v l.shape) goes.deepens)
            (λ none. none) (λ j free. sym (same j (taken j free)) ∙ free) (λ j free. e.node.others j (taken j free)) (λ j old. old.1) (λ j new. new.1);
      }

  -- the run takes x
  pub fitted : (a b : ArenaState) (wider : List Elem) → Link s a i k p run ls → IsLevel s (node i k run ls done) → 1 ≤ length wider
      → length wider ≤ (kind_at s k).hi → wider ++ walk s ls ≡ put_in x (run ++ walk s ls)
      → ChangesNode a b i (Some (stored k wider ls)) → IsDone s a b x (node i k run ls done) (Some 0)
  fitted a b wider l lev low high put e = record {
    tree = node i k wider ls done;
    same_root = refl;
    puts = record {
      stands = (e.node.changed, Stands-changed ls e l.once.0 l.stands.1, tt);
      once = l.once;
      hangs = λ m h. hang-chain s i k p m run wider ls ls l.shape l.lo low high l.links h;
      level = λ h. h;
      spine_low = let f : spine s (node i k wider ls done) ≡ spine s ls = spine-post s i k p wider ls l.shape in
          let g : spine s (node i k run ls done) ≡ spine s ls = spine-post s i k p run ls l.shape in
          omega arith;
      walk_is = walk-chain s i k p wider ls l.shape ∙ put ∙ ap (put_in x) (sym (walk-chain s i k p run ls l.shape));
      only = ChangesOnly-change a b (node i k run ls done) (node i k wider ls done) i (Some (stored k wider ls)) e (λ new. new.0 refl) (λ j new. new)
          (λ j h old. old);
    };
    goes = GoesDeep-told s a b (node i k run ls done) (node i k wider ls done) 0 (Deepens-same (Some 0) (spine s ls) (spine s ls)
        (spine s (node i k run ls done)) (spine s (node i k wider ls done))
        (spine-post s i k p run ls l.shape) (spine-post s i k p wider ls l.shape) (omega arith));
  }

  -- a new node of the kind behind, whose links are as the kind has them
  pub record Behind (j : ℕ) (upper : List Elem) (r : Option ℕ) : Type 0 where
    pub behind : Trees
    pub links : roots behind ≡ links_behind (shape_at s p) r
    pub hangs : Hang s (whole s p ∷ []) (node j p upper behind done)
    pub level : IsLevel s ls → IsLevel s (node j p upper behind done)
    pub spine_low : spine s (node j p upper behind done) ≤ 1 + spine s ls
    pub deepens : Deepens (wedge_depth (shape_at s p) (is_some r) 0) (spine s ls) (spine s (node j p upper behind done))
    pub walk_is : walk s (node j p upper behind done) ≡ upper ++ walk s ls
    pub stands : (a : ArenaState) → Stands a ls → Stands a behind
    pub away : (m : ℕ) → Avoids m ls → Avoids m behind
    pub stays : (m : ℕ) → Avoids m behind → Avoids m ls
    pub leads : roots ls ≡ r ∷ []
    pub once : IsReachedOnce ls → IsReachedOnce behind

  -- such a node, for a kind that is its own kind behind
  pub behind-node : (j : ℕ) (upper : List Elem) (r : Option ℕ) (shape : Shape) → shape_at s p ≡ shape → post_of shape ≡ Some p → roots ls ≡ r ∷ []
      → (kind_at s p).lo ≡ 1
      → 1 ≤ length upper → length upper ≤ (kind_at s p).hi → Hang s (whole s p ∷ []) ls → Behind j upper r
  behind-node j upper r Flat e own one lo low high h = absurd (let f : None ≡ Some p = own in cc)
  behind-node j upper r Woven e own one lo low high h = absurd (let f : None ≡ Some p = own in cc)
  behind-node j upper r (Post q) e own one lo low high h =
      let same : q ≡ p = cc (own) in
      let shape : shape_at s p ≡ Post p = e ∙ ap Post same in
      record {
        behind = ls;
        links = one ∙ ap (λ sh. links_behind sh r) (sym e);
        hangs = hang-post s j p p upper ls shape lo low high h;
        level = λ lev. (level-post s p p ls shape, lev, tt);
        spine_low = let f : spine s (node j p upper ls done) ≡ spine s ls = spine-post s j p p upper ls shape in omega arith;
        deepens = subst (λ sh. Deepens (wedge_depth sh (is_some r) 0) (spine s ls) (spine s (node j p upper ls done))) (sym e)
            (let f : spine s (node j p upper ls done) ≡ spine s ls = spine-post s j p p upper ls shape in omega arith);
        walk_is = walk-chain s j p p upper ls shape;
        stands = λ a st. st;
        away = λ m v. v;
        stays = λ m v. v;
        leads = one;
        once = λ o. o;
      }
  behind-node j upper r (Ends q0 q) e own one lo low high h =
      let same : q ≡ p = cc (own) in
      let shape : shape_at s p ≡ Ends q0 p = e ∙ ap (Ends q0) same in
      record {
        behind = absent ls;
        links = ap (λ ts. None ∷ ts) one ∙ ap (λ sh. links_behind sh r) (sym e);
        hangs = hang-ends s j p q0 p upper ls shape lo low high h;
        level = λ lev. (level-ends s p q0 p (absent ls) shape, lev, tt);
        spine_low = let f : spine s (node j p upper (absent ls) done) ≡ 1 + spine s (absent ls) = spine-ends s j p q0 p upper (absent ls) shape in omega arith;
        deepens = subst (λ sh. Deepens (wedge_depth sh (is_some r) 0) (spine s ls) (spine s (node j p upper (absent ls) done))) (sym e)
            (wedge_depth-ends s ls q0 q _ r one (spine-ends s j p q0 p upper (absent ls) shape));
        walk_is = walk-half s j p q0 p upper ls shape;
        stands = λ a st. st;
        away = λ m v. v;
        stays = λ m v. v;
        leads = one;
        once = λ o. o;
      }

  -- the run is too long, and its upper part goes into a new node
  pub wedged : (a c b : ArenaState) (j : ℕ) (lower upper : List Elem) (r : Option ℕ) → Link s a i k p run ls → Behind j upper r → 1 ≤ length lower
      → length lower ≤ (kind_at s k).hi
      → lower ++ (upper ++ walk s ls) ≡ put_in x (run ++ walk s ls) → node_at a j ≡ None
      → ChangesNode a c j (Some (record { kind = p; run = upper; links = links_behind (shape_at s p) r }))
      → ChangesNode c b i (Some (record { kind = k; run = lower; links = Some j ∷ [] }))
      → IsDone s a b x (node i k run ls done) (wedge_depth (shape_at s p) (is_some r) 0)
  wedged a c b j lower upper r l w low high put free e1 e2 =
      let some : IsSome (node_at a i) = some-node a i (stored k run ls) l.stands.0 in
      let differ : j ≢ i = node_differs a i j some free in
      let fresh : Avoids j ls = Avoids-free a ls j free l.stands.1 in
      let new : node_at b j ≡ Some (stored p upper w.behind) =
      e2.node.others j differ ∙ e1.node.changed ∙ ap (λ ts. Some (record { kind = p; run = upper; links = ts })) (sym w.links) in
      let below : Stands b w.behind = Stands-changed w.behind e2 (w.away i l.once.0) (Stands-changed w.behind e1 (w.away j fresh) (w.stands a l.stands.1)) in
      record {
        tree = node i k lower (node j p upper w.behind done) done;
        same_root = refl;
        puts = record {
          stands = (e2.node.changed, (new, below, tt), tt);
          once = (
            (differ, w.away i l.once.0, tt),
            tt,
            IsApart-done (node j p upper w.behind done),
            (w.away j fresh, tt, IsApart-done w.behind, w.once l.once.3, tt),
            tt,
          );
          hangs = λ m h. hang-chain s i k p m run lower ls (node j p upper w.behind done) l.shape l.lo low high w.hangs h;
          level = λ h. (level-post s k p (node j p upper w.behind done) l.shape, w.level h.1, tt);
          spine_low = let f : spine s (node i k lower (node j p upper w.behind done) done) ≡ spine s (node j p upper w.behind done) =
              spine-post s i k p lower (node j p upper w.behind done) l.shape in
              let g : spine s (node i k run ls done) ≡ spine s ls = spine-post s i k p run ls l.shape in
              let h : spine s (node j p upper w.behind done) ≤ 1 + spine s ls = w.spine_low in
              omega arith;
          walk_is = walk-chain s i k p lower (node j p upper w.behind done) l.shape ∙ ap (λ es. lower ++ es) w.walk_is ∙ put
              ∙ ap (put_in x) (sym (walk-chain s i k p run ls l.shape));
          only = record {
            others = λ m old now. e2.node.others m (λ f. now.0 (sym f)) ∙ e1.node.others m (λ f. now.1.0 (sym f));
            stays = λ m now. (now.0, w.stays m now.1.1, tt);
            news = λ m h old. (old.0, (node_differs a m j h free, w.away m old.1, tt), tt);
          };
        };
        goes = record {
          deepens = Deepens-same (wedge_depth (shape_at s p) (is_some r) 0) (spine s ls) (spine s (node j p upper w.behind done))
              (spine s (node i k run ls done))
              (spine s (node i k lower (node j p upper w.behind done) done)) (spine-post s i k p run ls l.shape)
              (spine-post s i k p lower (node j p upper w.behind done) l.shape) w.deepens;
          pushes = wedge_depth-pushes a b (node i k run ls done) (node i k lower (node j p upper w.behind done) done) (shape_at s p) r j 0 free
              (λ now. now.1.0 refl) (λ m is old. Avoids-root ls m [] (w.leads ∙ ap (λ l. l ∷ []) is) old.1)
              (λ q0 q m sh is. subst (λ o. IsSomeAnd o (λ n. n.links ≡ None ∷ Some m ∷ [])) (sym new)
              (w.links ∙ ap (λ sh. links_behind sh r) sh ∙ ap (λ l. None ∷ l ∷ []) is));
        };
      }
