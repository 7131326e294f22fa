-- A child of a woven tree, and what becomes of the tree when the child has grown.
use Rattle.std.proofs.Common.{◌≡◌, ◌≤◌, ◌+◌, ◌-◌, ◌*◌, inl, inr, ℕ, zero, suc, List, [], ◌∷◌, ◌++◌, length, take, drop, get_or, Some, None, IsSome, refl, ap, ◌∙◌, sym, subst, arith, append-nil, length-append, take-append-drop}
use Rattle.std.specs.List.{insert}
use Rattle.node_arena.specs.declared.elements.Elem.{Elem}
use Rattle.node_arena.specs.declared.kinds.NodeKind.{NodeKind}
use Rattle.node_arena.specs.Arenas.{ArenaState, node_at, with_link}
use Rattle.node_arena.specs.Trees.{Trees, done, node, roots, Stands, Avoids, IsReachedOnce, ChangesOnly}
use Rattle.node_arena.specs.Kinds.{kind_at, shape_at}
use Rattle.node_arena.specs.Walks.{walk, walks, joined, parts, weave}
use Rattle.node_arena.specs.Conforming.{height, IsRising}
use Rattle.node_arena.specs.Insertions.{put_in, DifferInFew}
use Rattle.node_arena.proofs.ChangesLemmas.{ChangesOnly-same, ChangesOnly-beside, KeepsOutside-only, DifferInFew-wider}
use Rattle.node_arena.proofs.RowsLemmas.{beside, roots-beside, walks-beside, Avoids-beside, beside-Avoids, beside-Stands, beside-IsReachedOnce, IsReachedOnce-beside, Stands-beside, exchanged}
use Rattle.btree_nodes.proofs.WeaveLemmas.{tail, walk-child, walk-two}
use Rattle.btree_nodes.specs.Weaving.{IsFan, IsRow, IsWovenKind, IsWovenTree}
use Rattle.btree_nodes.specs.Splits.{node_of}
use Rattle.btree_nodes.specs.Descents.{KeepsRoot, SplitsRoot}
use Rattle.node_arena.proofs.PutInLemmas.{AllBelow, Reaches, put_in-past, put_in-first}
use Rattle.btree_nodes.proofs.PlacesLemmas.{walk-put, walk-child-rising, walk-bare}
use Rattle.btree_nodes.proofs.RowLemmas.{count-beside, count-walks, IsRow-beside, beside-IsRow, IsRow-height, IsRow-some, Focus, walks-one, IsApart-done}
use Rattle.btree_nodes.proofs.SplitLemmas.{Wide, walk-node}

-- the length of the first elements
pub length_take : {A : Type 0} (m : ℕ) (ys : List A) → m ≤ length ys → length (take m ys) ≡ m
length_take zero ys h = refl
length_take (suc m) [] h = absurd (omega arith)
length_take (suc m) (y ∷ ys) h = ap suc (length_take m ys (omega arith))

-- the length of the others
pub length_drop : {A : Type 0} (m : ℕ) (ys : List A) → length (drop m ys) ≡ length ys - m
length_drop zero ys = omega arith
length_drop (suc m) [] = omega arith
length_drop (suc m) (y ∷ ys) = let ih : length (drop m ys) ≡ length ys - m = length_drop m ys in omega arith

-- what a woven tree says, its root taken apart
pub record Open (s : List NodeKind) (k : ℕ) (a : ArenaState) (i levels : ℕ) (run : List Elem) (ls : Trees) : Type 0 where
  pub kind : IsWovenKind s k
  pub stands : Stands a (node i k run ls done)
  pub once : IsReachedOnce (node i k run ls done)
  pub some : 1 ≤ length run
  pub few : length run ≤ (kind_at s k).hi
  pub fan : IsFan run ls
  pub line : IsRow s k (kind_at s k).lo (height s ls) ls
  pub rising : IsRising (joined (weave run (walks s ls)))
  pub most : (kind_at s k).hi ≤ a.nodes.most
  pub low : 1 + height s ls ≤ levels
  pub room : 1 + height s ls ≤ a.nodes.spare

-- the root is taken apart
pub opened : (s : List NodeKind) (k : ℕ) (a : ArenaState) (i levels : ℕ) (t : Trees) → (w : IsWovenTree s k a i levels t) → Open s k a i levels w.run w.links
opened s k a i levels t w =
    let r : IsRow s k 1 (1 + height s w.links) (node i k w.run w.links done) = subst (λ u. IsRow s k 1 (height s u) u) w.is w.row in
    record {
      kind = w.kind;
      stands = subst (Stands a) w.is w.stands;
      once = subst IsReachedOnce w.is w.once;
      some = r.1;
      few = r.2;
      fan = r.3;
      line = r.5;
      rising = subst IsRising (walk-node s i k w.run w.links w.kind.shape) (subst (λ u. IsRising (walk s u)) w.is w.rising);
      most = w.most;
      low = subst (λ u. height s u ≤ levels) w.is w.low;
      room = subst (λ u. height s u ≤ a.nodes.spare) w.is w.room;
    }

module _ (s : List NodeKind) (k : ℕ) (a : ArenaState) (i levels : ℕ) (run : List Elem) (ls : Trees) (p : ℕ) where
  -- without a link at the place the node is childless
  pub childless : Open s k a i levels run ls → p ≤ length run → get_or (roots ls) p None ≡ None → ls ≡ done
  childless o l e = by_fan o.fan
    where
      by_fan : IsFan run ls → ls ≡ done
      by_fan (inl none) = none
      by_fan (inr count) = absurd (IsRow-some s k (kind_at s k).lo (height s ls) ls p o.line (omega arith) e)

  -- x goes into the run of a childless node
  pub leaf : (x : Elem) → Open s k a i levels run ls → p ≤ length run → ls ≡ done → AllBelow x.at (take p run) → Reaches x.at (drop p run)
      → Wide s k a a x i run ls (insert run p x) ls
  leaf x o l none under reach =
      let len1 : length (take p run) ≡ p = length_take p run l in
      let len2 : length (drop p run) ≡ length run - p = length_drop p run in
      let len : length (insert run p x) ≡ length (take p run) + length (x ∷ drop p run) = length-append (take p run) (x ∷ drop p run) in
      record {
        keeps_here = refl;
        there = subst IsSome (sym o.stands.0) refl;
        stands = o.stands.1;
        once = o.once.3;
        avoids = o.once.0;
        high = refl;
        line = o.line;
        fan = inl none;
        more = omega arith;
        walk_is =
            ap (λ t. joined (weave (insert run p x) (walks s t))) none
            ∙ walk-bare (insert run p x)
            ∙ ap (λ w. take p run ++ w) (sym (put_in-first x (drop p run) reach))
            ∙ sym (put_in-past x (take p run) (drop p run) under)
            ∙ ap (put_in x) (take-append-drop p run)
            ∙ ap (put_in x) (sym (walk-bare run))
            ∙ ap (λ t. put_in x (joined (weave run (walks s t)))) (sym none);
        only = ChangesOnly-same a ls;
        differ = record { touched = []; few = omega arith; others = λ j v. refl };
      }

  module _ (c : ℕ) (f : Focus k ls p c) where
    abbrev pub child : Trees
    child = node c k f.run f.inner done

    abbrev pub child-walk : List Elem
    child-walk = joined (parts (shape_at s k) f.run (walks s f.inner))

    -- the place in the row
    pub record Between : Type 0 where
      pub many : length (roots ls) ≡ length run + 1
      pub before_count : length (walks s f.before) ≡ length (take p run)
      pub later_count : length (walks s f.later) ≡ length (drop p run)
      pub walk_is : joined (weave run (walks s ls)) ≡ joined (weave (take p run ++ drop p run) (walks s f.before ++ child-walk ∷ walks s f.later))
      pub line_before : IsRow s k (kind_at s k).lo (height s ls) f.before
      pub line_child : IsRow s k (kind_at s k).lo (height s ls) child
      pub line_later : IsRow s k (kind_at s k).lo (height s ls) f.later
      pub high : height s child ≡ height s ls
      pub stands : Stands a (beside f.before (beside child f.later))
      pub once : IsReachedOnce (beside f.before (beside child f.later))

    many-of : Open s k a i levels run ls → length (roots ls) ≡ length run + 1
    many-of o = by_fan o.fan
      where
        by_fan : IsFan run ls → length (roots ls) ≡ length run + 1
        by_fan (inr count) = count
        by_fan (inl none) =
            let e : length (roots ls) ≡ 0 = ap (λ t. length (roots t)) none in
            let g : length (roots ls) ≡ length (roots f.before) + suc (length (roots f.later)) = ap (λ t. length (roots t)) f.is
            ∙ count-beside f.before (node c k f.run f.inner f.later) in
            absurd (omega arith)

    pub between : Open s k a i levels run ls → p ≤ length run → Between
    between o l =
        let many : length (roots ls) ≡ length run + 1 = many-of o in
        let len1 : length (take p run) ≡ p = length_take p run l in
        let len2 : length (drop p run) ≡ length run - p = length_drop p run in
        let g : length (roots ls) ≡ length (roots f.before) + suc (length (roots f.later)) = ap (λ t. length (roots t)) f.is
        ∙ count-beside f.before (node c k f.run f.inner f.later) in
        let at : length (roots f.before) ≡ p = f.place in
        let n1 : length (walks s f.before) ≡ length (roots f.before) = count-walks s f.before in
        let n2 : length (walks s f.later) ≡ length (roots f.later) = count-walks s f.later in
        let two = beside-IsRow s k (kind_at s k).lo (height s ls) f.before (node c k f.run f.inner f.later)
        (subst (IsRow s k (kind_at s k).lo (height s ls)) f.is o.line) in
        record {
          many = many;
          before_count = omega arith;
          later_count = omega arith;
          walk_is =
              ap (λ t. joined (weave run (walks s t))) f.is
              ∙ ap (λ w. joined (weave run w)) (walks-beside s f.before (node c k f.run f.inner f.later))
              ∙ ap (λ r. joined (weave r (walks s f.before ++ child-walk ∷ walks s f.later))) (sym (take-append-drop p run));
          line_before = two.0;
          line_child = (two.1.0, two.1.1, two.1.2, two.1.3, two.1.4, two.1.5, tt);
          line_later = two.1.6;
          high = two.1.4;
          stands = subst (Stands a) f.is o.stands.1;
          once = subst IsReachedOnce f.is o.once.3;
        }

    pub child-woven : Open s k a i levels run ls → p ≤ length run → IsWovenTree s k a c (levels - 1) child
    child-woven o l =
        let b = between o l in
        let st = beside-Stands a f.before (beside child f.later) b.stands in
        let on = beside-IsReachedOnce f.before (beside child f.later) b.once in
        let some : 1 ≤ (kind_at s k).lo = o.kind.some in
        let high : height s child ≡ height s ls = b.high in
        record {
          run = f.run;
          links = f.inner;
          is = refl;
          kind = o.kind;
          stands = (beside-Stands a child f.later st.1).0;
          once = (beside-IsReachedOnce child f.later on.1).0;
          row = (refl, omega (arith, b.line_child.1), b.line_child.2, b.line_child.3, refl, b.line_child.5, tt);
          rising = subst IsRising (sym (append-nil child-walk)) (walk-child-rising (take p run) (drop p run) (walks s f.before)
              (walks s f.later) child-walk b.before_count b.later_count (subst IsRising b.walk_is o.rising));
          most = o.most;
          low = omega (arith, o.low);
          room = omega (arith, o.room);
        }

    -- the walk with x put into the child's
    put-child : (x : Elem) → Open s k a i levels run ls → p ≤ length run → AllBelow x.at (take p run) → Reaches x.at (drop p run)
        → put_in x (joined (weave run (walks s ls))) ≡ joined (weave (take p run) (walks s f.before)) ++
        (put_in x (walk s child) ++ joined (tail (drop p run) (walks s f.later)))
    put-child x o l under reach =
        let b = between o l in
        ap (put_in x) b.walk_is
        ∙ walk-put x (take p run) (drop p run) (walks s f.before) (walks s f.later) child-walk b.before_count b.later_count under reach
        (subst IsRising b.walk_is o.rising)
        ∙ ap (λ w. joined (weave (take p run) (walks s f.before)) ++ (put_in x w ++ joined (tail (drop p run) (walks s f.later)))) (sym (append-nil child-walk))

    module _ (b : ArenaState) (new : Trees) where
      -- the row with the child's new trees in its place
      pub record Placed : Type 0 where
        pub same : node_at b i ≡ node_at a i
        pub stands : Stands b (beside f.before (beside new f.later))
        pub once : IsReachedOnce (beside f.before (beside new f.later))
        pub avoids : Avoids i (beside f.before (beside new f.later))
        pub high : height s (beside f.before (beside new f.later)) ≡ height s ls
        pub line : IsRow s k (kind_at s k).lo (height s ls) (beside f.before (beside new f.later))
        pub only : ChangesOnly a b ls (beside f.before (beside new f.later))

      pub placed : Open s k a i levels run ls → p ≤ length run → Stands b new → IsReachedOnce new → IsRow s k (kind_at s k).lo (height s child) new
          → 1 ≤ length (roots new) → ChangesOnly a b child new → Placed
      placed o l st on line some only =
          let w = between o l in
          let keeps = KeepsOutside-only a b child new only in
          let ex = exchanged a b f.before child new f.later w.stands w.once st on keeps only.news in
          let line2 : IsRow s k (kind_at s k).lo (height s ls) new = subst (λ h. IsRow s k (kind_at s k).lo h new) w.high line in
          let all : IsRow s k (kind_at s k).lo (height s ls) (beside f.before (beside new f.later)) = IsRow-beside s k (kind_at s k).lo
          (height s ls) f.before (beside new f.later) w.line_before (IsRow-beside s k (kind_at s k).lo (height s ls) new f.later line2 w.line_later) in
          let c1 : length (roots (beside f.before (beside new f.later))) ≡ length (roots f.before) + length (roots (beside new f.later)) = count-beside
          f.before (beside new f.later) in
          let c2 : length (roots (beside new f.later)) ≡ length (roots new) + length (roots f.later) = count-beside new f.later in
          let here : IsSome (node_at a i) = subst IsSome (sym o.stands.0) refl in
          let away = parts_of i o.once.0 in
          record {
            same = keeps i here away.1;
            stands = ex.0;
            once = ex.1;
            avoids = Avoids-beside i f.before (beside new f.later) away.0 (Avoids-beside i new f.later (only.news i here away.1) away.2);
            high = IsRow-height s k (kind_at s k).lo (height s ls) (beside f.before (beside new f.later)) all (omega arith);
            line = all;
            only = subst (λ t. ChangesOnly a b t (beside f.before (beside new f.later))) (sym f.is)
                (ChangesOnly-beside a b f.before child new f.later only);
          }
        where
          parts_of : (j : ℕ) → Avoids j ls → Avoids j f.before × Avoids j child × Avoids j f.later
          parts_of j v =
              let x = beside-Avoids j f.before (beside child f.later) (subst (Avoids j) f.is v) in
              let y = beside-Avoids j child f.later x.1 in
              (x.0, y.0, y.1)

    insert-after : {A : Type 0} (xs : List A) (y : A) (ys : List A) (z : A) (n : ℕ) → length xs ≡ n → insert (xs ++ y ∷ ys) (n + 1) z ≡ xs ++ y ∷ z ∷ ys
    insert-after [] y ys z zero h = refl
    insert-after [] y ys z (suc n) h = absurd (omega arith)
    insert-after (x ∷ xs) y ys z zero h = absurd (omega arith)
    insert-after (x ∷ xs) y ys z (suc n) h =
        let e : suc (n + 1) ≡ suc n + 1 = omega arith in
        subst (λ m. insert (x ∷ xs ++ y ∷ ys) m z ≡ x ∷ xs ++ y ∷ z ∷ ys) e (ap (λ w. x ∷ w) (insert-after xs y ys z n (omega arith)))

    -- the child has x, and the node is as before
    pub kept-above : (b : ArenaState) (x : Elem) → Open s k a i levels run ls → p ≤ length run → AllBelow x.at (take p run) → Reaches x.at (drop p run)
        → KeepsRoot s k a b x child → KeepsRoot s k a b x (node i k run ls done)
    kept-above b x o l under reach r =
        let w = between o l in
        let row : Trees = beside f.before (beside r.tree f.later) in
        let one : length (roots r.tree) ≡ 1 = ap length r.same_roots in
        let pl : Placed b r.tree = placed b r.tree o l r.stands r.once
        (r.row (kind_at s k).lo (omega arith) (subst (λ h. IsRow s k (kind_at s k).lo h child) (sym w.high) w.line_child)) (omega arith) r.only in
        let high : height s row ≡ height s ls = pl.high in
        let links : roots row ≡ roots ls =
        roots-beside f.before (beside r.tree f.later)
        ∙ ap (λ q. roots f.before ++ q) (roots-beside r.tree f.later)
        ∙ ap (λ q. roots f.before ++ (q ++ roots f.later)) r.same_roots
        ∙ sym (roots-beside f.before (node c k f.run f.inner f.later))
        ∙ ap roots (sym f.is) in
        let fan : length (roots row) ≡ length run + 1 = ap length links ∙ w.many in
        record {
          tree = node i k run row done;
          same_roots = refl;
          stands = (pl.same ∙ o.stands.0 ∙ ap (λ q. Some (node_of k run q)) (sym links), pl.stands, tt);
          once = (pl.avoids, tt, IsApart-done row, pl.once, tt);
          row = λ low le q. (refl, q.1, q.2, inr fan, omega arith, subst (λ h. IsRow s k (kind_at s k).lo h row) (sym high) pl.line, tt);
          walk_is =
              walk-node s i k run row o.kind.shape
              ∙ ap (λ v. joined (weave run v)) (walks-beside s f.before (beside r.tree f.later)
              ∙ ap (λ v. walks s f.before ++ v) (walks-beside s r.tree f.later ∙ ap (λ v. v ++ walks s f.later) (walks-one s r.tree (c) r.same_roots)))
              ∙ ap (λ v. joined (weave v (walks s f.before ++ walk s r.tree ∷ walks s f.later))) (sym (take-append-drop p run))
              ∙ walk-child (take p run) (drop p run) (walks s f.before) (walks s f.later) (walk s r.tree) w.before_count w.later_count
              ∙ ap (λ v. joined (weave (take p run) (walks s f.before)) ++ (v ++ joined (tail (drop p run) (walks s f.later)))) r.walk_is
              ∙ sym (put-child x o l under reach)
              ∙ ap (put_in x) (sym (walk-node s i k run ls o.kind.shape));
          only = record {
            others = λ j v u. pl.only.others j v.1 u.1;
            stays = λ j u. (u.0, pl.only.stays j u.1, tt);
            news = λ j h v. (v.0, pl.only.news j h v.1, tt);
          };
          differ = DifferInFew-wider (2 * height s child) (2 * height s (node i k run ls done)) a b (omega (arith, w.high)) r.differ;
        }

    -- the child has parted
    pub wide-above : (b : ArenaState) (x up : Elem) (right : ℕ) → Open s k a i levels run ls → p ≤ length run → AllBelow x.at (take p run)
        → Reaches x.at (drop p run) → (r : SplitsRoot s k a b x child up right)
        → Wide s k a b x i run ls (insert run p up) (beside f.before (beside (beside r.lower r.upper) f.later)) ×
        (with_link (roots ls) p (Some right) ≡ roots (beside f.before (beside (beside r.lower r.upper) f.later)))
    wide-above b x up right o l under reach r =
        let w = between o l in
        let two : Trees = beside r.lower r.upper in
        let row : Trees = beside f.before (beside two f.later) in
        let pair : roots two ≡ Some (c) ∷ Some right ∷ [] = roots-beside r.lower r.upper ∙ ap (λ q. q ++ roots r.upper) r.same_roots
        ∙ ap (λ q. Some (c) ∷ q) r.right_root in
        let count : length (roots two) ≡ 2 = ap length pair in
        let pl : Placed b two = placed b two o l (Stands-beside b r.lower r.upper r.stands.0 r.stands.1)
        (IsReachedOnce-beside r.lower r.upper r.once.0 r.once.1 r.once.2)
        (IsRow-beside s k (kind_at s k).lo (height s child) r.lower r.upper r.row.0 r.row.1) (omega arith) r.only in
        let links : roots row ≡ roots f.before ++ (Some (c) ∷ Some right ∷ roots f.later) =
        roots-beside f.before (beside two f.later)
        ∙ ap (λ q. roots f.before ++ q) (roots-beside two f.later)
        ∙ ap (λ q. roots f.before ++ (q ++ roots f.later)) pair in
        let old : roots ls ≡ roots f.before ++ (Some (c) ∷ roots f.later) = ap roots f.is ∙ roots-beside f.before (node c k f.run f.inner f.later) in
        let len1 : length (take p run) ≡ p = length_take p run l in
        let len2 : length (drop p run) ≡ length run - p = length_drop p run in
        let len : length (insert run p up) ≡ length (take p run) + length (up ∷ drop p run) = length-append (take p run) (up ∷ drop p run) in
        let many : length (roots ls) ≡ length run + 1 = w.many in
        let nold : length (roots ls) ≡ length (roots f.before) + suc (length (roots f.later)) = ap length old
        ∙ length-append (roots f.before) (Some (c) ∷ roots f.later) in
        let nnew : length (roots row) ≡ length (roots f.before) + suc (suc (length (roots f.later))) = ap length links
        ∙ length-append (roots f.before) (Some (c) ∷ Some right ∷ roots f.later) in
        let fan : length (roots row) ≡ length (insert run p up) + 1 = omega arith in (
          record {
            keeps_here = pl.same;
            there = subst IsSome (sym (pl.same ∙ o.stands.0)) refl;
            stands = pl.stands;
            once = pl.once;
            avoids = pl.avoids;
            high = pl.high;
            line = pl.line;
            fan = inr fan;
            more = omega arith;
            walk_is =
                ap (λ v. joined (weave (insert run p up) v)) (walks-beside s f.before (beside two f.later)
                ∙ ap (λ v. walks s f.before ++ v) (walks-beside s two f.later
                ∙ ap (λ v. v ++ walks s f.later) (walks-beside s r.lower r.upper ∙ ap (λ v. v ++ walks s r.upper) (walks-one s r.lower (c) r.same_roots)
                ∙ ap (λ v. walk s r.lower ∷ v) (walks-one s r.upper right r.right_root))))
                ∙ walk-two (take p run) (drop p run) up (walks s f.before) (walks s f.later) (walk s r.lower) (walk s r.upper) w.before_count w.later_count
                ∙ ap (λ v. joined (weave (take p run) (walks s f.before)) ++ (v ++ joined (tail (drop p run) (walks s f.later)))) r.walk_is
                ∙ sym (put-child x o l under reach);
            only = pl.only;
            differ = subst (λ h. DifferInFew (2 * h) a b) w.high r.differ;
          },
          ap (λ q. insert q (p + 1) (Some right)) old ∙ insert-after (roots f.before) (Some (c)) (roots f.later) (Some right) p f.place ∙ sym links,
        )
