-- The nodes of a tree, listed by their numbers.
use Rattle.std.proofs.Common.{◌≡◌, ◌≤◌, ◌<◌, ◌+◌, inl, inr, ℕ, suc, List, [], ◌∷◌, ◌++◌, map, length, take, drop, get_or, Option, Some, IsSome, refl, ap, ◌∙◌, sym, subst, arith, length-append, drop-cons}
use Rattle.std.proofs.Math.Seq.{take-suc}
use Rattle.std.proofs.lemmas.List.{map-append, take-append-le, drop-append-le, length-take-le, take_all, drop_all}
use Rattle.node_arena.specs.declared.elements.Elem.{Elem}
use Rattle.node_arena.specs.Arenas.{ArenaState, NodeState, node_at}
use Rattle.node_arena.specs.Insertions.{Misses}
use Rattle.node_arena.specs.Trees.{Trees, done, absent, node, roots, stored, Stands, Avoids, IsApart, IsReachedOnce}
use Rattle.node_arena.proofs.RowsLemmas.{beside, roots-beside, Stands-beside, Avoids-beside, beside-Avoids, IsReachedOnce-beside, IsApart-flip}
use Rattle.iter_gen.specs.LookingUp.{HasNode}
use Rattle.chunk_tree.specs.Balancing.{node_count}
use Rattle.chunk_tree.specs.Numbering.{present, AreNodes, AllAvoid, HangsAt, AreNumbersOf, Lists}

-- ---- numbers

Misses-join : (j : ℕ) (xs ys : List ℕ) → Misses j xs → Misses j ys → Misses j (xs ++ ys)
Misses-join j [] ys h g = g
Misses-join j (x ∷ xs) ys h g = (h.0, Misses-join j xs ys h.1 g)

Misses-parts : (j : ℕ) (xs ys : List ℕ) → Misses j (xs ++ ys) → Misses j xs × Misses j ys
Misses-parts j [] ys h = (tt, h)
Misses-parts j (x ∷ xs) ys h = let r = Misses-parts j xs ys h.1 in ((h.0, r.0), r.1)

AreNodes-more : (a : ArenaState) (xs : List ℕ) (j : ℕ) → AreNodes a xs → IsSome (node_at a j) → Misses j xs → AreNodes a (xs ++ j ∷ [])
AreNodes-more a [] j h some m = (some, tt, tt)
AreNodes-more a (x ∷ xs) j h some m = (h.0, Misses-join x xs (j ∷ []) h.1 ((λ e. m.0 (sym e)), tt), AreNodes-more a xs j h.2 some m.1)

-- the nodes are there in another arena too
pub AreNodes-kept : (a b : ArenaState) (xs : List ℕ) → ((i : ℕ) → IsSome (node_at a i) → node_at b i ≡ node_at a i) → AreNodes a xs → AreNodes b xs
AreNodes-kept a b [] same h = tt
AreNodes-kept a b (x ∷ xs) same h = (subst IsSome (sym (same x h.0)) h.0, h.1, AreNodes-kept a b xs same h.2)

-- ---- numbers that aren't in trees

-- a node of the trees isn't outside them
pub HasNode-avoided : (i : ℕ) (t : Trees) → HasNode i t → Avoids i t → ⊥
HasNode-avoided i done h v = h
HasNode-avoided i (absent t) h v = HasNode-avoided i t h v
HasNode-avoided i (node j k run ls t) (inl e) v = v.0 e
HasNode-avoided i (node j k run ls t) (inr (inl h)) v = HasNode-avoided i ls h v.1
HasNode-avoided i (node j k run ls t) (inr (inr h)) v = HasNode-avoided i t h v.2

AllAvoid-map : (t u : Trees) → ((i : ℕ) → Avoids i t → Avoids i u) → (xs : List ℕ) → AllAvoid t xs → AllAvoid u xs
AllAvoid-map t u f [] h = tt
AllAvoid-map t u f (x ∷ xs) h = (f x h.0, AllAvoid-map t u f xs h.1)

AllAvoid-more : (t : Trees) (xs : List ℕ) (j : ℕ) → AllAvoid t xs → Avoids j t → AllAvoid t (xs ++ j ∷ [])
AllAvoid-more t [] j h v = (v, tt)
AllAvoid-more t (x ∷ xs) j h v = (h.0, AllAvoid-more t xs j h.1 v)

root-missed : (j k : ℕ) (run : List Elem) (ls t : Trees) (xs : List ℕ) → AllAvoid (node j k run ls t) xs → Misses j xs
root-missed j k run ls t [] h = tt
root-missed j k run ls t (x ∷ xs) h = ((λ e. h.0.0 (sym e)), root-missed j k run ls t xs h.1)

-- ---- rows without absent links

abbrev solid : Trees → Trees
solid done = done
solid (absent t) = solid t
solid (node i k run ls t) = node i k run ls (solid t)

roots-solid : (t : Trees) → roots (solid t) ≡ map Some (present (roots t))
roots-solid done = refl
roots-solid (absent t) = roots-solid t
roots-solid (node i k run ls t) = ap (λ r. Some i ∷ r) (roots-solid t)

Stands-solid : (a : ArenaState) (t : Trees) → Stands a t → Stands a (solid t)
Stands-solid a done h = tt
Stands-solid a (absent t) h = Stands-solid a t h
Stands-solid a (node i k run ls t) h = (h.0, h.1, Stands-solid a t h.2)

Avoids-solid : (i : ℕ) (t : Trees) → Avoids i t → Avoids i (solid t)
Avoids-solid i done h = tt
Avoids-solid i (absent t) h = Avoids-solid i t h
Avoids-solid i (node j k run ls t) h = (h.0, h.1, Avoids-solid i t h.2)

solid-Avoids : (i : ℕ) (t : Trees) → Avoids i (solid t) → Avoids i t
solid-Avoids i done h = tt
solid-Avoids i (absent t) h = solid-Avoids i t h
solid-Avoids i (node j k run ls t) h = (h.0, h.1, solid-Avoids i t h.2)

IsApart-solid : (t u : Trees) → IsApart t u → IsApart t (solid u)
IsApart-solid done u h = tt
IsApart-solid (absent t) u h = IsApart-solid t u h
IsApart-solid (node i k run ls t) u h = (Avoids-solid i u h.0, IsApart-solid ls u h.1, IsApart-solid t u h.2)

IsReachedOnce-solid : (t : Trees) → IsReachedOnce t → IsReachedOnce (solid t)
IsReachedOnce-solid done h = tt
IsReachedOnce-solid (absent t) h = IsReachedOnce-solid t h
IsReachedOnce-solid (node i k run ls t) h = (h.0, Avoids-solid i t h.1, IsApart-solid ls t h.2, h.3, IsReachedOnce-solid t h.4)

count-solid : (t : Trees) → node_count (solid t) ≡ node_count t
count-solid done = refl
count-solid (absent t) = count-solid t
count-solid (node i k run ls t) = ap (λ n. 1 + (node_count ls + n)) (count-solid t)

count-beside : (t u : Trees) → node_count (beside t u) ≡ node_count t + node_count u
count-beside done u = omega arith
count-beside (absent t) u = count-beside t u
count-beside (node i k run ls t) u = let ih : node_count (beside t u) ≡ node_count t + node_count u = count-beside t u in omega arith

-- ---- one node more

head-same : (x y : Option ℕ) (xs ys : List (Option ℕ)) → x ∷ xs ≡ y ∷ ys → x ≡ y
head-same x y xs ys e = cc

tail-same : (x y : Option ℕ) (xs ys : List (Option ℕ)) → x ∷ xs ≡ y ∷ ys → xs ≡ ys
tail-same x y xs ys e = cc

number-same : (i j : ℕ) → Some i ≡ Some j → i ≡ j
number-same i j e = cc

node-same : (n m : NodeState) → Some n ≡ Some m → n ≡ m
node-same n m e = cc

module _ (a : ArenaState) (t : Trees) where
  -- nothing was looked at
  pub listed-none : (link : Option ℕ) (most : ℕ) → HangsAt a link most t → Lists a t [] (present (link ∷ []))
  listed-none link most h = record {
    row = solid t;
    roots_are = roots-solid t ∙ ap (λ r. map Some (present r)) h.root;
    stands = Stands-solid a t h.stands;
    once = IsReachedOnce-solid t h.once;
    nodes = tt;
    apart = tt;
    all = λ i m v. solid-Avoids i t v;
    only = λ i v. (tt, Avoids-solid i t v);
    counted = let e = count-solid t in omega arith;
  }

  -- the root of the row is looked at
  root-listed : (seen next : List ℕ) (i k : ℕ) (run : List Elem) (ls row : Trees) → roots row ≡ map Some next → Stands a (node i k run ls row)
      → IsReachedOnce (node i k run ls row) → AreNodes a seen → AllAvoid (node i k run ls row) seen
      → ((j : ℕ) → Misses j seen → Avoids j (node i k run ls row) → Avoids j t)
      → ((j : ℕ) → Avoids j t → Misses j seen × Avoids j (node i k run ls row))
      → length seen + node_count (node i k run ls row) ≡ node_count t
      → Lists a t (seen ++ i ∷ []) (next ++ present (roots ls))
  root-listed seen next i k run ls row e h o nodes apart all only counted =
      let len : length (seen ++ i ∷ []) ≡ length seen + 1 = length-append seen (i ∷ []) in
      let both : node_count (beside row (solid ls)) ≡ node_count row + node_count (solid ls) = count-beside row (solid ls) in
      let same : node_count (solid ls) ≡ node_count ls = count-solid ls in
      let within : (j : ℕ) → Avoids j (node i k run ls row) → Avoids j (beside row (solid ls)) = λ j v. Avoids-beside j row (solid ls) v.2
      (Avoids-solid j ls v.1) in
      record {
        row = beside row (solid ls);
        roots_are = roots-beside row (solid ls) ∙ ap (λ r. r ++ roots (solid ls)) e ∙ ap (λ r. map Some next ++ r) (roots-solid ls)
            ∙ sym (map-append Some next (present (roots ls)));
        stands = Stands-beside a row (solid ls) h.2 (Stands-solid a ls h.1);
        once = IsReachedOnce-beside row (solid ls) o.4 (IsReachedOnce-solid ls o.3) (IsApart-solid row ls (IsApart-flip ls row o.2));
        nodes = AreNodes-more a seen i nodes (subst IsSome (sym h.0) refl) (root-missed i k run ls row seen apart);
        apart = AllAvoid-more (beside row (solid ls)) seen i (AllAvoid-map (node i k run ls row) (beside row (solid ls)) within seen apart)
            (Avoids-beside i row (solid ls) o.1 (Avoids-solid i ls o.0));
        all = λ j m v.
            let p = Misses-parts j seen (i ∷ []) m in
            let w = beside-Avoids j row (solid ls) v in
            all j p.0 (p.1.0, solid-Avoids j ls w.1, w.0);
        only = λ j v. let w = only j v in (Misses-join j seen (i ∷ []) w.0 (w.1.0, tt), within j w.1);
        counted = omega arith;
      }

  -- the node that comes next is looked at
  listed-one : (seen next : List ℕ) (j : ℕ) (n : NodeState) → node_at a j ≡ Some n → Lists a t seen (j ∷ next)
      → Lists a t (seen ++ j ∷ []) (next ++ present n.links)
  listed-one seen next j n there l = by l.row l.roots_are l.stands l.once l.apart l.all l.only l.counted
    where
      by : (row : Trees) → roots row ≡ map Some (j ∷ next) → Stands a row → IsReachedOnce row → AllAvoid row seen
          → ((i : ℕ) → Misses i seen → Avoids i row → Avoids i t) → ((i : ℕ) → Avoids i t → Misses i seen × Avoids i row)
          → length seen + node_count row ≡ node_count t → Lists a t (seen ++ j ∷ []) (next ++ present n.links)
      by done e h o apart all only counted = cc
      by (absent row) e h o apart all only counted = let f = head-same _ _ _ _ e in cc
      by (node i k run ls row) e h o apart all only counted =
          let same : i ≡ j = number-same i j (head-same (Some i) (Some j) (roots row) (map Some next) e) in
          let rest : roots row ≡ map Some next = tail-same (Some i) (Some j) (roots row) (map Some next) e in
          let is : stored k run ls ≡ n = node-same (stored k run ls) n (sym h.0 ∙ ap (node_at a) same ∙ there) in
          let links : roots ls ≡ n.links = ap (λ (v : NodeState). v.links) is in
          subst (λ m. Lists a t (seen ++ m ∷ []) (next ++ present n.links)) same
          (subst (λ r. Lists a t (seen ++ i ∷ []) (next ++ present r)) links
          (root-listed seen next i k run ls row rest h o l.nodes apart all only counted))

  -- the same where the numbers stand in one list
  pub listed-next : (ids more : List ℕ) (at j : ℕ) (n : NodeState) → at < length ids → j ≡ get_or ids at j → node_at a j ≡ Some n
      → more ≡ ids ++ present n.links → Lists a t (take at ids) (drop at ids) → Lists a t (take (at + 1) more) (drop (at + 1) more)
  listed-next ids more at j n in_range is there e l =
      let split : drop at ids ≡ j ∷ drop (suc at) ids = drop-cons ids at j in_range ∙ ap (λ m. m ∷ drop (suc at) ids) (sym is) in
      let upto : take (suc at) ids ≡ take at ids ++ j ∷ [] = take-suc ids at j in_range ∙ ap (λ m. take at ids ++ m ∷ []) (sym is) in
      let step : suc at ≡ at + 1 = omega arith in
      let w = listed-one (take at ids) (drop (suc at) ids) j n there (subst (Lists a t (take at ids)) split l) in
      let first : take (at + 1) more ≡ take at ids ++ j ∷ [] =
      ap (λ m. take (at + 1) m) e ∙ take-append-le (at + 1) ids (present n.links) (omega arith) ∙ ap (λ m. take m ids) (sym step) ∙ upto in
      let second : drop (at + 1) more ≡ drop (suc at) ids ++ present n.links =
      ap (λ m. drop (at + 1) m) e ∙ drop-append-le (at + 1) ids (present n.links) (omega arith)
      ∙ ap (λ m. drop m ids ++ present n.links) (sym step) in
      subst (λ m. Lists a t m (drop (at + 1) more)) (sym first) (subst (Lists a t (take at ids ++ j ∷ [])) (sym second) w)

  -- there is a node at the number that comes next
  pub next-there : (ids : List ℕ) (at j : ℕ) → at < length ids → j ≡ get_or ids at j → Lists a t (take at ids) (drop at ids) → IsSome (node_at a j)
  next-there ids at j in_range is l =
      let split : drop at ids ≡ j ∷ drop (suc at) ids = drop-cons ids at j in_range ∙ ap (λ m. m ∷ drop (suc at) ids) (sym is) in
      by l.row (l.roots_are ∙ ap (map Some) split) l.stands
    where
      by : (row : Trees) → roots row ≡ Some j ∷ map Some (drop (suc at) ids) → Stands a row → IsSome (node_at a j)
      by done e h = cc
      by (absent row) e h = let f = head-same _ _ _ _ e in cc
      by (node i k run ls row) e h =
          let same : i ≡ j = number-same i j (head-same (Some i) (Some j) (roots row) (map Some (drop (suc at) ids)) e) in
          subst (λ m. IsSome (node_at a m)) same (subst IsSome (sym h.0) refl)

  -- all were looked at
  pub listed-all : (seen next : List ℕ) → next ≡ [] → Lists a t seen next → AreNumbersOf a t seen
  listed-all seen next e l = by l.row (l.roots_are ∙ ap (map Some) e) l.all l.only l.counted
    where
      by : (row : Trees) → roots row ≡ [] → ((i : ℕ) → Misses i seen → Avoids i row → Avoids i t)
          → ((i : ℕ) → Avoids i t → Misses i seen × Avoids i row) → length seen + node_count row ≡ node_count t → AreNumbersOf a t seen
      by done e all only counted = record { nodes = l.nodes; all = λ i m. all i m tt; only = λ i v. (only i v).0; counted = omega arith }
      by (absent row) e all only counted = cc
      by (node i k run ls row) e all only counted = cc

  some-row : (row : Trees) (j : ℕ) (rest : List (Option ℕ)) → roots row ≡ Some j ∷ rest → 1 ≤ node_count row
  some-row done j rest e = cc
  some-row (absent row) j rest e = let f = head-same _ _ _ _ e in cc
  some-row (node i k run ls row) j rest e = omega arith

  -- fewer were looked at than there are nodes
  pub next-low : (ids : List ℕ) (at most : ℕ) → node_count t ≤ most → at < length ids → Lists a t (take at ids) (drop at ids) → at < most
  next-low ids at most few in_range l =
      let split : drop at ids ≡ get_or ids at 0 ∷ drop (suc at) ids = drop-cons ids at 0 in_range in
      let len : length (take at ids) ≡ at = length-take-le at ids (omega arith) in
      let some = some-row l.row (get_or ids at 0) (map Some (drop (suc at) ids)) (l.roots_are ∙ ap (map Some) split) in
      let all = l.counted in
      omega arith

  -- all numbers in the list were looked at
  pub listed-end : (ids : List ℕ) (at : ℕ) → length ids ≤ at → Lists a t (take at ids) (drop at ids) → AreNumbersOf a t ids
  listed-end ids at l h =
      subst (AreNumbersOf a t) (take_all at ids l) (listed-all (take at ids) (drop at ids) (drop_all at ids l) h)
