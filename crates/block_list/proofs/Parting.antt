-- A run that takes an element, and one that is parted.
use Rattle.std.proofs.Common.{◌≡◌, ◌≢◌, ◌≤◌, ◌<◌, ◌+◌, ◌-◌, ◌/◌, ◌⊎◌, inl, inr, ℕ, List, [], ◌∷◌, ◌++◌, length, take, drop, Option, Some, None, IsSome, IsSomeAnd, IfSome, refl, ap, ◌∙◌, sym, subst, arith, append-nil, append_assoc, take-append-drop, length-drop}
use Rattle.std.proofs.lemmas.List.{length-take-le}
use Rattle.std.specs.List.{insert}
use Rattle.arrayvec.specs.ArrayVec.{ArrayVec}
use Rattle.std.specs.Prelude.{slice_index_or, is_some, ⊤}
use Rattle.node_arena.specs.declared.elements.Elem.{Elem}
use Rattle.node_arena.specs.declared.elements.Side.TheVariants as side
use Rattle.node_arena.specs.declared.elements.Step.{Step}
use Rattle.node_arena.specs.declared.elements.Step.TheVariants.{Done, Pass}
use Rattle.node_arena.specs.declared.kinds.NodeKind.{NodeKind}
use Rattle.node_arena.specs.declared.kinds.Shape.{Shape}
use Rattle.node_arena.specs.declared.kinds.Shape.TheVariants.{Flat, Post, Ends, Woven}
use Rattle.node_arena.specs.Arenas.{ArenaState, NodeState, node_at, place_in, ChangesNode}
use Rattle.node_arena.specs.Conforming.{IsLevel, IsRising}
use Rattle.node_arena.specs.Insertions.{put_in, DifferInFew}
use Rattle.node_arena.specs.Kinds.{kind_at, shape_at}
use Rattle.node_arena.specs.Passing.{discipline, chains, weaves, IsDone, IsPassed, Leaves, wedge_depth}
use Rattle.node_arena.specs.Rules.{AreSound, Serves, HasSoundLinks, MayFollow, post_of}
use Rattle.node_arena.specs.Trees.{Trees, done, node, roots, stored}
use Rattle.node_arena.specs.Walks.{walk}
use Rattle.node_arena.proofs.ChangesLemmas.{DifferInFew-one, DifferInFew-then, DifferInFew-wider}
use Rattle.node_arena.proofs.FramesLemmas.{Stands-changed}
use Rattle.node_arena.proofs.PutInLemmas.{AllLack-before, append-Lacks, IsRising-suffix, IsRising-prefix, IsRising-put_in, length-put_in, all_put_in-first, place_in-low, put_in-place}
use Rattle.block_list.specs.Chains.{AllBelow, link_of, links_behind, HasChainBehind, Turns, Comes, Finds}
use Rattle.block_list.specs.declared.chains.Turn.TheVariants as turns
use Rattle.block_list.specs.declared.chains.Way.TheVariants.{Behind}
use Rattle.block_list.proofs.Ends.{some-node, fitted, behind-node, wedged}
use Rattle.block_list.proofs.Lists.{put_in-past, put_in-within, IsRising-end}
use Rattle.block_list.proofs.Opening.{Opened, behind-root, is-stored, passed}
use Rattle.block_list.proofs.Searching.{of-node, has-node, next-none, open-here}

-- x goes into the run, and what hangs behind stays behind
fits : (s : List NodeKind) (a : ArenaState) (x : Elem) (i k : ℕ) (run : List Elem) (ls : Trees) → Opened s a x i k run ls
    → Turns s x.at (stored k run ls) turns.Into
    → put_in x (run ++ walk s ls) ≡ put_in x run ++ walk s ls
fits s a x i k run ls o (inl stops) = put_in-within x run (walk s ls) stops
fits s a x i k run ls o (inr none) =
    let empty : walk s ls ≡ [] = next-none s o.post ls o.link.links none in
    subst (λ w. put_in x (run ++ w) ≡ put_in x run ++ w) (sym empty) (ap (put_in x) (append-nil run) ∙ sym (append-nil (put_in x run)))

link-is : (r link : Option ℕ) (ts : List (Option ℕ)) → ts ≡ r ∷ [] → link ≡ slice_index_or ts 0 None → link ∷ [] ≡ ts
link-is r link ts e h = subst (λ us. link ≡ slice_index_or us 0 None → link ∷ [] ≡ us) (sym e) (λ g. ap (λ l. l ∷ []) g) h

some-elem : (xs : List Elem) → 1 ≤ length xs → xs ≢ []
some-elem [] low = absurd (omega arith)
some-elem (y ∷ ys) low = λ e. cc

-- a node of this kind, with these elements and links
abbrev pub node_of : ℕ → List Elem → List (Option ℕ) → NodeState
node_of k run links = record { kind = k; run = run; links = links }

-- a kind behind that isn't woven is its own kind behind, and has room for the upper half
follow-own : (s : List NodeKind) (k p : ℕ) → MayFollow s (kind_at s k) p → (shape_at s p ≡ Woven → ⊥)
    → (post_of (shape_at s p) ≡ Some p) × (((kind_at s k).hi + 1) / 2 ≤ (kind_at s p).hi)
follow-own s k p f other = pick f.1
  where
    pick : (shape_at s p ≡ Woven) ⊎ ((post_of (shape_at s p) ≡ Some p) × (((kind_at s k).hi + 1) / 2 ≤ (kind_at s p).hi))
        → (post_of (shape_at s p) ≡ Some p) × (((kind_at s k).hi + 1) / 2 ≤ (kind_at s p).hi)
    pick (inl w) = absurd (other w)
    pick (inr own) = own

-- such a kind's runs have one element at least
lo-own : (s : List NodeKind) → AreSound s → (p : ℕ) (shape : Shape) → shape_at s p ≡ shape → post_of shape ≡ Some p → (kind_at s p).lo ≡ 1
lo-own s sound p Flat e own = absurd (let f : None ≡ Some p = own in cc)
lo-own s sound p Woven e own = absurd (let f : None ≡ Some p = own in cc)
lo-own s sound p (Post q) e own = let rule = subst (HasSoundLinks s (kind_at s p)) e (sound.links p) in rule.0
lo-own s sound p (Ends q0 q) e own = let rule = subst (HasSoundLinks s (kind_at s p)) e (sound.links p) in rule.0

-- more than one element goes on where the run was full
pub full-passes : (s : List NodeKind) (at : ℕ) (o : Option NodeState) → IfSome o (λ n. (kind_at s n.kind).hi ≤ length n.run)
    → IfSome o (λ n. (AllBelow at n.run × (link_of n ≢ None)) ⊎ ((kind_at s n.kind).hi ≤ length n.run))
full-passes s at None h = tt
full-passes s at (Some n) h = inr h

-- x alone goes on where it is above the run, and the structure behind isn't empty
pub behind-passes : (s : List NodeKind) (at : ℕ) (o : Option NodeState) → IsSomeAnd o (λ n. Turns s at n turns.Behind)
    → IfSome o (λ n. (AllBelow at n.run × (link_of n ≢ None)) ⊎ ((kind_at s n.kind).hi ≤ length n.run))
behind-passes s at None h = tt
behind-passes s at (Some n) h = inl (h.0, h.1)

-- one node that is there has changed
pub few-one : (a b : ArenaState) (i : ℕ) (o : Option NodeState) (F : NodeState → Option NodeState) → IsSome o → IfSome o (λ n. ChangesNode a b i (F n))
    → DifferInFew 2 a b
few-one a b i None F h e = cc
few-one a b i (Some n) F h e = DifferInFew-wider 1 2 a b (omega arith) (DifferInFew-one a b i (F n) e)

-- one node is made, and another one changed
pub few-two : (a c b : ArenaState) (i j : ℕ) (new old : Option NodeState) → ChangesNode a c j new → ChangesNode c b i old → DifferInFew 2 a b
few-two a c b i j new old e1 e2 = DifferInFew-then 1 1 a c b (DifferInFew-one a c j new e1) (DifferInFew-one c b i old e2)

-- what is read of a node whose run is parted
pub record Parting (s : List NodeKind) (a : ArenaState) (x : Elem) (i kind post : ℕ) (link : Option ℕ) (run lower upper : List Elem) : Type 0 where
  pub view : NodeState
  pub there : node_at a i ≡ Some view
  pub kind_is : kind ≡ view.kind
  pub post_is : (p : ℕ) → shape_at s kind ≡ Post p → post ≡ p
  pub link_is : link ≡ link_of view
  pub run_is : run ≡ put_in x view.run
  pub full : IfSome (node_at a i) (λ n. (kind_at s n.kind).hi ≤ length n.run)
  pub lower_is : lower ≡ take ((length run + 1) / 2) run
  pub upper_is : upper ≡ drop ((length run + 1) / 2) run

-- the same, said of the tree
pub record Halves (s : List NodeKind) (x : Elem) (k post : ℕ) (run : List Elem) (ls : Trees) (kind0 post0 : ℕ) (link : Option ℕ)
    (lower upper : List Elem) : Type 0 where
  pub kind : kind0 ≡ k
  pub post_kind : post0 ≡ post
  pub link_is : link ∷ [] ≡ roots ls
  pub whole_run : lower ++ upper ≡ put_in x run
  pub low : 1 ≤ length lower
  pub high : length lower ≤ (kind_at s k).hi
  pub some : 1 ≤ length upper
  pub few : length upper ≤ ((kind_at s k).hi + 1) / 2
  pub fewer : length upper ≤ length run

module _ (s : List NodeKind) (a : ArenaState) (x : Elem) (sound : AreSound s) where
  -- a node at which the search ends is there
  pub comes-some : (i : ℕ) (t : Trees) → Comes s a x i t → IsSome (node_at a i)
  comes-some i t c = let o = open-here s a x sound i t c in some-node a i (stored c.here.kind c.here.run c.here.links) o.link.stands.0

  module _ (i : ℕ) (t : Trees) (c : Comes s a x i t) where
    abbrev o : Opened s a x i c.here.kind c.here.run c.here.links
    o = open-here s a x sound i t c

    read : (P : NodeState → Type 0) → IfSome (node_at a i) P → P (stored c.here.kind c.here.run c.here.links)
    read P h = of-node (node_at a i) (stored c.here.kind c.here.run c.here.links) P o.link.stands.0 h

    -- a run that is full has two halves
    pub halves : (kind post : ℕ) (link : Option ℕ) (run lower upper : List Elem) → Parting s a x i kind post link run lower upper
        → Halves s x c.here.kind o.post c.here.run c.here.links kind post link lower upper
    halves kind post link run lower upper p =
        let same : p.view ≡ stored c.here.kind c.here.run c.here.links = sym (is-stored s a x i c.here.kind c.here.run c.here.links o p.view p.there) in
        let kind_is : kind ≡ c.here.kind = p.kind_is ∙ ap (λ n. n.kind) same in
        let run_is : run ≡ put_in x c.here.run = p.run_is ∙ ap (λ n. put_in x n.run) same in
        let full : (kind_at s c.here.kind).hi ≤ length c.here.run = read (λ n. (kind_at s n.kind).hi ≤ length n.run) p.full in
        let high : length c.here.run ≤ (kind_at s c.here.kind).hi = o.link.high in
        let low : 1 ≤ length c.here.run = o.link.low in
        let long : length run ≡ length c.here.run + 1 = ap length run_is ∙ length-put_in x c.here.run in
        let keep : (length run + 1) / 2 ≤ length run = omega arith in
        let lower_len : length lower ≡ (length run + 1) / 2 = ap length p.lower_is ∙ length-take-le ((length run + 1) / 2) run keep in
        let upper_len : length upper ≡ length run - (length run + 1) / 2 = ap length p.upper_is ∙ length-drop ((length run + 1) / 2) run in
        record {
          kind = kind_is;
          post_kind = p.post_is o.post (ap (shape_at s) kind_is ∙ o.link.shape);
          link_is = link-is (behind-root s a x i c.here.kind c.here.run c.here.links o).0 link (roots c.here.links)
              (behind-root s a x i c.here.kind c.here.run c.here.links o).1
              (p.link_is ∙ ap link_of same);
          whole_run = ap (λ v. v ++ upper) p.lower_is ∙ ap (λ v. take ((length run + 1) / 2) run ++ v) p.upper_is ∙ take-append-drop ((length run + 1) / 2) run
              ∙ run_is;
          low = omega arith;
          high = omega arith;
          some = omega arith;
          few = omega arith;
          fewer = omega arith;
        }

    -- both halves fit into the arena's nodes
    pub halves-fit : Serves s a → (kind post : ℕ) (link : Option ℕ) (run lower upper : List Elem) → Parting s a x i kind post link run lower upper
        → (length lower ≤ a.nodes.most) × (length upper ≤ a.nodes.most)
    halves-fit serves kind post link run lower upper p =
        let h = halves kind post link run lower upper p in
        let most : (kind_at s c.here.kind).hi ≤ a.nodes.most = serves c.here.kind in
        let high : length c.here.run ≤ (kind_at s c.here.kind).hi = (open-here s a x sound i t c).link.high in
        (omega (arith, h.high, most), omega (arith, h.fewer, high, most))

    -- a run that isn't full has room
    pub room-there : Serves s a → (place kind hi len : ℕ) → IfSome (node_at a i) (λ n. place ≡ place_in x.at n.run) → IfSome (node_at a i) (λ n. kind ≡ n.kind)
        → hi ≡ (kind_at s kind).hi
        → IfSome (node_at a i) (λ n. len ≡ length n.run) → len < hi → IsSomeAnd (node_at a i) (λ n. (place ≤ length n.run) × (length n.run < a.nodes.most) × ⊤)
    room-there serves place kind hi len places kinds his lens room =
        let place_is : place ≡ place_in x.at c.here.run = read (λ n. place ≡ place_in x.at n.run) places in
        let kind_is : kind ≡ c.here.kind = read (λ n. kind ≡ n.kind) kinds in
        let len_is : len ≡ length c.here.run = read (λ n. len ≡ length n.run) lens in
        let hi_is : hi ≡ (kind_at s c.here.kind).hi = his ∙ ap (λ q. (kind_at s q).hi) kind_is in
        let low : place_in x.at c.here.run ≤ length c.here.run = place_in-low x.at c.here.run in
        let most : (kind_at s c.here.kind).hi ≤ a.nodes.most = serves c.here.kind in
        has-node (node_at a i) (stored c.here.kind c.here.run c.here.links) (λ n. (place ≤ length n.run) × (length n.run < a.nodes.most) × ⊤)
        (open-here s a x sound i t c).link.stands.0
        (omega (arith, place_is, low), omega (arith, len_is, hi_is, room, most), tt)

    into : IsSomeAnd (node_at a i) (λ n. Turns s x.at n turns.Into) → Turns s x.at (stored c.here.kind c.here.run c.here.links) turns.Into
    into h = subst (λ q. IsSomeAnd q (λ n. Turns s x.at n turns.Into)) o.link.stands.0 h

    stays : IsSomeAnd (node_at a i) (λ n. Turns s x.at n turns.Into) → put_in x (c.here.run ++ walk s c.here.links) ≡ put_in x c.here.run ++ walk s c.here.links
    stays h = fits s a x i c.here.kind c.here.run c.here.links o (into h)

    -- the run has taken x
    pub put-done : (b : ArenaState) (place kind hi len n m : ℕ) → IsSomeAnd (node_at a i) (λ n. Turns s x.at n turns.Into)
        → IfSome (node_at a i) (λ n. place ≡ place_in x.at n.run) → IfSome (node_at a i) (λ n. kind ≡ n.kind) → hi ≡ (kind_at s kind).hi
        → IfSome (node_at a i) (λ n. len ≡ length n.run) → len < hi
        → IfSome (node_at a i) (λ n. ChangesNode a b i (Some (record n { run = insert n.run place x; links = n.links }))) → Leaves s a b x t (Done (Some 0)) n m
    put-done b place kind hi len n m turn places kinds his lens room e =
        let place_is : place ≡ place_in x.at c.here.run = read (λ n. place ≡ place_in x.at n.run) places in
        let kind_is : kind ≡ c.here.kind = read (λ n. kind ≡ n.kind) kinds in
        let len_is : len ≡ length c.here.run = read (λ n. len ≡ length n.run) lens in
        let hi_is : hi ≡ (kind_at s c.here.kind).hi = his ∙ ap (λ q. (kind_at s q).hi) kind_is in
        let wider : List Elem = insert c.here.run place x in
        let same : wider ≡ put_in x c.here.run = ap (λ p. insert c.here.run p x) place_is ∙ sym (put_in-place x c.here.run) in
        let more : length wider ≡ length c.here.run + 1 = ap length same ∙ length-put_in x c.here.run in
        let d : IsDone s a b x (node i c.here.kind c.here.run c.here.links done) (Some 0) =
        fitted s x i c.here.kind (open-here s a x sound i t c).post c.here.run c.here.links a b wider (open-here s a x sound i t c).link
        (subst (IsLevel s) c.here.is c.here.conforms.level)
        (omega (arith, more)) (omega (arith, more, len_is, hi_is, room)) (ap (λ v. v ++ walk s c.here.links) same ∙ sym (stays turn))
        (read (λ n. ChangesNode a b i (Some (record n { run = insert n.run place x; links = n.links }))) e) in
        c.lift b (Done (Some 0)) n m (subst (λ u. IsDone s a b x u (Some 0)) (sym c.here.is) d)

    module _ (kind post : ℕ) (link : Option ℕ) (run lower upper : List Elem)
        (h : Halves s x c.here.kind o.post c.here.run c.here.links kind post link lower upper)
        (turn : IsSomeAnd (node_at a i) (λ n. Turns s x.at n turns.Into)) where
      up : IsRising (lower ++ (upper ++ walk s c.here.links))
      up = subst IsRising (stays turn ∙ ap (λ v. v ++ walk s c.here.links) (sym h.whole_run) ∙ append_assoc lower upper (walk s c.here.links))
          (IsRising-put_in x (c.here.run ++ walk s c.here.links) o.rising o.lacks)

      put : lower ++ (upper ++ walk s c.here.links) ≡ put_in x (c.here.run ++ walk s c.here.links)
      put = sym (append_assoc lower upper (walk s c.here.links)) ∙ ap (λ v. v ++ walk s c.here.links) h.whole_run ∙ sym (stays turn)

      rising : IsRising (upper ++ walk s c.here.links)
      rising = IsRising-suffix lower (upper ++ walk s c.here.links) up

      cut-node : (kind1 : ℕ) (links : List (Option ℕ)) → kind1 ≡ c.here.kind → links ≡ roots c.here.links
          → node_of kind1 lower links ≡ stored c.here.kind lower c.here.links
      cut-node kind1 links e g = ap (λ q. node_of q lower links) e ∙ ap (λ ts. node_of c.here.kind lower ts) g

      -- the upper half goes on into a woven structure
      pub part-pass : (b : ArenaState) (elems : ArrayVec Elem) (n m : ℕ) → shape_at s post ≡ Woven
          → ChangesNode a b i (Some (node_of kind lower (link ∷ []))) → b.nodes.spare ≡ a.nodes.spare → m ≡ n + 1 → elems.items ≡ upper
          → Leaves s a b x t (Pass i side.Post elems 0) n m
      part-pass b elems n m woven e spare ticks same =
          let shape : shape_at s o.post ≡ Woven = ap (shape_at s) (sym h.post_kind) ∙ woven in
          let cut : ChangesNode a b i (Some (stored c.here.kind lower c.here.links)) =
          subst (λ q. ChangesNode a b i (Some q)) (cut-node kind (link ∷ []) h.kind h.link_is) e in
          let w : List Elem = walk s c.here.links in
          let q : IsPassed s a b x (node i c.here.kind c.here.run c.here.links done) i side.Post upper 0 n m =
          passed s a x i c.here.kind c.here.run c.here.links o b lower upper n m
          (λ f. let g : weaves ≡ chains = ap discipline (sym shape) ∙ f in cc)
          cut.node.changed
          (λ j f. cut.node.others j f)
          (Stands-changed c.here.links cut o.link.once.0 o.link.stands.1)
          h.low h.high
          (ap (λ v. lower ++ v) (all_put_in-first upper w rising) ∙ put)
          (some-elem upper h.some)
          (IsRising-prefix (lower ++ upper) w (subst IsRising (sym (append_assoc lower upper w)) up))
          (AllLack-before upper w rising)
          h.fewer
          (inr (shape, cut, ticks))
          spare in
          c.lift b (Pass i side.Post elems 0) n m
          (subst (λ u. IsPassed s a b x u i side.Post elems.items 0 n m) (sym c.here.is)
          (subst (λ xs. IsPassed s a b x (node i c.here.kind c.here.run c.here.links done) i side.Post xs 0 n m) (sym same) q))

      -- the upper half is in a new node
      pub part-done : (c1 b : ArenaState) (j n m : ℕ) → (shape_at s post ≡ Woven → ⊥) → node_at a j ≡ None
          → ChangesNode a c1 j (Some (node_of post upper (links_behind (shape_at s post) link)))
          → ChangesNode c1 b i (Some (node_of kind lower (Some j ∷ []))) → (step : Step) → step ≡ Done (wedge_depth (shape_at s post) (is_some link) 0)
          → Leaves s a b x t step n m
      part-done c1 b j n m other free e1 e2 step told =
          let own = follow-own s c.here.kind o.post o.follow (λ f. other (ap (shape_at s) h.post_kind ∙ f)) in
          let new = behind-node s x i c.here.kind o.post c.here.run c.here.links j upper link (shape_at s o.post) refl own.0 (sym h.link_is)
          (lo-own s sound o.post (shape_at s o.post) refl own.0) h.some (omega (arith, h.few, own.1)) o.link.links in
          let f1 : ChangesNode a c1 j (Some (node_of o.post upper (links_behind (shape_at s o.post) link))) =
          subst (λ q. ChangesNode a c1 j (Some (node_of q upper (links_behind (shape_at s q) link)))) h.post_kind e1 in
          let f2 : ChangesNode c1 b i (Some (node_of c.here.kind lower (Some j ∷ []))) =
          subst (λ q. ChangesNode c1 b i (Some (node_of q lower (Some j ∷ [])))) h.kind e2 in
          let deep = wedge_depth (shape_at s o.post) (is_some link) 0 in
          subst (λ w. Leaves s a b x t w n m) (sym (told ∙ ap (λ q. Done (wedge_depth (shape_at s q) (is_some link) 0)) h.post_kind))
          (c.lift b (Done deep) n m (subst (λ u. IsDone s a b x u deep) (sym c.here.is)
          (wedged s x i c.here.kind o.post c.here.run c.here.links a c1 b j lower upper link o.link new h.low h.high put free f1 f2)))

  -- x alone goes on behind the run
  pub alone-pass : (i : ℕ) (t : Trees) (elems : ArrayVec Elem) (n : ℕ) → Finds s a x t (Behind i) → elems.items ≡ x ∷ []
      → Leaves s a a x t (Pass i side.Post elems 0) n n
  alone-pass i t elems n f same =
      let c : Comes s a x i t = f.0 in
      let o = open-here s a x sound i t c in
      let turn : Turns s x.at (stored c.here.kind c.here.run c.here.links) turns.Behind =
      subst (λ q. IsSomeAnd q (λ n. Turns s x.at n turns.Behind)) o.link.stands.0 f.1 in
      let w : List Elem = walk s c.here.links in
      let q : IsPassed s a a x (node i c.here.kind c.here.run c.here.links done) i side.Post (x ∷ []) 0 n n =
      passed s a x i c.here.kind c.here.run c.here.links o a c.here.run (x ∷ []) n n
      (λ e. turn.2 (subst (HasChainBehind s) (sym o.link.shape) e))
      o.link.stands.0 (λ j h. refl) o.link.stands.1 o.link.low o.link.high
      (sym (put_in-past x c.here.run w turn.0))
      (λ e. let g : x ∷ [] ≡ [] = e in cc)
      (IsRising-end c.here.run x (IsRising-prefix c.here.run w o.rising) turn.0)
      ((append-Lacks x.at c.here.run w o.lacks).1, tt)
      o.link.low
      (inl (refl, refl, refl))
      refl in
      c.lift a (Pass i side.Post elems 0) n n
      (subst (λ u. IsPassed s a a x u i side.Post elems.items 0 n n) (sym c.here.is)
      (subst (λ xs. IsPassed s a a x (node i c.here.kind c.here.run c.here.links done) i side.Post xs 0 n n) (sym same) q))
