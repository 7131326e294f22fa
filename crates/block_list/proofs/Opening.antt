-- What the condition of an insertion says of the first node of a chain, and what is passed on behind it.
use Rattle.std.proofs.Common.{◌≡◌, ◌≢◌, ◌≤◌, ◌+◌, ℕ, List, [], ◌∷◌, ◌++◌, length, Option, Some, None, refl, ap, ◌∙◌, sym, subst, arith, length-append}
use Rattle.std.specs.Prelude.{slice_index_or}
use Rattle.node_arena.specs.declared.elements.Elem.{Elem}
use Rattle.node_arena.specs.declared.elements.Side.TheVariants as side
use Rattle.node_arena.specs.declared.elements.TheConstants.{MOST_SPINE}
use Rattle.node_arena.specs.declared.sized.TheConstants.{MOST_ELEMENTS}
use Rattle.node_arena.specs.declared.kinds.NodeKind.{NodeKind}
use Rattle.node_arena.specs.declared.kinds.Shape.TheVariants.{Post}
use Rattle.node_arena.specs.Arenas.{ArenaState, NodeState, node_at}
use Rattle.node_arena.specs.Conforming.{Conform, Hang, IsLevel, IsRising, spine, whole, least_of}
use Rattle.node_arena.specs.Insertions.{put_in, all_put_in, Lacks}
use Rattle.node_arena.specs.Kinds.{kind_at, shape_at}
use Rattle.node_arena.specs.Passing.{discipline, chains, link_at, link_total, CanPutIn, IsDone, IsPassed, GoesOn, AllLack}
use Rattle.node_arena.specs.Rules.{AreSound, HasSoundLinks, MayFollow}
use Rattle.node_arena.specs.Trees.{Trees, done, node, roots, stored, Stands, IsReachedOnce}
use Rattle.node_arena.specs.Walks.{walk}
use Rattle.node_arena.proofs.DepthsLemmas.{deeper-first}
use Rattle.node_arena.proofs.PutInLemmas.{IsRising-suffix}
use Rattle.block_list.proofs.Ends.{Link, some-node, linked}
use Rattle.block_list.proofs.Parts.{IsChain-discipline, root_of, hang-links, spine-post}
use Rattle.block_list.proofs.Walks.{walk-chain}

-- the first node of a chain, in which x isn't
pub record Opened (s : List NodeKind) (a : ArenaState) (x : Elem) (i k : ℕ) (run : List Elem) (ls : Trees) : Type 0 where
  pub post : ℕ
  pub link : Link s a i k post run ls
  pub follow : MayFollow s (kind_at s k) post
  pub few : (kind_at s k).hi ≤ MOST_ELEMENTS
  pub level : IsLevel s ls
  pub low : spine s ls ≤ MOST_SPINE
  pub rising : IsRising (run ++ walk s ls)
  pub lacks : Lacks x.at (run ++ walk s ls)

-- the condition, taken apart
pub opened : (s : List NodeKind) (a : ArenaState) (x : Elem) (i : ℕ) (t : Trees) → AreSound s → (c : CanPutIn s a x i t)
    → discipline (shape_at s c.kind) ≡ chains → Opened s a x i c.kind c.run c.links
opened s a x i t sound c d =
    let h = IsChain-discipline s c.kind d in
    let rule : HasSoundLinks s (kind_at s c.kind) (Post h.post) = subst (HasSoundLinks s (kind_at s c.kind)) h.shape (sound.links c.kind) in
    let hangs : Hang s (whole s c.kind ∷ []) (node i c.kind c.run c.links done) = subst (Hang s (whole s c.kind ∷ [])) c.is c.conforms.hangs in
    let level : IsLevel s (node i c.kind c.run c.links done) = subst (IsLevel s) c.is c.conforms.level in
    let walk_is : walk s t ≡ c.run ++ walk s c.links = ap (walk s) c.is ∙ walk-chain s i c.kind h.post c.run c.links h.shape in
    let spine_is : spine s t ≡ spine s c.links = ap (spine s) c.is ∙ spine-post s i c.kind h.post c.run c.links h.shape in
    let some : 1 ≤ (kind_at s c.kind).lo = sound.some c.kind in
    record {
      post = h.post;
      link = record {
        shape = h.shape;
        lo = rule.0;
        low = least s c.kind h.post c.run h.shape rule.0 hangs.1;
        high = hangs.2;
        links = hang-links s i c.kind h.post c.kind c.run c.links h.shape hangs;
        stands = subst (Stands a) c.is c.stands;
        once = subst IsReachedOnce c.is c.once;
      };
      follow = rule.1;
      few = sound.few c.kind;
      level = level.1;
      low = subst (λ n. n ≤ MOST_SPINE) spine_is c.conforms.low;
      rising = subst IsRising walk_is c.conforms.rising;
      lacks = subst (Lacks x.at) walk_is c.lacks;
    }
  where
    least : (s : List NodeKind) (k p : ℕ) (run : List Elem) → shape_at s k ≡ Post p → (kind_at s k).lo ≡ 1 → (whole s k).least ≤ length run → 1 ≤ length run
    least s k p run e lo h = subst (λ n. n ≤ length run) lo (subst (λ sh. least_of (kind_at s k) sh ≤ length run) e h)

link-same : (r : Option ℕ) (ts : List (Option ℕ)) → ts ≡ r ∷ [] → ts ≡ slice_index_or ts 0 None ∷ []
link-same r ts e = subst (λ us. us ≡ slice_index_or us 0 None ∷ []) (sym e) refl

module _ (s : List NodeKind) (a : ArenaState) (x : Elem) (i k : ℕ) (run : List Elem) (ls : Trees) (o : Opened s a x i k run ls) where
  -- what hangs behind is a structure of the kind behind
  pub behind-conforms : Conform s o.post ls
  behind-conforms = record { hangs = o.link.links; level = o.level; low = o.low; rising = IsRising-suffix run (walk s ls) o.rising }

  -- the root of what hangs behind
  pub behind-root : (r : Option ℕ) × (roots ls ≡ r ∷ [])
  behind-root = root_of s o.post ls o.link.links

  -- the node as it stands
  pub is-stored : (n : NodeState) → node_at a i ≡ Some n → stored k run ls ≡ n
  is-stored n e = let same : Some (stored k run ls) ≡ Some n = sym o.link.stands.0 ∙ e in cc

  walk_is : walk s (node i k run ls done) ≡ run ++ walk s ls
  walk_is = walk-chain s i k o.post run ls o.link.shape

  -- elements go on behind the run, which may have been cut
  pub passed : (b : ArenaState) (cut xs : List Elem) (n m : ℕ) → discipline (shape_at s o.post) ≢ chains → node_at b i ≡ Some (stored k cut ls)
      → ((j : ℕ) → j ≢ i → node_at b j ≡ node_at a j)
      → Stands b ls → 1 ≤ length cut → length cut ≤ (kind_at s k).hi → cut ++ all_put_in xs (walk s ls) ≡ put_in x (run ++ walk s ls)
      → xs ≢ [] → IsRising (cut ++ xs) → AllLack xs (walk s ls) → length xs ≤ length run
      → GoesOn s a b x i (stored k cut ls) o.post xs n m → b.nodes.spare ≡ a.nodes.spare
      → IsPassed s a b x (node i k run ls done) i side.Post xs 0 n m
  passed b cut xs n m other at same st low high put some beside lack few on spare = record {
    on = record {
      passer = stored k cut ls;
      there = at;
      link = record { place = 0; kind = o.post };
      has_link = ap (λ sh. link_at sh side.Post) o.link.shape;
      width = ap length behind-root.1 ∙ ap link_total (sym o.link.shape);
      other = λ e. other (e ∙ ap discipline o.link.shape);
      below = ls;
      leads = link-same behind-root.0 (roots ls) behind-root.1;
      stands = st;
      once = o.link.once.3;
      away = o.link.once.0;
      conforms = behind-conforms;
      spine_low = let f : spine s (node i k run ls done) ≡ spine s ls = spine-post s i k o.post run ls o.link.shape in omega arith;
    };
    can = record {
      some = some;
      beside = beside;
      lack = lack;
      counted =
          let f : length (walk s (node i k run ls done)) ≡ length run + length (walk s ls) = ap length walk_is ∙ length-append run (walk s ls) in
          omega arith;
    };
    goes_on = on;
    spare = spare;
    lift = λ c d v top w root e deep h. subst (IsDone s a d x (node i k run ls done)) (sym (deeper-first deep))
        (linked s x i k o.post run ls a b c d cut xs behind-root.0 top v o.link behind-root.1 low high put (some-node b i (stored k cut ls) at) same w root e
        deep h);
  }
