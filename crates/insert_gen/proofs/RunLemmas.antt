-- Flat runs with an element put in.
use Rattle.std.proofs.Common.{◌≡◌, ◌≢◌, ◌≤◌, ◌<◌, ◌+◌, ◌-◌, ℕ, List, [], ◌∷◌, length, Option, Some, None, IfSome, IsSome, refl, ap, ◌∙◌, sym, subst, arith}
use Rattle.std.specs.List.{insert}
use Rattle.std.specs.Option.{IsSomeAnd}
use Rattle.node_arena.specs.declared.elements.Elem.{Elem}
use Rattle.node_arena.specs.declared.elements.Structure.{Structure}
use Rattle.node_arena.specs.declared.elements.Top.{Top}
use Rattle.node_arena.specs.declared.elements.Top.TheVariants as tops
use Rattle.node_arena.specs.declared.kinds.NodeKind.{NodeKind}
use Rattle.node_arena.specs.declared.kinds.Shape.{Shape}
use Rattle.node_arena.specs.declared.kinds.Shape.TheVariants.{Flat}
use Rattle.node_arena.specs.Arenas.{RunState, ArenaState, run_at, ChangesRun, place_in, with_more}
use Rattle.node_arena.specs.Insertions.{put_in, Lacks, IsPutIn}
use Rattle.node_arena.specs.Kinds.{shape_at}
use Rattle.node_arena.specs.Structures.{Tree, empty, rooted, flat, walk_of, IsStanding, IsConforming}
use Rattle.node_arena.proofs.ChangesLemmas.{run_differs}
use Rattle.node_arena.proofs.InsertionsLemmas.{IsPutIn-run}
use Rattle.node_arena.proofs.PutInLemmas.{put_in-place, place_in-low}
use Rattle.node_arena.proofs.StructuresLemmas.{tree_unique}
use Rattle.insert_gen.specs.Inserting.{HasRoom, room_taken, KeepsRoom, HasRoomLeft}
use Rattle.insert_gen.specs.Needs.{runs_for}

run-same : (i j : ℕ) → tops.Run i ≡ tops.Run j → i ≡ j
run-same i j e = cc

-- there is room in the structure's run
pub room-run : (sh : Shape) (top : Top) (a : ArenaState) (i : ℕ) → top ≡ tops.Run i → HasRoom top sh a → IsSomeAnd (run_at a i) (λ r. 1 ≤ r.room)
room-run sh top a i e h = subst (λ o. HasRoom o sh a) e h

-- an element can go into a run with room, at its place
pub CanInsert-place : (o : Option RunState) (at place : ℕ) → IsSomeAnd o (λ r. 1 ≤ r.room) → IfSome o (λ r. place ≡ place_in at r.elems)
    → IsSomeAnd o (λ r. (place ≤ length r.elems) × (0 < r.room))
CanInsert-place None at place h e = absurd h
CanInsert-place (Some r) at place h e = let l = place_in-low at r.elems in (omega (arith, l, e), omega (arith, h))

-- what has been put into an empty run
pub put-more : (c b : ArenaState) (x : Elem) (j room : ℕ) → run_at c j ≡ Some (record { elems = []; room = room })
    → IfSome (run_at c j) (λ r. ChangesRun c b j (Some (with_more r 0 x))) → ChangesRun c b j (Some (record { elems = x ∷ []; room = room - 1 }))
put-more c b x j room e h = subst (λ o. IfSome o (λ r. ChangesRun c b j (Some (with_more r 0 x)))) e h

-- a flat structure that isn't a run is empty
pub top-empty : (s : List NodeKind) (k : ℕ) (a : ArenaState) (st : Structure) (t : Tree) → shape_at s k ≡ Flat → IsStanding s a st t
    → IsConforming s k st t → ((i : ℕ) → st.top ≢ tops.Run i) → (st.top ≡ tops.Empty) × (t ≡ empty)
top-empty s k a st empty e h c apart = (h.top, refl)
top-empty s k a st (rooted i m run ls) e h c apart = absurd (c.tree.0 e)
top-empty s k a st (flat i run) e h c apart = absurd (apart i h.top)

module _ (s : List NodeKind) (k : ℕ) (a b : ArenaState) (x : Elem) (st new : Structure) where
  put-at : (i j : ℕ) (run : List Elem) (o : Option RunState) (place : ℕ) → run_at a i ≡ o → j ≡ i → IsStanding s a st (flat j run)
      → IsConforming s k st (flat j run) → Lacks x.at run → IsSomeAnd o (λ r. r.elems ≡ run) → IfSome o (λ r. place ≡ place_in x.at r.elems)
      → IfSome o (λ r. ChangesRun a b i (Some (with_more r place x))) → new.top ≡ tops.Run i → new.len ≡ st.len + 1 → new.spine ≡ st.spine
      → IsPutIn s k a b x (flat j run) new
  put-at i j run None place is same h c lacks r e ch top len spine = absurd r
  put-at i j run (Some q) place is same h c lacks r e ch top len spine =
      let elems : insert q.elems place x ≡ put_in x run =
      ap (λ n. insert q.elems n x) e ∙ sym (put_in-place x q.elems) ∙ ap (put_in x) r in
      IsPutIn-run s k a b x st new j run (with_more q place x) h c lacks
      (subst (λ n. ChangesRun a b n (Some (with_more q place x))) (sym same) ch) elems (top ∙ ap tops.Run (sym same)) len
      (omega (arith, spine, c.spine_low))

  -- x is put in at its place
  pub put-run : (t : Tree) (i place : ℕ) → IsStanding s a st t → IsConforming s k st t → Lacks x.at (walk_of s t) → st.top ≡ tops.Run i
      → IfSome (run_at a i) (λ r. place ≡ place_in x.at r.elems) → IfSome (run_at a i) (λ r. ChangesRun a b i (Some (with_more r place x)))
      → new.top ≡ tops.Run i → new.len ≡ st.len + 1 → new.spine ≡ st.spine → IsPutIn s k a b x t new
  put-run empty i place h c lacks old e ch top len spine = let d = sym h.top ∙ old in cc
  put-run (rooted j m run ls) i place h c lacks old e ch top len spine = let d = sym h.top ∙ old in cc
  put-run (flat j run) i place h c lacks old e ch top len spine =
      let same : j ≡ i = run-same j i (sym h.top ∙ old) in
      put-at i j run (run_at a i) place refl same h c lacks (subst (λ n. IsSomeAnd (run_at a n) (λ r. r.elems ≡ run)) same h.run) e ch top len spine

  -- the same, where the structure is known to be another tree
  pub put-run-of : (t t0 : Tree) (i place : ℕ) → IsStanding s a st t → IsStanding s a st t0 → IsConforming s k st t0 → Lacks x.at (walk_of s t0)
      → st.top ≡ tops.Run i → IfSome (run_at a i) (λ r. place ≡ place_in x.at r.elems)
      → IfSome (run_at a i) (λ r. ChangesRun a b i (Some (with_more r place x)))
      → new ≡ record { top = tops.Run i; len = st.len + 1; spine = st.spine } → IsPutIn s k a b x t new
  put-run-of t t0 i place h h0 c lacks old e ch is =
      let same : t ≡ t0 = tree_unique s a st t t0 h h0 in
      subst (λ u. IsPutIn s k a b x u new) (sym same)
      (put-run t0 i place h0 c lacks old e ch (ap (λ v. v.top) is) (ap (λ v. v.len) is) (ap (λ v. v.spine) is))

  -- x is the one element of a new run
  put-new : (c : ArenaState) (j : ℕ) → IsStanding s a st empty → IsConforming s k st empty → shape_at s k ≡ Flat → run_at a j ≡ None
      → ChangesRun a c j (Some (record { elems = []; room = a.runs.room })) → ChangesRun c b j (Some (record { elems = x ∷ []; room = a.runs.room - 1 }))
      → new.top ≡ tops.Run j → new.len ≡ st.len + 1 → new.spine ≡ st.spine → IsPutIn s k a b x empty new
  put-new c j h conf e free made ch top len spine =
      let none : 0 ≡ st.len = h.counted in
      let nodes : b.nodes ≡ a.nodes = ch.nodes ∙ made.nodes in
      let kept : (i : ℕ) → j ≢ i → run_at b i ≡ run_at a i =
      λ i other. ch.run.others i (λ z. other (sym z)) ∙ made.run.others i (λ z. other (sym z)) in
      record {
        tree = flat j (x ∷ []);
        stands = record {
          top = top;
          nodes = tt;
          once = tt;
          run = subst (λ o. IsSomeAnd o (λ r. r.elems ≡ x ∷ [])) (sym ch.run.changed) refl;
          counted = omega (arith, len, none);
        };
        conforms = record { tree = (e, omega arith, tt); spine_kept = omega arith; spine_low = omega (arith, spine, conf.spine_low) };
        walk_is = refl;
        only = record {
          nodes = record { others = λ i v w. rw nodes refl; stays = λ i w. tt; news = λ i h v. tt };
          runs = record { others = λ i v w. kept i w; stays = λ i w. tt; news = λ i h v. run_differs a i j h free };
        };
      }

  -- the same of an empty structure, with what is known of its tree
  pub put-new-of : (t t0 : Tree) (c : ArenaState) (j : ℕ) → IsStanding s a st t → IsStanding s a st t0 → IsConforming s k st t0 → shape_at s k ≡ Flat
      → ((i : ℕ) → st.top ≢ tops.Run i) → run_at a j ≡ None → ChangesRun a c j (Some (record { elems = []; room = a.runs.room }))
      → IfSome (run_at c j) (λ r. ChangesRun c b j (Some (with_more r 0 x)))
      → new ≡ record { top = tops.Run j; len = st.len + 1; spine = st.spine } → IsPutIn s k a b x t new
  put-new-of t t0 c j h h0 c0 e apart free made ch is =
      let none : t0 ≡ empty = (top-empty s k a st t0 e h0 c0 apart).1 in
      let same : t ≡ empty = tree_unique s a st t t0 h h0 ∙ none in
      subst (λ u. IsPutIn s k a b x u new) (sym same)
      (put-new c j (subst (IsStanding s a st) none h0) (subst (IsConforming s k st) none c0) e free made
      (put-more c b x j a.runs.room made.run.changed ch) (ap (λ v. v.top) is) (ap (λ v. v.len) is) (ap (λ v. v.spine) is))

-- an empty flat structure wants one run
pub runs_for-empty : (sh : Shape) (top : Top) → sh ≡ Flat → top ≡ tops.Empty → runs_for sh top ≡ 1
runs_for-empty sh top e h = ap (λ v. runs_for v top) e ∙ ap (runs_for Flat) h

-- a new run takes room of none that was there
pub KeepsRoom-new : (top : Top) (a c b : ArenaState) (x : Elem) (j : ℕ) → top ≡ tops.Empty → run_at a j ≡ None
    → ChangesRun a c j (Some (record { elems = []; room = a.runs.room }))
    → IfSome (run_at c j) (λ r. ChangesRun c b j (Some (with_more r 0 x))) → KeepsRoom top a b
KeepsRoom-new top a c b x j e free made ch i = kept (run_at a i) refl
  where
    put : ChangesRun c b j (Some (record { elems = x ∷ []; room = a.runs.room - 1 }))
    put = put-more c b x j a.runs.room made.run.changed ch

    kept : (o : Option RunState) → run_at a i ≡ o → IfSome o (λ r. IsSomeAnd (run_at b i) (λ q. r.room ≤ q.room + room_taken top i))
    kept None is = tt
    kept (Some r) is =
        let other : j ≢ i = run_differs a i j (subst IsSome (sym is) refl) free in
        let same : run_at b i ≡ Some r = put.run.others i (λ z. other (sym z)) ∙ made.run.others i (λ z. other (sym z)) ∙ is in
        subst (λ o. IsSomeAnd o (λ q. r.room ≤ q.room + room_taken top i)) (sym same) (omega arith)

-- a new run has the room of a spare one, less 1
pub HasRoomLeft-new : (old new : Structure) (a c b : ArenaState) (x : Elem) (j : ℕ) → 1 ≤ a.runs.room
    → ChangesRun a c j (Some (record { elems = []; room = a.runs.room }))
    → IfSome (run_at c j) (λ r. ChangesRun c b j (Some (with_more r 0 x))) → new.top ≡ tops.Run j → HasRoomLeft old new a b
HasRoomLeft-new old new a c b x j some made ch top none i is =
    let put = put-more c b x j a.runs.room made.run.changed ch in
    let same : j ≡ i = run-same j i (sym top ∙ is) in
    let there : run_at b i ≡ Some (record { elems = x ∷ []; room = a.runs.room - 1 }) = ap (run_at b) (sym same) ∙ put.run.changed in
    subst (λ o. IsSomeAnd o (λ r. r.room + 1 ≡ a.runs.room)) (sym there) (omega (arith, some))

-- the room that was asked for
pub room-empty : (top : Top) (sh : Shape) (a : ArenaState) → top ≡ tops.Empty → sh ≡ Flat → HasRoom top sh a → 1 ≤ a.runs.room
room-empty top sh a e f h = subst (λ v. HasRoom tops.Empty v a) f (subst (λ v. HasRoom v sh a) e h)
