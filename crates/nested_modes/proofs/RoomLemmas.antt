-- The room of runs, behind one element that is set.
use Rattle.std.proofs.Common.{◌≡◌, ◌≢◌, ◌≤◌, ◌+◌, ◌⊎◌, inl, inr, ℕ, suc, Bool, true, false, eqb, cond, List, Option, Some, None, refl, ◌∙◌, sym, subst, arith}
use Rattle.std.specs.Prelude.{IfSome}
use Rattle.std.specs.Option.{IsSomeAnd}
use Rattle.std.proofs.lemmas.Bool.Decides.{eqb_tells}
use Rattle.node_arena.specs.declared.elements.Elem.{Elem}
use Rattle.node_arena.specs.declared.elements.Structure.{Structure}
use Rattle.node_arena.specs.declared.elements.Top.{Top}
use Rattle.node_arena.specs.declared.elements.Top.TheVariants as tops
use Rattle.node_arena.specs.declared.kinds.NodeKind.{NodeKind}
use Rattle.node_arena.specs.declared.kinds.Shape.{Shape}
use Rattle.node_arena.specs.Arenas.{ArenaState, RunState, run_at}
use Rattle.node_arena.specs.Kinds.{shape_at}
use Rattle.node_arena.specs.Structures.{Tree, empty, rooted, flat, top_of, IsStanding, IsConforming, ConformTree, ChangesOnlyTree}
use Rattle.insert_gen.specs.Inserting.{KeepsRoom, HasRoomLeft, room_taken}
use Rattle.nested_modes.specs.Readiness.{HasRoomFor}

-- at most one place of room is taken of a run
pub taken-few : (top : Top) (i : ℕ) → room_taken top i ≤ 1
taken-few tops.Empty i = omega arith
taken-few (tops.Node j) i = omega arith
taken-few (tops.Run j) i = pick (eqb i j)
  where
    pick : (b : Bool) → cond b 1 0 ≤ 1
    pick true = omega arith
    pick false = omega arith

less-room : (o p : Option RunState) (n m : ℕ) → m ≤ 1 → IfSome o (λ r. IsSomeAnd p (λ q. r.room ≤ q.room + m)) → IsSomeAnd o (λ r. suc n ≤ r.room)
    → IsSomeAnd p (λ q. n ≤ q.room)
less-room None p n m l k h = absurd h
less-room (Some r) None n m l k h = absurd k
less-room (Some r) (Some q) n m l k h = omega arith

left-room : (o : Option RunState) (n all : ℕ) → suc n ≤ all → IsSomeAnd o (λ r. r.room + 1 ≡ all) → IsSomeAnd o (λ q. n ≤ q.room)
left-room None n all l h = absurd h
left-room (Some q) n all l h = omega arith

-- a structure that stays has room for one less at least
pub room-stays : (top own : Top) (shape : Shape) (a b : ArenaState) (n : ℕ) → KeepsRoom own a b → b.runs.room ≡ a.runs.room → HasRoomFor (suc n) top shape a
    → HasRoomFor n top shape b
room-stays tops.Empty own shape a b n k e h = λ f. let l : suc n ≤ a.runs.room = h f in omega arith
room-stays (tops.Node i) own shape a b n k e h = tt
room-stays (tops.Run i) own shape a b n k e h = less-room (run_at a i) (run_at b i) n (room_taken own i) (taken-few own i) (k i) h

same-run : (a b : ArenaState) (i j : ℕ) (run other : List Elem) → ChangesOnlyTree a b (flat i run) (flat j other) → j ≡ i
same-run a b i j run other only = pick (eqb_tells j i)
  where
    pick : ((eqb j i ≡ true) × (j ≡ i)) ⊎ ((eqb j i ≡ false) × (j ≢ i)) → j ≡ i
    pick (inl q) = q.1
    pick (inr q) = absurd (only.runs.stays i q.1 refl)

-- the trees of a structure before and after an element was put in
trees-room : (s : List NodeKind) (k : ℕ) (a b : ArenaState) (t u : Tree) (n : ℕ) → ConformTree s k t → ConformTree s k u → top_of u ≢ tops.Empty
    → ChangesOnlyTree a b t u → KeepsRoom (top_of t) a b
    → (top_of t ≡ tops.Empty → (i : ℕ) → top_of u ≡ tops.Run i → IsSomeAnd (run_at b i) (λ r. r.room + 1 ≡ a.runs.room))
    → HasRoomFor (suc n) (top_of t) (shape_at s k) a → HasRoomFor n (top_of u) (shape_at s k) b
trees-room s k a b t empty n ct cu some only keeps left h = absurd (some refl)
trees-room s k a b t (rooted i m run ls) n ct cu some only keeps left h = tt
trees-room s k a b empty (flat j other) n ct cu some only keeps left h = left-room (run_at b j) n a.runs.room (h cu.0) (left refl j refl)
trees-room s k a b (rooted i m run ls) (flat j other) n ct cu some only keeps left h = absurd (ct.0 cu.0)
trees-room s k a b (flat i run) (flat j other) n ct cu some only keeps left h =
    let e : j ≡ i = same-run a b i j run other only in
    subst (λ v. IsSomeAnd (run_at b v) (λ r. n ≤ r.room)) (sym e)
    (less-room (run_at a i) (run_at b i) n (room_taken (tops.Run i) i) (taken-few (tops.Run i) i) (keeps i) h)

-- the structure itself has room for one less
pub room-put : (s : List NodeKind) (k : ℕ) (a b : ArenaState) (st now : Structure) (t u : Tree) (n : ℕ) → IsStanding s a st t → IsConforming s k st t
    → IsStanding s b now u → IsConforming s k now u → now.top ≢ tops.Empty → ChangesOnlyTree a b t u → KeepsRoom st.top a b → HasRoomLeft st now a b
    → HasRoomFor (suc n) st.top (shape_at s k) a → HasRoomFor n now.top (shape_at s k) b
room-put s k a b st now t u n ht ct hu cu some only keeps left h =
    subst (λ v. HasRoomFor n v (shape_at s k) b) (sym hu.top)
    (trees-room s k a b t u n ct.tree cu.tree (λ e. some (hu.top ∙ e)) only (subst (λ v. KeepsRoom v a b) ht.top keeps)
    (λ e i f. left (ht.top ∙ e) i (hu.top ∙ f)) (subst (λ v. HasRoomFor (suc n) v (shape_at s k) a) ht.top h))
