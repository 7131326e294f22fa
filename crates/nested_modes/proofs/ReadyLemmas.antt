-- Numbers that can be put in without memory, and what one of them leaves for the others.
use Rattle.std.proofs.Common.{◌≡◌, ◌≢◌, ◌≤◌, ◌<◌, ◌+◌, ◌*◌, ◌^◌, ◌⊎◌, inl, inr, ℕ, zero, suc, true, false, eqb, List, [], ◌∷◌, length, Option, Some, None, refl, ap, ◌∙◌, sym, subst, arith}
use Rattle.std.specs.Option.{IsSomeAnd}
use Rattle.std.proofs.Math.Nat.{two-pow-succ}
use Rattle.std.proofs.lemmas.Nat.{pow_pos}
use Rattle.std.proofs.lemmas.Bool.{cases_lt}
use Rattle.std.proofs.lemmas.Bool.Decides.{eqb_tells}
use Rattle.dt_model.specs.declared.declared_tensors.Schema.{Schema}
use Rattle.node_arena.specs.declared.elements.Structure.{Structure}
use Rattle.node_arena.specs.declared.elements.Top.{Top}
use Rattle.node_arena.specs.declared.elements.Top.TheVariants as tops
use Rattle.node_arena.specs.declared.kinds.NodeKind.{NodeKind}
use Rattle.node_arena.specs.declared.kinds.Shape.{Shape}
use Rattle.node_arena.specs.declared.kinds.Shape.TheVariants.{Flat, Post, Ends, Woven}
use Rattle.node_arena.specs.Arenas.{ArenaState, RunState, run_at}
use Rattle.node_arena.specs.Kinds.{kinds_of, root_of, kind_at, shape_at}
use Rattle.node_arena.specs.Modes.{tree_in}
use Rattle.node_arena.specs.Structures.{walk_of}
use Rattle.node_arena.proofs.ModesLemmas.{tree_in-stands}
use Rattle.iter_gen.specs.LookingUp.{elem_with}
use Rattle.insert_gen.specs.declared.needs.Spares.{Spares}
use Rattle.insert_gen.specs.Inserting.{HasRoom, KeepsRoom}
use Rattle.insert_gen.specs.Needs.{HasDigits, nodes_for, runs_for, WantsNodes, Wants}
use Rattle.insert_gen.proofs.NeedsLemmas.{digits-rise, nodes_for-rise}
use Rattle.nested_modes.specs.Codes.{mode_of, modes_of}
use Rattle.nested_modes.specs.Frames.{KeepsNested}
use Rattle.nested_modes.specs.Paths.{inner_of, below}
use Rattle.nested_modes.specs.Readiness.{CanGrow, IsReady, most_nodes, HasRoomFor, HasSpares, CanGrowBy, IsReadyFor}
use Rattle.nested_modes.specs.Putting.{Spends, SpendsEach}
use Rattle.nested_modes.proofs.KeptLemmas.{KeepsNested-empty}
use Rattle.nested_modes.proofs.RoomLemmas.{room-stays}
use Rattle.nested_modes.proofs.StepLemmas.{kept-found}

-- ---- what one insertion wants

-- each number has so many binary digits
pub record Digits (n : ℕ) : Type 0 where
  pub count : ℕ
  pub is : HasDigits n count

-- each number has binary digits
pub digits_of : (n : ℕ) → Digits n
digits_of zero = record { count = 0; is = (omega arith, omega arith) }
digits_of (suc n) = step (digits_of n)
  where
    step : Digits n → Digits (suc n)
    step d = pick (cases_lt (suc n) (2 ^ d.count))
      where
        pick : (suc n < 2 ^ d.count) ⊎ (2 ^ d.count ≤ suc n) → Digits (suc n)
        pick (inl l) = let low = d.is.1 in record { count = d.count; is = (l, omega (arith, low)) }
        pick (inr l) =
            let two : 2 ^ suc d.count ≡ 2 ^ d.count + 2 ^ d.count = two-pow-succ d.count in
            let high = d.is.0 in
            let some : 0 < 2 ^ d.count = pow_pos d.count in
            record { count = suc d.count; is = (omega (arith, two, high, some), omega (arith, two, l)) }

-- a length has at most 32 digits
digits-few : (n d : ℕ) → n ≤ 4294967295 → HasDigits n d → d ≤ 32
digits-few n d l h = digits-rise n 4294967295 d 32 l h (omega arith, omega arith)

wants-few : (s : List NodeKind) (k len n : ℕ) → len ≤ 4294967295 → WantsNodes s k len n → n ≤ most_nodes s k
wants-few s k len n l w = subst (λ v. v ≤ most_nodes s k) (sym w.2) (nodes_for-rise s (shape_at s k) w.0 32 (digits-few len w.0 l w.1))

-- the longest structure wants the most nodes
pub most-wanted : (s : List NodeKind) (k n : ℕ) → WantsNodes s k 4294967295 n → n ≡ most_nodes s k
most-wanted s k n w =
    let low : w.0 ≤ 32 = digits-few 4294967295 w.0 (omega arith) w.1 in
    let high : 32 ≤ w.0 = digits-rise 4294967295 4294967295 32 w.0 (omega arith) (omega arith, omega arith) w.1 in
    let same : w.0 ≡ 32 = omega arith in
    w.2 ∙ ap (nodes_for s (shape_at s k)) same

runs-few : (shape : Shape) (top : Top) → runs_for shape top ≤ 1
runs-few Flat tops.Empty = omega arith
runs-few Flat (tops.Node i) = omega arith
runs-few Flat (tops.Run i) = omega arith
runs-few (Post p) top = omega arith
runs-few (Ends p q) top = omega arith
runs-few Woven top = omega arith

runs-enough : (shape : Shape) (top : Top) (n : ℕ) → (shape ≡ Flat → 1 ≤ n) → runs_for shape top ≤ n
runs-enough Flat tops.Empty n h = h refl
runs-enough Flat (tops.Node i) n h = omega arith
runs-enough Flat (tops.Run i) n h = omega arith
runs-enough (Post p) top n h = omega arith
runs-enough (Ends p q) top n h = omega arith
runs-enough Woven top n h = omega arith

-- the spares that a structure wants
wanted : (s : List NodeKind) (k : ℕ) (st : Structure) → (n : Spares) × Wants s k st n
wanted s k st =
    let d = digits_of st.len in (
      record { nodes = nodes_for s (shape_at s k) d.count; runs = runs_for (shape_at s k) st.top },
      record { nodes = (d.count, d.is, refl); runs = refl },
    )

room-some : (n : ℕ) (top : Top) (shape : Shape) (a : ArenaState) → HasRoomFor (suc n) top shape a → HasRoom top shape a
room-some n tops.Empty Flat a h = let l : suc n ≤ a.runs.room = h refl in omega arith
room-some n tops.Empty (Post p) a h = tt
room-some n tops.Empty (Ends p q) a h = tt
room-some n tops.Empty Woven a h = tt
room-some n (tops.Node i) shape a h = tt
room-some n (tops.Run i) shape a h = some-room (run_at a i) h
  where
    some-room : (o : Option RunState) → IsSomeAnd o (λ r. suc n ≤ r.room) → IsSomeAnd o (λ r. 1 ≤ r.room)
    some-room None h = absurd h
    some-room (Some r) h = omega arith

more-once : (n b : ℕ) → suc n * b ≡ n * b + b
more-once n b = omega arith

-- where numbers can be put in, one can
pub CanGrow-by : (n : ℕ) (s : List NodeKind) (k : ℕ) (a : ArenaState) (st : Structure) → HasSpares (suc n) s k a → CanGrowBy (suc n) s k a st → CanGrow s k a st
unfolding wanted
CanGrow-by n s k a st h g =
    let few : st.len + suc n ≤ 4294967295 = g.few in
    let w = wanted s k st in
    let nodes : w.0.nodes ≤ most_nodes s k = wants-few s k st.len w.0.nodes (omega arith) w.1.nodes in
    let spare : suc n * most_nodes s k ≤ a.nodes.spare = h.nodes in
    let once : suc n * most_nodes s k ≡ n * most_nodes s k + most_nodes s k = more-once n (most_nodes s k) in
    record {
      few = omega arith;
      spares = w.0;
      wants = w.1;
      nodes = omega arith;
      runs = runs-enough (shape_at s k) st.top a.runs.spare (λ f. let l : suc n ≤ a.runs.spare = h.runs f in omega arith);
      low = λ e. let l : st.spine + suc n ≤ 96 = g.low e in omega arith;
      room = room-some n st.top (shape_at s k) a g.room;
    }

-- where a path is ready for one number or more, one number can be put in
pub IsReady-for : (n : ℕ) (cs : List Schema) (arenas : List ArenaState) (st : Structure) (at : List ℕ) → IsReadyFor (suc n) cs arenas st at → IsReady cs
    arenas st at
IsReady-for n [] arenas st at h = h
IsReady-for n (c ∷ cs) [] st at h = absurd h
IsReady-for n (c ∷ cs) (a ∷ arenas) st [] h = absurd h
IsReady-for n (c ∷ cs) (a ∷ arenas) st (i ∷ at) h =
    (h.0.serves, (λ none. CanGrow-by n (kinds_of c) (root_of c) a st h.0 h.1), IsReady-for n cs arenas (below (mode_of c a) st i) at h.2)

-- ---- what is left

-- behind one number there are spares for one less, and of each run at most one place of room is taken
pub record Leaves (n : ℕ) (s : List NodeKind) (k : ℕ) (a b : ArenaState) (own : Top) : Type 0 where
  pub spares : HasSpares n s k b
  pub room : KeepsRoom own a b
  pub spare_room : b.runs.room ≡ a.runs.room

-- what one number spends of spares for n + 1 numbers leaves those for n
pub Leaves-spent : (n : ℕ) (s : List NodeKind) (k : ℕ) (a b : ArenaState) (st now : Structure) → HasSpares (suc n) s k a → CanGrowBy (suc n) s k a st
    → Spends s k a b st now → Leaves n s k a b st.top
unfolding wanted
Leaves-spent n s k a b st now h g e =
    let few : st.len + suc n ≤ 4294967295 = g.few in
    let w = wanted s k st in
    let nodes : w.0.nodes ≤ most_nodes s k = wants-few s k st.len w.0.nodes (omega arith) w.1.nodes in
    let spent : a.nodes.spare ≤ b.nodes.spare + w.0.nodes = e.nodes w.0 w.1 in
    let made : a.runs.spare ≤ b.runs.spare + w.0.runs = e.runs w.0 w.1 in
    let one : w.0.runs ≤ 1 = runs-few (shape_at s k) st.top in
    let spare : suc n * most_nodes s k ≤ a.nodes.spare = h.nodes in
    let once : suc n * most_nodes s k ≡ n * most_nodes s k + most_nodes s k = more-once n (most_nodes s k) in
    record {
      spares = record {
        serves = λ j. subst (λ v. (kind_at s j).hi ≤ v) (sym e.most) (h.serves j);
        nodes = omega arith;
        runs = λ f. let l : suc n ≤ a.runs.spare = h.runs f in omega arith;
      };
      room = e.room;
      spare_room = e.spare_room;
    }

-- of a structure that stays
stays-ready : (n : ℕ) (s : List NodeKind) (k : ℕ) (a b : ArenaState) (own : Top) (x : Structure) → Leaves n s k a b own → CanGrowBy (suc n) s k a x →
    CanGrowBy n s k b x
stays-ready n s k a b own x l g =
    let few : x.len + suc n ≤ 4294967295 = g.few in
    record {
      few = omega arith;
      low = λ e. let m : x.spine + suc n ≤ 96 = g.low e in omega arith;
      room = room-stays x.top own (shape_at s k) a b n l.room l.spare_room g.room;
    }

-- of the structure that has one more element
grown-ready : (n : ℕ) (s : List NodeKind) (k : ℕ) (a b : ArenaState) (st now : Structure) → Spends s k a b st now → CanGrowBy (suc n) s k a st → CanGrowBy n
    s k b now
grown-ready n s k a b st now e g =
    let few : st.len + suc n ≤ 4294967295 = g.few in
    let len : now.len ≤ st.len + 1 = e.len in
    let spine : now.spine ≤ st.spine + 1 = e.spine in
    record {
      few = omega arith;
      low = λ f. let m : st.spine + suc n ≤ 96 = g.low f in omega arith;
      room = e.room_now n g.room;
    }

-- in each mode
abbrev pub LeavesEach : ℕ → List Schema → List ArenaState → List ArenaState → Type 0
LeavesEach n [] old new = new ≡ old
LeavesEach n (c ∷ cs) [] new = ⊥
LeavesEach n (c ∷ cs) (a ∷ old) [] = ⊥
LeavesEach n (c ∷ cs) (a ∷ old) (b ∷ new) = ((own : Top) × Leaves n (kinds_of c) (root_of c) a b own) × LeavesEach n cs old new

LeavesEach-spent : (n : ℕ) (cs : List Schema) (old new : List ArenaState) (st now : Structure) (at : List ℕ) → IsReadyFor (suc n) cs old st at
    → SpendsEach cs old new st now at → LeavesEach n cs old new
LeavesEach-spent n [] old new st now at r e = e
LeavesEach-spent n (c ∷ cs) [] new st now at r e = e
LeavesEach-spent n (c ∷ cs) (a ∷ old) [] st now at r e = e
LeavesEach-spent n (c ∷ cs) (a ∷ old) (b ∷ new) st now [] r e = absurd e
LeavesEach-spent n (c ∷ cs) (a ∷ old) (b ∷ new) st now (i ∷ at) r e = (
  (st.top, Leaves-spent n (kinds_of c) (root_of c) a b st now r.0 r.1 e.0),
  LeavesEach-spent n cs old new (below (mode_of c a) st i) (below (mode_of c b) now i) at r.2 e.2,
)

-- a structure that is kept is ready for one number less
kept-ready : (n : ℕ) (cs : List Schema) (old new : List ArenaState) (x : Structure) (path : List ℕ) → length new ≡ length old → LeavesEach n cs old new
    → KeepsNested (modes_of cs old) (modes_of cs new) x → IsReadyFor (suc n) cs old x path → IsReadyFor n cs new x path
kept-ready n [] old new x path e l k r = (l ∙ r.0, r.1)
kept-ready n (c ∷ cs) [] new x path e l k r = absurd r
kept-ready n (c ∷ cs) (a ∷ old) [] x path e l k r = absurd (omega arith)
kept-ready n (c ∷ cs) (a ∷ old) (b ∷ new) x [] e l k r = absurd r
kept-ready n (c ∷ cs) (a ∷ old) (b ∷ new) x (i ∷ path) e l k r =
    let s = kinds_of c in
    let own = l.0.0 in
    let t : tree_in b x ≡ tree_in a x = tree_in-stands s b x (tree_in a x) k.0 in
    let Kept : Structure → Type 0 = λ y. KeepsNested (modes_of cs old) (modes_of cs new) y in
    let same : length new ≡ length old = omega arith in
    let inner : Kept (below (mode_of c a) x i) = kept-found Kept i (walk_of s (tree_in a x)) (KeepsNested-empty cs old new same) k.1 in (
      l.0.1.spares,
      stays-ready n s (root_of c) a b own x l.0.1 r.1,
      subst (λ u. IsReadyFor n cs new (inner_of (elem_with i (walk_of s u))) path) (sym t)
          (kept-ready n cs old new (below (mode_of c a) x i) path same l.1 inner r.2),
    )

module _ (n : ℕ) where
  step-ready : (cs : List Schema) (old new : List ArenaState) (st now : Structure) (at path : List ℕ) → length new ≡ length old → LeavesEach n cs old new
      → SpendsEach cs old new st now at → IsReadyFor (suc n) cs old st path → IsReadyFor n cs new now path
  step-ready [] old new st now at path e l g r = (l ∙ r.0, r.1)
  step-ready (c ∷ cs) [] new st now at path e l g r = absurd r
  step-ready (c ∷ cs) (a ∷ old) [] st now at path e l g r = absurd (omega arith)
  step-ready (c ∷ cs) (a ∷ old) (b ∷ new) st now [] path e l g r = absurd g
  step-ready (c ∷ cs) (a ∷ old) (b ∷ new) st now (i ∷ at) [] e l g r = absurd r
  step-ready (c ∷ cs) (a ∷ old) (b ∷ new) st now (i ∷ at) (j ∷ path) e l g r = (
    l.0.1.spares,
    grown-ready n (kinds_of c) (root_of c) a b st now g.0 r.1,
    pick (eqb_tells j i) (λ q. step-ready cs old new (below (mode_of c a) st i) (below (mode_of c b) now i) at path same l.1 g.2 q) off,
  )
    where
      same : length new ≡ length old
      same = omega arith

      off : j ≢ i → IsReadyFor n cs new (below (mode_of c b) now j) path
      off f =
          let k = g.1 j f in
          subst (λ y. IsReadyFor n cs new y path) (sym k.0) (kept-ready n cs old new (below (mode_of c a) st j) path same l.1 k.1 r.2)

      pick : ((eqb j i ≡ true) × (j ≡ i)) ⊎ ((eqb j i ≡ false) × (j ≢ i))
          → (IsReadyFor (suc n) cs old (below (mode_of c a) st i) path → IsReadyFor n cs new (below (mode_of c b) now i) path)
          → (j ≢ i → IsReadyFor n cs new (below (mode_of c b) now j) path) → IsReadyFor n cs new (below (mode_of c b) now j) path
      pick (inl q) f h =
          subst (λ v. IsReadyFor n cs new (below (mode_of c b) now v) path) (sym q.1)
          (f (subst (λ v. IsReadyFor (suc n) cs old (below (mode_of c a) st v) path) q.1 r.2))
      pick (inr q) f h = h q.1

-- where numbers can be put in on two paths, and one is put in on the first, one less can be put in on the second
pub IsReadyFor-spent : (n : ℕ) (cs : List Schema) (old new : List ArenaState) (st now : Structure) (at path : List ℕ) → length new ≡ length old
    → SpendsEach cs old new st now at → IsReadyFor (suc n) cs old st at → IsReadyFor (suc n) cs old st path → IsReadyFor n cs new now path
IsReadyFor-spent n cs old new st now at path e g ra rp = step-ready n cs old new st now at path e (LeavesEach-spent n cs old new st now at ra g) g rp
