-- What one element that is set writes and spends.
use Rattle.std.proofs.Common.{◌≡◌, ◌≢◌, ◌≤◌, ◌+◌, ◌*◌, ◌⊎◌, inl, inr, ℕ, true, false, eqb, List, [], Option, Some, None, refl, ap, ◌∙◌, sym, subst, arith}
use Rattle.std.specs.Prelude.{IfSome, slice_set}
use Rattle.std.specs.Option.{IsSomeAnd}
use Rattle.std.proofs.lemmas.Bool.Decides.{eqb_tells}
use Rattle.node_arena.specs.declared.elements.Elem.{Elem}
use Rattle.node_arena.specs.declared.elements.Structure.{Structure}
use Rattle.node_arena.specs.declared.elements.Top.{Top}
use Rattle.node_arena.specs.declared.kinds.NodeKind.{NodeKind}
use Rattle.node_arena.specs.Arenas.{ArenaState, NodeState, RunState, node_at, run_at, run_in, ChangesNode, ChangesRun}
use Rattle.node_arena.specs.Insertions.{DifferInFew}
use Rattle.node_arena.proofs.ChangesLemmas.{DifferInFew-same, DifferInFew-one, DifferInFew-wider}
use Rattle.iter_gen.specs.declared.looking_up.Spot.{Spot}
use Rattle.iter_gen.specs.declared.looking_up.Spot.TheVariants as spots
use Rattle.insert_gen.specs.Inserting.{KeepsRoom, room_taken}
use Rattle.insert_gen.specs.Replacing.{ReplacesAt}
use Rattle.node_arena.specs.Kinds.{shape_at}
use Rattle.nested_modes.specs.Readiness.{HasRoomFor}
use Rattle.nested_modes.proofs.RoomLemmas.{room-stays}
use Rattle.nested_modes.specs.Putting.{Spends}

-- a run has at least the room that it has
room-same : (o : Option RunState) (n : ℕ) → IfSome o (λ r. IsSomeAnd o (λ q. r.room ≤ q.room + n))
room-same None n = tt
room-same (Some r) n = omega arith

room-kept : (o p : Option RunState) (n : ℕ) → p ≡ o → IfSome o (λ r. IsSomeAnd p (λ q. r.room ≤ q.room + n))
room-kept o p n e = subst (λ v. IfSome o (λ r. IsSomeAnd v (λ q. r.room ≤ q.room + n))) (sym e) (room-same o n)

room-now : (o p : Option RunState) (r z : RunState) (n : ℕ) → o ≡ Some r → p ≡ Some z → z.room ≡ r.room
    → IfSome o (λ v. IsSomeAnd p (λ q. v.room ≤ q.room + n))
room-now o p r z n e f g =
    let low : r.room ≤ z.room + n = omega arith in
    subst (λ v. IfSome v (λ w. IsSomeAnd p (λ q. w.room ≤ q.room + n))) (sym e) (subst (λ v. IsSomeAnd v (λ q. r.room ≤ q.room + n)) (sym f) low)

KeepsRoom-nodes : (top : Top) (a b : ArenaState) → b.runs ≡ a.runs → KeepsRoom top a b
KeepsRoom-nodes top a b e i = room-kept (run_at a i) (run_at b i) (room_taken top i) (ap (λ v. run_in v i) e)

KeepsRoom-run : (top : Top) (a b : ArenaState) (i : ℕ) (r z : RunState) → run_at a i ≡ Some r → ChangesRun a b i (Some z) → z.room ≡ r.room
    → KeepsRoom top a b
KeepsRoom-run top a b i r z e c same j = pick (eqb_tells j i)
  where
    pick : ((eqb j i ≡ true) × (j ≡ i)) ⊎ ((eqb j i ≡ false) × (j ≢ i)) → IfSome (run_at a j)
        (λ v. IsSomeAnd (run_at b j) (λ q. v.room ≤ q.room + room_taken top j))
    pick (inl q) = room-now (run_at a j) (run_at b j) r z (room_taken top j) (ap (run_at a) q.1 ∙ e) (ap (run_at b) q.1 ∙ c.run.changed) same
    pick (inr q) = room-kept (run_at a j) (run_at b j) (room_taken top j) (c.run.others j q.1)

-- what a replacement leaves: one node differs, and runs have the room that they had
pub record LeavesRoom (top : Top) (a b : ArenaState) : Type 0 where
  pub one : DifferInFew 1 a b
  pub room : KeepsRoom top a b
  pub spare_room : b.runs.room ≡ a.runs.room

replaced-node : (top : Top) (a b : ArenaState) (x : Elem) (i p : ℕ) (o : Option NodeState)
    → IsSomeAnd o (λ n. ChangesNode a b i (Some (record n { run = slice_set n.run p x }))) → LeavesRoom top a b
replaced-node top a b x i p None h = absurd h
replaced-node top a b x i p (Some n) h = record {
  one = DifferInFew-one a b i (Some (record n { run = slice_set n.run p x })) h;
  room = KeepsRoom-nodes top a b h.runs;
  spare_room = ap (λ v. v.room) h.runs;
}

replaced-run : (top : Top) (a b : ArenaState) (x : Elem) (i p : ℕ) (o : Option RunState) → run_at a i ≡ o
    → IsSomeAnd o (λ r. ChangesRun a b i (Some (record r { elems = slice_set r.elems p x }))) → LeavesRoom top a b
replaced-run top a b x i p None e h = absurd h
replaced-run top a b x i p (Some r) e h = record {
  one = record { touched = []; few = omega arith; others = λ j m. let same : b.nodes ≡ a.nodes = h.nodes in rw same refl };
  room = KeepsRoom-run top a b i r (record r { elems = slice_set r.elems p x }) e h refl;
  spare_room = h.run.room;
}

-- a replaced element takes no room of any run
pub LeavesRoom-replaced : (top : Top) (a b : ArenaState) (x : Elem) (spot : Spot) → ReplacesAt a b x spot → LeavesRoom top a b
LeavesRoom-replaced top a b x (spots.Node i p) h = replaced-node top a b x i p (node_at a i) h
LeavesRoom-replaced top a b x (spots.Run i p) h = replaced-run top a b x i p (run_at a i) refl h

-- a replacement writes one node, and spends nothing
pub Spends-replaced : (s : List NodeKind) (k : ℕ) (a b : ArenaState) (st now : Structure) → LeavesRoom st.top a b → now ≡ st
    → b.nodes.spare ≡ a.nodes.spare → b.runs.spare ≡ a.runs.spare → b.nodes.most ≡ a.nodes.most → Spends s k a b st now
Spends-replaced s k a b st now h same nodes runs most =
    let len : now.len ≡ st.len = ap (λ v. v.len) same in
    let spine : now.spine ≡ st.spine = ap (λ v. v.spine) same in
    record {
      few = λ w. DifferInFew-wider 1 2 a b (omega arith) h.one;
      woven = λ w. record { height = 0; low = omega arith; differ = DifferInFew-wider 1 (2 * 0 + 1) a b (omega arith) h.one };
      len = omega arith;
      spine = omega arith;
      nodes = λ n w. omega arith;
      runs = λ n w. omega arith;
      room = h.room;
      room_now = λ n g. subst (λ v. HasRoomFor n v.top (shape_at s k) b) (sym same) (room-stays st.top st.top (shape_at s k) a b n h.room h.spare_room g);
      spare_room = h.spare_room;
      most = most;
    }

-- where nothing is done all is left
pub LeavesRoom-same : (top : Top) (a : ArenaState) → LeavesRoom top a a
LeavesRoom-same top a = record { one = DifferInFew-wider 0 1 a a (omega arith) (DifferInFew-same a); room = KeepsRoom-nodes top a a refl; spare_room = refl }
