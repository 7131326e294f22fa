use Rattle.std.proofs.Common.{◌≡◌, ◌⊎◌, ◌≤◌, ◌<◌, ◌+◌, ◌-◌, ◌≢◌, ℕ, List, length, slice_get, Option, Some, None, IsSome, refl, ◌∙◌, sym, subst, arith}
use Rattle.node_arena.specs.declared.elements.Elem.{Elem}
use Rattle.node_arena.specs.declared.kinds.NodeKind.{NodeKind}
use Rattle.node_arena.specs.Arenas.{NodeState, ArenaState, node_at, coordinate_at, place_in}
use Rattle.node_arena.specs.Kinds.{kind_at, shape_at}
use Rattle.node_arena.specs.Trees.{Trees}
use Rattle.node_arena.specs.Walks.{walk}
use Rattle.iter_gen.specs.LookingUp.{elem_with}
use Rattle.iter_gen.specs.Searching.{Searches, IsHere, Leads, LeadsTo, link_behind, link_before}
use Rattle.iter_gen.proofs.DescentLemmas.{root-there, root-of, root-within, root-found, lead-behind}
use Rattle.iter_gen.proofs.DescentLemmas.{lead-before, elem-of, place-within, place-above, smaller-low, smaller-end}
use Rattle.iter_gen.proofs.descending.take_turn.Goals as goal

module _ (s : List NodeKind) (a : ArenaState) (at i low end : ℕ) (some : (k : ℕ) → 1 ≤ (kind_at s k).lo) (n : NodeState)
    (is : node_at a i ≡ Some n) where
  -- the link behind the run is taken
  taken-behind : (last from : ℕ) (o : Option ℕ) → coordinate_at n.run (length n.run - 1) ≡ Some last → last < at → from ≡ last + 1
      → o ≡ link_behind (shape_at s n.kind) (length n.run) n.links → (t : Trees) → Searches s a i low end t → Leads s a at o from end (walk s t) t
  taken-behind last from o read below next link_is t h =
      lead-behind s a at some i low end t n last from o (root-of s a at some i low end t n h is) read below next link_is

  -- the link before the first element above is taken
  taken-before : (place next : ℕ) (o : Option ℕ) → place ≡ place_in at n.run → coordinate_at n.run place ≡ Some next → next ≢ at
      → o ≡ link_before (shape_at s n.kind) place n.links → (t : Trees) → Searches s a i low end t → Leads s a at o low next (walk s t) t
  taken-before place next o place_is read differs link_is t h =
      let e = elem-of n.run place next read in
      let le : at ≤ e.0.at = place-above at n.run e.0 (subst (λ v. slice_get n.run v ≡ Some e.0) place_is e.1) in
      let same = e.2 in
      let above : at < e.0.at = omega arith in
      subst (λ v. Leads s a at o low v (walk s t) t) e.2
      (lead-before s a at some i low end t n e.0 place o (root-of s a at some i low end t n h is) place_is e.1 above link_is)

  -- an element that is read lies within the bounds
  read-within : (place v : ℕ) → coordinate_at n.run place ≡ Some v → (t : Trees) → Searches s a i low end t
      → (low ≤ v) × ((v < end) ⊎ (end ≡ 4294967296))
  read-within place v read t h =
      let e = elem-of n.run place v read in
      subst (λ w. (low ≤ w) × ((w < end) ⊎ (end ≡ 4294967296))) e.2
      (root-within s a at some i low end t n e.0 place (root-of s a at some i low end t n h is) e.1)

  -- the element is here
  read-here : (place v : ℕ) → coordinate_at n.run place ≡ Some v → v ≡ at → (t : Trees) → Searches s a i low end t → IsHere s a at i place t
  read-here place v read same t h =
      let e = elem-of n.run place v read in
      root-found s a at some i low end t n e.0 place (root-of s a at some i low end t n h is) is e.1 (e.2 ∙ same)

  -- the run of the node in hand isn't empty
  some-run : (t : Trees) → Searches s a i low end t → 1 ≤ length n.run
  some-run t h = (root-of s a at some i low end t n h is).some_run

lead_to : (s : List NodeKind) (a : ArenaState) (at : ℕ) (o : Option ℕ) (low end : ℕ) (t : Trees) (i : ℕ) → o ≡ Some i
    → Leads s a at o low end (walk s t) t → LeadsTo s a at i low end (walk s t) t
lead_to s a at o low end t i e h = subst (λ v. Leads s a at v low end (walk s t) t) e h

lead_none : (s : List NodeKind) (a : ArenaState) (at : ℕ) (o : Option ℕ) (low end : ℕ) (t : Trees) → o ≡ None → Leads s a at o low end (walk s t) t
    → elem_with at (walk s t) ≡ None
lead_none s a at o low end t e h = subst (λ v. Leads s a at v low end (walk s t) t) e h

pub view-node-requires : goal.view-node-requires
view-node-requires c =
    let q = root-there c.args.kinds.now c.args.arena.now c.args.at c.requires.sound.some c.args.here c.args.low c.args.end c.requires.searches.0
    c.requires.searches.1 in
    record { there = subst IsSome (sym q.1) refl }

pub overflow_sub-len : goal.overflow_sub-len
overflow_sub-len c =
    let some = some-run _ c.args.arena.now c.args.at c.args.here c.args.low c.args.end c.requires.sound.some c.view-node.result c.view-node.ensures.value
    c.requires.searches.0 c.requires.searches.1 in
    let e = c.len.ensures.value in
    omega arith

pub coordinate-last-requires : goal.coordinate-last-requires
coordinate-last-requires c =
    let some = some-run _ c.args.arena.now c.args.at c.args.here c.args.low c.args.end c.requires.sound.some c.view-node.result c.view-node.ensures.value
    c.requires.searches.0 c.requires.searches.1 in
    let e = c.len.ensures.value in
    record { there = omega arith }

last_read : (run : List Elem) (n last : ℕ) → n ≡ length run → coordinate_at run (n - 1) ≡ Some last → coordinate_at run (length run - 1) ≡ Some last
last_read run n last e h = subst (λ v. coordinate_at run (v - 1) ≡ Some last) e h

pub coordinate-next-requires : goal.coordinate-next-requires
coordinate-next-requires c =
    let last = last_read c.view-node.result.run c.len.result c.coordinate-last.result c.len.ensures.value c.coordinate-last.ensures.value in
    let place = c.place-place.ensures.value in
    let within : place_in c.args.at c.view-node.result.run < length c.view-node.result.run =
    place-within c.args.at c.view-node.result.run c.coordinate-last.result last (omega arith) in
    record { there = omega arith }

pub returns-then-next-at : goal.returns-then-next-at
returns-then-next-at c = record {
  turns = read-here _ c.args.arena.now c.args.at c.args.here c.args.low c.args.end c.requires.sound.some c.view-node.result c.view-node.ensures.value
      c.place-place.result c.coordinate-next.result c.coordinate-next.ensures.value (omega arith);
}

pub returns-in-None : goal.returns-in-None
returns-in-None c = record {
  turns = λ t h. lead_none _ c.args.arena.now c.args.at c.behind.result (c.coordinate-last.result + 1) c.args.end t c.in-None.is
      (taken-behind _ c.args.arena.now c.args.at c.args.here c.args.low c.args.end c.requires.sound.some c.view-node.result c.view-node.ensures.value
      c.coordinate-last.result (c.coordinate-last.result + 1) c.behind.result
      (last_read c.view-node.result.run c.len.result c.coordinate-last.result c.len.ensures.value c.coordinate-last.ensures.value)
      (omega arith) refl c.behind.ensures.value t h);
}

pub returns-in-Some : goal.returns-in-Some
returns-in-Some c = record {
  turns = λ t h. (
    lead_to _ c.args.arena.now c.args.at c.behind.result (c.coordinate-last.result + 1) c.args.end t c.in-Some.node c.in-Some.is
        (taken-behind _ c.args.arena.now c.args.at c.args.here c.args.low c.args.end c.requires.sound.some c.view-node.result c.view-node.ensures.value
        c.coordinate-last.result (c.coordinate-last.result + 1) c.behind.result
        (last_read c.view-node.result.run c.len.result c.coordinate-last.result c.len.ensures.value c.coordinate-last.ensures.value)
        (omega arith) refl c.behind.ensures.value t h),
    smaller-low c.args.low c.args.end c.coordinate-last.result (omega arith)
        (read-within _ c.args.arena.now c.args.at c.args.here c.args.low c.args.end c.requires.sound.some c.view-node.result c.view-node.ensures.value
        (c.len.result - 1) c.coordinate-last.result c.coordinate-last.ensures.value t h),
  );
}

pub returns-in-None-before : goal.returns-in-None-before
returns-in-None-before c = record {
  turns = λ t h. lead_none _ c.args.arena.now c.args.at c.before-else-last-at.result c.args.low c.coordinate-next.result t c.in-None-before.is
      (taken-before _ c.args.arena.now c.args.at c.args.here c.args.low c.args.end c.requires.sound.some c.view-node.result c.view-node.ensures.value
      c.place-place.result c.coordinate-next.result c.before-else-last-at.result c.place-place.ensures.value c.coordinate-next.ensures.value
      c.if-next-at.false c.before-else-last-at.ensures.value t h);
}

pub returns-in-Some-before : goal.returns-in-Some-before
returns-in-Some-before c = record {
  turns = λ t h. (
    lead_to _ c.args.arena.now c.args.at c.before-else-last-at.result c.args.low c.coordinate-next.result t c.in-Some-before.node c.in-Some-before.is
        (taken-before _ c.args.arena.now c.args.at c.args.here c.args.low c.args.end c.requires.sound.some c.view-node.result c.view-node.ensures.value
        c.place-place.result c.coordinate-next.result c.before-else-last-at.result c.place-place.ensures.value c.coordinate-next.ensures.value
        c.if-next-at.false c.before-else-last-at.ensures.value t h),
    smaller-end c.args.low c.args.end c.coordinate-next.result (omega arith)
        (read-within _ c.args.arena.now c.args.at c.args.here c.args.low c.args.end c.requires.sound.some c.view-node.result c.view-node.ensures.value
        c.place-place.result c.coordinate-next.result c.coordinate-next.ensures.value t h),
  );
}
