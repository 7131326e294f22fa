use Rattle.std.proofs.Math.Logic.{∥∥₁_elim, ∥∥₁_map}
use Rattle.std.proofs.Props.{props}
use Rattle.std.proofs.Common.{◌≡◌, ◌≤◌, ◌<◌, ◌+◌, ◌-◌, ◌*◌, ◌⊎◌, inl, inr, ℕ, List, length, IsSome, refl, ap, sym, subst, arith}
use Rattle.node_arena.specs.declared.elements.Elem.{Elem}
use Rattle.iter_gen.specs.Frames.{IsToEnter, CanGoOn, GoesDown, first_at}
use Rattle.iter_gen.proofs.FromLemmas.{IsRising-prop}
use Rattle.iter_gen.proofs.PathsLemmas.{below-or-not, is-there, entered-some, entered-rising, entered-length, enters, first-below, short-enough}
use Rattle.iter_gen.proofs.walking.sink.Goals as goal

pub view-node-requires : goal.view-node-requires
view-node-requires c = record {
  there = ∥∥₁_elim c.loop-child.invariant.goes (hlevel props) (λ q. subst IsSome (sym (is-there _ _ _ _ _ _ q.1)) refl);
}

pub place_from-place-requires : goal.place_from-place-requires
place_from-place-requires c = record {
  some = ∥∥₁_elim c.loop-child.invariant.goes (hlevel props) (λ q. entered-some _ _ _ _ _ _ q.1 _ c.view-node.ensures.value);
  rising = ∥∥₁_elim c.loop-child.invariant.goes (IsRising-prop _) (λ q. entered-rising _ _ _ _ _ _ q.1 _ c.view-node.ensures.value);
}

pub go_on-requires : goal.go_on-requires
go_on-requires c = record {
  there = (
    c.args.arena.now,
    c.view-node.ensures.value,
    ∥∥₁_map c.loop-child.invariant.goes (λ q.
        (c.args.at, q.0, enters _ _ _ _ _ _ q.1 _ c.view-node.ensures.value _ c.place_from-place.ensures.value)),
  );
}

pub returns-in-None : goal.returns-in-None
returns-in-None c = record {
  left = λ xs q.
      subst (λ o. GoesDown c.args.kinds.now c.args.arena.now c.go_on.new.path.items o c.args.at xs) c.in-None.is
      (c.go_on.ensures.down c.args.arena.now c.view-node.ensures.value c.args.at xs
      (enters _ _ _ _ _ _ (c.loop-child.invariant.keeps xs q) _ c.view-node.ensures.value _ c.place_from-place.ensures.value));
}

entered : (c : goal.In-Some) (xs : List Elem) → IsToEnter c.args.kinds.now c.args.arena.now c.loop-child.path.items c.loop-child.id c.args.at xs
    → IsToEnter c.args.kinds.now c.args.arena.now c.go_on.new.path.items c.in-Some.child c.args.at xs
entered c xs q =
    subst (λ o. GoesDown c.args.kinds.now c.args.arena.now c.go_on.new.path.items o c.args.at xs) c.in-Some.is
    (c.go_on.ensures.down c.args.arena.now c.view-node.ensures.value c.args.at xs
    (enters _ _ _ _ _ _ q _ c.view-node.ensures.value _ c.place_from-place.ensures.value))

pub loop-child-preserved : goal.loop-child-preserved
loop-child-preserved c = record {
  goes = ∥∥₁_map c.loop-child.invariant.goes (λ q. (q.0, entered c q.0 q.1));
  keeps = λ xs q. entered c xs (c.loop-child.invariant.keeps xs q);
}

-- a place more on the path, or one node lower with a greater first coordinate
less : (at old new from to : ℕ) → at < 4294967296 → new ≤ 128 → (new ≡ old + 1) ⊎ ((new ≡ old) × (from < to) × (from < at))
    → 4294967296 * (128 - new) + (at - to) < 4294967296 * (128 - old) + (at - from)
less at old new from to b s (inl e) = omega arith
less at old new from to b s (inr e) = let same : new ≡ old = e.0 in let rise : from < to = e.1 in let below : from < at = e.2 in omega arith

steps_down : (c : goal.In-Some) (xs : List Elem) (q : IsToEnter c.args.kinds.now c.args.arena.now c.loop-child.path.items c.loop-child.id c.args.at xs)
    → (c.place_from-place.result < length q.frame.run) ⊎ (length q.frame.run ≤ c.place_from-place.result)
    → (length c.go_on.new.path.items ≡ length c.loop-child.path.items + 1)
    ⊎ ((length c.go_on.new.path.items ≡ length c.loop-child.path.items)
    × (first_at c.args.arena.now c.loop-child.id < first_at c.args.arena.now c.in-Some.child) ×
    (first_at c.args.arena.now c.loop-child.id < c.args.at))
steps_down c xs q (inl l) =
    inl (c.go_on.ensures.longer (omega (arith, l, entered-length _ _ _ _ _ _ q _ c.view-node.ensures.value)))
steps_down c xs q (inr l) =
    let low : length c.view-node.result.run ≤ c.place_from-place.result = omega (arith, l, entered-length _ _ _ _ _ _ q _ c.view-node.ensures.value) in
    let can : CanGoOn c.args.kinds.now c.args.arena.now c.loop-child.path.items c.loop-child.id c.place_from-place.result =
    ∥∥₁_map c.loop-child.invariant.goes (λ p. (c.args.at, p.0, enters _ _ _ _ _ _ p.1 _ c.view-node.ensures.value _ c.place_from-place.ensures.value)) in
    inr (
      ap length (c.go_on.ensures.same low),
      c.go_on.ensures.rises c.args.arena.now c.view-node.ensures.value can low c.in-Some.child c.in-Some.is,
      first-below _ _ _ _ _ _ q _ c.view-node.ensures.value _ c.place_from-place.ensures.value l,
    )

pub loop-child-smaller : goal.loop-child-smaller
loop-child-smaller c = ∥∥₁_elim c.loop-child.invariant.goes (hlevel props) (λ q.
    less c.args.at (length c.loop-child.path.items) (length c.go_on.new.path.items) (first_at c.args.arena.now c.loop-child.id)
    (first_at c.args.arena.now c.in-Some.child) (omega (arith, c.ranges.at.fits)) (short-enough _ _ _ _ _ _ (entered c q.0 q.1))
    (steps_down c q.0 q.1 (below-or-not c.place_from-place.result (length q.1.frame.run))))
