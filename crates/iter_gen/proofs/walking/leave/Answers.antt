use Rattle.std.proofs.Math.Logic.{∥∥₁_map}
use Rattle.std.proofs.Common.{◌≡◌, ◌++◌, ◌∷◌, [], ◌∙◌, ℕ, List, sym, subst, arith}
use Rattle.node_arena.specs.declared.elements.Elem.{Elem}
use Rattle.node_arena.specs.declared.kinds.NodeKind.{NodeKind}
use Rattle.node_arena.specs.Arenas.{ArenaState, coordinate_at}
use Rattle.iter_gen.specs.declared.paths.NodeSpot.{NodeSpot}
use Rattle.iter_gen.specs.Frames.{PathHas, IsToEnter, StartsFrom, from, ahead}
use Rattle.iter_gen.proofs.FromLemmas.{from-starts}
use Rattle.iter_gen.proofs.PathsLemmas.{none-left}
use Rattle.iter_gen.proofs.LastPlaceLemmas.{Last, last, leaves, outer, outer-rising, searches, starts-none, starts-some}
use Rattle.iter_gen.proofs.walking.leave.Goals as goal
use Rattle.iter_gen.proofs.walking.leave.Goals.{in_default-via-in-Some+else-first-at, in_default-via-in_default}
use Rattle.iter_gen.proofs.walking.leave.Goals.{in_default-coming-via-in-Some-coming+else-next-at, in_default-coming-via-in_default-coming}

last_of : (s : List NodeKind) (a : ArenaState) (path before : List NodeSpot) (spot : NodeSpot) (xs : List Elem) → path ≡ before ++ spot ∷ []
    → PathHas s a path xs
    → Last s a before spot xs
last_of s a path before spot xs e h = last s a before spot xs (subst (λ p. PathHas s a p xs) e h)

pub coming-requires : goal.coming-requires
coming-requires c = record { there = ∥∥₁_map c.loop-first.invariant.goes (λ p. (p.0, p.1, p.2)) }

stays_so : (at : ℕ) (s : List NodeKind) (a : ArenaState) (path : List NodeSpot) (xs ys : List Elem) → PathHas s a path ys → StartsFrom at ys
    → from at ys ≡ from at xs
    → PathHas s a path (from at xs)
stays_so at s a path xs ys h starts e = subst (PathHas s a path) (sym (from-starts at ys starts) ∙ e) h

pub returns-in_default : goal.returns-in_default
returns-in_default c = record {
  down = λ s xs h r.
      let k = c.loop-first.invariant.keeps s xs h r in
      let read : c.coming.result ≡ coordinate_at k.0 0 = c.coming.ensures.value s k.0 k.1 in
      elim c.in_default.branch [
        | in_default-via-in-Some+else-first-at w ↦
            stays_so c.args.at s c.args.arena.now c.loop-first.path.items xs k.0 k.1 (starts-some c.args.at w.in-Some.first k.0 (sym read
            ∙ w.in-Some.is) w.if-first-at.false) k.3
        | in_default-via-in_default w ↦
            stays_so c.args.at s c.args.arena.now c.loop-first.path.items xs k.0 k.1 (starts-none c.args.at k.0 (sym read
            ∙ none-left c.coming.result w.in_default.not-Some)) k.3
      ];
}

pub coming-requires-in-Some-pop : goal.coming-requires-in-Some-pop
coming-requires-in-Some-pop c = record {
  there = ∥∥₁_map c.loop-first.invariant.goes (λ p.
      let l = last_of p.0 c.args.arena.now _ _ _ p.1 c.in-Some-pop.ensures.items p.2 in
      (p.0, ahead p.0 c.pop.new.self.items l.frames, outer _ _ _ _ _ l));
}

pub loop-first-preserved : goal.loop-first-preserved
loop-first-preserved c = record {
  goes = ∥∥₁_map c.loop-first.invariant.goes (λ p.
      let l = last_of p.0 c.args.arena.now _ _ _ p.1 c.in-Some-pop.ensures.items p.2 in
      (p.0, ahead p.0 c.pop.new.self.items l.frames, outer _ _ _ _ _ l, outer-rising _ _ _ _ _ l p.3));
  keeps = λ s xs h r.
      let k = c.loop-first.invariant.keeps s xs h r in
      let l = last_of s c.args.arena.now _ _ _ k.0 c.in-Some-pop.ensures.items k.1 in
      let read : c.coming-in-Some-pop.result ≡ coordinate_at (ahead s _ l.frames) 0 = c.coming-in-Some-pop.ensures.value s _ (outer _ _ _ _ _ l) in (
        ahead s c.pop.new.self.items l.frames,
        outer _ _ _ _ _ l,
        outer-rising _ _ _ _ _ l k.2,
        leaves _ _ _ _ _ l c.args.at c.in-Some-coming.next k.2 (sym read ∙ c.in-Some-coming.is) (let m = c.if-next-at.true in omega (arith, m)) ∙ k.3,
      );
}

pub returns-in_default-coming : goal.returns-in_default-coming
returns-in_default-coming c = record {
  down = λ s xs h r.
      let k = c.loop-first.invariant.keeps s xs h r in
      let l = last_of s c.args.arena.now c.loop-first.path.items c.pop.new.self.items c.in-Some-pop.spot k.0 c.in-Some-pop.ensures.items k.1 in
      let first : c.coming.result ≡ coordinate_at k.0 0 = c.coming.ensures.value s k.0 k.1 in
      let read : c.coming-in-Some-pop.result ≡ coordinate_at (ahead s c.pop.new.self.items l.frames) 0 =
      c.coming-in-Some-pop.ensures.value s (ahead s c.pop.new.self.items l.frames) (outer _ _ _ _ _ l) in
      let starts : StartsFrom c.args.at (ahead s c.pop.new.self.items l.frames) =
      elim c.in_default-coming.branch [
        | in_default-coming-via-in-Some-coming+else-next-at w ↦
            starts-some c.args.at w.in-Some-coming.next (ahead s c.pop.new.self.items l.frames) (sym read ∙ w.in-Some-coming.is)
            (let m = w.if-next-at.false in omega (arith, m))
        | in_default-coming-via-in_default-coming w ↦
            starts-none c.args.at (ahead s c.pop.new.self.items l.frames) (sym read ∙ none-left c.coming-in-Some-pop.result w.in_default-coming.not-Some)
      ] in
      subst (λ ys. IsToEnter s c.args.arena.now c.pop.new.self.items c.in-Some-pop.spot.node c.args.at ys) k.3
      (searches _ _ _ _ _ l c.args.at c.in-Some.first (sym first ∙ c.in-Some.is) c.if-first-at.true starts);
}
