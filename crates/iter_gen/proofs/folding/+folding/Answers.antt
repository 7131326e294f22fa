use Rattle.std.proofs.Common.{◌≡◌, ◌≤◌, ◌<◌, ◌+◌, ◌-◌, ◌⊎◌, suc, List, [], ◌∷◌, length}
use Rattle.std.proofs.Common.{drop, Some, IsSome, Ok, Err, refl, ap, ◌∙◌, sym, subst, arith}
use Rattle.node_arena.specs.declared.elements.Elem.{Elem}
use Rattle.node_arena.specs.declared.kinds.Shape.TheVariants.{Ends, Woven}
use Rattle.node_arena.specs.Arenas.{coordinate_at}
use Rattle.node_arena.specs.Kinds.{shape_at}
use Rattle.node_arena.specs.Walks.{walk, walks}
use Rattle.iter_gen.specs.Folding.{IsWalkAt, front, woven_front, first_walk}
use Rattle.iter_gen.specs.Visiting.{Visits, AllowsEach}
use Rattle.iter_gen.proofs.DescentLemmas.{root-there, root-of, root-within, elem-of, smaller-low, elem-below}
use Rattle.iter_gen.proofs.FoundLemmas.{root-unique}
use Rattle.iter_gen.proofs.RisingLemmas.{after, after-last}
use Rattle.iter_gen.proofs.VisitsLemmas.{Visits-then, Visits-stopped, Visits-next, Visits-first, AllowsEach-left, AllowsEach-right, AllowsEach-kept, drop-at}
use Rattle.iter_gen.proofs.FrontLemmas.{walked, between_at, links-unique, hangs-ends, front-leaf, run-within}
use Rattle.iter_gen.proofs.folding.+folding.Goals as goal

pub fold_below-along-init : goal.fold_below-along-init
fold_below-along-init g t c =
    let q = c.requires.searches in
    record {
      known = (
        q.tree,
        q.searches,
        q.allowed,
        λ result new h u r. subst (λ v. Visits g.V.Visitor.visits (walk c.args.kinds.now v) c.args.visitor.now result new)
            (root-unique c.args.arena.now c.args.root q.tree u q.searches.has r) h,
      );
      kept = λ e h. h;
    }

pub fold_below-view-node-requires : goal.fold_below-view-node-requires
fold_below-view-node-requires g t c =
    let q = c.along.invariant.known in
    let n = root-there c.args.kinds.now c.args.arena.now 0 c.requires.sound.some c.along.here c.along.low c.args.end q.0 q.1 in
    record { there = subst IsSome (sym n.1) refl }

-- ---- fold_below

pub fold_below-fold_front-requires : goal.fold_below-fold_front-requires
fold_below-fold_front-requires g t c κs within =
    let q = c.along.invariant.known in
    let w =
    walked c.args.kinds.now c.args.arena.now c.requires.sound.some c.along.here c.along.low c.args.end q.0 c.view-node.result q.1 c.view-node.ensures.value in
    let parts = front c.args.kinds.now (shape_at c.args.kinds.now c.view-node.result.kind) c.view-node.result.run w.links in (
      (let d = c.decreases in omega arith),
      (
        within.0,
        (
          within.1,
          (
            c.requires.sound,
            record {
              trees = w.links;
              hangs = w.hangs;
              allowed = AllowsEach-left (g.V.Visitor.allows c.along.visitor) parts w.rest (subst (AllowsEach (g.V.Visitor.allows c.along.visitor)) w.is q.2);
            },
          ),
        ),
      ),
    )

pub fold_below-returns-in-Err-clause-visits : goal.fold_below-returns-in-Err-clause-visits
fold_below-returns-in-Err-clause-visits g t c u r =
    let q = c.along.invariant.known in
    let w =
    walked c.args.kinds.now c.args.arena.now c.requires.sound.some c.along.here c.along.low c.args.end q.0 c.view-node.result q.1 c.view-node.ensures.value in
    let parts = front c.args.kinds.now (shape_at c.args.kinds.now c.view-node.result.kind) c.view-node.result.run w.links in
    q.3 (Err c.in-Err.stop) c.fold_front.new.visitor
    (subst (λ v. Visits g.V.Visitor.visits v c.along.visitor (Err c.in-Err.stop) c.fold_front.new.visitor) (sym w.is)
    (Visits-stopped g.V.Visitor.visits parts w.rest c.along.visitor c.in-Err.stop c.fold_front.new.visitor
    (c.in-Err.ensures.visits w.links (record { same = w.hangs.links; stands = w.hangs.stands }))))
    u r

pub fold_below-returns-in-None-clause-visits : goal.fold_below-returns-in-None-clause-visits
fold_below-returns-in-None-clause-visits g t c u r =
    let q = c.along.invariant.known in
    let w =
    walked c.args.kinds.now c.args.arena.now c.requires.sound.some c.along.here c.along.low c.args.end q.0 c.view-node.result q.1 c.view-node.ensures.value in
    let parts = front c.args.kinds.now (shape_at c.args.kinds.now c.view-node.result.kind) c.view-node.result.run w.links in
    let none = sym c.behind.ensures.value ∙ c.in-None.is in
    let rest : w.rest ≡ [] = subst (λ o. IsWalkAt c.args.kinds.now c.args.arena.now o (after 0 c.view-node.result.run) c.args.end w.rest) none w.behind in
    q.3 (Ok tt) c.fold_front.new.visitor
    (subst (λ v. Visits g.V.Visitor.visits v c.along.visitor (Ok tt) c.fold_front.new.visitor) (sym w.is)
    (Visits-then g.V.Visitor.visits parts w.rest c.along.visitor c.fold_front.new.visitor (Ok tt) c.fold_front.new.visitor
    (c.in-Ok.ensures.visits w.links (record { same = w.hangs.links; stands = w.hangs.stands }))
    (subst (λ v. Visits g.V.Visitor.visits v c.fold_front.new.visitor (Ok tt) c.fold_front.new.visitor) (sym rest) (refl, refl))))
    u r

pub fold_below-overflow_sub-len : goal.fold_below-overflow_sub-len
fold_below-overflow_sub-len g t c =
    let q = c.along.invariant.known in
    let w =
    walked c.args.kinds.now c.args.arena.now c.requires.sound.some c.along.here c.along.low c.args.end q.0 c.view-node.result q.1 c.view-node.ensures.value in
    let some = w.hangs.some_run in
    let e = c.len.ensures.value in
    omega arith

pub fold_below-coordinate-requires : goal.fold_below-coordinate-requires
fold_below-coordinate-requires g t c =
    let q = c.along.invariant.known in
    let w =
    walked c.args.kinds.now c.args.arena.now c.requires.sound.some c.along.here c.along.low c.args.end q.0 c.view-node.result q.1 c.view-node.ensures.value in
    let some = w.hangs.some_run in
    let e = c.len.ensures.value in
    record { there = omega arith }

pub fold_below-along-smaller : goal.fold_below-along-smaller
fold_below-along-smaller g t c =
    let q = c.along.invariant.known in
    let e : c.len.result ≡ length c.view-node.result.run = c.len.ensures.value in
    let x = elem-of c.view-node.result.run (c.len.result - 1) c.coordinate.result c.coordinate.ensures.value in
    let r =
    root-of c.args.kinds.now c.args.arena.now 0 c.requires.sound.some c.along.here c.along.low c.args.end q.0 c.view-node.result q.1
    c.view-node.ensures.value in
    let w =
    root-within c.args.kinds.now c.args.arena.now 0 c.requires.sound.some c.along.here c.along.low c.args.end q.0 c.view-node.result x.0
    (c.len.result - 1) r x.1 in
    smaller-low c.along.low c.args.end c.coordinate.result (omega arith) (subst (λ v. (c.along.low ≤ v) × ((v < c.args.end) ⊎ (c.args.end ≡ 4294967296))) x.2 w)

pub fold_below-along-preserved : goal.fold_below-along-preserved
fold_below-along-preserved g t c =
    let q = c.along.invariant.known in
    let w =
    walked c.args.kinds.now c.args.arena.now c.requires.sound.some c.along.here c.along.low c.args.end q.0 c.view-node.result q.1 c.view-node.ensures.value in
    let parts = front c.args.kinds.now (shape_at c.args.kinds.now c.view-node.result.kind) c.view-node.result.run w.links in
    let some = sym c.behind.ensures.value ∙ c.in-Some.is in
    let last = subst (λ n. coordinate_at c.view-node.result.run (n - 1) ≡ Some c.coordinate.result) c.len.ensures.value c.coordinate.ensures.value in
    let m : after 0 c.view-node.result.run ≡ suc c.coordinate.result = after-last 0 c.view-node.result.run c.coordinate.result last in
    let from : after 0 c.view-node.result.run ≡ c.coordinate.result + 1 = omega arith in
    let next = subst (λ n. IsWalkAt c.args.kinds.now c.args.arena.now (Some c.in-Some.next) n c.args.end w.rest) from
    (subst (λ o. IsWalkAt c.args.kinds.now c.args.arena.now o (after 0 c.view-node.result.run) c.args.end w.rest) some w.behind) in
    let all = AllowsEach-right (g.V.Visitor.allows c.along.visitor) parts w.rest (subst (AllowsEach (g.V.Visitor.allows c.along.visitor)) w.is q.2) in
    let kept = AllowsEach-kept (g.V.Visitor.allows c.along.visitor) (g.V.Visitor.allows c.fold_front.new.visitor) w.rest c.fold_front.ensures.kept all in
    record {
      known = (
        next.tree,
        next.searches,
        subst (AllowsEach (g.V.Visitor.allows c.fold_front.new.visitor)) next.same kept,
        λ result new h u r. q.3 result new
            (subst (λ v. Visits g.V.Visitor.visits v c.along.visitor result new) (sym w.is)
            (Visits-then g.V.Visitor.visits parts w.rest c.along.visitor c.fold_front.new.visitor result new
            (c.in-Ok.ensures.visits w.links (record { same = w.hangs.links; stands = w.hangs.stands }))
            (subst (λ v. Visits g.V.Visitor.visits v c.fold_front.new.visitor result new) (sym next.same) h)))
            u r,
      );
      kept = λ e h. c.fold_front.ensures.kept e (c.along.invariant.kept e h);
    }

-- ---- fold_between

pub fold_between-loop-place-init : goal.fold_between-loop-place-init
fold_between-loop-place-init g t c =
    let q = c.requires.hangs in
    record {
      known = (
        q.trees,
        q.hangs,
        q.allowed,
        λ result new h ls k. subst (λ v. Visits g.V.Visitor.visits (woven_front c.args.node.now.run (walks c.args.kinds.now v)) c.args.visitor.now result new)
            (links-unique c.args.kinds.now c.args.arena.now c.args.node.now.links q.trees ls
            (record { same = q.hangs.same; stands = q.hangs.stands }) k) h,
      );
      kept = λ e h. h;
    }

pub fold_between-fold_link-requires : goal.fold_between-fold_link-requires
fold_between-fold_link-requires g t c κs within =
    let q = c.loop-place.invariant.known in
    let b = between_at c.args.kinds.now c.args.arena.now c.args.end c.loop-place.place c.args.node.now.run c.args.node.now.links q.0 c.in-Some.elem
    (drop-at c.args.node.now.run c.loop-place.place c.in-Some.elem (sym c.in-Some.ensures.value)) q.1 in
    let hangs = subst (λ o. IsWalkAt c.args.kinds.now c.args.arena.now o 0 c.in-Some.elem.at b.before) (sym c.link.ensures.value) b.hangs in
    let hangs2 = subst (λ n. IsWalkAt c.args.kinds.now c.args.arena.now c.link.result 0 n b.before) (sym c.bound.ensures.value) hangs in
    let later : List Elem = woven_front (drop (c.loop-place.place + 1) c.args.node.now.run) (walks c.args.kinds.now b.row) in
    let less : c.in-Some.elem.at < c.args.end = elem-below c.in-Some.elem.at c.args.end (omega arith) b.within in (
      (let d = c.decreases in omega arith),
      (
        within.0,
        (
          within.1,
          (
            c.requires.sound,
            record {
              elems = b.before;
              hangs = hangs2;
              allowed = AllowsEach-left (g.V.Visitor.allows c.loop-place.visitor) b.before (c.in-Some.elem ∷ later)
                  (subst (AllowsEach (g.V.Visitor.allows c.loop-place.visitor)) b.is q.2);
            },
          ),
        ),
      ),
    )

pub fold_between-returns-in-Err-clause-visits : goal.fold_between-returns-in-Err-clause-visits
fold_between-returns-in-Err-clause-visits g t c ls k =
    let q = c.loop-place.invariant.known in
    let b = between_at c.args.kinds.now c.args.arena.now c.args.end c.loop-place.place c.args.node.now.run c.args.node.now.links q.0 c.in-Some.elem
    (drop-at c.args.node.now.run c.loop-place.place c.in-Some.elem (sym c.in-Some.ensures.value)) q.1 in
    let hangs = subst (λ o. IsWalkAt c.args.kinds.now c.args.arena.now o 0 c.in-Some.elem.at b.before) (sym c.link.ensures.value) b.hangs in
    let hangs2 = subst (λ n. IsWalkAt c.args.kinds.now c.args.arena.now c.link.result 0 n b.before) (sym c.bound.ensures.value) hangs in
    q.3 (Err c.in-Err.stop) c.fold_link.new.visitor
    (subst (λ v. Visits g.V.Visitor.visits v c.loop-place.visitor (Err c.in-Err.stop) c.fold_link.new.visitor) (sym b.is)
    (Visits-stopped g.V.Visitor.visits b.before (c.in-Some.elem ∷ woven_front (drop (c.loop-place.place + 1) c.args.node.now.run)
    (walks c.args.kinds.now b.row))
    c.loop-place.visitor c.in-Err.stop c.fold_link.new.visitor (c.in-Err.ensures.visits b.before hangs2)))
    ls k

pub fold_between-visit-requires : goal.fold_between-visit-requires
fold_between-visit-requires g t c =
    let q = c.loop-place.invariant.known in
    let b = between_at c.args.kinds.now c.args.arena.now c.args.end c.loop-place.place c.args.node.now.run c.args.node.now.links q.0 c.in-Some.elem
    (drop-at c.args.node.now.run c.loop-place.place c.in-Some.elem (sym c.in-Some.ensures.value)) q.1 in
    let all = AllowsEach-right (g.V.Visitor.allows c.loop-place.visitor) b.before
    (c.in-Some.elem ∷ woven_front (drop (c.loop-place.place + 1) c.args.node.now.run) (walks c.args.kinds.now b.row))
    (subst (AllowsEach (g.V.Visitor.allows c.loop-place.visitor)) b.is q.2) in
    record { allowed = c.fold_link.ensures.kept c.in-Some.elem all.0 }

pub fold_between-returns-in-Err-visit-clause-visits : goal.fold_between-returns-in-Err-visit-clause-visits
fold_between-returns-in-Err-visit-clause-visits g t c ls k =
    let q = c.loop-place.invariant.known in
    let b = between_at c.args.kinds.now c.args.arena.now c.args.end c.loop-place.place c.args.node.now.run c.args.node.now.links q.0 c.in-Some.elem
    (drop-at c.args.node.now.run c.loop-place.place c.in-Some.elem (sym c.in-Some.ensures.value)) q.1 in
    let hangs = subst (λ o. IsWalkAt c.args.kinds.now c.args.arena.now o 0 c.in-Some.elem.at b.before) (sym c.link.ensures.value) b.hangs in
    let hangs2 = subst (λ n. IsWalkAt c.args.kinds.now c.args.arena.now c.link.result 0 n b.before) (sym c.bound.ensures.value) hangs in
    let later : List Elem = woven_front (drop (c.loop-place.place + 1) c.args.node.now.run) (walks c.args.kinds.now b.row) in
    q.3 (Err c.in-Err-visit.stop) c.visit.new.self
    (subst (λ v. Visits g.V.Visitor.visits v c.loop-place.visitor (Err c.in-Err-visit.stop) c.visit.new.self) (sym b.is)
    (Visits-then g.V.Visitor.visits b.before (c.in-Some.elem ∷ later) c.loop-place.visitor c.fold_link.new.visitor (Err c.in-Err-visit.stop) c.visit.new.self
    (c.in-Ok.ensures.visits b.before hangs2)
    (Visits-first g.V.Visitor.visits c.in-Some.elem later c.fold_link.new.visitor c.in-Err-visit.stop c.visit.new.self c.in-Err-visit.ensures.visited)))
    ls k

pub fold_between-loop-place-preserved : goal.fold_between-loop-place-preserved
fold_between-loop-place-preserved g t c =
    let q = c.loop-place.invariant.known in
    let b = between_at c.args.kinds.now c.args.arena.now c.args.end c.loop-place.place c.args.node.now.run c.args.node.now.links q.0 c.in-Some.elem
    (drop-at c.args.node.now.run c.loop-place.place c.in-Some.elem (sym c.in-Some.ensures.value)) q.1 in
    let hangs = subst (λ o. IsWalkAt c.args.kinds.now c.args.arena.now o 0 c.in-Some.elem.at b.before) (sym c.link.ensures.value) b.hangs in
    let hangs2 = subst (λ n. IsWalkAt c.args.kinds.now c.args.arena.now c.link.result 0 n b.before) (sym c.bound.ensures.value) hangs in
    let later : List Elem = woven_front (drop (c.loop-place.place + 1) c.args.node.now.run) (walks c.args.kinds.now b.row) in
    let all = AllowsEach-right (g.V.Visitor.allows c.loop-place.visitor) b.before (c.in-Some.elem ∷ later)
    (subst (AllowsEach (g.V.Visitor.allows c.loop-place.visitor)) b.is q.2) in
    record {
      known = (
        b.row,
        b.next,
        AllowsEach-kept (g.V.Visitor.allows c.loop-place.visitor) (g.V.Visitor.allows c.visit.new.self) later
            (λ e h. c.visit.ensures.kept e (c.fold_link.ensures.kept e h)) all.1,
        λ result new h ls k. q.3 result new
            (subst (λ v. Visits g.V.Visitor.visits v c.loop-place.visitor result new) (sym b.is)
            (Visits-then g.V.Visitor.visits b.before (c.in-Some.elem ∷ later) c.loop-place.visitor c.fold_link.new.visitor result new
            (c.in-Ok.ensures.visits b.before hangs2)
            (Visits-next g.V.Visitor.visits c.in-Some.elem later c.fold_link.new.visitor c.visit.new.self result new c.in-Ok-visit.ensures.visited h)))
            ls k,
      );
      kept = λ e h. c.visit.ensures.kept e (c.fold_link.ensures.kept e (c.loop-place.invariant.kept e h));
    }

-- ---- fold_front

pub fold_front-fold_link-requires : goal.fold_front-fold_link-requires
fold_front-fold_link-requires g t c κs within =
    let q = c.requires.hangs in
    let is : shape_at c.args.kinds.now c.args.node.now.kind ≡ Ends c.in-Ends.pre c.in-Ends.post =
    ap (shape_at c.args.kinds.now) (sym c.kind.ensures.value) ∙ sym c.in-Ends.ensures.value in
    let walk_at = hangs-ends c.args.kinds.now c.args.arena.now c.requires.sound.some c.args.end c.args.node.now q.trees c.in-Ends.pre c.in-Ends.post
    c.coordinate-first.result q.hangs is c.coordinate-first.ensures.value in
    let less : c.coordinate-first.result < c.args.end = elem-below c.coordinate-first.result c.args.end (omega arith)
    (run-within c.args.kinds.now c.args.arena.now c.args.end c.args.node.now q.trees 0 c.coordinate-first.result q.hangs c.coordinate-first.ensures.value) in (
      (let d = c.decreases in omega arith),
      (
        within.0,
        (
          within.1,
          (
            c.requires.sound,
            record {
              elems = first_walk c.args.kinds.now q.trees;
              hangs =
                  subst (λ o. IsWalkAt c.args.kinds.now c.args.arena.now o 0 c.coordinate-first.result (first_walk c.args.kinds.now q.trees))
                  (sym c.link.ensures.value) walk_at;
              allowed = AllowsEach-left (g.V.Visitor.allows c.args.visitor.now) (first_walk c.args.kinds.now q.trees) c.args.node.now.run
                  (subst (λ v. AllowsEach (g.V.Visitor.allows c.args.visitor.now) (front c.args.kinds.now v c.args.node.now.run q.trees)) is q.allowed);
            },
          ),
        ),
      ),
    )

pub fold_front-fold_run-requires-in-Ok : goal.fold_front-fold_run-requires-in-Ok
fold_front-fold_run-requires-in-Ok g t c =
    let q = c.requires.hangs in
    let is : shape_at c.args.kinds.now c.args.node.now.kind ≡ Ends c.in-Ends.pre c.in-Ends.post =
    ap (shape_at c.args.kinds.now) (sym c.kind.ensures.value) ∙ sym c.in-Ends.ensures.value in
    let all = AllowsEach-right (g.V.Visitor.allows c.args.visitor.now) (first_walk c.args.kinds.now q.trees) c.args.node.now.run
    (subst (λ v. AllowsEach (g.V.Visitor.allows c.args.visitor.now) (front c.args.kinds.now v c.args.node.now.run q.trees)) is q.allowed) in
    record {
      allowed =
          AllowsEach-kept (g.V.Visitor.allows c.args.visitor.now) (g.V.Visitor.allows c.fold_link.new.visitor) c.args.node.now.run c.fold_link.ensures.kept all;
    }

pub fold_front-fold_run-requires-then-link_count-eq0 : goal.fold_front-fold_run-requires-then-link_count-eq0
fold_front-fold_run-requires-then-link_count-eq0 g t c =
    let q = c.requires.hangs in
    let is : shape_at c.args.kinds.now c.args.node.now.kind ≡ Woven =
    ap (shape_at c.args.kinds.now) (sym c.kind.ensures.value) ∙ sym c.in-Woven.ensures.value in
    let none : length c.args.node.now.links ≡ 0 = omega arith in
    record {
      allowed = subst (AllowsEach (g.V.Visitor.allows c.args.visitor.now))
          (front-leaf c.args.kinds.now c.args.arena.now c.requires.sound.some c.args.end c.args.node.now q.trees q.hangs.links is none) q.allowed;
    }

pub fold_front-returns-in-Ok-clause-visits : goal.fold_front-returns-in-Ok-clause-visits
fold_front-returns-in-Ok-clause-visits g t c ls k =
    let q = c.requires.hangs in
    let is : shape_at c.args.kinds.now c.args.node.now.kind ≡ Ends c.in-Ends.pre c.in-Ends.post =
    ap (shape_at c.args.kinds.now) (sym c.kind.ensures.value) ∙ sym c.in-Ends.ensures.value in
    let walk_at = hangs-ends c.args.kinds.now c.args.arena.now c.requires.sound.some c.args.end c.args.node.now q.trees c.in-Ends.pre c.in-Ends.post
    c.coordinate-first.result q.hangs is c.coordinate-first.ensures.value in
    let hangs =
    subst (λ o. IsWalkAt c.args.kinds.now c.args.arena.now o 0 c.coordinate-first.result (first_walk c.args.kinds.now q.trees))
    (sym c.link.ensures.value) walk_at in
    let same = links-unique c.args.kinds.now c.args.arena.now c.args.node.now.links q.trees ls (record { same = q.hangs.links; stands = q.hangs.stands }) k in
    subst (λ v. Visits g.V.Visitor.visits (front c.args.kinds.now (shape_at c.args.kinds.now c.args.node.now.kind) c.args.node.now.run v) c.args.visitor.now
    c.fold_run-in-Ok.result c.fold_run-in-Ok.new.visitor) same
    (subst (λ v. Visits g.V.Visitor.visits (front c.args.kinds.now v c.args.node.now.run q.trees) c.args.visitor.now
    c.fold_run-in-Ok.result c.fold_run-in-Ok.new.visitor) (sym is)
    (Visits-then g.V.Visitor.visits (first_walk c.args.kinds.now q.trees) c.args.node.now.run c.args.visitor.now c.fold_link.new.visitor
    c.fold_run-in-Ok.result c.fold_run-in-Ok.new.visitor
    (c.in-Ok.ensures.visits (first_walk c.args.kinds.now q.trees) hangs) c.fold_run-in-Ok.ensures.visits))

pub fold_front-returns-in-Err-clause-visits : goal.fold_front-returns-in-Err-clause-visits
fold_front-returns-in-Err-clause-visits g t c ls k =
    let q = c.requires.hangs in
    let is : shape_at c.args.kinds.now c.args.node.now.kind ≡ Ends c.in-Ends.pre c.in-Ends.post =
    ap (shape_at c.args.kinds.now) (sym c.kind.ensures.value) ∙ sym c.in-Ends.ensures.value in
    let walk_at = hangs-ends c.args.kinds.now c.args.arena.now c.requires.sound.some c.args.end c.args.node.now q.trees c.in-Ends.pre c.in-Ends.post
    c.coordinate-first.result q.hangs is c.coordinate-first.ensures.value in
    let hangs =
    subst (λ o. IsWalkAt c.args.kinds.now c.args.arena.now o 0 c.coordinate-first.result (first_walk c.args.kinds.now q.trees))
    (sym c.link.ensures.value) walk_at in
    let same = links-unique c.args.kinds.now c.args.arena.now c.args.node.now.links q.trees ls (record { same = q.hangs.links; stands = q.hangs.stands }) k in
    subst (λ v. Visits g.V.Visitor.visits (front c.args.kinds.now (shape_at c.args.kinds.now c.args.node.now.kind) c.args.node.now.run v) c.args.visitor.now
    (Err c.in-Err.stop) c.fold_link.new.visitor) same
    (subst (λ v. Visits g.V.Visitor.visits (front c.args.kinds.now v c.args.node.now.run q.trees) c.args.visitor.now
    (Err c.in-Err.stop) c.fold_link.new.visitor) (sym is)
    (Visits-stopped g.V.Visitor.visits (first_walk c.args.kinds.now q.trees) c.args.node.now.run c.args.visitor.now c.in-Err.stop c.fold_link.new.visitor
    (c.in-Err.ensures.visits (first_walk c.args.kinds.now q.trees) hangs)))

pub fold_front-returns-then-link_count-eq0-clause-visits : goal.fold_front-returns-then-link_count-eq0-clause-visits
fold_front-returns-then-link_count-eq0-clause-visits g t c ls k =
    let is : shape_at c.args.kinds.now c.args.node.now.kind ≡ Woven =
    ap (shape_at c.args.kinds.now) (sym c.kind.ensures.value) ∙ sym c.in-Woven.ensures.value in
    let none : length c.args.node.now.links ≡ 0 = omega arith in
    subst (λ v. Visits g.V.Visitor.visits v c.args.visitor.now c.fold_run-then-link_count-eq0.result c.fold_run-then-link_count-eq0.new.visitor)
    (sym (front-leaf c.args.kinds.now c.args.arena.now c.requires.sound.some c.args.end c.args.node.now ls k.same is none))
    c.fold_run-then-link_count-eq0.ensures.visits
