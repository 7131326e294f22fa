use Rattle.std.proofs.Common.{◌≡◌, ◌<◌, ◌-◌, ◌++◌, None, IsSome, refl, sym, subst, ap, ◌∙◌, arith, append-nil, get_or}
use Rattle.std.proofs.lemmas.Result.{on_ok_weaker}
use Rattle.node_arena.specs.Arenas.{node_at}
use Rattle.node_arena.specs.Trees.{Trees, roots, stored}
use Rattle.chunk_tree.specs.Relinking.{IsAt, cells, numbers_of}
use Rattle.chunk_tree.proofs.Narrow.{root-of, nothing-is, gathered}
use Rattle.chunk_tree.proofs.Options.{at_known}
use Rattle.chunk_tree.proofs.Pairs.{head_of, tail_of}
use Rattle.chunk_tree.proofs.gathering.+gather.Goals as goal

pub returns-in-None : goal.returns-in-None
returns-in-None m c = record {
  ok = λ t h.
      let none = nothing-is c.args.arena.now c.args.levels t (subst (λ l. IsAt c.args.arena.now l c.args.levels t) c.in-None.is h) in
      sym (append-nil c.args.ids.now.items) ∙ ap (λ w. c.args.ids.now.items ++ numbers_of (cells w)) (sym none);
}

pub link-requires : goal.link-requires
link-requires m c =
    let r = root-of c.args.arena.now c.in-Some.id c.args.levels c.requires.tree.0
    (subst (λ l. IsAt c.args.arena.now l c.args.levels c.requires.tree.0) c.in-Some.is c.requires.tree.1) in
    record { there = subst IsSome (sym r.there) refl }

pub overflow_sub-levels : goal.overflow_sub-levels
overflow_sub-levels m c =
    let r = root-of c.args.arena.now c.in-Some.id c.args.levels c.requires.tree.0
    (subst (λ l. IsAt c.args.arena.now l c.args.levels c.requires.tree.0) c.in-Some.is c.requires.tree.1) in
    omega (arith, r.some)

pub gather-requires : goal.gather-requires
gather-requires m c =
    let r = root-of c.args.arena.now c.in-Some.id c.args.levels c.requires.tree.0
    (subst (λ l. IsAt c.args.arena.now l c.args.levels c.requires.tree.0) c.in-Some.is c.requires.tree.1) in
    let d : c.args.levels ≡ m = c.decreases in
    let less : c.args.levels - 1 < m = omega (arith, r.some) in
    let link : c.link.result ≡ get_or (roots r.links) 0 None = at_known (node_at c.args.arena.now c.in-Some.id) _
    (stored r.kind r.run r.links) r.there c.link.ensures.value in
    (less, (head_of r.links, subst (λ l. IsAt c.args.arena.now l (c.args.levels - 1) (head_of r.links)) (sym link) r.pre))

pub link-requires-2 : goal.link-requires-2
link-requires-2 m c =
    let r = root-of c.args.arena.now c.in-Some.id c.args.levels c.requires.tree.0
    (subst (λ l. IsAt c.args.arena.now l c.args.levels c.requires.tree.0) c.in-Some.is c.requires.tree.1) in
    record { there = subst IsSome (sym r.there) refl }

pub overflow_sub-levels-2 : goal.overflow_sub-levels-2
overflow_sub-levels-2 m c =
    let r = root-of c.args.arena.now c.in-Some.id c.args.levels c.requires.tree.0
    (subst (λ l. IsAt c.args.arena.now l c.args.levels c.requires.tree.0) c.in-Some.is c.requires.tree.1) in
    omega (arith, r.some)

pub gather-requires-2 : goal.gather-requires-2
gather-requires-2 m c =
    let r = root-of c.args.arena.now c.in-Some.id c.args.levels c.requires.tree.0
    (subst (λ l. IsAt c.args.arena.now l c.args.levels c.requires.tree.0) c.in-Some.is c.requires.tree.1) in
    let d : c.args.levels ≡ m = c.decreases in
    let less : c.args.levels - 1 < m = omega (arith, r.some) in
    let link : c.link-2.result ≡ get_or (roots r.links) 1 None = at_known (node_at c.args.arena.now c.in-Some.id) _
    (stored r.kind r.run r.links) r.there c.link-2.ensures.value in
    (less, (tail_of r.links, subst (λ l. IsAt c.args.arena.now l (c.args.levels - 1) (tail_of r.links)) (sym link) r.post))

pub returns : goal.returns
returns m c = record {
  ok = on_ok_weaker c.gather-2.result
      (λ (last : (t : Trees) → IsAt c.args.arena.now c.link-2.result (c.args.levels - 1) t
      → c.gather-2.new.ids.items ≡ c.push.new.self.items ++ numbers_of (cells t)) t h.
      let r = root-of c.args.arena.now c.in-Some.id c.args.levels t (subst (λ l. IsAt c.args.arena.now l c.args.levels t) c.in-Some.is h) in
      let link0 : c.link.result ≡ get_or (roots r.links) 0 None = at_known (node_at c.args.arena.now c.in-Some.id) _
      (stored r.kind r.run r.links) r.there c.link.ensures.value in
      let link1 : c.link-2.result ≡ get_or (roots r.links) 1 None = at_known (node_at c.args.arena.now c.in-Some.id) _
      (stored r.kind r.run r.links) r.there c.link-2.ensures.value in
      gathered c.args.arena.now c.in-Some.id c.args.levels t r c.args.ids.now.items c.gather.new.ids.items c.push.new.self.items c.gather-2.new.ids.items
      (c.in_ok-gather.ensures.ok (head_of r.links) (subst (λ l. IsAt c.args.arena.now l (c.args.levels - 1) (head_of r.links)) (sym link0) r.pre))
      c.in_ok-push.ensures.items
      (last (tail_of r.links) (subst (λ l. IsAt c.args.arena.now l (c.args.levels - 1) (tail_of r.links)) (sym link1) r.post)))
      c.gather-2.ensures.ok;
}
