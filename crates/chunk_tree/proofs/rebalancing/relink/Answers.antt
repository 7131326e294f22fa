use Rattle.std.proofs.Common.{◌≡◌, ◌≤◌, ◌++◌, length, sym, subst, ap, ◌∙◌, arith}
use Rattle.node_arena.specs.declared.elements.TheConstants.{MOST_SPINE}
use Rattle.node_arena.specs.Structures.{links_of}
use Rattle.chunk_tree.specs.Balancing.{IsRebalanced}
use Rattle.chunk_tree.specs.Relinking.{IsAt, cells, numbers_of}
use Rattle.chunk_tree.proofs.Anew.{at-root, laid, ids-low, anew}
use Rattle.chunk_tree.proofs.rebalancing.relink.Goals as goal

pub gather-requires : goal.gather-requires
gather-requires g c =
    let t = c.requires.holds.0 in
    record {
      tree = (
        links_of t,
        subst (λ l. IsAt c.args.arena.now l MOST_SPINE (links_of t)) (sym c.root_at.ensures.value)
            (at-root c.args.kinds.now c.args.kind c.args.arena.now c.args.top t c.requires.sound c.requires.one_kind c.requires.holds.1),
      );
    }

pub link_up-root-requires-clause-laid : goal.link_up-root-requires-clause-laid
link_up-root-requires-clause-laid g c =
    let t = c.requires.holds.0 in
    let at = subst (λ l. IsAt c.args.arena.now l MOST_SPINE (links_of t)) (sym c.root_at.ensures.value)
    (at-root c.args.kinds.now c.args.kind c.args.arena.now c.args.top t c.requires.sound c.requires.one_kind c.requires.holds.1) in
    let ids : c.deref.result.now ≡ numbers_of (cells (links_of t)) =
    c.deref.ensures.value ∙ c.in_ok-gather.ensures.ok (links_of t) at ∙ ap (λ v. v ++ numbers_of (cells (links_of t))) c.new-ids.ensures.items in (
      cells (links_of t),
      laid c.args.kinds.now c.args.kind c.args.arena.now c.args.top t c.requires.sound c.requires.one_kind c.requires.holds.1
          c.deref.result.now ids,
    )

pub returns-clause-ok : goal.returns-clause-ok
returns-clause-ok g c = λ t holds.
    let at = subst (λ l. IsAt c.args.arena.now l MOST_SPINE (links_of t)) (sym c.root_at.ensures.value)
    (at-root c.args.kinds.now c.args.kind c.args.arena.now c.args.top t c.requires.sound c.requires.one_kind holds) in
    let ids : c.deref.result.now ≡ numbers_of (cells (links_of t)) =
    c.deref.ensures.value ∙ c.in_ok-gather.ensures.ok (links_of t) at ∙ ap (λ v. v ++ numbers_of (cells (links_of t))) c.new-ids.ensures.items in
    subst (λ top. IsRebalanced c.args.kinds.now c.args.kind c.args.arena.now c.link_up-root.new.arena c.args.top t
    (record { top = top; len = c.args.top.len; spine = c.digits.result }))
    (sym c.top_at.ensures.value)
    (anew c.args.kinds.now c.args.kind c.args.arena.now c.args.top t c.requires.sound c.requires.one_kind holds c.link_up-root.new.arena
    c.link_up-root.result c.digits.result
    c.link_up-root.ensures.rest.runs c.digits.ensures.above c.digits.ensures.least c.digits.ensures.few
    (c.link_up-root.ensures.linked (cells (links_of t))
    (laid c.args.kinds.now c.args.kind c.args.arena.now c.args.top t c.requires.sound c.requires.one_kind holds c.deref.result.now ids)))

pub returns-clause-steps : goal.returns-clause-steps
returns-clause-steps g c =
    let t = c.requires.holds.0 in
    let at = subst (λ l. IsAt c.args.arena.now l MOST_SPINE (links_of t)) (sym c.root_at.ensures.value)
    (at-root c.args.kinds.now c.args.kind c.args.arena.now c.args.top t c.requires.sound c.requires.one_kind c.requires.holds.1) in
    let ids : c.deref.result.now ≡ numbers_of (cells (links_of t)) =
    c.deref.ensures.value ∙ c.in_ok-gather.ensures.ok (links_of t) at ∙ ap (λ v. v ++ numbers_of (cells (links_of t))) c.new-ids.ensures.items in
    let low : length c.deref.result.now ≤ c.args.top.len = ids-low c.args.kinds.now c.args.kind c.args.arena.now c.args.top t c.requires.sound
    c.requires.one_kind c.requires.holds.1 c.deref.result.now ids in
    omega (arith, c.link_up-root.ensures.steps)
