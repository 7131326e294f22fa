use Rattle.std.proofs.Common.{◌≡◌, ◌<◌, ◌≤◌, ◌+◌, ◌-◌, ◌/◌, ◌∷◌, [], length, take, drop, Some, IsSome, IfSome, refl, sym, subst, arith}
use Rattle.std.proofs.lemmas.Grind.{common_steps}
use Rattle.node_arena.specs.Arenas.{node_at, ChangesNode}
use Rattle.chunk_tree.specs.Relinking.{IsLinked}
use Rattle.chunk_tree.proofs.Halves.{halved, mid-some, linked-both, none-linked, take-short}
use Rattle.chunk_tree.proofs.Kept.{relinked-then, relinked-links}
use Rattle.chunk_tree.proofs.linking.+link_up.Goals as goal

pub returns-then-is_empty-clause-linked : goal.returns-then-is_empty-clause-linked
returns-then-is_empty-clause-linked g t c = λ cs h. none-linked _ c.args.ids.now cs (grind (arith, common_steps)) h

pub link_up-pre-requires : goal.link_up-pre-requires
link_up-pre-requires g m c κs within =
    let some : 0 < length c.args.ids.now = grind (arith, common_steps) in
    let h = halved c.args.arena.now c.args.ids.now c.requires.laid.0 (length c.args.ids.now / 2) 0 refl some c.requires.laid.1 in
    let d : length c.args.ids.now ≡ m = c.decreases in
    let short : length (take (length c.args.ids.now / 2) c.args.ids.now) ≤ length c.args.ids.now / 2 = take-short (length c.args.ids.now / 2) c.args.ids.now in
    let less : length (take (length c.args.ids.now / 2) c.args.ids.now) < m = omega (arith, d, some, short) in
    (less, (within, ((h.xs, h.lower), c.requires.links)))

pub link_up-post-requires : goal.link_up-post-requires
link_up-post-requires g m c κs within =
    let some : 0 < length c.args.ids.now = grind (arith, common_steps) in
    let h = halved c.args.arena.now c.args.ids.now c.requires.laid.0 (length c.args.ids.now / 2) 0 refl some c.requires.laid.1 in
    let l = c.link_up-pre.ensures.linked h.xs h.lower in
    let d : length c.args.ids.now ≡ m = c.decreases in
    let rest = drop (length c.args.ids.now / 2 + 1) c.args.ids.now in
    let short : length (take (length c.args.ids.now - (length c.args.ids.now / 2 + 1)) rest) ≤ length c.args.ids.now -
    (length c.args.ids.now / 2 + 1) = take-short (length c.args.ids.now - (length c.args.ids.now / 2 + 1)) rest in
    let less : length (take (length c.args.ids.now - (length c.args.ids.now / 2 + 1)) rest) < m = omega (arith, d, some, short) in
    let most = c.link_up-pre.ensures.rest.most in
    (less, (within, ((h.ys, h.upper _ l.keeps), omega (arith, c.requires.links))))

pub set_links-requires-clause-there : goal.set_links-requires-clause-there
set_links-requires-clause-there g m c =
    let some : 0 < length c.args.ids.now = grind (arith, common_steps) in
    let r = c.index-ids-mid.result in
    let h = halved c.args.arena.now c.args.ids.now c.requires.laid.0 (length c.args.ids.now / 2) r refl some c.requires.laid.1 in
    let l = c.link_up-pre.ensures.linked h.xs h.lower in
    let u = c.link_up-post.ensures.linked h.ys (h.upper _ l.keeps) in
    subst (λ i. IsSome (node_at c.link_up-post.new.arena i)) (sym c.index-ids-mid.is) (mid-some _ _ _ c.args.ids.now c.requires.laid.0 _ r _ _ h l u)

pub returns-clause-linked : goal.returns-clause-linked
returns-clause-linked g m c = λ cs laid.
    let some : 0 < length c.args.ids.now = grind (arith, common_steps) in
    let r = c.index-ids-mid.result in
    let h = halved c.args.arena.now c.args.ids.now cs (length c.args.ids.now / 2) r refl some laid in
    let l = c.link_up-pre.ensures.linked h.xs h.lower in
    let u = c.link_up-post.ensures.linked h.ys (h.upper _ l.keeps) in
    let n = c.link_up-post.new.arena in
    let b = c.set_links.new.self in
    let ch = subst (λ i. IfSome (node_at n i) (λ v. ChangesNode n b i (Some (record v { links = c.link_up-pre.result ∷ c.link_up-post.result ∷ [] }))))
    c.index-ids-mid.is c.set_links.ensures.node in
    subst (λ i. IsLinked c.args.arena.now b cs (Some i)) (sym c.index-ids-mid.is)
    (linked-both c.args.arena.now c.link_up-pre.new.arena n c.args.ids.now cs
    (length c.args.ids.now / 2) r c.link_up-pre.result c.link_up-post.result b h l u ch)

pub returns-clause-rest : goal.returns-clause-rest
returns-clause-rest g m c =
    let some : 0 < length c.args.ids.now = grind (arith, common_steps) in
    let r = c.index-ids-mid.result in
    let h = halved c.args.arena.now c.args.ids.now c.requires.laid.0 (length c.args.ids.now / 2) r refl some c.requires.laid.1 in
    let l = c.link_up-pre.ensures.linked h.xs h.lower in
    let u = c.link_up-post.ensures.linked h.ys (h.upper _ l.keeps) in
    let there = subst (λ i. IsSome (node_at c.link_up-post.new.arena i)) (sym c.index-ids-mid.is)
    (mid-some _ _ _ c.args.ids.now c.requires.laid.0 _ r _ _ h l u) in
    relinked-then c.args.arena.now c.link_up-pre.new.arena c.set_links.new.self c.link_up-pre.ensures.rest
    (relinked-then c.link_up-pre.new.arena c.link_up-post.new.arena c.set_links.new.self c.link_up-post.ensures.rest
    (relinked-links c.link_up-post.new.arena c.set_links.new.self r (c.link_up-pre.result ∷ c.link_up-post.result ∷ []) there c.set_links.ensures.node
    c.set_links.ensures.spare))
