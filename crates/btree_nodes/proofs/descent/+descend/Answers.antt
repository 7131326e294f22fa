use Rattle.std.proofs.Common.{◌≡◌, ◌≤◌, ◌+◌, ◌*◌, arith}
use Rattle.node_arena.specs.Conforming.{height}
use Rattle.btree_nodes.proofs.DescentLemmas.{reads, at-leaf, leaf-there, below, below-woven, below-high, below-kept, below-parted, below-there}
use Rattle.btree_nodes.proofs.descent.+descend.Goals as goal

pub put_at-requires-clause-there : goal.put_at-requires-clause-there
put_at-requires-clause-there g m c =
    let r = reads c.requires.tree.0 c.requires.tree.1 c.args.elem c.place-place.result c.link.result c.place-place.ensures.value c.link.ensures.value in
    leaf-there c.requires.tree.0 c.requires.tree.1 c.args.elem _ _ r c.in-None.is

pub descend-requires : goal.descend-requires
descend-requires g m c κs within =
    let r = reads c.requires.tree.0 c.requires.tree.1 c.args.elem c.place-place.result c.link.result c.place-place.ensures.value c.link.ensures.value in
    let u = below c.requires.tree.0 c.requires.tree.1 c.args.elem _ _ r c.in-Some.child c.in-Some.is in
    let v = below-woven c.requires.tree.0 c.requires.tree.1 c.args.elem _ _ r c.in-Some.child c.in-Some.is in
    let h : height c.args.kinds.now u + 1 ≡ height c.args.kinds.now c.requires.tree.0 = below-high c.requires.tree.0 c.requires.tree.1 c.args.elem _ _ r
    c.in-Some.child c.in-Some.is in
    let low = c.requires.tree.1.low in
    let d = c.decreases in
    (omega arith, (within, (u, v)))

pub put_at-requires-in-Some-descend-clause-there : goal.put_at-requires-in-Some-descend-clause-there
put_at-requires-in-Some-descend-clause-there g m c =
    let r = reads c.requires.tree.0 c.requires.tree.1 c.args.elem c.place-place.result c.link.result c.place-place.ensures.value c.link.ensures.value in
    let u = below c.requires.tree.0 c.requires.tree.1 c.args.elem _ _ r c.in-Some.child c.in-Some.is in
    let v = below-woven c.requires.tree.0 c.requires.tree.1 c.args.elem _ _ r c.in-Some.child c.in-Some.is in
    below-there c.requires.tree.0 c.requires.tree.1 c.args.elem _ _ r c.in-Some.child c.in-Some.is c.descend.new.arena c.in-Some-descend.up
    c.in-Some-descend.right (c.in-Some-descend.ensures.grows u v)

pub put_at-requires-in-Some-descend-clause-spare : goal.put_at-requires-in-Some-descend-clause-spare
put_at-requires-in-Some-descend-clause-spare g m c =
    let r = reads c.requires.tree.0 c.requires.tree.1 c.args.elem c.place-place.result c.link.result c.place-place.ensures.value c.link.ensures.value in
    let u = below c.requires.tree.0 c.requires.tree.1 c.args.elem _ _ r c.in-Some.child c.in-Some.is in
    let v = below-woven c.requires.tree.0 c.requires.tree.1 c.args.elem _ _ r c.in-Some.child c.in-Some.is in
    let h : height c.args.kinds.now u + 1 ≡ height c.args.kinds.now c.requires.tree.0 = below-high c.requires.tree.0 c.requires.tree.1 c.args.elem _ _ r
    c.in-Some.child c.in-Some.is in
    let room = c.requires.tree.1.room in
    let spare : c.args.arena.now.nodes.spare ≤ c.descend.new.arena.nodes.spare + height c.args.kinds.now u = c.in-Some-descend.ensures.spare u v in
    omega arith

pub returns-in-None-clause-grows : goal.returns-in-None-clause-grows
returns-in-None-clause-grows g m c = λ t w.
    let r = reads t w c.args.elem c.place-place.result c.link.result c.place-place.ensures.value c.link.ensures.value in
    at-leaf t w c.args.elem _ _ r c.put_at.new.arena c.put_at.result c.in-None.is c.put_at.ensures.widens

pub returns-in-None-descend-clause-grows : goal.returns-in-None-descend-clause-grows
returns-in-None-descend-clause-grows g m c = λ t w.
    let r = reads t w c.args.elem c.place-place.result c.link.result c.place-place.ensures.value c.link.ensures.value in
    let u = below t w c.args.elem _ _ r c.in-Some.child c.in-Some.is in
    let v = below-woven t w c.args.elem _ _ r c.in-Some.child c.in-Some.is in
    below-kept t w c.args.elem _ _ r c.in-Some.child c.in-Some.is c.descend.new.arena (c.in-None-descend.ensures.grows u v)

pub returns-in-None-descend-clause-spare : goal.returns-in-None-descend-clause-spare
returns-in-None-descend-clause-spare g m c = λ t w.
    let r = reads t w c.args.elem c.place-place.result c.link.result c.place-place.ensures.value c.link.ensures.value in
    let u = below t w c.args.elem _ _ r c.in-Some.child c.in-Some.is in
    let v = below-woven t w c.args.elem _ _ r c.in-Some.child c.in-Some.is in
    let h : height c.args.kinds.now u + 1 ≡ height c.args.kinds.now t = below-high t w c.args.elem _ _ r c.in-Some.child c.in-Some.is in
    let spare : c.args.arena.now.nodes.spare ≤ c.descend.new.arena.nodes.spare + height c.args.kinds.now u = c.in-None-descend.ensures.spare u v in
    omega arith

pub returns-in-None-descend-clause-steps : goal.returns-in-None-descend-clause-steps
returns-in-None-descend-clause-steps g m c = λ t w.
    let r = reads t w c.args.elem c.place-place.result c.link.result c.place-place.ensures.value c.link.ensures.value in
    let u = below t w c.args.elem _ _ r c.in-Some.child c.in-Some.is in
    let v = below-woven t w c.args.elem _ _ r c.in-Some.child c.in-Some.is in
    let h : height c.args.kinds.now u + 1 ≡ height c.args.kinds.now t = below-high t w c.args.elem _ _ r c.in-Some.child c.in-Some.is in
    let steps : c.descend.new.steps ≤ c.args.steps.now + 2 * height c.args.kinds.now u = c.in-None-descend.ensures.steps u v in
    omega arith

pub returns-in-Some-descend-clause-grows : goal.returns-in-Some-descend-clause-grows
returns-in-Some-descend-clause-grows g m c = λ t w.
    let r = reads t w c.args.elem c.place-place.result c.link.result c.place-place.ensures.value c.link.ensures.value in
    let u = below t w c.args.elem _ _ r c.in-Some.child c.in-Some.is in
    let v = below-woven t w c.args.elem _ _ r c.in-Some.child c.in-Some.is in
    let b = c.descend.new.arena in
    let d = c.put_at-in-Some-descend.new.arena in
    let up = c.in-Some-descend.up in
    below-parted t w c.args.elem _ _ r c.in-Some.child c.in-Some.is b d up c.in-Some-descend.right c.put_at-in-Some-descend.result
    (c.in-Some-descend.ensures.grows u v)
    c.put_at-in-Some-descend.ensures.widens

pub returns-in-Some-descend-clause-spare : goal.returns-in-Some-descend-clause-spare
returns-in-Some-descend-clause-spare g m c = λ t w.
    let r = reads t w c.args.elem c.place-place.result c.link.result c.place-place.ensures.value c.link.ensures.value in
    let u = below t w c.args.elem _ _ r c.in-Some.child c.in-Some.is in
    let v = below-woven t w c.args.elem _ _ r c.in-Some.child c.in-Some.is in
    let h : height c.args.kinds.now u + 1 ≡ height c.args.kinds.now t = below-high t w c.args.elem _ _ r c.in-Some.child c.in-Some.is in
    let spare : c.args.arena.now.nodes.spare ≤ c.descend.new.arena.nodes.spare + height c.args.kinds.now u = c.in-Some-descend.ensures.spare u v in
    let one = c.put_at-in-Some-descend.ensures.spare in
    omega arith

pub returns-in-Some-descend-clause-steps : goal.returns-in-Some-descend-clause-steps
returns-in-Some-descend-clause-steps g m c = λ t w.
    let r = reads t w c.args.elem c.place-place.result c.link.result c.place-place.ensures.value c.link.ensures.value in
    let u = below t w c.args.elem _ _ r c.in-Some.child c.in-Some.is in
    let v = below-woven t w c.args.elem _ _ r c.in-Some.child c.in-Some.is in
    let h : height c.args.kinds.now u + 1 ≡ height c.args.kinds.now t = below-high t w c.args.elem _ _ r c.in-Some.child c.in-Some.is in
    let steps : c.descend.new.steps ≤ c.args.steps.now + 2 * height c.args.kinds.now u = c.in-Some-descend.ensures.steps u v in
    let two = c.put_at-in-Some-descend.ensures.steps in
    omega arith
