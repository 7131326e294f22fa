use Rattle.std.proofs.Common.{◌≤◌, ◌<◌, ◌+◌, ◌*◌, arith}
use Rattle.node_arena.specs.Conforming.{height}
use Rattle.btree_nodes.specs.Links.{PutsUnder, WritesFewAt}
use Rattle.btree_nodes.proofs.LinkLemmas.{woven_kind, of_each, high, woven, started, kept, raised, few-started, few-kept, few-raised, spare-digits}
use Rattle.btree_nodes.proofs.links.insert_below.Goals as goal

pub descend-requires : goal.descend-requires
descend-requires g c =
    let kind = woven_kind _ _ c.requires.sound c.requires.woven in
    let q = c.requires.tree in
    record { tree = (_, woven _ c.requires.sound _ kind _ _ _ _ q.1 c.in-Some.node c.in-Some.is (c.requires.serves c.args.kind) q.2) }

pub make-requires-in-Some-descend-clause-spare : goal.make-requires-in-Some-descend-clause-spare
make-requires-in-Some-descend-clause-spare g c =
    let kind = woven_kind _ _ c.requires.sound c.requires.woven in
    let q = c.requires.tree in
    let w = woven _ c.requires.sound _ kind _ _ _ _ q.1 c.in-Some.node c.in-Some.is (c.requires.serves c.args.kind) q.2 in
    let spare : c.args.arena.now.nodes.spare ≤ c.descend.new.arena.nodes.spare + height c.args.kinds.now q.0 = c.in-Some-descend.ensures.spare _ w in
    let h : height c.args.kinds.now q.0 < q.2.digits = high _ c.requires.sound _ kind _ _ _ _ q.1 q.2.digits q.2.more in
    let room = q.2.room in
    omega arith

pub returns-in-None-clause-puts : goal.returns-in-None-clause-puts
returns-in-None-clause-puts g c = λ t can.
    let kind = woven_kind _ _ c.requires.sound c.requires.woven in
    started _ c.requires.sound _ kind _ _ _ _ can _ _ c.in-None.is c.make.ensures.is_new c.make.ensures.node

pub returns-in-None-clause-steps : goal.returns-in-None-clause-steps
returns-in-None-clause-steps g c = λ t can.
    let kind = woven_kind _ _ c.requires.sound c.requires.woven in
    few-started _ c.requires.sound _ kind _ _ _ _ can _ _ _ _ _ c.make.ensures.node c.make.ensures.steps

pub returns-in-None-descend-clause-puts : goal.returns-in-None-descend-clause-puts
returns-in-None-descend-clause-puts g c =
    let kind = woven_kind _ _ c.requires.sound c.requires.woven in
    let q = c.requires.tree in
    let w = woven _ c.requires.sound _ kind _ _ _ _ q.1 c.in-Some.node c.in-Some.is (c.requires.serves c.args.kind) q.2 in
    of_each _ c.requires.sound _ kind _ _ _ _ q.1 (λ t. PutsUnder _ _ _ _ _ t _)
    (kept _ c.requires.sound _ kind _ _ _ _ q.1 c.in-Some.node c.in-Some.is _ (c.in-None-descend.ensures.grows _ w))

pub returns-in-None-descend-clause-steps : goal.returns-in-None-descend-clause-steps
returns-in-None-descend-clause-steps g c =
    let kind = woven_kind _ _ c.requires.sound c.requires.woven in
    let q = c.requires.tree in
    let w = woven _ c.requires.sound _ kind _ _ _ _ q.1 c.in-Some.node c.in-Some.is (c.requires.serves c.args.kind) q.2 in
    let r = c.in-None-descend.ensures.grows _ w in
    of_each _ c.requires.sound _ kind _ _ _ _ q.1 (λ t. WritesFewAt _ _ _ t _ _)
    (few-kept _ c.requires.sound _ kind _ _ _ _ q.1 _ _ _ r.differ (c.in-None-descend.ensures.steps _ w))

pub returns-in-None-descend-clause-spare : goal.returns-in-None-descend-clause-spare
returns-in-None-descend-clause-spare g c =
    let kind = woven_kind _ _ c.requires.sound c.requires.woven in
    let q = c.requires.tree in
    let w = woven _ c.requires.sound _ kind _ _ _ _ q.1 c.in-Some.node c.in-Some.is (c.requires.serves c.args.kind) q.2 in
    let spare : c.args.arena.now.nodes.spare ≤ c.descend.new.arena.nodes.spare + height c.args.kinds.now q.0 = c.in-None-descend.ensures.spare _ w in
    spare-digits _ c.requires.sound _ kind _ _ _ _ q.1 _ _ (omega arith)

pub returns-in-Some-descend-clause-puts : goal.returns-in-Some-descend-clause-puts
returns-in-Some-descend-clause-puts g c =
    let kind = woven_kind _ _ c.requires.sound c.requires.woven in
    let q = c.requires.tree in
    let w = woven _ c.requires.sound _ kind _ _ _ _ q.1 c.in-Some.node c.in-Some.is (c.requires.serves c.args.kind) q.2 in
    of_each _ c.requires.sound _ kind _ _ _ _ q.1 (λ t. PutsUnder _ _ _ _ _ t _)
    (raised _ c.requires.sound _ kind _ _ _ _ q.1 c.in-Some.node c.in-Some.is _ _ _ _ _ (c.in-Some-descend.ensures.grows _ w)
    c.make-in-Some-descend.ensures.is_new c.make-in-Some-descend.ensures.node)

pub returns-in-Some-descend-clause-steps : goal.returns-in-Some-descend-clause-steps
returns-in-Some-descend-clause-steps g c =
    let kind = woven_kind _ _ c.requires.sound c.requires.woven in
    let q = c.requires.tree in
    let w = woven _ c.requires.sound _ kind _ _ _ _ q.1 c.in-Some.node c.in-Some.is (c.requires.serves c.args.kind) q.2 in
    let r = c.in-Some-descend.ensures.grows _ w in
    let down : c.descend.new.steps ≤ c.args.steps.now + 2 * height c.args.kinds.now q.0 = c.in-Some-descend.ensures.steps _ w in
    let one = c.make-in-Some-descend.ensures.steps in
    of_each _ c.requires.sound _ kind _ _ _ _ q.1 (λ t. WritesFewAt _ _ _ t _ _)
    (few-raised _ c.requires.sound _ kind _ _ _ _ q.1 _ _ _ _ _ _ r.differ c.make-in-Some-descend.ensures.node (omega arith))

pub returns-in-Some-descend-clause-spare : goal.returns-in-Some-descend-clause-spare
returns-in-Some-descend-clause-spare g c =
    let kind = woven_kind _ _ c.requires.sound c.requires.woven in
    let q = c.requires.tree in
    let w = woven _ c.requires.sound _ kind _ _ _ _ q.1 c.in-Some.node c.in-Some.is (c.requires.serves c.args.kind) q.2 in
    let spare : c.args.arena.now.nodes.spare ≤ c.descend.new.arena.nodes.spare + height c.args.kinds.now q.0 = c.in-Some-descend.ensures.spare _ w in
    let one = c.make-in-Some-descend.ensures.spare in
    spare-digits _ c.requires.sound _ kind _ _ _ _ q.1 _ _ (omega arith)
