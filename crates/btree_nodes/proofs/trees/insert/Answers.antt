use Rattle.std.proofs.Common.{sym, subst}
use Rattle.node_arena.specs.Structures.{links_of}
use Rattle.node_arena.specs.Insertions.{IsPutIn}
use Rattle.btree_nodes.specs.Writes.{WritesFew}
use Rattle.btree_nodes.specs.Links.{CanPutAt}
use Rattle.btree_nodes.proofs.LinkLemmas.{woven_kind}
use Rattle.btree_nodes.proofs.TopLemmas.{at-link, of_each, put-top, few-top}
use Rattle.btree_nodes.proofs.trees.insert.Goals as goal

pub returns-clause-walk : goal.returns-clause-walk
returns-clause-walk g c =
    let kind = woven_kind _ _ c.requires.sound c.requires.woven in
    let q = c.requires.tree in
    let can = at-link _ _ kind _ _ _ q.1 q.2 c.args.elem q.3 c.requires.few in
    let named = subst (λ o. CanPutAt c.args.kinds.now c.args.kind c.args.arena.now c.args.elem o (links_of q.0)) (sym c.root_of.ensures.value) can in
    of_each _ _ kind _ _ _ q.1 q.2 (λ u. IsPutIn _ _ _ _ _ u _)
    (put-top _ _ kind _ _ _ q.1 q.2 _ _ _ _ c.with_root.ensures.value c.insert_below-root.ensures.runs can (c.insert_below-root.ensures.puts _ named))

pub returns-clause-steps : goal.returns-clause-steps
returns-clause-steps g c =
    let kind = woven_kind _ _ c.requires.sound c.requires.woven in
    let q = c.requires.tree in
    let can = at-link _ _ kind _ _ _ q.1 q.2 c.args.elem q.3 c.requires.few in
    let named = subst (λ o. CanPutAt c.args.kinds.now c.args.kind c.args.arena.now c.args.elem o (links_of q.0)) (sym c.root_of.ensures.value) can in
    of_each _ _ kind _ _ _ q.1 q.2 (λ u. WritesFew _ _ _ u _ _ _)
    (few-top _ _ kind _ _ _ q.1 q.2 _ _ _ (c.insert_below-root.ensures.steps _ named))
