use Rattle.std.proofs.Common.{Some, ap, ◌∙◌, sym, subst, arith}
use Rattle.node_arena.specs.Insertions.{IsPutIn}
use Rattle.node_arena.specs.Kinds.{shape_at}
use Rattle.node_arena.specs.Structures.{links_of}
use Rattle.node_arena.proofs.ChangesLemmas.{DifferInFew-wider}
use Rattle.node_arena.proofs.StructuresLemmas.{tree_unique}
use Rattle.insert_gen.specs.Below.{own_depth}
use Rattle.insert_gen.specs.Inserting.{raised}
use Rattle.insert_gen.proofs.TopLemmas.{CanPutIn-top, put-linked, put-first, raise-of, one-wanted}
use Rattle.insert_gen.proofs.inserting.put_in_nodes.Goals as goal

pub returns-in-Node-clause-walk : goal.returns-in-Node-clause-walk
returns-in-Node-clause-walk g c = λ t h.
    let q = c.requires.tree in
    let can = CanPutIn-top c.args.kinds.now c.args.kind c.args.arena.now c.args.old.now q.0 c.args.elem c.in-Node.node q.1 q.2 q.3 c.in-Node.is in
    let is = c.longer.ensures.value in
    let raise = raise-of c.args.kinds.now c.args.old.now.spine c.longer.result.spine c.raised.result c.put_in_linked-deep.result (ap (λ v. v.spine) is)
    c.requires.low c.raised.ensures.none c.raised.ensures.value in
    let both = put-linked c.args.kinds.now c.args.kind c.args.arena.now c.put_in_linked-deep.new.arena c.args.elem c.args.old.now c.longer.result
    c.in-Node.node q.0 c.put_in_linked-deep.result c.put_in_linked-deep.ensures.runs q.1 q.2 q.3 c.in-Node.is
    (c.put_in_linked-deep.ensures.done (links_of q.0) can.0) (ap (λ v. v.top) is) (ap (λ v. v.len) is) raise in
    subst (λ v. IsPutIn c.args.kinds.now c.args.kind c.args.arena.now c.put_in_linked-deep.new.arena c.args.elem v c.longer.result)
    (sym (tree_unique c.args.kinds.now c.args.arena.now c.args.old.now t q.0 h q.1)) both.0

pub returns-in-Node-clause-spine : goal.returns-in-Node-clause-spine
returns-in-Node-clause-spine g c =
    let q = c.requires.tree in
    let can = CanPutIn-top c.args.kinds.now c.args.kind c.args.arena.now c.args.old.now q.0 c.args.elem c.in-Node.node q.1 q.2 q.3 c.in-Node.is in
    let is = c.longer.ensures.value in
    let raise = raise-of c.args.kinds.now c.args.old.now.spine c.longer.result.spine c.raised.result c.put_in_linked-deep.result (ap (λ v. v.spine) is)
    c.requires.low c.raised.ensures.none c.raised.ensures.value in
    let both = put-linked c.args.kinds.now c.args.kind c.args.arena.now c.put_in_linked-deep.new.arena c.args.elem c.args.old.now c.longer.result
    c.in-Node.node q.0 c.put_in_linked-deep.result c.put_in_linked-deep.ensures.runs q.1 q.2 q.3 c.in-Node.is
    (c.put_in_linked-deep.ensures.done (links_of q.0) can.0) (ap (λ v. v.top) is) (ap (λ v. v.len) is) raise in
    both.1

pub returns-in_default-clause-walk : goal.returns-in_default-clause-walk
returns-in_default-clause-walk g c = λ t h.
    let q = c.requires.tree in
    let is = c.longer-in_default.ensures.value in
    let own = ap (λ v. raised c.args.old.now.spine (Some v)) c.own_depth.ensures.value in
    let raise = raise-of c.args.kinds.now c.args.old.now.spine c.longer-in_default.result.spine c.raised-spine.result
    (Some (own_depth (shape_at c.args.kinds.now c.args.kind))) (ap (λ v. v.spine) is) c.requires.low c.raised-spine.ensures.none
    (λ e. c.raised-spine.ensures.value e ∙ own) in
    let both = put-first c.args.kinds.now c.args.kind c.args.arena.now c.make_first-node.new.arena c.args.elem c.args.old.now c.longer-in_default.result
    c.make_first-node.result q.0 c.make_first-node.ensures.runs q.1 q.2 c.requires.linked c.in_default.not-Node c.make_first-node.ensures.first
    (ap (λ v. v.top) is) (ap (λ v. v.len) is) raise in
    subst (λ v. IsPutIn c.args.kinds.now c.args.kind c.args.arena.now c.make_first-node.new.arena c.args.elem v c.longer-in_default.result)
    (sym (tree_unique c.args.kinds.now c.args.arena.now c.args.old.now t q.0 h q.1)) both.0

pub returns-in_default-clause-spine : goal.returns-in_default-clause-spine
returns-in_default-clause-spine g c =
    let q = c.requires.tree in
    let is = c.longer-in_default.ensures.value in
    let own = ap (λ v. raised c.args.old.now.spine (Some v)) c.own_depth.ensures.value in
    let raise = raise-of c.args.kinds.now c.args.old.now.spine c.longer-in_default.result.spine c.raised-spine.result
    (Some (own_depth (shape_at c.args.kinds.now c.args.kind))) (ap (λ v. v.spine) is) c.requires.low c.raised-spine.ensures.none
    (λ e. c.raised-spine.ensures.value e ∙ own) in
    let both = put-first c.args.kinds.now c.args.kind c.args.arena.now c.make_first-node.new.arena c.args.elem c.args.old.now c.longer-in_default.result
    c.make_first-node.result q.0 c.make_first-node.ensures.runs q.1 q.2 c.requires.linked c.in_default.not-Node c.make_first-node.ensures.first
    (ap (λ v. v.top) is) (ap (λ v. v.len) is) raise in
    both.1

pub returns-in_default-clause-few : goal.returns-in_default-clause-few
returns-in_default-clause-few g c = λ none.
    DifferInFew-wider 1 2 c.args.arena.now c.make_first-node.new.arena (omega arith) c.make_first-node.ensures.few

pub returns-in_default-clause-spare : goal.returns-in_default-clause-spare
returns-in_default-clause-spare g c = λ n w.
    one-wanted c.args.kinds.now c.args.kind c.args.old.now.len n c.args.arena.now.nodes.spare c.make_first-node.new.arena.nodes.spare c.requires.linked
    c.make_first-node.ensures.spare w
