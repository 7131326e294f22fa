use Rattle.std.proofs.Common.{subst}
use Rattle.node_arena.specs.declared.elements.Elem.{Elem}
use Rattle.node_arena.specs.declared.elements.Held.TheVariants.{Number}
use Rattle.node_arena.specs.Kinds.{kinds_of, root_of}
use Rattle.insert_gen.specs.Replacing.{IsReplacedIn}
use Rattle.insert_gen.proofs.TrialLemmas.{read-grown, read-replaced, there-grown}
use Rattle.insert_gen.proofs.tests.is_replaced.Goals as goal

pub look_up-requires-clause-conforms : goal.look_up-requires-clause-conforms
look_up-requires-clause-conforms g c =
    read-grown (kinds_of c.args.code.now) c.kinds-kinds.result.now (root_of c.args.code.now) c.args.arena.now c.args.top.now c.args.free.now
    c.kinds-kinds.ensures.value c.requires.grown

pub replace-answer-requires : goal.replace-answer-requires
replace-answer-requires g c = record {
  tree =
      let q = c.requires.grown in (
        q.tree,
        q.stands,
        q.conforms,
        there-grown (kinds_of c.args.code.now) c.kinds-kinds.result.now c.args.arena.now c.args.top.now q.tree c.args.at c.look_up.result c.in-Some.old
            c.kinds-kinds.ensures.value q.stands c.look_up.ensures.value c.in-Some.is,
      );
}

pub look_up-new-requires-clause-conforms : goal.look_up-new-requires-clause-conforms
look_up-new-requires-clause-conforms g c =
    let q = c.requires.grown in
    let s = kinds_of c.args.code.now in
    let k = root_of c.args.code.now in
    let a = c.args.arena.now in
    let b = c.replace-answer.new.arena in
    let x : Elem = record { at = c.args.at; held = Number 7 } in
    let walk = subst (λ st. IsReplacedIn s k a b x q.tree st) c.replace-answer.ensures.value (c.replace-answer.ensures.walk q.tree q.stands) in
    read-replaced s c.kinds-kinds.result.now k a b x c.args.top.now q.tree c.kinds-kinds.ensures.value walk
