use Rattle.std.proofs.Common.{◌<◌, ◌∙◌, length, arith}
use Rattle.std.proofs.lemmas.Grind.{common_steps}
use Rattle.bulk_build.proofs.AnswersLemmas.{built-empty, built-flat}
use Rattle.bulk_build.proofs.flat.flat.Goals as goal

pub returns-then-is_empty-clause-ok : goal.returns-then-is_empty-clause-ok
returns-then-is_empty-clause-ok c = built-empty c.args.kinds.now c.args.root c.args.arena.now c.args.elems.now (grind (arith, common_steps))

pub returns-clause-ok : goal.returns-clause-ok
returns-clause-ok c =
    let some : 0 < length c.args.elems.now = grind (arith, common_steps) in
    let m = c.in_ok-id.ensures in
    built-flat c.args.kinds.now c.args.root c.args.arena.now c.fill.new.arena c.args.elems.now c.in_ok-id.id c.requires.flat (omega arith)
    c.requires.rising m.is_new c.fill.ensures.run (λ other ne. c.fill.ensures.others other ne ∙ m.others other ne)
    (c.fill.ensures.nodes ∙ c.run_with_room.ensures.nodes)
