use Rattle.std.proofs.Common.{◌≡◌, ◌≤◌, ◌+◌, length, ap, ◌∙◌, sym, arith}
use Rattle.node_arena.specs.Arenas.{RunsState}
use Rattle.bulk_build.specs.Layouts.{fill_of}
use Rattle.bulk_build.proofs.AnswersLemmas.{built-linked}
use Rattle.bulk_build.proofs.LevelsLemmas.{taken-plain}
use Rattle.bulk_build.proofs.FillsLemmas.{fill-some, capacity-more}
use Rattle.bulk_build.proofs.linked.linked.Goals as goal

pub returns-clause-ok : goal.returns-clause-ok
returns-clause-ok g c =
    built-linked c.args.kinds.now c.args.root c.args.arena.now c.reserve.new.self c.subtree-id.new.arena c.args.elems.now c.subtree-id.result
    c.structure.result c.requires.linked c.requires.rising c.reserve.ensures.nodes c.reserve.ensures.runs c.structure.ensures.value c.subtree-id.ensures.built

pub returns-clause-steps : goal.returns-clause-steps
returns-clause-steps g c =
    let s = c.args.kinds.now in
    let k = c.args.root in
    let used : c.reserve.new.self.nodes.spare ≤ c.subtree-id.new.arena.nodes.spare + length c.args.elems.now =
    taken-plain _ _ _ (fill_of s k) (fill-some s k c.requires.sound) c.subtree-id.ensures.used in
    omega (arith, used, c.subtree-id.ensures.steps)

pub returns-clause-spent : goal.returns-clause-spent
returns-clause-spent g c =
    let s = c.args.kinds.now in
    let k = c.args.root in
    let used : c.reserve.new.self.nodes.spare ≤ c.subtree-id.new.arena.nodes.spare + length c.args.elems.now =
    taken-plain _ _ _ (fill_of s k) (fill-some s k c.requires.sound) c.subtree-id.ensures.used in
    let kept : c.args.arena.now.nodes.spare ≤ c.reserve.new.self.nodes.spare = c.in_ok-reserve.ensures.kept in
    let before = c.reserve.ensures.runs in
    let after = c.subtree-id.ensures.built.adds.runs in
    let spare : c.args.arena.now.runs.spare ≡ c.subtree-id.new.arena.runs.spare = sym (ap (λ (r : RunsState). r.spare) (after ∙ before)) in
    let room : c.args.arena.now.runs.room ≡ c.subtree-id.new.arena.runs.room = sym (ap (λ (r : RunsState). r.room) (after ∙ before)) in
    record { nodes = omega (arith, used, kept); runs = omega (arith, spare); room = omega (arith, room) }

pub subtree-id-requires-clause-spare : goal.subtree-id-requires-clause-spare
subtree-id-requires-clause-spare g c =
    let s = c.args.kinds.now in
    let k = c.args.root in
    let more = capacity-more s k c.nodes_for.result c.reserve.new.self.nodes.spare c.in_ok-reserve.ensures.ok in
    let enough = c.nodes_for.ensures.enough in
    omega (arith, more, enough)
