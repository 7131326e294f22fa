use Rattle.std.proofs.Common.{◌≡◌, ap}
use Rattle.node_arena.specs.Kinds.{kinds_of, root_of}
use Rattle.insert_gen.specs.Trials.{IsGrown}
use Rattle.insert_gen.proofs.TrialLemmas.{RunsKept-same, nodes-same, grown-moved}
use Rattle.insert_gen.proofs.tests.prepare.Goals as goal

pub returns-in_err-reserve-clause-grown : goal.returns-in_err-reserve-clause-grown
returns-in_err-reserve-clause-grown c =
    let s = kinds_of c.args.code.now in
    let k = root_of c.args.code.now in
    let a = c.args.arena.now in
    let b = c.reserve.new.self in
    grown-moved s k a b c.args.top.now c.args.free.now (nodes-same a b c.reserve.ensures.nodes) c.reserve.ensures.most
    (RunsKept-same a b (ap (λ r. r.slots) c.reserve.ensures.runs)) c.requires.grown

pub returns-in_err-reserve_runs-clause-grown : goal.returns-in_err-reserve_runs-clause-grown
returns-in_err-reserve_runs-clause-grown c =
    let s = kinds_of c.args.code.now in
    let k = root_of c.args.code.now in
    let a = c.args.arena.now in
    let b = c.reserve.new.self in
    let d = c.reserve_runs.new.self in
    let first = grown-moved s k a b c.args.top.now c.args.free.now (nodes-same a b c.reserve.ensures.nodes) c.reserve.ensures.most
    (RunsKept-same a b (ap (λ r. r.slots) c.reserve.ensures.runs)) c.requires.grown in
    grown-moved s k b d c.args.top.now c.args.free.now (nodes-same b d (ap (λ n. n.slots) c.reserve_runs.ensures.nodes))
    (ap (λ n. n.most) c.reserve_runs.ensures.nodes) (RunsKept-same b d c.reserve_runs.ensures.runs) first

pub with_room-requires-clause-grown : goal.with_room-requires-clause-grown
with_room-requires-clause-grown c =
    let s = kinds_of c.args.code.now in
    let k = root_of c.args.code.now in
    let a = c.args.arena.now in
    let b = c.reserve.new.self in
    let d = c.reserve_runs.new.self in
    let first = grown-moved s k a b c.args.top.now c.args.free.now (nodes-same a b c.reserve.ensures.nodes) c.reserve.ensures.most
    (RunsKept-same a b (ap (λ r. r.slots) c.reserve.ensures.runs)) c.requires.grown in
    grown-moved s k b d c.args.top.now c.args.free.now (nodes-same b d (ap (λ n. n.slots) c.reserve_runs.ensures.nodes))
    (ap (λ n. n.most) c.reserve_runs.ensures.nodes) (RunsKept-same b d c.reserve_runs.ensures.runs) first
