use Rattle.std.proofs.Common.{◌-◌, refl, sym, subst, arith}
use Rattle.node_arena.specs.Rules.{AreSound, Serves}
use Rattle.btree_nodes.proofs.TrialLemmas.{grown-empty, grown-same, grown-back, serves-kind, sound-kind, top-rooted}
use Rattle.btree_nodes.proofs.tests.grown.Goals as goal

pub loop-i-init : goal.loop-i-init
loop-i-init g c =
    let most = c.new-arena.ensures.most in
    let same = c.reserve.ensures.most in
    let half = c.requires.half in
    let some = c.requires.some in
    let ok = c.in_ok-reserve.ensures.ok in
    let serves = serves-kind c.args.lo c.args.hi c.reserve.new.self (omega arith) (omega arith) in
    grown-empty _ _ _ _ _ refl (subst (λ s. Serves s c.reserve.new.self) (sym c.woven-kinds.ensures.kind) serves) (omega arith) (omega arith)

pub put-top-requires-clause-sound : goal.put-top-requires-clause-sound
put-top-requires-clause-sound g c =
    let some = c.requires.some in
    subst AreSound (sym c.woven-kinds.ensures.kind) (sound-kind c.args.lo c.args.hi (omega arith) c.requires.half c.requires.in_range)

pub put-top-requires-clause-grown : goal.put-top-requires-clause-grown
put-top-requires-clause-grown g c = grown-same _ _ _ _ _ _ c.as_mut_slice.ensures.value c.loop-i.invariant

pub keeps-requires-clause-there : goal.keeps-requires-clause-there
keeps-requires-clause-there g c = (top-rooted _ _ _ _ _ c.put-top.ensures.grown).1

pub keeps-requires-clause-rooted : goal.keeps-requires-clause-rooted
keeps-requires-clause-rooted g c = (top-rooted _ _ _ _ _ c.put-top.ensures.grown).0

pub loop-i-preserved : goal.loop-i-preserved
loop-i-preserved g c =
    let same = c.put-top.auto.free in
    let len = c.as_mut_slice.ensures.len in
    grown-back _ _ _ _ _ _ (2000 - c.loop-i.i - 1) _ (omega arith) (omega arith) c.put-top.ensures.grown

pub written-requires-clause-there : goal.written-requires-clause-there
written-requires-clause-there g c = (top-rooted _ _ _ _ _ c.loop-i.invariant).1

pub written-requires-clause-rooted : goal.written-requires-clause-rooted
written-requires-clause-rooted g c = (top-rooted _ _ _ _ _ c.loop-i.invariant).0
