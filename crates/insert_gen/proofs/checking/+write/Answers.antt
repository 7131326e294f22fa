use Rattle.std.proofs.Common.{arith}
use Rattle.btree_nodes.proofs.TrialLemmas.{child-rooted}
use Rattle.insert_gen.proofs.checking.+write.Goals as goal

pub write-requires : goal.write-requires
write-requires t c =
    let r = child-rooted _ _ c.in-Some.child _ c.requires.rooted c.in-Some.ensures.value in
    let d = c.decreases in
    let some = c.if-levels-eq0.false in
    (omega arith, (r.1, r.0))
