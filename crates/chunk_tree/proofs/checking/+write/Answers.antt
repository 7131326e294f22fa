use Rattle.std.proofs.Common.{◌≡◌, IfSome, subst, arith}
use Rattle.chunk_tree.specs.Trials.{IsRooted}
use Rattle.chunk_tree.proofs.TrialLemmas.{link-rooted}
use Rattle.chunk_tree.proofs.checking.+write.Goals as goal

pub write-requires : goal.write-requires
write-requires m c =
    let rooted : IsRooted c.args.arena.now c.in-Some.node = subst (λ l. IfSome l (IsRooted c.args.arena.now)) c.in-Some.is c.requires.rooted in
    let r = link-rooted c.args.arena.now c.in-Some.node 0 c.link.result rooted c.link.ensures.value in
    let d : c.args.levels ≡ m = c.decreases in
    (omega (arith, c.if-levels-eq0.false), (r.1, r.0))

pub write-requires-2 : goal.write-requires-2
write-requires-2 m c =
    let rooted : IsRooted c.args.arena.now c.in-Some.node = subst (λ l. IfSome l (IsRooted c.args.arena.now)) c.in-Some.is c.requires.rooted in
    let r = link-rooted c.args.arena.now c.in-Some.node 1 c.link-2.result rooted c.link-2.ensures.value in
    let d : c.args.levels ≡ m = c.decreases in
    (omega (arith, c.if-levels-eq0.false), (r.1, r.0))
