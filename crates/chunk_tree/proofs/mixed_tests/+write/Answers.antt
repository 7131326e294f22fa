use Rattle.std.proofs.Common.{◌≡◌, ◌-◌, IfSome, subst, arith}
use Rattle.chunk_tree.specs.Trials.{IsRooted}
use Rattle.chunk_tree.proofs.TrialLemmas.{link-rooted}
use Rattle.chunk_tree.proofs.mixed_tests.+write.Goals as goal

pub write-requires : goal.write-requires
write-requires m c =
    let rooted : IsRooted c.args.arena.now c.in-Some.node = subst (λ l. IfSome l (IsRooted c.args.arena.now)) c.in-Some.is c.requires.rooted in
    let r = link-rooted c.args.arena.now c.in-Some.node c.loop-place.place c.link.result rooted c.link.ensures.value in
    let d : c.args.levels ≡ m = c.decreases in
    (omega (arith, c.if-levels-eq0.false), (r.1, r.0))

pub write-requires-then-links-gt0 : goal.write-requires-then-links-gt0
write-requires-then-links-gt0 m c =
    let rooted : IsRooted c.args.arena.now c.in-Some.node = subst (λ l. IfSome l (IsRooted c.args.arena.now)) c.in-Some.is c.requires.rooted in
    let r = link-rooted c.args.arena.now c.in-Some.node (c.link_count-links.result - 1) c.link-then-links-gt0.result rooted
    c.link-then-links-gt0.ensures.value in
    let d : c.args.levels ≡ m = c.decreases in
    (omega (arith, c.if-levels-eq0.false), (r.1, r.0))
