use Rattle.std.proofs.Common.{◌≡◌, ◌<◌, ◌+◌, ◌*◌, ◌^◌, ◌≤◌, suc, subst, arith}
use Rattle.bulk_build.proofs.LevelsLemmas.{thrice, levels-first, first-room, more-room}
use Rattle.bulk_build.proofs.levels.levels_for.Goals as goal

pub rising-init : goal.rising-init
rising-init c = record {
  room_is = first-room c.args.width;
  needed = levels-first c.args.width c.args.gaps c.requires.some;
  deep = omega arith;
}

pub rising-preserved : goal.rising-preserved
rising-preserved c =
    let w = c.args.width in
    let n = c.rising.below in
    let e : suc n ≡ n + 1 = omega arith in
    let t : 3 * c.rising.room ≤ c.rising.room * w = thrice c.rising.room w c.requires.wide in
    record {
      room_is = subst (λ v. c.rising.room * w ≡ w ^ suc v) e (more-room w n c.rising.room c.rising.invariant.room_is);
      needed = subst (λ v. w ^ v < c.args.gaps) e (subst (λ v. v < c.args.gaps) c.rising.invariant.room_is c.rising-test.true);
      deep = omega arith;
    }
