use Rattle.std.proofs.Common.{◌<◌, ◌≤◌, ◌*◌, ◌^◌, sym, ◌∙◌, ap, subst, arith}
use Rattle.std.proofs.Math.Nat.{pow-suc, one-le-pow}
use Rattle.bulk_build.proofs.LevelsLemmas.{child-room}
use Rattle.bulk_build.proofs.levels.child_levels.Goals as goal

pub returns-clause-room : goal.returns-clause-room
returns-clause-room c = child-room c.args.width c.args.levels.below c.args.levels.room (omega arith) c.requires.room

pub returns-clause-parts : goal.returns-clause-parts
returns-clause-parts c =
    let e = child-room c.args.width c.args.levels.below c.args.levels.room (omega arith) c.requires.room in
    c.requires.room ∙ pow-suc c.args.width c.args.levels.below ∙ ap (λ v. v * c.args.width) (sym e)

pub returns-clause-some : goal.returns-clause-some
returns-clause-some c =
    let e = child-room c.args.width c.args.levels.below c.args.levels.room (omega arith) c.requires.room in
    let some : 1 ≤ c.args.width ^ c.args.levels.below = one-le-pow c.args.levels.below c.args.width (omega arith) in
    subst (λ v. 0 < v) (sym e) (omega arith)
