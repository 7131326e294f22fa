use Rattle.std.proofs.Common.{◌≡◌, ◌<◌, ◌≤◌, ◌+◌, ◌-◌, ◌*◌, ◌/◌, arith}
use Rattle.bulk_build.proofs.LevelsLemmas.{one_more, two_parts, half_full, few_parts, many_parts}
use Rattle.bulk_build.proofs.levels.later_children.Goals as goal

pub returns : goal.returns
returns c =
    let p = c.parts_for.result in
    let r = c.args.room in
    let g = c.args.gaps in
    let w = c.args.width in
    let l = (r + 1) / 2 in
    let some : 1 ≤ r = omega (arith, c.requires.some) in
    let fits : g ≤ p * r = c.parts_for.ensures.fits in
    let least : p * r < g + r = c.parts_for.ensures.least in
    let two : 2 ≤ p = two_parts p r g c.requires.needed fits in
    let few : p ≤ w = few_parts p r g w some least c.requires.fits in
    let a : p * r ≡ (p - 1) * r + r = one_more p (p - 1) r (omega arith) in
    let b : p * l ≡ (p - 1) * l + l = one_more p (p - 1) l (omega arith) in
    let h : p * l ≤ g = half_full p r g l two least some (omega arith) in
    record {
      some = omega (arith, two);
      few = omega (arith, two, few);
      fits = omega (arith, fits, a);
      half = omega (arith, h, b);
      most = λ m. let n : w ≤ 2 * p = many_parts p r g w some fits m in omega (arith, n, two);
    }
