use Rattle.std.proofs.Common.{◌≡◌, ◌<◌, ◌≤◌, ◌+◌, ◌-◌, ◌*◌, length, drop, refl, ap, sym, subst, arith}
use Rattle.node_arena.specs.declared.kinds.NodeKind.{NodeKind}
use Rattle.node_arena.specs.declared.kinds.Shape.TheVariants.{Post}
use Rattle.node_arena.specs.Kinds.{kind_at}
use Rattle.bulk_build.proofs.RangesLemmas.{drop-end}
use Rattle.bulk_build.proofs.JoinsLemmas.{builds-none, chain-more}
use Rattle.bulk_build.proofs.LevelsLemmas.{below_of_product, one_more}
use Rattle.bulk_build.proofs.FillsLemmas.{links-of, hi-some}
use Rattle.bulk_build.proofs.linked.chain.Goals as goal

pub back-init : goal.back-init
back-init g c =
    let s = c.args.kinds.now in
    let k = c.args.kind in
    let n = length c.args.elems.now in
    let spare = c.args.arena.now.nodes.spare in
    let p = c.parts_for-parts.result in
    let same : c.kind_of-hi.result.hi ≡ (kind_at s k).hi = ap (λ (v : NodeKind). v.hi) c.kind_of-hi.ensures.value in
    let hi = c.kind_of-hi.result.hi in
    let some : 1 ≤ (kind_at s k).hi = hi-some s k c.requires.sound in
    let enough : n ≤ spare * hi = subst (λ v. n ≤ spare * v) (sym same) c.requires.spare in
    let least : p * hi < n + hi = c.parts_for-parts.ensures.least in
    record {
      short = omega arith;
      fits = c.parts_for-parts.ensures.fits;
      least = least;
      built = builds-none s k c.args.arena.now (drop n c.args.elems.now) (drop-end c.args.elems.now n refl);
      spare = refl;
      enough = below_of_product p spare hi (omega arith) (omega arith);
      steps = refl;
    }

pub back-preserved : goal.back-preserved
back-preserved g c =
    let s = c.args.kinds.now in
    let k = c.args.kind in
    let i = c.back.invariant in
    let p = c.back.parts in
    let hi = c.kind_of-hi.result.hi in
    let same : hi ≡ (kind_at s k).hi = ap (λ (v : NodeKind). v.hi) c.kind_of-hi.ensures.value in
    let some : 1 ≤ (kind_at s k).hi = hi-some s k c.requires.sound in
    let e : p * hi ≡ (p - 1) * hi + hi = one_more p (p - 1) hi (omega (arith, c.back-test.true)) in
    let start = (p - 1) * hi in
    let least : start < c.back.left = omega (arith, i.least, e) in
    let few : c.back.left ≤ start + (kind_at s k).hi = omega (arith, i.fits, e, same) in
    let rules = links-of s k (Post k) c.requires.sound c.requires.chained in
    record {
      short = omega (arith, i.short, least);
      fits = omega arith;
      least = omega (arith, same, some);
      built = chain-more s k c.args.arena.now c.back.arena c.make.new.self c.args.elems.now start c.back.left c.make.result c.back.link
          rules.0 c.requires.chained least i.short few i.built c.make.ensures.is_new c.make.ensures.node;
      spare = omega (arith, i.spare, c.make.ensures.spare, c.back-test.true);
      enough = omega (arith, i.enough, c.make.ensures.spare, c.back-test.true);
      steps = omega (arith, i.steps, c.make.ensures.spare, c.make.ensures.steps);
    }
