use Rattle.std.proofs.Common.{◌≡◌, ◌<◌, ◌≤◌, ◌+◌, ◌-◌, ◌*◌, length, take, drop, ap, sym, subst, arith}
use Rattle.std.proofs.lemmas.List.{length-take-le}
use Rattle.std.proofs.lemmas.Grind.{common_steps}
use Rattle.node_arena.specs.declared.kinds.NodeKind.{NodeKind}
use Rattle.node_arena.specs.declared.kinds.Shape.TheVariants.{Ends}
use Rattle.node_arena.specs.Kinds.{kind_at}
use Rattle.bulk_build.proofs.RangesLemmas.{length-part}
use Rattle.bulk_build.proofs.JoinsLemmas.{builds-none, middle-more}
use Rattle.bulk_build.proofs.LevelsLemmas.{pairs_before, pairs_make, pairs_used}
use Rattle.bulk_build.proofs.FillsLemmas.{links-of, hi-some}
use Rattle.bulk_build.proofs.linked.+paired.Goals as goal

pub returns-then-is_empty-clause-built : goal.returns-then-is_empty-clause-built
returns-then-is_empty-clause-built g t c = builds-none c.args.kinds.now c.args.kind c.args.arena.now c.args.elems.now (grind (arith, common_steps))

pub paired-after-requires : goal.paired-after-requires
paired-after-requires g t c κs within =
    let s = c.args.kinds.now in
    let k = c.args.kind in
    let n = length c.args.elems.now in
    let f = (kind_at s k).hi in
    let lower = c.middle_of-lower.result.0 in
    let upper = c.middle_of-lower.result.1 in
    let mid = c.middle_of-lower.ensures in
    let same : c.kind_of-hi.result.hi ≡ f = ap (λ (v : NodeKind). v.hi) c.kind_of-hi.ensures.value in
    let some : 1 ≤ f = hi-some s k c.requires.sound in
    let whole : lower ≡ mid.whole.0 * f = subst (λ v. lower ≡ mid.whole.0 * v) same mid.whole.1 in
    let first : length (take lower c.args.elems.now) ≡ lower = length-take-le lower c.args.elems.now (omega (arith, mid.some, mid.within)) in
    let rest : length (take (n - upper) (drop upper c.args.elems.now)) ≡ n - upper =
    length-part c.args.elems.now upper n (omega arith) (omega arith) in
    let used : c.args.arena.now.nodes.spare * f < c.paired-before.new.arena.nodes.spare * f + lower + f =
    subst (λ v. c.args.arena.now.nodes.spare * f < c.paired-before.new.arena.nodes.spare * f + v + f) first c.paired-before.ensures.used in
    let took : c.args.arena.now.nodes.spare * f ≤ c.paired-before.new.arena.nodes.spare * f + mid.whole.0 * f =
    pairs_before c.args.arena.now.nodes.spare c.paired-before.new.arena.nodes.spare mid.whole.0 f lower some whole used in
    let d : n ≡ t = c.decreases in
    let most = c.paired-before.ensures.built.adds.most in (
      omega (arith, rest, d, mid.some, mid.within),
      (
        within,
        (
          c.requires.declared,
          (
            c.requires.sound,
            (
              c.requires.paired,
              (
                (λ j. subst (λ v. (kind_at s j).hi ≤ v) (sym most) (c.requires.serves j)),
                (
                  omega (arith, rest, c.requires.few),
                  omega (arith, rest, took, whole, same, c.requires.spare, mid.some, mid.within, mid.full),
                ),
              ),
            ),
          ),
        ),
      ),
    )

pub make-requires-clause-spare : goal.make-requires-clause-spare
make-requires-clause-spare g t c =
    let s = c.args.kinds.now in
    let k = c.args.kind in
    let n = length c.args.elems.now in
    let f = (kind_at s k).hi in
    let lower = c.middle_of-lower.result.0 in
    let upper = c.middle_of-lower.result.1 in
    let mid = c.middle_of-lower.ensures in
    let same : c.kind_of-hi.result.hi ≡ f = ap (λ (v : NodeKind). v.hi) c.kind_of-hi.ensures.value in
    let some : 1 ≤ f = hi-some s k c.requires.sound in
    let whole : lower ≡ mid.whole.0 * f = subst (λ v. lower ≡ mid.whole.0 * v) same mid.whole.1 in
    let first : length (take lower c.args.elems.now) ≡ lower = length-take-le lower c.args.elems.now (omega (arith, mid.some, mid.within)) in
    let rest : length (take (n - upper) (drop upper c.args.elems.now)) ≡ n - upper =
    length-part c.args.elems.now upper n (omega arith) (omega arith) in
    let used : c.args.arena.now.nodes.spare * f < c.paired-before.new.arena.nodes.spare * f + lower + f =
    subst (λ v. c.args.arena.now.nodes.spare * f < c.paired-before.new.arena.nodes.spare * f + v + f) first c.paired-before.ensures.used in
    let used2 : c.paired-before.new.arena.nodes.spare * f < c.paired-after.new.arena.nodes.spare * f + (n - upper) + f =
    subst (λ v. c.paired-before.new.arena.nodes.spare * f < c.paired-after.new.arena.nodes.spare * f + v + f) rest c.paired-after.ensures.used in
    let took = pairs_before c.args.arena.now.nodes.spare c.paired-before.new.arena.nodes.spare mid.whole.0 f lower some whole used in
    pairs_make c.args.arena.now.nodes.spare c.paired-before.new.arena.nodes.spare c.paired-after.new.arena.nodes.spare mid.whole.0 f n lower upper
    some whole c.requires.spare took mid.some mid.within (λ l. let e = mid.full l in omega (arith, e, same)) used2

pub returns-clause-built : goal.returns-clause-built
returns-clause-built g t c =
    let s = c.args.kinds.now in
    let k = c.args.kind in
    let mid = c.middle_of-lower.ensures in
    let same : c.kind_of-hi.result.hi ≡ (kind_at s k).hi = ap (λ (v : NodeKind). v.hi) c.kind_of-hi.ensures.value in
    let rules = links-of s k (Ends k k) c.requires.sound c.requires.paired in
    let fits : c.middle_of-lower.result.1 ≤ c.middle_of-lower.result.0 + (kind_at s k).hi = omega (arith, mid.fits, same) in
    middle-more s k k k c.args.arena.now c.paired-before.new.arena c.paired-after.new.arena c.make.new.self c.args.elems.now
    c.middle_of-lower.result.0 c.middle_of-lower.result.1 c.make.result c.paired-before.result c.paired-after.result
    rules.0 c.requires.paired mid.some mid.within fits mid.half_before mid.half_behind c.paired-before.ensures.built c.paired-after.ensures.built
    c.make.ensures.is_new c.make.ensures.node

pub returns-clause-used : goal.returns-clause-used
returns-clause-used g t c =
    let s = c.args.kinds.now in
    let k = c.args.kind in
    let n = length c.args.elems.now in
    let f = (kind_at s k).hi in
    let lower = c.middle_of-lower.result.0 in
    let upper = c.middle_of-lower.result.1 in
    let mid = c.middle_of-lower.ensures in
    let same : c.kind_of-hi.result.hi ≡ f = ap (λ (v : NodeKind). v.hi) c.kind_of-hi.ensures.value in
    let some : 1 ≤ f = hi-some s k c.requires.sound in
    let whole : lower ≡ mid.whole.0 * f = subst (λ v. lower ≡ mid.whole.0 * v) same mid.whole.1 in
    let first : length (take lower c.args.elems.now) ≡ lower = length-take-le lower c.args.elems.now (omega (arith, mid.some, mid.within)) in
    let rest : length (take (n - upper) (drop upper c.args.elems.now)) ≡ n - upper =
    length-part c.args.elems.now upper n (omega arith) (omega arith) in
    let used : c.args.arena.now.nodes.spare * f < c.paired-before.new.arena.nodes.spare * f + lower + f =
    subst (λ v. c.args.arena.now.nodes.spare * f < c.paired-before.new.arena.nodes.spare * f + v + f) first c.paired-before.ensures.used in
    let used2 : c.paired-before.new.arena.nodes.spare * f < c.paired-after.new.arena.nodes.spare * f + (n - upper) + f =
    subst (λ v. c.paired-before.new.arena.nodes.spare * f < c.paired-after.new.arena.nodes.spare * f + v + f) rest c.paired-after.ensures.used in
    let took = pairs_before c.args.arena.now.nodes.spare c.paired-before.new.arena.nodes.spare mid.whole.0 f lower some whole used in
    pairs_used c.args.arena.now.nodes.spare c.paired-before.new.arena.nodes.spare c.paired-after.new.arena.nodes.spare c.make.new.self.nodes.spare
    mid.whole.0 f n lower upper some whole took mid.some mid.within (λ l. let e = mid.full l in omega (arith, e, same)) used2
    (sym c.make.ensures.spare)
