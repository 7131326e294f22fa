use Rattle.std.proofs.Common.{◌≤◌, sym, subst, arith}
use Rattle.node_arena.specs.Kinds.{kind_at}
use Rattle.insert_gen.proofs.PassingLemmas.{CanPutAt-begun, CanTake-begun, HasSpareForAll-begun, PutsBelow-begun, spare-begun}
use Rattle.insert_gen.proofs.passing.+put_all.Goals as goal

pub put_all-requires : goal.put_all-requires
put_all-requires g t c κs within =
    let s = c.args.kinds.now in
    let k = c.args.kind in
    let a = c.args.arena.now in
    let b = c.insert_below-root.new.arena in
    let is = c.in-Some.ensures.cases.0 in
    let count = c.in-Some.ensures.cases.1 in
    let q = c.requires.tree in
    let can = CanPutAt-begun s k a c.args.link q.0 c.args.elems.now c.in-Some.first.now c.in-Some.rest.now is c.requires.woven q.1 in
    let p = c.insert_below-root.ensures.puts q.0 can in
    let falls = c.insert_below-root.ensures.spare q.0 can in
    let most = c.insert_below-root.ensures.most in
    let d = c.decreases in (
      omega (arith, d, count),
      (
        within,
        (
          c.requires.sound,
          (
            c.requires.woven,
            (
              (λ n. subst (λ v. (kind_at s n).hi ≤ v) (sym most) (c.requires.serves n)),
              (
                p.tree,
                CanTake-begun s k a c.args.link q.0 c.args.elems.now c.in-Some.first.now c.in-Some.rest.now is c.requires.woven q.1 b
                    c.insert_below-root.result p falls,
                HasSpareForAll-begun s k a c.args.link q.0 c.args.elems.now c.in-Some.first.now c.in-Some.rest.now is c.requires.woven q.1 b
                    c.insert_below-root.result p falls q.2,
              ),
            ),
          ),
        ),
      ),
    )

pub returns-in-Some-clause-puts : goal.returns-in-Some-clause-puts
returns-in-Some-clause-puts g t c = λ u take.
    let s = c.args.kinds.now in
    let k = c.args.kind in
    let a = c.args.arena.now in
    let b = c.insert_below-root.new.arena in
    let is = c.in-Some.ensures.cases.0 in
    let can = CanPutAt-begun s k a c.args.link u c.args.elems.now c.in-Some.first.now c.in-Some.rest.now is c.requires.woven take in
    let p = c.insert_below-root.ensures.puts u can in
    let falls = c.insert_below-root.ensures.spare u can in
    PutsBelow-begun s k a c.args.link u c.args.elems.now c.in-Some.first.now c.in-Some.rest.now is c.requires.woven take b c.insert_below-root.result p
    falls c.put_all.new.arena c.put_all.result
    (c.put_all.ensures.puts p.tree (CanTake-begun s k a c.args.link u c.args.elems.now c.in-Some.first.now c.in-Some.rest.now is c.requires.woven take b
    c.insert_below-root.result p falls))

pub returns-in-Some-clause-spare : goal.returns-in-Some-clause-spare
returns-in-Some-clause-spare g t c = λ u take d l.
    let s = c.args.kinds.now in
    let k = c.args.kind in
    let a = c.args.arena.now in
    let b = c.insert_below-root.new.arena in
    let is = c.in-Some.ensures.cases.0 in
    let can = CanPutAt-begun s k a c.args.link u c.args.elems.now c.in-Some.first.now c.in-Some.rest.now is c.requires.woven take in
    let p = c.insert_below-root.ensures.puts u can in
    let falls = c.insert_below-root.ensures.spare u can in
    spare-begun s k a c.args.link u c.args.elems.now c.in-Some.first.now c.in-Some.rest.now is c.requires.woven take b c.insert_below-root.result p falls d
    c.put_all.new.arena.nodes.spare l
    (c.put_all.ensures.spare p.tree (CanTake-begun s k a c.args.link u c.args.elems.now c.in-Some.first.now c.in-Some.rest.now is c.requires.woven take b
    c.insert_below-root.result p falls) d)
