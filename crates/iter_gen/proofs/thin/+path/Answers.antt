use Rattle.std.proofs.Common.{◌≡◌, ◌≤◌, ◌<◌, ◌+◌, ◌-◌, length, take, drop, Some, subst, arith}
use Rattle.std.proofs.lemmas.Grind.{common_steps}
use Rattle.iter_gen.specs.Trials.{Grows}
use Rattle.iter_gen.proofs.ThinLemmas.{grows-none, grows-deeper, grows-ends, parts-whole, length-before, length-one, length-behind}
use Rattle.iter_gen.proofs.thin.+path.Goals as goal

pub returns-then-is_empty-clause-path : goal.returns-then-is_empty-clause-path
returns-then-is_empty-clause-path g t c = λ s thin.
    grows-none s c.args.kind c.args.arena.now c.args.elems.now (length c.args.elems.now) (grind (arith, common_steps))

pub returns-clause-path : goal.returns-clause-path
returns-clause-path g t c = λ s thin.
    let es = c.args.elems.now in
    let k = c.args.kind in
    let a = c.args.arena.now in
    let b = c.make.new.self in
    let lower = c.before_of-lower.result in
    let within : lower < length es = c.before_of-lower.ensures.within in
    let xs = take lower es in
    let run = take (lower + 1 - lower) (drop lower es) in
    let ys = take (length es - (lower + 1)) (drop (lower + 1) es) in
    let nx : length xs ≡ lower = length-before es lower within in
    let ny : length ys ≡ length es - (lower + 1) = length-behind es lower within in
    let deep = length es - 1 in
    let before = grows-deeper s k a c.path-before.new.arena xs (length xs) deep c.path-before.result (omega (arith, nx, within))
    (c.path-before.ensures.path s thin) in
    let after = grows-deeper s k c.path-before.new.arena c.path-after.new.arena ys (length ys) deep c.path-after.result (omega (arith, ny, within))
    (c.path-after.ensures.path s thin) in
    grows-deeper s k a b es (1 + deep) (length es) (Some c.make.result) (omega (arith, within))
    (subst (λ w. Grows s k a b w (1 + deep) (Some c.make.result)) (parts-whole es lower within)
    (grows-ends s k a b c.make.result run (length-one es lower within) k k c.path-before.new.arena c.path-after.new.arena xs ys deep
    c.path-before.result c.path-after.result thin before after c.make.ensures.is_new c.make.ensures.node))
