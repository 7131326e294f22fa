use Rattle.std.proofs.Common.{◌≡◌, ◌<◌, ◌+◌, ◌-◌, ◌*◌, length, take, drop, Some, subst}
use Rattle.iter_gen.specs.Trials.{Grows}
use Rattle.iter_gen.proofs.ThinLemmas.{grows-ends, grows-woven, parts-whole, length-one}
use Rattle.iter_gen.proofs.thin.between.Goals as goal

pub returns-clause-between : goal.returns-clause-between
returns-clause-between g c = λ s thin0 thin1 thin2.
    let es = c.args.elems.now in
    let size = c.args.size in
    let within : size < length es = c.requires.more in
    let xs = take size es in
    let run = take (size + 1 - size) (drop size es) in
    let ys = take (length es - (size + 1)) (drop (size + 1) es) in
    subst (λ w. Grows s 0 c.args.arena.now c.make.new.self w 1 (Some c.make.result)) (parts-whole es size within)
    (grows-ends s 0 c.args.arena.now c.make.new.self c.make.result run (length-one es size within) 1 2 c.woven-first.new.arena c.chain-rest.new.arena
    xs ys 0 (Some c.woven-first.result) c.chain-rest.result thin0
    (grows-woven s 1 thin1 c.args.arena.now c.woven-first.new.arena c.args.levels (2 * length xs + 3) c.woven-first.result xs 0
    (c.woven-first.ensures.woven s thin1))
    (c.chain-rest.ensures.chain s thin2) c.make.ensures.is_new c.make.ensures.node)
