use Rattle.std.proofs.Common.{◌≡◌, ◌≤◌, ◌-◌, ◌++◌, length, take, drop, Some, ap, ◌∙◌, subst, arith}
use Rattle.std.proofs.lemmas.List.{take-append-drop, length-take-le}
use Rattle.std.proofs.lemmas.Grind.{common_steps}
use Rattle.bulk_build.proofs.RangesLemmas.{take-rest}
use Rattle.iter_gen.specs.Trials.{Grows}
use Rattle.iter_gen.proofs.ThinLemmas.{grows-none, grows-post}
use Rattle.iter_gen.proofs.thin.+chain.Goals as goal

pub returns-then-is_empty-clause-chain : goal.returns-then-is_empty-clause-chain
returns-then-is_empty-clause-chain g t c = λ s thin.
    grows-none s c.args.kind c.args.arena.now c.args.elems.now 0 (grind (arith, common_steps))

pub returns-clause-chain : goal.returns-clause-chain
returns-clause-chain g t c = λ s thin.
    let es = c.args.elems.now in
    let some : 1 ≤ length es = grind (arith, common_steps) in
    let whole_is : take 1 es ++ take (length es - 1) (drop 1 es) ≡ es = ap (λ w. take 1 es ++ w) (take-rest es 1) ∙ take-append-drop 1 es in
    subst (λ w. Grows s c.args.kind c.args.arena.now c.make.new.self w 0 (Some c.make.result)) whole_is
    (grows-post s c.args.kind c.args.arena.now c.make.new.self c.make.result (take 1 es) (length-take-le 1 es some) c.args.kind
    c.chain-rest.new.arena (take (length es - 1) (drop 1 es)) 0 c.chain-rest.result thin (c.chain-rest.ensures.chain s thin)
    c.make.ensures.is_new c.make.ensures.node)
