use Rattle.std.proofs.Common.{◌≡◌, ◌<◌, ◌+◌, ◌-◌, ◌*◌, ◌/◌, suc, length, take, drop, ◌∙◌, ap, sym, subst, arith}
use Rattle.bulk_build.specs.Layouts.{Weaves}
use Rattle.iter_gen.specs.Trials.{thin_size}
use Rattle.iter_gen.proofs.ThinLemmas.{thin-leaf, thin-node, half-size, parts-whole, length-one}
use Rattle.iter_gen.proofs.thin.+woven.Goals as goal

pub returns-then-levels-eq0-clause-woven : goal.returns-then-levels-eq0-clause-woven
returns-then-levels-eq0-clause-woven g t c = λ s thin.
    let es = c.args.elems.now in
    let e : c.args.levels ≡ 0 = c.if-levels-eq0.true in
    subst (λ v. Weaves s c.args.kind v (2 * length es + 3) c.args.arena.now c.make.new.self es c.make.result) (sym e)
    (thin-leaf s c.args.kind thin c.args.arena.now c.make.new.self c.make.result es (c.requires.size ∙ ap thin_size e) c.make.ensures.is_new
    c.make.ensures.node)

pub returns-clause-woven : goal.returns-clause-woven
returns-clause-woven g t c = λ s thin.
    let es = c.args.elems.now in
    let k = c.args.kind in
    let half = length es / 2 in
    let below = c.args.levels - 1 in
    let size : length es ≡ thin_size below + 1 + thin_size below = c.requires.size ∙ half-size c.args.levels c.if-levels-eq0.false in
    let within : half < length es = omega arith in
    let run = take (half + 1 - half) (drop half es) in
    let levels : suc below ≡ c.args.levels = let z = c.if-levels-eq0.false in omega (arith, z) in
    subst (λ v. Weaves s k v (2 * length es + 3) c.args.arena.now c.make-2.new.self es c.make-2.result) levels
    (thin-node s k thin c.args.arena.now c.woven-first.new.arena c.woven-second.new.arena c.make-2.new.self below _ _ (2 * length es + 3) c.make-2.result
    c.woven-first.result c.woven-second.result (take half es) (take (length es - (half + 1)) (drop (half + 1) es)) es run (length-one es half within)
    (parts-whole es half within) (omega arith) (c.woven-first.ensures.woven s thin) (c.woven-second.ensures.woven s thin) c.make-2.ensures.is_new
    c.make-2.ensures.node)
