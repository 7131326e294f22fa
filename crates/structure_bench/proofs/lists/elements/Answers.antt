use Rattle.std.proofs.Common.{◌≡◌, ◌++◌, [], ◌∷◌, length, ap, ◌∙◌, sym, subst, arith}
use Rattle.node_arena.specs.Conforming.{IsRising}
use Rattle.structure_bench.specs.Numbered.{numbered_from}
use Rattle.structure_bench.proofs.NumberedLemmas.{numbered, numbered-snoc, numbered-rising, numbered-length}
use Rattle.structure_bench.proofs.lists.elements.Goals as goal

pub loop-n-preserved : goal.loop-n-preserved
loop-n-preserved c =
    c.in_ok-push.ensures.items ∙ ap (λ v. v ++ numbered c.loop-n.n ∷ []) c.loop-n.invariant ∙ numbered-snoc c.loop-n.n

pub returns : goal.returns
returns c =
    let low = c.loop-n.auto.n-end in
    let high = c.loop-n-test.false in
    let n : c.loop-n.n ≡ c.args.count = omega arith in
    let e = c.loop-n.invariant ∙ ap (numbered_from 0) n in
    record {
      rising = subst IsRising (sym e) (numbered-rising 0 c.args.count);
      len = ap length e ∙ numbered-length 0 c.args.count;
    }
