use Rattle.std.proofs.Common.{◌+◌, ap}
use Rattle.node_arena.specs.declared.elements.Top.TheVariants as tops
use Rattle.chunk_tree.proofs.TrialLemmas.{grown-next}
use Rattle.chunk_tree.proofs.tests.next.Goals as goal

pub returns : goal.returns
returns g c = record {
  grown = grown-next c.args.kinds.now c.args.arena.now c.args.top c.args.free.now c.args.more c.args.root c.requires.kind c.requires.grown c.requires.root
      c.insert-step.new.arena _ c.elem.result c.args.at c.insert-step.result c.args.steps.now c.insert-step.new.steps c.elem.ensures.at c.requires.free
      c.requires.within c.requires.more c.requires.low c.insert-step.ensures.left c.insert-step.ensures.runs
      c.insert-step.ensures.most c.insert-step.ensures.spare
      (ap (λ n. record { top = tops.Node c.args.root; len = c.args.top.len + 1; spine = n }) c.spine_after.ensures.value);
}
