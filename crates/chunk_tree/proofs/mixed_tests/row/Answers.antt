use Rattle.std.proofs.Common.{◌≡◌, ◌+◌, ◌-◌, refl, ◌∙◌, arith, subst, sym}
use Rattle.node_arena.specs.declared.elements.Top.TheVariants as tops
use Rattle.node_arena.specs.Structures.{Tree, IsStructure}
use Rattle.chunk_tree.specs.RowTrials.{IsRow}
use Rattle.chunk_tree.proofs.RowTrialLemmas.{row-none, row-more, row-holds}
use Rattle.chunk_tree.proofs.mixed_tests.row.Goals as goal

pub back-init : goal.back-init
back-init g c = record {
  some = c.requires.some;
  few = omega arith;
  row = λ s h. row-none s c.args.chained h c.args.arena.now c.args.count;
  spare = c.requires.spare;
  most = refl;
}

pub back-preserved : goal.back-preserved
back-preserved g c =
    let i = c.back.invariant in
    let last : c.back.from - 1 + 1 ≡ c.back.from = omega (arith, c.back-test.true) in
    record {
      some = omega (arith, c.back-test.true);
      few = omega (arith, i.few);
      row = λ s h.
          row-more s c.args.chained h 1 c.back.arena c.make.new.self c.back.behind (c.back.from - 1) c.back.from c.args.count c.make.result c.elem.result
          h.rest (i.row s h) last (c.elem.ensures.at ∙ c.from.ensures) c.make.ensures.is_new c.make.ensures.node;
      spare = omega (arith, i.spare, c.make.ensures.spare);
      most = c.make.ensures.node.node.most ∙ i.most;
    }

pub returns-clause-holds : goal.returns-clause-holds
returns-clause-holds g c = λ s h.
    let i = c.back.invariant in
    let one : c.back.from ≡ 1 = omega (arith, c.back-test.false, i.some) in
    subst (λ n. (t : Tree) × IsStructure s 0 c.head-root.new.arena (record { top = tops.Node c.head-root.result; len = n; spine = c.args.count }) t)
    (sym c.from-2.ensures)
    (row-holds s c.args.chained c.head-root.new.arena c.head-root.result c.args.count h
    (c.head-root.ensures.row s c.args.count h (subst (λ n. IsRow s 1 c.back.arena c.back.behind n c.args.count) one (i.row s h))) c.requires.low)
