use Rattle.std.proofs.Common.{◌≡◌, length, take, drop, subst, sym, ap, ◌∙◌, arith, rules}
use Rattle.node_arena.specs.Arenas.{node_at}
use Rattle.chunk_tree.specs.Writes.{IsParted}
use Rattle.chunk_tree.proofs.Options.{unknown}
use Rattle.chunk_tree.proofs.Parts.{halves-read}
use Rattle.chunk_tree.proofs.parting.parted.Goals as goal

pub split_at-requires : goal.split_at-requires
split_at-requires c =
    let h = halves-read c.args.kinds.now c.args.elem c.args.arena.now c.args.here c.view-full.result c.kind.result c.kept-keep.result
    c.run_with-run.result.items c.view-full.ensures.value c.requires.there c.requires.full c.run_with-run.ensures.value c.kind.ensures.value
    c.kept-keep.ensures.value in
    let same : length c.as_slice.result.now ≡ length c.run_with-run.result.items = ap length c.as_slice.ensures.value in
    omega (arith, h.within)

pub copied-requires : goal.copied-requires
copied-requires c =
    let h = halves-read c.args.kinds.now c.args.elem c.args.arena.now c.args.here c.view-full.result c.kind.result c.kept-keep.result
    c.run_with-run.result.items c.view-full.ensures.value c.requires.there c.requires.full c.run_with-run.ensures.value c.kind.ensures.value
    c.kept-keep.ensures.value in
    let same : length c.split_at.result.0.now ≡ length (take c.kept-keep.result c.run_with-run.result.items) =
    ap length (c.split_at.ensures.front ∙ ap (take c.kept-keep.result) c.as_slice.ensures.value) in
    (search rules, omega (arith, h.lower_few))

pub copied-requires-2 : goal.copied-requires-2
copied-requires-2 c =
    let h = halves-read c.args.kinds.now c.args.elem c.args.arena.now c.args.here c.view-full.result c.kind.result c.kept-keep.result
    c.run_with-run.result.items c.view-full.ensures.value c.requires.there c.requires.full c.run_with-run.ensures.value c.kind.ensures.value
    c.kept-keep.ensures.value in
    let same : length c.split_at.result.1.now ≡ length (drop c.kept-keep.result c.run_with-run.result.items) =
    ap length (c.split_at.ensures.back ∙ ap (drop c.kept-keep.result) c.as_slice.ensures.value) in
    (search rules, omega (arith, h.upper_few))

pub returns : goal.returns
returns c =
    let n = c.view-full.result in
    let h = halves-read c.args.kinds.now c.args.elem c.args.arena.now c.args.here n c.kind.result c.kept-keep.result
    c.run_with-run.result.items c.view-full.ensures.value c.requires.there c.requires.full c.run_with-run.ensures.value c.kind.ensures.value
    c.kept-keep.ensures.value in
    let lower : c.copied.result.items ≡ take c.kept-keep.result c.run_with-run.result.items =
    c.copied.ensures.items ∙ c.split_at.ensures.front ∙ ap (take c.kept-keep.result) c.as_slice.ensures.value in
    let upper : c.copied-2.result.items ≡ drop c.kept-keep.result c.run_with-run.result.items =
    c.copied-2.ensures.items ∙ c.split_at.ensures.back ∙ ap (drop c.kept-keep.result) c.as_slice.ensures.value in
    let len1 = ap length lower in
    let len2 = ap length upper in
    record {
      parts = unknown (node_at c.args.arena.now c.args.here) _ n c.view-full.ensures.value
          (subst (λ v. IsParted c.args.kinds.now c.args.elem n v c.copied-2.result.items) (sym lower)
          (subst (IsParted c.args.kinds.now c.args.elem n (take c.kept-keep.result c.run_with-run.result.items)) (sym upper) h.parts));
      few = (omega (arith, h.lower_most), omega (arith, h.upper_most));
    }
