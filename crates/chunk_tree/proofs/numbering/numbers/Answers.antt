use Rattle.std.proofs.Common.{◌≡◌, ◌<◌, ◌++◌, ◌∷◌, [], length, ap, ◌∙◌, sym, subst, arith, length-append}
use Rattle.chunk_tree.specs.Numbering.{present, Lists}
use Rattle.chunk_tree.proofs.Listing.{listed-none, listed-next, next-there, next-low, listed-end}
use Rattle.chunk_tree.proofs.numbering.numbers.Goals as goal

pub levels-init : goal.levels-init
levels-init c = record {
  within = omega arith;
  listed = λ t h.
      let e : c.push_link.new.ids.items ≡ present (c.args.root ∷ []) =
      c.in_ok-push_link.ensures.ok ∙ ap (λ l. l ++ present (c.args.root ∷ [])) c.in_ok-ids.ensures.items in
      subst (Lists c.args.arena.now t []) (sym e) (listed-none c.args.arena.now t c.args.root c.args.most h);
}

pub view-node-requires : goal.view-node-requires
view-node-requires c =
    let t = c.requires.tree.0 in
    let in_range : c.levels.seen < length c.levels.ids.items = omega (arith, c.levels-test.true, c.len.ensures) in
    record {
      there = next-there c.args.arena.now t c.levels.ids.items c.levels.seen c.index.result.now in_range c.index.ensures
          (c.levels.invariant.listed t c.requires.tree.1);
    }

pub levels-smaller : goal.levels-smaller
levels-smaller c =
    let t = c.requires.tree.0 in
    let in_range : c.levels.seen < length c.levels.ids.items = omega (arith, c.levels-test.true, c.len.ensures) in
    let low : c.levels.seen < c.args.most = next-low c.args.arena.now t c.levels.ids.items c.levels.seen c.args.most c.requires.tree.1.few in_range
    (c.levels.invariant.listed t c.requires.tree.1) in
    omega arith

pub levels-preserved : goal.levels-preserved
levels-preserved c =
    let in_range : c.levels.seen < length c.levels.ids.items = omega (arith, c.levels-test.true, c.len.ensures) in
    let more : c.push_links.new.ids.items ≡ c.levels.ids.items ++ present c.view-node.result.links = c.in_ok-push_links.ensures.ok in
    let longer : length c.push_links.new.ids.items ≡ length (c.levels.ids.items ++ present c.view-node.result.links) = ap length more in
    record {
      within = grind (arith, length-append, longer, in_range);
      listed = λ t h. listed-next c.args.arena.now t c.levels.ids.items c.push_links.new.ids.items c.levels.seen c.index.result.now
          c.view-node.result in_range c.index.ensures c.view-node.ensures.value more (c.levels.invariant.listed t h);
    }

pub returns : goal.returns
returns c = record {
  ok = λ t h. listed-end c.args.arena.now t c.levels.ids.items c.levels.seen (omega (arith, c.levels-test.false, c.len.ensures))
      (c.levels.invariant.listed t h);
}
