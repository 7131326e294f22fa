use Rattle.std.proofs.Common.{◌≡◌, ◌+◌, sym, ◌∙◌, arith}
use Rattle.node_arena.specs.Arenas.{node_at}
use Rattle.node_arena.specs.Kinds.{kind_at}
use Rattle.node_arena.specs.Trees.{Trees, stored}
use Rattle.chunk_tree.specs.Descents.{Chunks, Comes}
use Rattle.chunk_tree.specs.Ways.{Takes, next_on}
use Rattle.chunk_tree.proofs.Descending.{open-chunks, chunks-some, comes-first, comes-next, comes-few, finds}
use Rattle.chunk_tree.proofs.Options.{at_known}
use Rattle.chunk_tree.proofs.searching.find.Goals as goal

pub returns-in-None : goal.returns-in-None
returns-in-None c = record {
  finds = λ t h.
      let m = c.along.invariant.comes t h in
      let o = open-chunks c.args.kinds.now c.args.arena.now c.along.here m.tree c.requires.sound m.chunks in
      let n = stored m.chunks.kind m.chunks.run m.chunks.links in
      finds c.args.kinds.now c.args.arena.now c.args.elem.now c.along.here c.along.above t n c.requires.sound c.way_of-way.result m o.stands.0
      (at_known (node_at c.args.arena.now c.along.here) (λ n. Takes (kind_at c.args.kinds.now n.kind).hi c.args.elem.now.at n c.way_of-way.result) n
      o.stands.0 c.way_of-way.ensures.way)
      (sym (at_known (node_at c.args.arena.now c.along.here) (λ n. c.next_on.result ≡ next_on c.args.kinds.now n c.way_of-way.result) n o.stands.0
      c.next_on.ensures.value) ∙ c.in-None.is);
  few = c.along.invariant.few;
}

pub along-init : goal.along-init
along-init c =
    let h = c.requires.tree.1 in
    record {
      there = chunks-some c.args.kinds.now c.args.arena.now c.args.node c.requires.tree.0 h;
      few = omega arith;
      comes = λ t g. comes-first c.args.kinds.now c.args.arena.now c.args.elem.now c.args.node t g;
    }

pub along-preserved : goal.along-preserved
along-preserved c =
    let next : (t : Trees) → Chunks c.args.kinds.now c.args.arena.now c.args.node t
    → Comes c.args.kinds.now c.args.arena.now c.args.elem.now c.in-Some.next (c.along.above + 1) t = λ t g.
    let m = c.along.invariant.comes t g in
    let o = open-chunks c.args.kinds.now c.args.arena.now c.along.here m.tree c.requires.sound m.chunks in
    let n = stored m.chunks.kind m.chunks.run m.chunks.links in
    comes-next c.args.kinds.now c.args.arena.now c.args.elem.now c.along.here c.along.above t n c.requires.sound c.way_of-way.result c.in-Some.next m
    o.stands.0
    (at_known (node_at c.args.arena.now c.along.here) (λ n. Takes (kind_at c.args.kinds.now n.kind).hi c.args.elem.now.at n c.way_of-way.result) n
    o.stands.0 c.way_of-way.ensures.way)
    (sym (at_known (node_at c.args.arena.now c.along.here) (λ n. c.next_on.result ≡ next_on c.args.kinds.now n c.way_of-way.result) n o.stands.0
    c.next_on.ensures.value) ∙ c.in-Some.is) in
    let t = c.requires.tree.0 in
    let g = c.requires.tree.1 in
    record {
      there = chunks-some c.args.kinds.now c.args.arena.now c.in-Some.next (next t g).tree (next t g).chunks;
      few = comes-few c.args.kinds.now c.args.arena.now c.args.elem.now c.in-Some.next (c.along.above + 1) t c.requires.sound g.conforms.low (next t g);
      comes = next;
    }
