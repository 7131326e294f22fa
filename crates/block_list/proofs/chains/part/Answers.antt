use Rattle.std.proofs.Common.{◌≡◌, ◌≤◌, ◌+◌, ◌/◌, length, take, drop, List, ℕ, ap, ◌∙◌, sym, subst, arith}
use Rattle.block_list.proofs.Parting.{halves, halves-fit, part-pass, part-done, few-two, full-passes}
use Rattle.node_arena.proofs.ChangesLemmas.{DifferInFew-one, DifferInFew-wider}
use Rattle.node_arena.specs.Arenas.{node_at}
use Rattle.node_arena.specs.declared.elements.Elem.{Elem}
use Rattle.node_arena.specs.declared.elements.Step.TheVariants.{Done}
use Rattle.node_arena.specs.Passing.{wedge_depth}
use Rattle.node_arena.specs.Kinds.{shape_at}
use Rattle.block_list.proofs.chains.part.Goals as goal

-- one of the two slices, by the length and the elements of the run
half : (F : ℕ → List Elem → List Elem) (half slice run : List Elem) (len : ℕ) → half ≡ F ((len + 1) / 2) slice → len ≡ length run → slice ≡ run
    → half ≡ F ((length run + 1) / 2) run
half F h slice run len e l r = e ∙ ap (λ m. F ((m + 1) / 2) slice) l ∙ ap (F ((length run + 1) / 2)) r

pub put-requires-clause-run : goal.put-requires-clause-run
put-requires-clause-run g c =
    (halves-fit c.args.kinds.now c.args.arena.now c.args.elem c.requires.sound c.args.node c.requires.stands.0 c.requires.stands.1.0 c.requires.serves
    c.kind-kind.result c.post_kind-post.result c.link-link.result c.run_with-run.result.items c.split_at.result.0.now c.split_at.result.1.now
    (record {
      view = c.view-full.result;
      there = c.view-full.ensures.value;
      kind_is = c.kind-kind.ensures.value;
      post_is = c.post_kind-post.ensures.value;
      link_is =
          c.link-link.ensures.value;
      run_is = c.run_with-run.ensures.value;
      full = c.requires.full;
      lower_is = half take _ _ c.run_with-run.result.items c.len.result c.split_at.ensures.front c.len.ensures.value c.as_slice.ensures.value;
      upper_is = half drop _ _ c.run_with-run.result.items c.len.result c.split_at.ensures.back c.len.ensures.value c.as_slice.ensures.value;
    })).0

pub make_behind-rest-requires-clause-run : goal.make_behind-rest-requires-clause-run
make_behind-rest-requires-clause-run g c =
    (halves-fit c.args.kinds.now c.args.arena.now c.args.elem c.requires.sound c.args.node c.requires.stands.0 c.requires.stands.1.0 c.requires.serves
    c.kind-kind.result c.post_kind-post.result c.link-link.result c.run_with-run.result.items c.split_at.result.0.now c.split_at.result.1.now
    (record {
      view = c.view-full.result;
      there = c.view-full.ensures.value;
      kind_is = c.kind-kind.ensures.value;
      post_is = c.post_kind-post.ensures.value;
      link_is =
          c.link-link.ensures.value;
      run_is = c.run_with-run.ensures.value;
      full = c.requires.full;
      lower_is = half take _ _ c.run_with-run.result.items c.len.result c.split_at.ensures.front c.len.ensures.value c.as_slice.ensures.value;
      upper_is = half drop _ _ c.run_with-run.result.items c.len.result c.split_at.ensures.back c.len.ensures.value c.as_slice.ensures.value;
    })).1

pub put-requires-2-clause-run : goal.put-requires-2-clause-run
put-requires-2-clause-run g c =
    subst (λ most. length c.split_at.result.0.now ≤ most) (sym c.make_behind-rest.ensures.node.node.most)
    (halves-fit c.args.kinds.now c.args.arena.now c.args.elem c.requires.sound c.args.node c.requires.stands.0 c.requires.stands.1.0 c.requires.serves
    c.kind-kind.result c.post_kind-post.result c.link-link.result c.run_with-run.result.items c.split_at.result.0.now c.split_at.result.1.now
    (record {
      view = c.view-full.result;
      there = c.view-full.ensures.value;
      kind_is = c.kind-kind.ensures.value;
      post_is = c.post_kind-post.ensures.value;
      link_is =
          c.link-link.ensures.value;
      run_is = c.run_with-run.ensures.value;
      full = c.requires.full;
      lower_is = half take _ _ c.run_with-run.result.items c.len.result c.split_at.ensures.front c.len.ensures.value c.as_slice.ensures.value;
      upper_is = half drop _ _ c.run_with-run.result.items c.len.result c.split_at.ensures.back c.len.ensures.value c.as_slice.ensures.value;
    })).0

pub returns-then-is_woven-clause-left : goal.returns-then-is_woven-clause-left
returns-then-is_woven-clause-left g c = λ t f.
    part-pass c.args.kinds.now c.args.arena.now c.args.elem c.requires.sound c.args.node t f.0
    c.kind-kind.result c.post_kind-post.result c.link-link.result c.run_with-run.result.items c.split_at.result.0.now c.split_at.result.1.now
    (halves c.args.kinds.now c.args.arena.now c.args.elem c.requires.sound c.args.node t f.0
    c.kind-kind.result c.post_kind-post.result c.link-link.result c.run_with-run.result.items c.split_at.result.0.now c.split_at.result.1.now
    (record {
      view = c.view-full.result;
      there = c.view-full.ensures.value;
      kind_is = c.kind-kind.ensures.value;
      post_is = c.post_kind-post.ensures.value;
      link_is =
          c.link-link.ensures.value;
      run_is = c.run_with-run.ensures.value;
      full = c.requires.full;
      lower_is = half take _ _ c.run_with-run.result.items c.len.result c.split_at.ensures.front c.len.ensures.value c.as_slice.ensures.value;
      upper_is = half drop _ _ c.run_with-run.result.items c.len.result c.split_at.ensures.back c.len.ensures.value c.as_slice.ensures.value;
    }))
    f.1 c.put.new.self c.copied.result c.args.steps.now c.put.new.steps
    (c.is_woven.ensures.value.0 c.if-is_woven.true) c.put.ensures.node c.put.ensures.spare c.put.ensures.steps c.copied.ensures.items

pub returns-then-is_woven-clause-few : goal.returns-then-is_woven-clause-few
returns-then-is_woven-clause-few g c =
    DifferInFew-wider 1 2 c.args.arena.now c.put.new.self (omega arith) (DifferInFew-one c.args.arena.now c.put.new.self c.args.node _ c.put.ensures.node)

pub returns-clause-left : goal.returns-clause-left
returns-clause-left g c = λ t f.
    part-done c.args.kinds.now c.args.arena.now c.args.elem c.requires.sound c.args.node t f.0
    c.kind-kind.result c.post_kind-post.result c.link-link.result c.run_with-run.result.items c.split_at.result.0.now c.split_at.result.1.now
    (halves c.args.kinds.now c.args.arena.now c.args.elem c.requires.sound c.args.node t f.0
    c.kind-kind.result c.post_kind-post.result c.link-link.result c.run_with-run.result.items c.split_at.result.0.now c.split_at.result.1.now
    (record {
      view = c.view-full.result;
      there = c.view-full.ensures.value;
      kind_is = c.kind-kind.ensures.value;
      post_is = c.post_kind-post.ensures.value;
      link_is =
          c.link-link.ensures.value;
      run_is = c.run_with-run.ensures.value;
      full = c.requires.full;
      lower_is = half take _ _ c.run_with-run.result.items c.len.result c.split_at.ensures.front c.len.ensures.value c.as_slice.ensures.value;
      upper_is = half drop _ _ c.run_with-run.result.items c.len.result c.split_at.ensures.back c.len.ensures.value c.as_slice.ensures.value;
    }))
    f.1 c.make_behind-rest.new.arena c.put-2.new.self c.make_behind-rest.result c.args.steps.now c.put-2.new.steps
    (λ e. let f = c.is_woven.ensures.value.1 e in let g = c.if-is_woven.false in cc)
    c.make_behind-rest.ensures.is_new c.make_behind-rest.ensures.node c.put-2.ensures.node
    c.wedged.result (c.wedged.ensures.value ∙ ap (λ b. Done (wedge_depth (shape_at c.args.kinds.now c.post_kind-post.result) b 0)) c.is_some-behind.ensures)

pub returns-clause-few : goal.returns-clause-few
returns-clause-few g c = few-two c.args.arena.now c.make_behind-rest.new.arena c.put-2.new.self c.args.node c.make_behind-rest.result _ _
    c.make_behind-rest.ensures.node c.put-2.ensures.node

pub returns-then-is_woven-clause-passes : goal.returns-then-is_woven-clause-passes
returns-then-is_woven-clause-passes g c = full-passes c.args.kinds.now c.args.elem.at (node_at c.args.arena.now c.args.node) c.requires.full
