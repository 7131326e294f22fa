use Rattle.std.proofs.Common.{◌≡◌, length, sym, subst, ap, ◌∙◌, rules, arith}
use Rattle.node_arena.specs.Structures.{links_of, walk_of}
use Rattle.chunk_tree.specs.Numbering.{HangsAt, AreNumbersOf}
use Rattle.chunk_tree.proofs.Counting.{hangs-at}
use Rattle.chunk_tree.proofs.Renewed.{still-nodes, renewed}
use Rattle.chunk_tree.proofs.rebalancing.renew.Goals as goal

pub numbers-requires : goal.numbers-requires
numbers-requires g c =
    let s = c.args.kinds.now in
    let st = c.args.top.now in
    let t = c.requires.holds.0 in
    record {
      tree = (
        links_of t,
        subst (λ l. HangsAt c.args.arena.now l st.len (links_of t)) (sym c.root_at.ensures.value)
            (hangs-at s c.requires.sound c.args.kind c.args.arena.now st t c.requires.linked c.requires.holds.1),
      );
    }

pub free_all-requires : goal.free_all-requires
free_all-requires g c =
    let s = c.args.kinds.now in
    let a = c.args.arena.now in
    let st = c.args.top.now in
    let t = c.requires.holds.0 in
    let h = c.requires.holds.1 in
    let at = subst (λ l. HangsAt a l st.len (links_of t)) (sym c.root_at.ensures.value) (hangs-at s c.requires.sound c.args.kind a st t c.requires.linked h) in
    let n : AreNumbersOf a (links_of t) c.as_slice-2.result.now = subst (AreNumbersOf a (links_of t)) (sym c.as_slice-2.ensures.value)
    (c.in_ok-ids.ensures.ok (links_of t) at) in
    let same : c.as_slice.result.now ≡ walk_of s t = c.as_slice.ensures.value ∙ c.in_ok-elems.ensures.ok t h.stands in
    record {
      nodes = still-nodes s c.args.kind a c.build.new.arena c.as_slice.result.now st c.in_ok-new.new t c.requires.linked h same c.in_ok-new.ensures.ok
          c.as_slice-2.result.now n;
    }

pub returns-clause-ok : goal.returns-clause-ok
returns-clause-ok g c = λ t h.
    let s = c.args.kinds.now in
    let a = c.args.arena.now in
    let st = c.args.top.now in
    let at = subst (λ l. HangsAt a l st.len (links_of t)) (sym c.root_at.ensures.value) (hangs-at s c.requires.sound c.args.kind a st t c.requires.linked h) in
    let n : AreNumbersOf a (links_of t) c.as_slice-2.result.now = subst (AreNumbersOf a (links_of t)) (sym c.as_slice-2.ensures.value)
    (c.in_ok-ids.ensures.ok (links_of t) at) in
    let same : c.as_slice.result.now ≡ walk_of s t = c.as_slice.ensures.value ∙ c.in_ok-elems.ensures.ok t h.stands in
    renewed s c.args.kind a c.build.new.arena c.as_slice.result.now st c.in_ok-new.new t c.requires.linked h same c.in_ok-new.ensures.ok
    c.as_slice-2.result.now n c.free_all.new.arena c.free_all.ensures.gone c.free_all.ensures.others c.free_all.ensures.runs
    (c.build.ensures.runs c.requires.linked) (search rules)

pub returns-clause-freed : goal.returns-clause-freed
returns-clause-freed g c = λ t h numbered.
    let s = c.args.kinds.now in
    let a = c.args.arena.now in
    let st = c.args.top.now in
    let at = subst (λ l. HangsAt a l st.len (links_of t)) (sym c.root_at.ensures.value) (hangs-at s c.requires.sound c.args.kind a st t c.requires.linked h) in
    let n : AreNumbersOf a (links_of t) c.as_slice-2.result.now = subst (AreNumbersOf a (links_of t)) (sym c.as_slice-2.ensures.value)
    (c.in_ok-ids.ensures.ok (links_of t) at) in
    let len : length c.as_slice.result.now ≡ st.len = ap length (c.as_slice.ensures.value ∙ c.in_ok-elems.ensures.ok t h.stands) ∙ h.stands.counted in
    let free = c.free_all.ensures.spare (omega (arith, numbered.0, c.free_all.ensures.places)) in
    omega (arith, free, n.counted, c.in_ok-new.ensures.spent.nodes, len)
