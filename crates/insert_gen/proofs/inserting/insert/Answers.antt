use Rattle.std.proofs.Common.{◌≡◌, ap, ◌∙◌, sym, subst, arith}
use Rattle.node_arena.specs.declared.kinds.Shape.TheVariants.{Woven}
use Rattle.node_arena.specs.Kinds.{kinds_of, root_of, shape_at}
use Rattle.insert_gen.specs.Needs.{WantsNodes}
use Rattle.insert_gen.proofs.TopLemmas.{woven-wanted, spare-woven}
use Rattle.insert_gen.proofs.inserting.insert.Goals as goal

pub insert-requires-clause-spare : goal.insert-requires-clause-spare
insert-requires-clause-spare g c =
    let q = c.requires.spare in
    let s = kinds_of c.args.code.now in
    let k = root_of c.args.code.now in
    let here : shape_at s k ≡ Woven = sym (ap (λ v. shape_at v c.root-root.result) c.kinds-kinds.ensures.value ∙ ap (shape_at s) c.root-root.ensures.value)
    ∙ ap (λ v. v.shape) (sym c.kind_of.ensures.value) ∙ c.in-Woven.is in
    woven-wanted s k c.args.top.len q.0.nodes c.args.arena.now.nodes.spare here q.1.nodes q.2

pub put_in_nodes-requires-clause-spare : goal.put_in_nodes-requires-clause-spare
put_in_nodes-requires-clause-spare g c =
    let q = c.requires.spare in
    let s = kinds_of c.args.code.now in
    let at_root = subst (λ v. WantsNodes s v c.args.top.len q.0.nodes) (sym c.root-root.ensures.value) q.1.nodes in (
      q.0.nodes,
      subst (λ v. WantsNodes v c.root-root.result c.args.top.len q.0.nodes) (sym c.kinds-kinds.ensures.value) at_root,
      q.2,
    )

pub returns-in-Woven-clause-spare : goal.returns-in-Woven-clause-spare
returns-in-Woven-clause-spare g c = λ n w.
    let s = kinds_of c.args.code.now in
    let k = root_of c.args.code.now in
    let here : shape_at s k ≡ Woven = sym (ap (λ v. shape_at v c.root-root.result) c.kinds-kinds.ensures.value ∙ ap (shape_at s) c.root-root.ensures.value)
    ∙ ap (λ v. v.shape) (sym c.kind_of.ensures.value) ∙ c.in-Woven.is in
    let same = ap (λ r. r.spare) c.insert.ensures.runs in (
      spare-woven s k c.args.top.len n.nodes c.args.arena.now.nodes.spare c.insert.new.arena.nodes.spare here c.insert.ensures.spare w.nodes,
      omega (arith, same),
    )

pub returns-in_default-clause-spare : goal.returns-in_default-clause-spare
returns-in_default-clause-spare g c = λ n w.
    let s = kinds_of c.args.code.now in
    let at_root = subst (λ v. WantsNodes s v c.args.top.len n.nodes) (sym c.root-root.ensures.value) w.nodes in
    let wants = subst (λ v. WantsNodes v c.root-root.result c.args.top.len n.nodes) (sym c.kinds-kinds.ensures.value) at_root in
    let same = ap (λ r. r.spare) c.put_in_nodes.ensures.runs in
    (c.put_in_nodes.ensures.spare n.nodes wants, omega (arith, same))
