use Rattle.std.proofs.Common.{◌≡◌, ◌≢◌, ◌<◌, ◌∷◌, [], IsSome, sym, subst, ◌∙◌, arith, refl}
use Rattle.node_arena.specs.Passing.{CanPutIn}
use Rattle.node_arena.specs.Trees.{done, absent, node}
use Rattle.chunk_tree.specs.Trials.{mixed_kinds}
use Rattle.chunk_tree.proofs.TrialLemmas.{can-put-alone, mixed-sound}
use Rattle.chunk_tree.proofs.tests.passed.Goals as goal

pub insert-requires-clause-tree : goal.insert-requires-clause-tree
insert-requires-clause-tree g c =
    let run = c.elem.result ∷ c.elem-2.result ∷ [] in
    let e1 : c.elem.result.at ≡ 5 = c.elem.ensures.at in
    let e2 : c.elem-2.result.at ≡ 9 = c.elem-2.ensures.at in
    let e3 : c.elem-3.result.at ≡ c.args.at = c.elem-3.ensures.at in
    let low : c.elem.result.at < c.elem-2.result.at = omega arith in
    let isnt_5 : c.elem.result.at ≢ c.elem-3.result.at = λ z. c.requires.isnt_5 (sym e3 ∙ sym z ∙ e1) in
    let isnt_9 : c.elem-2.result.at ≢ c.elem-3.result.at = λ z. c.requires.isnt_9 (sym e3 ∙ sym z ∙ e2) in (
      node c.make-root.result 0 run (absent (absent done)) done,
      subst (λ s. CanPutIn s c.make-root.new.self c.elem-3.result c.make-root.result (node c.make-root.result 0 run (absent (absent done)) done))
          (sym c.mixed-kinds.ensures.kinds)
          (can-put-alone mixed_kinds c.make-root.new.self c.elem-3.result c.make-root.result 1 2 run mixed-sound refl (omega arith) (omega arith) (low, tt)
          (isnt_5, (isnt_9, tt)) c.make-root.ensures.node.node.changed),
    )

pub write_run-requires : goal.write_run-requires
write_run-requires g c =
    let run = c.elem.result ∷ c.elem-2.result ∷ [] in
    let e1 : c.elem.result.at ≡ 5 = c.elem.ensures.at in
    let e2 : c.elem-2.result.at ≡ 9 = c.elem-2.ensures.at in
    let e3 : c.elem-3.result.at ≡ c.args.at = c.elem-3.ensures.at in
    let low : c.elem.result.at < c.elem-2.result.at = omega arith in
    let isnt_5 : c.elem.result.at ≢ c.elem-3.result.at = λ z. c.requires.isnt_5 (sym e3 ∙ sym z ∙ e1) in
    let isnt_9 : c.elem-2.result.at ≢ c.elem-3.result.at = λ z. c.requires.isnt_9 (sym e3 ∙ sym z ∙ e2) in
    let t = node c.make-root.result 0 run (absent (absent done)) done in
    let can : CanPutIn c.mixed-kinds.result c.make-root.new.self c.elem-3.result c.make-root.result t =
    subst (λ s. CanPutIn s c.make-root.new.self c.elem-3.result c.make-root.result t) (sym c.mixed-kinds.ensures.kinds)
    (can-put-alone mixed_kinds c.make-root.new.self c.elem-3.result c.make-root.result 1 2 run mixed-sound refl (omega arith) (omega arith) (low, tt)
    (isnt_5, (isnt_9, tt)) c.make-root.ensures.node.node.changed) in
    record { there = subst IsSome (sym (c.in-Pass.ensures.left t can).on.there) refl }
