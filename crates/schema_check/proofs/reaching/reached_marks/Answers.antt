use Rattle.std.proofs.Common.{◌≡◌, ℕ, suc, ◌+◌, Bool, List, length, map, ap, sym, ◌∙◌, arith}
use Rattle.std.proofs.lemmas.List.{length-map}
use Rattle.dt_model.specs.declared.declared_tensors.Kind.{Kind}
use Rattle.schema_check.specs.Reached.{and_linked, is_within}
use Rattle.schema_check.proofs.reaching.reached_marks.Goals as goal

pub with_linked-marks-requires-clause-one_each : goal.with_linked-marks-requires-clause-one_each
with_linked-marks-requires-clause-one_each c =
    ap length (c.as_slice.ensures.value ∙ c.loop-round.invariant)
    ∙ length-map c.args.schema.now.kinds.items (λ (k : Kind). is_within c.args.schema.now c.loop-round._round k.name)
    ∙ ap length (sym c.as_slice-kinds.ensures.value)

pub loop-round-init : goal.loop-round-init
unfolding is_within
loop-round-init c =
    c.named_marks-marks.ensures.value ∙ ap (map (λ (k : Kind). is_within c.args.schema.now 0 k.name)) c.as_slice-kinds.ensures.value

pub loop-round-preserved : goal.loop-round-preserved
unfolding is_within
loop-round-preserved c =
    let s = c.args.schema.now in
    let kinds = c.as_slice-kinds.result.now in
    let set : List ℕ → Bool = λ name. is_within s c.loop-round._round name in
    let one : suc c.loop-round._round ≡ c.loop-round._round + 1 = omega arith in
    c.with_linked-marks.ensures.value set
    (c.as_slice.ensures.value ∙ c.loop-round.invariant ∙ ap (map (λ (k : Kind). set k.name)) (sym c.as_slice-kinds.ensures.value))
    ∙ ap (λ (ks : List Kind). map (λ (k : Kind). and_linked ks set k.name) ks) c.as_slice-kinds.ensures.value
    ∙ ap (λ (n : ℕ). map (λ (k : Kind). is_within s n k.name) s.kinds.items) one
