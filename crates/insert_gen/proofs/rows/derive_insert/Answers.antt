use Rattle.std.proofs.Common.{◌<◌, ◌∙◌, length, map, ap, sym, subst, arith}
use Rattle.node_arena.specs.Kinds.{kinds_of, root_of}
use Rattle.node_arena.specs.Rules.{AreSound}
use Rattle.insert_gen.specs.Rows.{row_of}
use Rattle.iter_gen.proofs.SoundnessLemmas.{AreSound-kinds_of, root_of-declared}
use Rattle.insert_gen.proofs.rows.derive_insert.Goals as goal

pub invariant_of-result : goal.invariant_of-result
invariant_of-result c = (
  c.kinds_of-kinds.ensures.value ∙ ap kinds_of (sym c.copy.ensures.value),
  (let r = c.root_of.ensures.value in let s = ap root_of c.copy.ensures.value in omega (arith, r, s)),
  c.rows_of-rows.ensures.value ∙ ap (λ ks. map (row_of ks) ks) c.as_slice.ensures.value,
  subst (λ s. AreSound (kinds_of s)) (sym (c.copy.ensures.value ∙ c.schema-schema.ensures.value)) (AreSound-kinds_of _ c.schema-schema.ensures.rules),
  subst (λ s. root_of s < length (kinds_of s)) (sym (c.copy.ensures.value
      ∙ c.schema-schema.ensures.value)) (root_of-declared _ c.schema-schema.ensures.rules),
)
