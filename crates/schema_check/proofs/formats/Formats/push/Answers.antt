use Rattle.std.proofs.Common.{◌≡◌, [], ◌∷◌, ◌++◌, All, List, Result, Ok, Err, subst, sym}
use Rattle.std.specs.Prelude.{OnOk, OnErr}
use Rattle.std.proofs.lemmas.List.Elements.{All-push}
use Rattle.dt_model.specs.declared.declared_tensors.Schema.{Schema}
use Rattle.schema_check.specs.Rules.{KeepsRules}
use Rattle.schema_check.proofs.formats.Formats.push.Goals as goal

-- a list whose items keep the rules, and one more
all_keep : {A E : Type 0} (r : Result A E) (old new : List Schema) (s : Schema) → OnOk r (new ≡ old ++ s ∷ []) → OnErr r (new ≡ old) → All KeepsRules old
    → KeepsRules s → All KeepsRules new
all_keep (Ok a) old new s ok err h k = subst (All KeepsRules) (sym ok) (All-push KeepsRules old s h k)
all_keep (Err e) old new s ok err h k = subst (All KeepsRules) (sym err) h

pub invariant_of-self : goal.invariant_of-self
invariant_of-self c =
    all_keep c.push.result c.self.inside.items c.push.new.self c.args.checked c.push.ensures.ok c.push.ensures.err c.self.invariant
    c.schema-schema.ensures.rules
