use Rattle.std.proofs.Common.{◌≡◌, ℕ, IfOk, ◌∙◌, subst}
use Rattle.dt_model.specs.Statements.{all_below, nonzeros}
use Rattle.dt_model.specs.Tensors.{dims_of}
use Rattle.dt_model.specs.declared.declared_tensors.Decls.{Decls}
use Rattle.fiber_store.specs.Stores.{StoreState, IsSound, store_content}
use Rattle.fiber_store.proofs.stores.FiberStore.pairs.Goals as goal

pub returns-clause-value : goal.returns-clause-value
returns-clause-value c =
    subst (λ (s : StoreState). IfOk c.pairs.result (λ pairs. (d : Decls) (w : ℕ) → IsSound d w s
    → pairs ≡ nonzeros (store_content s s.tensor) (all_below (dims_of d s.tensor)))) (c.deref.ensures ∙ c.self.view_is) c.pairs.ensures.value
