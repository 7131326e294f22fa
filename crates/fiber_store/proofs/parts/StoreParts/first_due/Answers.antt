use Rattle.std.proofs.Common.{◌≡◌, ◌<◌, List, [], ◌∷◌, length, get_or, drop, ap, sym, ◌∙◌, arith}
use Rattle.dt_model.specs.declared.calls.Update.{Update}
use Rattle.fiber_store.proofs.parts.StoreParts.first_due.Goals as goal

first_rest : (xs : List Update) (u : Update) → 0 < length xs → u ≡ get_or xs 0 u → xs ≡ u ∷ drop 1 xs
first_rest [] u some is = absurd (omega arith)
first_rest (x ∷ xs) u some is = ap (λ (y : Update). y ∷ xs) (sym is)

pub returns-in-Some-clause-some : goal.returns-in-Some-clause-some
returns-in-Some-clause-some c =
    let items = c.self.inside.due.items in
    let some : 0 < length items = c.in-Some.ensures.item.3.0 in (
      drop 1 items,
      sym (ap (λ s. s.due) c.self.view_is) ∙ first_rest items c.in-Some.update.now some c.in-Some.ensures.lookup
          ∙ ap (λ (u : Update). u ∷ drop 1 items) (sym c.copy.ensures.value),
    )
