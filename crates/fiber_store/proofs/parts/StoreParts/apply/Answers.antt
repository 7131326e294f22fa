use Rattle.std.proofs.Common.{◌≡◌, ◌∷◌, drop, length, ap, sym, ◌∙◌, subst}
use Rattle.dt_model.specs.Contents.{with_update}
use Rattle.dt_model.specs.Verdicts.{update_cell}
use Rattle.fiber_store.specs.Fibers.{IsWhole, Writes}
use Rattle.fiber_store.specs.Stores.{IsSound, store_content}
use Rattle.fiber_store.proofs.StoresLemmas.{IsSound-Writes, content_of-due}
use Rattle.fiber_store.proofs.WholeStores.{IsWhole-made, due_first, length-due_first}
use Rattle.fiber_store.proofs.parts.StoreParts.apply.Goals as goal

pub put-requires-clause-same : goal.put-requires-clause-same
put-requires-clause-same c =
    let inside = c.self.inside in
    let is : inside.due.items ≡ c.args.update.now ∷ c.requires.first.0 = ap (λ s. s.due) c.self.view_is ∙ c.requires.first.1 in
    ap (λ x. length x.at) c.cell_of.ensures.value
    ∙ length-due_first inside.fiber inside.cells inside.due.items c.args.update.now c.requires.first.0 c.self.invariant is

pub invariant_of-self : goal.invariant_of-self
invariant_of-self c =
    let inside = c.self.inside in
    let is : inside.due.items ≡ c.args.update.now ∷ c.requires.first.0 = ap (λ s. s.due) c.self.view_is ∙ c.requires.first.1 in
    let rest : c.pop_front.new.self.items ≡ c.requires.first.0 = c.pop_front.ensures.rest ∙ ap (drop 1) is in
    let written = subst (λ x. Writes inside.cells.pairs c.put.new.cells.pairs x.at c.number_after-number.result) c.cell_of.ensures.value c.put.ensures.cells in
    subst (IsWhole inside.fiber c.put.new.cells) (sym rest) (IsWhole-made inside.fiber inside.cells c.put.new.cells inside.due.items c.args.update.now
    c.requires.first.0 c.number_after-number.result c.self.invariant is written c.put.ensures.order c.put.ensures.spare)

pub returns-clause-content : goal.returns-clause-content
returns-clause-content c =
    let inside = c.self.inside in
    let is : inside.due.items ≡ c.args.update.now ∷ c.requires.first.0 = ap (λ s. s.due) c.self.view_is ∙ c.requires.first.1 in
    let has = due_first inside.fiber inside.cells inside.due.items c.args.update.now c.requires.first.0 c.self.invariant is in
    let written = subst (λ x. Writes inside.cells.pairs c.put.new.cells.pairs x.at c.number_after-number.result) c.cell_of.ensures.value c.put.ensures.cells in
    content_of-due inside.fiber c.args.update.now inside.cells.pairs c.put.new.cells.pairs c.number_after-number.result has c.number_after-number.type_inv
    c.self.invariant.ascending c.number_after-number.ensures.value written ∙ ap (λ s. with_update (store_content s) c.args.update.now) c.self.view_is

pub returns-clause-sound : goal.returns-clause-sound
returns-clause-sound c = λ d w sound.
    let inside = c.self.inside in
    let is : inside.due.items ≡ c.args.update.now ∷ c.requires.first.0 = ap (λ s. s.due) c.self.view_is ∙ c.requires.first.1 in
    let has = due_first inside.fiber inside.cells inside.due.items c.args.update.now c.requires.first.0 c.self.invariant is in
    let written = subst (λ x. Writes inside.cells.pairs c.put.new.cells.pairs x.at c.number_after-number.result) c.cell_of.ensures.value c.put.ensures.cells in
    IsSound-Writes d w inside.fiber (update_cell c.args.update.now) c.number_after-number.result inside.cells.pairs c.put.new.cells.pairs inside.due.items
    c.pop_front.new.self.items has written (subst (IsSound d w) (sym c.self.view_is) sound)
