use Rattle.std.proofs.Common.{◌≡◌, List, ℕ, Result, Ok, Err, sym, ◌∙◌, ap}
use Rattle.std.specs.Prelude.{OnOk}
use Rattle.dyntensor.specs.Workload.{declared_tensor, with_item}
use Rattle.dyntensor.specs.Readings.{HoldsOf}
use Rattle.dyntensor.proofs.ReadingsLemmas.{HoldsOf-always}
use Rattle.dyntensor.proofs.workloads.add_item.Goals as goal

-- what follows at a success
on_success : {A E : Type 0} (r : Result A E) (P Q : Type 0) → (P → Q) → OnOk r P → OnOk r Q
on_success (Ok x) P Q f h = f h
on_success (Err e) P Q f h = tt

pub returns-in-Tensor-clause-item : goal.returns-in-Tensor-clause-item
returns-in-Tensor-clause-item g c =
    let manifest = c.args.manifest.now in
    let old = c.args.gathering.now in
    let line = c.args.line in
    let new = c.declare_tensor.new.gathering in
    let t = c.in-Tensor in
    on_success c.declare_tensor.result (declared_tensor manifest old line t.name t.dims c.as_slice.result.now t.latches ≡ Ok new)
    (HoldsOf (g.S.Shelf.state c.args.shelf.now).files (λ files. with_item files manifest old line c.args.item.now ≡ Ok new))
    (λ made. HoldsOf-always (g.S.Shelf.state c.args.shelf.now).files (λ files. with_item files manifest old line c.args.item.now ≡ Ok new)
    (λ files. ap (λ item. with_item files manifest old line item) t.is
    ∙ ap (λ (fs : List (List ℕ)). declared_tensor manifest old line t.name t.dims fs t.latches) (sym c.as_slice.ensures.value) ∙ made))
    c.declare_tensor.ensures.ok

pub returns-in_ok-add_print-in-Print-clause-item : goal.returns-in_ok-add_print-in-Print-clause-item
returns-in_ok-add_print-in-Print-clause-item g c =
    HoldsOf-always (g.S.Shelf.state c.args.shelf.now).files
    (λ files. with_item files c.args.manifest.now c.args.gathering.now c.args.line c.args.item.now ≡ Ok c.add_print.new.self)
    (λ files. ap (λ item. with_item files c.args.manifest.now c.args.gathering.now c.args.line item) c.in-Print.is ∙ ap Ok
    (sym c.in_ok-add_print-in-Print.ensures.ok))
