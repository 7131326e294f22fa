use Rattle.std.proofs.Common.{◌≡◌, ◌<◌, ◌++◌, length, get_or, Some, refl, ap, sym, ◌∙◌, subst}
use Rattle.std.specs.Prelude.{slice_get}
use Rattle.std.proofs.lemmas.Option.{slice_get-get_or}
use Rattle.dt_model.specs.Texts.{text_of}
use Rattle.dt_model.specs.declared.declared_tensors.TensorDecl.{TensorDecl}
use Rattle.dyntensor.proofs.ReportTexts.{tensors_text, tensor_rows-of}
use Rattle.dyntensor.proofs.runs.write_tensors.Goals as goal

pub loop-tensor-preserved : goal.loop-tensor-preserved
loop-tensor-preserved c =
    let w = c.args.world.now in
    let es = c.args.closed.now.journal.entries in
    let i = c.loop-tensor.tensor-index in
    let t = get_or c.args.printed.now i 0 in
    let ts = w.decls.tensors in
    let tensor = get_or c.as_slice-tensors.result.now t c.index-tensors-tensor.result in
    let same = c.as_slice-tensors.ensures.value in
    let declared : t < length ts = c.requires.runnable.are_declared i 0 c.loop-tensor-test.true in
    let there : t < length c.as_slice-tensors.result.now = subst (λ xs. t < length {A = TensorDecl} xs) (sym same) declared in
    let at : slice_get ts t ≡ Some tensor = subst (λ xs. slice_get {X = TensorDecl} xs t ≡ Some tensor) same
    (slice_get-get_or c.as_slice-tensors.result.now t c.index-tensors-tensor.result there) in
    let pairs = c.in_ok-nonzeros.nonzeros in
    let is = c.in_ok-nonzeros.ensures.value w es refl c.requires.finished.stores in
    tensors_text w es c.args.printed.now i t c.args.text.now.items c.loop-tensor.text.items c.write_tensor.new.text.items
    (slice_get-get_or c.args.printed.now i 0 c.loop-tensor-test.true) c.loop-tensor.invariant
    (c.in_ok-write_tensor.ensures.ok ∙ ap (λ rows. c.loop-tensor.text.items ++ text_of rows) (tensor_rows-of w es t tensor pairs at is))
