use Rattle.std.proofs.Common.{◌≡◌, ◌++◌, take}
use Rattle.std.specs.List.{flat_map}
use Rattle.dt_model.specs.Texts.{text_of}
use Rattle.dt_model.specs.Report.{tensor_rows}
use Rattle.dyntensor.proofs.runs.write_tensors.Given as goal

abbrev pub invariant-loop-tensor : goal.invariant-loop-tensor
invariant-loop-tensor l = l.text.items ≡ l.fn.text.items ++ text_of (flat_map (tensor_rows l.world l.closed.journal.entries) (take l.tensor-index l.printed))
