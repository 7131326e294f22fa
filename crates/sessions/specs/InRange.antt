-- Contents within the dimensions of their tensors. No public clause cites this module.
use Rattle.std.specs.Prelude.{ℕ, ◌≡◌, false, List}
use Rattle.dt_model.specs.declared.declared_tensors.Decls.{Decls}
use Rattle.dt_model.specs.Contents.{Contents}
use Rattle.dt_model.specs.Tensors.{dims_of}
use Rattle.dt_model.specs.Verdicts.{all_in_range}

-- contents that are 0 wherever the coordinates aren't in range
abbrev pub IsInRange : Decls → Contents → Type 0
IsInRange d m = (t : ℕ) (c : List ℕ) → all_in_range (dims_of d t) c ≡ false → m t c ≡ 0
