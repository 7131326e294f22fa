use Rattle.std.proofs.Common.{◌≡◌, not, true, take}
use Rattle.std.specs.Prelude.{◌==◌}
use Rattle.std.specs.List.{list_all}
use Rattle.script_read.specs.declared.batches.TheConstants.{SEMICOLON}
use Rattle.script_read.proofs.batches.part_end.Given as goal

abbrev pub invariant-loop-i : goal.invariant-loop-i
invariant-loop-i l = list_all (λ b. not (b == SEMICOLON)) (take l.i l.text) ≡ true
