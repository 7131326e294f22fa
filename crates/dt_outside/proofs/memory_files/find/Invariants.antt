use Rattle.std.proofs.Common.{◌≡◌, None, Some, take}
use Rattle.std.specs.Prelude.{MatchOption}
use Rattle.dt_outside.specs.MemoryFiles.{find_file}
use Rattle.dt_outside.proofs.memory_files.find.Given as goal

abbrev pub invariant-loop-file : goal.invariant-loop-file
invariant-loop-file l =
    MatchOption l.found (find_file (take l.file-index l.files) l.name ≡ None) (λ bytes. find_file (take l.file-index l.files) l.name ≡ Some bytes.now)
