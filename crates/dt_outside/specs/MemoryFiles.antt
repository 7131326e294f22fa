-- Files in memory, where the last one put under a name counts.
use Rattle.std.specs.Prelude.{ℕ, ◌≡◌, List, [], Option, Some, None, if◌then◌else◌, fold, nat_eq, unwrap_or}
use Rattle.std.specs.Cmp.Lexicographic.{pointwise}
use Rattle.dt_outside.specs.declared.memory_files.MemFile.{MemFile}

-- the bytes of the last file under a name, if there is one
abbrev pub find_file : List MemFile → List ℕ → Option (List ℕ)
find_file files name = fold (λ found file. if pointwise nat_eq file.name.items name then Some file.bytes.items else found) None files

-- the bytes under a name, or no bytes
abbrev pub bytes_under : List MemFile → List ℕ → List ℕ
bytes_under files name = unwrap_or (find_file files name) []

-- a file is put under a name: it has these bytes, and every other name has what it had
abbrev pub PutsFile : List MemFile → List MemFile → List ℕ → List ℕ → Type 0
PutsFile old new name bytes = (other : List ℕ) → find_file new other ≡ (if pointwise nat_eq name other then Some bytes else find_file old other)
