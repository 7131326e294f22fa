-- What the words of the command line ask for.
use Rattle.std.specs.Prelude.{ℕ, List, [], ◌∷◌, length, Option, Some, None, ◌&&◌, if◌then◌else◌, nat_le, codes}
use Rattle.dt_model.specs.declared.limits.TheConstants.{FILE_NAME_LIMIT}
use Rattle.dt_model.specs.Texts.{number_of}
use Rattle.script_read.specs.Readings.{equals_text}
use Rattle.sample_world.specs.declared.sizes.TheConstants.{MOST_SAMPLE}

-- the file of a command and one more word of 1 to 255 bytes
abbrev pub file_named : List ℕ → List (List ℕ) → Option (List ℕ)
file_named command (word ∷ name ∷ []) =
    if equals_text command word && nat_le 1 (length name) && nat_le (length name) FILE_NAME_LIMIT then Some name else None
file_named command words = None

-- the manifest of `run` and one more word
abbrev pub manifest_named : List (List ℕ) → Option (List ℕ)
manifest_named words = file_named (codes "run") words

-- the file of schemas of `check` and one more word
abbrev pub schemas_named : List (List ℕ) → Option (List ℕ)
schemas_named words = file_named (codes "check") words

-- a number from 1 to 200,000
abbrev pub from_one_to_most : Option ℕ → Option ℕ
from_one_to_most None = None
from_one_to_most (Some n) = if nat_le 1 n && nat_le n MOST_SAMPLE then Some n else None

-- the number of `sample` and one more word, of at most 255 digits
abbrev pub sample_numbered : List (List ℕ) → Option ℕ
sample_numbered (word ∷ number ∷ []) =
    if equals_text (codes "sample") word && nat_le (length number) FILE_NAME_LIMIT then from_one_to_most (number_of number) else None
sample_numbered words = None
