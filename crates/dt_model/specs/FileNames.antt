-- Names of files. The readers of manifests and of files cite them.
use Rattle.std.specs.Prelude.{ℕ, Bool, List, length, ◌≤◌, ◌&&◌, nat_le}
use Rattle.std.specs.Str.{is_utf8}
use Rattle.dt_model.specs.declared.limits.TheConstants.{FILE_NAME_LIMIT}

-- a name of 1 to `FILE_NAME_LIMIT` bytes
pub record HasNameLength (name : List ℕ) : Type 0 where
  pub some : 1 ≤ length name
  pub within : length name ≤ FILE_NAME_LIMIT

-- a name of 1 to `FILE_NAME_LIMIT` bytes of UTF-8
abbrev pub is_file_name : List ℕ → Bool
is_file_name name = nat_le 1 (length name) && nat_le (length name) FILE_NAME_LIMIT && is_utf8 name
