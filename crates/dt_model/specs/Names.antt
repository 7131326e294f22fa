-- Names: 1 to 32 bytes, a letter or an underscore, then letters, digits and underscores.
use Rattle.std.specs.Prelude.{ℕ, Bool, false, List, [], ◌∷◌, length, nat_lt, ◌==◌, ◌&&◌, ◌||◌}
use Rattle.std.specs.List.{list_all}
use Rattle.std.specs.Char.{is_ascii_alphabetic, is_ascii_digit}
use Rattle.dt_model.specs.declared.limits.TheConstants.{NAME_LIMIT, UNDERSCORE}

-- a letter or an underscore
abbrev pub is_name_start : ℕ → Bool
is_name_start b = is_ascii_alphabetic b || (b == UNDERSCORE)

-- a letter, an underscore or a digit
abbrev pub is_name_byte : ℕ → Bool
is_name_byte b = is_name_start b || is_ascii_digit b

-- whether the bytes are a name
abbrev pub is_name : List ℕ → Bool
is_name [] = false
is_name (b ∷ bs) = is_name_start b && nat_lt (length bs) NAME_LIMIT && list_all is_name_byte bs
