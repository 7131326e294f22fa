-- How much of a schema file has been read, and its limits.
use Rattle.std.specs.Prelude.{◌+◌, Bool, true, false, List, [], ◌∷◌, Option, Some, None, Result, Ok, Err, if◌then◌else◌, nat_lt}
use Rattle.std.specs.Option.{option_and_then}
use Rattle.dt_model.specs.declared.limits.TheConstants.{MOST_SCHEMAS, MOST_KINDS}
use Rattle.schema_read.specs.declared.lexer.Token.{Token}
use Rattle.schema_read.specs.declared.lexer.Token.TheVariants as a
use Rattle.schema_read.specs.declared.roles.Role.{Role}
use Rattle.schema_read.specs.declared.roles.Place.{Place}
use Rattle.schema_read.specs.declared.roles.Place.TheVariants as at
use Rattle.schema_read.specs.declared.scan.Counts.{Counts}
use Rattle.schema_read.specs.declared.scan.Scan.{Scan}
use Rattle.schema_read.specs.declared.scan.Fault.{Fault}
use Rattle.schema_read.specs.declared.scan.Fault.TheVariants as because
use Rattle.schema_read.specs.Roles.{role_of}

-- nothing has begun
abbrev pub nothing : Counts
nothing = record { schemas = 0; kinds = 0 }

-- the counts with one more token, if no limit forbids it: 16 schemas, and 16 kinds in each
abbrev pub count_token : Counts → Token → Option Counts
count_token c a.Schema = if nat_lt c.schemas MOST_SCHEMAS then Some (record { schemas = c.schemas + 1; kinds = 0 }) else None
count_token c a.Node = if nat_lt c.kinds MOST_KINDS then Some (record { schemas = c.schemas; kinds = c.kinds + 1 }) else None
count_token c t = Some c

-- the counts with some more tokens, if no limit forbids one of them
abbrev pub count_tokens : Counts → List Token → Option Counts
count_tokens c [] = Some c
count_tokens c (t ∷ ts) = option_and_then (λ d. count_tokens d ts) (count_token c t)

-- nothing has been read
abbrev pub at_first : Scan
at_first = record { place = at.Outside; counts = nothing }

-- whether a file may end at a place
abbrev pub is_end : Place → Bool
is_end at.Outside = true
is_end place = false

-- a token of a role, within the limits or not
abbrev pub in_limits : Role × Place → Option Counts → Result (Scan × Role) Fault
in_limits r None = Err because.Limit
in_limits r (Some c) = Ok (record { place = r.1; counts = c }, r.0)

-- a token of a role, if it has one
abbrev pub step_as : Option (Role × Place) → Option Counts → Result (Scan × Role) Fault
step_as None counts = Err because.Form
step_as (Some r) counts = in_limits r counts

-- one more token
abbrev pub step : Scan → Token → Result (Scan × Role) Fault
step s t = step_as (role_of s.place t) (count_token s.counts t)
