-- How much of a statement has been read, and its limits.
use Rattle.std.specs.Prelude.{ℕ, ◌+◌, ◌-◌, ◌++◌, Bool, List, [], ◌∷◌, length, Option, Some, None, Result, Ok, Err, if◌then◌else◌, nat_lt, nat_eq}
use Rattle.std.specs.List.{list_any}
use Rattle.std.specs.Cmp.Lexicographic.{pointwise}
use Rattle.dt_model.specs.declared.limits.TheConstants.{MOST_ACCESSES, MOST_LITERALS, MOST_VARIABLES, MOST_PARENTHESES}
use Rattle.index_read.specs.declared.scan.Scan.{Scan}
use Rattle.index_read.specs.declared.scan.Fault.{Fault}
use Rattle.index_read.specs.declared.scan.Fault.TheVariants as because
use Rattle.index_read.specs.declared.lexer.Token.{Token}
use Rattle.index_read.specs.declared.roles.Role.{Role}
use Rattle.index_read.specs.declared.roles.Role.TheVariants as the
use Rattle.index_read.specs.declared.roles.Place.{Place}
use Rattle.index_read.specs.declared.roles.Place.TheVariants as at
use Rattle.index_read.specs.Roles.{role_of}

-- whether a name is among some
abbrev pub has_name : List (List ℕ) → List ℕ → Bool
has_name names word = list_any (λ name. pointwise nat_eq name word) names

-- at most eight variables, each once, by first appearance
abbrev pub with_variable : List (List ℕ) → List ℕ → Option (List (List ℕ))
with_variable vars name = if has_name vars name then Some vars else (if nat_lt (length vars) MOST_VARIABLES then Some (vars ++ name ∷ []) else None)

-- nothing has been read
abbrev pub at_first : Scan
at_first = record { place = at.Target; depth = 0; accesses = 0; literals = 0; listed = 0; vars = record { items = [] } }

-- with these variables, of which one more is in the list in front
abbrev pub with_listed : Scan → Option (List (List ℕ)) → Option Scan
with_listed s None = None
with_listed s (Some vars) = Some (record s { listed = s.listed + 1; vars = record { items = vars } })

-- one more variable in the list in front: at most eight there, and at most eight in all
abbrev pub count_variable : Scan → List ℕ → Option Scan
count_variable s name = if nat_lt s.listed MOST_VARIABLES then with_listed s (with_variable s.vars.items name) else None

-- one more token of a role, if no limit forbids it: 12 accesses, 12 literals below 2^64, 16 open parentheses
abbrev pub count_role : Role → Scan → Option Scan
count_role (the.Tensor name) s = if nat_lt s.accesses MOST_ACCESSES then Some (record s { accesses = s.accesses + 1; listed = 0 }) else None
count_role (the.Literal None) s = None
count_role (the.Literal (Some n)) s = if nat_lt s.literals MOST_LITERALS then Some (record s { literals = s.literals + 1 }) else None
count_role the.Group s = if nat_lt s.depth MOST_PARENTHESES then Some (record s { depth = s.depth + 1 }) else None
count_role the.EndGroup s = Some (record s { depth = s.depth - 1 })
count_role (the.LeftVariable name) s = count_variable s name
count_role (the.Variable name) s = count_variable s name
count_role role s = Some s

-- within the limits, or not
abbrev pub in_limits : Role → Option Scan → Result (Scan × Role) Fault
in_limits role None = Err because.Limit
in_limits role (Some s) = Ok (s, role)

-- a token of a role, if it has one
abbrev pub step_as : Scan → Option (Role × Place) → Result (Scan × Role) Fault
step_as s None = Err because.Form
step_as s (Some r) = in_limits r.0 (count_role r.0 (record s { place = r.1 }))

-- one more token
abbrev pub step : Scan → Token → Result (Scan × Role) Fault
step s t = step_as s (role_of s.place t s.depth)
