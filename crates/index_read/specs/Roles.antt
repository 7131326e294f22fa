-- What a token is in a statement, and what is expected behind it: the table that says which tokens may follow.
use Rattle.std.specs.Prelude.{ℕ, List, Option, Some, None, if◌then◌else◌, nat_lt}
use Rattle.index_read.specs.declared.lexer.Token.{Token}
use Rattle.index_read.specs.declared.lexer.Token.TheVariants as a
use Rattle.index_read.specs.declared.roles.Place.{Place}
use Rattle.index_read.specs.declared.roles.Place.TheVariants as at
use Rattle.index_read.specs.declared.roles.Role.{Role}
use Rattle.index_read.specs.declared.roles.Role.TheVariants as the

-- a name
abbrev pub word_role : Place → List ℕ → Option (Role × Place)
word_role at.Target name = Some (the.Target name, at.AfterTarget)
word_role at.LeftVariable name = Some (the.LeftVariable name, at.LeftNext)
word_role at.First name = Some (the.Tensor name, at.List)
word_role at.Operand name = Some (the.Tensor name, at.List)
word_role at.Variable name = Some (the.Variable name, at.Next)
word_role place name = None

-- a number
abbrev pub number_role : Place → Option ℕ → Option (Role × Place)
number_role at.First value = Some (the.Literal value, at.After)
number_role at.Operand value = Some (the.Literal value, at.After)
number_role place value = None

-- an opening parenthesis
abbrev pub open_role : Place → Option (Role × Place)
open_role at.AfterTarget = Some (the.Mark, at.LeftVariable)
open_role at.List = Some (the.Mark, at.Variable)
open_role at.First = Some (the.Group, at.First)
open_role at.Operand = Some (the.Group, at.First)
open_role place = None

-- a closing parenthesis
abbrev pub close_role : Place → ℕ → Option (Role × Place)
close_role at.LeftNext n = Some (the.Mark, at.Equals)
close_role at.Next n = Some (the.EndList, at.After)
close_role at.After n = if nat_lt 0 n then Some (the.EndGroup, at.After) else None
close_role place n = None

-- a comma
abbrev pub comma_role : Place → Option (Role × Place)
comma_role at.LeftNext = Some (the.Mark, at.LeftVariable)
comma_role at.Next = Some (the.Mark, at.Variable)
comma_role place = None

-- an equals sign
abbrev pub equals_role : Place → Option (Role × Place)
equals_role at.AfterTarget = Some (the.Mark, at.First)
equals_role at.Equals = Some (the.Mark, at.First)
equals_role place = None

-- a plus
abbrev pub plus_role : Place → Option (Role × Place)
plus_role at.After = Some (the.Plus, at.Operand)
plus_role place = None

-- a minus
abbrev pub minus_role : Place → Option (Role × Place)
minus_role at.First = Some (the.Negate, at.Operand)
minus_role at.After = Some (the.Minus, at.Operand)
minus_role place = None

-- a product sign
abbrev pub times_role : Place → Option (Role × Place)
times_role at.After = Some (the.Times, at.Operand)
times_role place = None

-- what a token is where so many parenthesised expressions are open, and what is expected behind it
abbrev pub role_of : Place → Token → ℕ → Option (Role × Place)
role_of place (a.Word name) n = word_role place name
role_of place (a.Number value) n = number_role place value
role_of place a.Open n = open_role place
role_of place a.Close n = close_role place n
role_of place a.Comma n = comma_role place
role_of place a.Equals n = equals_role place
role_of place a.Plus n = plus_role place
role_of place a.Minus n = minus_role place
role_of place a.Times n = times_role place
role_of place a.Stray n = None
