-- What a token is in a schema file, and what is expected behind it: the table that says which tokens may follow.
use Rattle.std.specs.Prelude.{ℕ, List, Option, Some, None}
use Rattle.schema_read.specs.declared.lexer.Token.{Token}
use Rattle.schema_read.specs.declared.lexer.Token.TheVariants as a
use Rattle.schema_read.specs.declared.roles.Place.{Place}
use Rattle.schema_read.specs.declared.roles.Place.TheVariants as at
use Rattle.schema_read.specs.declared.roles.Role.{Role}
use Rattle.schema_read.specs.declared.roles.Role.TheVariants as the

-- `schema`
abbrev pub schema_role : Place → Option (Role × Place)
schema_role at.Outside = Some (the.Mark, at.SchemaName)
schema_role place = None

-- `node`
abbrev pub node_role : Place → Option (Role × Place)
node_role at.FirstNode = Some (the.Mark, at.KindName)
node_role at.NextNode = Some (the.Mark, at.KindName)
node_role place = None

-- `run`
abbrev pub run_role : Place → Option (Role × Place)
run_role at.Run = Some (the.Mark, at.Low)
run_role place = None

-- `root`
abbrev pub root_role : Place → Option (Role × Place)
root_role at.NextNode = Some (the.Mark, at.RootName)
root_role place = None

-- `pre`
abbrev pub pre_role : Place → Option (Role × Place)
pre_role at.Links = Some (the.Mark, at.Pre)
pre_role place = None

-- `post`
abbrev pub post_role : Place → Option (Role × Place)
post_role at.Links = Some (the.Mark, at.Post)
post_role at.AfterPre = Some (the.Mark, at.EndsPost)
post_role place = None

-- `woven`
abbrev pub woven_role : Place → Option (Role × Place)
woven_role at.Links = Some (the.Woven, at.KindClose)
woven_role place = None

-- a name
abbrev pub name_role : Place → List ℕ → Option (Role × Place)
name_role at.SchemaName name = Some (the.SchemaName name, at.SchemaOpen)
name_role at.KindName name = Some (the.KindName name, at.KindOpen)
name_role at.Post name = Some (the.Post name, at.KindClose)
name_role at.Pre name = Some (the.Pre name, at.AfterPre)
name_role at.EndsPost name = Some (the.EndsPost name, at.KindClose)
name_role at.RootName name = Some (the.Root name, at.SchemaClose)
name_role place name = None

-- a number
abbrev pub number_role : Place → ℕ → Option (Role × Place)
number_role at.Low number = Some (the.Low number, at.Points)
number_role at.High number = Some (the.High number, at.Links)
number_role place number = None

-- an opening brace
abbrev pub open_role : Place → Option (Role × Place)
open_role at.SchemaOpen = Some (the.Mark, at.FirstNode)
open_role at.KindOpen = Some (the.Mark, at.Run)
open_role place = None

-- a closing brace
abbrev pub close_role : Place → Option (Role × Place)
close_role at.KindClose = Some (the.Mark, at.NextNode)
close_role at.SchemaClose = Some (the.Mark, at.Outside)
close_role place = None

-- `..`
abbrev pub points_role : Place → Option (Role × Place)
points_role at.Points = Some (the.Mark, at.High)
points_role place = None

-- what a token is, and what is expected behind it
abbrev pub role_of : Place → Token → Option (Role × Place)
role_of place a.Schema = schema_role place
role_of place a.Node = node_role place
role_of place a.Run = run_role place
role_of place a.Root = root_role place
role_of place a.Pre = pre_role place
role_of place a.Post = post_role place
role_of place a.Woven = woven_role place
role_of place (a.Name name) = name_role place name
role_of place (a.Number number) = number_role place number
role_of place a.Open = open_role place
role_of place a.Close = close_role place
role_of place a.Points = points_role place
role_of place a.Stray = None
