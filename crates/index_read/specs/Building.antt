-- The tree that the roles of tokens build from left to right.
use Rattle.std.specs.Prelude.{ℕ, ◌+◌, List, [], ◌∷◌, ◌++◌, length, Option, Some, None, unwrap_or, Result, Ok, Err, if◌then◌else◌, nat_lt, nat_eq}
use Rattle.std.specs.Cmp.Lexicographic.{pointwise}
use Rattle.dt_model.specs.declared.limits.TheConstants.{MOST_VARIABLES, UNDERSCORE}
use Rattle.dt_model.specs.declared.statements.Expr.{Expr}
use Rattle.dt_model.specs.declared.statements.Expr.TheViews.{Plus, Minus, Times, Negate}
use Rattle.dt_model.specs.declared.statements.Expr.TheVariants.{Literal, Access}
use Rattle.dt_model.specs.declared.statements.Stmt.{Stmt}
use Rattle.index_read.specs.declared.trees.Sum.{Sum}
use Rattle.index_read.specs.declared.trees.Sum.TheVariants.{Nothing, Negated, Added, Taken}
use Rattle.index_read.specs.declared.trees.Level.{Level}
use Rattle.index_read.specs.declared.trees.Levels.{Levels}
use Rattle.index_read.specs.declared.trees.Tree.{Tree}
use Rattle.dt_text.specs.declared.spans.Span.{Span}
use Rattle.dt_text.specs.Spans.{bytes_of}
use Rattle.index_read.specs.declared.scan.Scan.{Scan}
use Rattle.index_read.specs.declared.scan.Fault.{Fault}
use Rattle.index_read.specs.Tokens.{spans_of, token_of}
use Rattle.index_read.specs.Scans.{at_first, step}
use Rattle.index_read.specs.declared.roles.Role.{Role}
use Rattle.index_read.specs.declared.roles.Role.TheVariants as the

-- one more factor
abbrev pub product_with : Option Expr → Expr → Expr
product_with None e = e
product_with (Some a) e = Times a e

-- one more term
abbrev pub sum_with : Sum → Expr → Expr
sum_with Nothing e = e
sum_with Negated e = Negate e
sum_with (Added a) e = Plus a e
sum_with (Taken a) e = Minus a e

-- the expression that has been read; 0 where there is none
abbrev pub expr_from : Sum → Option Expr → Expr
expr_from s None = Literal 0
expr_from s (Some e) = sum_with s e

-- the expression of a level
abbrev pub expr_of : Level → Expr
expr_of l = expr_from l.sum l.product

-- an expression with one more factor
abbrev pub with_factor : Level → Expr → Level
with_factor l e = record { sum = l.sum; product = Some (product_with l.product e) }

-- an expression that has no term yet behind what stands before it
abbrev pub level_after : Sum → Level
level_after s = record { sum = s; product = None }

-- a level under what was taken from the levels above it
abbrev pub onto : Level → Option (List Level × Level) → Option (List Level × Level)
onto l None = None
onto l (Some p) = Some (l ∷ p.0, p.1)

-- a stack without its last level, and that level
abbrev pub pop : List Level → Option (List Level × Level)
pop [] = None
pop (l ∷ []) = Some ([], l)
pop (l ∷ k ∷ ls) = onto l (pop (k ∷ ls))

-- an expression opens
abbrev pub open_group : Levels → Levels
open_group l = record { outer = l.outer ++ l.here ∷ []; here = level_after Nothing }

-- an expression is a factor of the last level of a stack
abbrev pub close_into : Expr → Option (List Level × Level) → Levels
close_into e None = record { outer = []; here = with_factor (level_after Nothing) e }
close_into e (Some p) = record { outer = p.0; here = with_factor p.1 e }

-- an expression ends, and is a factor of the one around it
abbrev pub close_group : Levels → Levels
close_group l = close_into (expr_of l.here) (pop l.outer)

-- the innermost expression has one more factor
abbrev pub with_factor_inside : Levels → Expr → Levels
with_factor_inside l e = record { outer = l.outer; here = with_factor l.here e }

-- a plus ends the terms so far
abbrev pub begin_added : Levels → Levels
begin_added l = record { outer = l.outer; here = level_after (Added (expr_of l.here)) }

-- a minus ends the terms so far
abbrev pub begin_taken : Levels → Levels
begin_taken l = record { outer = l.outer; here = level_after (Taken (expr_of l.here)) }

-- a minus is before the first term
abbrev pub begin_negated : Levels → Levels
begin_negated l = record { outer = l.outer; here = level_after Negated }

-- the place of a name among some that begin at a place, or 0
abbrev pub place_from : ℕ → List (List ℕ) → List ℕ → ℕ
place_from n [] name = 0
place_from n (v ∷ vs) name = if pointwise nat_eq v name then n else place_from (n + 1) vs name

-- the place of a name among some, or 0
abbrev pub place_of : List (List ℕ) → List ℕ → ℕ
place_of vars name = place_from 0 vars name

-- a list with one more place, where it has room
abbrev pub with_place : List ℕ → ℕ → List ℕ
with_place list place = if nat_lt (length list) MOST_VARIABLES then list ++ place ∷ [] else list

-- nothing has been read
abbrev pub empty_tree : Tree
empty_tree = record { name = UNDERSCORE ∷ []; left = []; tensor = UNDERSCORE ∷ []; list = []; levels = record { outer = []; here = level_after Nothing } }

-- the expressions with one more token that is no name, where the access in front is to `tensor` at `list`
abbrev pub with_operator : Levels → Role → List ℕ → List ℕ → Levels
with_operator l the.EndList tensor list = with_factor_inside l (Access tensor list)
with_operator l (the.Literal value) tensor list = with_factor_inside l (Literal (unwrap_or value 0))
with_operator l the.Group tensor list = open_group l
with_operator l the.EndGroup tensor list = close_group l
with_operator l the.Plus tensor list = begin_added l
with_operator l the.Minus tensor list = begin_taken l
with_operator l the.Negate tensor list = begin_negated l
with_operator l role tensor list = l

-- the tree with one more token, where these are the variables so far
abbrev pub with_role : Tree → Role → List (List ℕ) → Tree
with_role t (the.Target name) vars = record t { name = name }
with_role t (the.LeftVariable name) vars = record t { left = with_place t.left (place_of vars name) }
with_role t (the.Tensor name) vars = record t { tensor = name; list = [] }
with_role t (the.Variable name) vars = record t { list = with_place t.list (place_of vars name) }
with_role t role vars = record t { levels = with_operator t.levels role t.tensor t.list }

-- what has been read of the tokens up to the first fault
abbrev pub read_or : Scan × Tree → Result (Scan × Role) Fault → (Scan → Role → Scan × Tree) → Scan × Tree
read_or now (Err f) rest = now
read_or now (Ok r) rest = rest r.0 r.1

-- what has been read of some tokens, from a scan and a tree on
abbrev pub read_from : List ℕ → Scan → Tree → List Span → Scan × Tree
read_from text s t [] = (s, t)
read_from text s t (x ∷ xs) = read_or (s, t) (step s (token_of (bytes_of text x))) (λ r role. read_from text r (with_role t role r.vars.items) xs)

-- what has been read of a text
abbrev pub read_of : List ℕ → Scan × Tree
read_of text = read_from text at_first empty_tree (spans_of text)

-- the statement that has been read
abbrev pub stmt_of : Scan × Tree → Stmt
stmt_of r = record { name = r.1.name; vars = r.0.vars; left = r.1.left; right = expr_of r.1.levels.here }
