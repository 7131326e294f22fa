-- What each token of a statement is, as it is written, and which one is more than a limit allows.
use Rattle.std.specs.Prelude.{⊤, ℕ, ◌+◌, ◌-◌, ◌≡◌, ◌⊎◌, Bool, true, false, List, [], ◌∷◌, ◌++◌, length, fold, count_by, flat_map, Some, None, if◌then◌else◌}
use Rattle.dt_model.specs.declared.limits.TheConstants.{MOST_ACCESSES, MOST_LITERALS, MOST_VARIABLES, MOST_PARENTHESES}
use Rattle.index_read.specs.declared.lexer.Token.{Token}
use Rattle.index_read.specs.declared.roles.Role.{Role}
use Rattle.index_read.specs.declared.roles.Role.TheVariants as the
use Rattle.index_read.specs.Grammar.{Factor, Number, Access, Parens, Factors, One, Times, Terms, First, Negated, Plus, Minus, Left, Bare, Listing, stmt_tokens}
use Rattle.index_read.specs.Scans.{has_name}

-- ---- what each token is

-- the variables of an access, with the commas between them
abbrev pub list_roles : List ℕ → List (List ℕ) → List Role
list_roles v [] = the.Variable v ∷ []
list_roles v (w ∷ ws) = the.Variable v ∷ the.Mark ∷ list_roles w ws

-- the tokens of a factor, of factors and of terms
abbrev mutual
  pub factor_roles : Factor → List Role
  factor_roles (Number n) = the.Literal n ∷ []
  factor_roles (Access tensor v vs) = the.Tensor tensor ∷ the.Mark ∷ (list_roles v vs ++ the.EndList ∷ [])
  factor_roles (Parens e) = the.Group ∷ (terms_roles e ++ the.EndGroup ∷ [])

  pub factors_roles : Factors → List Role
  factors_roles (One f) = factor_roles f
  factors_roles (Times fs f) = factors_roles fs ++ the.Times ∷ factor_roles f

  pub terms_roles : Terms → List Role
  terms_roles (First t) = factors_roles t
  terms_roles (Negated t) = the.Negate ∷ factors_roles t
  terms_roles (Plus e t) = terms_roles e ++ the.Plus ∷ factors_roles t
  terms_roles (Minus e t) = terms_roles e ++ the.Minus ∷ factors_roles t

-- the variables of a left side, with the commas between them
abbrev pub left_list_roles : List ℕ → List (List ℕ) → List Role
left_list_roles v [] = the.LeftVariable v ∷ []
left_list_roles v (w ∷ ws) = the.LeftVariable v ∷ the.Mark ∷ left_list_roles w ws

-- the tokens of a left side
abbrev pub left_roles : Left → List Role
left_roles (Bare name) = the.Target name ∷ []
left_roles (Listing name v vs) = the.Target name ∷ the.Mark ∷ (left_list_roles v vs ++ the.Mark ∷ [])

-- the tokens of a statement
abbrev pub stmt_roles : Left → Terms → List Role
stmt_roles left right = left_roles left ++ the.Mark ∷ terms_roles right

-- tokens with which a statement begins, and what each of them is in it
pub record BeginsAs (ts : List Token) (are : List Role) : Type 0 where
  pub left : Left
  pub right : Terms
  pub more : List Token
  pub is : ts ++ more ≡ stmt_tokens left right
  pub rest : List Role
  pub so : are ++ rest ≡ stmt_roles left right
  pub as_many : length are ≡ length ts

-- ---- counts

-- whether a token is the name of an access
abbrev pub is_access : Role → Bool
is_access (the.Tensor name) = true
is_access role = false

-- whether a token is a literal
abbrev pub is_literal : Role → Bool
is_literal (the.Literal value) = true
is_literal role = false

-- the parentheses that are open behind one more token
abbrev pub depth_with : Role → ℕ → ℕ
depth_with the.Group n = n + 1
depth_with the.EndGroup n = n - 1
depth_with role n = n

-- the parentheses that are open behind some tokens; those of accesses aren't counted
abbrev pub depth_behind : List Role → ℕ
depth_behind roles = fold (λ n role. depth_with role n) 0 roles

-- the variables of the last list with one more token
abbrev pub listed_with : Role → ℕ → ℕ
listed_with (the.Tensor name) n = 0
listed_with (the.LeftVariable name) n = n + 1
listed_with (the.Variable name) n = n + 1
listed_with role n = n

-- how many variables the last list of some tokens has
abbrev pub listed_behind : List Role → ℕ
listed_behind roles = fold (λ n role. listed_with role n) 0 roles

-- the variable that a token is
abbrev pub variable_of : Role → List (List ℕ)
variable_of (the.LeftVariable name) = name ∷ []
variable_of (the.Variable name) = name ∷ []
variable_of role = []

-- each name once, by first appearance
abbrev pub with_name : List (List ℕ) → List ℕ → List (List ℕ)
with_name names name = if has_name names name then names else names ++ name ∷ []

-- some names, each once
abbrev pub distinct : List (List ℕ) → List (List ℕ)
distinct names = fold with_name [] names

-- the different variables among some tokens
abbrev pub variables_behind : List Role → List (List ℕ)
variables_behind roles = distinct (flat_map variable_of roles)

-- ---- limits

-- the variable is one more than a list or a statement may have
abbrev pub IsNinthVariable : List Role → List ℕ → Type 0
IsNinthVariable front name = (listed_behind front ≡ MOST_VARIABLES)
    ⊎ ((length (variables_behind front) ≡ MOST_VARIABLES) × (has_name (variables_behind front) name ≡ false))

-- a token behind others is one more than a limit allows: as an access, a literal, an open parenthesis or a variable; or
-- it is a literal above 2^64 - 1
abbrev pub PassesLimit : List Role → Role → Type 0
PassesLimit front (the.Tensor name) = count_by is_access front ≡ MOST_ACCESSES
PassesLimit front (the.Literal None) = ⊤
PassesLimit front (the.Literal (Some n)) = count_by is_literal front ≡ MOST_LITERALS
PassesLimit front the.Group = depth_behind front ≡ MOST_PARENTHESES
PassesLimit front (the.LeftVariable name) = IsNinthVariable front name
PassesLimit front (the.Variable name) = IsNinthVariable front name
PassesLimit front role = ⊥
