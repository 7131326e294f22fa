-- What a statement as it is written means.
use Rattle.std.specs.Prelude.{ℕ, ◌≡◌, List, [], ◌∷◌, ◌++◌, map, Option, Some, None, Result, Ok, Err, ⊤, ◌⊎◌, unwrap_or}
use Rattle.dt_model.specs.declared.statements.Expr.{Expr}
use Rattle.dt_model.specs.declared.statements.Expr.TheViews as join
use Rattle.dt_model.specs.declared.statements.Expr.TheVariants as leaf
use Rattle.dt_model.specs.declared.statements.Stmt.{Stmt}
use Rattle.index_read.specs.Excess.{distinct}
use Rattle.index_read.specs.Building.{place_of, stmt_of, read_of}
use Rattle.index_read.specs.Grammar.{Factor, Number, Access, Parens, Factors, One, Times, Terms, First, Negated, Plus, Minus, Left, Bare, Listing, stmt_tokens}
use Rattle.index_read.specs.declared.read.StmtFault.{StmtFault}
use Rattle.index_read.specs.declared.read.StmtFault.TheVariants as because
use Rattle.index_read.specs.Readings.{IsFormFaultAt, IsFormFaultAtEnd, IsLimitFaultAt}
use Rattle.index_read.specs.Faults.{first_fault}
use Rattle.index_read.specs.Tokens.{tokens_of}

-- the tree, where the variables have their places in this list
abbrev mutual
  pub factor_expr : List (List ℕ) → Factor → Expr
  factor_expr vars (Number n) = leaf.Literal (unwrap_or n 0)
  factor_expr vars (Access tensor v vs) = leaf.Access tensor (map (place_of vars) (v ∷ vs))
  factor_expr vars (Parens e) = terms_expr vars e

  pub factors_expr : List (List ℕ) → Factors → Expr
  factors_expr vars (One f) = factor_expr vars f
  factors_expr vars (Times fs f) = join.Times (factors_expr vars fs) (factor_expr vars f)

  pub terms_expr : List (List ℕ) → Terms → Expr
  terms_expr vars (First fs) = factors_expr vars fs
  terms_expr vars (Negated fs) = join.Negate (factors_expr vars fs)
  terms_expr vars (Plus e fs) = join.Plus (terms_expr vars e) (factors_expr vars fs)
  terms_expr vars (Minus e fs) = join.Minus (terms_expr vars e) (factors_expr vars fs)

-- the variables from left to right
abbrev mutual
  pub factor_names : Factor → List (List ℕ)
  factor_names (Number n) = []
  factor_names (Access tensor v vs) = v ∷ vs
  factor_names (Parens e) = terms_names e

  pub factors_names : Factors → List (List ℕ)
  factors_names (One f) = factor_names f
  factors_names (Times fs f) = factors_names fs ++ factor_names f

  pub terms_names : Terms → List (List ℕ)
  terms_names (First fs) = factors_names fs
  terms_names (Negated fs) = factors_names fs
  terms_names (Plus e fs) = terms_names e ++ factors_names fs
  terms_names (Minus e fs) = terms_names e ++ factors_names fs

-- the variables of a left side
abbrev pub left_names : Left → List (List ℕ)
left_names (Bare name) = []
left_names (Listing name v vs) = v ∷ vs

-- the name of a left side
abbrev pub left_name : Left → List ℕ
left_name (Bare name) = name
left_name (Listing name v vs) = name

-- the variables of a statement
abbrev pub vars_of : Left → Terms → List (List ℕ)
vars_of left right = distinct (left_names left ++ terms_names right)

-- the statement
abbrev pub meaning : Left → Terms → Stmt
meaning left right = record {
  name = left_name left;
  vars = record { items = vars_of left right };
  left = map (place_of (vars_of left right)) (left_names left);
  right = terms_expr (vars_of left right) right;
}

-- the text is the statement, as it is written in some way
pub record StmtText (text : List ℕ) (stmt : Stmt) : Type 0 where
  pub left : Left
  pub right : Terms
  pub written : tokens_of text ≡ stmt_tokens left right
  pub means : stmt ≡ meaning left right

-- the text is the statement, and is within the limits
pub record ReadsAs (text : List ℕ) (stmt : Stmt) : Type 0 where
  pub written : StmtText text stmt
  pub faultless : first_fault text ≡ None

-- what an answer says of a text
abbrev pub Reads : List ℕ → Result Stmt StmtFault → Type 0
Reads text (Ok stmt) = StmtText text stmt
Reads text (Err (because.Form column)) = IsFormFaultAt text column ⊎ IsFormFaultAtEnd text column
Reads text (Err (because.Limit column)) = IsLimitFaultAt text column
Reads text (Err because.NoMemory) = ⊤

-- a statement is given, unless a limit is passed or memory runs out
abbrev pub AnswersStmt : Stmt → Result Stmt StmtFault → Type 0
AnswersStmt stmt (Ok given) = given ≡ stmt
AnswersStmt stmt (Err (because.Form column)) = ⊥
AnswersStmt stmt (Err (because.Limit column)) = ⊤
AnswersStmt stmt (Err because.NoMemory) = ⊤

-- ---- the statement in a text, as the table of tokens builds it

-- a value, unless there is a fault
abbrev pub unless_fault : {X E : Type 0} → Option E → X → Result X E
unless_fault None x = Ok x
unless_fault (Some fault) x = Err fault

-- the statement in a text, or the text's first fault
abbrev pub statement_in : List ℕ → Result Stmt StmtFault
statement_in text = unless_fault (first_fault text) (stmt_of (read_of text))

-- what is answered is the statement in a text or its first fault, unless memory runs out
abbrev pub AnswersReading : Result Stmt StmtFault → Result Stmt StmtFault → Type 0
AnswersReading reading (Ok stmt) = reading ≡ Ok stmt
AnswersReading reading (Err (because.Form column)) = reading ≡ Err (because.Form column)
AnswersReading reading (Err (because.Limit column)) = reading ≡ Err (because.Limit column)
AnswersReading reading (Err because.NoMemory) = ⊤
