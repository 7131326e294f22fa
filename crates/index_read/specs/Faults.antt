-- The first fault of a text, and its column.
use Rattle.std.specs.Prelude.{⊤, ℕ, ◌+◌, ◌≡◌, ◌==◌, Bool, false, List, [], ◌∷◌, Option, Some, None, Result, Ok, Err, if◌then◌else◌}
use Rattle.dt_text.specs.declared.spans.Span.{Span}
use Rattle.dt_text.specs.Spans.{bytes_of}
use Rattle.index_read.specs.declared.scan.Scan.{Scan}
use Rattle.index_read.specs.declared.scan.Fault.{Fault}
use Rattle.index_read.specs.declared.scan.Fault.TheVariants as because
use Rattle.index_read.specs.declared.roles.Role.{Role}
use Rattle.index_read.specs.declared.roles.Place.{Place}
use Rattle.index_read.specs.declared.roles.Place.TheVariants as at
use Rattle.index_read.specs.declared.read.StmtFault.{StmtFault}
use Rattle.index_read.specs.declared.read.StmtFault.TheVariants.{Form, Limit, NoMemory}
use Rattle.index_read.specs.Tokens.{spans_of, token_of}
use Rattle.index_read.specs.Scans.{at_first, step}

-- a statement may end here
abbrev pub may_end : Place → ℕ → Bool
may_end at.After n = n == 0
may_end place n = false

-- whether a statement may end where a scan is
abbrev pub is_end : Scan → Bool
is_end s = may_end s.place s.depth

-- a fault as it is answered
abbrev pub fault_at : Fault → ℕ → StmtFault
fault_at because.Form column = Form column
fault_at because.Limit column = Limit column

-- the column of a fault; 0 where memory runs out
abbrev pub column_of : StmtFault → ℕ
column_of (Form column) = column
column_of (Limit column) = column
column_of NoMemory = 0

-- a fault at a column, or what the rest has
abbrev pub fault_or : ℕ → Result (Scan × Role) Fault → (Scan → Option StmtFault) → Option StmtFault
fault_or column (Err f) rest = Some (fault_at f column)
fault_or column (Ok r) rest = rest r.0

-- the first fault of the tokens that are left, where those read end at a place
abbrev pub fault_from : List ℕ → Scan → ℕ → List Span → Option StmtFault
fault_from text s end [] = if is_end s then None else Some (Form (end + 1))
fault_from text s end (x ∷ xs) = fault_or (x.from + 1) (step s (token_of (bytes_of text x))) (λ r. fault_from text r x.to xs)

-- the first fault of a text
abbrev pub first_fault : List ℕ → Option StmtFault
first_fault text = fault_from text at_first 0 (spans_of text)

-- what is answered is the first fault, or that memory runs out; nothing is wrong where the text is read
abbrev pub AnswersFault : {A : Type 0} → Result A StmtFault → Option StmtFault → Type 0
AnswersFault (Ok a) fault = fault ≡ None
AnswersFault (Err NoMemory) fault = ⊤
AnswersFault (Err (Form column)) fault = fault ≡ Some (Form column)
AnswersFault (Err (Limit column)) fault = fault ≡ Some (Limit column)
