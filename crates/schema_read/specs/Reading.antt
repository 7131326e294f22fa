-- The schemas of a text or its first fault, as a function of the text: the tokens are read from left to right.
use Rattle.std.specs.Prelude.{⊤, ℕ, ◌≡◌, List, [], ◌∷◌, take, Result, Ok, Err, if◌then◌else◌}
use Rattle.dt_text.specs.declared.spans.Span.{Span}
use Rattle.dt_text.specs.Spans.{bytes_of}
use Rattle.dt_model.specs.declared.declared_tensors.Schema.{Schema}
use Rattle.schema_read.specs.declared.scan.Scan.{Scan}
use Rattle.schema_read.specs.declared.scan.Fault.{Fault}
use Rattle.schema_read.specs.declared.scan.Fault.TheVariants as because
use Rattle.schema_read.specs.declared.roles.Role.{Role}
use Rattle.schema_read.specs.declared.draft.Draft.{Draft}
use Rattle.schema_read.specs.declared.read.SchemaFault.{SchemaFault}
use Rattle.schema_read.specs.declared.read.SchemaFault.TheVariants.{Form, Limit, NoMemory}
use Rattle.schema_read.specs.Tokens.{spans_of, token_of}
use Rattle.schema_read.specs.Places.{line_behind, column_behind, text_end}
use Rattle.schema_read.specs.Scans.{at_first, is_end, step}
use Rattle.schema_read.specs.Building.{no_draft, with_role}

-- a fault at a place of a text
abbrev pub fault_at : List ℕ → Fault → ℕ → SchemaFault
fault_at text because.Form place = Form (line_behind (take place text)) (column_behind (take place text))
fault_at text because.Limit place = Limit (line_behind (take place text)) (column_behind (take place text))

-- a fault at a place, or what the rest has
abbrev pub reading_or : List ℕ → ℕ → Result (Scan × Role) Fault → (Scan → Role → Result (List Schema) SchemaFault) → Result (List Schema) SchemaFault
reading_or text place (Err f) rest = Err (fault_at text f place)
reading_or text place (Ok r) rest = rest r.0 r.1

-- the schemas that the tokens which are left complete, or the first fault
abbrev pub read_from : List ℕ → Scan → Draft → List Span → Result (List Schema) SchemaFault
read_from text s d [] = if is_end s.place then Ok d.schemas else Err (fault_at text because.Form (text_end text))
read_from text s d (x ∷ xs) = reading_or text x.from (step s (token_of (bytes_of text x))) (λ r role. read_from text r (with_role d role) xs)

-- the schemas of a text, or its first fault
abbrev pub schemas_in : List ℕ → Result (List Schema) SchemaFault
schemas_in text = read_from text at_first no_draft (spans_of text)

-- what is answered are the schemas of a text or its first fault, unless memory runs out
abbrev pub AnswersReading : Result (List Schema) SchemaFault → Result (List Schema) SchemaFault → Type 0
AnswersReading reading (Ok schemas) = reading ≡ Ok schemas
AnswersReading reading (Err (Form line column)) = reading ≡ Err (Form line column)
AnswersReading reading (Err (Limit line column)) = reading ≡ Err (Limit line column)
AnswersReading reading (Err NoMemory) = ⊤
