-- The calls that the lines of a script write, or the column of the first fault of their form.
use Rattle.std.specs.Prelude.{ℕ, ◌+◌, List, [], ◌∷◌, drop, Option, Some, None, Result, Ok, Err}
use Rattle.dt_model.specs.declared.replies.Refusal.{Refusal}
use Rattle.dt_model.specs.declared.replies.Refusal.TheVariants.{Form, Limit}
use Rattle.dt_model.specs.declared.statements.Stmt.{Stmt}
use Rattle.dt_model.specs.declared.written.UpdateKind.{UpdateKind}
use Rattle.dt_model.specs.declared.written.UpdateKind.TheVariants as kind
use Rattle.dt_model.specs.declared.written.WrittenCall.{WrittenCall}
use Rattle.dt_model.specs.declared.written.WrittenCall.TheVariants as written
use Rattle.dt_text.specs.Spans.{end_column}
use Rattle.index_read.specs.declared.read.StmtFault.{StmtFault}
use Rattle.index_read.specs.declared.read.StmtFault.TheVariants as fault
use Rattle.index_read.specs.Meaning.{statement_in}
use Rattle.script_read.specs.Readings.{◌>>=◌}
use Rattle.script_read.specs.Words.{columned_words}
use Rattle.script_read.specs.declared.verbs.Verb.{Verb}
use Rattle.script_read.specs.declared.verbs.Verb.TheVariants as verb
use Rattle.script_read.specs.Verbs.{verb_of}
use Rattle.script_read.specs.Updates.{written_name, written_coordinates, written_update}
use Rattle.script_read.specs.Batches.{written_batch}

-- ---- cells; a missing word would stand at the column `end`

-- `NAME C1 .. Cr VALUE`, as a batch of one update
abbrev pub written_single : UpdateKind → ℕ → List (ℕ × List ℕ) → Result WrittenCall Refusal
written_single kind end ws = written_update kind end ws >>= (λ u. Ok (written.Batch (u ∷ [])))

-- `NAME C1 .. Cr`
abbrev pub written_get : ℕ → List (ℕ × List ℕ) → Result WrittenCall Refusal
written_get end [] = Err (Form end)
written_get end (w ∷ ws) = written_name w >>= (λ n. written_coordinates ws >>= (λ cs. Ok (written.Get n cs)))

-- ---- statements

-- the statement that was read, or why there is none, where so many bytes of the line are before its text; a statement in a
-- text never is `NoMemory`, so the last case is there only because each value of the type has one
abbrev pub stmt_behind : ℕ → Result Stmt StmtFault → Result Stmt Refusal
stmt_behind before (Ok stmt) = Ok stmt
stmt_behind before (Err (fault.Form column)) = Err (Form (before + column))
stmt_behind before (Err (fault.Limit column)) = Err (Limit (before + column))
stmt_behind before (Err fault.NoMemory) = Err (Limit before)

-- the query of the statement that is behind so many bytes of a line
abbrev pub written_query : ℕ → List ℕ → Result WrittenCall Refusal
written_query before line = stmt_behind before (statement_in (drop before line)) >>= (λ s. Ok (written.Query s))

-- ---- lines

-- the call of the verb at this column of a line and of the words behind it; the updates of a batch and the statement of a
-- query are the line behind the five bytes of the verb
abbrev pub call_of_verb : List ℕ → ℕ → ℕ → Option Verb → List (ℕ × List ℕ) → Result WrittenCall Refusal
call_of_verb line column end None ws = Err (Form column)
call_of_verb line column end (Some verb.Set) ws = written_single kind.Set end ws
call_of_verb line column end (Some verb.Add) ws = written_single kind.Add end ws
call_of_verb line column end (Some verb.Get) ws = written_get end ws
call_of_verb line column end (Some verb.Batch) ws = written_batch (column + 4) line
call_of_verb line column end (Some verb.Query) ws = written_query (column + 4) line

-- the call that the words of a line write
abbrev pub call_of_words : List ℕ → ℕ → List (ℕ × List ℕ) → Result WrittenCall Refusal
call_of_words line end [] = Err (Form end)
call_of_words line end (w ∷ ws) = call_of_verb line w.0 end (verb_of w.1) ws

-- the call that a line writes, or the column of the first fault of its form
abbrev pub written_call : List ℕ → Result WrittenCall Refusal
written_call line = call_of_words line (end_column line) (columned_words 0 line)
