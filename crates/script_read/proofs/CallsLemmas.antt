-- Calls, word by word.
use Rattle.std.proofs.Common.{◌≡◌, ◌+◌, ◌∷◌, [], ℕ, true, List, drop, Option, Some, None, Result, Ok, Err, refl, sym, subst}
use Rattle.std.specs.Prelude.{⊤, MatchResult}
use Rattle.dt_model.specs.declared.replies.Refusal.TheVariants.{Form, Limit}
use Rattle.dt_model.specs.declared.statements.Stmt.{Stmt}
use Rattle.dt_model.specs.declared.written.UpdateKind.{UpdateKind}
use Rattle.dt_model.specs.declared.written.UpdateKind.TheVariants as kind
use Rattle.dt_model.specs.declared.written.WrittenCall.{WrittenCall}
use Rattle.dt_model.specs.declared.written.WrittenCall.TheVariants as written
use Rattle.dt_model.specs.Names.{is_name}
use Rattle.index_read.specs.declared.read.StmtFault.{StmtFault}
use Rattle.index_read.specs.declared.read.StmtFault.TheVariants as fault
use Rattle.index_read.specs.Meaning.{statement_in, AnswersReading, Reads, StmtText}
use Rattle.index_read.proofs.NamedStatements.{IsNamedStmt, statement_in-named}
use Rattle.index_read.proofs.MeaningLemmas.{statement_in-reads}
use Rattle.script_read.specs.declared.line_faults.LineFault.{LineFault}
use Rattle.script_read.specs.declared.line_faults.LineFault.TheVariants as line
use Rattle.script_read.specs.declared.verbs.Verb.{Verb}
use Rattle.script_read.specs.declared.verbs.Verb.TheVariants as verb
use Rattle.script_read.specs.Readings.{◌>>=◌}
use Rattle.script_read.specs.LineFaults.{Gives, IsLineFault}
use Rattle.script_read.specs.Verbs.{verb_of}
use Rattle.script_read.specs.Updates.{written_name, written_coordinates, written_update}
use Rattle.script_read.specs.Batches.{parts_of, without_blank_end, written_updates, written_batch}
use Rattle.script_read.specs.Calls.{written_single, written_get, stmt_behind, written_query, call_of_verb, call_of_words}
use Rattle.script_read.proofs.UpdatesLemmas.{IsNamedRefusal, then_fits, name_fits, coordinates_fit, update_fits}
use Rattle.script_read.proofs.BatchesLemmas.{AreNamedUpdates, written_updates-named}

-- ---- statements

-- the answer for a query
abbrev GivesQuery : ℕ → Result Stmt StmtFault → LineFault → Type 0
GivesQuery before r l = Gives {X = WrittenCall} (stmt_behind before r >>= (λ s. Ok (written.Query s))) (Err l)

given_at : (before : ℕ) (r s : Result Stmt StmtFault) (l k : LineFault) → r ≡ s → l ≡ k → GivesQuery before s k → GivesQuery before r l
given_at before r s l k e f h = subst (λ x. GivesQuery before x l) (sym e) (subst (λ x. GivesQuery before s x) (sym f) h)

fault_given : (before : ℕ) (r : Result Stmt StmtFault) (f : StmtFault) (l : LineFault) → AnswersReading r (Err f) → IsLineFault before f l
    → GivesQuery before r l
fault_given before r (fault.Form column) l h k = given_at before r (Err (fault.Form column)) l (line.Refused (Form (before + column))) h k refl
fault_given before r (fault.Limit column) l h k = given_at before r (Err (fault.Limit column)) l (line.Refused (Limit (before + column))) h k refl
fault_given before r fault.NoMemory l h k = given_at before r r l line.NoMemory refl k tt

-- a fault that is answered for the statement behind so many bytes is that of its line
pub written_query-fault : (before : ℕ) (line text : List ℕ) (f : StmtFault) (l : LineFault) → text ≡ drop before line
    → AnswersReading (statement_in text) (Err f) → IsLineFault before f l → Gives (written_query before line) (Err l)
written_query-fault before line text f l behind h k =
    subst (λ t. GivesQuery before (statement_in t) l) behind (fault_given before (statement_in text) f l h k)

written_by : (before : ℕ) (text : List ℕ) (r : Result Stmt StmtFault) (stmt : Stmt) → Reads text r
    → (stmt_behind before r >>= (λ s. Ok (written.Query s))) ≡ Ok (written.Query stmt) → StmtText text stmt
written_by before text (Ok s) stmt h e = let same : s ≡ stmt = cc in subst (StmtText text) same h
written_by before text (Err (fault.Form column)) stmt h e = absurd (let no : ⊥ = cc in no)
written_by before text (Err (fault.Limit column)) stmt h e = absurd (let no : ⊥ = cc in no)
written_by before text (Err fault.NoMemory) stmt h e = absurd (let no : ⊥ = cc in no)

-- the query of a line is the statement that the bytes behind its verb write, by the grammar
pub written_query-writes : (before : ℕ) (line : List ℕ) (stmt : Stmt) → written_query before line ≡ Ok (written.Query stmt) → StmtText (drop before line) stmt
written_query-writes before line stmt e = written_by before (drop before line) (statement_in (drop before line)) stmt
    (statement_in-reads (drop before line)) e

-- ---- what is read names names

-- a call of 1 to 64 updates, or of a cell, each of a tensor with a name, or a small statement whose names are names
abbrev pub IsNamedCall : WrittenCall → Type 0
IsNamedCall (written.Get n cs) = is_name n ≡ true
IsNamedCall (written.Batch us) = AreNamedUpdates us
IsNamedCall (written.Query s) = IsNamedStmt s

single_fits : (k : UpdateKind) (end : ℕ) (ws : List (ℕ × List ℕ)) → MatchResult (written_single k end ws) IsNamedCall IsNamedRefusal
single_fits k end ws = then_fits (λ u. is_name u.name ≡ true) IsNamedCall (written_update k end ws) (λ u. Ok (written.Batch (u ∷ []))) (update_fits k end ws)
    (λ u named. (refl, refl, rw named refl))

get_fits : (end : ℕ) (ws : List (ℕ × List ℕ)) → MatchResult (written_get end ws) IsNamedCall IsNamedRefusal
get_fits end [] = refl
get_fits end (w ∷ ws) = then_fits (λ n. is_name n ≡ true) IsNamedCall (written_name w) (λ n. written_coordinates ws >>= (λ cs. Ok (written.Get n cs)))
    (name_fits w)
    (λ n named. then_fits (λ x. Unit {0}) IsNamedCall (written_coordinates ws) (λ cs. Ok (written.Get n cs)) (coordinates_fit ws) (λ cs _. named))

batch_fits : (before : ℕ) (line : List ℕ) → MatchResult (written_batch before line) IsNamedCall IsNamedRefusal
batch_fits before line =
    let text = drop before (without_blank_end line) in
    then_fits AreNamedUpdates IsNamedCall (written_updates (parts_of before text)) (λ us. Ok (written.Batch us)) (written_updates-named before text)
    (λ us named. named)

stmt_fits : (before : ℕ) (r : Result Stmt StmtFault) → MatchResult r IsNamedStmt (λ fault. ⊤) → MatchResult (stmt_behind before r) IsNamedStmt IsNamedRefusal
stmt_fits before (Ok stmt) h = h
stmt_fits before (Err (fault.Form column)) h = refl
stmt_fits before (Err (fault.Limit column)) h = refl
stmt_fits before (Err fault.NoMemory) h = refl

query_fits : (before : ℕ) (line : List ℕ) → MatchResult (written_query before line) IsNamedCall IsNamedRefusal
query_fits before line =
    then_fits IsNamedStmt IsNamedCall (stmt_behind before (statement_in (drop before line))) (λ s. Ok (written.Query s))
    (stmt_fits before (statement_in (drop before line)) (statement_in-named (drop before line))) (λ s named. named)

verb_fits : (line : List ℕ) (column end : ℕ) (o : Option Verb) (ws : List (ℕ × List ℕ))
    → MatchResult (call_of_verb line column end o ws) IsNamedCall IsNamedRefusal
verb_fits line column end None ws = refl
verb_fits line column end (Some verb.Set) ws = single_fits kind.Set end ws
verb_fits line column end (Some verb.Add) ws = single_fits kind.Add end ws
verb_fits line column end (Some verb.Get) ws = get_fits end ws
verb_fits line column end (Some verb.Batch) ws = batch_fits (column + 4) line
verb_fits line column end (Some verb.Query) ws = query_fits (column + 4) line

-- the call that the words of a line write names names, or its refusal does
pub call_of_words-named : (line : List ℕ) (end : ℕ) (ws : List (ℕ × List ℕ)) → MatchResult (call_of_words line end ws) IsNamedCall IsNamedRefusal
call_of_words-named line end [] = refl
call_of_words-named line end (w ∷ ws) = verb_fits line w.0 end (verb_of w.1) ws
