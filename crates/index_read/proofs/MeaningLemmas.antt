-- The statement that the tokens of a text build is the one that the text writes, by the grammar.
use Rattle.std.proofs.Common.{◌≡◌, ℕ, List, Option, Some, None, Err, refl, subst}
use Rattle.dt_model.specs.declared.statements.Stmt.{Stmt}
use Rattle.index_read.specs.declared.read.StmtFault.{StmtFault}
use Rattle.index_read.specs.declared.read.StmtFault.TheVariants.{Form, Limit, NoMemory}
use Rattle.index_read.specs.Faults.{first_fault}
use Rattle.index_read.specs.Readings.{DescribesFault}
use Rattle.index_read.specs.Building.{stmt_of, read_of}
use Rattle.index_read.specs.Meaning.{StmtText, Reads, AnswersStmt, unless_fault, statement_in}
use Rattle.index_read.proofs.Telling.{first_fault_told}
use Rattle.index_read.proofs.Built.{stmt_text}
use Rattle.index_read.proofs.Answering.{answer_gives}

reads_by : (text : List ℕ) (o : Option StmtFault) → first_fault text ≡ o → Reads text (unless_fault o (stmt_of (read_of text)))
reads_by text None e = stmt_text text e
reads_by text (Some (Form column)) e = subst (DescribesFault text) e (first_fault_told text)
reads_by text (Some (Limit column)) e = subst (DescribesFault text) e (first_fault_told text)
reads_by text (Some NoMemory) e = tt

-- the statement is what the text writes; a fault is where no statement goes on so, or where a limit is passed
pub statement_in-reads : (text : List ℕ) → Reads text (statement_in text)
statement_in-reads text = reads_by text (first_fault text) refl

-- a statement that the text writes is this one, unless a limit is passed
pub statement_in-only : (text : List ℕ) (stmt : Stmt) → StmtText text stmt → AnswersStmt stmt (statement_in text)
statement_in-only text stmt written = answer_gives text (statement_in text) (statement_in-reads text) stmt written

memory_by : (text : List ℕ) (o : Option StmtFault) → first_fault text ≡ o → unless_fault o (stmt_of (read_of text)) ≡ Err NoMemory → ⊥
memory_by text None e h = cc
memory_by text (Some (Form column)) e h = cc
memory_by text (Some (Limit column)) e h = cc
memory_by text (Some NoMemory) e h = subst (DescribesFault text) e (first_fault_told text)

-- it never is that memory runs out
pub statement_in-has_memory : (text : List ℕ) → statement_in text ≡ Err NoMemory → ⊥
statement_in-has_memory text h = memory_by text (first_fault text) refl h
