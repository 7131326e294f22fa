-- What an answer says, from its first fault.
use Rattle.std.proofs.Common.{◌≡◌, ℕ, ◌++◌, List, [], ◌∷◌, refl, ap, sym, ◌∙◌, subst, None, Ok, Err, inl, inr, length, true, ◌≤◌, arith}
use Rattle.std.specs.Prelude.{Result, ◌⊎◌, IfOk, nat_le}
use Rattle.std.proofs.lemmas.List.{append_assoc, map-append}
use Rattle.dt_model.specs.declared.statements.Stmt.{Stmt}
use Rattle.dt_text.specs.declared.spans.Span.{Span}
use Rattle.dt_text.specs.Spans.{bytes_of}
use Rattle.index_read.specs.declared.read.StmtFault.{StmtFault}
use Rattle.index_read.specs.declared.read.StmtFault.TheVariants.{Form, Limit, NoMemory}
use Rattle.index_read.specs.Tokens.{spans_of, token_of}
use Rattle.index_read.specs.Faults.{first_fault, AnswersFault}
use Rattle.index_read.specs.Grammar.{Begins}
use Rattle.index_read.specs.Readings.{tokens_in, IsFormFaultAt, IsFormFaultAtEnd, DescribesFault, IsWritten}
use Rattle.index_read.specs.Building.{stmt_of, read_of}
use Rattle.index_read.specs.Meaning.{StmtText, Reads, AnswersStmt, statement_in, AnswersReading}
use Rattle.index_read.proofs.Telling.{first_fault_told}
use Rattle.index_read.proofs.Built.{stmt_text, one_reading, stmt_counts}
use Rattle.index_read.proofs.Smallness.{meaning_appears}
use Rattle.dt_model.specs.Statements.{accesses, literals}
use Rattle.dt_model.specs.Verdicts.{is_small, is_by_appearance}
use Rattle.std.proofs.lemmas.Bool.Decides.{nat_tests}

-- what an answer says of the text
pub answer_reads : (text : List ℕ) (r : Result Stmt StmtFault) → AnswersFault r (first_fault text) → IfOk r (λ s. s ≡ stmt_of (read_of text)) → Reads text r
answer_reads text (Ok s) f v = subst (λ x. StmtText text x) (sym v) (stmt_text text f)
answer_reads text (Err (Form c)) f v = subst (DescribesFault text) f (first_fault_told text)
answer_reads text (Err (Limit c)) f v = subst (DescribesFault text) f (first_fault_told text)
answer_reads text (Err NoMemory) f v = tt

-- the tokens up to one of a statement begin it
begins_front : (text : List ℕ) (w : IsWritten text) (front behind : List Span) (token : Span) → spans_of text ≡ front ++ token ∷ behind
    → Begins (tokens_in text (front ++ token ∷ []))
begins_front text w front behind token split =
    record {
      left = w.left;
      right = w.right;
      more = tokens_in text behind;
      is = sym (map-append (λ s. token_of (bytes_of text s)) (front ++ token ∷ []) behind)
          ∙ ap (tokens_in text) (append_assoc front (token ∷ []) behind ∙ sym split) ∙ w.is;
    }

no_form : (text : List ℕ) (c : ℕ) → IsWritten text → IsFormFaultAt text c ⊎ IsFormFaultAtEnd text c → ⊥
no_form text c w (inl s) = s.stops (begins_front text w s.front s.behind s.token s.split)
no_form text c w (inr e) = e.lacks w

-- a statement of the text is answered
pub answer_gives : (text : List ℕ) (r : Result Stmt StmtFault) → Reads text r → (stmt : Stmt) → StmtText text stmt → AnswersStmt stmt r
answer_gives text (Ok s) f stmt w = one_reading text s stmt f w
answer_gives text (Err (Form c)) f stmt w = absurd (no_form text c (record { left = w.left; right = w.right; is = w.written }) f)
answer_gives text (Err (Limit c)) f stmt w = tt
answer_gives text (Err NoMemory) f stmt w = tt

-- what is read is small
pub small_stmt : (text : List ℕ) → first_fault text ≡ None → (s : Stmt) → s ≡ stmt_of (read_of text) → StmtText text s → is_small s ≡ true
small_stmt text none s is w =
    let few = stmt_counts text none s w in
    let vars : length s.vars.items ≤ 8 = subst (λ x. length x.vars.items ≤ 8) (sym is) few.2 in
    let accesses_few : nat_le (length (accesses s.right)) 12 ≡ true = grind (arith, nat_tests, few.0) in
    let literals_few : nat_le (length (literals s.right)) 12 ≡ true = grind (arith, nat_tests, few.1) in
    let vars_few : nat_le (length s.vars.items) 8 ≡ true = grind (arith, nat_tests, vars) in
    let order : is_by_appearance s ≡ true = ap is_by_appearance w.means ∙ meaning_appears w.left w.right in
    rw (accesses_few, literals_few, vars_few, order) refl

-- an answered statement is small
pub answer_small : (text : List ℕ) (r : Result Stmt StmtFault) → AnswersFault r (first_fault text) → IfOk r (λ s. s ≡ stmt_of (read_of text)) → Reads text r
    → IfOk r (λ s. is_small s ≡ true)
answer_small text (Ok s) f v w = small_stmt text f s v w
answer_small text (Err e) f v w = tt

-- an answer is the statement in the text, or its first fault
pub answer_value : (text : List ℕ) (r : Result Stmt StmtFault) → AnswersFault r (first_fault text) → IfOk r (λ s. s ≡ stmt_of (read_of text))
    → AnswersReading (statement_in text) r
answer_value text (Ok s) f v = rw f (ap Ok (sym v))
answer_value text (Err (Form c)) f v = rw f refl
answer_value text (Err (Limit c)) f v = rw f refl
answer_value text (Err NoMemory) f v = tt
