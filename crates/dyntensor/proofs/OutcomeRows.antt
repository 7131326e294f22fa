-- The rows of outcomes are those that a report has for the lines.
use Rattle.std.proofs.Common.{◌≡◌, ℕ, zero, suc, ◌+◌, ◌≤◌, ◌++◌, List, [], ◌∷◌, length, refl, ap, ◌∙◌, arith, Option, Some, None, All}
use Rattle.std.specs.Prelude.{codes}
use Rattle.std.specs.List.{flat_map, enumerate_from}
use Rattle.std.specs.Fmt.{decimal}
use Rattle.dt_model.specs.declared.calls.Entry.{Entry}
use Rattle.dt_model.specs.declared.replies.Reply.{Reply}
use Rattle.dt_model.specs.declared.replies.Verdict.{Verdict}
use Rattle.dt_model.specs.declared.replies.Verdict.TheVariants.{Accepted, Refused}
use Rattle.dt_model.specs.declared.replies.World.{World}
use Rattle.dt_model.specs.Report.{lines_rows, line_rows, session_rows}
use Rattle.dt_model.specs.Runs.{reply_of_turn}
use Rattle.dt_model.proofs.Booleans.{All-rest}
use Rattle.sessions.specs.Outcomes.{outcome_of, line_outcomes, session_outcomes, outcomes_from, outcomes_after}
use Rattle.dyntensor.specs.Rows.{numbered_rows, outcome_rows, outcomes_rows}

-- ---- rows

-- the rows of a line's outcome
outcome_rows-of : (n : ℕ) (v : Verdict) (reply : Option Reply) → outcome_rows n (outcome_of v reply) ≡ line_rows n v reply
outcome_rows-of n (Refused r) reply = refl
outcome_rows-of n (Accepted call) None = refl
outcome_rows-of n (Accepted call) (Some reply) = refl

-- the rows of a script's outcomes
lines_rows-of : (r : ℕ → Option Reply) (n : ℕ) (vs : List Verdict)
    → flat_map (λ q. outcome_rows q.0 q.1) (enumerate_from n (line_outcomes r n vs)) ≡ lines_rows r n vs
lines_rows-of r n [] = refl
lines_rows-of r n (v ∷ vs) =
    ap (λ rows. rows ++ flat_map (λ q. outcome_rows q.0 q.1) (enumerate_from (n + 1) (line_outcomes r (n + 1) vs))) (outcome_rows-of n v (r n))
    ∙ ap (λ rows. line_rows n v (r n) ++ rows) (lines_rows-of r (n + 1) vs)

-- the rows of some sessions' outcomes
rows_from : (w : World) (es : List Entry) (n : ℕ) (scripts : List (List Verdict))
    → flat_map (λ q. outcomes_rows q.0 q.1) (enumerate_from n (outcomes_from w es n scripts)) ≡ flat_map (session_rows w es) (enumerate_from n scripts)
rows_from w es n [] = refl
rows_from w es n (script ∷ scripts) =
    ap (λ rows. ((codes "session" ∷ decimal n ∷ []) ∷ rows)
    ++ flat_map (λ q. outcomes_rows q.0 q.1) (enumerate_from (n + 1) (outcomes_from w es (n + 1) scripts)))
    (lines_rows-of (reply_of_turn w es n) 1 script)
    ∙ ap (λ rows. session_rows w es (n, script) ++ rows) (rows_from w es (n + 1) scripts)

-- the rows of the outcomes of all sessions are those of a report
pub numbered_rows-outcomes : (w : World) (es : List Entry) (scripts : List (List Verdict))
    → numbered_rows outcomes_rows (outcomes_after w es scripts) ≡ flat_map (session_rows w es) (enumerate_from 1 scripts)
numbered_rows-outcomes w es scripts = rows_from w es 1 scripts

-- ---- lengths

-- there is an outcome for each line
length-lines : (r : ℕ → Option Reply) (n : ℕ) (vs : List Verdict) → length (line_outcomes r n vs) ≡ length vs
length-lines r n [] = refl
length-lines r n (v ∷ vs) = ap suc (length-lines r (n + 1) vs)

-- there is a list for each session
length-from : (w : World) (es : List Entry) (n : ℕ) (scripts : List (List Verdict)) → length (outcomes_from w es n scripts) ≡ length scripts
length-from w es n [] = refl
length-from w es n (script ∷ scripts) = ap suc (length-from w es (n + 1) scripts)

-- there is a list for each of all sessions
pub length-outcomes : (w : World) (es : List Entry) (scripts : List (List Verdict)) → length (outcomes_after w es scripts) ≡ length scripts
length-outcomes w es scripts = length-from w es 1 scripts

few_from : (w : World) (es : List Entry) (n most : ℕ) (scripts : List (List Verdict)) → All (λ script. length script ≤ most) scripts
    → All (λ outcomes. length outcomes ≤ most) (outcomes_from w es n scripts)
few_from w es n most [] h k d l = absurd (omega (arith, l))
few_from w es n most (script ∷ scripts) h zero d l =
    let same : length (session_outcomes w es n script) ≡ length script = length-lines (reply_of_turn w es n) 1 script in
    let few : length script ≤ most = h 0 script (omega arith) in
    omega arith
few_from w es n most (script ∷ scripts) h (suc k) d l =
    few_from w es (n + 1) most scripts (All-rest (λ (s : List Verdict). length s ≤ most) script scripts h) k d (omega arith)

-- no session has more outcomes than a script may have lines
pub few_outcomes : (w : World) (es : List Entry) (most : ℕ) (scripts : List (List Verdict)) → All (λ script. length script ≤ most) scripts
    → All (λ outcomes. length outcomes ≤ most) (outcomes_after w es scripts)
few_outcomes w es most scripts h = few_from w es 1 most scripts h
