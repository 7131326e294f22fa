-- The outcomes of one line more, of one session more, and after more entries.
use Rattle.std.proofs.Common.{◌≡◌, ℕ, ◌+◌, ◌<◌, ◌≤◌, List, [], ◌∷◌, ◌++◌, length, take, get_or, refl, sym, ap, ◌∙◌, arith, Option}
use Rattle.std.proofs.lemmas.List.{take_more, take_all}
use Rattle.std.proofs.lemmas.Grind.{common_steps}
use Rattle.dt_model.specs.declared.calls.Entry.{Entry}
use Rattle.dt_model.specs.declared.replies.Reply.{Reply}
use Rattle.dt_model.specs.declared.replies.Verdict.{Verdict}
use Rattle.dt_model.specs.declared.replies.World.{World}
use Rattle.dt_model.specs.Runs.{reply_of_turn}
use Rattle.sessions.specs.declared.outcomes.Outcome.{Outcome}
use Rattle.sessions.specs.Outcomes.{outcome_of, line_outcomes, session_outcomes, outcomes_from, outcomes_after}

-- ---- lines

-- the same replies give the same outcomes
pub line_outcomes-same : (r q : ℕ → Option Reply) (n : ℕ) (vs : List Verdict) → ((k : ℕ) → n ≤ k → k < n + length vs → r k ≡ q k)
    → line_outcomes r n vs ≡ line_outcomes q n vs
line_outcomes-same r q n [] h = refl
line_outcomes-same r q n (v ∷ vs) h =
    let here : r n ≡ q n = h n (omega arith) (omega arith) in
    rw (here, line_outcomes-same r q (n + 1) vs (λ k low high. h k (omega arith) (omega arith))) refl

-- the outcome of a line that follows comes after those of the lines before it
pub line_outcomes-push : (r : ℕ → Option Reply) (n : ℕ) (vs : List Verdict) (v : Verdict) (k : ℕ) → k ≡ n + length vs
    → line_outcomes r n (vs ++ v ∷ []) ≡ line_outcomes r n vs ++ outcome_of v (r k) ∷ []
line_outcomes-push r n [] v k e = let same : k ≡ n = omega arith in rw same refl
line_outcomes-push r n (x ∷ vs) v k e = ap (λ (os : List Outcome). outcome_of x (r n) ∷ os) (line_outcomes-push r (n + 1) vs v k (omega arith))

-- one line more: the replies to the lines before it are as they were
pub line_outcomes-more : (r q : ℕ → Option Reply) (script : List Verdict) (i : ℕ) (v : Verdict) → i < length script → get_or script i v ≡ v
    → ((k : ℕ) → 1 ≤ k → k ≤ i → r k ≡ q k)
    → line_outcomes r 1 (take (i + 1) script) ≡ line_outcomes q 1 (take i script) ++ outcome_of v (r (i + 1)) ∷ []
line_outcomes-more r q script i v l e same =
    let len : length (take i script) ≡ i = grind (arith, common_steps) in
    ap (line_outcomes r 1) (take_more script i v l)
    ∙ ap (λ x. line_outcomes r 1 (take i script ++ x ∷ [])) e
    ∙ line_outcomes-push r 1 (take i script) v (i + 1) (omega arith)
    ∙ ap (λ (os : List Outcome). os ++ outcome_of v (r (i + 1)) ∷ [])
    (line_outcomes-same r q 1 (take i script) (λ k low high. same k low (omega arith)))

-- ---- sessions

-- the same replies give the same outcomes
pub outcomes_from-same : (w : World) (a b : List Entry) (n : ℕ) (scripts : List (List Verdict))
    → ((s k : ℕ) → n ≤ s → s < n + length scripts → reply_of_turn w a s k ≡ reply_of_turn w b s k)
    → outcomes_from w a n scripts ≡ outcomes_from w b n scripts
outcomes_from-same w a b n [] h = refl
outcomes_from-same w a b n (script ∷ scripts) h =
    let here : session_outcomes w a n script ≡ session_outcomes w b n script =
    line_outcomes-same (reply_of_turn w a n) (reply_of_turn w b n) 1 script (λ k low high. h n k (omega arith) (omega arith)) in
    rw (here, outcomes_from-same w a b (n + 1) scripts (λ s k low high. h s k (omega arith) (omega arith))) refl

-- the outcomes of a session that follows come after those of the sessions before it
pub outcomes_from-push : (w : World) (es : List Entry) (n : ℕ) (scripts : List (List Verdict)) (script : List Verdict) (s : ℕ) → s ≡ n + length scripts
    → outcomes_from w es n (scripts ++ script ∷ []) ≡ outcomes_from w es n scripts ++ session_outcomes w es s script ∷ []
outcomes_from-push w es n [] script s e = let same : s ≡ n = omega arith in rw same refl
outcomes_from-push w es n (x ∷ scripts) script s e =
    ap (λ (os : List (List Outcome)). session_outcomes w es n x ∷ os) (outcomes_from-push w es (n + 1) scripts script s (omega arith))

-- one session more: the replies of the sessions before it are as they were
pub outcomes_from-more : (w : World) (scripts : List (List Verdict)) (m : ℕ) (a b : List Entry) (before : List (List Outcome)) (last : List Outcome)
    → m < length scripts → before ≡ outcomes_from w a 1 (take m scripts)
    → ((s k : ℕ) → 1 ≤ s → s ≤ m → reply_of_turn w b s k ≡ reply_of_turn w a s k)
    → last ≡ session_outcomes w b (m + 1) (get_or scripts m [])
    → before ++ last ∷ [] ≡ outcomes_from w b 1 (take (m + 1) scripts)
outcomes_from-more w scripts m a b before last l is same here =
    let len : length (take m scripts) ≡ m = grind (arith, common_steps) in
    ap (λ (os : List (List Outcome)). os ++ last ∷ []) (is ∙ sym (outcomes_from-same w b a 1 (take m scripts) (λ s k low high. same s k low (omega arith))))
    ∙ ap (λ (o : List Outcome). outcomes_from w b 1 (take m scripts) ++ o ∷ []) here
    ∙ sym (outcomes_from-push w b 1 (take m scripts) (get_or scripts m []) (m + 1) (omega arith))
    ∙ ap (outcomes_from w b 1) (sym (take_more scripts m [] l))

-- all sessions
pub outcomes_after-all : (w : World) (scripts : List (List Verdict)) (es : List Entry) (m : ℕ) → length scripts ≤ m
    → outcomes_from w es 1 (take m scripts) ≡ outcomes_after w es scripts
outcomes_after-all w scripts es m l = ap (outcomes_from w es 1) (take_all m scripts l)
