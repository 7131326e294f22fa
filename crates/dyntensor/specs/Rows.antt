-- The rows of lines by their outcomes. No public clause cites this module.
use Rattle.std.specs.Prelude.{ℕ, List, [], ◌∷◌, codes}
use Rattle.std.specs.List.{flat_map, enumerate_from}
use Rattle.std.specs.Fmt.{decimal}
use Rattle.dt_model.specs.Report.{refusal_words, reply_rows}
use Rattle.sessions.specs.declared.outcomes.Outcome.{Outcome}
use Rattle.sessions.specs.declared.outcomes.Outcome.TheVariants.{Refused, Reply, NoMemory}

-- the rows of elements one after the other, each by its number, which counts from 1
abbrev pub numbered_rows : {X : Type 0} → (ℕ → X → List (List (List ℕ))) → List X → List (List (List ℕ))
numbered_rows rows xs = flat_map (λ q. rows q.0 q.1) (enumerate_from 1 xs)

-- the rows of line n: its refusal, the reply of its call, or that the call ran out of memory
abbrev pub outcome_rows : ℕ → Outcome → List (List (List ℕ))
outcome_rows n (Refused r) = (decimal n ∷ codes "refused" ∷ refusal_words r) ∷ []
outcome_rows n (Reply reply) = reply_rows n reply
outcome_rows n NoMemory = (decimal n ∷ codes "no" ∷ codes "memory" ∷ []) ∷ []

-- the rows of session n
abbrev pub outcomes_rows : ℕ → List Outcome → List (List (List ℕ))
outcomes_rows n outcomes = (codes "session" ∷ decimal n ∷ []) ∷ numbered_rows outcome_rows outcomes
