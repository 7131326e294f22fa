-- How many entries a history can have of all sessions together.
use Rattle.std.proofs.Common.{◌≡◌, ℕ, ◌+◌, ◌*◌, ◌≤◌, Bool, true, false, cond, List, []}
use Rattle.std.proofs.Common.{◌∷◌, length, refl, ap, ◌∙◌, arith, suc, zero, IsTrue, nat_le}
use Rattle.std.specs.Prelude.{◌==◌, if◌then◌else◌}
use Rattle.std.proofs.Math.Nat.{add-mul, one-mul}
use Rattle.std.proofs.lemmas.Bool.Decides.{nat_tests}
use Rattle.dt_model.specs.declared.calls.Entry.{Entry}
use Rattle.dt_model.specs.declared.declared_tensors.Decls.{Decls}
use Rattle.dt_model.specs.declared.replies.World.{World}
use Rattle.dt_model.specs.declared.limits.TheConstants.{MOST_SESSIONS, MOST_CALLS}
use Rattle.dt_model.specs.Runs.{IsLegal, IsOrder}
use Rattle.dt_model.specs.Worlds.{IsValid}
use Rattle.dt_model.proofs.RunsLemmas.{Each, Each-weaker, Each-from_All}
use Rattle.dt_model.proofs.SessionCounts.{EachInScriptOrder-from_AllPairs, count_of, IsBetween, count_of-between}

other_number : (a b c : ℕ) → (a == b) ≡ false → a ≤ b → b ≡ c + 1 → a ≤ c
other_number a b c t l e = grind (arith, nat_tests)

-- the entries of other sessions
abbrev pub without : ℕ → List Entry → List Entry
without s [] = []
without s (e ∷ es) = if e.turn.session == s then without s es else e ∷ without s es

-- each entry is of session s or of another
pub length-without : (s : ℕ) (es : List Entry) → length es ≡ count_of s es + length (without s es)
length-without s [] = refl
length-without s (e ∷ es) = by_session (e.turn.session == s) (length-without s es)
  where
    by_session : (b : Bool) → length es ≡ count_of s es + length (without s es)
        → suc (length es) ≡ cond b (count_of s es + 1) (count_of s es) + length (cond b (without s es) (e ∷ without s es))
    by_session true h = omega (arith, h)
    by_session false h = omega (arith, h)

-- without those of one session no session has more entries
pub count_of-without : (s t : ℕ) (es : List Entry) → count_of s (without t es) ≤ count_of s es
count_of-without s t [] = omega arith
count_of-without s t (e ∷ es) = by_session (e.turn.session == t) (count_of-without s t es)
  where
    less : (b : Bool) (x y : ℕ) → x ≤ y → x ≤ cond b (y + 1) y
    less true x y h = omega (arith, h)
    less false x y h = h

    both : (b : Bool) (x y : ℕ) → x ≤ y → cond b (x + 1) x ≤ cond b (y + 1) y
    both true x y h = omega (arith, h)
    both false x y h = h

    by_session : (a : Bool) → count_of s (without t es) ≤ count_of s es → count_of s (cond a (without t es) (e ∷ without t es)) ≤ count_of s (e ∷ es)
    by_session true h = less (e.turn.session == s) (count_of s (without t es)) (count_of s es) h
    by_session false h = both (e.turn.session == s) (count_of s (without t es)) (count_of s es) h

-- the entry's session is from 1 to k
abbrev pub IsOfSessions : ℕ → Entry → Type 0
IsOfSessions k e = (1 ≤ e.turn.session) × (e.turn.session ≤ k)

-- without those of the last session all are of the sessions before it
pub without_last : (k j : ℕ) (es : List Entry) → j ≡ k + 1 → Each (IsOfSessions j) es → Each (IsOfSessions k) (without j es)
without_last k j [] g h = tt
without_last k j (e ∷ es) g h = by_session (e.turn.session == j) refl (without_last k j es g h.1)
  where
    by_session : (b : Bool) → (e.turn.session == j) ≡ b → Each (IsOfSessions k) (without j es)
        → Each (IsOfSessions k) (cond b (without j es) (e ∷ without j es))
    by_session true t h' = h'
    by_session false t h' = ((h.0.0, other_number e.turn.session j k t h.0.1 g), h')

-- where there is no session there is no entry
pub none_within : (es : List Entry) → Each (IsOfSessions 0) es → length es ≤ 0
none_within [] h = omega arith
none_within (e ∷ es) h = let low = h.0.0 in let high = h.0.1 in absurd (omega (arith, low, high))

-- sessions 1 to k, each with at most n entries, have at most k * n
length-le_sessions : (k n : ℕ) (es : List Entry) → Each (IsOfSessions k) es → ((s : ℕ) → count_of s es ≤ n) → length es ≤ k * n
length-le_sessions zero n es h c = let none = none_within es h in omega (arith, none)
length-le_sessions (suc k) n es h c =
    let parts = length-without (suc k) es in
    let own = c (suc k) in
    let others : length (without (suc k) es) ≤ k * n =
    length-le_sessions k n (without (suc k) es) (without_last k (suc k) es (omega arith) h)
    (λ s. let less = count_of-without s (suc k) es in let most = c s in omega (arith, less, most)) in
    let next : suc k ≡ k + 1 = omega arith in
    let product : suc k * n ≡ k * n + n = ap (λ x. x * n) next ∙ add-mul k 1 n ∙ ap (λ x. k * n + x) (one-mul n) in
    omega (arith, parts, own, others, product)

-- a legal history of k sessions with numbers up to n has at most k * n entries
pub length-IsLegal : (d : Decls) (k n : ℕ) (es : List Entry) → IsLegal d k n es → length es ≤ k * n
length-IsLegal d k n es h = length-le_sessions k n es (Each-from_All (IsOfSessions k) es h.sessions)
    (λ s. let most = count_of-between s 0 n es (omega arith) (Each-weaker _ (IsBetween s 0 n) es (λ e p _. (
      omega (arith, p),
      p.1,
    )) (Each-from_All (λ e. (1 ≤ e.turn.number) × (e.turn.number ≤ n)) es h.numbers)) (EachInScriptOrder-from_AllPairs es h.rising) in omega (
      arith,
      most,
    ))

-- an order of a valid world has at most 1,048,576 entries
pub length-IsOrder : (w : World) (es : List Entry) → IsValid w → IsOrder w es → length es ≤ 1048576
length-IsOrder w es v o =
    let most = length-IsLegal w.decls (length w.scripts) MOST_CALLS es o.legal in
    let few : length w.scripts ≤ MOST_SESSIONS = at_most (length w.scripts) v.sessions in
    omega (arith, most, few)
  where
    at_most : (n : ℕ) → IsTrue (nat_le n MOST_SESSIONS) → n ≤ MOST_SESSIONS
    at_most n h = grind (arith, nat_tests)
