-- How many entries a history can have of one session: no more than the session's greatest number.
use Rattle.std.proofs.Common.{◌≡◌, ℕ, ◌+◌, ◌<◌, ◌≤◌, Bool, true, false, cond, List, []}
use Rattle.std.proofs.Common.{◌∷◌, refl, sym, ◌∙◌, arith, AllPairs}
use Rattle.std.specs.Prelude.{◌==◌, if◌then◌else◌}
use Rattle.std.proofs.lemmas.Bool.Decides.{nat_tests}
use Rattle.dt_model.specs.declared.calls.Entry.{Entry}
use Rattle.dt_model.specs.Runs.{IsInScriptOrder}
use Rattle.dt_model.proofs.Booleans.{pairs_first, pairs_rest}
use Rattle.dt_model.proofs.RunsLemmas.{Each, Each-from_All, Each-both}

-- each later entry of the same session has a greater number
abbrev pub EachInScriptOrder : List Entry → Type 0
EachInScriptOrder [] = Unit {0}
EachInScriptOrder (e ∷ es) = Each (IsInScriptOrder e) es × EachInScriptOrder es

-- a list that rises by pairs rises entry by entry
pub EachInScriptOrder-from_AllPairs : (es : List Entry) → AllPairs IsInScriptOrder es → EachInScriptOrder es
EachInScriptOrder-from_AllPairs [] h = tt
EachInScriptOrder-from_AllPairs (e ∷ es) h = (
  Each-from_All (IsInScriptOrder e) es (pairs_first IsInScriptOrder e es h),
  EachInScriptOrder-from_AllPairs es (pairs_rest IsInScriptOrder e es h),
)

-- how many entries are of session s
abbrev pub count_of : ℕ → List Entry → ℕ
count_of s [] = 0
count_of s (e ∷ es) = if e.turn.session == s then count_of s es + 1 else count_of s es

-- of session s the entry has a number above m and at most n
abbrev pub IsBetween : ℕ → ℕ → ℕ → Entry → Type 0
IsBetween s m n e = e.turn.session ≡ s → (m < e.turn.number) × (e.turn.number ≤ n)

same_number : (a b : ℕ) → (a == b) ≡ true → a ≡ b
same_number a b t = grind (arith, nat_tests)

-- numbers that rise from above m to n are no more than lie between
pub count_of-between : (s m n : ℕ) (es : List Entry) → m ≤ n → Each (IsBetween s m n) es → EachInScriptOrder es → count_of s es + m ≤ n
count_of-between s m n [] low h r = omega (arith, low)
count_of-between s m n (e ∷ es) low h r = by_session (e.turn.session == s) refl (λ k l g. count_of-between s k n es l g r.1)
  where
    by_session : (b : Bool) → (e.turn.session == s) ≡ b → ((k : ℕ) → k ≤ n → Each (IsBetween s k n) es → count_of s es + k ≤ n)
        → cond b (count_of s es + 1) (count_of s es) + m ≤ n
    by_session true t again =
        let same : e.turn.session ≡ s = same_number e.turn.session s t in
        let here = h.0 same in
        let later : Each (IsBetween s e.turn.number n) es = Each-both (IsInScriptOrder e) (IsBetween s m n) (IsBetween s e.turn.number n) es
        (λ f p q own. (p (same ∙ sym own), (q own).1)) r.0 h.1 in
        let rest = again e.turn.number here.1 later in
        omega (arith, here, rest)
    by_session false t again = again m low h.1
