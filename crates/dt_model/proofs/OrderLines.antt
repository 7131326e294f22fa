-- An order has at most as many entries as the scripts have lines.
use Rattle.std.proofs.Common.{◌≡◌, ℕ, ◌+◌, ◌-◌, ◌<◌, ◌≤◌, Bool, true, false, List, [], length}
use Rattle.std.proofs.Common.{refl, arith, suc, zero, take, get_or, Option, Some, None, sum_by, subst, ap}
use Rattle.std.specs.Prelude.{◌&&◌, if◌then◌else◌, nat_le, slice_get, option_and_then}
use Rattle.std.proofs.lemmas.List.Sums.{sum_by_more, sum_by-take-le}
use Rattle.std.proofs.lemmas.Option.{slice_get_within, get_or_from_slice_get}
use Rattle.dt_model.specs.declared.calls.Call.{Call}
use Rattle.dt_model.specs.declared.calls.Entry.{Entry}
use Rattle.dt_model.specs.declared.replies.Verdict.{Verdict}
use Rattle.dt_model.specs.declared.replies.World.{World}
use Rattle.dt_model.specs.declared.limits.TheConstants.{MOST_CALLS}
use Rattle.dt_model.specs.Runs.{IsOrder, call_of, accepted_call, verdict_of_turn}
use Rattle.dt_model.proofs.SessionCounts.{EachInScriptOrder-from_AllPairs, IsBetween, count_of, count_of-between}
use Rattle.dt_model.proofs.OrderLengths.{IsOfSessions, without, length-without, count_of-without, without_last, none_within}
use Rattle.dt_model.proofs.RunsLemmas.{Each, Each-from_All, Each-both}

verdict_there : (o : Option Verdict) (call : Call) → option_and_then accepted_call o ≡ Some call → (v : Verdict) × (o ≡ Some v)
verdict_there None call e = cc
verdict_there (Some v) call e = (v, refl)

script_there : (b : Bool) (o : Option (List Verdict)) (n : ℕ) (v : Verdict)
    → (if b then option_and_then (λ script. slice_get script (n - 1)) o else None) ≡ Some v
    → (script : List Verdict) × (o ≡ Some script) × (slice_get script (n - 1) ≡ Some v)
script_there false o n v e = cc
script_there true None n v e = cc
script_there true (Some script) n v e = (script, refl, e)

-- the number of an accepted call is at most the lines of its script
call_of-within : (w : World) (s n : ℕ) (call : Call) → call_of w s n ≡ Some call → n ≤ length (get_or w.scripts (s - 1) [])
call_of-within w s n call e =
    let v = verdict_there (verdict_of_turn w.scripts s n) call e in
    let script = script_there (nat_le 1 s && nat_le 1 n) (slice_get w.scripts (s - 1)) n v.0 v.1 in
    let line : n - 1 < length script.0 = slice_get_within script.0 (n - 1) v.0 script.2 in
    let same : length (get_or w.scripts (s - 1) []) ≡ length script.0 = ap length (get_or_from_slice_get w.scripts (s - 1) script.0 [] script.1) in
    omega (arith, line, same)

-- no session of an order has more entries than its script has lines
count_of-lines : (w : World) (es : List Entry) (s : ℕ) → IsOrder w es → count_of s es ≤ length (get_or w.scripts (s - 1) [])
count_of-lines w es s o =
    let lines : ℕ = length (get_or w.scripts (s - 1) []) in
    let each : Each (IsBetween s 0 lines) es = Each-both (λ e. (1 ≤ e.turn.number)
    × (e.turn.number ≤ MOST_CALLS)) (λ e. call_of w e.turn.session e.turn.number ≡ Some e.call) (IsBetween s 0 lines) es
    (λ e number is own. (
      omega (arith, number.0),
      subst (λ k. e.turn.number ≤ length (get_or w.scripts (k - 1) [])) own (call_of-within w e.turn.session e.turn.number e.call is),
    ))
    (Each-from_All (λ e. (1 ≤ e.turn.number) × (e.turn.number ≤ MOST_CALLS)) es o.legal.numbers) (Each-from_All (λ e. call_of w e.turn.session e.turn.number
    ≡ Some e.call) es o.called) in
    let most = count_of-between s 0 lines es (omega arith) each (EachInScriptOrder-from_AllPairs es o.legal.rising) in
    omega (arith, most)

-- the first k sessions, of which each has at most the lines of its script, have at most those of their scripts together
length-le_lines : (scripts : List (List Verdict)) (k : ℕ) (es : List Entry) → k ≤ length scripts → Each (IsOfSessions k) es
    → ((s : ℕ) → count_of (s + 1) es ≤ length (get_or scripts s [])) → length es ≤ sum_by length (take k scripts)
length-le_lines scripts zero es l h c = let none = none_within es h in omega (arith, none)
length-le_lines scripts (suc k) es l h c =
    let parts = length-without (suc k) es in
    let next : k + 1 ≡ suc k = omega arith in
    let own : count_of (suc k) es ≤ length (get_or scripts k []) = subst (λ j. count_of j es ≤ length (get_or scripts k [])) next (c k) in
    let others : length (without (suc k) es) ≤ sum_by length (take k scripts) =
    length-le_lines scripts k (without (suc k) es) (omega arith) (without_last k (suc k) es (omega arith) h)
    (λ s. let less = count_of-without (s + 1) (suc k) es in let most = c s in omega (arith, less, most)) in
    let all : sum_by length (take (suc k) scripts) ≡ sum_by length (take k scripts)
    + length (get_or scripts k []) = subst (λ j. sum_by length (take j scripts) ≡ sum_by length (take k scripts)
    + length (get_or scripts k [])) next (sum_by_more length scripts k [] (omega arith)) in
    omega (arith, parts, own, others, all)

-- an order has at most as many entries as the scripts have lines
pub length-IsOrder_lines : (w : World) (es : List Entry) → IsOrder w es → length es ≤ sum_by length w.scripts
length-IsOrder_lines w es o =
    let first = length-le_lines w.scripts (length w.scripts) es (omega arith) (Each-from_All (IsOfSessions (length w.scripts)) es o.legal.sessions)
    (λ s. subst (λ k. count_of (s + 1) es ≤ length (get_or w.scripts k [])) (omega arith) (count_of-lines w es (s + 1) o)) in
    omega (arith, first, sum_by-take-le length w.scripts (length w.scripts))
