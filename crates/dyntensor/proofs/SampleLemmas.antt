-- What a run of a sample leaves, and what follows of its end.
use Rattle.std.proofs.Common.{inl, inr, ◌≡◌, ◌≢◌, ℕ, ◌+◌, ◌-◌, ◌%◌, ◌^◌, ◌<◌, ◌≤◌, Bool, true, false, List, [], ◌∷◌, length, zero, suc, refl, ap, sym, ◌∙◌, arith, subst, sum_by, Option, Some, None}
use Rattle.std.specs.Prelude.{◌⊎◌, ◌↔◌, ◌&&◌, map, slice_get, nat_le, if◌then◌else◌, option_and_then, IfSome, IsTrue}
use Rattle.std.specs.List.{list_all, enumerate_from}
use Rattle.std.proofs.Math.Nat.{mod-add-mod}
use Rattle.std.proofs.lemmas.Bool.{leb-true}
use Rattle.std.proofs.lemmas.List.Sums.{sum_by-cons}
use Rattle.std.proofs.lemmas.Option.{same_Some}
use Rattle.dt_model.specs.declared.calls.Call.{Call}
use Rattle.dt_model.specs.declared.calls.Entry.{Entry}
use Rattle.dt_model.specs.declared.limits.TheConstants.{MOST_CALLS}
use Rattle.dt_model.specs.declared.replies.Reply.{Reply}
use Rattle.dt_model.specs.declared.replies.Verdict.{Verdict}
use Rattle.dt_model.specs.declared.replies.Verdict.TheVariants.{Accepted, Refused}
use Rattle.dt_model.specs.declared.replies.World.{World}
use Rattle.dt_model.specs.Runs.{call_of, accepted_call, verdict_of_turn, has_turn, reply_of_turn, base_of, contents_after, IsLegal, IsOrder}
use Rattle.dt_model.specs.Statements.{all_below, nonzeros}
use Rattle.dt_model.specs.Tensors.{dims_of}
use Rattle.dt_model.specs.Worlds.{IsValid, decls_are_valid}
use Rattle.dt_model.proofs.Booleans.{first_true, last_true}
use Rattle.dt_model.proofs.RunsLemmas.{reply_of_turn_from-none}
use Rattle.dt_outside.specs.Faults.{HasRisen}
use Rattle.fiber_latch.specs.declared.closing.Closed.{Closed}
use Rattle.fiber_latch.specs.declared.view.TableConfig.{TableConfig}
use Rattle.fiber_latch.specs.Seats.{SeatState, TableState, AreStores, config_for}
use Rattle.fiber_store.specs.Stores.{StoreState, IsSound, store_content}
use Rattle.sample_world.specs.Complete.{AllCalls}
use Rattle.sample_world.specs.Sample.{sample_world, sample_decls, sample_contents}
use Rattle.sample_world.proofs.ContentsLemmas.{contents_after-sample}
use Rattle.sample_world.proofs.WorldLemmas.{IsValid-sample}
use Rattle.sessions.specs.Closing.{AreStoresAfter}
use Rattle.sessions.specs.declared.outcomes.Outcome as line
use Rattle.sessions.specs.Outcomes.{call_outcome, outcome_of, session_outcomes, outcomes_after}
use Rattle.sessions.specs.Running.{CanRun, HasRun}
use Rattle.dyntensor.specs.declared.outcomes.Outcome.{Outcome}
use Rattle.dyntensor.specs.declared.outcomes.Outcome.TheVariants.{Report, Usage, Breaches, Refused as Faulty, Unfetched, OutOfMemory}
use Rattle.dyntensor.specs.Finished.{IsFinished, IsComplete, is_settled}
use Rattle.dyntensor.specs.Headline.{WritesWhere}
use Rattle.dyntensor.specs.Outcome.{status_of, due_text, IsWritten}
use Rattle.dyntensor.specs.Samples.{sample_nonzeros, sample_text, HasSampleCause, HasSampleCauseIn, IsSampleStatus}
use Rattle.dyntensor.proofs.OutcomeLemmas.{written_where}
use Rattle.dyntensor.proofs.RunLemmas.{IsFinished-run}

-- ---- outcomes

-- what holds of each element by its number holds of the one under an index
list_all-numbered : {X Y : Type 0} (p : Y → Bool) (g : ℕ × X → Y) (a : ℕ) (xs : List X) (i : ℕ) (x : X) → slice_get xs i ≡ Some x
    → list_all p (map g (enumerate_from a xs)) ≡ true → p (g (a + i, x)) ≡ true
list_all-numbered p g a [] i x e t = absurd (cc)
list_all-numbered p g a (y ∷ ys) zero x e t =
    let here = first_true (p (g (a, y))) (list_all p (map g (enumerate_from (a + 1) ys))) t in
    let number : a ≡ a + 0 = omega arith in
    ap (λ k. p (g (k, x))) (sym number) ∙ ap (λ z. p (g (a, z))) (sym (same_Some y x e)) ∙ here
list_all-numbered p g a (y ∷ ys) (suc i) x e t =
    let rest = last_true (p (g (a, y))) (list_all p (map g (enumerate_from (a + 1) ys))) t in
    let number : a + 1 + i ≡ a + suc i = omega arith in
    ap (λ k. p (g (k, x))) (sym number) ∙ list_all-numbered p g (a + 1) ys i x e rest

verdict_there : (o : Option Verdict) (call : Call) → option_and_then accepted_call o ≡ Some call → (v : Verdict) × (o ≡ Some v) × (accepted_call v ≡ Some call)
verdict_there None call e = absurd (cc)
verdict_there (Some v) call e = (v, refl, e)

turn_there : (a b : Bool) (o : Option (List Verdict)) (j : ℕ) (v : Verdict)
    → (if a && b then option_and_then (λ script. slice_get script (j - 1)) o else None) ≡ Some v
    → (script : List Verdict) × (o ≡ Some script) × (slice_get script (j - 1) ≡ Some v) × (a ≡ true) × (b ≡ true)
turn_there false b o j v e = absurd (cc)
turn_there true false o j v e = absurd (cc)
turn_there true true None j v e = absurd (cc)
turn_there true true (Some script) j v e = (script, refl, e, refl, refl)

from_one : (k : ℕ) → 1 ≤ k → 1 + (k - 1) ≡ k
from_one k l = omega arith

-- a call with a reply is in the history
settled_turn : (w : World) (es : List Entry) (s n : ℕ) (v : Verdict) (call : Call) → accepted_call v ≡ Some call
    → is_settled (outcome_of v (reply_of_turn w es s n)) ≡ true → has_turn es s n ≡ true
settled_turn w es s n (Refused r) call e t = absurd (cc)
settled_turn w es s n (Accepted c) call e t = by_turn (has_turn es s n) refl
  where
    by_turn : (b : Bool) → has_turn es s n ≡ b → b ≡ true
    by_turn true h = refl
    by_turn false h =
        let none = reply_of_turn_from-none w.decls (base_of w) es s n h in
        let lost : false ≡ true = subst (λ (o : Option Reply). is_settled (call_outcome o) ≡ true) none t in
        absurd (cc)

-- where no line ran out of memory, each accepted call is in the history
pub AllCalls-settled : (w : World) (es : List Entry) → list_all (list_all is_settled) (outcomes_after w es w.scripts) ≡ true → AllCalls w es
AllCalls-settled w es t s n call e =
    let v = verdict_there (verdict_of_turn w.scripts s n) call e in
    let turn = turn_there (nat_le 1 s) (nat_le 1 n) (slice_get w.scripts (s - 1)) n v.0 v.1 in
    let session = list_all-numbered (list_all is_settled) (λ (p : ℕ × List Verdict). session_outcomes w es p.0 p.1) 1 w.scripts (s - 1) turn.0 turn.1 t in
    let own : list_all is_settled (session_outcomes w es s turn.0) ≡ true =
    subst (λ k. list_all is_settled (session_outcomes w es k turn.0) ≡ true) (from_one s (leb-true 1 s turn.3)) session in
    let number = list_all-numbered is_settled (λ (q : ℕ × Verdict). outcome_of q.1 (reply_of_turn w es s q.0)) 1 turn.0 (n - 1) v.0 turn.2 own in
    settled_turn w es s n v.0 call v.2
    (subst (λ k. is_settled (outcome_of v.0 (reply_of_turn w es s k)) ≡ true) (from_one n (leb-true 1 n turn.4)) number)

-- a table that is closed after all calls were made
pub IsComplete-run : (w : World) (n : ℕ) (table : TableState) (old new : SeatState) (closed : Closed StoreState) (outcomes : List (List line.Outcome))
    → table.config ≡ config_for w (length w.scripts) n → n ≤ MOST_CALLS → CanRun w.scripts old → HasRun w.scripts old new
    → closed.journal.entries ≡ new.seen → IsLegal table.config.world.decls table.config.sessions table.config.calls new.seen
    → AreStores store_content IsSound table.config new.seen closed.stores.items → outcomes ≡ outcomes_after table.config.world new.seen w.scripts
    → list_all (list_all is_settled) outcomes ≡ true → IsComplete w closed
IsComplete-run w n table old new closed outcomes opened few can run journal legal stores are settled =
    let is : outcomes ≡ outcomes_after w new.seen w.scripts = are ∙ ap (λ (x : TableConfig). outcomes_after x.world new.seen w.scripts) opened in
    record {
      finished = IsFinished-run w n table old new closed opened few can run journal legal stores;
      calls = subst (AllCalls w) (sym journal)
          (AllCalls-settled w new.seen (subst (λ os. list_all (list_all is_settled) os ≡ true) is settled));
    }

-- ---- the world of a number

-- it is valid
pub IsValid-world : (n : ℕ) (w : World) → w ≡ sample_world n → n ≤ 200000 → IsValid w
IsValid-world n w is few = subst IsValid (sym is) (IsValid-sample n few)

four_scripts : (n : ℕ) → 1 ≤ length (sample_world n).scripts
unfolding sample_world
four_scripts n = omega arith

-- it has scripts
pub some_scripts : (n : ℕ) (w : World) → w ≡ sample_world n → 1 ≤ length w.scripts
some_scripts n w is = subst (λ (x : World). 1 ≤ length x.scripts) (sym is) (four_scripts n)

one_tensor : (n : ℕ) → 0 < length (sample_world n).decls.tensors
unfolding sample_world sample_decls
one_tensor n = omega arith

-- it has a tensor
pub some_tensor : (n : ℕ) (w : World) → w ≡ sample_world n → 0 < length w.decls.tensors
some_tensor n w is = subst (λ (x : World). 0 < length x.decls.tensors) (sym is) (one_tensor n)

same_decls : (n : ℕ) → (sample_world n).decls ≡ sample_decls
unfolding sample_world
same_decls n = refl

-- the nonzeros that a complete run leaves are those of the sample
pub sample_nonzeros-complete : (n : ℕ) (w : World) (closed : Closed StoreState) (pairs : List (List ℕ × ℕ)) → w ≡ sample_world n → IsComplete w closed
    → ((x : World) (seen : List Entry) → x.decls ≡ w.decls → AreStoresAfter x seen closed.stores.items
    → pairs ≡ nonzeros (contents_after x seen 0) (all_below (dims_of w.decls 0)))
    → pairs ≡ sample_nonzeros n
unfolding sample_nonzeros
sample_nonzeros-complete n w closed pairs is done value =
    let es = closed.journal.entries in
    let order : IsOrder (sample_world n) es = subst (λ x. IsOrder x es) is done.finished.order in
    let all : AllCalls (sample_world n) es = subst (λ x. AllCalls x es) is done.calls in
    value w es refl done.finished.stores
    ∙ ap (λ (x : World). nonzeros (contents_after x es 0) (all_below (dims_of x.decls 0))) is
    ∙ ap (λ m. nonzeros (m 0) (all_below (dims_of (sample_world n).decls 0))) (contents_after-sample n es order all)
    ∙ ap (λ d. nonzeros (sample_contents n 0) (all_below (dims_of d 0))) (same_decls n)

-- ---- sums

-- one value more is added up, and one fewer is left
pub sum_more : (s t total : ℕ) (old rest : List (List ℕ × ℕ)) (pair : List ℕ × ℕ) → old ≡ pair ∷ rest → t ≡ (s + pair.1) % 2 ^ 64
    → (s + sum_by (λ p. p.1) old) % 2 ^ 64 ≡ total → (t + sum_by (λ p. p.1) rest) % 2 ^ 64 ≡ total
sum_more s t total old rest pair first more h =
    let left = sum_by (λ (p : List ℕ × ℕ). p.1) rest in
    ap (λ x. (x + left) % 2 ^ 64) more ∙ mod-add-mod (s + pair.1) (2 ^ 64) left ∙ ap (λ x. x % 2 ^ 64) (regroup s pair.1 left)
    ∙ ap (λ x. (s + x) % 2 ^ 64) (sym (sum_by-cons (λ (p : List ℕ × ℕ). p.1) pair rest))
    ∙ ap (λ ps. (s + sum_by (λ (p : List ℕ × ℕ). p.1) ps) % 2 ^ 64) (sym first) ∙ h
  where
    regroup : (a b c : ℕ) → a + b + c ≡ a + (b + c)
    regroup a b c = omega arith

-- where none is left, the sum is the total
pub sum_all : (s total : ℕ) (rest : List (List ℕ × ℕ)) → rest ≡ [] → s < 2 ^ 64 → (s + sum_by (λ p. p.1) rest) % 2 ^ 64 ≡ total → s ≡ total
sum_all s total rest none small h = whole s small ∙ ap (λ ps. (s + sum_by (λ (p : List ℕ × ℕ). p.1) ps) % 2 ^ 64) (sym none) ∙ h
  where
    whole : (s : ℕ) → s < 2 ^ 64 → s ≡ (s + 0) % 2 ^ 64
    whole s l = omega arith

-- ---- the end

module _ (status : ℕ) (old new : Option (List ℕ)) (before after : ℕ) where
  -- at status 0 the text of the number was written
  pub sampled_in : (o : Outcome) (number : Option ℕ) → HasSampleCause number o → IsWritten (status_of o) (due_text o) status old new before after
      → status ≡ 0 → IfSome number (λ n. WritesWhere (λ bytes. bytes ≡ sample_text n) old new)
  sampled_in o None h p e = tt
  sampled_in o (Some n) h (inr p) e = let s = p.0 in absurd (omega arith)
  sampled_in (Report text) (Some n) h (inl p) e = written_where status old new before after (λ bytes. bytes ≡ sample_text n) text.items h old new p.1
  sampled_in Usage (Some n) h (inl p) e = absurd h
  sampled_in (Breaches text) (Some n) h (inl p) e = absurd h
  sampled_in (Faulty fault) (Some n) h (inl p) e = absurd h
  sampled_in (Unfetched file) (Some n) h (inl p) e = absurd h
  sampled_in OutOfMemory (Some n) h (inl p) e = let s = p.0 in absurd (omega arith)

  -- the status is one of four
  pub sample_status : (o : Outcome) (number : Option ℕ) → HasSampleCause number o → IsWritten (status_of o) (due_text o) status old new before after
      → IsSampleStatus status
  sample_status o number h (inr p) = inr (inr (inl p.0))
  sample_status o None h (inl p) = inr (inl (p.0 ∙ ap status_of h))
  sample_status (Report text) (Some n) h (inl p) = inl p.0
  sample_status Usage (Some n) h (inl p) = absurd h
  sample_status (Breaches text) (Some n) h (inl p) = absurd h
  sample_status (Faulty fault) (Some n) h (inl p) = absurd h
  sample_status (Unfetched file) (Some n) h (inl p) = absurd h
  sample_status OutOfMemory (Some n) h (inl p) = inr (inr (inr p.0))

-- the usage line comes exactly where the words have no number
pub sample_usage_in : (status : ℕ) (o : Outcome) (number : Option ℕ) → HasSampleCause number o → status ≡ status_of o → (status ≡ 1) ↔ (number ≡ None)
sample_usage_in status o None h e = (λ _. refl, λ _. e ∙ ap status_of h)
sample_usage_in status o (Some n) h e = (λ one. absurd (not_one o h (sym e ∙ one)), λ none. absurd (some_none none))
  where
    some_none : ◌≡◌ {A = Option ℕ} (Some n) None → ⊥
    some_none e = cc

    not_one : (o : Outcome) → HasSampleCauseIn n o → status_of o ≡ 1 → ⊥
    not_one (Report text) h e = omega arith
    not_one Usage h e = h
    not_one (Breaches text) h e = h
    not_one (Faulty fault) h e = h
    not_one (Unfetched file) h e = h
    not_one OutOfMemory h e = omega arith

-- a number is sampled, or the call is out of memory
pub sample_completes_in : (status : ℕ) (o : Outcome) (number : Option ℕ) → HasSampleCause number o → status ≡ status_of o
    → IfSome number (λ n. (status ≡ 0) ⊎ (status ≡ 5))
sample_completes_in status o None h e = tt
sample_completes_in status (Report text) (Some n) h e = inl e
sample_completes_in status Usage (Some n) h e = absurd h
sample_completes_in status (Breaches text) (Some n) h e = absurd h
sample_completes_in status (Faulty fault) (Some n) h e = absurd h
sample_completes_in status (Unfetched file) (Some n) h e = absurd h
sample_completes_in status OutOfMemory (Some n) h e = inr e
