-- What follows of a call that ended with its cause.
use Rattle.std.proofs.Common.{inl, inr, ◌≡◌, ◌≢◌, ℕ, ◌≤◌, Bool, true, false, List, refl, ap, sym, ◌∙◌, arith, Option, Some, None, Result, Ok, Err}
use Rattle.std.specs.Prelude.{◌⊎◌, ◌↔◌, IfSome, IsSomeAnd, IsSome, is_some, MatchResult}
use Rattle.dt_outside.specs.Faults.{ShelfState, HasRisen, IsAppended}
use Rattle.fiber_latch.specs.declared.closing.Closed.{Closed}
use Rattle.fiber_store.specs.Stores.{StoreState}
use Rattle.dyntensor.specs.declared.faults.Fault.{Fault}
use Rattle.dyntensor.specs.declared.outcomes.Outcome.{Outcome}
use Rattle.dyntensor.specs.declared.outcomes.Outcome.TheVariants.{Report, Usage, Breaches, Refused, Unfetched, OutOfMemory}
use Rattle.dyntensor.specs.Headline.{PrintsWorkload, WritesWhere, Completes}
use Rattle.dyntensor.specs.Outcome.{status_of, due_text, HasCause, HasCauseIn, IsWritten, Ends}
use Rattle.dyntensor.specs.Workload.{Work, workload}
use Rattle.dyntensor.proofs.ReadingsLemmas.{IfSome-map}

-- what holds of everything holds of exposed files
pub IfSome-all : {X : Type 0} (o : Option X) (P : X → Type 0) → ((x : X) → P x) → IfSome o P
IfSome-all None P h = tt
IfSome-all (Some x) P h = h x

-- an outcome whose text is written
pub ends_from : (Cause : Outcome → Type 0) (o : Outcome) (status : ℕ) (old new : Option (List ℕ)) (before after : ℕ)
    → Cause o → IsWritten (status_of o) (due_text o) status old new before after → Ends Cause status old new before after
ends_from Cause o status old new before after h p = record { outcome = o; cause = h; printed = p }

module _ (status : ℕ) (old new : Option (List ℕ)) (before after : ℕ) where
  -- the status is at most 5
  pub status_few : (o : Outcome) → IsWritten (status_of o) (due_text o) status old new before after → status ≤ 5
  status_few o (inr p) = let s = p.0 in omega arith
  status_few (Report text) (inl p) = let s = p.0 in omega arith
  status_few Usage (inl p) = let s = p.0 in omega arith
  status_few (Breaches text) (inl p) = let s = p.0 in omega arith
  status_few (Refused fault) (inl p) = let s = p.0 in omega arith
  status_few (Unfetched file) (inl p) = let s = p.0 in omega arith
  status_few OutOfMemory (inl p) = let s = p.0 in omega arith

  -- 4 only where the sink's count rose
  pub sink_rose : (o : Outcome) → IsWritten (status_of o) (due_text o) status old new before after → status ≡ 4 → HasRisen before after
  sink_rose o (inr p) e = p.2
  sink_rose (Report text) (inl p) e = let s = p.0 in absurd (omega arith)
  sink_rose Usage (inl p) e = let s = p.0 in absurd (omega arith)
  sink_rose (Breaches text) (inl p) e = let s = p.0 in absurd (omega arith)
  sink_rose (Refused fault) (inl p) e = let s = p.0 in absurd (omega arith)
  sink_rose (Unfetched file) (inl p) e = let s = p.0 in absurd (omega arith)
  sink_rose OutOfMemory (inl p) e = let s = p.0 in absurd (omega arith)

  -- where the status isn't 4, it is the outcome's
  pub own_status : (o : Outcome) → IsWritten (status_of o) (due_text o) status old new before after → status ≢ 4 → status ≡ status_of o
  own_status o (inl p) n = p.0
  own_status o (inr p) n = absurd (n p.0)

  -- where the status isn't 4, the sink's count is as before
  pub sink_quiet : (o : Outcome) → IsWritten (status_of o) (due_text o) status old new before after → status ≢ 4 → after ≡ before
  sink_quiet o (inl p) n = p.2
  sink_quiet o (inr p) n = absurd (n p.0)

  -- where the sink's count didn't rise, the status is the outcome's
  pub own_unless_rose : (o : Outcome) → IsWritten (status_of o) (due_text o) status old new before after → (HasRisen before after → ⊥) → status ≡ status_of o
  own_unless_rose o (inl p) n = p.0
  own_unless_rose o (inr p) n = absurd (n p.2)

  -- what is appended was written
  pub written_where : (P : List ℕ → Type 0) (text : List ℕ) → P text → (o n : Option (List ℕ)) → IsAppended o text n → WritesWhere P o n
  written_where P text h o None w = tt
  written_where P text h o (Some all) w = (text, w, h)

  -- at status 0 the report was written, and its table is left
  pub headline_in : (o : Outcome) (manifest : Option (List ℕ)) (shelf new_shelf : ShelfState) (end : Option (Closed StoreState))
      → HasCause manifest shelf new_shelf end o → IsWritten (status_of o) (due_text o) status old new before after → status ≡ 0
      → IfSome shelf.files (λ f. IfSome manifest (λ m. WritesWhere (PrintsWorkload f m end) old new))
  headline_in o None shelf new_shelf end h p e = IfSome-all shelf.files (λ f. Unit {0}) (λ f. tt)
  headline_in o (Some m) shelf new_shelf end h (inr p) e = let s = p.0 in absurd (omega arith)
  headline_in (Report text) (Some m) shelf new_shelf end h (inl p) e =
      IfSome-map shelf.files (λ f. workload f m ≡ Ok h.work) (λ f. WritesWhere (PrintsWorkload f m end) old new)
      (λ f asked. written_where (PrintsWorkload f m end) text.items (record { work = h.work; asked = asked; printed = h.printed; left = h.left }) old new p.1)
      h.asked
  headline_in Usage (Some m) shelf new_shelf end h (inl p) e = absurd h
  headline_in (Breaches text) (Some m) shelf new_shelf end h (inl p) e = absurd h
  headline_in (Refused fault) (Some m) shelf new_shelf end h (inl p) e = let s = p.0 in absurd (omega arith)
  headline_in (Unfetched file) (Some m) shelf new_shelf end h (inl p) e = let s = p.0 in absurd (omega arith)
  headline_in OutOfMemory (Some m) shelf new_shelf end h (inl p) e = let s = p.0 in absurd (omega arith)

-- 1 exactly where the words name no manifest
pub usage_in : (status : ℕ) (o : Outcome) (manifest : Option (List ℕ)) (shelf new_shelf : ShelfState) (end : Option (Closed StoreState))
    → HasCause manifest shelf new_shelf end o → status ≡ status_of o → (status ≡ 1) ↔ (manifest ≡ None)
usage_in status o None shelf new_shelf end h e = (λ _. refl, λ _. e ∙ ap status_of h.0)
usage_in status o (Some m) shelf new_shelf end h e = (λ one. absurd (not_one o h (sym e ∙ one)), λ none. absurd (some_none none))
  where
    some_none : ◌≡◌ {A = Option (List ℕ)} (Some m) None → ⊥
    some_none e = cc

    not_one : (o : Outcome) → HasCauseIn m shelf new_shelf end o → status_of o ≡ 1 → ⊥
    not_one (Report text) h e = omega arith
    not_one Usage h e = h
    not_one (Breaches text) h e = h
    not_one (Refused fault) h e = omega arith
    not_one (Unfetched file) h e = omega arith
    not_one OutOfMemory h e = omega arith

-- 3 only where the shelf's count rose
pub shelf_rose : (o : Outcome) (manifest : Option (List ℕ)) (shelf new_shelf : ShelfState) (end : Option (Closed StoreState))
    → HasCause manifest shelf new_shelf end o → status_of o ≡ 3 → HasRisen shelf.faults new_shelf.faults
shelf_rose o None shelf new_shelf end h e = let one : status_of o ≡ 1 = ap status_of h.0 in absurd (omega arith)
shelf_rose (Report text) (Some m) shelf new_shelf end h e = absurd (omega arith)
shelf_rose Usage (Some m) shelf new_shelf end h e = absurd h
shelf_rose (Breaches text) (Some m) shelf new_shelf end h e = absurd h
shelf_rose (Refused fault) (Some m) shelf new_shelf end h e = absurd (omega arith)
shelf_rose (Unfetched file) (Some m) shelf new_shelf end h e = h.1.rose
shelf_rose OutOfMemory (Some m) shelf new_shelf end h e = absurd (omega arith)

-- a sound workload is run, and a faulty one refused
pub completes_in : (status : ℕ) (o : Outcome) (manifest : Option (List ℕ)) (shelf new_shelf : ShelfState) (end : Option (Closed StoreState))
    → HasCause manifest shelf new_shelf end o → status ≡ status_of o → (HasRisen shelf.faults new_shelf.faults → ⊥)
    → IfSome shelf.files (λ f. IfSome manifest (λ m. Completes f m status))
completes_in status o None shelf new_shelf end h e quiet = IfSome-all shelf.files (λ f. Unit {0}) (λ f. tt)
completes_in status (Report text) (Some m) shelf new_shelf end h e quiet =
    IfSome-map shelf.files (λ f. workload f m ≡ Ok h.work) (λ f. Completes f m status) (λ f asked. rw asked (inl e)) h.asked
completes_in status Usage (Some m) shelf new_shelf end h e quiet = absurd h
completes_in status (Breaches text) (Some m) shelf new_shelf end h e quiet = absurd h
completes_in status (Refused fault) (Some m) shelf new_shelf end h e quiet =
    IfSome-map shelf.files (λ f. workload f m ≡ Err fault) (λ f. Completes f m status) (λ f is. rw is (inl e)) h.1
completes_in status (Unfetched file) (Some m) shelf new_shelf end h e quiet = absurd (quiet h.1.rose)
completes_in status OutOfMemory (Some m) shelf new_shelf end h e quiet =
    IfSome-all shelf.files (λ f. Completes f m status) (λ f. either (workload f m))
  where
    either : (r : Result Work Fault) → MatchResult r (λ _. (status ≡ 0) ⊎ (status ≡ 5)) (λ _. (status ≡ 2) ⊎ (status ≡ 5))
    either (Ok work) = inr e
    either (Err fault) = inr e

-- a table is left exactly at status 0
pub end_in : (status : ℕ) (o : Outcome) (manifest : Option (List ℕ)) (shelf new_shelf : ShelfState) (end : Option (Closed StoreState))
    → HasCause manifest shelf new_shelf end o → status ≡ status_of o → (status ≡ 0) ↔ IsSome end
end_in status o manifest shelf new_shelf end h e = at manifest o h e
  where
    no_table : end ≡ None → (status ≡ 0 → ⊥) → (status ≡ 0) ↔ IsSome end
    no_table none n = (λ zero. absurd (n zero), λ s. absurd (let no : ◌≡◌ {A = Bool} false true = ap is_some (sym none) ∙ s in cc))

    there : (x : Option (Closed StoreState)) (P : Closed StoreState → Type 0) → IsSomeAnd x P → IsSome x
    there None P h = absurd h
    there (Some c) P h = refl

    at : (manifest : Option (List ℕ)) (o : Outcome) → HasCause manifest shelf new_shelf end o → status ≡ status_of o → (status ≡ 0) ↔ IsSome end
    at None o h e = let one : status_of o ≡ 1 = ap status_of h.0 in no_table h.1 (λ zero. omega arith)
    at (Some m) (Report text) h e = (λ zero. there end _ h.left, λ s. e)
    at (Some m) Usage h e = absurd h
    at (Some m) (Breaches text) h e = absurd h
    at (Some m) (Refused fault) h e = no_table h.0 (λ zero. omega arith)
    at (Some m) (Unfetched file) h e = no_table h.0 (λ zero. omega arith)
    at (Some m) OutOfMemory h e = no_table h (λ zero. omega arith)
