-- What follows of a check of schemas that ended with its cause.
use Rattle.std.proofs.Common.{inl, inr, ◌≡◌, ℕ, cond, List, refl, ap, sym, ◌∙◌, arith, subst, Option, Some, None, Result, Ok, Err}
use Rattle.std.specs.Prelude.{◌⊎◌, ◌↔◌, IfSome, MatchResult}
use Rattle.dt_model.specs.declared.declared_tensors.Schema.{Schema}
use Rattle.dt_outside.specs.Faults.{ShelfState, HasRisen}
use Rattle.dyntensor.specs.declared.faults.Fault.{Fault}
use Rattle.dyntensor.specs.declared.outcomes.Outcome.{Outcome}
use Rattle.dyntensor.specs.declared.outcomes.Outcome.TheVariants.{Report, Usage, Breaches, Refused, Unfetched, OutOfMemory}
use Rattle.dyntensor.specs.declared.stops.Stop.{Stop}
use Rattle.dyntensor.specs.declared.stops.Stop.TheVariants as stops
use Rattle.dyntensor.specs.Headline.{WritesWhere}
use Rattle.dyntensor.specs.Outcome.{status_of, due_text, IsWritten}
use Rattle.dyntensor.specs.Files.{schemas_of}
use Rattle.dyntensor.specs.Checks.{all_keep, PrintsChecks, HasCheckCause, HasCheckCauseIn, CompletesCheck}
use Rattle.dyntensor.specs.Readings.{HasFailed, IsFileStop, IsOutcomeOf, IsOutcomeOfCheck}
use Rattle.dyntensor.proofs.OutcomeLemmas.{IfSome-all, written_where}
use Rattle.dyntensor.proofs.ReadingsLemmas.{IfSome-map}

-- at status 0 the rows of the file's schemas were written, and all keep the rules
pub kept_in : (status : ℕ) (old new : Option (List ℕ)) (before after : ℕ) (o : Outcome) (file : Option (List ℕ)) (shelf new_shelf : ShelfState)
    → HasCheckCause file shelf new_shelf o → IsWritten (status_of o) (due_text o) status old new before after → status ≡ 0
    → IfSome shelf.files (λ f. IfSome file (λ m. WritesWhere (PrintsChecks f m) old new))
kept_in status old new before after o None shelf new_shelf h p e = IfSome-all shelf.files (λ f. Unit {0}) (λ f. tt)
kept_in status old new before after o (Some m) shelf new_shelf h (inr p) e = let s = p.0 in absurd (omega arith)
kept_in status old new before after (Report text) (Some m) shelf new_shelf h (inl p) e =
    IfSome-map shelf.files (λ f. schemas_of f m ≡ Ok h.schemas) (λ f. WritesWhere (PrintsChecks f m) old new)
    (λ f asked. written_where status old new before after (PrintsChecks f m) text.items
    (record { schemas = h.schemas; asked = asked; kept = h.verdict; printed = h.printed }) old new p.1) h.asked
kept_in status old new before after Usage (Some m) shelf new_shelf h (inl p) e = absurd h
kept_in status old new before after (Breaches text) (Some m) shelf new_shelf h (inl p) e = let s = p.0 in absurd (omega arith)
kept_in status old new before after (Refused fault) (Some m) shelf new_shelf h (inl p) e = let s = p.0 in absurd (omega arith)
kept_in status old new before after (Unfetched name) (Some m) shelf new_shelf h (inl p) e = let s = p.0 in absurd (omega arith)
kept_in status old new before after OutOfMemory (Some m) shelf new_shelf h (inl p) e = let s = p.0 in absurd (omega arith)

-- the usage line comes exactly where the words name no file
pub check_usage_in : (status : ℕ) (o : Outcome) (file : Option (List ℕ)) (shelf new_shelf : ShelfState) → HasCheckCause file shelf new_shelf o
    → status ≡ status_of o → (status ≡ 1) ↔ (file ≡ None)
check_usage_in status o None shelf new_shelf h e = (λ _. refl, λ _. e ∙ ap status_of h)
check_usage_in status o (Some m) shelf new_shelf h e = (λ one. absurd (not_one o h (sym e ∙ one)), λ none. absurd (some_none none))
  where
    some_none : ◌≡◌ {A = Option (List ℕ)} (Some m) None → ⊥
    some_none e = cc

    not_one : (o : Outcome) → HasCheckCauseIn m shelf new_shelf o → status_of o ≡ 1 → ⊥
    not_one (Report text) h e = omega arith
    not_one Usage h e = h
    not_one (Breaches text) h e = omega arith
    not_one (Refused fault) h e = omega arith
    not_one (Unfetched name) h e = omega arith
    not_one OutOfMemory h e = omega arith

-- 3 only where the shelf's count rose
pub check_shelf_rose : (o : Outcome) (file : Option (List ℕ)) (shelf new_shelf : ShelfState) → HasCheckCause file shelf new_shelf o → status_of o ≡ 3
    → HasRisen shelf.faults new_shelf.faults
check_shelf_rose o None shelf new_shelf h e = let one : status_of o ≡ 1 = ap status_of h in absurd (omega arith)
check_shelf_rose (Report text) (Some m) shelf new_shelf h e = absurd (omega arith)
check_shelf_rose Usage (Some m) shelf new_shelf h e = absurd h
check_shelf_rose (Breaches text) (Some m) shelf new_shelf h e = absurd (omega arith)
check_shelf_rose (Refused fault) (Some m) shelf new_shelf h e = absurd (omega arith)
check_shelf_rose (Unfetched name) (Some m) shelf new_shelf h e = h.rose
check_shelf_rose OutOfMemory (Some m) shelf new_shelf h e = absurd (omega arith)

-- schemas are checked, and a file with a fault is refused
pub check_completes_in : (status : ℕ) (o : Outcome) (file : Option (List ℕ)) (shelf new_shelf : ShelfState)
    → HasCheckCause file shelf new_shelf o → status ≡ status_of o → (HasRisen shelf.faults new_shelf.faults → ⊥)
    → IfSome shelf.files (λ f. IfSome file (λ m. CompletesCheck f m status))
check_completes_in status o None shelf new_shelf h e quiet = IfSome-all shelf.files (λ f. Unit {0}) (λ f. tt)
check_completes_in status (Report text) (Some m) shelf new_shelf h e quiet =
    IfSome-map shelf.files (λ f. schemas_of f m ≡ Ok h.schemas) (λ f. CompletesCheck f m status) (λ f asked. rw (asked, h.verdict) (inl e)) h.asked
check_completes_in status Usage (Some m) shelf new_shelf h e quiet = absurd h
check_completes_in status (Breaches text) (Some m) shelf new_shelf h e quiet =
    IfSome-map shelf.files (λ f. schemas_of f m ≡ Ok h.schemas) (λ f. CompletesCheck f m status) (λ f asked. rw (asked, h.verdict) (inl e)) h.asked
check_completes_in status (Refused fault) (Some m) shelf new_shelf h e quiet =
    IfSome-map shelf.files (λ f. schemas_of f m ≡ Err fault) (λ f. CompletesCheck f m status) (λ f is. rw is (inl e)) h
check_completes_in status (Unfetched name) (Some m) shelf new_shelf h e quiet = absurd (quiet h.rose)
check_completes_in status OutOfMemory (Some m) shelf new_shelf h e quiet =
    IfSome-all shelf.files (λ f. CompletesCheck f m status) (λ f. either (schemas_of f m))
  where
    either : (r : Result (List Schema) Fault)
        → MatchResult r (λ schemas. (status ≡ (cond (all_keep schemas) 0 2)) ⊎ (status ≡ 5)) (λ _. (status ≡ 2) ⊎ (status ≡ 5))
    either (Ok schemas) = inr e
    either (Err fault) = inr e

-- an outcome of a check has its cause
pub HasCheckCauseIn-of : (old new : ShelfState) (file : List ℕ) (schemas : List Schema) (o : Outcome)
    → IfSome old.files (λ files. schemas_of files file ≡ Ok schemas) → IsOutcomeOfCheck schemas o → HasCheckCauseIn file old new o
HasCheckCauseIn-of old new file schemas (Report text) asked h = record { schemas = schemas; asked = asked; verdict = h.0; printed = h.1 }
HasCheckCauseIn-of old new file schemas (Breaches text) asked h = record { schemas = schemas; asked = asked; verdict = h.0; printed = h.1 }
HasCheckCauseIn-of old new file schemas Usage asked h = absurd h
HasCheckCauseIn-of old new file schemas (Refused fault) asked h = absurd h
HasCheckCauseIn-of old new file schemas (Unfetched name) asked h = absurd h
HasCheckCauseIn-of old new file schemas OutOfMemory asked h = tt

-- an outcome of a file that isn't read has its cause
pub HasCheckCauseIn-stop : (old new : ShelfState) (file : List ℕ) (stop : Stop) (o : Outcome)
    → IsFileStop old new (Some file) (λ files. schemas_of files file) stop → IsOutcomeOf stop o → HasCheckCauseIn file old new o
HasCheckCauseIn-stop old new file (stops.Refused fault) o h is = refused o h is
  where
    refused : (o : Outcome) → IfSome old.files (λ files. schemas_of files file ≡ Err fault) → IsOutcomeOf (stops.Refused fault) o
        → HasCheckCauseIn file old new o
    refused OutOfMemory h is = tt
    refused (Refused other) h is = let same : other ≡ fault = cc in subst (λ x. IfSome old.files (λ files. schemas_of files file ≡ Err x)) (sym same) h
    refused (Report text) h is = absurd (let no : ⊥ = cc in no)
    refused Usage h is = absurd (let no : ⊥ = cc in no)
    refused (Breaches text) h is = absurd (let no : ⊥ = cc in no)
    refused (Unfetched name) h is = absurd (let no : ⊥ = cc in no)
HasCheckCauseIn-stop old new file (stops.Unfetched name) o h is = unfetched o h is
  where
    unfetched : (o : Outcome) → (Some file ≡ Some name) × HasFailed old new name → IsOutcomeOf (stops.Unfetched name) o → HasCheckCauseIn file old new o
    unfetched OutOfMemory h is = tt
    unfetched (Unfetched other) h is =
        let same : other ≡ name = cc in
        let first = h.0 in
        let here : name ≡ file = cc in
        record { rose = h.1.rose; blamed = h.1.blamed ∙ sym same; same = same ∙ here }
    unfetched (Report text) h is = absurd (let no : ⊥ = cc in no)
    unfetched Usage h is = absurd (let no : ⊥ = cc in no)
    unfetched (Breaches text) h is = absurd (let no : ⊥ = cc in no)
    unfetched (Refused fault) h is = absurd (let no : ⊥ = cc in no)
HasCheckCauseIn-stop old new file stops.NoMemory OutOfMemory h is = tt
HasCheckCauseIn-stop old new file stops.NoMemory (Report text) h is = absurd (let no : ⊥ = cc in no)
HasCheckCauseIn-stop old new file stops.NoMemory Usage h is = absurd (let no : ⊥ = cc in no)
HasCheckCauseIn-stop old new file stops.NoMemory (Breaches text) h is = absurd (let no : ⊥ = cc in no)
HasCheckCauseIn-stop old new file stops.NoMemory (Refused fault) h is = absurd (let no : ⊥ = cc in no)
HasCheckCauseIn-stop old new file stops.NoMemory (Unfetched name) h is = absurd (let no : ⊥ = cc in no)
