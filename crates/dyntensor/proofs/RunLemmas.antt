-- What a run of all scripts leaves, and the rows of its sessions.
use Rattle.std.proofs.Common.{true, false, zero, suc, ◌≡◌, ℕ, ◌+◌, ◌<◌, ◌≤◌, ◌++◌, Bool, List, [], ◌∷◌, length, take, get_or, refl, ap, sym, ◌∙◌, arith, subst, Option, Some, None, All}
use Rattle.std.specs.Prelude.{slice_get, if◌then◌else◌, option_and_then, nat_le, ◌&&◌}
use Rattle.std.specs.List.{flat_map, enumerate_from}
use Rattle.std.proofs.lemmas.Bool.Decides.{nat_tests}
use Rattle.std.proofs.lemmas.List.{take_more}
use Rattle.std.proofs.lemmas.List.Elements.{All-push}
use Rattle.std.proofs.lemmas.Option.{none-some, same_Some}
use Rattle.dt_model.specs.declared.calls.Call.{Call}
use Rattle.dt_model.specs.declared.calls.Call.TheVariants.{Get}
use Rattle.dt_model.specs.declared.calls.Entry.{Entry}
use Rattle.dt_model.specs.declared.limits.TheConstants.{MOST_CALLS, MOST_SESSIONS}
use Rattle.dt_model.specs.declared.replies.Verdict.{Verdict}
use Rattle.dt_model.specs.declared.replies.World.{World}
use Rattle.dt_model.specs.Texts.{text_of}
use Rattle.dt_model.specs.Runs.{call_of, accepted_call, verdict_of_turn, contents_after, restricted_to, IsLegal, IsOrder, AllGets}
use Rattle.dt_model.specs.Report.{session_rows}
use Rattle.dt_model.specs.Worlds.{IsValid}
use Rattle.dt_model.proofs.Booleans.{append_none, list_all-at}
use Rattle.fiber_latch.specs.declared.closing.Closed.{Closed}
use Rattle.fiber_latch.specs.declared.view.TableConfig.{TableConfig}
use Rattle.fiber_latch.specs.Seats.{SeatState, TableState, AreStores, BelongsTo, config_for, first_state}
use Rattle.fiber_store.specs.Stores.{StoreState, IsSound, store_content}
use Rattle.sessions.specs.declared.outcomes.Outcome.{Outcome}
use Rattle.sessions.specs.Closing.{AreStoresAfter}
use Rattle.sessions.specs.Outcomes.{outcomes_after}
use Rattle.sessions.specs.Running.{CanRun, HasRun}
use Rattle.sessions.proofs.RunningLemmas.{HasRun-IsOrder, HasRun-AllGets}
use Rattle.dyntensor.specs.Finished.{IsFinished}
use Rattle.dyntensor.specs.Leaving.{IsLeftBy}
use Rattle.dyntensor.specs.Rows.{numbered_rows, outcomes_rows}
use Rattle.dyntensor.proofs.OutcomeRows.{numbered_rows-outcomes, length-outcomes, few_outcomes}

-- ---- scripts of a valid world

-- no script has more lines than the limit
pub short_scripts : (w : World) → IsValid w → All (λ script. length script ≤ MOST_CALLS) w.scripts
short_scripts w v k d l = let h = list_all-at (λ (s : List Verdict). nat_le (length s) MOST_CALLS) w.scripts k d l v.calls in grind (arith, nat_tests)

-- there are no more scripts than the limit
pub few_scripts : (w : World) → IsValid w → length w.scripts ≤ MOST_SESSIONS
few_scripts w v = let h = v.sessions in grind (arith, nat_tests)

-- one script more has no more lines than the greatest count
pub room-more : (scripts : List (List Verdict)) (i old new : ℕ) (script : List Verdict) → i < length scripts → get_or scripts i script ≡ script
    → All (λ s. length s ≤ old) (take i scripts) → old ≤ new → length script ≤ new → All (λ s. length s ≤ new) (take (i + 1) scripts)
room-more scripts i old new script l at so_far grown fits =
    subst (All (λ (s : List Verdict). length s ≤ new)) (sym (take_more scripts i script l ∙ ap (λ s. take i scripts ++ s ∷ []) at))
    (All-push (λ (s : List Verdict). length s ≤ new) (take i scripts) script (λ k d b. let h = so_far k d b in omega arith) fits)

-- there are outcomes of few sessions, of few lines each
pub few_sessions : (w x : World) (es : List Entry) (outcomes : List (List Outcome)) → IsValid w → outcomes ≡ outcomes_after x es w.scripts
    → (length outcomes ≤ MOST_SESSIONS) × All (λ lines. length lines ≤ MOST_CALLS) outcomes
few_sessions w x es outcomes v is =
    subst (λ (os : List (List Outcome)). (length os ≤ MOST_SESSIONS) × All (λ lines. length lines ≤ MOST_CALLS) os) (sym is)
    (subst (λ k. k ≤ MOST_SESSIONS) (sym (length-outcomes x es w.scripts)) (few_scripts w v), few_outcomes x es MOST_CALLS w.scripts (short_scripts w v))

-- ---- worlds without scripts

none_either_way : {X : Type 0} (b : Bool) → ◌≡◌ {A = Option X} (if b then None else None) None
none_either_way true = refl
none_either_way false = refl

no_calls : (w : World) (s n : ℕ) (call : Call) → w.scripts ≡ [] → call_of w s n ≡ Some call → ⊥
no_calls w s n call none e =
    none-some call (subst (λ o. option_and_then accepted_call o ≡ Some call) (none_either_way (nat_le 1 s && nat_le 1 n))
    (subst (λ ss. option_and_then accepted_call (verdict_of_turn ss s n) ≡ Some call) none e))

-- no entry is an order of every world
IsOrder-none : (w : World) → IsOrder w []
IsOrder-none w = record {
  legal = record {
    sessions = λ k d l. absurd (omega (arith, l));
    numbers = λ k d l. absurd (omega (arith, l));
    calls = λ k d l. absurd (omega (arith, l));
    rising = λ i j d low high. absurd (omega (arith, high));
  };
  called = λ k d l. absurd (omega (arith, l));
}

-- ---- what is left

at_place : {X : Type 0} (xs : List X) (l : ℕ) (x : X) → slice_get xs l ≡ Some x → (l < length xs) × (get_or xs l x ≡ x)
at_place [] l x e = absurd (none-some x e)
at_place (y ∷ ys) zero x e = (omega arith, same_Some y x e)
at_place (y ∷ ys) (suc l) x e = let r = at_place ys l x e in let b = r.0 in (omega arith, r.1)

-- the stores that a table is closed with are those after the entries
pub AreStoresAfter-config : (w : World) (k n : ℕ) (config : TableConfig) (es entries : List Entry) (stores : List StoreState) → config ≡ config_for w k n
    → entries ≡ es → AreStores store_content IsSound config es stores → AreStoresAfter w entries stores
AreStoresAfter-config w k n config es entries stores opened same are = (
  k,
  n,
  subst (λ x. AreStores store_content IsSound x entries stores) opened (subst (λ p. AreStores store_content IsSound config p stores) (sym same) are),
)

-- ---- finished runs

-- a table that is closed at once, where there are no scripts
pub IsFinished-none : (w : World) (k n : ℕ) (table : TableState) (seat : SeatState) (closed : Closed StoreState) → w.scripts ≡ []
    → table.config ≡ config_for w k n → seat ≡ first_state table.table table.config → closed.journal.entries ≡ seat.seen
    → AreStores store_content IsSound table.config seat.seen closed.stores.items → IsFinished w closed
IsFinished-none w k n table seat closed none opened first journal stores =
    let fresh : closed.journal.entries ≡ [] = journal ∙ ap (λ (s : SeatState). s.seen) first in
    record {
      order = subst (IsOrder w) (sym fresh) (IsOrder-none w);
      gets = λ s m cell e. absurd (no_calls w s m (Get cell) none e);
      stores = AreStoresAfter-config w k n table.config seat.seen closed.journal.entries closed.stores.items opened journal stores;
    }

-- the seat of all sessions, which holds nothing
pub record IsWhole (table : TableState) (s : SeatState) : Type 0 where
  pub belongs : BelongsTo s table
  pub first : s.first ≡ 1
  pub last : s.last ≡ table.config.sessions
  pub idle : s.held ≡ []

-- the first seat is whole
pub IsWhole-first : (table : TableState) (s : SeatState) → s ≡ first_state table.table table.config → IsWhole table s
IsWhole-first table s first = record {
  belongs = (ap (λ (x : SeatState). x.table) first, ap (λ (x : SeatState). x.config) first);
  first = ap (λ (x : SeatState). x.first) first;
  last = ap (λ (x : SeatState). x.last) first;
  idle = ap (λ (x : SeatState). x.held) first;
}

-- so it is after the scripts have been run
pub IsWhole-run : (table : TableState) (scripts : List (List Verdict)) (old new : SeatState) → IsWhole table old → HasRun scripts old new
    → IsWhole table new
IsWhole-run table scripts old new h run = record {
  belongs = (ap (λ (x : SeatState). x.table) run.rest ∙ h.belongs.0, ap (λ (x : SeatState). x.config) run.rest ∙ h.belongs.1);
  first = ap (λ (x : SeatState). x.first) run.rest ∙ h.first;
  last = ap (λ (x : SeatState). x.last) run.rest ∙ h.last;
  idle = ap (λ (x : SeatState). x.held) run.rest ∙ h.idle;
}

-- a table that is closed after the scripts have been run
pub IsFinished-run : (w : World) (n : ℕ) (table : TableState) (old new : SeatState) (closed : Closed StoreState)
    → table.config ≡ config_for w (length w.scripts) n → n ≤ MOST_CALLS → CanRun w.scripts old → HasRun w.scripts old new
    → closed.journal.entries ≡ new.seen → IsLegal table.config.world.decls table.config.sessions table.config.calls new.seen
    → AreStores store_content IsSound table.config new.seen closed.stores.items → IsFinished w closed
IsFinished-run w n table old new closed opened few can run journal legal stores =
    let order : IsOrder w new.seen = HasRun-IsOrder w old new n
    (subst (λ (x : TableConfig). IsLegal x.world.decls x.sessions x.calls new.seen) opened legal) few can run in
    record {
      order = subst (IsOrder w) (sym journal) order;
      gets = subst (AllGets w) (sym journal) (HasRun-AllGets w old new can run);
      stores = AreStoresAfter-config w (length w.scripts) n table.config new.seen closed.journal.entries closed.stores.items opened journal stores;
    }

-- the rows of the sessions of a run
pub session_text : (w : World) (k n : ℕ) (config : TableConfig) (es entries : List Entry) (outcomes : List (List Outcome)) (old text : List ℕ)
    → config ≡ config_for w k n → entries ≡ es → outcomes ≡ outcomes_after config.world es w.scripts
    → text ≡ old ++ text_of (numbered_rows outcomes_rows outcomes)
    → text ≡ old ++ text_of (flat_map (session_rows w entries) (enumerate_from 1 w.scripts))
session_text w k n config es entries outcomes old text opened journal are is =
    is ∙ ap (λ os. old ++ text_of (numbered_rows outcomes_rows os)) (are ∙ ap (λ (x : TableConfig). outcomes_after x.world es w.scripts) opened)
    ∙ ap (λ rows. old ++ text_of rows)
    (numbered_rows-outcomes w es w.scripts ∙ ap (λ p. flat_map (session_rows w p) (enumerate_from 1 w.scripts)) (sym journal))

-- where there are no scripts there are no rows of sessions
pub session_text-none : (w : World) (es : List Entry) (old : List ℕ) → w.scripts ≡ []
    → old ≡ old ++ text_of (flat_map (session_rows w es) (enumerate_from 1 w.scripts))
session_text-none w es old none = sym (append_none old) ∙ ap (λ ss. old ++ text_of (flat_map (session_rows w es) (enumerate_from 1 ss))) (sym none)

-- the table is left by the history that its journal has
pub IsLeftBy-finished : (w : World) (entries : List Entry) (closed : Closed StoreState) → IsFinished w closed → entries ≡ closed.journal.entries
    → IsLeftBy w entries closed
IsLeftBy-finished w entries closed done same = subst (λ es. IsLeftBy w es closed) (sym same) (record {
  journal = refl;
  count = done.stores.2.count;
  sound = λ l s e. (store l s e).0;
  content = λ l s e. (store l s e).1;
})
  where
    store : (l : ℕ) (s : StoreState) → slice_get closed.stores.items l ≡ Some s
        → IsSound w.decls l s × (store_content s ≡ restricted_to w.decls (contents_after w closed.journal.entries) l)
    store l s e =
        let at = at_place closed.stores.items l s e in
        subst (λ x. IsSound w.decls l x × (store_content x ≡ restricted_to w.decls (contents_after w closed.journal.entries) l)) at.1
        (done.stores.2.each l s at.0)
