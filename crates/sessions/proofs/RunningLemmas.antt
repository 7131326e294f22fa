-- Scripts and seats that may be run, and what follows of a run.
use Rattle.std.proofs.Common.{◌≡◌, ℕ, zero, suc, ◌-◌, ◌<◌, ◌≤◌, Bool, true, false, List, [], ◌∷◌, length, get_or, refl, sym, ◌∙◌, subst, ⊎_elim, arith, Option, Some, None, All, IsTrue}
use Rattle.std.specs.Prelude.{slice_get, nat_le, if◌then◌else◌, option_and_then, ◌&&◌}
use Rattle.std.specs.List.{list_all}
use Rattle.std.proofs.lemmas.Bool.Decides.{nat_tests}
use Rattle.std.proofs.lemmas.Option.{none-some, slice_get-get_or, slice_get_past}
use Rattle.dt_model.specs.declared.calls.Call.{Call}
use Rattle.dt_model.specs.declared.calls.Call.TheVariants.{Get}
use Rattle.dt_model.specs.declared.calls.Entry.{Entry}
use Rattle.dt_model.specs.declared.declared_tensors.Decls.{Decls}
use Rattle.dt_model.specs.declared.limits.TheConstants.{MOST_CALLS}
use Rattle.dt_model.specs.declared.replies.Verdict.{Verdict}
use Rattle.dt_model.specs.declared.replies.Verdict.TheVariants.{Accepted, Refused}
use Rattle.dt_model.specs.declared.replies.World.{World}
use Rattle.dt_model.specs.Runs.{accepted_call, call_of, IsLegal, IsOrder, AllGets}
use Rattle.dt_model.specs.Worlds.{IsValid, verdict_is_valid}
use Rattle.dt_model.proofs.Booleans.{list_all-at}
use Rattle.fiber_latch.specs.declared.view.TableConfig.{TableConfig}
use Rattle.fiber_latch.specs.Seats.{SeatState, TableState, BelongsTo, config_for, first_state}
use Rattle.fiber_latch.proofs.LawfulHistories.{in_all, all_in}
use Rattle.sessions.specs.Running.{scripted_call, line_is_valid, AreRunnable, CanRun, HasRun}
use Rattle.sessions.specs.ScriptLines.{line_call}
use Rattle.sessions.specs.SessionRuns.{script_of}

-- ---- scripts

valid_line : (d : Decls) (v : Verdict) → verdict_is_valid d v ≡ true → line_is_valid d v ≡ true
valid_line d (Accepted call) h = h
valid_line d (Refused r) h = refl

-- the scripts of a valid world may be run over a table that was opened for enough calls
pub AreRunnable-valid : (w : World) (sessions calls : ℕ) → IsValid w → All (λ script. length script ≤ calls) w.scripts → calls ≤ MOST_CALLS
    → AreRunnable (config_for w sessions calls) w.scripts
AreRunnable-valid w sessions calls valid few limit = record {
  valid = λ j d b. λ i v l. valid_line w.decls (get_or (get_or w.scripts j d) i v)
      (list_all-at (verdict_is_valid w.decls) (get_or w.scripts j d) i v l
      (list_all-at (list_all (verdict_is_valid w.decls)) w.scripts j d b valid.accepted));
  few = few;
  limit = limit;
}

-- one of the scripts may be run
pub AreRunnable-one : (config : TableConfig) (scripts : List (List Verdict)) (script : List Verdict) (k : ℕ) → k < length scripts
    → get_or scripts k script ≡ script
    → AreRunnable config scripts → AreRunnable config (script ∷ [])
AreRunnable-one config scripts script k inside is can = record {
  valid = in_all (All (λ v. IsTrue (line_is_valid config.world.decls v))) (script ∷ []) (λ s i. ⊎_elim
      (λ (q : s ≡ script). subst (All (λ v. IsTrue (line_is_valid config.world.decls v))) (is ∙ sym q) (can.valid k script inside)) (λ (n : ⊥). absurd n) i);
  few = in_all (λ (x : List Verdict). length x ≤ config.calls) (script ∷ []) (λ s i. ⊎_elim
      (λ (q : s ≡ script). subst (λ (x : List Verdict). length x ≤ config.calls) (is ∙ sym q) (can.few k script inside)) (λ (n : ⊥). absurd n) i);
  limit = can.limit;
}

-- the call of a line is valid
pub AreRunnable-line : (config : TableConfig) (script : List Verdict) (i : ℕ) (v : Verdict) → AreRunnable config (script ∷ []) → i < length script
    → get_or script i v ≡ v → IsTrue (line_is_valid config.world.decls v)
AreRunnable-line config script i v can inside is =
    subst (λ (x : Verdict). IsTrue (line_is_valid config.world.decls x)) is (can.valid 0 [] (omega arith) i v inside)

-- the lines are few
pub AreRunnable-few : (config : TableConfig) (script : List Verdict) → AreRunnable config (script ∷ []) → length script ≤ config.calls
AreRunnable-few config script can = can.few 0 [] (omega arith)

-- nor more than a seat of the table has calls
pub AreRunnable-seat : (s : SeatState) (table : TableState) (script : List Verdict) → BelongsTo s table → AreRunnable table.config (script ∷ [])
    → length script ≤ s.config.calls
AreRunnable-seat s table script b can = subst (λ (x : TableConfig). length script ≤ x.calls) (sym b.1) (AreRunnable-few table.config script can)

-- the seat of all sessions may run as many scripts before any call
pub CanRun-first : (table : TableState) (scripts : List (List Verdict)) → 1 ≤ length scripts → table.config.sessions ≡ length scripts
    → CanRun scripts (first_state table.table table.config)
CanRun-first table scripts some same = record { some = some; first = refl; last = same; idle = refl; unused = λ e i. absurd i }

-- ---- the call of a turn

when_counted : (line : Option Verdict) (b : Bool) → option_and_then accepted_call (if b then line else None)
    ≡ (if b then option_and_then accepted_call line else None)
when_counted line true = refl
when_counted line false = refl

-- a turn's call is that of the line of its session's script
pub scripted_call-line : (scripts : List (List Verdict)) (s n : ℕ) (script : List Verdict) → 1 ≤ s → slice_get scripts (s - 1) ≡ Some script
    → scripted_call scripts s n ≡ line_call script n
scripted_call-line scripts s n script low there =
    let counted : nat_le 1 s ≡ true = grind (arith, nat_tests) in
    rw (counted, there) (when_counted (slice_get script (n - 1)) (nat_le 1 n))

none_either_way : {X : Type 0} (b : Bool) → ◌≡◌ {A = Option X} (if b then None else None) None
none_either_way true = refl
none_either_way false = refl

no_script : (scripts : List (List Verdict)) (s n : ℕ) → length scripts < s → scripted_call scripts s n ≡ None
no_script scripts s n more = rw (slice_get_past scripts (s - 1) (omega arith), none_either_way {X = Verdict} (nat_le 1 s && nat_le 1 n)) refl

no_session : (scripts : List (List Verdict)) (n : ℕ) → scripted_call scripts 0 n ≡ None
no_session scripts n = refl

-- a turn that has a call is of one of the scripts
pub scripted_call-within : (scripts : List (List Verdict)) (s n : ℕ) (call : Call) → scripted_call scripts s n ≡ Some call → (1 ≤ s) × (s ≤ length scripts)
scripted_call-within scripts zero n call e = absurd (none-some call (sym (no_session scripts n) ∙ e))
scripted_call-within scripts (suc s) n call e = elim (nat_le (suc s) (length scripts)) as (λ b. nat_le (suc s) (length scripts) ≡ b
    → (1 ≤ suc s) × (suc s ≤ length scripts)) [
      | true ↦ λ t. (omega arith, grind (arith, nat_tests))
      | false ↦ λ f. let more : length scripts < suc s = grind (arith, nat_tests) in absurd (none-some call (sym (no_script scripts (suc s) n more) ∙ e))
    ] refl

-- the script of a session that has one
pub script_of-there : (scripts : List (List Verdict)) (s : ℕ) → 1 ≤ s → s ≤ length scripts → slice_get scripts (s - 1) ≡ Some (script_of scripts s)
script_of-there scripts s low high = slice_get-get_or scripts (s - 1) [] (omega arith)

-- ---- what follows of a run

-- a run of a world's scripts is one of its orders, where the history is legal
pub HasRun-IsOrder : (w : World) (old new : SeatState) (calls : ℕ) → IsLegal w.decls (length w.scripts) calls new.seen → calls ≤ MOST_CALLS
    → CanRun w.scripts old → HasRun w.scripts old new → IsOrder w new.seen
HasRun-IsOrder w old new calls legal limit can run = record {
  legal = record {
    sessions = legal.sessions;
    numbers = in_all (λ (e : Entry). (1 ≤ e.turn.number) × (e.turn.number ≤ MOST_CALLS)) new.seen (λ e i.
        let b = all_in (λ (e : Entry). (1 ≤ e.turn.number) × (e.turn.number ≤ calls)) new.seen e legal.numbers i in
        let high = b.1 in (b.0, omega arith));
    calls = legal.calls;
    rising = legal.rising;
  };
  called = in_all (λ (e : Entry). call_of w e.turn.session e.turn.number ≡ Some e.call) new.seen (λ e i.
      let b = all_in (λ (e : Entry). (1 ≤ e.turn.session) × (e.turn.session ≤ length w.scripts)) new.seen e legal.sessions i in
      let low = b.0 in
      let high = b.1 in
      let first = can.first in
      let last = can.last in
      run.own e i (omega arith, omega arith));
}

-- a run of a world's scripts has each accepted get
pub HasRun-AllGets : (w : World) (old new : SeatState) → CanRun w.scripts old → HasRun w.scripts old new → AllGets w new.seen
HasRun-AllGets w old new can run s n cell c =
    let b = scripted_call-within w.scripts s n (Get cell) c in
    let low = b.0 in
    let high = b.1 in
    let first = can.first in
    let last = can.last in
    run.gets s n cell (omega arith, omega arith) c
