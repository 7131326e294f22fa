-- What the calls of the tests ask of their seats, and what they leave.
use Rattle.std.proofs.Common.{◌≡◌, ◌∙◌, ℕ, true, List, ◌∷◌, refl, sym, ap, subst, drop, Result, Ok, Err, IfOk, IfErr}
use Rattle.dt_model.specs.declared.calls.Call.{Call}
use Rattle.dt_model.specs.declared.calls.Entry.{Entry}
use Rattle.dt_model.specs.declared.calls.Turn.{Turn}
use Rattle.dt_model.specs.declared.replies.Reply.{Reply}
use Rattle.dt_model.specs.declared.replies.World.{World}
use Rattle.dt_model.specs.Verdicts.{call_is_valid}
use Rattle.fiber_latch.specs.declared.view.TableConfig.{TableConfig}
use Rattle.fiber_latch.specs.declared.rule.Busy.{Busy}
use Rattle.fiber_latch.specs.declared.rule.Kept.{Kept}
use Rattle.fiber_latch.specs.Rule.{GoodAt}
use Rattle.fiber_latch.specs.Seats.{IsTaken, SeatState, TableState, without_top}
use Rattle.fiber_store.specs.Stores.{IsSound, StoreState, store_content}
use Rattle.sessions.specs.declared.faults.TryFault.{TryFault}
use Rattle.sessions.specs.declared.faults.TryFault.TheVariants as fault
use Rattle.sessions.specs.Calling.{entry_at, CanMake, HasFault, HasMade, IsNext, IsStopped}
use Rattle.sessions.specs.RunTests.{two_vectors}
use Rattle.sessions.specs.TrialSeats.{back_of, IsFree, IsHolding, IsTrial}

-- a free seat may make a valid call at its next turn
pub CanMake-free : (table : TableState) (s : SeatState) (turn : Turn) (call : Call) → IsTrial table → IsFree table s → IsNext turn s
    → call_is_valid two_vectors.decls call ≡ true → CanMake (entry_at turn call) s
CanMake-free table s turn call trial free next valid =
    let w : s.config.world ≡ two_vectors = ap (λ (c : TableConfig). c.world) free.of.1 ∙ trial.world in
    record { next = next; valid = ap (λ (x : World). call_is_valid x.decls call) w ∙ valid; idle = free.free }

-- a seat of the same table that holds the same latches is free as well
pub IsFree-same : (table : TableState) (old new : SeatState) → new.table ≡ old.table → new.config ≡ old.config → new.held ≡ old.held
    → IsFree table old → IsFree table new
IsFree-same table old new t c h free = record { of = (t ∙ free.of.0, c ∙ free.of.1); free = h ∙ free.free }

-- a call that was made leaves its seat free
pub IsFree-made : (table : TableState) (e : Entry) (r : Reply) (old new : SeatState) → HasMade e r old new → IsFree table old → IsFree table new
IsFree-made table e r old new made =
    IsFree-same table old new (ap (λ (s : SeatState). s.table) made.rest) (ap (λ (s : SeatState). s.config) made.rest)
    (ap (λ (s : SeatState). s.held) made.rest)

-- a call that was stopped leaves its seat free
pub IsFree-stopped : (table : TableState) (call : Call) (b : Busy) (old new : SeatState) → IsStopped call old b new → IsFree table old
    → IsFree table new
IsFree-stopped table call b old new stopped =
    IsFree-same table old new (ap (λ (s : SeatState). s.table) stopped.goes.rest) (ap (λ (s : SeatState). s.config) stopped.goes.rest) stopped.held

-- a call that was stopped or ran out of memory leaves its seat free
pub IsFree-fault : {T : Type 0} (table : TableState) (call : Call) (given : T) (old : SeatState) (f : TryFault T) (new : SeatState)
    → HasFault call given old f new → IsFree table old → IsFree table new
IsFree-fault table call given old (fault.Busy b back) new h = IsFree-stopped table call b old new h.0
IsFree-fault table call given old (fault.NoMemory back) new h =
    IsFree-same table old new (ap (λ (s : SeatState). s.table) h.0.rest) (ap (λ (s : SeatState). s.config) h.0.rest)
    (ap (λ (s : SeatState). s.held) h.0.rest)

-- whatever came of a call
pub IsFree-tried : {A B : Type 0} (table : TableState) (e : Entry) (reply : A → Reply) (P : B → Type 0) (old new : SeatState) (r : Result A B)
    → IfOk r (λ a. HasMade e (reply a) old new) → IfErr r P → ((b : B) → P b → IsFree table old → IsFree table new) → IsFree table old
    → IsFree table new
IsFree-tried table e reply P old new (Ok a) made p f free = IsFree-made table e (reply a) old new made free
IsFree-tried table e reply P old new (Err b) made p f free = f b p free

-- what was handed in comes back
pub back_of-fault : {T : Type 0} (call : Call) (given : T) (old : SeatState) (f : TryFault T) (new : SeatState) → HasFault call given old f new
    → back_of f ≡ given
back_of-fault call given old (fault.Busy b back) new h = h.1
back_of-fault call given old (fault.NoMemory back) new h = h.1

-- ---- a latch that is held

-- a free seat that takes a latch holds it alone
pub IsHolding-taken : (table : TableState) (l s : ℕ) (old new : SeatState) (y : Kept StoreState)
    → IsTaken (GoodAt store_content IsSound) l s old y new → IsFree table old → IsHolding table l y new
IsHolding-taken table l s old new y taken free =
    let same : new.config ≡ old.config = ap (λ (x : SeatState). x.config) taken.rest in
    record {
      of = (ap (λ (x : SeatState). x.table) taken.rest ∙ free.of.0, same ∙ free.of.1);
      session = s;
      held = ap (λ (x : SeatState). x.held) taken.rest ∙ ap (λ (xs : List (ℕ × ℕ)). (l, s) ∷ xs) free.free;
      good = subst (λ (c : TableConfig). GoodAt store_content IsSound c new.seen l y) (sym same) taken.fits;
    }

-- a seat that gives back the one latch that it holds is free
pub IsFree-given : (table : TableState) (l : ℕ) (y : Kept StoreState) (old new : SeatState) → IsHolding table l y old → new ≡ without_top old
    → IsFree table new
IsFree-given table l y old new holds given = record {
  of = (ap (λ (x : SeatState). x.table) given ∙ holds.of.0, ap (λ (x : SeatState). x.config) given ∙ holds.of.1);
  free = ap (λ (x : SeatState). x.held) given ∙ ap (drop 1) holds.held;
}
