-- A possible event is a step of the latch machine.
use Rattle.std.proofs.Common.{◌≡◌, ℕ, ◌+◌, ◌≤◌, true, refl, ap, sym, arith, subst}
use Rattle.std.specs.Prelude.{◌==◌, not}
use Rattle.std.proofs.lemmas.Bool.Decides.{Decides-eqb}
use Rattle.dt_model.specs.declared.replies.World.{World}
use Rattle.dt_model.specs.Worlds.{IsValid}
use Rattle.dt_model.proofs.Booleans.{both_true}
use Rattle.commit_core.specs.declared.events.Event.{Event}
use Rattle.commit_core.specs.declared.events.Event.TheVariants.{Take, Commit, Give, Quit}
use Rattle.commit_core.specs.Machine.{Machine, Reached, takes, commits, gives, journal_latch}
use Rattle.commit_core.specs.Events.{Progress, current_call, is_possible, after_event, after_commit, holds_below}
use Rattle.commit_core.specs.Steps.{IsStep, entry_now}
use Rattle.commit_core.specs.Invariant.{IsStepInvariant}
use Rattle.commit_core.proofs.CoreSteps.{possible_call, is_session}
use Rattle.commit_core.proofs.SessionTurns.{rises_at}
use Rattle.commit_core.proofs.Holders.{IsTakePossible-can_take, not_committed, without_nobody}
use Rattle.commit_core.proofs.Reaching.{CanTake-possible, CanCommit-possible, Gives-quit, Reached-gives}
use Rattle.commit_core.proofs.InvariantParts.{InvariantParts, parts_of}

IsStep-commit : (w : World) (p : Progress) (s : ℕ) → IsValid w → is_possible w p (Commit s) ≡ true → InvariantParts w p
    → IsStep w p (Commit s) (after_event w p (Commit s)).machine
IsStep-commit w p s valid can k =
    let t = possible_call w.decls p.machine.holder p.position (Commit s) (current_call w p s) can in
    let parts = both_true (not (p.position s).committed) (holds_below w.decls p.machine.holder s t.0 (journal_latch w.decls + 1)) t.2 in
    let above = rises_at w p.machine.history p.position p.lost s t.0 t.1 (not_committed (p.position s).committed parts.0) k.turns in
    (t.0, t.1, CanCommit-possible w p.machine p.position s (entry_now p s t.0) valid t.1 refl parts.1 above, ap (λ o. (after_commit w.decls p s o).machine) t.1)

IsStep-give : (w : World) (p : Progress) (s l : ℕ) → is_possible w p (Give s l) ≡ true → IsStep w p (Give s l) (after_event w p (Give s l)).machine
IsStep-give w p s l can =
    let t = possible_call w.decls p.machine.holder p.position (Give s l) (current_call w p s) can in
    let some : 1 ≤ s = is_session w s (p.position s).number t.0 t.1 in
    (record { session = omega arith; held = (Decides-eqb (p.machine.holder l) s).0 (both_true (p.position s).committed (p.machine.holder l == s) t.2).1 }, refl)

-- what a possible event makes of the machine is the machine's step
pub IsStep-after_event : (w : World) (p : Progress) (e : Event) → IsStepInvariant w p → is_possible w p e ≡ true → IsStep w p e (after_event w p e).machine
IsStep-after_event w p (Take s l) kept can =
    let k = parts_of w p kept in
    let t = possible_call w.decls p.machine.holder p.position (Take s l) (current_call w p s) can in
    (CanTake-possible w p.machine p.position s l t.0 t.1 (IsTakePossible-can_take w.decls p.machine.holder (p.position s) s l t.0 t.2) k.holds, refl)
IsStep-after_event w p (Commit s) kept can = IsStep-commit w p s kept.valid can (parts_of w p kept)
IsStep-after_event w p (Give s l) kept can = IsStep-give w p s l can
IsStep-after_event w p (Quit s) kept can =
    let t = possible_call w.decls p.machine.holder p.position (Quit s) (current_call w p s) can in
    let some : 1 ≤ s = is_session w s (p.position s).number t.0 t.1 in
    (Gives-quit w p.machine s some kept.within, without_nobody p.machine.holder s some)

-- a step leads to what is reached
pub Reached-step : (w : World) (p : Progress) (e : Event) (new : Machine) → Reached w p.machine → IsStep w p e new → Reached w new
Reached-step w p (Take s l) new r h = subst (Reached w) (sym h.1) (takes p.machine s l r h.0)
Reached-step w p (Commit s) new r h = subst (Reached w) (sym h.3) (commits p.machine (entry_now p s h.0) r h.2)
Reached-step w p (Give s l) new r h = subst (Reached w) (sym h.1) (gives p.machine s l r h.0)
Reached-step w p (Quit s) new r h = Reached-gives w s p.machine new r h.0
