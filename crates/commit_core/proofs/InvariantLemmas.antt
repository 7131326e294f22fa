-- The invariant holds at the opening, and every possible event keeps it.
use Rattle.std.proofs.Common.{◌≡◌, ℕ, List, ◌+◌, ◌<◌, ◌≤◌, ◌++◌, true, false, [], ◌∷◌, length, length-append, refl, sym, arith, subst, inl, inr, sum_by, ap, ◌∙◌}
use Rattle.std.specs.Prelude.{◌==◌, not, if◌then◌else◌}
use Rattle.std.proofs.lemmas.Bool.{cases_Bool}
use Rattle.std.proofs.lemmas.Bool.Decides.{Decides-eqb}
use Rattle.dt_model.specs.declared.calls.Entry.{Entry}
use Rattle.dt_model.specs.declared.replies.World.{World}
use Rattle.dt_model.specs.Worlds.{IsValid}
use Rattle.dt_model.specs.Runs.{IsOrder}
use Rattle.dt_model.specs.Functions.{with_value}
use Rattle.dt_model.proofs.Booleans.{both_true}
use Rattle.dt_model.proofs.OrderLines.{length-IsOrder_lines}
use Rattle.commit_core.specs.declared.events.Event.{Event}
use Rattle.commit_core.specs.declared.events.Event.TheVariants.{Take, Commit, Give, Quit}
use Rattle.commit_core.specs.Machine.{opened as reached_opening, journal_latch, given}
use Rattle.commit_core.specs.Events.{Progress, initial, current_call, is_possible, after_event, after_commit, holds_none, holds_below, position_after}
use Rattle.commit_core.specs.Steps.{entry_now, IsStep}
use Rattle.commit_core.specs.Orders.{orders_of}
use Rattle.commit_core.specs.Invariant.{IsStepInvariant, IsInvariant}
use Rattle.commit_core.proofs.CoreSteps.{possible_call, is_session}
use Rattle.commit_core.proofs.SessionTurns.{Turns-initial, Turns-commit, Turns-give, Turns-quit, rises_at}
use Rattle.commit_core.proofs.Holders.{Holds-initial, Holds-take, Holds-commit, Holds-give, Holds-last, Holds-quit, IsTakePossible-can_take, not_committed}
use Rattle.commit_core.proofs.MadeEntries.{Made-initial, Made-commit}
use Rattle.commit_core.proofs.StepsLemmas.{IsStep-after_event, Reached-step}
use Rattle.commit_core.proofs.InvariantParts.{InvariantParts, parts_of, IsStepInvariant-parts}
use Rattle.commit_core.specs.State.{CoreState, progress_of}
use Rattle.commit_core.specs.Sound.{IsSound}

-- a valid World's opening keeps it
pub IsStepInvariant-initial : (w : World) → IsValid w → IsStepInvariant w (initial w)
IsStepInvariant-initial w valid = IsStepInvariant-parts w (initial w) valid reached_opening
    (record { made = Made-initial w; turns = Turns-initial w; holds = Holds-initial w })

InvariantParts-after_take : (w : World) (p : Progress) (s l : ℕ) → is_possible w p (Take s l) ≡ true → InvariantParts w p
    → InvariantParts w (after_event w p (Take s l))
InvariantParts-after_take w p s l can k =
    let t = possible_call w.decls p.machine.holder p.position (Take s l) (current_call w p s) can in
    let takes = IsTakePossible-can_take w.decls p.machine.holder (p.position s) s l t.0 t.2 in
    record {
      made = k.made;
      turns = k.turns;
      holds = Holds-take w p.machine.holder p.position s l t.0 t.1 takes k.holds;
    }

InvariantParts-after_commit : (w : World) (p : Progress) (s : ℕ) → is_possible w p (Commit s) ≡ true → InvariantParts w p
    → InvariantParts w (after_event w p (Commit s))
InvariantParts-after_commit w p s can k =
    let t = possible_call w.decls p.machine.holder p.position (Commit s) (current_call w p s) can in
    let parts = both_true (not (p.position s).committed) (holds_below w.decls p.machine.holder s t.0 (journal_latch w.decls + 1)) t.2 in
    let open' : (p.position s).committed ≡ false = not_committed (p.position s).committed parts.0 in
    let e : Entry = record { turn = record { session = s; number = (p.position s).number }; call = t.0 } in
    let above = rises_at w p.machine.history p.position p.lost s t.0 t.1 open' k.turns in
    subst (λ o. InvariantParts w (after_commit w.decls p s o)) (sym t.1) (record {
      made = Made-commit w p.machine.content p.machine.history p.replies e t.1 above k.made;
      turns = Turns-commit w p.machine.history p.position p.lost s t.0 e t.1 refl refl k.turns;
      holds = Holds-commit w p.machine.holder p.position s t.0 t.1 parts.1 k.holds;
    })

InvariantParts-after_give : (w : World) (p : Progress) (s l : ℕ) → is_possible w p (Give s l) ≡ true → InvariantParts w p
    → InvariantParts w (after_event w p (Give s l))
InvariantParts-after_give w p s l can k =
    let t = possible_call w.decls p.machine.holder p.position (Give s l) (current_call w p s) can in
    let parts = both_true (p.position s).committed (p.machine.holder l == s) t.2 in
    let own : p.machine.holder l ≡ s = (Decides-eqb (p.machine.holder l) s).0 parts.1 in
    let some : 1 ≤ s = is_session w s (p.position s).number t.0 t.1 in
    elim (cases_Bool (holds_none w.decls (with_value p.machine.holder l 0) s)) [
      | inl none ↦ subst (λ b. InvariantParts w (record {
        machine = given p.machine l;
        position =
            if b then with_value p.position s (position_after w s (p.position s).number) else p.position;
        lost = p.lost;
        replies = p.replies;
      })) (sym none)
          (record {
            made = k.made;
            turns = Turns-give w p.machine.history p.position p.lost s t.0 t.1 parts.0 k.turns;
            holds = Holds-last w p.machine.holder p.position s l (position_after w s (p.position s).number) some own none refl k.holds;
          })
      | inr more ↦ subst (λ b. InvariantParts w (record {
        machine = given p.machine l;
        position =
            if b then with_value p.position s (position_after w s (p.position s).number) else p.position;
        lost = p.lost;
        replies = p.replies;
      })) (sym more)
          (record {
            made = k.made;
            turns = k.turns;
            holds = Holds-give w p.machine.holder p.position s l some parts.0 own more k.holds;
          })
    ]

InvariantParts-after_quit : (w : World) (p : Progress) (s : ℕ) → is_possible w p (Quit s) ≡ true → InvariantParts w p
    → InvariantParts w (after_event w p (Quit s))
InvariantParts-after_quit w p s can k =
    let t = possible_call w.decls p.machine.holder p.position (Quit s) (current_call w p s) can in
    let some : 1 ≤ s = is_session w s (p.position s).number t.0 t.1 in
    record {
      made = k.made;
      turns = Turns-quit w p.machine.history p.position p.lost s t.0 t.1 (not_committed (p.position s).committed t.2) k.turns;
      holds = Holds-quit w p.machine.holder p.position s (position_after w s (p.position s).number) some refl k.holds;
    }

InvariantParts-after_event : (w : World) (p : Progress) (e : Event) → is_possible w p e ≡ true → InvariantParts w p → InvariantParts w (after_event w p e)
InvariantParts-after_event w p (Take s l) can k = InvariantParts-after_take w p s l can k
InvariantParts-after_event w p (Commit s) can k = InvariantParts-after_commit w p s can k
InvariantParts-after_event w p (Give s l) can k = InvariantParts-after_give w p s l can k
InvariantParts-after_event w p (Quit s) can k = InvariantParts-after_quit w p s can k

-- a possible event keeps it
pub IsStepInvariant-after_event : (w : World) (p : Progress) (e : Event) → IsStepInvariant w p → is_possible w p e ≡ true
    → IsStepInvariant w (after_event w p e)
IsStepInvariant-after_event w p e k can = IsStepInvariant-parts w (after_event w p e) k.valid
    (Reached-step w p e (after_event w p e).machine k.sound.reached (IsStep-after_event w p e k can)) (InvariantParts-after_event w p e can (parts_of w p k))

-- where a commit is possible the entries are fewer than the scripts have lines
pub room_to_commit : (w : World) (p : Progress) (s : ℕ) → IsStepInvariant w p → is_possible w p (Commit s) ≡ true
    → length p.machine.history < sum_by length w.scripts
room_to_commit w p s k can =
    let t = possible_call w.decls p.machine.holder p.position (Commit s) (current_call w p s) can in
    let next : IsOrder w (p.machine.history ++ entry_now p s t.0 ∷ []) =
    subst (λ o. IsOrder w (after_commit w.decls p s o).machine.history) t.1 (IsStepInvariant-after_event w p (Commit s) k can).sound.order in
    omega (arith, length-append p.machine.history (entry_now p s t.0 ∷ []), length-IsOrder_lines w (p.machine.history ++ entry_now p s t.0 ∷ []) next)

-- a core whose lists stand for what a possible event makes, and are as long as they were, is whole
pub IsInvariant-after_event : (old new : CoreState) (spare left : ℕ) (orders orders' : List ℕ) (e : Event) → IsInvariant old spare orders
    → is_possible old.world (progress_of old) e ≡ true → new.world ≡ old.world → progress_of new ≡ after_event old.world (progress_of old) e
    → length new.holders ≡ length old.holders → length new.positions ≡ length old.positions → orders' ≡ orders
    → length new.entries + left ≡ length old.entries + spare → IsInvariant new left orders'
IsInvariant-after_event old new spare left orders orders' e h can same made holders positions kept room = record {
  latches = holders ∙ h.latches ∙ sym (ap (λ w. journal_latch w.decls + 1) same);
  sessions = positions ∙ h.sessions ∙ sym (ap (λ w. length w.scripts + 1) same);
  tensors = kept ∙ h.tensors ∙ sym (ap (λ w. orders_of w.decls) same);
  room = room ∙ h.room ∙ sym (ap (λ w. sum_by length w.scripts) same);
  kept = subst (λ w. IsStepInvariant w (progress_of new)) (sym same)
      (subst (IsStepInvariant old.world) (sym made) (IsStepInvariant-after_event old.world (progress_of old) e h.kept can));
}

-- the machine makes its step with a possible event
pub IsStep-made : (old new : CoreState) (e : Event) → IsStepInvariant old.world (progress_of old) → is_possible old.world (progress_of old) e ≡ true
    → progress_of new ≡ after_event old.world (progress_of old) e → IsStep old.world (progress_of old) e (progress_of new).machine
IsStep-made old new e k can made = subst (λ p. IsStep old.world (progress_of old) e p.machine) (sym made)
    (IsStep-after_event old.world (progress_of old) e k can)

-- a possible event leaves a core sound
pub IsSound-made : (old new : CoreState) (e : Event) → IsStepInvariant old.world (progress_of old) → is_possible old.world (progress_of old) e ≡ true
    → new.world ≡ old.world → progress_of new ≡ after_event old.world (progress_of old) e → IsSound new.world (progress_of new)
IsSound-made old new e k can same made = subst (λ w. IsSound w (progress_of new)) (sym same)
    (subst (IsSound old.world) (sym made) (IsStepInvariant-after_event old.world (progress_of old) e k can).sound)
