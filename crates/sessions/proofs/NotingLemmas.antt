-- Conflicts that a seat notes: none, those of one take, and those of several after one another.
use Rattle.std.proofs.Common.{◌≡◌, ℕ, ◌≤◌, ◌==◌, ◌⊎◌, Bool, true, false, List, [], ◌∷◌, ◌++◌, IsTrue, sym, refl, ap, ◌∙◌, subst, inl, inr, ⊎_elim, arith, Result, Ok, Err}
use Rattle.std.specs.Prelude.{IfOk, IfErr}
use Rattle.std.proofs.lemmas.Bool.Decides.{Decides-eqb}
use Rattle.std.proofs.lemmas.List.{append-nil, append_assoc}
use Rattle.commit_core.specs.Machine.{commit_needs, journal_latch}
use Rattle.dt_model.specs.declared.calls.Call.{Call}
use Rattle.dt_model.specs.declared.calls.Entry.{Entry}
use Rattle.dt_model.specs.declared.declared_tensors.Decls.{Decls}
use Rattle.dt_model.specs.Latches.{needs}
use Rattle.dt_model.specs.Tensors.{latch_count}
use Rattle.fiber_latch.specs.declared.rule.Busy.{Busy}
use Rattle.fiber_latch.specs.declared.rule.Kept.{Kept}
use Rattle.fiber_latch.specs.declared.view.TableConfig.{TableConfig}
use Rattle.fiber_latch.specs.Views.{In}
use Rattle.fiber_latch.specs.Seats.{SeatState, IsBusy, IsHeldBy, IsTaken, IsTakenAfterTries, OwnsSession}
use Rattle.fiber_latch.proofs.ViewsLemmas.{in_append}
use Rattle.sums.proofs.NumberTests.{or_left, or_right}
use Rattle.sessions.specs.declared.hands.Fault.{Fault}
use Rattle.sessions.specs.declared.hands.Fault.TheVariants.{Held, Full}
use Rattle.sessions.specs.Calling.{GoesOn, HasFault, IsGivenUp, IsOutOfMemory, IsStopped, NotesConflicts}
use Rattle.sessions.specs.Holding.{fault_with}
use Rattle.sessions.specs.Noting.{Notes, stop_of_fault, stop_of_take}
use Rattle.sessions.specs.ScriptLines.{OwnsAll}

-- ---- the latches of a commit

-- equal numbers pass the test
pub same_number : (a b : ℕ) → a ≡ b → (a == b) ≡ true
same_number a b e = (Decides-eqb a b).1 e

-- numbers that pass the test are equal
pub number_is : (a b : ℕ) → (a == b) ≡ true → a ≡ b
number_is a b h = (Decides-eqb a b).0 h

-- a commit needs the latches of its call
pub commit_needs-own : (d : Decls) (call : Call) (l : ℕ) → needs d call l ≡ true → IsTrue (commit_needs d call l)
commit_needs-own d call l e = or_left (needs d call l) (l == journal_latch d) e

-- a commit needs the journal's latch
pub commit_needs-journal : (d : Decls) (call : Call) (l : ℕ) → l ≡ latch_count d → IsTrue (commit_needs d call l)
commit_needs-journal d call l e = or_right (needs d call l) (l == journal_latch d) (same_number l (latch_count d) e)

-- ---- one take

-- nothing was noted
pub Notes-none : (w : Bool) (f : ℕ → Bool) (old new : SeatState) → new.conflicts ≡ old.conflicts → Notes w f [] old new
Notes-none w f old new same = record {
  conflicts = record { later = []; noted = same ∙ sym (append-nil old.conflicts); each = λ p i. absurd i };
  tries = λ e. refl;
  waiting = λ e. refl;
}

-- a take that doesn't wait was stopped
pub Notes-busy : (l : ℕ) (old : SeatState) (b : Busy) (new : SeatState) → IsBusy l old b new
    → Notes false (λ k. k == l) ((b.latch, b.holder) ∷ []) old new
Notes-busy l old b new busy = record {
  conflicts = record {
    later = (b.latch, b.holder) ∷ [];
    noted = ap (λ (s : SeatState). s.conflicts) busy.conflicts ∙ ap (λ (k : ℕ). old.conflicts ++ (k, b.holder) ∷ []) (sym busy.latch);
    each = λ p i. ⊎_elim
        (λ (e : p ≡ (b.latch, b.holder)). subst (λ (q : ℕ × ℕ). IsTrue (q.0 == l) × IsHeldBy q.1 old) (sym e) (same_number b.latch l busy.latch, busy.holder))
        (λ (n : ⊥). absurd n)
        i;
  };
  tries = λ e. refl;
  waiting = λ e. cc;
}

-- a take that waits got its latch
pub Notes-waited : {C : Type 0} (good : TableConfig → List Entry → ℕ → Kept C → Type 0) (l s : ℕ) (old : SeatState) (y : Kept C) (new : SeatState)
    → IsTakenAfterTries good l s old y new → Notes true (λ k. k == l) [] old new
Notes-waited good l s old y new taken = record {
  conflicts = record {
    later = taken.conflicts;
    noted = ap (λ (x : SeatState). x.conflicts) taken.got.rest;
    each = λ p i. let t = taken.tries p i in (same_number p.0 l t.0, t.1);
  };
  tries = λ e. cc;
  waiting = λ e. refl;
}

-- a take that doesn't wait notes what stopped it
pub Notes-tried : {C : Type 0} (good : TableConfig → List Entry → ℕ → Kept C → Type 0) (l s : ℕ) (r : Result (Kept C) Busy) (old new : SeatState)
    → IfErr r (λ b. IsBusy l old b new) → IfOk r (λ y. IsTaken good l s old y new) → Notes false (λ k. k == l) (stop_of_take r) old new
Notes-tried good l s (Ok y) old new busy taken = Notes-none false (λ k. k == l) old new (ap (λ (x : SeatState). x.conflicts) taken.rest)
Notes-tried good l s (Err b) old new busy taken = Notes-busy l old b new busy

-- ---- several

-- the same conflicts, of which less is said
pub Notes-weaker : (w : Bool) (f g : ℕ → Bool) (stop : List (ℕ × ℕ)) (old new : SeatState) → ((l : ℕ) → f l ≡ true → g l ≡ true) → Notes w f stop old new
    → Notes w g stop old new
Notes-weaker w f g stop old new weaker n = record {
  conflicts = record {
    later = n.conflicts.later;
    noted = n.conflicts.noted;
    each = λ p i. let e = n.conflicts.each p i in (weaker p.0 e.0, e.1);
  };
  tries = n.tries;
  waiting = n.waiting;
}

-- nothing was noted since
pub Notes-later : (w : Bool) (f : ℕ → Bool) (stop : List (ℕ × ℕ)) (old mid new : SeatState) → new.conflicts ≡ mid.conflicts → Notes w f stop old mid
    → Notes w f stop old new
Notes-later w f stop old mid new same n = record {
  conflicts = record { later = n.conflicts.later; noted = same ∙ n.conflicts.noted; each = n.conflicts.each };
  tries = n.tries;
  waiting = n.waiting;
}

-- who holds a latch is no session of the seat's, whatever it has seen since
pub IsHeldBy-goes : (n : ℕ) (old mid : SeatState) → GoesOn old mid → IsHeldBy n mid → IsHeldBy n old
IsHeldBy-goes n old mid g h = let k = subst (IsHeldBy n) g.rest h in record { held = k.held; session = k.session; other = k.other }

-- one part of a call after another
pub Notes-more : (w : Bool) (f g h : ℕ → Bool) (stop : List (ℕ × ℕ)) (old mid new : SeatState) → GoesOn old mid → ((l : ℕ) → f l ≡ true → h l ≡ true)
    → ((l : ℕ) → g l ≡ true → h l ≡ true) → Notes w f [] old mid → Notes w g stop mid new → Notes w h stop old new
Notes-more w f g h stop old mid new goes first second a b = record {
  conflicts = record {
    later = a.conflicts.later ++ b.conflicts.later;
    noted = b.conflicts.noted ∙ ap (λ (m : List (ℕ × ℕ)). m ++ b.conflicts.later) a.conflicts.noted
        ∙ append_assoc old.conflicts a.conflicts.later b.conflicts.later;
    each = λ p i. ⊎_elim
        (λ (j : In p a.conflicts.later). let e = a.conflicts.each p j in (first p.0 e.0, e.1))
        (λ (j : In p b.conflicts.later). let e = b.conflicts.each p j in (second p.0 e.0, IsHeldBy-goes p.1 old mid goes e.1))
        (in_append p a.conflicts.later b.conflicts.later i);
  };
  tries = λ e. ap (λ (m : List (ℕ × ℕ)). m ++ b.conflicts.later) (a.tries e) ∙ b.tries e;
  waiting = b.waiting;
}

-- ---- a call that doesn't wait

-- one that wasn't stopped has noted nothing
pub noted_nothing : (f : ℕ → Bool) (old new : SeatState) → Notes false f [] old new → new.conflicts ≡ old.conflicts
noted_nothing f old new n = n.conflicts.noted ∙ ap (λ (m : List (ℕ × ℕ)). old.conflicts ++ m) (n.tries refl) ∙ append-nil old.conflicts

-- one that was stopped has noted what stopped it
pub IsStopped-noted : (call : Call) (b : Busy) (old new : SeatState) → IsGivenUp old new
    → Notes false (commit_needs old.config.world.decls call) ((b.latch, b.holder) ∷ []) old new → IsStopped call old b new
IsStopped-noted call b old new given n =
    let held : new.held ≡ old.held = ap (λ (s : SeatState). s.held) given.rest in
    let one : n.conflicts.later ≡ (b.latch, b.holder) ∷ [] = n.tries refl in
    let here = n.conflicts.each (b.latch, b.holder) (subst (In (b.latch, b.holder)) (sym one) (inl refl)) in
    record {
      goes = record {
        rest = given.rest ∙ ap (λ (h : List (ℕ × ℕ)). record old { held = h; seen = new.seen; conflicts = new.conflicts }) (sym held);
        grown = given.grown;
      };
      held = held;
      conflicts = n.conflicts.noted ∙ ap (λ (m : List (ℕ × ℕ)). old.conflicts ++ m) one;
      latch = here.0;
      holder = here.1;
    }

-- one that wasn't made was stopped, or ran out of memory
pub HasFault-noted : {T : Type 0} (call : Call) (given back : T) (f : Fault) (old new : SeatState) → back ≡ given → IsGivenUp old new
    → Notes false (commit_needs old.config.world.decls call) (stop_of_fault f) old new → HasFault call given old (fault_with f back) new
HasFault-noted call given back (Held b) old new same up n = (IsStopped-noted call b old new up n, same)
HasFault-noted call given back Full old new same up n = (
  record {
    rest = up.rest
        ∙ ap (λ (m : List (ℕ × ℕ)). record old { seen = new.seen; conflicts = m }) (noted_nothing (commit_needs old.config.world.decls call) old new n);
    grown = up.grown;
  },
  same,
)

-- ---- a call that is never stopped

all_owned : (n : ℕ) (s : SeatState) → OwnsAll s → IsHeldBy n s → ⊥
all_owned n s all held =
    let first = all.first in
    let last = all.last in
    let some = held.held in
    let few = held.session in
    held.other (omega arith, omega arith)

-- no latch stops a call whose taker waits, or whose seat owns all sessions
pub never_stopped : (w : Bool) (f : ℕ → Bool) (p : ℕ × ℕ) (old new : SeatState) → (w ≡ true) ⊎ OwnsAll old → Notes w f (p ∷ []) old new → ⊥
never_stopped true f p old new can n = let e = n.waiting refl in cc
never_stopped false f p old new can n = ⊎_elim
    (λ (e : false ≡ true). cc)
    (λ (all : OwnsAll old). all_owned p.1 old all (n.conflicts.each p (subst (In p) (sym (n.tries refl)) (inl refl))).1)
    can
