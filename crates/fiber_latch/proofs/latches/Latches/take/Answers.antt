use Rattle.std.proofs.Common.{ℕ, List, [], ◌∷◌, ◌++◌, ◌≡◌, refl, sym, ap, ◌∙◌, subst, ⊎_elim}
use Rattle.std.proofs.lemmas.List.{append_assoc, append-nil}
use Rattle.fiber_latch.specs.Seats.{SeatState, IsHeldBy}
use Rattle.fiber_latch.specs.Views.{IsAboveAll, In}
use Rattle.fiber_latch.proofs.ViewsLemmas.{in_append}
use Rattle.fiber_latch.proofs.latches.Latches.take.Goals as goal

pub try_take-requires-clause-latch : goal.try_take-requires-clause-latch
try_take-requires-clause-latch g c = (
  c.requires.latch.0,
  subst (λ (x : SeatState). IsAboveAll (λ (h : ℕ × ℕ). h.0) c.args.latch x.held) (sym c.loop.invariant.1) c.requires.latch.1,
)

pub loop-init : goal.loop-init
loop-init g c =
    let old : SeatState = c.args.seat.now in (
      [],
      ap (λ (m : List (ℕ × ℕ)). record old { conflicts = m }) (sym (append-nil old.conflicts)),
      λ p i. absurd i,
    )

pub loop-preserved : goal.loop-preserved
loop-preserved g c =
    let before = c.loop.invariant in
    let old : SeatState = c.args.seat.now in
    let busy = c.in-Err.ensures.busy in
    let l : ℕ = c.args.latch in
    let n : ℕ = c.in-Err.busy.holder in
    let here = subst (IsHeldBy n) before.1 busy.holder in (
      before.0 ++ (l, n) ∷ [],
      busy.conflicts ∙ ap (λ (x : SeatState). record x { conflicts = x.conflicts ++ (l, n) ∷ [] }) before.1
          ∙ ap (λ (m : List (ℕ × ℕ)). record old { conflicts = m }) (append_assoc old.conflicts before.0 ((l, n) ∷ [])),
      λ p i. ⊎_elim (λ (a : In p before.0). before.2 p a)
          (λ (a : In p ((l, n) ∷ [])). ⊎_elim (λ (e : p ≡ (l, n)). subst (λ (q : ℕ × ℕ). (q.0 ≡ l) × IsHeldBy q.1 old) (sym e) (
            refl,
            record { held = here.held; session = here.session; other = here.other },
          )) (λ (b : ⊥). absurd b) a)
          (in_append p before.0 ((l, n) ∷ []) i),
    )
