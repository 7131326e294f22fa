-- What a seat's caller may conclude: values in hand stay good, and numbers stay, while other latches are taken.
use Rattle.std.proofs.Common.{◌≡◌, ℕ, ◌≤◌, List, ◌∷◌, ◌++◌, sym, ap, ◌∙◌, subst}
use Rattle.dt_model.specs.declared.calls.Entry.{Entry}
use Rattle.dt_model.specs.declared.declared_tensors.Decls.{Decls}
use Rattle.dt_model.specs.Contents.{Contents}
use Rattle.fiber_latch.specs.declared.view.TableConfig.{TableConfig}
use Rattle.fiber_latch.specs.declared.rule.Kept as kept
use Rattle.fiber_latch.specs.Views.{IsUnrelated, In, Extends}
use Rattle.fiber_latch.specs.Rule.{GoodAt}
use Rattle.fiber_latch.specs.Seats.{SeatState, OwnsSession, HoldsLatch, IsTakenAfterTries, last_number}
use Rattle.fiber_latch.proofs.LastNumbers.{last_number-past}
use Rattle.fiber_latch.proofs.ConditionsLemmas.{good_past}

-- a value in hand is still good for the entries that a take brings
pub good_stays : {C : Type 0} (content : C → Contents) (sound : Decls → ℕ → C → Type 0) (p : ℕ × ℕ) (old : SeatState) (new : List Entry) (y : kept.Kept C)
    → In p old.held → Extends (IsUnrelated old.config (OwnsSession old) (HoldsLatch old)) old.seen new → GoodAt content sound old.config old.seen p.0 y
    → GoodAt content sound old.config new p.0 y
good_stays content sound p old new y held past good =
    subst (λ (z : List Entry). GoodAt content sound old.config z p.0 y) (sym past.1)
    (good_past content sound old.config p.0 old.seen past.0 y (λ e i. (past.2 e i).latch p.0 (p.1, held)) good)

-- a take leaves the last number of each of the seat's sessions
pub number_stays : (s : ℕ) (old : SeatState) (new : List Entry) → old.first ≤ s → s ≤ old.last
    → Extends (IsUnrelated old.config (OwnsSession old) (HoldsLatch old)) old.seen new → last_number s new ≡ last_number s old.seen
number_stays s old new low high past = ap (last_number s) past.1
    ∙ last_number-past s old.seen past.0 (λ e i q. (past.2 e i).session (subst (λ (x : ℕ). (old.first ≤ x) × (x ≤ old.last)) (sym q) (low, high)))

module _ {C : Type 0} (content : C → Contents) (sound : Decls → ℕ → C
    → Type 0) (l s : ℕ) (old new : SeatState) (y : kept.Kept C) (taken : IsTakenAfterTries (GoodAt content sound) l s old y new) where
  -- a take leaves what the table was opened for
  pub taken_config : new.config ≡ old.config
  taken_config = ap (λ (x : SeatState). x.config) taken.got.rest

  -- a take lists the latch in front
  pub taken_held : new.held ≡ (l, s) ∷ old.held
  taken_held = ap (λ (x : SeatState). x.held) taken.got.rest

  -- a take leaves the last number of each own session
  pub taken_number : (n : ℕ) → old.first ≤ n → n ≤ old.last → last_number n new.seen ≡ last_number n old.seen
  taken_number n low high = number_stays n (record old { conflicts = old.conflicts ++ taken.conflicts }) new.seen low high taken.got.grown

  -- a value that was in hand before
  pub taken_keeps : (p : ℕ × ℕ) (z : kept.Kept C) → In p old.held → GoodAt content sound old.config old.seen p.0 z
      → GoodAt content sound new.config new.seen p.0 z
  taken_keeps p z held good = subst (λ (x : TableConfig). GoodAt content sound x new.seen p.0 z) (sym taken_config)
      (good_stays content sound p (record old { conflicts = old.conflicts ++ taken.conflicts }) new.seen z held taken.got.grown good)

  -- the value that it gave
  pub taken_fits : GoodAt content sound new.config new.seen l y
  taken_fits = subst (λ (x : TableConfig). GoodAt content sound x new.seen l y) (sym taken_config) taken.got.fits

  -- a take leaves the first session
  pub taken_first : new.first ≡ old.first
  taken_first = ap (λ (x : SeatState). x.first) taken.got.rest

  -- a take leaves the last session
  pub taken_last : new.last ≡ old.last
  taken_last = ap (λ (x : SeatState). x.last) taken.got.rest
