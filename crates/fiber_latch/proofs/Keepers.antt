-- Who keeps a latch changes; a pass goes.
use Rattle.std.proofs.Common.{◌≡◌, ◌≢◌, ◌⊎◌, ℕ, List, ◌∷◌, ◌++◌, get_or, set, sym, refl, ap, ◌∙◌, subst, ⊎_elim, inl, inr}
use mathlib.Core.Option.{some}
use lib.ListN.{get_elem?}
use Rattle.atomic_table.proofs.Lists.{at_longer}
use Rattle.dt_model.specs.declared.calls.Entry.{Entry}
use Rattle.dt_model.specs.Functions.{with_value}
use Rattle.dt_model.proofs.FunctionsLemmas.{with_value-other}
use Rattle.fiber_latch.specs.declared.view.Mark.{Mark}
use Rattle.fiber_latch.specs.declared.view.Mark.TheVariants.{Opened, Taken, Kept, Parted}
use Rattle.fiber_latch.specs.declared.view.Hold.{Hold}
use Rattle.fiber_latch.specs.declared.view.Role.{Role}
use Rattle.fiber_latch.specs.declared.view.Role.TheVariants.{Spent, Pass, Sessions}
use Rattle.fiber_latch.specs.declared.view.TableConfig.{TableConfig}
use Rattle.fiber_latch.specs.declared.view.View.{View}
use Rattle.fiber_latch.specs.declared.view.TableName.{TableName}
use Rattle.fiber_latch.specs.declared.rule.Kept as kept
use Rattle.fiber_latch.specs.declared.rule.SlotValue.{SlotValue}
use Rattle.fiber_latch.specs.Views.{In, IsSession, HasMark, Keeps, IsKeptMark, IsKnownMark}
use Rattle.fiber_latch.specs.Rule.{IsSoundView, Homes, IsAtHome, IsSlotAt, IsOut, IsSoundLatch}
use Rattle.fiber_latch.proofs.RuleLemmas.{one_at, view_else, no_pass}

-- the latch of a pass, 0 for a seat
pub pass_of : Role → ℕ
pass_of Spent = 0
pass_of (Pass w) = w
pass_of (Sessions f t) = 0

-- a view is the pass of one latch
pub pass_same : (a b : ℕ) (r : Role) → r ≡ Pass a → r ≡ Pass b → a ≡ b
unfolding pass_of
pass_same a b r p q = ap pass_of (sym p ∙ q)

-- a view that doesn't keep the latch is as sound after the latch's keeper changed
pub keeper_moves : (config : TableConfig) (H : List Entry) (owner keeper : ℕ → ℕ) (words : List ℕ) (name : TableName) (l c j : ℕ) (u : View) → ¬ Keeps u l
    → IsSoundView config H owner keeper words name j u → IsSoundView config H owner (with_value keeper l c) words name j u
keeper_moves config H owner keeper words name l c j u n ok = record {
  named = ok.named;
  same_config = ok.same_config;
  sees = ok.sees;
  mine = ok.mine;
  within = ok.within;
  keeps = λ i k. with_value-other keeper l i c (λ (e : i ≡ l). n (subst (Keeps u) e k)) ∙ ok.keeps i k;
  holds = ok.holds;
  descending = ok.descending;
  last_join = ok.last_join;
}

-- of the top of a list and the rest
pub marks_cons : (K : Mark → Type 0) (r : Role) (h : Hold) (hs : List Hold) (l : ℕ) → IsSession r → HasMark K r (h ∷ hs) l
    → ((h.latch ≡ l) × K h.mark) ⊎ HasMark K r hs l
marks_cons K Spent h hs l s m = absurd s
marks_cons K (Pass w) h hs l s m = absurd s
marks_cons K (Sessions f t) h hs l s m = ⊎_elim (λ (e : m.0
    ≡ h). inl (subst (λ (x : Hold). (x.latch ≡ l) × K x.mark) e (m.2, m.3))) (λ (i : In m.0 hs). inr (m.0, i, m.2, m.3)) m.1

-- the top of a list is marked as its mark says
pub marks_top : (K : Mark → Type 0) (r : Role) (h : Hold) (hs : List Hold) → IsSession r → K h.mark → HasMark K r (h ∷ hs) h.latch
marks_top K Spent h hs s k = absurd s
marks_top K (Pass w) h hs s k = absurd s
marks_top K (Sessions f t) h hs s k = (h, inl refl, refl, k)

-- a marked latch is listed
pub marks_listed : (K : Mark → Type 0) (r : Role) (hs : List Hold) (l : ℕ) → IsSession r → HasMark K r hs l → (h : Hold) × In h hs × (h.latch ≡ l) × K h.mark
marks_listed K Spent hs l s m = absurd s
marks_listed K (Pass w) hs l s m = absurd s
marks_listed K (Sessions f t) hs l s m = m

-- a listed latch is marked
pub marks_there : (K : Mark → Type 0) (r : Role) (hs : List Hold) (l : ℕ) → IsSession r → (h : Hold) × In h hs × (h.latch ≡ l) × K h.mark → HasMark K r hs l
marks_there K Spent hs l s m = absurd s
marks_there K (Pass w) hs l s m = absurd s
marks_there K (Sessions f t) hs l s m = m

-- a mark that keeps a latch knows it
pub keeping_known : (m : Mark) → IsKeptMark m → IsKnownMark m
keeping_known Opened k = tt
keeping_known Taken k = k
keeping_known Kept k = tt
keeping_known (Parted p) k = tt

-- what a view keeps it knows
pub keeps_known : (r : Role) (hs : List Hold) (l : ℕ) → HasMark IsKeptMark r hs l → HasMark IsKnownMark r hs l
keeps_known Spent hs l m = m
keeps_known (Pass w) hs l m = m
keeps_known (Sessions f t) hs l m = (m.0, m.1, m.2, keeping_known m.0.mark m.3)

-- a pass has every mark on its own latch
pub pass_keeps : (K : Mark → Type 0) (r : Role) (hs : List Hold) (l : ℕ) → r ≡ Pass l → HasMark K r hs l
pass_keeps K r hs l e = subst (λ (x : Role). HasMark K x hs l) (sym e) refl

module _ {C : Type 0} (good : List Entry → ℕ → kept.Kept C → Type 0) (config : TableConfig) (owner : ℕ
    → ℕ) (k : ℕ) (words : List ℕ) (homes : Homes C) (views : List View) (l : ℕ) where
  -- the pass of another latch goes
  module _ (id q : ℕ) (u x : View) (at : get_elem? views id ≡ some u) (role : u.role ≡ Pass q) (apart : l ≢ q) where
    pass_there : (z : View) → get_elem? views k ≡ some z → z.role ≡ Pass l → get_elem? (set views id x) k ≡ some z
    pass_there z e p = view_else views id k x z (λ (same : k ≡ id).
        apart (pass_same l q u.role (ap (λ (y : View). y.role) (one_at views id u z at (subst (λ (j : ℕ). get_elem? views j ≡ some z) same e)) ∙ p) role)) e

    hand_gone : (m : Mark) → IsSlotAt good config owner k words homes views l m → IsSlotAt good config owner k words homes (set views id x) l m
    hand_gone Opened h = h
    hand_gone Kept h = h
    hand_gone Taken h = (h.0, (h.1.0, pass_there h.1.0 h.1.1 h.1.2, h.1.2))
    hand_gone (Parted p) h = (h.0, (h.1.0, pass_there h.1.0 h.1.1 (ap (λ (y : View). y.role) h.1.2), h.1.2))

    -- the pass of another latch goes, and what is true of this latch stays
    pub latch_gone : IsSoundLatch good config owner k words homes views l → IsSoundLatch good config owner k words homes (set views id x) l
    latch_gone ok = ⊎_elim
        (λ (t : (get_or words l 0 ≡ 0) × ((y : SlotValue C) × (u : View) × IsAtHome good config owner k words homes views l y u)).
        let a = t.1.2 in inl (t.0, (t.1.0, t.1.1, (a.0, a.1, a.2, pass_there t.1.1 a.3 a.4, a.4, a.5))))
        (λ (t : (get_or words l 0 ≢ 0) × ((v : View) × (h : Hold) × IsOut good config owner k words homes views l v h)).
        let a = t.1.2 in inr (
          t.0,
          (
            t.1.0,
            t.1.1,
            (
              view_else views id (owner (get_or words l 0)) x t.1.0 (λ (same : owner (get_or words l 0) ≡ id).
                  no_pass t.1.0 q a.1 (ap (λ (y : View). y.role) (one_at views id t.1.0 u (subst (λ (j : ℕ). get_elem? views j ≡ some t.1.0) same a.0) at)
                  ∙ role)) a.0,
              a.1,
              a.2,
              a.3,
              hand_gone t.1.1.mark a.4,
            ),
          ),
        ))
        ok

  -- another view comes
  hand_comes : (xs : List View) (m : Mark) → IsSlotAt good config owner k words homes views l m → IsSlotAt good config owner k words homes (views ++ xs) l m
  hand_comes xs Opened h = h
  hand_comes xs Kept h = h
  hand_comes xs Taken h = (h.0, (h.1.0, at_longer views xs k h.1.0 h.1.1, h.1.2))
  hand_comes xs (Parted p) h = (h.0, (h.1.0, at_longer views xs k h.1.0 h.1.1, h.1.2))

  -- a view is added, and what is true of each latch stays
  pub latch_comes : (xs : List View) → IsSoundLatch good config owner k words homes views l → IsSoundLatch good config owner k words homes (views ++ xs) l
  latch_comes xs ok = ⊎_elim
      (λ (t : (get_or words l 0 ≡ 0) × ((y : SlotValue C) × (u : View) × IsAtHome good config owner k words homes views l y u)).
      let a = t.1.2 in inl (t.0, (t.1.0, t.1.1, (a.0, a.1, a.2, at_longer views xs k t.1.1 a.3, a.4, a.5))))
      (λ (t : (get_or words l 0 ≢ 0) × ((v : View) × (h : Hold) × IsOut good config owner k words homes views l v h)).
      let a = t.1.2 in inr (t.0, (t.1.0, t.1.1, (at_longer views xs (owner (get_or words l 0)) t.1.0 a.0, a.1, a.2, a.3, hand_comes xs t.1.1.mark a.4))))
      ok
