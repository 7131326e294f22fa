-- A step of a session's seat that leaves the history, the owners and the keepers.
use Rattle.std.proofs.Common.{◌≡◌, ◌≢◌, ℕ, ◌+◌, ◌<◌, ◌≤◌, List, length, get_or, set, sym, refl, ap, ◌∙◌, subst, ⊎_elim, Option, true}
use mathlib.Core.Logic.{dite}
use mathlib.Core.Option.{some}
use native.Mathlib.Decide.{ℕ_discrete}
use lib.ListN.{get_elem?}
use Rattle.atomic_table.specs.Table.{State}
use Rattle.atomic_table.proofs.Lists.{at_set}
use Rattle.commit_core.specs.Machine.{Reached}
use Rattle.dt_model.specs.declared.calls.Entry.{Entry}
use Rattle.fiber_latch.specs.declared.view.Hold.{Hold}
use Rattle.fiber_latch.specs.declared.view.Role.{Role}
use Rattle.fiber_latch.specs.declared.view.TableConfig.{TableConfig}
use Rattle.fiber_latch.specs.declared.view.View.{View}
use Rattle.fiber_latch.specs.declared.rule.Kept as kept
use Rattle.fiber_latch.specs.declared.rule.SlotValue.{SlotValue}
use Rattle.fiber_latch.specs.Views.{In, Owns, IsSession, IsLive}
use Rattle.fiber_latch.specs.Rule.{IsSoundView, Homes, IsSoundLatch, machine_at, KeepsRule, HasOwner}
use Rattle.fiber_latch.proofs.RuleLemmas.{latch_stays, view_words, put_here, one_at, view_else}

-- what is true of the new view and of each other view is true of all after a step
pub each_stays : (K : ℕ → View → Type 0) (vs : List View) (me : ℕ) (w : View) → K me w → ((j : ℕ) (d : View) → j ≢ me → get_elem? vs j ≡ some d → K j d)
    → (j : ℕ) (d : View) → get_elem? (set vs me w) j ≡ some d → K j d
each_stays K vs me w mine others j d e = ⊎_elim (λ (t : (j ≡ me) × (w ≡ d)). subst (λ (x : ℕ × View). K x.0 x.1) (λ i. (sym t.0 i, t.1 i)) mine)
    (λ (t : (j ≢ me) × (get_elem? vs j ≡ some d)). others j d t.0 t.1) (at_set vs me j w d e)

Alone : List View → Type 0
Alone vs = (id : ℕ) (v : View) → get_elem? vs id ≡ some v → v.fresh ≡ true → (j : ℕ) (u : View) → get_elem? vs j ≡ some u → j ≡ id

-- while a view is fresh there is no other, also after a step
pub alone_stays : (vs : List View) (me : ℕ) (v w : View) → get_elem? vs me ≡ some v → (w.fresh ≡ true → v.fresh ≡ true)
    → ((id : ℕ) (v : View) → get_elem? vs id ≡ some v → v.fresh ≡ true → (j : ℕ) (u : View) → get_elem? vs j ≡ some u → j ≡ id)
    → (id : ℕ) (v : View) → get_elem? (set vs me w) id ≡ some v → v.fresh ≡ true → (j : ℕ) (u : View) → get_elem? (set vs me w) j ≡ some u → j ≡ id
alone_stays vs me v w at fresh alone = each_stays (λ (id : ℕ) (x : View). x.fresh ≡ true → (j : ℕ) (u : View) → get_elem? (set vs me w) j ≡ some u → j
    ≡ id) vs me w
    (λ f. each_stays (λ (j : ℕ) (u : View). j ≡ me) vs me w refl (λ j u n e. alone me v at (fresh f) j u e))
    (λ id x n e f. each_stays (λ (j : ℕ) (u : View). j ≡ id) vs me w (alone id x e f me v at) (λ j u m e'. alone id x e f j u e'))

-- each session has a live seat, also after a step that leaves the seat's role
pub owned_stays : (views : List View) (owner : ℕ → ℕ) (most id : ℕ) (v w : View) → get_elem? views id ≡ some v → w.role ≡ v.role
    → ((i : ℕ) → 0 < i → i ≤ most → HasOwner views owner i) → (i : ℕ) → 0 < i → i ≤ most → HasOwner (set views id w) owner i
owned_stays views owner most id v w at role owned i a b =
    let o = owned i a b in
    dite (ℕ_discrete (owner i) id)
    (λ (mine : owner i ≡ id).
    let is : o.0 ≡ v = one_at views id o.0 v (subst (λ (j : ℕ). get_elem? views j ≡ some o.0) mine o.1.0) at in (
      w,
      (
        subst (λ (j : ℕ). get_elem? (set views id w) j ≡ some w) (sym mine) (put_here views id v w at),
        subst (λ (r : Role). Owns r i) (ap (λ (x : View). x.role) is ∙ sym role) o.1.1,
      ),
    ))
    (λ (other : owner i ≢ id). (o.0, (view_else views id (owner i) w o.0 other o.1.0, o.1.1)))

-- a view that owns nothing changes
pub owned_else : (views : List View) (owner : ℕ → ℕ) (most id : ℕ) (v w : View) → get_elem? views id ≡ some v → ((i : ℕ) → owner i ≡ id → Owns v.role i → ⊥)
    → ((i : ℕ) → 0 < i → i ≤ most → HasOwner views owner i) → (i : ℕ) → 0 < i → i ≤ most → HasOwner (set views id w) owner i
owned_else views owner most id v w at none_owned owned i a b =
    let o = owned i a b in (
      o.0,
      (
        view_else views id (owner i) w o.0 (λ (mine : owner i ≡ id).
            let is : o.0 ≡ v = one_at views id o.0 v (subst (λ (j : ℕ). get_elem? views j
            ≡ some o.0) mine o.1.0) at in none_owned i mine (subst (λ (x : View). Owns x.role i) is o.1.1)) o.1.0,
        o.1.1,
      ),
    )

module _ {C : Type 0} (good : List Entry → ℕ → kept.Kept C → Type 0) (config : TableConfig) where
  -- a step of a seat of sessions that leaves the history, the owners and the keepers keeps the rule
  pub seat_step : (s : State (Option (SlotValue C)) View) (r : KeepsRule config good s) (id i : ℕ) (v w : View) (words' : List ℕ) (homes' : Homes C)
      → get_elem? s.views id ≡ some v → IsSession v.role → w.role ≡ v.role → (w.fresh ≡ true → v.fresh ≡ true)
      → length words' ≡ length s.words → length homes' ≡ length s.homes → get_or words' (config.end + 1) 0 ≡ get_or s.words (config.end + 1) 0
      → Reached config.world (machine_at config words' r.history)
      → IsSoundView config r.history r.owner r.keeper words' r.name id w
      → ((j : ℕ) (u : View) (h : Hold) → j ≢ id → get_elem? s.views j ≡ some u → IsSoundView config r.history r.owner r.keeper s.words r.name j u
      → In h u.held → get_or words' h.latch 0 ≡ get_or s.words h.latch 0)
      → ((l : ℕ) → l ≢ i → get_or words' l 0 ≡ get_or s.words l 0)
      → ((l : ℕ) → l ≢ i → get_elem? homes' l ≡ get_elem? s.homes l)
      → ((h : Hold) → In h v.held → h.latch ≢ i → In h w.held)
      → (i ≤ config.end → IsSoundLatch good config r.owner (r.keeper i) words' homes' (set s.views id w) i)
      → (after : KeepsRule config good record { words = words'; homes = homes'; views = set s.views id w }) × (after.history ≡ r.history)
  seat_step s r id i v w words' homes' at session role fresh wide deep clock run mine others word_else home_else keep here = (
    record {
      history = r.history;
      owner = r.owner;
      keeper = r.keeper;
      name = r.name;
      journal = r.journal;
      wide = wide ∙ r.wide;
      deep = deep ∙ r.deep;
      clock = clock ∙ r.clock;
      law = r.law;
      run = run;
      each_view = each_stays (λ (j : ℕ) (u : View). IsLive u.role → IsSoundView config r.history r.owner r.keeper words' r.name j u) s.views id w (λ _. mine)
          (λ j u n e live. let ok = r.each_view j u e live in view_words config r.history r.owner r.keeper s.words words' r.name j u
          (λ h i'. others j u h n e ok i') ok);
      owned = owned_stays s.views r.owner config.sessions id v w at role r.owned;
      each_latch = λ l b. dite (ℕ_discrete l i)
          (λ (same : l ≡ i). subst (λ (x : ℕ). IsSoundLatch good config r.owner (r.keeper x) words' homes' (set s.views id w) x) (sym same)
          (here (subst (λ (x : ℕ). x ≤ config.end) same b)))
          (λ (other : l ≢ i). latch_stays good config r.owner (r.keeper l) s.words words' s.homes homes' s.views id v w l at session (word_else l other)
          (home_else l other) (subst IsSession (sym role) session)
          (λ h i' e. keep h i' (λ (c : h.latch ≡ i). other (sym e ∙ c))) (r.each_latch l b));
      alone = alone_stays s.views id v w at fresh r.alone;
    },
    refl,
  )
