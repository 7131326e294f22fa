-- The table at its end.
use Rattle.std.proofs.Common.{◌≡◌, ◌≢◌, ℕ, ◌≤◌, List, [], ◌++◌, get_or, sym, ap, ◌∙◌, subst, ⊎_elim, arith, Option, Some}
use Rattle.std.proofs.lemmas.List.{append-nil}
use mathlib.Core.Option.{some}
use lib.ListN.{get_elem?}
use Rattle.atomic_table.specs.Table.{State}
use Rattle.dt_model.specs.declared.calls.Entry.{Entry}
use Rattle.dt_model.specs.declared.declared_tensors.Decls.{Decls}
use Rattle.dt_model.specs.Contents.{Contents}
use Rattle.fiber_latch.specs.declared.view.Hold.{Hold}
use Rattle.fiber_latch.specs.declared.view.Role.{Role}
use Rattle.fiber_latch.specs.declared.view.Role.TheVariants.{Sessions}
use Rattle.fiber_latch.specs.declared.view.TableConfig.{TableConfig}
use Rattle.fiber_latch.specs.declared.view.View.{View}
use Rattle.fiber_latch.specs.declared.rule.SlotValue.{SlotValue}
use Rattle.fiber_latch.specs.Views.{In, Owns, IsLive, IsKnownMark, IsLawful}
use Rattle.fiber_latch.specs.Rule.{IsSoundView, IsAtHome, IsOut, KeepsRule, Good}
use Rattle.fiber_latch.proofs.RuleLemmas.{one_at, session_lives}
use Rattle.fiber_latch.proofs.ViewsLemmas.{none_in, in_right}
use Rattle.fiber_latch.proofs.Keepers.{pass_keeps}
use Rattle.fiber_latch.proofs.LawfulHistories.{lawful_sessions}
use Rattle.fiber_latch.proofs.ConditionsLemmas.{good_past}

-- a free latch has at home a value that is good for the whole history
pub free_latch_is_good : {C : Type 0} (content : C → Contents) (sound : Decls → ℕ → C
    → Type 0) (config : TableConfig) (st : State (Option (SlotValue C)) View) (r : KeepsRule config (Good content sound config) st) (l : ℕ) → l ≤ config.end
    → get_or st.words l 0 ≡ 0
    → (y : SlotValue C) × ((get_elem? st.homes l ≡ some (some (Some y))) × Good content sound config r.history l y.kept)
free_latch_is_good {C} content sound config st r l b free = ⊎_elim
    (λ (t : (get_or st.words l 0 ≡ 0) × ((y : SlotValue C) × (u : View)
    × IsAtHome (Good content sound config) config r.owner (r.keeper l) st.words st.homes st.views l y u)).
    let y = t.1.0 in let u = t.1.1 in let a = t.1.2 in
    let s = (r.each_view (r.keeper l) u a.3 (subst IsLive (sym a.4) tt)).sees in (
      y,
      (
        a.0,
        subst (λ (H : List Entry). Good content sound config H l y.kept) (sym s.1)
            (good_past content sound config l u.seen s.0 y.kept (λ e i. (s.2 e i).latch l (pass_keeps IsKnownMark u.role u.held l a.4)) a.5),
      ),
    ))
    (λ (t : (get_or st.words l 0 ≢ 0) × ((u : View) × (h : Hold)
    × IsOut (Good content sound config) config r.owner (r.keeper l) st.words st.homes st.views l u h)). absurd (t.0 free))
    (r.each_latch l b)

module _ {C : Type 0} (content : C → Contents) (sound : Decls → ℕ → C → Type 0) (config : TableConfig) (st : State (Option (SlotValue C)) View)
    (r : KeepsRule config (Good content sound config) st) (id : ℕ) (v : View) (at : get_elem? st.views id ≡ some v)
    (role : v.role ≡ Sessions 1 config.sessions) (empty : v.held ≡ []) where
  ok : IsSoundView config r.history r.owner r.keeper st.words r.name id v
  ok = r.each_view id v at (subst IsLive (sym role) tt)

  -- a seat of all sessions that holds nothing has seen the whole history
  pub all_seen : r.history ≡ v.seen
  all_seen =
      let s = ok.sees in
      let nothing : s.0 ≡ [] = none_in s.0 (λ e i. (s.2 e i).session
      (subst (λ (q : Role). Owns q e.turn.session) (sym role)
      (lawful_sessions config r.history e r.law (subst (In e) (sym s.1) (in_right e v.seen s.0 i))))) in
      s.1 ∙ (ap (λ (z : List Entry). v.seen ++ z) nothing ∙ append-nil v.seen)

  -- so what it has seen is legal
  pub all_lawful : IsLawful config v.seen
  all_lawful = subst (IsLawful config) all_seen r.law

  -- each latch is free, since its holder would be a session of the one seat
  pub closes : (l : ℕ) → l ≤ config.end → (y : SlotValue C) × ((get_elem? st.homes l ≡ some (some (Some y))) × Good content sound config v.seen l y.kept)
  closes l b = ⊎_elim
      (λ (t : (get_or st.words l 0 ≡ 0) × ((y : SlotValue C) × (u : View)
      × IsAtHome (Good content sound config) config r.owner (r.keeper l) st.words st.homes st.views l y u)).
      let f = free_latch_is_good content sound config st r l b t.0 in
      (f.0, (f.1.0, subst (λ (H : List Entry). Good content sound config H l f.0.kept) all_seen f.1.1)))
      (λ (t : (get_or st.words l 0 ≢ 0) × ((u : View) × (h : Hold)
      × IsOut (Good content sound config) config r.owner (r.keeper l) st.words st.homes st.views l u h)).
      let o = t.1.2 in
      let word : ℕ = get_or st.words l 0 in
      let o_ok = r.each_view (r.owner word) t.1.0 o.0 (session_lives t.1.0.role o.1) in
      let x = o_ok.holds t.1.1 o.2 in
      let same : word ≡ t.1.1.session = sym (ap (λ (j : ℕ). get_or st.words j 0) o.3) ∙ x.3 in
      let b = o_ok.within t.1.1.session x.1 in
      let c = b.0 in
      let owns : Owns v.role word = subst (λ (q : Role). Owns q word) (sym role) (subst (λ (j : ℕ). (1 ≤ j) × (j ≤ config.sessions)) (sym same) (
        omega arith,
        b.1,
      )) in
      let is : t.1.0 ≡ v = one_at st.views id t.1.0 v (subst (λ (j : ℕ). get_elem? st.views j ≡ some t.1.0) (ok.mine word owns) o.0) at in
      absurd (subst (In t.1.1) (ap (λ (z : View). z.held) is ∙ empty) o.2))
      (r.each_latch l b)
