-- A table that keeps the rule has one history.
use Rattle.std.proofs.Common.{◌≡◌, ◌≢◌, ℕ, List, [], ◌++◌, ◌≤◌, get_or, refl, sym, ap, ◌∙◌, subst, ⊎_elim, arith, inl, Option}
use Rattle.std.proofs.lemmas.List.{append-nil}
use mathlib.Core.Option.{some}
use lib.ListN.{get_elem?}
use Rattle.atomic_table.specs.Table.{State}
use Rattle.dt_model.specs.declared.calls.Entry.{Entry}
use Rattle.fiber_latch.specs.declared.view.Mark.{Mark}
use Rattle.fiber_latch.specs.declared.view.Mark.TheVariants.{Opened, Taken, Kept, Parted}
use Rattle.fiber_latch.specs.declared.view.Hold.{Hold}
use Rattle.fiber_latch.specs.declared.view.Role.{Role}
use Rattle.fiber_latch.specs.declared.view.Role.TheVariants.{Spent, Pass, Sessions}
use Rattle.fiber_latch.specs.declared.view.TableConfig.{TableConfig}
use Rattle.fiber_latch.specs.declared.view.View.{View}
use Rattle.fiber_latch.specs.declared.rule.Kept as kept
use Rattle.fiber_latch.specs.declared.rule.SlotValue.{SlotValue}
use Rattle.fiber_latch.specs.Views.{In, IsSession, IsLive, HasMark, Knows, IsKnownMark}
use Rattle.fiber_latch.specs.Rule.{IsAtHome, IsSlotAt, IsOut, KeepsRule}
use Rattle.fiber_latch.proofs.RuleLemmas.{session_lives}
use Rattle.fiber_latch.proofs.ViewsLemmas.{none_in}
use Rattle.fiber_latch.proofs.Keepers.{pass_keeps}

-- a seat of sessions knows a latch that it lists with such a mark
mark_known : (r : Role) (hs : List Hold) (h : Hold) (l : ℕ) → IsSession r → In h hs → h.latch ≡ l → IsKnownMark h.mark → HasMark IsKnownMark r hs l
mark_known Spent hs h l s i at known = absurd s
mark_known (Pass w) hs h l s i at known = absurd s
mark_known (Sessions f t) hs h l s i at known = (h, i, at, known)

module _ {C : Type 0} (good : List Entry → ℕ → kept.Kept C → Type 0) (config : TableConfig) (st : State (Option (SlotValue C)) View) where
  -- a seat or a pass of the table that knows the latch
  pub record KnowsLatch (l : ℕ) : Type 0 where
    pub id : ℕ
    pub view : View
    pub at : get_elem? st.views id ≡ some view
    pub live : IsLive view.role
    pub knows : Knows view l

  -- the pass of a latch knows it
  pass_knows : (l k : ℕ) (u : View) → get_elem? st.views k ≡ some u → u.role ≡ Pass l → KnowsLatch l
  pass_knows l k u at pass = record {
    id = k;
    view = u;
    at = at;
    live = subst IsLive (sym pass) tt;
    knows = pass_keeps IsKnownMark u.role u.held l pass;
  }

  -- a seat that lists the latch with such a mark knows it
  seat_knows : (l id : ℕ) (v : View) (h : Hold) → get_elem? st.views id ≡ some v → IsSession v.role → In h v.held → h.latch ≡ l → IsKnownMark h.mark
      → KnowsLatch l
  seat_knows l id v h at s i here known = record {
    id = id;
    view = v;
    at = at;
    live = session_lives v.role s;
    knows = mark_known v.role v.held h l s i here known;
  }

  -- the holder of a latch knows it, or its pass does, which the holder hasn't absorbed yet
  holder_knows : (r : KeepsRule config good st) (l id : ℕ) (v : View) (h : Hold) (m : Mark) → get_elem? st.views id ≡ some v → IsSession v.role
      → In h v.held → h.latch ≡ l → h.mark ≡ m → IsSlotAt good config r.owner (r.keeper l) st.words st.homes st.views l m → KnowsLatch l
  holder_knows r l id v h Taken at s i here mark slot = pass_knows l (r.keeper l) slot.1.0 slot.1.1 slot.1.2
  holder_knows r l id v h Opened at s i here mark slot = seat_knows l id v h at s i here (subst IsKnownMark (sym mark) tt)
  holder_knows r l id v h Kept at s i here mark slot = seat_knows l id v h at s i here (subst IsKnownMark (sym mark) tt)
  holder_knows r l id v h (Parted p) at s i here mark slot = seat_knows l id v h at s i here (subst IsKnownMark (sym mark) tt)

  -- some seat or pass knows each latch
  pub latch_is_known : (r : KeepsRule config good st) (l : ℕ) → l ≤ config.end → KnowsLatch l
  latch_is_known r l b = ⊎_elim
      (λ (t : (get_or st.words l 0 ≡ 0) × ((y : SlotValue C) × (u : View)
      × IsAtHome good config r.owner (r.keeper l) st.words st.homes st.views l y u)). let a = t.1.2 in pass_knows l (r.keeper l) t.1.1 a.3 a.4)
      (λ (t : (get_or st.words l 0 ≢ 0) × ((v : View) × (h : Hold)
      × IsOut good config r.owner (r.keeper l) st.words st.homes st.views l v h)). let a = t.1.2 in
      holder_knows r l (r.owner (get_or st.words l 0)) t.1.0 t.1.1 t.1.1.mark a.0 a.1 a.2 a.3 refl a.4)
      (r.each_latch l b)

  -- who knows the journal's latch has seen the whole history
  pub history_is_seen : (r : KeepsRule config good st) (k : KnowsLatch config.end) → r.history ≡ k.view.seen
  history_is_seen r k =
      let s = (r.each_view k.id k.view k.at k.live).sees in
      let nothing : s.0 ≡ [] = none_in s.0 (λ e i. (s.2 e i).latch config.end k.knows (inl refl)) in
      s.1 ∙ (ap (λ (past : List Entry). k.view.seen ++ past) nothing ∙ append-nil k.view.seen)

  -- a table that keeps the rule has one history
  pub history-unique : (r q : KeepsRule config good st) → r.history ≡ q.history
  history-unique r q = let k = latch_is_known r config.end (omega arith) in history_is_seen r k ∙ sym (history_is_seen q k)
