-- A latch is given back.
use Rattle.std.proofs.Common.{drop, ◌≡◌, ◌≢◌, ℕ, ◌+◌, ◌<◌, ◌≤◌, List, [], ◌∷◌, length, get_or, set, sym, refl, ap, ◌∙◌, subst, ⊎_elim, inl, inr, arith}
use Rattle.std.proofs.Common.{Option, Some, None, length-set, get_or-set_other, get_or-set_same}
use mathlib.Core.Option.{none, some}
use lib.ListN.{get_elem?}
use Rattle.atomic_table.specs.Table.{State, step, gives}
use Rattle.atomic_table.proofs.Lists.{set_here, set_else}
use Rattle.dt_model.specs.declared.calls.Entry.{Entry}
use Rattle.fiber_latch.specs.declared.view.Mark.{Mark}
use Rattle.fiber_latch.specs.declared.view.Mark.TheVariants.{Parted}
use Rattle.fiber_latch.specs.declared.view.Hold.{Hold}
use Rattle.fiber_latch.specs.declared.view.Role.{Role}
use Rattle.fiber_latch.specs.declared.view.Role.TheVariants.{Spent, Pass, Sessions}
use Rattle.fiber_latch.specs.declared.view.TableConfig.{TableConfig}
use Rattle.fiber_latch.specs.declared.view.View.{View}
use Rattle.fiber_latch.specs.declared.view.TableName.{TableName}
use Rattle.fiber_latch.specs.declared.rule.Kept as kept
use Rattle.fiber_latch.specs.declared.rule.SlotValue.{SlotValue}
use Rattle.fiber_latch.specs.Views.{id_of, In, IsSession, IsLive, HasMark, IsKeptMark, IsKnownMark, IsDescending, pass_view, hold}
use Rattle.fiber_latch.specs.Rule.{IsSoundView, IsAtHome, IsSlotAt, IsOut, KeepsRule, machine_at}
use Rattle.fiber_latch.specs.Steps.{ReturnsLatch}
use Rattle.fiber_latch.specs.Kinds.{GiveDoes, Steps}
use Rattle.fiber_latch.proofs.MachineLemmas.{can_give, run_gives, machine_at-give}
use Rattle.fiber_latch.proofs.RuleLemmas.{pass_else, one_at, session_lives}
use Rattle.fiber_latch.proofs.SeatSteps.{seat_step}
use Rattle.fiber_latch.proofs.TakeKind.{no_join}

-- a mark in the rest of a list is one in the list
pub marks_more : (K : Mark → Type 0) (r : Role) (h : Hold) (hs : List Hold) (l : ℕ) → HasMark K r hs l → HasMark K r (h ∷ hs) l
marks_more K Spent h hs l m = m
marks_more K (Pass w) h hs l m = m
marks_more K (Sessions f t) h hs l m = (m.0, inr m.1, m.2, m.3)

-- a list that falls has one hold of a latch
pub one_hold : (h g : Hold) (hs : List Hold) → IsDescending (h ∷ hs) → In g (h ∷ hs) → g.latch ≡ h.latch → g ≡ h
one_hold h g hs descending i e = ⊎_elim (λ (x : g ≡ h). x) (λ (x : In g hs). let b = descending.0 g x in absurd (omega arith)) i

module _ {C : Type 0} (good : List Entry → ℕ → kept.Kept C → Type 0) (config : TableConfig) where
  abbrev St : Type 0
  St = State (Option (SlotValue C)) View

  -- of a latch that the seat lists on top: how its slot stands
  pub out_here : (st : St) (r : KeepsRule config good st) (id l s : ℕ) (m : Mark) (v : View) (hs : List Hold) → get_elem? st.views id ≡ some v
      → IsSession v.role → v.held ≡ hold l s m ∷ hs
      → (l ≤ config.end) × (0 < s) × (get_or st.words l 0 ≡ s) × (r.owner s ≡ id) × IsSlotAt good config r.owner (r.keeper l) st.words st.homes st.views l m
  out_here st r id l s m v hs at session top =
      let ok = r.each_view id v at (session_lives v.role session) in
      let x = ok.holds (hold l s m) (subst (In (hold l s m)) (sym top) (inl refl)) in
      let descending : IsDescending (hold l s m ∷ hs) = subst IsDescending top ok.descending in
      let mine : r.owner s ≡ id = ok.mine s x.1 in (
        x.0,
        x.2,
        x.3,
        mine,
        ⊎_elim
            (λ (t : (get_or st.words l 0 ≡ 0) × ((y : SlotValue C) × (u : View) × IsAtHome good config r.owner (r.keeper l) st.words st.homes st.views l y
            u)). let z = t.0 in let p = x.2 in let q = x.3 in absurd (omega arith))
            (λ (t : (get_or st.words l 0 ≢ 0) × ((u : View) × (h : Hold) × IsOut good config r.owner (r.keeper l) st.words st.homes st.views l u h)).
            let o = t.1.2 in
            let is : t.1.0 ≡ v = one_at st.views id t.1.0 v (subst (λ (j : ℕ). get_elem? st.views j ≡ some t.1.0) (ap r.owner x.3 ∙ mine) o.0) at in
            let i : In t.1.1 (hold l s m ∷ hs) = subst (In t.1.1) top (subst (λ (z : View). In t.1.1 z.held) is o.2) in
            subst (λ (z : Hold). IsSlotAt good config r.owner (r.keeper l) st.words st.homes st.views l z.mark)
            (one_hold (hold l s m) t.1.1 hs descending i o.3) o.4)
            (r.each_latch l x.0),
      )

  -- no other seat lists a latch that this one lists
  pub others_apart : (st : St) (r : KeepsRule config good st) (id l s : ℕ) → get_or st.words l 0 ≡ s → r.owner s ≡ id → (j : ℕ) (u : View) (h : Hold) → j ≢ id
      → IsSoundView config r.history r.owner r.keeper st.words r.name j u → In h u.held → h.latch ≢ l
  others_apart st r id l s word mine j u h n ok i same =
      let x = ok.holds h i in
      n (sym (ok.mine h.session x.1) ∙ ap r.owner (sym x.3 ∙ (ap (λ (k : ℕ). get_or st.words k 0) same ∙ word)) ∙ mine)

  module _ (slots id s l : ℕ) (v : View) (hs : List Hold) (p : List Entry) (y : SlotValue C) (c : List (ℕ
      × Option (SlotValue C))) (session : IsSession v.role) (top : v.held ≡ hold l s (Parted p) ∷ hs)
      (pass : y.pass.views ≡ pass_view v.table config l p ∷ []) (table : y.pass.table_id ≡ id_of v.table) (fits : good p l y.kept) (idle : v.last_join
      ≡ None) where
    -- a give is the machine's give
    pub give_moves : Steps good config slots id (v, (l, Some y) ∷ c) l (λ _. 0) (ReturnsLatch (step slots l 0 0 none) (v, (l, Some y) ∷ c)) (GiveDoes s l v)
    give_moves = record {
      goes = λ st r slots_is at small.
          let ok = r.each_view id v at (session_lives v.role session) in
          let o = out_here st r id l s (Parted p) v hs at session top in
          let w : View = record v { held = drop 1 v.held } in
          let is_hs : drop 1 v.held ≡ hs = ap (λ (xs : List Hold). drop 1 xs) top in
          let back : (h : Hold) → In h (drop 1 v.held) → In h v.held = λ h i. subst (In h) (sym top) (inr (subst (In h) is_hs i)) in
          let descending : IsDescending (hold l s (Parted p) ∷ hs) = subst IsDescending top ok.descending in
          let below : (h : Hold) → In h (drop 1 v.held) → h.latch < l = λ h i. descending.0 h (subst (In h) is_hs i) in
          let more : (K : Mark → Type 0) (j : ℕ) → HasMark K v.role (drop 1 v.held) j → HasMark K v.role v.held j =
          λ K j m. subst (λ (x : List Hold). HasMark K v.role x j) (sym top)
          (marks_more K v.role (hold l s (Parted p)) hs j (subst (λ (x : List Hold). HasMark K v.role x j) is_hs m)) in
          let u : View = o.4.1.0 in
          let u_is : u ≡ pass_view u.table config l p = o.4.1.2 in
          let u_role : u.role ≡ Pass l = ap (λ (x : View). x.role) u_is in
          let u_ok = r.each_view (r.keeper l) u o.4.1.1 (subst IsLive (sym u_role) tt) in
          let tables : v.table ≡ u.table = ok.named ∙ sym u_ok.named in
          let wide : l < length st.words = let x = r.wide in let b = o.0 in omega arith in
          let deep : l < length st.homes = let x = r.deep in let b = o.0 in omega arith in
          let may = can_give config st.words r.history r.run r.journal s l o.0 o.1 o.2 in
          let next = seat_step good config st r id l v w (set st.words l 0) (set st.homes l (some (Some y))) at session refl (λ x. x) (length-set st.words l 0)
          (length-set st.homes l (some (Some y)))
          (get_or-set_other st.words l (config.end + 1) 0 0 (λ (e : config.end + 1 ≡ l). let b = o.0 in omega arith))
          (run_gives config st.words r.history r.run r.journal s l o.0 wide may)
          record {
            named = ok.named;
            same_config = ok.same_config;
            sees = (ok.sees.0, ok.sees.1, λ e i. let f = ok.sees.2 e i in record { session = f.session; latch = λ j k. f.latch j (more IsKnownMark j k) });
            mine = ok.mine;
            within = ok.within;
            keeps = λ j k. ok.keeps j (more IsKeptMark j k);
            holds = λ h i. let x = ok.holds h (back h i) in let b = below h i in (
              x.0,
              x.1,
              x.2,
              get_or-set_other st.words l h.latch 0 0 (λ (e : h.latch ≡ l). omega arith) ∙ x.3,
            );
            descending = subst IsDescending (sym is_hs) descending.1;
            last_join = no_join config w v.last_join idle;
          }
          (λ j u' h n e ok' i. get_or-set_other st.words l h.latch 0 0 (others_apart st r id l s o.2 o.3 j u' h n ok' i))
          (λ j n. get_or-set_other st.words l j 0 0 n)
          (λ j n. set_else st.homes l j (some (Some y)) n)
          (λ h i n. subst (In h) (sym is_hs) (⊎_elim (λ (e : h
          ≡ hold l s (Parted p)). absurd (n (ap (λ (x : Hold). x.latch) e))) (λ (i' : In h hs). i') (subst (In h) top i)))
          (λ _. inl (
            get_or-set_same st.words l 0 0 wide,
            (
              y,
              u,
              (
                set_here st.homes l (some (Some y)) deep,
                pass ∙ ap (λ (x : View). x ∷ []) (ap (λ (t : TableName). pass_view t config l p) tables ∙ sym u_is),
                table ∙ ap id_of tables,
                pass_else st.views id (r.keeper l) l v w u at session o.4.1.1 u_role,
                u_role,
                subst (λ (x : List Entry). good x l y.kept) (sym (ap (λ (x : View). x.seen) u_is)) fits,
              ),
            ),
          )) in (
            w,
            gives,
            tt,
            next.0,
            refl,
            record {
              gives = record {
                can = may;
                after = ap (λ (H : List Entry). machine_at config (set st.words l 0) H) next.1
                    ∙ sym (machine_at-give config st.words r.history r.run r.journal l o.0 wide);
              };
              conflicts = refl;
            },
          );
    }
