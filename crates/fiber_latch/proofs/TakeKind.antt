-- A take of a latch.
use Rattle.std.proofs.Common.{◌≡◌, ◌≢◌, ℕ, ◌+◌, ◌<◌, ◌≤◌, eqb, List, [], ◌∷◌, ◌++◌, length, get_or, set, sym, refl, ap, ◌∙◌, subst, ⊎_elim, inl, inr, arith}
use Rattle.std.proofs.Common.{Option, Some, None, length-set, get_or-set_other, get_or-set_same}
use mathlib.Core.Option.{none, some}
use lib.ListN.{get_elem?}
use lib.Seq.{set-get_or}
use prog.Atomic.{either}
use Rattle.atomic_table.specs.Table.{State, step, Act, keeps, takes, stepped, Valid, carried_after}
use Rattle.atomic_table.proofs.Lists.{set_here, set_else, exchanged}
use Rattle.dt_model.specs.declared.calls.Entry.{Entry}
use Rattle.fiber_latch.specs.declared.view.Mark.{Mark}
use Rattle.fiber_latch.specs.declared.view.Mark.TheVariants.{Taken}
use Rattle.fiber_latch.specs.declared.view.Hold.{Hold}
use Rattle.fiber_latch.specs.declared.view.Role.{Role}
use Rattle.fiber_latch.specs.declared.view.Role.TheVariants.{Spent, Pass, Sessions}
use Rattle.fiber_latch.specs.declared.view.TableConfig.{TableConfig}
use Rattle.fiber_latch.specs.declared.view.View.{View}
use Rattle.fiber_latch.specs.declared.rule.Kept as kept
use Rattle.fiber_latch.specs.declared.rule.SlotValue.{SlotValue}
use Rattle.fiber_latch.specs.Views.{id_of, In, Owns, IsLive, HasMark, IsKeptMark, IsKnownMark, hold, Knows, IsUnrelated, IsAboveAll}
use Rattle.fiber_latch.specs.Rule.{IsLastJoin, IsAtHome, IsOut, KeepsRule, machine_at}
use Rattle.fiber_latch.specs.Steps.{listed, TriesLatch}
use Rattle.fiber_latch.specs.Kinds.{TryDoes, Steps, machine_of}
use Rattle.fiber_latch.proofs.MachineLemmas.{can_take, run_takes, run_stays, inside_is, machine_at-take}
use Rattle.fiber_latch.proofs.RuleLemmas.{put_here, pass_else, one_at, session_lives, owner_is_session}
use Rattle.fiber_latch.proofs.SeatSteps.{seat_step}

-- a mark that the top hasn't is in the rest
pub marks_tail : (K : Mark → Type 0) (r : Role) (h : Hold) (hs : List Hold) (l : ℕ) → ¬ K h.mark → HasMark K r (h ∷ hs) l → HasMark K r hs l
marks_tail K Spent h hs l n m = m
marks_tail K (Pass w) h hs l n m = m
marks_tail K (Sessions f t) h hs l n m = (m.0, ⊎_elim (λ (e : m.0 ≡ h). absurd (n (subst (λ (x : Hold). K x.mark) e m.3))) (λ (i : In m.0 hs). i) m.1, m.2, m.3)

-- an unrelated entry is still unrelated once one latch more is listed as taken
pub foreign_tail : (config : TableConfig) (v : View) (l s : ℕ) (e : Entry) → IsUnrelated config (Owns v.role) (Knows v) e
    → IsUnrelated config (Owns v.role) (Knows (listed v l s Taken v.held)) e
foreign_tail config v l s e f = record { session = f.session; latch = λ j k. f.latch j (marks_tail IsKnownMark v.role (hold l s Taken) v.held j (λ x. x) k) }

-- nothing is asked of no join
pub no_join : (config : TableConfig) (v : View) (o : Option _) → o ≡ None → IsLastJoin config v o
no_join config v o e = subst (IsLastJoin config v) (sym e) tt

module _ {C : Type 0} (good_at : TableConfig → List Entry → ℕ → kept.Kept C → Type 0) (config : TableConfig) where
  abbrev good : List Entry → ℕ → kept.Kept C → Type 0
  good = good_at config

  abbrev St : Type 0
  St = State (Option (SlotValue C)) View

  module _ (slots id s l : ℕ) (v : View) (c : List (ℕ × Option (SlotValue C))) (owns : Owns v.role s) (some_session : 0 < s) (inside : l ≤ config.end)
      (above : IsAboveAll (λ (h : Hold). h.latch) l v.held) (idle : v.last_join ≡ None) where
    abbrev Moved : (st : St) → KeepsRule config good st → ℕ → ℕ → Type 0
    Moved st r n x = (w : View) × (a : Act (Option (SlotValue C))) × (valid : Valid st.homes c a) × (after : KeepsRule config good (stepped st l x id c w a))
        × (told : TriesLatch good_at (step slots l 0 s none) (v, c) n (w, carried_after c a))
        × TryDoes config.world.decls s l v n (machine_of good config st r) (machine_of good config (stepped st l x id c w a) after) w

    -- each latch that the session holds is below the new one
    all_below : (st : St) (r : KeepsRule config good st) → get_elem? st.views id ≡ some v → (k : ℕ) → k ≤ config.end → get_or st.words k 0 ≡ s → k < l
    all_below st r at k b word =
        let ok = r.each_view id v at (session_lives v.role (owner_is_session v.role s owns)) in
        ⊎_elim
        (λ (t : (get_or st.words k 0 ≡ 0) × ((y : SlotValue C) × (u : View)
        × IsAtHome good config r.owner (r.keeper k) st.words st.homes st.views k y u)). let z = t.0 in absurd (omega arith))
        (λ (t : (get_or st.words k 0 ≢ 0) × ((u : View) × (h : Hold) × IsOut good config r.owner (r.keeper k) st.words st.homes st.views k u h)).
        let o = t.1.2 in
        let is : t.1.0 ≡ v = one_at st.views id t.1.0 v (subst (λ (j : ℕ). get_elem? st.views j ≡ some t.1.0) (ap r.owner word ∙ ok.mine s owns) o.0) at in
        subst (λ (j : ℕ). j < l) o.3 (above t.1.1 (subst (λ (x : View). In t.1.1 x.held) is o.2)))
        (r.each_latch k b)

    hit : (st : St) (r : KeepsRule config good st) → get_elem? st.views id ≡ some v → get_or st.words l 0 ≡ 0 → Moved st r (get_or st.words l 0) s
    hit st r at free =
        let ok = r.each_view id v at (session_lives v.role (owner_is_session v.role s owns)) in
        let w : View = listed v l s Taken v.held in
        let homed : (y : SlotValue C) × (u : View) × IsAtHome good config r.owner (r.keeper l) st.words st.homes st.views l y u = ⊎_elim
        (λ (t : (get_or st.words l 0 ≡ 0) × ((y : SlotValue C) × (u : View) × IsAtHome good config r.owner (r.keeper l) st.words st.homes st.views l y u)). t.1)
        (λ (t : (get_or st.words l 0 ≢ 0) × ((u : View) × (h : Hold)
        × IsOut good config r.owner (r.keeper l) st.words st.homes st.views l u h)). absurd (t.0 free)) (r.each_latch l inside) in
        let y = homed.0 in let u = homed.1 in let a = homed.2 in
        let wide : l < length st.words = let x = r.wide in omega arith in
        let deep : l < length st.homes = let x = r.deep in omega arith in
        let now : get_or (set st.words l s) l 0 ≡ s = get_or-set_same st.words l s 0 wide in
        let can = can_take config st.words r.history r.run r.journal s l inside some_session free (all_below st r at) in
        let pass_ok = r.each_view (r.keeper l) u a.3 (subst IsLive (sym a.4) tt) in
        let next = seat_step good config st r id l v w (set st.words l s) (set st.homes l none) at (owner_is_session v.role s owns) refl (λ x. x)
        (length-set st.words l s) (length-set st.homes l none)
        (get_or-set_other st.words l (config.end + 1) s 0 (λ (e : config.end + 1 ≡ l). omega arith))
        (run_takes config st.words r.history r.run r.journal s l inside wide can)
        record {
          named = ok.named;
          same_config = ok.same_config;
          sees = (ok.sees.0, ok.sees.1, λ e i. foreign_tail config v l s e (ok.sees.2 e i));
          mine = ok.mine;
          within = ok.within;
          keeps = λ j k. ok.keeps j (marks_tail IsKeptMark v.role (hold l s Taken) v.held j (λ x. x) k);
          holds = λ h i. ⊎_elim
              (λ (e : h ≡ hold l s Taken). subst (λ (x : Hold). (x.latch ≤ config.end) × Owns v.role x.session × (0 < x.session)
              × (get_or (set st.words l s) x.latch 0 ≡ x.session)) (sym e) (inside, owns, some_session, now))
              (λ (i' : In h v.held). let x = ok.holds h i' in let b = above h i' in (
                x.0,
                x.1,
                x.2,
                get_or-set_other st.words l h.latch s 0 (λ (e : h.latch ≡ l). omega arith) ∙ x.3,
              )) i;
          descending = (above, ok.descending);
          last_join = no_join config w v.last_join idle;
        }
        (λ j u' h n e ok' i. let x = ok'.holds h i in get_or-set_other st.words l h.latch s 0 (λ (same : h.latch ≡ l). let z : get_or st.words h.latch 0
        ≡ 0 = ap (λ (k : ℕ). get_or st.words k 0) same ∙ free in let p = x.2 in let q = x.3 in omega arith))
        (λ j n. get_or-set_other st.words l j s 0 n)
        (λ j n. set_else st.homes l j none n)
        (λ h i n. inr i)
        (λ _. inr (
          (λ (e : get_or (set st.words l s) l 0 ≡ 0). omega arith),
          (
            w,
            hold l s Taken,
            (
              subst (λ (x : ℕ). get_elem? (set st.views id w) x ≡ some w) (sym (ap r.owner now ∙ ok.mine s owns)) (put_here st.views id v w at),
              owner_is_session v.role s owns,
              inl refl,
              refl,
              (set_here st.homes l none deep, (u, pass_else st.views id (r.keeper l) l v w u at (owner_is_session v.role s owns) a.3 a.4, a.4)),
            ),
          ),
        )) in (
          w,
          takes l (Some y),
          a.0,
          next.0,
          (
            (λ _. (
              y,
              u,
              (
                refl,
                a.1,
                a.2 ∙ ap id_of (pass_ok.named ∙ sym ok.named),
                a.4,
                subst (λ (z : TableConfig). good_at z u.seen l y.kept) (sym ok.same_config) a.5,
              ),
            )),
            (λ n. absurd (n free)),
          ),
          record {
            takes = λ _. (
              record {
                can = can;
                after = ap (λ (H : List Entry). machine_at config (set st.words l s) H) next.1
                    ∙ sym (machine_at-take config st.words r.history r.run r.journal s l inside wide);
              },
              refl,
            );
            finds = λ n. absurd (n free);
          },
        )

    miss : (st : St) (r : KeepsRule config good st) → get_elem? st.views id ≡ some v → get_or st.words l 0 ≢ 0
        → Moved st r (get_or st.words l 0) (get_or st.words l 0)
    miss st r at held =
        let ok = r.each_view id v at (session_lives v.role (owner_is_session v.role s owns)) in
        let n : ℕ = get_or st.words l 0 in
        let w : View = record v { conflicts = v.conflicts ++ (l, n) ∷ [] } in
        let same : set st.words l n ≡ st.words = set-get_or st.words l 0 in
        let at_word : (j : ℕ) → get_or (set st.words l n) j 0 ≡ get_or st.words j 0 = λ j. ap (λ (ws : List ℕ). get_or ws j 0) same in
        let next = seat_step good config st r id (config.end
        + 2) v w (set st.words l n) st.homes at (owner_is_session v.role s owns) refl (λ x. x) (length-set st.words l n) refl (at_word (config.end + 1))
        (run_stays config st.words r.history r.run r.journal (set st.words l n) same)
        record {
          named = ok.named;
          same_config = ok.same_config;
          sees = (ok.sees.0, ok.sees.1, λ e i. let f = ok.sees.2 e i in record { session = f.session; latch = f.latch });
          mine = ok.mine;
          within = ok.within;
          keeps = ok.keeps;
          holds = λ h i. let x = ok.holds h i in (x.0, x.1, x.2, at_word h.latch ∙ x.3);
          descending = ok.descending;
          last_join = no_join config w v.last_join idle;
        }
        (λ j u' h n e ok' i. at_word h.latch)
        (λ j n. at_word j)
        (λ j n. refl)
        (λ h i n. i)
        (λ b. absurd (omega arith)) in (
          w,
          keeps,
          tt,
          next.0,
          (
            (λ e. absurd (held e)),
            (λ _. (
              refl,
              (λ (own : Owns v.role n). ⊎_elim
                  (λ (t : (get_or st.words l 0 ≡ 0) × ((y : SlotValue C) × (u : View)
                  × IsAtHome good config r.owner (r.keeper l) st.words st.homes st.views l y u)). held t.0)
                  (λ (t : (get_or st.words l 0 ≢ 0) × ((u : View) × (h : Hold) × IsOut good config r.owner (r.keeper l) st.words st.homes st.views l u h)).
                  let o = t.1.2 in
                  let is : t.1.0 ≡ v = one_at st.views id t.1.0 v (subst (λ (j : ℕ). get_elem? st.views j ≡ some t.1.0) (ok.mine n own) o.0) at in
                  let b = above t.1.1 (subst (λ (x : View). In t.1.1 x.held) is o.2) in let c = o.3 in absurd (omega arith))
                  (r.each_latch l inside)),
              subst (λ (x : TableConfig). n ≤ x.sessions) (sym ok.same_config) (⊎_elim
                  (λ (t : (get_or st.words l 0 ≡ 0) × ((y : SlotValue C) × (u : View)
                  × IsAtHome good config r.owner (r.keeper l) st.words st.homes st.views l y u)). absurd (held t.0))
                  (λ (t : (get_or st.words l 0 ≢ 0) × ((u : View) × (h : Hold) × IsOut good config r.owner (r.keeper l) st.words st.homes st.views l u h)).
                  let o = t.1.2 in
                  let u_ok = r.each_view (r.owner n) t.1.0 o.0 (session_lives t.1.0.role o.1) in
                  let x = u_ok.holds t.1.1 o.2 in
                  let b = (u_ok.within t.1.1.session x.1).1 in
                  subst (λ (j : ℕ). j ≤ config.sessions) (sym x.3 ∙ ap (λ (j : ℕ). get_or st.words j 0) o.3) b)
                  (r.each_latch l inside)),
            )),
          ),
          record {
            takes = λ e. absurd (held e);
            finds = λ _. ((λ i. machine_at config (same i) (next.1 i)), inside_is config.end st.words l inside, refl);
          },
        )

    -- a take of a free latch is the machine's take, and a take of a held one finds the holder that the machine has
    pub take_moves : Steps good config slots id (v, c) l (λ n. either (eqb n 0) s n) (TriesLatch good_at (step slots l 0 s none) (
      v,
      c,
    )) (TryDoes config.world.decls s l v)
    take_moves = record {
      goes = λ st r deep at small. exchanged (get_or st.words l 0) 0 s (Moved st r (get_or st.words l 0)) (λ free. hit st r at free)
          (λ held. miss st r at held);
    }
