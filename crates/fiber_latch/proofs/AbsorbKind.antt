-- The pass of a latch is met.
use Rattle.std.proofs.Common.{drop, ◌≡◌, ◌≢◌, ◌⊎◌, ℕ, ◌<◌, ◌≤◌, List, ◌∷◌, get_or, set, sym, refl, ap, ◌∙◌, subst, ⊎_elim, inl, inr, arith}
use mathlib.Core.Logic.{dite}
use mathlib.Core.Option.{some}
use native.Mathlib.Decide.{ℕ_discrete}
use lib.ListN.{get_elem?}
use Rattle.fiber_latch.specs.Kinds.{Merges}
use Rattle.atomic_table.proofs.Lists.{set_else}
use Rattle.dt_model.specs.declared.calls.Entry.{Entry}
use Rattle.dt_model.specs.Functions.{with_value}
use Rattle.dt_model.proofs.FunctionsLemmas.{with_value-same, with_value-other}
use Rattle.fiber_latch.specs.declared.view.Mark.TheVariants.{Taken, Kept}
use Rattle.fiber_latch.specs.declared.view.Hold.{Hold}
use Rattle.fiber_latch.specs.declared.view.Role.{Role}
use Rattle.fiber_latch.specs.declared.view.Role.TheVariants.{Pass}
use Rattle.fiber_latch.specs.declared.view.TableConfig.{TableConfig}
use Rattle.fiber_latch.specs.declared.view.View.{View}
use Rattle.fiber_latch.specs.declared.rule.Kept as kept
use Rattle.fiber_latch.specs.Views.{IsUnrelated, In, Touches, Owns, IsSession, IsLive, Keeps, Knows, IsKeptMark, IsKnownMark, spent_view, hold}
use Rattle.fiber_latch.specs.Rule.{IsJoinRecord, IsOutsideMine, IsSoundView, IsSoundLatch}
use Rattle.fiber_latch.specs.Steps.{listed, with_pass}
use Rattle.fiber_latch.proofs.RuleLemmas.{latch_stays, put_here, view_else, session_lives}
use Rattle.fiber_latch.proofs.SeatSteps.{each_stays, alone_stays, owned_stays, owned_else}
use Rattle.fiber_latch.proofs.GiveKind.{marks_more, out_here}
use Rattle.fiber_latch.proofs.ViewsLemmas.{longer_is}
use Rattle.fiber_latch.proofs.Keepers.{keeper_moves, marks_cons, keeps_known, pass_keeps, latch_gone}

module _ {C : Type 0} (good : List Entry → ℕ → kept.Kept C
    → Type 0) (config : TableConfig) (id other s l : ℕ) (x u : View) (hs : List Hold) (session : IsSession x.role) (pass : u.role ≡ Pass l) where
  abbrev v : View
  v = listed x l s Taken hs

  abbrev w : View
  w = with_pass v u

  old_met : (m : List Entry) (p : (e : Entry) → In e m → IsUnrelated config (Owns v.role) (Knows v) e) (e : Entry) → In e m
      → IsOutsideMine config (Pass l) w v.role e
  old_met m p e i = record {
    session = (p e i).session;
    latch = λ j n.
        (p e i).latch j (⊎_elim (λ (t : (l ≡ j) × Unit {0}). absurd (n.0 (sym t.0))) (λ t. marks_more IsKnownMark x.role (hold l s Taken) hs j t)
        (marks_cons IsKnownMark x.role (hold l s Kept) hs j session (keeps_known x.role (hold l s Kept ∷ hs) j n.1)));
  }

  -- the pass is joined in by a seat that lists the latch on top: the machine stays
  pub absorb_moves-listed : Merges good config id v other u w spent_view
  absorb_moves-listed st r at apart there =
      let at_other : get_elem? st.views other ≡ some u = sym (set_else st.views id other w apart) ∙ there in
      let ok = r.each_view id v at (session_lives x.role session) in
      let u_ok = r.each_view other u at_other (subst IsLive (sym pass) tt) in
      let o = out_here good config st r id l s Taken v hs at session refl in
      let theirs : r.keeper l ≡ other = u_ok.keeps l (pass_keeps IsKeptMark u.role u.held l pass) in
      let long = longer_is v.seen u.seen ok.sees.0 u_ok.sees.0 (sym ok.sees.1 ∙ u_ok.sees.1) in
      let knows_u : Knows u l = pass_keeps IsKnownMark u.role u.held l pass in
      let seen_else : (j : ℕ) → Knows w j → (l ≡ j) ⊎ Knows v j = λ j k. ⊎_elim (λ (t : (l ≡ j) × Unit {0}). inl t.0)
      (λ t. inr (marks_more IsKnownMark x.role (hold l s Taken) hs j t)) (marks_cons IsKnownMark x.role (hold l s Kept) hs j session k) in
      let mine : IsSoundView config r.history r.owner (with_value r.keeper l id) st.words r.name id w = record {
        named = ok.named;
        same_config = ok.same_config;
        sees = (
          long.rest,
          ok.sees.1 ∙ long.whole,
          λ e i. let both = long.in_rest e i in let f = ok.sees.2 e both.0 in let g = u_ok.sees.2 e both.1 in record {
            session = f.session;
            latch = λ j k. ⊎_elim (λ (t : l ≡ j). subst (λ (z : ℕ). ¬ Touches config z e) t (g.latch l knows_u)) (λ (t : Knows v j). f.latch j t)
                (seen_else j k);
          },
        );
        mine = ok.mine;
        within = ok.within;
        keeps = λ j k. ⊎_elim (λ (t : (l ≡ j) × Unit {0}). subst (λ (z : ℕ). with_value r.keeper l id z ≡ id) t.0 (with_value-same r.keeper l id))
            (λ t. let kept_before : Keeps v j = marks_more IsKeptMark x.role (hold l s Taken) hs j t in
            with_value-other r.keeper l j id (λ (e : j ≡ l). apart (sym theirs ∙ (ap r.keeper (sym e) ∙ ok.keeps j kept_before))) ∙ ok.keeps j kept_before)
            (marks_cons IsKeptMark x.role (hold l s Kept) hs j session k);
        holds = λ h i. ⊎_elim (λ (e : h ≡ hold l s Kept). let y = ok.holds (hold l s Taken) (inl refl) in subst (λ (z : Hold). (z.latch ≤ config.end)
            × Owns x.role z.session × (0 < z.session) × (get_or st.words z.latch 0 ≡ z.session)) (sym e) (y.0, y.1, y.2, y.3))
            (λ (i' : In h hs). ok.holds h (inr i')) i;
        descending = (ok.descending.0, ok.descending.1);
        last_join = subst (λ (z : Role). IsJoinRecord config w (record { mine = v.seen; was = v.role; theirs = u.seen; other = z })) (sym pass) record {
          mine = (long.past_a.0, long.past_a.1, old_met long.past_a.0 (λ e i. ok.sees.2 e (long.past_a.2 e i)));
          theirs = (long.past_b.0, long.past_b.1, λ e i. (u_ok.sees.2 e (long.past_b.2 e i)).latch l knows_u);
        };
      } in
      let views' : List View = set st.views id w in (
        record {
          history = r.history;
          owner = r.owner;
          keeper = with_value r.keeper l id;
          name = r.name;
          journal = r.journal;
          run = r.run;
          wide = r.wide;
          deep = r.deep;
          clock = r.clock;
          law = r.law;
          each_view = each_stays (λ (j : ℕ) (z : View). IsLive z.role
              → IsSoundView config r.history r.owner (with_value r.keeper l id) st.words r.name j z) views' other spent_view (λ live. absurd live)
              (λ j z n e. each_stays (λ (j : ℕ) (z : View). j ≢ other → IsLive z.role
              → IsSoundView config r.history r.owner (with_value r.keeper l id) st.words r.name j z) st.views id w (λ _ _. mine)
              (λ j z m e n live. let z_ok = r.each_view j z e live in keeper_moves config r.history r.owner r.keeper st.words r.name l id j z
              (λ (k : Keeps z l). n (sym (z_ok.keeps l k) ∙ theirs)) z_ok) j z e n);
          owned = owned_else views' r.owner config.sessions other u spent_view there (λ i m o. subst (λ (q : Role). Owns q i) pass o)
              (owned_stays st.views r.owner config.sessions id v w at refl r.owned);
          each_latch = λ j b. dite (ℕ_discrete j l)
              (λ (same : j ≡ l). subst (λ (z : ℕ). IsSoundLatch good config r.owner (with_value r.keeper l id z) st.words st.homes
              (set views' other spent_view) z) (sym same)
              (inr (
                (λ (z : get_or st.words l 0 ≡ 0). let p = o.1 in let q = o.2 in omega arith),
                (
                  w,
                  hold l s Kept,
                  (
                    subst (λ (z : ℕ). get_elem? (set views' other spent_view) z
                        ≡ some w) (sym (ap r.owner o.2 ∙ o.3)) (view_else views' other id spent_view w (λ (e : id
                        ≡ other). apart (sym e)) (put_here st.views id v w at)),
                    session,
                    inl refl,
                    refl,
                    o.4.0,
                  ),
                ),
              )))
              (λ (n : j ≢ l). subst (λ (z : ℕ). IsSoundLatch good config r.owner z st.words st.homes (set views' other spent_view) j)
              (sym (with_value-other r.keeper l j id n))
              (latch_gone good config r.owner (r.keeper j) st.words st.homes views' j other l u spent_view there pass n
              (latch_stays good config r.owner (r.keeper j) st.words st.words st.homes st.homes st.views id v w j at session refl refl session
              (λ h i e. ⊎_elim (λ (z : h ≡ hold l s Taken). absurd (n (sym e
              ∙ ap (λ (y : Hold). y.latch) z))) (λ (i' : In h hs). inr i') i) (r.each_latch j b))));
          alone = alone_stays views' other u spent_view there (λ f. absurd (cc)) (alone_stays st.views id v w at (λ f. f) r.alone);
        },
        refl,
      )

-- the same of a view whose list is known
pub absorb_moves : {C : Type 0} (good : List Entry → ℕ → kept.Kept C → Type 0) (config : TableConfig) (id other s l : ℕ) (v u : View) → IsSession v.role
    → v.held ≡ hold l s Taken ∷ drop 1 v.held → u.role ≡ Pass l
    → Merges good config id v other u (with_pass v u) spent_view
absorb_moves good config id other s l v u session top pass =
    subst (λ (x : List Hold). Merges good config id (record v { held = x }) other u (with_pass (record v { held = x }) u) spent_view) (sym top)
    (absorb_moves-listed good config id other s l v u (drop 1 v.held) session pass)
