-- A look at a word, and a new pass.
use Rattle.std.proofs.Common.{drop, ◌≡◌, ◌≢◌, ◌⊎◌, ℕ, zero, suc, ◌+◌, ◌<◌, ◌≤◌, List, [], ◌∷◌, ◌++◌, length, get_or, set, sym, refl, ap, ◌∙◌, subst, ⊎_elim}
use Rattle.std.proofs.Common.{inl, inr, arith, Option, None, true, false, length-set}
use mathlib.Core.Logic.{dite}
use mathlib.Core.Option.{none, some, some-injective, some-ne-none}
use native.Mathlib.Decide.{ℕ_discrete}
use lib.ListN.{get_elem?}
use lib.Seq.{set-get_or}
use Rattle.atomic_table.specs.Table.{step, keeps}
use Rattle.fiber_latch.specs.Kinds.{NothingDone, Steps, Cuts}
use Rattle.fiber_latch.specs.Rule.{machine_at}
use Rattle.dt_model.specs.declared.calls.Entry.{Entry}
use Rattle.dt_model.specs.Functions.{with_value}
use Rattle.dt_model.proofs.FunctionsLemmas.{with_value-same, with_value-other}
use Rattle.fiber_latch.specs.declared.view.Mark.TheVariants.{Kept, Parted}
use Rattle.fiber_latch.specs.declared.view.Hold.{Hold}
use Rattle.fiber_latch.specs.declared.view.TableConfig.{TableConfig}
use Rattle.fiber_latch.specs.declared.view.View.{View}
use Rattle.fiber_latch.specs.declared.rule.Kept as kept
use Rattle.fiber_latch.specs.declared.rule.SlotValue.{SlotValue}
use Rattle.fiber_latch.specs.Views.{In, Touches, Owns, IsSession, IsLive, Keeps, Knows, IsKeptMark, IsKnownMark, pass_view, IsLawful, hold}
use Rattle.fiber_latch.specs.Rule.{IsLastJoin, IsSoundView, IsSoundLatch}
use Rattle.fiber_latch.specs.Steps.{listed, ReadsWord, without_pass, top_pass}
use Rattle.fiber_latch.proofs.MachineLemmas.{run_stays}
use Rattle.fiber_latch.proofs.LawfulHistories.{lawful_front}
use Rattle.fiber_latch.proofs.RuleLemmas.{latch_stays, put_here, session_lives}
use Rattle.fiber_latch.proofs.SeatSteps.{seat_step}
use Rattle.atomic_table.proofs.Lists.{at_longer, at_last, at_snoc}
use Rattle.fiber_latch.proofs.TakeKind.{no_join}
use Rattle.fiber_latch.proofs.SeatSteps.{seat_step, each_stays, owned_stays}
use Rattle.fiber_latch.proofs.GiveKind.{marks_more, out_here}
use Rattle.fiber_latch.proofs.Keepers.{keeper_moves, marks_cons, marks_top, marks_listed, latch_comes}

-- what is in a list with one more is in the list, or is the one
pub at_snoc_here : {A : Type 0} (l : List A) (a b : A) (j n : ℕ) → length l ≡ n → get_elem? (l ++ a ∷ []) j ≡ some b
    → (get_elem? l j ≡ some b) ⊎ ((j ≡ n) × (a ≡ b))
at_snoc_here [] a b zero n k e = inr (k, some-injective a b e)
at_snoc_here [] a b (suc j) n k e = absurd (some-ne-none b (sym e))
at_snoc_here (x ∷ xs) a b zero n k e = inl e
at_snoc_here (x ∷ xs) a b (suc j) zero k e = absurd (omega arith)
at_snoc_here (x ∷ xs) a b (suc j) (suc n) k e = ⊎_elim (λ (t : get_elem? xs j ≡ some b). inl t) (λ (t : (j ≡ n) × (a ≡ b)). inr (
  ap suc t.0,
  t.1,
)) (at_snoc_here xs a b j n (omega arith) e)

module _ {C : Type 0} (good : List Entry → ℕ → kept.Kept C → Type 0) (config : TableConfig) where
  -- reading a word leaves the machine
  pub look_moves : (slots id i : ℕ) (v : View) (c : List (ℕ × Option (SlotValue C))) → IsSession v.role
      → Steps good config slots id (v, c) i (λ n. n) (ReadsWord (step slots i 0 0 none) (v, c)) (NothingDone v)
  look_moves slots id i v c session = record {
    goes = λ st r deep at small.
        let ok = r.each_view id v at (session_lives v.role session) in
        let w : View = record v { last_join = None } in
        let n : ℕ = get_or st.words i 0 in
        let at_word : (j : ℕ) → get_or (set st.words i n) j 0 ≡ get_or st.words j 0 = λ j. ap (λ (ws : List ℕ). get_or ws j 0) (set-get_or st.words i 0) in
        let next = seat_step good config st r id (config.end
        + 1) v w (set st.words i n) st.homes at session refl (λ f. f) (length-set st.words i n) refl (at_word (config.end + 1))
        (run_stays config st.words r.history r.run r.journal (set st.words i n) (set-get_or st.words i 0))
        record {
          named = ok.named;
          same_config = ok.same_config;
          sees = (ok.sees.0, ok.sees.1, λ e i. let f = ok.sees.2 e i in record { session = f.session; latch = f.latch });
          mine = ok.mine;
          within = ok.within;
          keeps = ok.keeps;
          holds = λ h i. let x = ok.holds h i in (x.0, x.1, x.2, at_word h.latch ∙ x.3);
          descending = ok.descending;
          last_join = tt;
        }
        (λ j u' h n e ok' i. at_word h.latch)
        (λ j n. at_word j)
        (λ j n. refl)
        (λ h i n. i)
        (λ b. absurd (omega arith)) in (
          w,
          keeps,
          tt,
          next.0,
          (
            refl,
            (
              subst (λ (e : TableConfig). IsLastJoin e v v.last_join) (sym ok.same_config) ok.last_join,
              subst (λ (e : TableConfig). IsLawful e v.seen)
                  (sym ok.same_config) (lawful_front config v.seen ok.sees.0 (subst (IsLawful config) ok.sees.1 r.law)),
            ),
          ),
          record { machine = λ j. machine_at config (set-get_or st.words i 0 j) (next.1 j); conflicts = refl },
        );
  }

  module _ (id s l : ℕ) (x : View) (hs : List Hold) (session : IsSession x.role) (old : x.fresh ≡ false) (idle : x.last_join ≡ None) where
    abbrev v : View
    v = listed x l s Kept hs

    -- a new pass is cut off from a seat that lists the latch on top: the machine stays
    pub release_moves-listed : Cuts good config id v (without_pass v) (top_pass v)
    release_moves-listed st r at =
        let ok = r.each_view id v at (session_lives x.role session) in
        let o = out_here good config st r id l s Kept v hs at session refl in
        let w : View = without_pass v in
        let p : View = top_pass v in
        let n : ℕ = length st.views in
        let views' : List View = set st.views id w in
        let long : length views' ≡ n = length-set st.views id w in
        let k' : ℕ → ℕ = with_value r.keeper l n in
        let kept_here : r.keeper l ≡ id = ok.keeps l (marks_top IsKeptMark x.role (hold l s Kept) hs session tt) in
        let known : (j : ℕ) → Knows w j → Knows v j = λ j k. ⊎_elim
        (λ (t : (l ≡ j) × Unit {0}). subst (λ (z : ℕ). Knows v z) t.0 (marks_top IsKnownMark x.role (hold l s Kept) hs session tt))
        (λ t. marks_more IsKnownMark x.role (hold l s Kept) hs j t) (marks_cons IsKnownMark x.role (hold l s (Parted x.seen)) hs j session k) in
        let mine : IsSoundView config r.history r.owner k' st.words r.name id w = record {
          named = ok.named;
          same_config = ok.same_config;
          sees = (ok.sees.0, ok.sees.1, λ e i. let f = ok.sees.2 e i in record { session = f.session; latch = λ j k. f.latch j (known j k) });
          mine = ok.mine;
          within = ok.within;
          keeps = λ j k. ⊎_elim (λ (t : (l ≡ j) × ⊥). absurd t.1)
              (λ t. ⊎_elim (λ (q : j ≡ l). let g = marks_listed IsKeptMark x.role hs j session t in let b = ok.descending.0 g.0 g.1 in let e = g.2 in absurd
              (omega arith)) (λ (q : j ≢ l). with_value-other r.keeper l j n q ∙ ok.keeps j (marks_more IsKeptMark x.role (hold l s Kept) hs j t))
              (dite (ℕ_discrete j l) (λ q. inl q) (λ q. inr q)))
              (marks_cons IsKeptMark x.role (hold l s (Parted x.seen)) hs j session k);
          holds = λ h i. ⊎_elim (λ (e : h ≡ hold l s (Parted x.seen)). let y = ok.holds (hold l s Kept) (inl refl) in subst
              (λ (z : Hold). (z.latch ≤ config.end) × Owns x.role z.session × (0 < z.session) × (get_or st.words z.latch 0 ≡ z.session)) (sym e)
              (y.0, y.1, y.2, y.3))
              (λ (i' : In h hs). ok.holds h (inr i')) i;
          descending = (ok.descending.0, ok.descending.1);
          last_join = no_join config w x.last_join idle;
        } in
        let its : IsSoundView config r.history r.owner k' st.words r.name n p = record {
          named = ok.named;
          same_config = ok.same_config;
          sees = (
            ok.sees.0,
            ok.sees.1,
            λ e i. let f = ok.sees.2 e i in record {
              session = λ z. z;
              latch = λ j k. subst (λ (z : ℕ). ¬ Touches config z e) k
                  (f.latch l (marks_top IsKnownMark x.role (hold l s Kept) hs session tt));
            },
          );
          mine = λ z y. absurd y;
          within = λ z y. absurd y;
          keeps = λ j k. subst (λ (z : ℕ). k' z ≡ n) k (with_value-same r.keeper l n);
          holds = λ h i. absurd i;
          descending = tt;
          last_join = tt;
        } in
        let not_fresh : (j : ℕ) (z : View) → get_elem? (views' ++ p ∷ []) j ≡ some z → z.fresh ≡ true → ⊥ = λ j z e f. ⊎_elim
        (λ (e' : get_elem? views' j ≡ some z). each_stays (λ (_ : ℕ) (z : View). z.fresh ≡ true
        → ⊥) st.views id w (λ (g : x.fresh ≡ true). absurd (cc (old, g)))
        (λ i y m e g. m (sym (r.alone i y e g id v at))) j z e' f)
        (λ (q : p ≡ z). absurd (cc (ap (λ (y : View). y.fresh) q, f))) (at_snoc views' p z j e) in (
          record {
            history = r.history;
            owner = r.owner;
            keeper = k';
            name = r.name;
            journal = r.journal;
            run = r.run;
            wide = r.wide;
            deep = r.deep;
            clock = r.clock;
            law = r.law;
            each_view = λ j z e live. ⊎_elim
                (λ (e' : get_elem? views' j ≡ some z). each_stays (λ (j : ℕ) (z : View). IsLive z.role
                → IsSoundView config r.history r.owner k' st.words r.name j z) st.views id w (λ _. mine)
                (λ j z m e live. let z_ok = r.each_view j z e live in keeper_moves config r.history r.owner r.keeper st.words r.name l n j z
                (λ (k : Keeps z l). m (sym (z_ok.keeps l k) ∙ kept_here)) z_ok) j z e' live)
                (λ (q : (j ≡ n) × (p ≡ z)). subst (λ (y : ℕ × View). IsSoundView config r.history r.owner k' st.words r.name y.0 y.1) (λ i. (
                  sym q.0 i,
                  q.1 i,
                )) its)
                (at_snoc_here views' p z j n long e);
            owned = λ i a b. let o = owned_stays st.views r.owner config.sessions id v w at refl r.owned i a b in (
              o.0,
              (at_longer views' (p ∷ []) (r.owner i) o.0 o.1.0, o.1.1),
            );
            each_latch = λ j b. dite (ℕ_discrete j l)
                (λ (same : j ≡ l). subst (λ (z : ℕ). IsSoundLatch good config r.owner (k' z) st.words st.homes (views' ++ p ∷ []) z) (sym same)
                (inr (
                  (λ (z : get_or st.words l 0 ≡ 0). let p = o.1 in let q = o.2 in omega arith),
                  (
                    w,
                    hold l s (Parted x.seen),
                    (
                      subst (λ (z : ℕ). get_elem? (views' ++ p ∷ []) z
                          ≡ some w) (sym (ap r.owner o.2 ∙ o.3)) (at_longer views' (p ∷ []) id w (put_here st.views id v w at)),
                      session,
                      inl refl,
                      refl,
                      (
                        o.4,
                        (
                          p,
                          subst (λ (z : ℕ). get_elem? (views' ++ p ∷ []) z ≡ some p) (sym (with_value-same r.keeper l n)) (at_last views' p n long),
                          ap (λ (z : TableConfig). pass_view x.table z l x.seen) ok.same_config,
                        ),
                      ),
                    ),
                  ),
                )))
                (λ (m : j ≢ l). subst (λ (z : ℕ). IsSoundLatch good config r.owner z st.words st.homes (views'
                ++ p ∷ []) j) (sym (with_value-other r.keeper l j n m))
                (latch_comes good config r.owner (r.keeper j) st.words st.homes views' j (p ∷ [])
                (latch_stays good config r.owner (r.keeper j) st.words st.words st.homes st.homes st.views id v w j at session refl refl session
                (λ h i e. ⊎_elim (λ (z : h ≡ hold l s Kept). absurd (m (sym e
                ∙ ap (λ (y : Hold). y.latch) z))) (λ (i' : In h hs). inr i') i) (r.each_latch j b))));
            alone = λ j z e f. absurd (not_fresh j z e f);
          },
          refl,
        )

-- the same of a view whose list is known
pub release_moves : {C : Type 0} (good : List Entry → ℕ → kept.Kept C → Type 0) (config : TableConfig) (id s l : ℕ) (v : View) → IsSession v.role
    → v.held ≡ hold l s Kept ∷ drop 1 v.held → v.fresh ≡ false → v.last_join ≡ None
    → Cuts good config id v (without_pass v) (top_pass v)
release_moves good config id s l v session top old idle =
    subst (λ (x : List Hold). Cuts good config id (record v { held = x }) (without_pass (record v { held = x })) (top_pass (record v { held = x }))) (sym top)
    (release_moves-listed good config id s l v (drop 1 v.held) session old idle)
