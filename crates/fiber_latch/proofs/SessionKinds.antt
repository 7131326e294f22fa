-- Seats of sessions are cut and joined.
use Rattle.std.proofs.Common.{◌≡◌, ◌≢◌, ℕ, ◌+◌, ◌<◌, ◌≤◌, List, [], ◌∷◌, ◌++◌, length, get_or, set, sym, refl, ap, ◌∙◌, subst, ⊎_elim, inl, inr, arith, None}
use Rattle.std.proofs.Common.{true, false, length-set}
use mathlib.Core.Logic.{dite}
use mathlib.Core.Option.{some}
use native.Mathlib.Decide.{ℕ_discrete}
use lib.ListN.{get_elem?}
use Rattle.fiber_latch.specs.Kinds.{Cuts, Merges}
use Rattle.atomic_table.proofs.Lists.{set_else}
use Rattle.dt_model.specs.declared.calls.Entry.{Entry}
use Rattle.fiber_latch.specs.declared.view.Mark.{Mark}
use Rattle.fiber_latch.specs.declared.view.Mark.TheVariants.{Opened, Taken, Kept, Parted}
use Rattle.fiber_latch.specs.declared.view.Hold.{Hold}
use Rattle.fiber_latch.specs.declared.view.Role.{Role}
use Rattle.fiber_latch.specs.declared.view.Role.TheVariants.{Spent, Pass, Sessions}
use Rattle.fiber_latch.specs.declared.view.TableConfig.{TableConfig}
use Rattle.fiber_latch.specs.declared.view.View.{View}
use Rattle.fiber_latch.specs.declared.rule.Kept as kept
use Rattle.fiber_latch.specs.declared.rule.SlotValue.{SlotValue}
use Rattle.fiber_latch.specs.Views.{In, Owns, IsSession, IsLive, HasMark, spent_view}
use Rattle.fiber_latch.specs.Rule.{IsSoundView, Homes, IsAtHome, IsSlotAt, IsOut, IsSoundLatch}
use Rattle.fiber_latch.specs.Steps.{lower_view, upper_view, joined_view}
use Rattle.fiber_latch.specs.Conditions.{IsIdle}
use Rattle.fiber_latch.proofs.RuleLemmas.{put_here, pass_else, one_at, view_else}
use native.Mathlib.Decide.{dec_le}
use Rattle.atomic_table.proofs.Lists.{at_longer, at_last}
use Rattle.fiber_latch.proofs.TakeKind.{no_join}
use Rattle.fiber_latch.proofs.SeatSteps.{each_stays, alone_stays}
use Rattle.fiber_latch.proofs.ViewsLemmas.{longer_is}
use Rattle.fiber_latch.proofs.ReleaseKind.{at_snoc_here}
use Rattle.fiber_latch.proofs.Keepers.{latch_comes}

abbrev choose : {P Q : Type 0} → Dec P → Dec Q → ℕ → ℕ → ℕ
choose (yes _) (yes _) a b = a
choose (yes _) (no _) a b = b
choose (no _) q a b = b

-- from a to t the value is c
pub span : (ℕ → ℕ) → ℕ → ℕ → ℕ → ℕ → ℕ
span f a t c j = choose (dec_le a j) (dec_le j t) c (f j)

-- inside the range the value is the new one
pub span_in : (f : ℕ → ℕ) (a t c j : ℕ) → a ≤ j → j ≤ t → span f a t c j ≡ c
unfolding span
span_in f a t c j low high = go (dec_le a j) (dec_le j t)
  where
    go : (d : Dec (a ≤ j)) (e : Dec (j ≤ t)) → choose d e c (f j) ≡ c
    go (yes _) (yes _) = refl
    go (yes _) (no n) = absurd (n high)
    go (no n) e = absurd (n low)

-- outside the range the value is the old one
pub span_out : (f : ℕ → ℕ) (a t c j : ℕ) → ¬ ((a ≤ j) × (j ≤ t)) → span f a t c j ≡ f j
unfolding span
span_out f a t c j out = go (dec_le a j) (dec_le j t)
  where
    go : (d : Dec (a ≤ j)) (e : Dec (j ≤ t)) → choose d e c (f j) ≡ f j
    go (yes x) (yes y) = absurd (out (x, y))
    go (yes _) (no n) = refl
    go (no n) e = refl

inside : (a t i : ℕ) → Dec ((a ≤ i) × (i ≤ t))
inside a t i = both (dec_le a i) (dec_le i t)
  where
    both : Dec (a ≤ i) → Dec (i ≤ t) → Dec ((a ≤ i) × (i ≤ t))
    both (yes x) (yes y) = yes (x, y)
    both (yes x) (no n) = no (λ z. n z.1)
    both (no n) d = no (λ z. n z.0)

-- a seat that holds nothing changes, and owners change of sessions that hold nothing
module _ {C : Type 0} (good : List Entry → ℕ → kept.Kept C → Type 0) (config : TableConfig) (owner owner' : ℕ
    → ℕ) (k : ℕ) (words : List ℕ) (homes : Homes C) (views : List View) (id : ℕ) (v w : View) (l : ℕ)
    (at : get_elem? views id ≡ some v) (session : IsSession v.role) (empty : v.held ≡ []) (same : (u : View) (h : Hold)
    → get_elem? views (owner (get_or words l 0)) ≡ some u → In h u.held → owner' (get_or words l 0) ≡ owner (get_or words l 0)) where
  hand_idle : (m : Mark) → IsSlotAt good config owner k words homes views l m → IsSlotAt good config owner' k words homes (set views id w) l m
  hand_idle Opened h = h
  hand_idle Kept h = h
  hand_idle Taken h = (h.0, (h.1.0, pass_else views id k l v w h.1.0 at session h.1.1 h.1.2, h.1.2))
  hand_idle (Parted p) h = (h.0, (h.1.0, pass_else views id k l v w h.1.0 at session h.1.1 (ap (λ (x : View). x.role) h.1.2), h.1.2))

  -- a seat that holds nothing changes, and what is true of each latch stays
  pub latch_idle : IsSoundLatch good config owner k words homes views l → IsSoundLatch good config owner' k words homes (set views id w) l
  latch_idle ok = ⊎_elim
      (λ (t : (get_or words l 0 ≡ 0) × ((y : SlotValue C) × (u : View) × IsAtHome good config owner k words homes views l y u)).
      let a = t.1.2 in inl (t.0, (t.1.0, t.1.1, (a.0, a.1, a.2, pass_else views id k l v w t.1.1 at session a.3 a.4, a.4, a.5))))
      (λ (t : (get_or words l 0 ≢ 0) × ((u : View) × (h : Hold) × IsOut good config owner k words homes views l u h)).
      let a = t.1.2 in
      let o : ℕ = owner (get_or words l 0) in
      let apart : o ≢ id = λ (e : o ≡ id). subst (In t.1.1) (ap (λ (x : View). x.held) (one_at views id t.1.0 v (subst (λ (j : ℕ). get_elem? views j
      ≡ some t.1.0) e a.0) at) ∙ empty) a.2 in
      inr (
        t.0,
        (
          t.1.0,
          t.1.1,
          (
            subst (λ (j : ℕ). get_elem? (set views id w) j
                ≡ some t.1.0) (sym (same t.1.0 t.1.1 a.0 a.2)) (view_else views id o w t.1.0 apart a.0),
            a.1,
            a.2,
            a.3,
            hand_idle t.1.1.mark a.4,
          ),
        ),
      ))
      ok

marks_none : (K : Mark → Type 0) (r : Role) (l : ℕ) → IsSession r → HasMark K r [] l → ⊥
marks_none K Spent l s m = s
marks_none K (Pass w) l s m = s
marks_none K (Sessions f t) l s m = m.1

module _ {C : Type 0} (good : List Entry → ℕ → kept.Kept C → Type 0) (config : TableConfig) where
  module _ (id f t a : ℕ) (x : View) (low : f < a) (high : a ≤ t) (old : x.fresh ≡ false) (idle : x.last_join ≡ None) where
    abbrev v : View
    v = record x { role = Sessions f t; held = [] }

    -- a seat whose fields are at hand is cut in two: the machine stays
    pub split_moves-plain : Cuts good config id v (lower_view a v) (upper_view a v)
    split_moves-plain st r at =
        let ok = r.each_view id v at tt in
        let w : View = lower_view a v in
        let p : View = upper_view a v in
        let n : ℕ = length st.views in
        let views' : List View = set st.views id w in
        let long : length views' ≡ n = length-set st.views id w in
        let o' : ℕ → ℕ = span r.owner a t n in
        let owned : (s : ℕ) → (a ≤ s) × (s ≤ t) → r.owner s ≡ id = λ s b. ok.mine s (let c = b.0 in (omega arith, b.1)) in
        let mine : IsSoundView config r.history o' r.keeper st.words r.name id w = record {
          named = ok.named;
          same_config = ok.same_config;
          sees = (
            ok.sees.0,
            ok.sees.1,
            λ e i. let g = ok.sees.2 e i in record {
              session = λ b. g.session (let c = b.1 in (
                b.0,
                omega arith,
              ));
              latch = λ j k. absurd (k.1);
            },
          );
          within = λ s b. let c = b.1 in ok.within s (b.0, omega arith);
          mine = λ s b. let c = b.1 in span_out r.owner a t n s (λ d. let z = d.0 in omega arith) ∙ ok.mine s (b.0, omega arith);
          keeps = λ j k. absurd (k.1);
          holds = λ h i. absurd i;
          descending = tt;
          last_join = no_join config w x.last_join idle;
        } in
        let its : IsSoundView config r.history o' r.keeper st.words r.name n p = record {
          named = ok.named;
          same_config = ok.same_config;
          sees = (
            ok.sees.0,
            ok.sees.1,
            λ e i. let g = ok.sees.2 e i in record {
              session = λ b. g.session (let c = b.0 in (
                omega arith,
                b.1,
              ));
              latch = λ j k. absurd (k.1);
            },
          );
          mine = λ s b. span_in r.owner a t n s b.0 b.1;
          within = λ s b. let c = b.0 in ok.within s (omega arith, b.1);
          keeps = λ j k. absurd (k.1);
          holds = λ h i. absurd i;
          descending = tt;
          last_join = tt;
        } in
        let not_fresh : (j : ℕ) (z : View) → get_elem? (views' ++ p ∷ []) j ≡ some z → z.fresh ≡ true → ⊥ = λ j z e g. ⊎_elim
        (λ (e' : get_elem? views' j ≡ some z). each_stays (λ (_ : ℕ) (z : View). z.fresh ≡ true
        → ⊥) st.views id w (λ (b : x.fresh ≡ true). absurd (cc (old, b)))
        (λ i y m e b. m (sym (r.alone i y e b id v at))) j z e' g)
        (λ (q : (j ≡ n) × (p ≡ z)). absurd (cc (old, ap (λ (y : View). y.fresh) q.1, g))) (at_snoc_here views' p z j n long e) in (
          record {
            history = r.history;
            owner = o';
            keeper = r.keeper;
            name = r.name;
            journal = r.journal;
            run = r.run;
            wide = r.wide;
            deep = r.deep;
            clock = r.clock;
            law = r.law;
            each_view = λ j z e live. ⊎_elim
                (λ (e' : get_elem? views' j ≡ some z). each_stays (λ (j : ℕ) (z : View). IsLive z.role
                → IsSoundView config r.history o' r.keeper st.words r.name j z) st.views id w (λ _. mine)
                (λ j z m e live. let z_ok = r.each_view j z e live in record {
                  named = z_ok.named;
                  same_config = z_ok.same_config;
                  sees = z_ok.sees;
                  within = z_ok.within;
                  mine = λ s b. span_out r.owner a t n s (λ d. m (sym (z_ok.mine s b) ∙ owned s d)) ∙ z_ok.mine s b;
                  keeps = z_ok.keeps;
                  holds = z_ok.holds;
                  descending = z_ok.descending;
                  last_join = z_ok.last_join;
                }) j z e' live)
                (λ (q : (j ≡ n) × (p ≡ z)). subst (λ (y : ℕ × View). IsSoundView config r.history o' r.keeper st.words r.name y.0 y.1) (λ i. (
                  sym q.0 i,
                  q.1 i,
                )) its)
                (at_snoc_here views' p z j n long e);
            owned = λ i low_i high_i.
                let o = r.owned i low_i high_i in
                let OwnedNow : ℕ → Type 0 = λ j. (z : View) × ((get_elem? (views' ++ p ∷ []) j ≡ some z) × Owns z.role i) in
                let later : (j : ℕ) (z : View) → get_elem? views' j ≡ some z
                → get_elem? (views' ++ p ∷ []) j ≡ some z = λ j z e. at_longer views' (p ∷ []) j z e in
                dite (inside a t i)
                (λ (d : (a ≤ i) × (i ≤ t)). subst OwnedNow (sym (span_in r.owner a t n i d.0 d.1)) (p, (at_last views' p n long, d)))
                (λ (d : ¬ ((a ≤ i) × (i ≤ t))). subst OwnedNow (sym (span_out r.owner a t n i d)) (dite (ℕ_discrete (r.owner i) id)
                (λ (q : r.owner i ≡ id).
                let is : o.0 ≡ v = one_at st.views id o.0 v (subst (λ (j : ℕ). get_elem? st.views j ≡ some o.0) q o.1.0) at in
                let both : (f ≤ i) × (i ≤ t) = subst (λ (z : View). Owns z.role i) is o.1.1 in
                let c : ¬ (a ≤ i) = λ x. d (x, both.1) in
                (w, (later (r.owner i) w (subst (λ (j : ℕ). get_elem? views' j ≡ some w) (sym q) (put_here st.views id v w at)), (both.0, omega arith))))
                (λ (q : r.owner i ≢ id). (o.0, (later (r.owner i) o.0 (view_else st.views id (r.owner i) w o.0 q o.1.0), o.1.1)))));
            each_latch = λ l b. latch_comes good config o' (r.keeper l) st.words st.homes views' l (p ∷ [])
                (latch_idle good config r.owner o' (r.keeper l) st.words st.homes st.views id v w l at tt refl
                (λ u h e i. span_out r.owner a t n (get_or st.words l 0)
                (λ d. subst (In h) (ap (λ (y : View). y.held)
                (one_at st.views id u v (subst (λ (j : ℕ). get_elem? st.views j ≡ some u) (owned (get_or st.words l 0) d) e) at)) i))
                (r.each_latch l b));
            alone = λ j z e g. absurd (not_fresh j z e g);
          },
          refl,
        )

  module _ (id other f m t : ℕ) (x y : View) (first : f ≤ m) (second : m + 1 ≤ t) (idle_x : x.last_join ≡ None) where
    abbrev one : View
    one = record x { role = Sessions f m; held = [] }

    abbrev two : View
    two = record y { role = Sessions (m + 1) t; held = [] }

    -- two seats whose fields are at hand are joined: the machine stays
    pub join_moves-plain : Merges good config id one other two (joined_view one two) spent_view
    join_moves-plain st r at apart there =
        let at_other : get_elem? st.views other ≡ some two = sym (set_else st.views id other (joined_view one two) apart) ∙ there in
        let ok = r.each_view id one at tt in
        let u_ok = r.each_view other two at_other tt in
        let w : View = joined_view one two in
        let long = longer_is x.seen y.seen ok.sees.0 u_ok.sees.0 (sym ok.sees.1 ∙ u_ok.sees.1) in
        let o' : ℕ → ℕ = span r.owner (m + 1) t id in
        let owned : (s : ℕ) → (m + 1 ≤ s) × (s ≤ t) → r.owner s ≡ other = u_ok.mine in
        let views' : List View = set st.views id w in
        let mine : IsSoundView config r.history o' r.keeper st.words r.name id w = record {
          named = ok.named;
          same_config = ok.same_config;
          sees = (
            long.rest,
            ok.sees.1 ∙ long.whole,
            λ e i. let both = long.in_rest e i in let g = ok.sees.2 e both.0 in let h = u_ok.sees.2 e both.1 in record {
              session = λ b. dite (dec_le e.turn.session m) (λ c. g.session (b.0, c)) (λ (n : ¬ (e.turn.session ≤ m)). h.session (omega arith, b.1));
              latch = λ j k. absurd (k.1);
            },
          );
          within = λ s b. dite (dec_le s m) (λ c. ok.within s (b.0, c)) (λ (n : ¬ (s ≤ m)). u_ok.within s (omega arith, b.1));
          mine = λ s b. dite (dec_le s m) (λ c. span_out r.owner (m + 1) t id s (λ d. let z = d.0 in omega arith)
              ∙ ok.mine s (b.0, c)) (λ (n : ¬ (s ≤ m)). span_in r.owner (m + 1) t id s (omega arith) b.1);
          keeps = λ j k. absurd (k.1);
          holds = λ h i. absurd i;
          descending = tt;
          last_join = record {
            mine = (long.past_a.0, long.past_a.1, λ e i. (ok.sees.2 e (long.past_a.2 e i)).session);
            theirs = (long.past_b.0, long.past_b.1, λ e i. (u_ok.sees.2 e (long.past_b.2 e i)).session);
          };
        } in (
          record {
            history = r.history;
            owner = o';
            keeper = r.keeper;
            name = r.name;
            journal = r.journal;
            run = r.run;
            wide = r.wide;
            deep = r.deep;
            clock = r.clock;
            law = r.law;
            each_view = each_stays (λ (j : ℕ) (z : View). IsLive z.role
                → IsSoundView config r.history o' r.keeper st.words r.name j z) views' other spent_view (λ live. absurd live)
                (λ j z n e. each_stays (λ (j : ℕ) (z : View). j ≢ other → IsLive z.role
                → IsSoundView config r.history o' r.keeper st.words r.name j z) st.views id w (λ _ _. mine)
                (λ j z q e n live. let z_ok = r.each_view j z e live in record {
                  named = z_ok.named;
                  same_config = z_ok.same_config;
                  sees = z_ok.sees;
                  within = z_ok.within;
                  mine = λ s b. span_out r.owner (m + 1) t id s (λ d. n (sym (z_ok.mine s b) ∙ owned s d)) ∙ z_ok.mine s b;
                  keeps = z_ok.keeps;
                  holds = z_ok.holds;
                  descending = z_ok.descending;
                  last_join = z_ok.last_join;
                }) j z e n);
            owned = λ i low_i high_i.
                let o = r.owned i low_i high_i in
                let OwnedNow : ℕ → Type 0 = λ j. (z : View) × ((get_elem? (set views' other spent_view) j ≡ some z) × Owns z.role i) in
                let here : get_elem? (set views' other spent_view) id
                ≡ some w = view_else views' other id spent_view w (λ (q : id ≡ other). apart (sym q)) (put_here st.views id one w at) in
                dite (inside (m + 1) t i)
                (λ (d : (m + 1 ≤ i) × (i ≤ t)). let c = d.0 in subst OwnedNow (sym (span_in r.owner (m + 1) t id i d.0 d.1)) (w, (here, (omega arith, d.1))))
                (λ (d : ¬ ((m + 1 ≤ i) × (i ≤ t))). subst OwnedNow (sym (span_out r.owner (m + 1) t id i d)) (dite (ℕ_discrete (r.owner i) id)
                (λ (q : r.owner i ≡ id).
                let is : o.0 ≡ one = one_at st.views id o.0 one (subst (λ (j : ℕ). get_elem? st.views j ≡ some o.0) q o.1.0) at in
                let both : (f ≤ i) × (i ≤ m) = subst (λ (z : View). Owns z.role i) is o.1.1 in
                (w, (subst (λ (j : ℕ). get_elem? (set views' other spent_view) j ≡ some w) (sym q) here, (both.0, let c = both.1 in omega arith))))
                (λ (q : r.owner i ≢ id). dite (ℕ_discrete (r.owner i) other)
                (λ (q' : r.owner i ≡ other).
                let is : o.0 ≡ two = one_at st.views other o.0 two (subst (λ (j : ℕ). get_elem? st.views j ≡ some o.0) q' o.1.0) at_other in
                absurd (d (subst (λ (z : View). Owns z.role i) is o.1.1)))
                (λ (q' : r.owner i ≢ other). (
                  o.0,
                  (
                    view_else views' other (r.owner i) spent_view o.0 q' (view_else st.views id (r.owner i) w o.0 q o.1.0),
                    o.1.1,
                  ),
                )))));
            each_latch = λ l b. latch_idle good config o' o' (r.keeper l) st.words st.homes views' other two spent_view l there tt refl (λ u h e i. refl)
                (latch_idle good config r.owner o' (r.keeper l) st.words st.homes st.views id one w l at tt refl
                (λ u h e i. span_out r.owner (m + 1) t id (get_or st.words l 0)
                (λ d. subst (In h) (ap (λ (y : View). y.held)
                (one_at st.views other u two (subst (λ (j : ℕ). get_elem? st.views j ≡ some u) (owned (get_or st.words l 0) d) e) at_other)) i))
                (r.each_latch l b));
            alone = alone_stays views' other two spent_view there (λ (g : false ≡ true). absurd (cc g)) (alone_stays st.views id one w at (λ g. g) r.alone);
          },
          refl,
        )

-- a seat of sessions that holds nothing is cut in two: the machine stays
pub split_moves : {C : Type 0} (good : List Entry → ℕ → kept.Kept C → Type 0) (config : TableConfig) (id f t a : ℕ) (v : View) → IsIdle v f t → f < a → a ≤ t
    → Cuts good config id v (lower_view a v) (upper_view a v)
split_moves good config id f t a v i low high =
    subst (λ (x : View). Cuts good config id x (lower_view a x) (upper_view a x)) (λ j. record v { role = sym i.role j; held = sym i.held j })
    (split_moves-plain good config id f t a v low high i.known i.idle)

-- two seats of sessions that hold nothing are joined: the machine stays
pub join_moves : {C : Type 0} (good : List Entry → ℕ → kept.Kept C → Type 0) (config : TableConfig) (id other f m t : ℕ) (v u : View) → IsIdle v f m
    → IsIdle u (m + 1) t → f ≤ m → m < t → Merges good config id v other u (joined_view v u) spent_view
join_moves good config id other f m t v u i k low high =
    subst (λ (p : View × View). Merges good config id p.0 other p.1 (joined_view p.0 p.1) spent_view)
    (λ j. (record v { role = sym i.role j; held = sym i.held j }, record u { role = sym k.role j; held = sym k.held j }))
    (join_moves-plain good config id other f m t v u low (omega arith) i.idle)
