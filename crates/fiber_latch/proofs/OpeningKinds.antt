-- The table is opened.
use Rattle.std.proofs.Common.{◌≡◌, ◌≢◌, ◌⊎◌, ℕ, zero, suc, ◌+◌, ◌<◌, ◌≤◌, List, [], ◌∷◌, length, get_or, set, sym, refl, ap, ◌∙◌, subst, ⊎_elim, inl, inr}
use Rattle.std.proofs.Common.{arith, Option, None, Bool, true, false, length-set}
use mathlib.Core.Logic.{dite}
use mathlib.Core.Option.{none, some, some-injective, some-ne-none}
use native.Mathlib.Decide.{ℕ_discrete}
use lib.ListN.{get_elem?}
use lib.Seq.{set-get_or}
use Rattle.atomic_table.specs.Table.{State, step, keeps, takes, opening}
use Rattle.fiber_latch.specs.Kinds.{NothingDone, Steps}
use Rattle.fiber_latch.specs.Rule.{machine_at}
use Rattle.atomic_table.proofs.Lists.{set_here, set_else}
use Rattle.dt_model.specs.declared.calls.Entry.{Entry}
use Rattle.fiber_latch.specs.declared.view.Mark.{Mark}
use Rattle.fiber_latch.specs.declared.view.Mark.TheVariants.{Opened, Kept}
use Rattle.fiber_latch.specs.declared.view.Hold.{Hold}
use Rattle.fiber_latch.specs.declared.view.Role.{Role}
use Rattle.fiber_latch.specs.declared.view.Role.TheVariants.{Spent, Pass, Sessions}
use Rattle.fiber_latch.specs.declared.view.TableConfig.{TableConfig}
use Rattle.fiber_latch.specs.declared.view.View.{View}
use Rattle.fiber_latch.specs.declared.view.TableName.{TableName}
use Rattle.fiber_latch.specs.declared.rule.Kept as kept
use Rattle.fiber_latch.specs.declared.rule.SlotValue.{SlotValue}
use Rattle.fiber_latch.specs.Views.{In, Owns, IsSession, IsLive, HasMark, IsKeptMark, IsKnownMark, IsDescending, hold}
use Rattle.fiber_latch.specs.Rule.{IsSoundView, IsAtHome, IsSlotAt, IsOut, KeepsRule}
use Rattle.fiber_latch.specs.Steps.{keep_if, keep_at, OpensSlot, LearnsTable}
use Rattle.fiber_latch.specs.Openings.{opened_up_to, first_view}
use Rattle.dt_model.specs.Tensors.{latch_count}
use Rattle.fiber_latch.proofs.LawfulHistories.{lawful_none}
use Rattle.fiber_latch.proofs.MachineLemmas.{run_stays, first_run}
use Rattle.fiber_latch.proofs.RuleLemmas.{latch_stays, put_here, one_at, session_lives}
use Rattle.fiber_latch.proofs.SeatSteps.{seat_step}
use Rattle.std.proofs.Common.{map, ◌==◌}
use Rattle.std.proofs.Common.{eq-eqb, ne_eqb}
use lib.ListN.{length-map}
use Rattle.fiber_latch.proofs.TakeKind.{no_join}
use Rattle.fiber_latch.proofs.SeatSteps.{seat_step, each_stays, alone_stays, owned_stays}

opened_in : (l n : ℕ) → l ≤ n → In (hold l 1 Opened) (opened_up_to n)
opened_in zero zero b = inl refl
opened_in (suc l) zero b = absurd (omega arith)
opened_in l (suc n) b = dite (ℕ_discrete l (suc n)) (λ e. inl (ap (λ (k : ℕ). hold k 1 Opened) e)) (λ (e : l ≢ suc n). inr (opened_in l n (omega arith)))

opened_holds : (n : ℕ) (h : Hold) → In h (opened_up_to n) → (h.latch ≤ n) × (h.session ≡ 1)
opened_holds zero h i = ⊎_elim (λ (e : h ≡ hold 0 1 Opened). subst (λ (x : Hold). (x.latch ≤ 0) × (x.session ≡ 1)) (sym e) (
  omega arith,
  refl,
)) (λ (x : ⊥). absurd x) i
opened_holds (suc n) h i = ⊎_elim (λ (e : h ≡ hold (suc n) 1 Opened). subst (λ (x : Hold). (x.latch ≤ suc n) × (x.session ≡ 1)) (sym e) (
  omega arith,
  refl,
)) (λ (x : In h (opened_up_to n)). let r = opened_holds n h x in let b = r.0 in (omega arith, r.1)) i

opened_falls : (n : ℕ) → IsDescending (opened_up_to n)
opened_falls zero = ((λ g i. absurd i), tt)
opened_falls (suc n) = ((λ g i. let r = opened_holds n g i in let b = r.0 in omega arith), opened_falls n)

kept_from : (l : ℕ) (hs : List Hold) (h : Hold) → In h (keep_at l hs)
    → (g : Hold) × In g hs × (h.latch ≡ g.latch) × (h.session ≡ g.session) × ((h ≡ g) ⊎ ((h.latch ≡ l) × (h.mark ≡ Kept)))
kept_from l [] h i = absurd i
kept_from l (x ∷ xs) h i = ⊎_elim
    (λ (e : h ≡ keep_if (x.latch == l) x). dite (ℕ_discrete x.latch l)
    (λ (q : x.latch ≡ l). let e' : h ≡ hold x.latch x.session Kept = e ∙ ap (λ (b : Bool). keep_if b x) (eq-eqb x.latch l q) in
    (x, inl refl, ap (λ (y : Hold). y.latch) e', ap (λ (y : Hold). y.session) e', inr (ap (λ (y : Hold). y.latch) e' ∙ q, ap (λ (y : Hold). y.mark) e')))
    (λ (q : x.latch ≢ l). let e' : h ≡ x = e ∙ ap (λ (b : Bool). keep_if b x) (ne_eqb x.latch l q) in (
      x,
      inl refl,
      ap (λ (y : Hold). y.latch) e',
      ap (λ (y : Hold). y.session) e',
      inl e',
    )))
    (λ (i' : In h (keep_at l xs)). let r = kept_from l xs h i' in (r.0, inr r.1, r.2, r.3, r.4)) i

keep_here : (l s : ℕ) (m : Mark) (hs : List Hold) → In (hold l s m) hs → In (hold l s Kept) (keep_at l hs)
keep_here l s m [] i = absurd i
keep_here l s m (x ∷ xs) i = ⊎_elim
    (λ (e : hold l s m ≡ x). inl (subst (λ (y : Hold). hold l s Kept
    ≡ keep_if (y.latch == l) y) e (sym (ap (λ (b : Bool). keep_if b (hold l s m)) (eq-eqb l l refl)))))
    (λ (i' : In (hold l s m) xs). inr (keep_here l s m xs i')) i

keep_other : (l : ℕ) (hs : List Hold) (h : Hold) → In h hs → h.latch ≢ l → In h (keep_at l hs)
keep_other l [] h i n = absurd i
keep_other l (x ∷ xs) h i n = ⊎_elim
    (λ (e : h ≡ x). inl (e ∙ sym (ap (λ (b : Bool). keep_if b x) (ne_eqb x.latch l (λ (q : x.latch ≡ l). n (ap (λ (y : Hold). y.latch) e ∙ q))))))
    (λ (i' : In h xs). inr (keep_other l xs h i' n)) i

keep_falls : (l : ℕ) (hs : List Hold) → IsDescending hs → IsDescending (keep_at l hs)
keep_falls l [] f = tt
keep_falls l (x ∷ xs) f = (
  (λ g i. let r = kept_from l xs g i in let b = f.0 r.0 r.1 in let e = r.2 in subst (λ (k : ℕ). g.latch < k) (same x (x.latch == l))
      (omega arith)),
  keep_falls l xs f.1,
)
  where
    same : (x : Hold) (b : Bool) → x.latch ≡ (keep_if b x).latch
    same x true = refl
    same x false = refl

marks_kept : (K : Mark → Type 0) (l s : ℕ) (r : Role) (hs : List Hold) (j : ℕ) → IsSession r → K Opened → In (hold l s Opened) hs
    → HasMark K r (keep_at l hs) j → HasMark K r hs j
marks_kept K l s Spent hs j x k o m = m
marks_kept K l s (Pass w) hs j x k o m = m
marks_kept K l s (Sessions f t) hs j x k o m = let g = kept_from l hs m.0 m.1 in ⊎_elim
    (λ (e : m.0 ≡ g.0). (g.0, g.1, sym g.2 ∙ m.2, subst (λ (y : Hold). K y.mark) e m.3))
    (λ (e : (m.0.latch ≡ l) × (m.0.mark ≡ Kept)). (hold l s Opened, o, sym e.0 ∙ m.2, k)) g.4

one_of : (hs : List Hold) (h g : Hold) → IsDescending hs → In h hs → In g hs → g.latch ≡ h.latch → g ≡ h
one_of [] h g f i j e = absurd i
one_of (x ∷ xs) h g f i j e = ⊎_elim
    (λ (p : h ≡ x). ⊎_elim (λ (q : g ≡ x). q ∙ sym p) (λ (q : In g xs). let b = f.0 g q in let c = ap (λ (y : Hold). y.latch) p in absurd (omega arith)) j)
    (λ (p : In h xs). ⊎_elim (λ (q : g ≡ x). let b = f.0 h p in let c = ap (λ (y : Hold). y.latch) q in absurd (omega arith))
    (λ (q : In g xs). one_of xs h g f.1 p q e) j) i

module _ {C : Type 0} (good : List Entry → ℕ → kept.Kept C → Type 0) (config : TableConfig) where
  out_at : (st : State (Option (SlotValue C)) View) (r : KeepsRule config good st) (id l s : ℕ) (m : Mark) (v : View) → get_elem? st.views id ≡ some v
      → IsSession v.role → In (hold l s m) v.held
      → IsSlotAt good config r.owner (r.keeper l) st.words st.homes st.views l m
  out_at st r id l s m v at session i =
      let ok = r.each_view id v at (session_lives v.role session) in
      let x = ok.holds (hold l s m) i in
      ⊎_elim
      (λ (t : (get_or st.words l 0 ≡ 0) × ((y : SlotValue C) × (u : View)
      × IsAtHome good config r.owner (r.keeper l) st.words st.homes st.views l y u)). let z = t.0 in let p = x.2 in let q = x.3 in absurd (omega arith))
      (λ (t : (get_or st.words l 0 ≢ 0) × ((u : View) × (h : Hold) × IsOut good config r.owner (r.keeper l) st.words st.homes st.views l u h)).
      let o = t.1.2 in
      let is : t.1.0 ≡ v = one_at st.views id t.1.0 v (subst (λ (j : ℕ). get_elem? st.views j ≡ some t.1.0) (ap r.owner x.3 ∙ ok.mine s x.1) o.0) at in
      subst (λ (z : Hold). IsSlotAt good config r.owner (r.keeper l) st.words st.homes st.views l z.mark)
      (one_of v.held (hold l s m) t.1.1 ok.descending i (subst (λ (z : View). In t.1.1 z.held) is o.2) o.3) o.4)
      (r.each_latch l x.0)

  -- the opened table keeps the rule
  pub starts : (words : List ℕ) (slots : List (Option (SlotValue C))) → 0 < config.sessions → length words ≡ config.end + 2
      → ((l : ℕ) → l ≤ config.end → get_or words l 0 ≡ 1) → get_or words (config.end + 1) 0 ≡ 0 → length slots ≡ config.end + 1
      → ((l : ℕ) → l ≤ config.end → get_elem? (map some slots) l ≡ some (some None)) → config.end ≡ latch_count config.world.decls
      → KeepsRule config good (opening words slots (first_view config))
  starts words slots some_session wide ones clock deep empty journal =
      let v : View = first_view config in record {
        history = [];
        owner = λ _. 0;
        keeper = λ _. 0;
        name = v.table;
        journal = journal;
        wide = wide;
        deep = length-map slots some ∙ deep;
        clock = clock;
        law = lawful_none config;
        run = first_run config words journal ones;
        each_view = λ id u e live. first id u e;
        owned = λ i a b. (v, (refl, (omega arith, b)));
        each_latch = λ l b. inr (
          (λ (e : get_or words l 0 ≡ 0). let o = ones l b in omega arith),
          (v, hold l 1 Opened, (refl, tt, opened_in l config.end b, refl, empty l b)),
        );
        alone = λ id u e f j u' e'. zero_only v j u' e' ∙ sym (zero_only v id u e);
      }
    where
      zero_only : (v : View) (j : ℕ) (u : View) → get_elem? (v ∷ []) j ≡ some u → j ≡ 0
      zero_only v zero u e = refl
      zero_only v (suc j) u e = absurd (some-ne-none u (sym e))

      first : (id : ℕ) (u : View) → get_elem? (first_view config ∷ []) id ≡ some u
          → IsSoundView config [] (λ _. 0) (λ _. 0) words (first_view config).table id u
      first zero u e = subst (IsSoundView config [] (λ _. 0) (λ _. 0) words (first_view config).table 0) (some-injective _ _ e) record {
        named = refl;
        same_config = refl;
        sees = ([], refl, λ d i. absurd i);
        mine = λ s o. refl;
        within = λ s o. let a = o.0 in (omega arith, o.1);
        keeps = λ l o. refl;
        holds = λ h i. let r = opened_holds config.end h i in let one = r.1 in (
          r.0,
          subst (λ (s : ℕ). (1 ≤ s) × (s ≤ config.sessions)) (sym r.1) (omega arith, omega arith),
          omega arith,
          ones h.latch r.0 ∙ sym r.1,
        );
        descending = opened_falls config.end;
        last_join = tt;
      }
      first (suc id) u e = absurd (some-ne-none u (sym e))

  -- learning the table's name leaves the machine
  pub learn_moves : (slots id : ℕ) (v : View) (z : TableName) (c : List (ℕ × Option (SlotValue C))) → IsSession v.role → v.fresh ≡ true → v.last_join ≡ None
      → Steps good config slots id (v, c) 0 (λ n. n) (LearnsTable z (step slots 0 0 0 none) (v, c)) (NothingDone v)
  learn_moves slots id v z c session fresh idle = record {
    goes = λ st r deep at small.
        let ok = r.each_view id v at (session_lives v.role session) in
        let w : View = record v { fresh = false; table = z } in
        let n : ℕ = get_or st.words 0 0 in
        let at_word : (j : ℕ) → get_or (set st.words 0 n) j 0 ≡ get_or st.words j 0 = λ j. ap (λ (ws : List ℕ). get_or ws j 0) (set-get_or st.words 0 0) in (
          w,
          keeps,
          tt,
          record {
            history = r.history;
            owner = r.owner;
            keeper = r.keeper;
            name = z;
            journal = r.journal;
            run = run_stays config st.words r.history r.run r.journal (set st.words 0 n) (set-get_or st.words 0 0);
            wide = length-set st.words 0 n ∙ r.wide;
            deep = r.deep;
            clock = at_word (config.end + 1) ∙ r.clock;
            law = r.law;
            each_view = each_stays (λ (j : ℕ) (u : View). IsLive u.role → IsSoundView config r.history r.owner r.keeper (set st.words 0 n) z j u) st.views id w
                (λ _. record {
                  named = refl;
                  same_config = ok.same_config;
                  sees = (ok.sees.0, ok.sees.1, λ e i. let f = ok.sees.2 e i in record { session = f.session; latch = f.latch });
                  mine = ok.mine;
                  within = ok.within;
                  keeps = ok.keeps;
                  holds = λ h i. let x = ok.holds h i in (x.0, x.1, x.2, at_word h.latch ∙ x.3);
                  descending = ok.descending;
                  last_join = no_join config w v.last_join idle;
                })
                (λ j u m e live. absurd (m (r.alone id v at fresh j u e)));
            owned = owned_stays st.views r.owner config.sessions id v w at refl r.owned;
            each_latch = λ l b. latch_stays good config r.owner (r.keeper l) st.words (set st.words 0 n) st.homes st.homes st.views id v w l at session
                (at_word l) refl session (λ h i _. i) (r.each_latch l b);
            alone = alone_stays st.views id v w at (λ (g : false ≡ true). absurd (cc g)) r.alone;
          },
          refl,
          record { machine = ap (λ (ws : List ℕ). machine_at config ws r.history) (set-get_or st.words 0 0); conflicts = refl },
        );
  }

  -- taking out an empty slot leaves the machine
  pub open_moves : (slots id s l : ℕ) (v : View) (c : List (ℕ × Option (SlotValue C))) → IsSession v.role → In (hold l s Opened) v.held → v.last_join ≡ None
      → Steps good config slots id (v, c) l (λ n. n) (OpensSlot (step slots l 0 0 none) (v, c)) (NothingDone v)
  open_moves slots id s l v c session opened idle = record {
    goes = λ st r deep_is at small.
        let ok = r.each_view id v at (session_lives v.role session) in
        let w : View = record v { held = keep_at l v.held } in
        let n : ℕ = get_or st.words l 0 in
        let at_word : (j : ℕ) → get_or (set st.words l n) j 0 ≡ get_or st.words j 0 = λ j. ap (λ (ws : List ℕ). get_or ws j 0) (set-get_or st.words l 0) in
        let x = ok.holds (hold l s Opened) opened in
        let deep : l < length st.homes = let y = r.deep in let z = x.0 in omega arith in
        let marked : (K : Mark → Type 0) → K Opened → (j : ℕ) → HasMark K v.role (keep_at l v.held) j
        → HasMark K v.role v.held j = λ K k j m. marks_kept K l s v.role v.held j session k opened m in
        let home : get_elem? st.homes l ≡ some (some None) = out_at st r id l s Opened v at session opened in
        let next = seat_step good config st r id l v w (set st.words l n) (set st.homes l none) at session refl (λ f. f) (length-set st.words l n)
        (length-set st.homes l none) (at_word (config.end + 1))
        (run_stays config st.words r.history r.run r.journal (set st.words l n) (set-get_or st.words l 0))
        record {
          named = ok.named;
          same_config = ok.same_config;
          sees = (
            ok.sees.0,
            ok.sees.1,
            λ e i. let f = ok.sees.2 e i in record
                { session = f.session; latch = λ j k. f.latch j (marked IsKnownMark tt j k) },
          );
          mine = ok.mine;
          within = ok.within;
          keeps = λ j k. ok.keeps j (marked IsKeptMark tt j k);
          holds = λ h i. let g = kept_from l v.held h i in let y = ok.holds g.0 g.1 in
              subst (λ (p : ℕ × ℕ). (p.0 ≤ config.end) × Owns v.role p.1 × (0 < p.1)
              × (get_or (set st.words l n) p.0 0 ≡ p.1)) (λ i. (sym g.2 i, sym g.3 i)) (y.0, y.1, y.2, at_word g.0.latch ∙ y.3);
          descending = keep_falls l v.held ok.descending;
          last_join = no_join config w v.last_join idle;
        }
        (λ j u' h n e ok' i. at_word h.latch)
        (λ j n. at_word j)
        (λ j n. set_else st.homes l j none n)
        (λ h i n. keep_other l v.held h i n)
        (λ _. inr (
          (λ (e : get_or (set st.words l n) l 0 ≡ 0). let p = x.2 in let q = x.3 in let a = at_word l in omega arith),
          (
            w,
            hold l s Kept,
            (
              subst (λ (j : ℕ). get_elem? (set st.views id w) j
                  ≡ some w) (sym (ap r.owner (at_word l ∙ x.3) ∙ ok.mine s x.1)) (put_here st.views id v w at),
              session,
              keep_here l s Opened v.held opened,
              refl,
              set_here st.homes l none deep,
            ),
          ),
        )) in (
          w,
          takes l None,
          home,
          next.0,
          refl,
          record { machine = λ i. machine_at config (set-get_or st.words l 0 i) (next.1 i); conflicts = refl },
        );
  }
