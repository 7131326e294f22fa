-- What a whole take tells.
use Rattle.std.proofs.Common.{◌≡◌, ℕ, ◌+◌, ◌≤◌, List, [], ◌∷◌, ◌++◌, length, ◌*◌, sym, refl, ap, ◌∙◌, subst, inl, inr, Option, Some, None, Bool, true, false}
use Rattle.std.proofs.lemmas.List.{append-nil, append_assoc}
use Rattle.atomic_table.specs.Table.{Me, rest}
use Rattle.dt_model.specs.declared.calls.Entry.{Entry}
use Rattle.dt_model.specs.declared.declared_tensors.Decls.{Decls}
use Rattle.dt_model.specs.Contents.{Contents}
use Rattle.fiber_latch.specs.declared.view.Mark.TheVariants.{Taken, Kept}
use Rattle.fiber_latch.specs.declared.view.Role.{Role}
use Rattle.fiber_latch.specs.declared.view.Role.TheVariants.{Pass}
use Rattle.fiber_latch.specs.declared.view.TableConfig.{TableConfig}
use Rattle.fiber_latch.specs.declared.view.View.{View}
use Rattle.fiber_latch.specs.declared.rule.Kept as kept
use Rattle.fiber_latch.specs.declared.rule.Kept.TheVariants.{Fiber, Journal}
use Rattle.fiber_latch.specs.declared.rule.SlotValue.{SlotValue}
use Rattle.fiber_latch.specs.Views.{In, Touches, IsLawful, IsSession, IsKeptMark, hold}
use Rattle.fiber_latch.specs.Rule.{IsJoinRecord, IsLastJoin, Good, GoodAt}
use Rattle.fiber_latch.specs.Steps.{listed, with_pass, without_join}
use Rattle.fiber_latch.specs.Conditions.{TakesLatch, the_view}
use Rattle.commit_core.proofs.MachineLemmas.{restricted_to-apart}
use Rattle.dt_model.specs.Latches.{needs}
use Rattle.dt_model.specs.Runs.{contents_after, restricted_to}
use Rattle.fiber_latch.proofs.ViewsLemmas.{none_in}
use Rattle.fiber_latch.proofs.GiveKind.{marks_more}

untouched : (config : TableConfig) (l : ℕ) (e : Entry) → ¬ Touches config l e → needs config.world.decls e.call l ≡ false
untouched config l e n = go (needs config.world.decls e.call l) refl
  where
    go : (b : Bool) → needs config.world.decls e.call l ≡ b → b ≡ false
    go true is = absurd (n (inr is))
    go false is = refl

-- entries that don't touch a latch leave its cells
pub cut_past : (config : TableConfig) (l : ℕ) (p q : List Entry) → ((e : Entry) → In e q → ¬ Touches config l e)
    → restricted_to config.world.decls (contents_after config.world (p ++ q)) l ≡ restricted_to config.world.decls (contents_after config.world p) l
cut_past config l p [] n = ap (λ (H : List Entry). restricted_to config.world.decls (contents_after config.world H) l) (append-nil p)
cut_past config l p (e ∷ es) n =
    ap (λ (H : List Entry). restricted_to config.world.decls (contents_after config.world H) l) (sym (append_assoc p (e ∷ []) es))
    ∙ cut_past config l (p ++ e ∷ []) es (λ d i. n d (inr i))
    ∙ restricted_to-apart config.world l p e (untouched config l e (n e (inl refl)))

-- what is good stays so while no entry touches the latch
pub good_past : {C : Type 0} (content : C → Contents) (sound : Decls → ℕ → C → Type 0) (config : TableConfig) (l : ℕ) (p q : List Entry) (y : kept.Kept C)
    → ((e : Entry) → In e q → ¬ Touches config l e) → Good content sound config p l y → Good content sound config (p ++ q) l y
good_past content sound config l p q (Fiber c) n g = (g.0, g.1, g.2 ∙ sym (cut_past config l p q n))
good_past content sound config l p q (Journal j) n g =
    let same : p ≡ p ++ q = sym (append-nil p) ∙ ap (λ (z : List Entry). p ++ z) (sym (none_in q (λ e i. n e i (inl g.0)))) in
    (g.0, g.1 ∙ same, subst (λ (z : List Entry). config.sessions * config.calls ≤ length z + j.spare) same g.2)

module _ {C : Type 0} (content : C → Contents) (sound : Decls → ℕ → C
    → Type 0) (l s : ℕ) (v u : View) (c : List (ℕ × Option (SlotValue C))) (y : kept.Kept C) (pass : u.role
    ≡ Pass l) (session : IsSession v.role) (idle : v.last_join ≡ None) (fits : GoodAt content sound v.config u.seen l y) where
  abbrev w0 : View
  w0 = listed v l s Taken v.held

  abbrev w : View
  w = with_pass w0 u

  -- a take, once its pass is absorbed and a word was read
  pub TakesLatch-pass : IsLastJoin w.config w w.last_join × IsLawful w.config w.seen
      → TakesLatch (GoodAt content sound) l s (v, c) y (without_join w, (l, None) ∷ c)
  TakesLatch-pass both =
      let told = both.0 in
      let o : IsJoinRecord w.config w (record { mine = v.seen; was = v.role; theirs = u.seen; other = Pass l }) = subst
      (λ (z : Role). IsJoinRecord w.config w (record { mine = v.seen; was = v.role; theirs = u.seen; other = z })) pass told in
      record {
        seen = w.seen;
        me_is = λ i. (record v { held = hold l s Kept ∷ v.held; seen = w.seen; last_join = sym idle i }, (l, None) ∷ c);
        grown = (
          o.mine.0,
          o.mine.1,
          λ e i. let m = o.mine.2 e i in record {
            session = m.session;
            latch = λ j k. m.latch j (
              k.0,
              marks_more IsKeptMark v.role (hold l s Kept) v.held j k.1,
            );
          },
        );
        law = both.1;
        fits = subst (λ (z : List Entry). GoodAt content sound v.config z l y) (sym o.theirs.1)
            (good_past content sound v.config l u.seen o.theirs.0 y o.theirs.2 fits);
      }

the_slot : {C : Type 0} → SlotValue C → List (ℕ × Option (SlotValue C)) → SlotValue C
the_slot d [] = d
the_slot d ((k, Some y) ∷ xs) = y
the_slot d ((k, None) ∷ xs) = d

-- the whole take, put together from its steps
pub TakesLatch-steps : {C : Type 0} (content : C → Contents) (sound : Decls → ℕ → C
    → Type 0) (l s : ℕ) (v u : View) (c : List (ℕ × Option (SlotValue C))) (m1 m2 m3 : Me (Option (SlotValue C)) View) (y x : SlotValue C) → IsSession v.role
    → v.last_join ≡ None
    → m1 ≡ (listed v l s Taken v.held, (l, Some y) ∷ c) → y.pass.views ≡ u ∷ [] → u.role ≡ Pass l → GoodAt content sound v.config u.seen l y.kept
    → m1.1 ≡ (l, Some x) ∷ rest m1.1 → m2 ≡ (m1.0, (l, None) ∷ rest m1.1)
    → m3 ≡ (without_join (with_pass m2.0 (the_view x.pass.views)), m2.1)
    → (let w = with_pass m2.0 (the_view x.pass.views) in IsLastJoin w.config w w.last_join × IsLawful w.config w.seen)
    → TakesLatch (GoodAt content sound) l s (v, c) x.kept m3
unfolding the_slot
TakesLatch-steps {C} content sound l s v u c m1 m2 m3 y x session idle t views role fits was e2 e3 told =
    let hand : m1.1 ≡ (l, Some y) ∷ c = ap (λ (m : Me (Option (SlotValue C)) View). m.1) t in
    let same : y ≡ x = ap (the_slot y) (sym hand ∙ was) in
    let e2' : m2 ≡ (listed v l s Taken v.held, (l, None) ∷ c) = e2 ∙ ap (λ (m : Me (Option (SlotValue C)) View). (m.0, (l, None) ∷ rest m.1)) t in
    let eu : the_view x.pass.views ≡ u = ap (λ (z : SlotValue C). the_view z.pass.views) (sym same) ∙ ap the_view views in
    let told' = subst (λ (p : View × View). (let w = with_pass p.0 p.1 in IsLastJoin w.config w w.last_join × IsLawful w.config w.seen)) (λ i. (
      (e2' i).0,
      eu i,
    )) told in
    let e3' : m3 ≡ (without_join (with_pass (listed v l s Taken v.held) u), (l, None) ∷ c) = e3
    ∙ (λ i. (without_join (with_pass (e2' i).0 (eu i)), (e2' i).1)) in
    subst (λ (p : kept.Kept C × Me (Option (SlotValue C)) View). TakesLatch (GoodAt content sound) l s (v, c) p.0 p.1) (λ i. ((same i).kept, sym e3' i))
    (TakesLatch-pass content sound l s v u c y.kept role session idle fits told')

-- what lies in a hand is what was put there
pub same_value : {C : Type 0} (l : ℕ) (y x : SlotValue C) (c m : List (ℕ × Option (SlotValue C))) → m ≡ (l, Some y) ∷ c → m ≡ (l, Some x) ∷ rest m → y ≡ x
unfolding the_slot
same_value l y x c m a b = ap (the_slot y) (sym a ∙ b)
