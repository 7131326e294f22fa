-- What stays true of the other latches and the other views over a step of one seat.
use Rattle.std.proofs.Common.{◌≡◌, ◌≢◌, ℕ, zero, suc, List, [], ◌∷◌, get_or, set, sym, refl, ap, ◌∙◌, subst, ⊎_elim, inl, inr}
use mathlib.Core.Logic.{dite}
use mathlib.Core.Option.{some, some-injective, some-ne-none}
use native.Mathlib.Decide.{ℕ_discrete}
use lib.ListN.{get_elem?}
use Rattle.atomic_table.proofs.Lists.{set_else}
use Rattle.dt_model.specs.declared.calls.Entry.{Entry}
use Rattle.fiber_latch.specs.declared.view.Mark.{Mark}
use Rattle.fiber_latch.specs.declared.view.Mark.TheVariants.{Opened, Taken, Kept, Parted}
use Rattle.fiber_latch.specs.declared.view.Hold.{Hold}
use Rattle.fiber_latch.specs.declared.view.Role.{Role}
use Rattle.fiber_latch.specs.declared.view.Role.TheVariants.{Spent, Pass, Sessions}
use Rattle.fiber_latch.specs.declared.view.TableConfig.{TableConfig}
use Rattle.fiber_latch.specs.declared.view.View.{View}
use Rattle.fiber_latch.specs.declared.view.TableName.{TableName}
use Rattle.fiber_latch.specs.declared.rule.Kept as kept
use Rattle.fiber_latch.specs.declared.rule.SlotValue.{SlotValue}
use Rattle.fiber_latch.specs.Views.{In, Owns, IsSession, IsLive}
use Rattle.fiber_latch.specs.Rule.{IsSoundView, Homes, IsAtHome, IsSlotAt, IsOut, IsSoundLatch}

-- one place has one value
pub one_at : {A : Type 0} (xs : List A) (j : ℕ) (a b : A) → get_elem? xs j ≡ some a → get_elem? xs j ≡ some b → a ≡ b
one_at xs j a b e f = some-injective a b (sym e ∙ f)

-- the value that was put is there
pub put_here : {A : Type 0} (xs : List A) (i : ℕ) (a b : A) → get_elem? xs i ≡ some a → get_elem? (set xs i b) i ≡ some b
put_here [] i a b e = absurd (some-ne-none a (sym e))
put_here (x ∷ xs) zero a b e = refl
put_here (x ∷ xs) (suc i) a b e = put_here xs i a b e

-- a session's view is no pass
pub no_pass : (v : View) (l : ℕ) → IsSession v.role → v.role ≡ Pass l → ⊥
no_pass v l s e = subst IsSession e s

-- a seat of sessions is live
pub session_lives : (r : Role) → IsSession r → IsLive r
session_lives Spent s = s
session_lives (Pass w) s = tt
session_lives (Sessions f t) s = tt

-- what owns a session is a seat of sessions
pub owner_is_session : (r : Role) (s : ℕ) → Owns r s → IsSession r
owner_is_session Spent s o = o
owner_is_session (Pass w) s o = o
owner_is_session (Sessions f t) s o = tt

-- a view that is not the seat's own stands where it stood
pub view_else : (views : List View) (id j : ℕ) (w u : View) → j ≢ id → get_elem? views j ≡ some u → get_elem? (set views id w) j ≡ some u
view_else views id j w u n e = set_else views id j w n ∙ e

-- the pass of a latch is another than a session's seat
pub pass_else : (views : List View) (id k l : ℕ) (v w u : View) → get_elem? views id ≡ some v → IsSession v.role → get_elem? views k ≡ some u
    → u.role ≡ Pass l → get_elem? (set views id w) k ≡ some u
pass_else views id k l v w u at s e p =
    view_else views id k w u (λ (same : k ≡ id). no_pass v l s (ap (λ (x : View). x.role) (one_at views id v u at (subst (λ (j : ℕ). get_elem? views j
    ≡ some u) same e)) ∙ p)) e

module _ {C : Type 0} (good : List Entry → ℕ → kept.Kept C → Type 0) (config : TableConfig) (owner : ℕ
    → ℕ) (k : ℕ) (words words' : List ℕ) (homes homes' : Homes C) (views : List View) (id : ℕ) (v w : View) (l : ℕ)
    (at : get_elem? views id ≡ some v) (session : IsSession v.role) (word : get_or words' l 0 ≡ get_or words l 0) (home : get_elem? homes' l
    ≡ get_elem? homes l) (session' : IsSession w.role) (keep : (h : Hold) → In h v.held → h.latch ≡ l → In h w.held) where
  hand_stays : (m : Mark) → IsSlotAt good config owner k words homes views l m → IsSlotAt good config owner k words' homes' (set views id w) l m
  hand_stays Opened h = home ∙ h
  hand_stays Kept h = home ∙ h
  hand_stays Taken h = (home ∙ h.0, (h.1.0, pass_else views id k l v w h.1.0 at session h.1.1 h.1.2, h.1.2))
  hand_stays (Parted p) h = (home ∙ h.0, (h.1.0, pass_else views id k l v w h.1.0 at session h.1.1 (ap (λ (x : View). x.role) h.1.2), h.1.2))

  out_stays : (n n' : ℕ) → n' ≡ n → (u : View) (h : Hold) → get_elem? views (owner n) ≡ some u → IsSession u.role → In h u.held → h.latch ≡ l
      → IsSlotAt good config owner k words homes views l h.mark
      → (u' : View) × (h' : Hold) × ((get_elem? (set views id w) (owner n') ≡ some u') × IsSession u'.role × In h' u'.held × (h'.latch ≡ l)
      × IsSlotAt good config owner k words' homes' (set views id w) l h'.mark)
  out_stays n n' same u h e su i latch hand = subst (λ (m : ℕ). (u' : View) × (h' : Hold)
      × ((get_elem? (set views id w) (owner m) ≡ some u') × IsSession u'.role × In h' u'.held × (h'.latch ≡ l)
      × IsSlotAt good config owner k words' homes' (set views id w) l h'.mark)) (sym same)
      (dite (ℕ_discrete (owner n) id)
      (λ (mine : owner n ≡ id).
      let is : u ≡ v = one_at views id u v (subst (λ (j : ℕ). get_elem? views j ≡ some u) mine e) at in (
        w,
        h,
        (
          subst (λ (j : ℕ). get_elem? (set views id w) j ≡ some w) (sym mine) (put_here views id v w at),
          session',
          keep h (subst (λ (x : View). In h x.held) is i) latch,
          latch,
          hand_stays h.mark hand,
        ),
      ))
      (λ (other : owner n ≢ id). (u, h, (view_else views id (owner n) w u other e, su, i, latch, hand_stays h.mark hand))))

  -- a step of one seat leaves what is true of a latch, where its word, its slot and the seat's listing stay
  pub latch_stays : IsSoundLatch good config owner k words homes views l → IsSoundLatch good config owner k words' homes' (set views id w) l
  latch_stays ok = ⊎_elim
      (λ (t : (get_or words l 0 ≡ 0) × ((y : SlotValue C) × (u : View) × IsAtHome good config owner k words homes views l y u)).
      let a = t.1.2 in inl (word ∙ t.0, (t.1.0, t.1.1, (home ∙ a.0, a.1, a.2, pass_else views id k l v w t.1.1 at session a.3 a.4, a.4, a.5))))
      (λ (t : (get_or words l 0 ≢ 0) × ((u : View) × (h : Hold) × IsOut good config owner k words homes views l u h)).
      let a = t.1.2 in inr (
        (λ (e : get_or words' l 0 ≡ 0). t.0 (sym word ∙ e)),
        out_stays (get_or words l 0) (get_or words' l 0) word t.1.0 t.1.1 a.0 a.1 a.2 a.3 a.4,
      ))
      ok

-- what one word's change leaves of a view
pub view_words : (config : TableConfig) (H : List Entry) (owner keeper : ℕ → ℕ) (words words' : List ℕ) (name : TableName) (id : ℕ) (u : View)
    → ((h : Hold) → In h u.held → get_or words' h.latch 0 ≡ get_or words h.latch 0) → IsSoundView config H owner keeper words name id u
    → IsSoundView config H owner keeper words' name id u
view_words config H owner keeper words words' name id u same ok = record {
  named = ok.named;
  same_config = ok.same_config;
  sees = ok.sees;
  mine = ok.mine;
  within = ok.within;
  keeps = ok.keeps;
  holds = λ h i. let x = ok.holds h i in (x.0, x.1, x.2, same h i ∙ x.3);
  descending = ok.descending;
  last_join = ok.last_join;
}
