-- What callers see follows from the view.
use Rattle.std.proofs.Common.{drop, ◌≡◌, ℕ, ◌+◌, ◌<◌, ◌≤◌, List, [], ◌∷◌, sym, refl, ap, ◌∙◌, subst, ⊎_elim, inl, inr, arith, Option, None}
use Rattle.atomic_table.specs.Table.{Me}
use Rattle.dt_model.specs.declared.calls.Entry.{Entry}
use Rattle.fiber_latch.specs.declared.view.Mark.TheVariants.{Kept}
use Rattle.fiber_latch.specs.declared.view.Hold.{Hold}
use Rattle.fiber_latch.specs.declared.view.Role.{Role}
use Rattle.fiber_latch.specs.declared.view.Role.TheVariants.{Sessions}
use Rattle.fiber_latch.specs.declared.view.TableConfig.{TableConfig}
use Rattle.fiber_latch.specs.declared.view.View.{View}
use Rattle.fiber_latch.specs.declared.rule.Kept as kept
use Rattle.fiber_latch.specs.declared.rule.SlotValue.{SlotValue}
use Rattle.fiber_latch.specs.Views.{IsAboveAll, In, Owns, IsSession, HasMark, IsKeptMark, Touches, IsLawful, hold, name_of}
use Rattle.fiber_latch.specs.Rule.{IsJoinRecord, IsLastJoin}
use Rattle.fiber_latch.specs.Steps.{head_hold, lower_view, upper_view, low_part, high_part, joined_view, joined_role, without_join}
use Rattle.fiber_latch.specs.Conditions.{CanTry, TakesLatch, CanReturn, IsIdle}
use Rattle.fiber_latch.specs.Openings.{with_held, with_name, first_view}
use Rattle.std.proofs.Common.{Result, Ok, Err, IfOk}
use Rattle.fiber_latch.specs.Seats.{IsTaken, IsTop, HasJoined}
use Rattle.fiber_latch.specs.Sitting.{state_of, pairs, hands, KeepsAll, IsSeat}
use Rattle.fiber_latch.proofs.LawfulHistories.{lawful_none}
use Rattle.atomic_table.specs.Seated.{TableId}
use Rattle.atomic_table.specs.Table.{rest}
use Rattle.std.proofs.Common.{◌-◌}
use Rattle.fiber_latch.proofs.ViewsLemmas.{longer_is}

-- a listed latch is one that callers see
pub in_pairs : (h : Hold) (hs : List Hold) → In h hs → In (h.latch, h.session) (pairs hs)
in_pairs h [] i = i
in_pairs h (g ∷ hs) i = ⊎_elim (λ (e : h ≡ g). inl (ap (λ (x : Hold). (x.latch, x.session)) e)) (λ (i' : In h hs). inr (in_pairs h hs i')) i

-- a latch that callers see is listed
pub out_pairs : (p : ℕ × ℕ) (hs : List Hold) → In p (pairs hs) → (h : Hold) × In h hs × (p ≡ (h.latch, h.session))
out_pairs p [] i = absurd i
out_pairs p (g ∷ hs) i = ⊎_elim (λ (e : p ≡ (g.latch, g.session)). (g, inl refl, e)) (λ (i' : In p (pairs hs)). let r = out_pairs p hs i' in (
  r.0,
  inr r.1,
  r.2,
)) i

-- each latch of a seat between calls has the mark Kept
pub all_kept : (h : Hold) (hs : List Hold) → KeepsAll hs → In h hs → h.mark ≡ Kept
all_kept h [] k i = absurd i
all_kept h (g ∷ hs) k i = ⊎_elim (λ (e : h ≡ g). ap (λ (x : Hold). x.mark) e ∙ k.0) (λ (i' : In h hs). all_kept h hs k.1 i') i

kept_marks : (h : Hold) (hs : List Hold) (r : Role) (f t : ℕ) → r ≡ Sessions f t → KeepsAll hs → In h hs → HasMark IsKeptMark r hs h.latch
kept_marks h hs r f t is k i = subst (λ (x : Role). HasMark IsKeptMark x hs h.latch) (sym is) (h, i, refl, subst IsKeptMark (sym (all_kept h hs k i)) tt)

module _ {C : Type 0} (z : TableId) (f t : ℕ) (me : Me (Option (SlotValue C)) View) (sits : IsSeat z f t me) where
  -- a seat whose caller meets the clauses of a take may try the latch
  pub may_take : (s l : ℕ) → f ≤ s → s ≤ t → l ≤ me.0.config.end → IsAboveAll (λ (h : ℕ × ℕ). h.0) l (pairs me.0.held) → CanTry me.0 s l
  may_take s l low high inside above = record {
    owns = subst (λ (r : Role). Owns r s) (sym sits.role) (low, high);
    some_session = let x = sits.some_session in omega arith;
    inside = inside;
    above = λ h i. above (h.latch, h.session) (in_pairs h me.0.held i);
    idle = sits.idle;
  }

  -- what callers see of a whole take
  pub taken : (good : TableConfig → List Entry → ℕ → kept.Kept C → Type 0) (l s : ℕ) (y : kept.Kept C) (me' : Me (Option (SlotValue C)) View)
      → IsAboveAll (λ (h : ℕ × ℕ). h.0) l (pairs me.0.held) → TakesLatch good l s me y me' → IsTaken good l s (state_of z f t me.0) y (state_of z f t me'.0)
  taken good l s y me' above took =
      let w : View = record me.0 { held = hold l s Kept ∷ me.0.held; seen = took.seen } in
      subst (λ (m : Me (Option (SlotValue C)) View). IsTaken good l s (state_of z f t me.0) y (state_of z f t m.0)) (sym took.me_is) record {
        rest = refl;
        grown = (
          took.grown.0,
          took.grown.1,
          λ e i. let x = took.grown.2 e i in record {
            session = λ o. x.session (subst (λ (r : Role). Owns r e.turn.session) (sym sits.role) o);
            latch = λ k j. let h = out_pairs (k, j.0) me.0.held j.1 in
                let below : k < l = above (k, j.0) j.1 in
                let is : k ≡ h.0.latch = ap (λ (q : ℕ × ℕ). q.0) h.2 in
                subst (λ (n : ℕ). ¬ Touches me.0.config n e) (sym is) (x.latch h.0.latch (
                  (λ (same : h.0.latch ≡ l). absurd (omega arith)),
                  kept_marks h.0 me.0.held me.0.role f t sits.role sits.kept h.1,
                ));
          },
        );
        fits = took.fits;
      }

  -- a seat is one between calls again after a take
  pub seated_after : (good : TableConfig → List Entry → ℕ → kept.Kept C → Type 0) (l s : ℕ) (y : kept.Kept C) (me' : Me (Option (SlotValue C)) View)
      → TakesLatch good l s me y me' → IsSeat z f t me'
  seated_after good l s y me' took = subst (λ (m : Me (Option (SlotValue C)) View). IsSeat z f t m) (sym took.me_is) record {
    role = sits.role;
    some_session = sits.some_session;
    known = sits.known;
    idle = sits.idle;
    table = sits.table;
    within = sits.within;
    law = took.law;
    hand = ap (λ (c : List (ℕ × Option (SlotValue C))). (l, None) ∷ c) sits.hand;
    kept = (refl, sits.kept);
  }

-- what follows from what Ok means
pub ok_map : {A B : Type 0} {P Q : A → Type 0} (r : Result A B) → ((y : A) → P y → Q y) → IfOk r P → IfOk r Q
ok_map (Ok y) f p = f y p
ok_map (Err e) f p = p

top_of : (l : ℕ) (hs : List Hold) → KeepsAll hs → IsTop l (pairs hs) → hs ≡ hold l (head_hold hs).session Kept ∷ drop 1 hs
top_of l [] k i = absurd i
top_of l (h ∷ hs) k i = λ j. record { latch = i j; session = h.session; mark = k.0 j } ∷ hs

hand_of : {C : Type 0} (l : ℕ) (hs : List Hold) (c : List (ℕ × Option (SlotValue C))) → IsTop l (pairs hs) → c ≡ hands hs → c ≡ (l, None) ∷ rest c
hand_of l [] c i e = absurd i
hand_of {C} l (h ∷ hs) c i e = e ∙ (λ j. (i j, None) ∷ rest (sym e j))

-- a seat whose caller meets the clauses of a give may give the latch back
pub can_return : {C : Type 0} (z : TableId) (f t : ℕ) (me : Me (Option (SlotValue C)) View) (sits : IsSeat z f t me) (good : TableConfig → List Entry → ℕ
    → kept.Kept C → Type 0) (l : ℕ) (y : kept.Kept C) → IsTop l (pairs me.0.held) → good me.0.config me.0.seen l y → CanReturn good me l y
can_return z f t me sits good l y top fits = record {
  session = subst IsSession (sym sits.role) tt;
  top = top_of l me.0.held sits.kept top;
  hand = hand_of l me.0.held me.1 top sits.hand;
  known = sits.known;
  idle = sits.idle;
  fits = fits;
}

-- a seat between calls that holds nothing is idle
pub is_idle : {C : Type 0} (z : TableId) (f t : ℕ) (me : Me (Option (SlotValue C)) View) → IsSeat z f t me → pairs me.0.held ≡ [] → IsIdle me.0 f t
is_idle z f t me sits empty = record { role = sits.role; held = none_held me.0.held empty; idle = sits.idle; known = sits.known }
  where
    none_held : (hs : List Hold) → pairs hs ≡ [] → hs ≡ []
    none_held [] e = refl
    none_held (h ∷ hs) e = absurd (cc)

-- the lower part of a seat is a seat between calls
pub lower_sits : {C : Type 0} (z : TableId) (f t a : ℕ) (me : Me (Option (SlotValue C)) View) → IsSeat z f t me → a ≤ t
    → IsSeat z f (a - 1) (lower_view a me.0, me.1)
lower_sits z f t a me sits high = record {
  role = ap (low_part a) sits.role;
  some_session = sits.some_session;
  known = sits.known;
  idle = sits.idle;
  table = sits.table;
  within = let b = sits.within in omega arith;
  law = sits.law;
  hand = sits.hand;
  kept = sits.kept;
}

-- the upper part of a seat is a seat between calls
pub upper_sits : {C : Type 0} (z : TableId) (f t a : ℕ) (me : Me (Option (SlotValue C)) View) → IsSeat z f t me → f < a
    → IsSeat {C = C} z a t (upper_view a me.0, [])
upper_sits z f t a me sits low = record {
  role = ap (high_part a) sits.role;
  some_session = let x = sits.some_session in omega arith;
  known = sits.known;
  idle = refl;
  table = sits.table;
  within = sits.within;
  law = sits.law;
  hand = refl;
  kept = tt;
}

-- two seats that were joined are a seat between calls
pub joined_sits : {C : Type 0} (z : TableId) (f m t : ℕ) (me you : Me (Option (SlotValue C)) View) → IsSeat z f m me → you.0.role ≡ Sessions (m + 1) t
    → t ≤ me.0.config.sessions → IsLawful me.0.config (joined_view me.0 you.0).seen → IsSeat z f t (without_join (joined_view me.0 you.0), me.1)
joined_sits z f m t me you sits role within law = record {
  role = λ i. joined_role (sits.role i) (role i);
  some_session = sits.some_session;
  known = sits.known;
  idle = refl;
  table = sits.table;
  within = within;
  law = law;
  hand = sits.hand;
  kept = sits.kept;
}

-- what callers see of a join
pub has_joined : (z : TableId) (f m t : ℕ) (v u : View) → v.role ≡ Sessions f m → u.role ≡ Sessions (m + 1) t
    → IsLastJoin v.config (joined_view v u) (joined_view v u).last_join
    → HasJoined (state_of z f m v) (state_of z (m + 1) t u) (state_of z f t (without_join (joined_view v u)))
has_joined z f m t v u rv ru told =
    let w : View = joined_view v u in
    let o : IsJoinRecord v.config w (record { mine = v.seen; was = Sessions f m; theirs = u.seen; other = Sessions (m + 1) t }) =
    subst (λ (p : Role × Role). IsJoinRecord v.config w (record { mine = v.seen; was = p.0; theirs = u.seen; other = p.1 })) (λ i. (rv i, ru i)) told in
    record {
      rest = refl;
      one = (longer_is v.seen u.seen o.mine.0 o.theirs.0 (sym o.mine.1 ∙ o.theirs.1)).one;
      mine = o.mine;
      theirs = o.theirs;
    }

-- a seat that holds nothing has no slot in hand
pub no_hand : {C : Type 0} (z : TableId) (f t : ℕ) (me : Me (Option (SlotValue C)) View) → IsSeat z f t me → pairs me.0.held ≡ [] → me.1 ≡ []
no_hand {C} z f t me sits empty = let i = is_idle z f t me sits empty in sits.hand ∙ ap (hands {C = C}) i.held

-- the first seat of an open table is a seat between calls
pub first_sits : {C : Type 0} (config : TableConfig) (z : TableId) (me : Me (Option (SlotValue C)) View)
    → me ≡ (with_held (with_name (name_of z) (first_view config)) [], []) → IsSeat z 1 config.sessions me
first_sits {C} config z me is = subst (λ (m : Me (Option (SlotValue C)) View). IsSeat z 1 config.sessions m) (sym is) record
    { role = refl; some_session = omega arith; known = refl; idle = refl; table = refl; within = omega arith; law = lawful_none config; hand = refl; kept = tt }
