-- The words and slots of a new table.
use Rattle.std.proofs.lemmas.Bool.Decides.{nat_tests}
use Rattle.std.proofs.Common.{nat_lt, drop, ◌≡◌, ◌≢◌, ℕ, zero, suc, ◌+◌, ◌<◌, ◌≤◌, List, [], ◌∷◌, ◌++◌, length, get_or, sym, refl, ap, ◌∙◌, subst, inl, inr}
use Rattle.std.proofs.Common.{arith, Option, None, Bool, true, false}
use mathlib.Core.Logic.{dite}
use mathlib.Core.Option.{some}
use native.Mathlib.Decide.{ℕ_discrete}
use lib.ListN.{get_elem?}
use Rattle.atomic_table.specs.Table.{Me, opening, rest}
use Rattle.dt_model.specs.declared.calls.Entry.{Entry}
use Rattle.dt_model.specs.declared.declared_tensors.Decls.{Decls}
use Rattle.dt_model.specs.Contents.{Contents}
use Rattle.fiber_latch.specs.declared.view.Mark.TheVariants.{Opened}
use Rattle.fiber_latch.specs.declared.view.Hold.{Hold}
use Rattle.fiber_latch.specs.declared.view.TableConfig.{TableConfig}
use Rattle.fiber_latch.specs.declared.view.View.{View}
use Rattle.fiber_latch.specs.declared.view.TableName.{TableName}
use Rattle.fiber_latch.specs.declared.rule.Kept as kept
use Rattle.fiber_latch.specs.declared.rule.SlotValue.{SlotValue}
use Rattle.fiber_latch.specs.Views.{In, hold}
use Rattle.fiber_latch.specs.Rule.{KeepsRule, Good}
use Rattle.fiber_latch.specs.Steps.{keep_at, keep_if}
use Rattle.fiber_latch.specs.Conditions.{CanReturn}
use Rattle.fiber_latch.specs.Openings.{first_view, partly_opened, mark_if, kept_below, slots_below, opened_up_to, with_held, with_name, IsOpeningSeat}
use Rattle.dt_model.specs.Tensors.{latch_count}
use Rattle.std.proofs.Common.{map, replicate, ◌==◌, eq-eqb, ne_eqb}
use Rattle.fiber_latch.proofs.OpeningKinds.{starts}
use native.Mathlib.Decide.{dec_le}

abbrev row : ℕ → List ℕ
row n = replicate n 1 ++ 0 ∷ []

row_length : (n : ℕ) → length (row n) ≡ n + 1
row_length zero = refl
row_length (suc n) = let e = row_length n in omega arith

row_one : (n l : ℕ) → l < n → get_or (row n) l 0 ≡ 1
row_one zero l b = absurd (omega arith)
row_one (suc n) zero b = refl
row_one (suc n) (suc l) b = row_one n l (omega arith)

row_last : (n : ℕ) → get_or (row n) n 0 ≡ 0
row_last zero = refl
row_last (suc n) = row_last n

vacant_at : {A : Type 0} (n l : ℕ) (a : A) → l < n → get_elem? (map some (replicate n a)) l ≡ some (some a)
vacant_at zero l a b = absurd (omega arith)
vacant_at (suc n) zero a b = refl
vacant_at (suc n) (suc l) a b = vacant_at n l a (omega arith)

count_of : {A : Type 0} (n : ℕ) (a : A) → length (replicate n a) ≡ n
count_of zero a = refl
count_of (suc n) a = ap suc (count_of n a)

-- a table with each latch held for session 1 and each slot empty keeps the rule
pub starts-vacant : {C : Type 0} (content : C → Contents) (sound : Decls → ℕ → C → Type 0) (config : TableConfig) (words : List ℕ) → 0 < config.sessions
    → config.end ≡ latch_count config.world.decls → words ≡ row (config.end + 1)
    → KeepsRule config (Good content sound config) (opening words (replicate (config.end + 1) None) (first_view config))
starts-vacant {C} content sound config words sessions journal is =
    subst (λ (ws : List ℕ). KeepsRule config (Good content sound config) (opening ws (replicate (config.end + 1) None) (first_view config))) (sym is)
    (starts (Good content sound config) config (row (config.end + 1)) (replicate (config.end + 1) None) sessions
    (let e = row_length (config.end + 1) in omega arith) (λ l b. row_one (config.end + 1) l (omega arith)) (row_last (config.end + 1)) (count_of (config.end
    + 1) None) (λ l b. vacant_at (config.end + 1) l None (omega arith)) journal)

-- less is answered true
below_yes : (i l : ℕ) → i < l → nat_lt i l ≡ true
below_yes i l b = grind (arith, nat_tests)

-- not less is answered false
below_no : (i l : ℕ) → l ≤ i → nat_lt i l ≡ false
below_no i l b = grind (arith, nat_tests)

one_step : (l i : ℕ) → keep_if (i == l) (hold i 1 (mark_if (nat_lt i l))) ≡ hold i 1 (mark_if (nat_lt i (l + 1)))
one_step l i = dite (ℕ_discrete i l)
    (λ (e : i ≡ l). ap (λ (b : Bool). keep_if b (hold i 1 (mark_if (nat_lt i l)))) (eq-eqb i l e)
    ∙ ap (λ (b : Bool). hold i 1 (mark_if b)) (sym (below_yes i (l + 1) (omega arith))))
    (λ (n : i ≢ l). ap (λ (b : Bool). keep_if b (hold i 1 (mark_if (nat_lt i l)))) (ne_eqb i l n) ∙ ap (λ (b : Bool). hold i 1 (mark_if b))
    (dite (dec_le (suc i) l) (λ (y : suc i ≤ l). below_yes i l y ∙ sym (below_yes i (l + 1) (omega arith))) (λ (y : ¬ (suc i ≤ l)). below_no i l (omega arith)
    ∙ sym (below_no i (l + 1) (omega arith)))))

-- one slot more is taken out
pub keep_at-partly_opened : (l e : ℕ) → keep_at l (partly_opened l e) ≡ partly_opened (l + 1) e
keep_at-partly_opened l zero = λ i. one_step l 0 i ∷ []
keep_at-partly_opened l (suc e) = λ i. one_step l (suc e) i ∷ keep_at-partly_opened l e i

-- a latch that isn't taken out yet is listed as such
pub Contains-partly_opened : (l e : ℕ) → l ≤ e → In (hold l 1 Opened) (partly_opened l e)
Contains-partly_opened l zero b = dite (ℕ_discrete l 0)
    (λ (q : l ≡ 0). inl (subst (λ (k : ℕ). hold k 1 Opened ≡ hold 0 1 (mark_if (nat_lt 0 k))) (sym q)
    (ap (λ (x : Bool). hold 0 1 (mark_if x)) (sym (below_no 0 0 (omega arith)))))) (λ (q : l ≢ 0). absurd (omega arith))
Contains-partly_opened l (suc e) b = dite (ℕ_discrete l (suc e))
    (λ (q : l ≡ suc e). inl (subst (λ (k : ℕ). hold k 1 Opened ≡ hold (suc e) 1 (mark_if (nat_lt (suc e) k))) (sym q)
    (ap (λ (x : Bool). hold (suc e) 1 (mark_if x)) (sym (below_no (suc e) (suc e) (omega arith))))))
    (λ (q : l ≢ suc e). inr (Contains-partly_opened l e (omega arith)))

-- at first no slot is taken out
pub opened_up_to-none : (e : ℕ) → opened_up_to e ≡ partly_opened 0 e
opened_up_to-none zero = λ i. hold 0 1 (mark_if (sym (below_no 0 0 (omega arith)) i)) ∷ []
opened_up_to-none (suc e) = λ i. hold (suc e) 1 (mark_if (sym (below_no (suc e) 0 (omega arith)) i)) ∷ opened_up_to-none e i

-- at last each latch is kept
pub partly_opened-all : (m e : ℕ) → e ≤ m → partly_opened (m + 1) e ≡ kept_below (suc e)
partly_opened-all m zero b = λ i. hold 0 1 (mark_if (below_yes 0 (m + 1) (omega arith) i)) ∷ []
partly_opened-all m (suc e) b = λ i. hold (suc e) 1 (mark_if (below_yes (suc e) (m + 1) (omega arith) i)) ∷ partly_opened-all m e (omega arith) i

next_is : (l : ℕ) → suc l ≡ l + 1
next_is l = omega arith

-- one slot more is taken out
pub take_out-step : {C : Type 0} (v0 : View) (l e : ℕ) (m m' : Me (Option (SlotValue C)) View) → m ≡ (with_held v0 (partly_opened l e), slots_below l)
    → m' ≡ (record m.0 { held = keep_at l m.0.held }, (l, None) ∷ m.1)
    → m' ≡ (with_held v0 (partly_opened (l + 1) e), slots_below (l + 1))
take_out-step {C} v0 l e m m' is then =
    then ∙ ap (λ (n : Me (Option (SlotValue C)) View). (record n.0 { held = keep_at l n.0.held }, (l, None) ∷ n.1)) is
    ∙ (λ i. (with_held v0 (keep_at-partly_opened l e i), slots_below (next_is l i)))

-- the first seat may give back its greatest latch
pub can_give_at : {C : Type 0} (good : TableConfig → List Entry → ℕ → kept.Kept C
    → Type 0) (v0 : View) (config : TableConfig) (m n : ℕ) (me : Me (Option (SlotValue C)) View) (y : kept.Kept C) → IsOpeningSeat v0 config → me
    ≡ (with_held v0 (kept_below m), slots_below m) → m ≡ suc n → good v0.config v0.seen n y → CanReturn good me n y
can_give_at {C} good v0 config m n me y o is e fits = subst (λ (x : Me (Option (SlotValue C)) View). CanReturn good x n y) (sym (is
    ∙ (λ i. (with_held v0 (kept_below (e i)), slots_below (e i))))) record {
      session = o.session;
      top = refl;
      hand = refl;
      known = o.known;
      idle = o.idle;
      fits = fits;
    }

-- the first seat's list and hand after a give
pub give_back-step : {C : Type 0} (v0 : View) (m n : ℕ) (me me' : Me (Option (SlotValue C)) View) → me ≡ (with_held v0 (kept_below m), slots_below m)
    → m ≡ suc n → me' ≡ (record me.0 { held = drop 1 me.0.held }, rest me.1) → me' ≡ (with_held v0 (kept_below n), slots_below n)
give_back-step {C} v0 m n me me' is e then = then ∙ ap (λ (x : Me (Option (SlotValue C)) View). (record x.0 { held = drop 1 x.0.held }, rest x.1)) (is
    ∙ (λ i. (with_held v0 (kept_below (e i)), slots_below (e i))))

-- the first seat, as the slots are taken out and given back
pub opening_first : (config : TableConfig) (z : TableName) → IsOpeningSeat (with_name z (first_view config)) config
opening_first config z = record { session = tt; idle = refl; known = refl; same_config = refl }

-- the first seat before the first slot is taken out
pub none_out : {C : Type 0} (config : TableConfig) (z : TableName) (me : Me (Option (SlotValue C)) View) → me ≡ (with_name z (first_view config), [])
    → me ≡ (with_held me.0 (partly_opened 0 config.end), [])
none_out {C} config z me is = subst (λ (m : Me (Option (SlotValue C)) View). m
    ≡ (with_held m.0 (partly_opened 0 config.end), [])) (sym is) (λ i. (with_held (with_name z (first_view config)) (opened_up_to-none config.end i), []))

-- the first seat at any step of the opening
pub opening_at : {C : Type 0} (config : TableConfig) (z : TableName) (hs : List Hold) (c : List (ℕ
    × Option (SlotValue C))) (me : Me (Option (SlotValue C)) View) → me ≡ (with_held (with_name z (first_view config)) hs, c) → IsOpeningSeat me.0 config
opening_at {C} config z hs c me is = subst (λ (m : Me (Option (SlotValue C)) View). IsOpeningSeat m.0 config) (sym is) record
    { session = tt; idle = refl; known = refl; same_config = refl }

-- the first seat when each slot is taken out
pub all_out : {C : Type 0} (v0 : View) (end : ℕ) (me : Me (Option (SlotValue C)) View)
    → me ≡ (with_held v0 (partly_opened (end + 1) end), slots_below (end + 1)) → me ≡ (with_held me.0 (kept_below (end + 1)), slots_below (end + 1))
all_out {C} v0 end me is = subst (λ (m : Me (Option (SlotValue C)) View). m
    ≡ (
      with_held m.0 (kept_below (end + 1)),
      slots_below (end
          + 1),
    )) (sym is) (λ i. (with_held v0 ((partly_opened-all end end (omega arith) ∙ ap kept_below (next_is end)) i), slots_below (end + 1)))
