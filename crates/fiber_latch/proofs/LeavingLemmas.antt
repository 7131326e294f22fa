-- The slots of a closed table, as their values are taken out.
use Rattle.std.proofs.Common.{◌≡◌, ◌≢◌, ℕ, ◌+◌, ◌<◌, ◌≤◌, Bool, false, List, [], ◌∷◌, ◌++◌, length, get_or, set, sym, refl, ap, ◌∙◌, subst, arith, Option}
use Rattle.std.proofs.Common.{Some, IsTrue, length-append, get_or-set_other, get_or-set_same}
use mathlib.Core.Logic.{dite}
use mathlib.Core.Option.{some, some-injective}
use native.Mathlib.Decide.{ℕ_discrete}
use lib.ListN.{get_elem?}
use Rattle.atomic_table.specs.Table.{State}
use Rattle.dt_model.specs.declared.declared_tensors.Decls.{Decls}
use Rattle.dt_model.specs.Contents.{Contents}
use Rattle.dt_model.specs.JournalValue.{JournalValue}
use Rattle.fiber_latch.specs.declared.view.Role.TheVariants.{Sessions}
use Rattle.fiber_latch.specs.declared.view.TableConfig.{TableConfig}
use Rattle.fiber_latch.specs.declared.view.View.{View}
use Rattle.fiber_latch.specs.declared.rule.Kept as kept
use Rattle.fiber_latch.specs.declared.rule.Kept.TheVariants.{Fiber, Journal}
use Rattle.fiber_latch.specs.declared.rule.SlotValue.{SlotValue}
use Rattle.fiber_latch.specs.Rule.{KeepsRule, Good}
use Rattle.fiber_latch.specs.Leaving.{HasValue, HasAll, AreFromSlots}
use Rattle.fiber_latch.specs.Seats.{AreStores}
use Rattle.fiber_latch.proofs.ClosedTables.{closes}
use Rattle.std.proofs.Math.ListN.{get_or-append}
use Rattle.fiber_latch.proofs.LawfulHistories.{last_at}

-- ---- one value more

-- one slot has one value
pub the_same : {A : Type 0} (xs ys : List A) (l : ℕ) (a b : A) → ys ≡ xs → get_elem? xs l ≡ some a → get_elem? ys l ≡ some b → b ≡ a
the_same xs ys l a b same e f = some-injective b a (sym f ∙ ap (λ zs. get_elem? zs l) same ∙ e)

-- one store more is taken out
pub taken_more : {C : Type 0} (n : ℕ) (slots : List (Option (SlotValue C))) (stores : List C) (store : C) → AreFromSlots n slots stores
    → HasValue slots n (Fiber store) → AreFromSlots (n + 1) slots (stores ++ store ∷ [])
taken_more {C} n slots stores store t here = record {
  count = length-append stores (store ∷ []) ∙ ap (λ (k : ℕ). k + 1) t.count;
  each = λ l d b. dite (ℕ_discrete l n)
      (λ (q : l ≡ n). subst (λ (k : ℕ). HasValue slots k (Fiber (get_or (stores
      ++ store ∷ []) k d))) (sym q) (subst (λ (c : C). HasValue slots n (Fiber c)) (sym (last_at stores n store d t.count)) here))
      (λ (q : l ≢ n). subst (λ (c : C). HasValue slots l (Fiber c)) (sym (get_or-append stores (store ∷ []) d l (let e = t.count in omega arith)))
      (t.each l d (omega arith)));
}

-- one slot more is empty
pub left_more : (filled : List Bool) (l n : ℕ) → n ≡ length filled → l < n → ((k : ℕ) → k < l → get_or filled k false ≡ false) → (k : ℕ) → k < l + 1
    → get_or (set filled l false) k false ≡ false
left_more filled l n count inside left k b = dite (ℕ_discrete k l)
    (λ (q : k ≡ l). ap (λ (j : ℕ). get_or (set filled l false) j false) q ∙ get_or-set_same filled l false false (omega arith))
    (λ (q : k ≢ l). get_or-set_other filled l k false false q ∙ left k (omega arith))

-- the other slots are still full
pub full_less : (filled : List Bool) (l end : ℕ) → ((k : ℕ) → l ≤ k → k ≤ end → IsTrue (get_or filled k false)) → (k : ℕ) → l + 1 ≤ k → k ≤ end
    → IsTrue (get_or (set filled l false) k false)
full_less filled l end full k low high = subst IsTrue (sym (get_or-set_other filled l k false false (λ (q : k ≡ l). omega arith))) (full k (omega arith) high)

-- ---- the last state

module _ {C : Type 0} (content : C → Contents) (sound : Decls → ℕ → C → Type 0) (config : TableConfig) (st : State (Option (SlotValue C)) View)
    (r : KeepsRule config (Good content sound config) st) (id : ℕ) (v : View) (at : get_elem? st.views id ≡ some v)
    (role : v.role ≡ Sessions 1 config.sessions) (empty : v.held ≡ []) (slots : List (Option (SlotValue C))) (home : (k : ℕ) (y : Option (SlotValue C))
    → get_elem? st.homes k ≡ some (some y) → get_elem? slots k ≡ some y) where
  good_at : (l : ℕ) → l ≤ config.end → (y : kept.Kept C) × HasValue slots l y × Good content sound config v.seen l y
  good_at l b = let c = closes content sound config st r id v at role empty l b in (c.0.kept, (c.0, home l (Some c.0) c.1.0, refl), c.1.1)

  -- each slot of a closed table holds its value
  pub all_held : HasAll config.end slots
  all_held = record {
    fibers = λ l b. let g = good_at l (omega arith) in fiber l b g.0 g.1 g.2;
    journal = let g = good_at config.end (omega arith) in journal g.0 g.1 g.2;
  }
    where
      fiber : (l : ℕ) → l < config.end → (y : kept.Kept C) → HasValue slots l y → Good content sound config v.seen l y → (c : C) × HasValue slots l (Fiber c)
      fiber l b (Fiber c) h g = (c, h)
      fiber l b (Journal j) h g = let e = g.0 in absurd (omega arith)

      journal : (y : kept.Kept C) → HasValue slots config.end y → Good content sound config v.seen config.end y
          → (j : JournalValue) × HasValue slots config.end (Journal j)
      journal (Fiber c) h g = let e = g.0 in absurd (omega arith)
      journal (Journal j) h g = (j, h)

  -- a value in a slot is good for all that was seen
  good_in : (l : ℕ) → l ≤ config.end → (y : kept.Kept C) → HasValue slots l y → Good content sound config v.seen l y
  good_in l b y h =
      let g = good_at l b in
      let same : Some h.0 ≡ Some g.1.0 = the_same slots slots l (Some g.1.0) (Some h.0) refl g.1.1 h.1 in
      let one : h.0 ≡ g.1.0 = cc in
      subst (Good content sound config v.seen l) (sym g.1.2 ∙ ap (λ (z : SlotValue C). z.kept) (sym one) ∙ h.2) g.2

  -- the stores that are taken out are good for all that was seen
  pub stores_left : (stores : List C) → AreFromSlots config.end slots stores → AreStores content sound config v.seen stores
  stores_left stores t = record {
    count = t.count;
    each = λ l d b. let e = t.count in let g = good_in l (omega arith) (Fiber (get_or stores l d)) (t.each l d (omega arith)) in (g.1, g.2);
  }

  -- the journal that is taken out has all that was seen
  pub journal_left : (j : JournalValue) → HasValue slots config.end (Journal j) → j.entries ≡ v.seen
  journal_left j h = (good_in config.end (omega arith) (Journal j) h).1
