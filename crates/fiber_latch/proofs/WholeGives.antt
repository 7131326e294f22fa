-- The give of a whole latch.
use Rattle.std.proofs.Common.{drop, ◌≡◌, ℕ, List, [], ◌∷◌, sym, refl, ap, ◌∙◌, subst, Option, Some}
use mathlib.Core.Option.{none}
use Rattle.atomic_table.specs.Table.{Me, step}
use Rattle.fiber_latch.specs.Kinds.{GiveDoes, Steps}
use Rattle.dt_model.specs.declared.declared_tensors.Decls.{Decls}
use Rattle.dt_model.specs.Contents.{Contents}
use Rattle.fiber_latch.specs.declared.view.Mark.{Mark}
use Rattle.fiber_latch.specs.declared.view.Mark.TheVariants.{Parted}
use Rattle.fiber_latch.specs.declared.view.Hold.{Hold}
use Rattle.fiber_latch.specs.declared.view.TableConfig.{TableConfig}
use Rattle.fiber_latch.specs.declared.view.View.{View}
use Rattle.fiber_latch.specs.declared.rule.SlotValue.{SlotValue}
use Rattle.fiber_latch.specs.Views.{id_of, hold, pass_view}
use Rattle.fiber_latch.specs.Rule.{Good, GoodAt}
use Rattle.fiber_latch.specs.Steps.{mark_top, without_pass, top_pass, top_session, ReturnsLatch}
use Rattle.fiber_latch.specs.Conditions.{CanReturn}
use Rattle.fiber_latch.proofs.GiveKind.{give_moves}
use Rattle.atomic_table.specs.Table.{rest}

-- v and c are the view and the hand before the give; y lies in the slot, with the new pass
pub give_moves-after_release : {C : Type 0} (content : C → Contents) (sound : Decls → ℕ → C
    → Type 0) (config : TableConfig) (slots id l : ℕ) (v : View) (c : List (ℕ × Option (SlotValue C))) (m : Me (Option (SlotValue C)) View) (y : SlotValue C)
    → m ≡ (without_pass v, (l, Some y) ∷ rest c) → v.config ≡ config → CanReturn (GoodAt content sound) (v, c) l y.kept → y.pass.views ≡ top_pass v ∷ []
    → y.pass.table_id ≡ id_of v.table
    → Steps (Good content sound config) config slots id m l (λ _. 0) (ReturnsLatch (step slots l 0 0 none) m) (GiveDoes (top_session v) l m.0)
give_moves-after_release {C} content sound config slots id l v c m y is same_config can views table =
    let top : (without_pass v).held ≡ hold l (top_session v) (Parted v.seen) ∷ drop 1 v.held = ap (mark_top (Parted v.seen)) can.top in
    let top_is : top_pass v ≡ pass_view v.table config l v.seen = λ i. pass_view v.table (same_config i)
    (Rattle.fiber_latch.specs.Steps.top_latch (can.top i)) v.seen in
    subst (λ (n : Me (Option (SlotValue C)) View). Steps (Good content sound config) config slots id n l (λ _. 0) (ReturnsLatch (step slots l 0 0 none) n)
    (GiveDoes (top_session v) l n.0)) (sym is)
    (give_moves (Good content sound config) config slots id (top_session v) l (without_pass v) (drop 1 v.held) v.seen y (rest c) can.session top (views
    ∙ ap (λ (u : View). u ∷ []) top_is) table
    (subst (λ (z : TableConfig). Good content sound z v.seen l y.kept) same_config can.fits) can.idle)

drop-mark_top : (m : Mark) (hs : List Hold) → drop 1 (mark_top m hs) ≡ drop 1 hs
drop-mark_top m [] = refl
drop-mark_top m (h ∷ hs) = refl

-- the view and the hand after a whole give
pub give-view : {C : Type 0} (l : ℕ) (v : View) (c : List (ℕ × Option (SlotValue C))) (m m' : Me (Option (SlotValue C)) View) (y : SlotValue C)
    → m ≡ (without_pass v, (l, Some y) ∷ rest c) → m' ≡ (record m.0 { held = drop 1 m.0.held }, rest m.1)
    → m' ≡ (record v { held = drop 1 v.held }, rest c)
give-view {C} l v c m m' y is then = then ∙ ap (λ (n : Me (Option (SlotValue C)) View). (record n.0 { held = drop 1 n.0.held }, rest n.1)) is
    ∙ ap (λ (h : List Hold). (record v { held = h }, rest c)) (drop-mark_top (Parted v.seen) v.held)
