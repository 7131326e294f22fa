-- The tests' stores are those of their latches, at first and after each call.
use Rattle.std.proofs.Common.{◌≡◌, ℕ, ◌+◌, ◌-◌, ◌/◌, ◌%◌, ◌^◌, ◌<◌, ◌≤◌, ◌==◌, Bool, true, false, List, [], ◌∷◌, ◌++◌, length, refl, sym, ap, ◌∙◌, subst}
use Rattle.std.proofs.Common.{arith, if◌then◌else◌, inl, Result, Ok, Err, OnOk}
use Rattle.dt_model.specs.declared.calls.Entry.{Entry}
use Rattle.dt_model.specs.declared.calls.Call.{Call}
use Rattle.dt_model.specs.declared.declared_tensors.Decls.{Decls}
use Rattle.dt_model.specs.declared.replies.World.{World}
use Rattle.dt_model.specs.Contents.{Contents, no_cells, with_more}
use Rattle.dt_model.specs.Runs.{base_of, contents_after, restricted_to, after_call}
use Rattle.dt_model.specs.Tensors.{latch_of, latch_count}
use Rattle.commit_core.proofs.MachineLemmas.{restricted_to-agree, Agree-restricted_to, Agree-after_call}
use Rattle.dt_model.proofs.RunsLemmas.{contents_after-push}
use Rattle.fiber_latch.specs.declared.view.TableConfig.{TableConfig}
use Rattle.fiber_latch.specs.declared.rule.Kept as kept
use Rattle.fiber_latch.specs.declared.rule.Kept.TheVariants.{Fiber}
use Rattle.fiber_latch.specs.Seats.{IsTaken, without_top, SeatState, TableState, IsTakenAfterTries, AreStores, config_for, last_number}
use Rattle.fiber_latch.specs.Trial.{IsFree, found, cell_in, content_of, HasPut, IsTrial, AreNew, IsUnused, IsResting, IsDone, adding, trial_decls}
use Rattle.fiber_latch.specs.TrialGood.{IsGood}
use Rattle.fiber_latch.proofs.SeatsLemmas.{taken_number, taken_first, taken_last, taken_keeps, taken_fits, taken_held}
use Rattle.fiber_latch.proofs.TrialLemmas.{content_put, restricted_to-with_more}

nothing : (t : ℕ) (c : List ℕ) → content_of [] t c ≡ 0
nothing t c = go (t == 0) c
  where
    go : (b : Bool) (c : List ℕ) → (if b then cell_in [] c else 0) ≡ 0
    go true [] = refl
    go true (x ∷ []) = refl
    go true (x ∷ y ∷ ys) = refl
    go false c = refl

no_cut : (d : Decls) (l t : ℕ) (c : List ℕ) → restricted_to d no_cells l t c ≡ 0
no_cut d l t c = go (latch_of d t c == l)
  where
    go : (b : Bool) → ◌≡◌ {A = ℕ} (if b then no_cells t c else 0) 0
    go true = refl
    go false = refl

zero_plus : (n : ℕ) → 0 + n ≡ n
zero_plus n = omega arith

-- what Ok means, of an Ok
pub on_ok : {A B P : Type 0} (r : Result A B) (a : A) → r ≡ Ok a → OnOk r P → P
on_ok (Ok x) a e p = p
on_ok (Err x) a e p = absurd (cc)

module _ {A : Type 0} (latch : A → ℕ) (cells : A → List (ℕ × ℕ)) where
  -- new stores are those of the world with nothing loaded
  pub new_stores : (w : World) (n l k c : ℕ) → IsTrial n l w → (stores : List A) → length stores ≡ l → AreNew latch cells stores
      → AreStores (λ s. content_of (cells s)) (λ _ l s. latch s ≡ l) (config_for w k c) [] stores
  new_stores w n l k c trial stores count new = record {
    count = count ∙ sym (ap (λ (x : World). latch_count x.decls) trial.is ∙ only l);
    each = λ i d b. (
      new.latches i d b,
      ap content_of (new.empty i d b) ∙ (λ j t c. (nothing t c ∙ sym (no_cut w.decls i t c)) j)
          ∙ ap (λ (m : Contents). restricted_to w.decls m i) (sym (ap base_of trial.is)),
    );
  }
    where
      only : (l : ℕ) → latch_count (trial_decls n l) ≡ l
      only l = omega arith

  -- a store is good again after one is added and the entry committed
  pub good_added : (config : TableConfig) (seen : List Entry) (e : Entry) (x : ℕ) (old new : A) → IsTrial 128 64 config.world → e.call ≡ adding x
      → IsGood latch cells config seen (x / 2) (Fiber old) → latch new ≡ latch old
      → HasPut x ((found (cells old) x + 1) % 2 ^ 64) (cells old) (cells new) → IsGood latch cells config (seen ++ e ∷ []) (x / 2) (Fiber new)
  good_added config seen e x old new trial call good same put =
      let d : Decls = config.world.decls in
      let m : Contents = contents_after config.world seen in
      let here : latch_of d 0 (x ∷ []) ≡ x / 2 = ap (λ (w : World). latch_of w.decls 0 (x ∷ [])) trial.is ∙ zero_plus (x / 2) in (
        good.0,
        same ∙ good.1,
        content_put (cells old) (cells new) x 1 put
            ∙ ap (λ (k : Contents). with_more k 0 (x ∷ []) 1) good.2
            ∙ sym (restricted_to-with_more d m (x / 2) 0 (x ∷ []) 1 here)
            ∙ restricted_to-agree d (x / 2) (after_call (restricted_to d m (x / 2)) (adding x)) (after_call m (adding x))
            (Agree-after_call d (x / 2) (restricted_to d m (x / 2)) m (adding x) (Agree-restricted_to d (x / 2) m))
            ∙ ap (λ (k : Call). restricted_to d (after_call m k) (x / 2)) (sym call)
            ∙ ap (λ (k : Contents). restricted_to d k (x / 2)) (sym (contents_after-push config.world seen e)),
      )

  -- ---- two takes

  module _ (l m s t : ℕ) (old mid new : SeatState) (y z : kept.Kept A) (one : IsTakenAfterTries (IsGood latch cells) l s old y mid)
      (two : IsTakenAfterTries (IsGood latch cells) m t mid z new) where
    abbrev content : A → Contents
    content s = content_of (cells s)

    abbrev sound : Decls → ℕ → A → Type 0
    sound d l s = latch s ≡ l

    -- the first of two values is still good after the second take
    pub twice_good : IsGood latch cells new.config new.seen l y
    twice_good = taken_keeps content sound m t mid new z two (l, s) y
        (subst (Rattle.fiber_latch.specs.Views.In (l, s)) (sym (taken_held content sound l s old mid y one)) (inl refl))
        (taken_fits content sound l s old mid y one)

    -- two takes leave the session's last number
    pub twice_number : old.first ≤ old.last → last_number new.first new.seen ≡ last_number old.first old.seen
    twice_number order =
        let f1 = taken_first content sound l s old mid y one in
        let t1 = taken_last content sound l s old mid y one in
        let f2 = taken_first content sound m t mid new z two in
        ap (λ (n : ℕ). last_number n new.seen) (f2 ∙ f1)
        ∙ taken_number content sound m t mid new z two old.first (omega arith) (omega arith)
        ∙ taken_number content sound l s old mid y one old.first (omega arith) order

-- ---- seats between their calls

-- a seat of one unused session has made no call
pub unused_rests : (table : TableState) (n : ℕ) (s : SeatState) → IsUnused table n n s → IsResting table 0 s
unused_rests table n s u = record {
  of = u.of;
  world = u.world;
  end = u.end;
  order = let a = u.first in let b = u.last in omega arith;
  free = u.free;
  calls = subst (λ (k : ℕ). last_number k s.seen ≡ 0) (sym u.first) (u.number n (omega arith) (omega arith));
}

-- after its last call a seat is done
pub rests_done : (table : TableState) (n f t : ℕ) (s : SeatState) → IsResting table n s → s.first ≡ f → s.last ≡ t → IsDone table f t s
rests_done table n f t s r first last = record { of = r.of; first = first; last = last; free = r.free }

-- the two halves of a seat, before any call
pub lower_unused : (table : TableState) (f t a : ℕ) (s : SeatState) → IsUnused table f t s → a ≤ t → f < a
    → IsUnused table f (a - 1) (record s { last = a - 1 })
lower_unused table f t a s u high low = record
    { of = u.of; world = u.world; end = u.end; first = u.first; last = refl; free = u.free; number = λ n x y. u.number n x (omega arith) }

-- the upper half of an unused seat is unused
pub upper_unused : (table : TableState) (f t a : ℕ) (s : SeatState) → IsUnused table f t s → f < a → IsUnused table a t (record s { first = a; conflicts = [] })
upper_unused table f t a s u low = record
    { of = u.of; world = u.world; end = u.end; first = refl; last = u.last; free = u.free; number = λ n x y. u.number n (omega arith) y }

-- a free seat is free again once it gave back the one latch that it took
pub free_again : {C : Type 0} (good : TableConfig → List Entry → ℕ → kept.Kept C
    → Type 0) (l s : ℕ) (table : TableState) (old mid new : SeatState) (y : kept.Kept C) → IsFree table old → IsTaken good l s old y mid → new
    ≡ without_top mid → IsFree table new
free_again good l s table old mid new y free taken given =
    subst (IsFree table) (sym given) (subst (λ (m : SeatState). IsFree table (without_top m)) (sym taken.rest) record
    { of = free.of; order = free.order; free = free.free })
