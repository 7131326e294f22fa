-- A list of latches in hand: what it lists, and how it grows and shrinks.
use Rattle.std.proofs.Common.{◌≡◌, ℕ, ◌<◌, ◌≤◌, ◌+◌, ◌⊎◌, List, [], ◌∷◌, ◌++◌, IsTrue, sym, refl, ap, ◌∙◌, subst, inl, inr, ⊎_elim, arith, fold, drop, take, length, get_or, zero, suc}
use Rattle.std.proofs.lemmas.Bool.{cases_lt}
use Rattle.std.proofs.lemmas.List.{take_more}
use Rattle.dt_model.specs.declared.calls.Call.{Call}
use Rattle.dt_model.specs.declared.calls.Entry.{Entry}
use Rattle.dt_model.specs.declared.calls.Update.{Update}
use Rattle.dt_model.specs.declared.declared_tensors.Decls.{Decls}
use Rattle.dt_model.specs.Contents.{Contents, with_updates}
use Rattle.dt_model.specs.Latches.{needs}
use Rattle.dt_model.specs.Runs.{contents_after, restricted_to}
use Rattle.fiber_latch.specs.declared.view.TableConfig.{TableConfig}
use Rattle.fiber_latch.specs.declared.rule.Kept.TheVariants.{Fiber}
use Rattle.fiber_latch.specs.Views.{In, Extends}
use Rattle.fiber_latch.specs.Rule.{GoodAt}
use Rattle.fiber_latch.specs.Seats.{SeatState, IsTaken, without_top}
use Rattle.fiber_latch.proofs.ViewsLemmas.{in_append, in_left, in_right}
use Rattle.fiber_latch.proofs.SeatsLemmas.{good_stays}
use Rattle.fiber_store.specs.Stores.{own}
use Rattle.sessions.specs.declared.hands.Hand.{Hand}
use Rattle.sessions.specs.Calling.{GoesOn}
use Rattle.sessions.specs.Entering.{IsForeign, IsAboveHeld}
use Rattle.sessions.specs.Holding.{listed, Holds, AreDue, IsDue, IsReady, IsAsBefore, IsOnlyNoted}
use Rattle.sessions.proofs.CallingLemmas.{GoesOn-more, GoesOn-none, GoesOn-by, GoesOn-seen, Extends-none, Extends-conflicts}
use Rattle.sessions.proofs.OwnUpdates.{own_restricted}

module _ {C : Type 0} (s : ℕ) where
  abbrev put : List (ℕ × ℕ) → Hand C → List (ℕ × ℕ)
  put hs h = (h.latch, s) ∷ hs

  in_longer : (p : ℕ × ℕ) (acc : List (ℕ × ℕ)) (hands : List (Hand C)) → In p acc → In p (fold put acc hands)
  in_longer p acc [] i = i
  in_longer p acc (h ∷ hs) i = in_longer p (put acc h) hs (inr i)

  in_fold : (acc : List (ℕ × ℕ)) (h : Hand C) (hands : List (Hand C)) → In h hands → In (h.latch, s) (fold put acc hands)
  in_fold acc h [] i = elim i [ ]
  in_fold acc h (x ∷ xs) i = ⊎_elim
      (λ (e : h ≡ x). in_longer (h.latch, s) (put acc x) xs (inl (ap (λ (y : Hand C). (y.latch, s)) e)))
      (λ (j : In h xs). in_fold (put acc x) h xs j)
      i

  -- a hand's latch is listed
  pub in_listed : (h : Hand C) (hands : List (Hand C)) → In h hands → In (h.latch, s) (listed s hands)
  in_listed h hands i = in_fold [] h hands i

  of_fold : (p : ℕ × ℕ) (acc : List (ℕ × ℕ)) (hands : List (Hand C)) → In p (fold put acc hands) → In p acc ⊎ ((h : Hand C) × (In h hands
      × (p ≡ (h.latch, s))))
  of_fold p acc [] i = inl i
  of_fold p acc (x ∷ xs) i = ⊎_elim
      (λ (a : In p (put acc x)). ⊎_elim (λ (e : p ≡ (x.latch, s)). inr (x, (inl refl, e))) (λ (b : In p acc). inl b) a)
      (λ (a : (h : Hand C) × (In h xs × (p ≡ (h.latch, s)))). inr (a.0, (inr a.1.0, a.1.1)))
      (of_fold p (put acc x) xs i)

  -- what is listed is some hand's latch
  pub of_listed : (p : ℕ × ℕ) (hands : List (Hand C)) → In p (listed s hands) → (h : Hand C) × (In h hands × (p ≡ (h.latch, s)))
  of_listed p hands i = ⊎_elim (λ (a : ⊥). absurd a) (λ (a : (h : Hand C) × (In h hands × (p ≡ (h.latch, s)))). a) (of_fold p [] hands i)

  fold_push : (acc : List (ℕ × ℕ)) (hands : List (Hand C)) (h : Hand C) → fold put acc (hands ++ h ∷ []) ≡ put (fold put acc hands) h
  fold_push acc [] h = refl
  fold_push acc (x ∷ xs) h = fold_push (put acc x) xs h

  -- a hand more is listed in front
  pub listed-push : (hands : List (Hand C)) (h : Hand C) → listed s (hands ++ h ∷ []) ≡ (h.latch, s) ∷ listed s hands
  listed-push hands h = fold_push [] hands h

in_push : {A : Type 0} (a x : A) (xs : List A) → In a (xs ++ x ∷ []) → In a xs ⊎ (a ≡ x)
in_push a x xs i = ⊎_elim (λ (j : In a xs). inl j) (λ (j : In a (x ∷ [])). inr (⊎_elim (λ (e : a ≡ x). e) (λ (b : ⊥). absurd b) j)) (in_append a xs (x ∷ []) i)

-- what stands at an index is an element
pub in_at : {A : Type 0} (xs : List A) (i : ℕ) (a : A) → i < length xs → In (get_or xs i a) xs
in_at [] i a l = absurd (omega arith)
in_at (x ∷ xs) zero a l = inl refl
in_at (x ∷ xs) (suc i) a l = inr (in_at xs i a (omega arith))

-- what holds of all before an index, and there, holds of all up to it
pub all_taken : {A : Type 0} (P : A → Type 0) (xs : List A) (i : ℕ) (a : A) → i < length xs → a ≡ get_or xs i a → ((h : A) → In h (take i xs) → P h) → P a
    → (h : A) → In h (take (i + 1) xs) → P h
all_taken P xs i a l is before here h j = ⊎_elim
    (λ (k : In h (take i xs)). before h k)
    (λ (e : h ≡ a). subst P (sym e) here)
    (in_push h a (take i xs) (subst (In h) (take_more xs i a l ∙ ap (λ x. take i xs ++ x ∷ []) (sym is)) j))

-- ---- in the middle of taking

module _ {C : Type 0} (content : C → Contents) (sound : Decls → ℕ → C → Type 0) (due : C → List Update) (s : ℕ) (call : Call) (old : SeatState) where
  -- each latch of the call below `from` is in hand, and no other
  pub record HasTakenBelow (from : ℕ) (seat : SeatState) (hands : List (Hand C)) : Type 0 where
    pub goes : GoesOn old seat
    pub holds : Holds content sound s seat hands
    pub dues : AreDue due seat.config.world.decls call hands
    pub under : (h : Hand C) → In h hands → h.latch < from
    pub done : (k : ℕ) → k < from → IsTrue (needs seat.config.world.decls call k) → In (k, s) seat.held
    pub within : from ≤ seat.config.end

  -- nothing is in hand yet
  pub HasTakenBelow-none : (hands : List (Hand C)) → old.held ≡ [] → hands ≡ [] → HasTakenBelow 0 old hands
  HasTakenBelow-none hands idle empty = subst (HasTakenBelow 0 old) (sym empty) (record {
    goes = GoesOn-none old;
    holds = record { held = idle; good = λ h i. absurd i };
    dues = λ h i. absurd i;
    under = λ h i. absurd i;
    done = λ k b n. absurd (omega arith);
    within = omega arith;
  })

  -- whatever was met since
  pub HasTakenBelow-conflicts : (from : ℕ) (seat : SeatState) (hands : List (Hand C)) (m : List (ℕ × ℕ)) → HasTakenBelow from seat hands
      → HasTakenBelow from (record seat { conflicts = m }) hands
  HasTakenBelow-conflicts from seat hands m so = record {
    goes = GoesOn-more old seat (record seat { conflicts = m }) so.goes (GoesOn-by seat (record seat { conflicts = m }) seat.held m refl);
    holds = record { held = so.holds.held; good = so.holds.good };
    dues = so.dues;
    under = so.under;
    done = so.done;
    within = so.within;
  }

  -- a latch from there on is above all that are held
  pub IsAboveHeld-next : (from l : ℕ) (seat : SeatState) (hands : List (Hand C)) → from ≤ l → HasTakenBelow from seat hands → IsAboveHeld l seat.held
  IsAboveHeld-next from l seat hands low so p i =
      let h = of_listed s p hands (subst (In p) so.holds.held i) in
      let b : h.0.latch < from = so.under h.0 h.1.0 in
      let q : p.0 ≡ h.0.latch = ap (λ (z : ℕ × ℕ). z.0) h.1.1 in
      omega arith

  module _ (from l : ℕ) (seat new : SeatState) (hands : List (Hand C)) (c : C) (so : HasTakenBelow from seat hands)
      (got : IsTaken (GoodAt content sound) l s seat (Fiber c) new) where
    abbrev hand : Hand C
    hand = record { latch = l; store = c }

    new_config : new.config ≡ seat.config
    new_config = ap (λ (x : SeatState). x.config) got.rest

    new_held : new.held ≡ (l, s) ∷ seat.held
    new_held = ap (λ (x : SeatState). x.held) got.rest

    good_old : (h : Hand C) → In h hands → GoodAt content sound new.config new.seen h.latch (Fiber h.store)
    good_old h i = subst (λ (x : TableConfig). GoodAt content sound x new.seen h.latch (Fiber h.store)) (sym new_config)
        (good_stays content sound (h.latch, s) seat new.seen (Fiber h.store) (subst (In (h.latch, s)) (sym so.holds.held) (in_listed s h hands i)) got.grown
        (so.holds.good h i))

    good_new : (h : Hand C) → h ≡ hand → GoodAt content sound new.config new.seen h.latch (Fiber h.store)
    good_new h e = subst (λ (x : Hand C). GoodAt content sound new.config new.seen x.latch (Fiber x.store)) (sym e)
        (subst (λ (x : TableConfig). GoodAt content sound x new.seen l (Fiber c)) (sym new_config) got.fits)

    -- the least latch of the call that was missing is in hand too
    pub HasTakenBelow-more : from ≤ l → l < seat.config.end → IsDue due seat.config.world.decls call l c
        → ((k : ℕ) → from ≤ k → IsTrue (needs seat.config.world.decls call k) → l ≤ k) → HasTakenBelow (l + 1) new (hands ++ hand ∷ [])
    HasTakenBelow-more low inside dues least = record {
      goes = GoesOn-more old seat new so.goes (GoesOn-seen seat new ((l, s) ∷ seat.held) seat.conflicts new.seen got.rest got.grown);
      holds = record {
        held = new_held ∙ ap (λ (hs : List (ℕ × ℕ)). (l, s) ∷ hs) so.holds.held ∙ sym (listed-push s hands hand);
        good = λ h i. ⊎_elim (λ (a : In h hands). good_old h a) (λ (e : h ≡ hand). good_new h e) (in_push h hand hands i);
      };
      dues = λ h i. subst (λ (x : TableConfig). IsDue due x.world.decls call h.latch h.store) (sym new_config)
          (⊎_elim (λ (a : In h hands). so.dues h a)
          (λ (e : h ≡ hand). subst (λ (x : Hand C). IsDue due seat.config.world.decls call x.latch x.store) (sym e) dues) (in_push h hand hands i));
      under = λ h i. ⊎_elim (λ (a : In h hands). let b = so.under h a in omega arith)
          (λ (e : h ≡ hand). let q : h.latch ≡ l = ap (λ (x : Hand C). x.latch) e in omega arith) (in_push h hand hands i);
      done = λ k b n.
          let m : IsTrue (needs seat.config.world.decls call k) = subst (λ (x : TableConfig). IsTrue (needs x.world.decls call k)) new_config n in
          subst (In (k, s)) (sym new_held) (now k b m);
      within = subst (λ (x : TableConfig). l + 1 ≤ x.end) (sym new_config) (omega arith);
    }
      where
        now : (k : ℕ) → k < l + 1 → IsTrue (needs seat.config.world.decls call k) → In (k, s) ((l, s) ∷ seat.held)
        now k b m = ⊎_elim
            (λ (a : k < from). inr (so.done k a m))
            (λ (a : from ≤ k). let z = least k a m in inl (ap (λ (j : ℕ). (j, s)) (omega arith)))
            (cases_lt k from)

  -- all are taken
  pub IsReady-all : (from : ℕ) (seat : SeatState) (hands : List (Hand C)) → HasTakenBelow from seat hands
      → ((k : ℕ) → from ≤ k → ¬ IsTrue (needs seat.config.world.decls call k)) → IsReady due s call seat hands
  IsReady-all from seat hands so none = record {
    all = λ k n. ⊎_elim (λ (a : k < from). so.done k a n) (λ (a : from ≤ k). absurd (none k a n)) (cases_lt k from);
    below = λ p i. IsAboveHeld-next from seat.config.end seat hands so.within so p i;
    dues = so.dues;
  }

-- ---- after a take that failed

module _ {C : Type 0} (content : C → Contents) (sound : Decls → ℕ → C
    → Type 0) (s : ℕ) (old : SeatState) (hands : List (Hand C)) (holds : Holds content sound s old hands) where
  -- entries that touch nothing of the seat's, and latches that were met
  pub Holds-seen : (seen : List Entry) (m : List (ℕ × ℕ)) → Extends (IsForeign old) old.seen seen
      → Holds content sound s (record old { seen = seen; conflicts = m }) hands
  Holds-seen seen m grown = record {
    held = holds.held;
    good = λ h i. good_stays content sound (h.latch, s) old seen (Fiber h.store) (subst (In (h.latch, s)) (sym holds.held) (in_listed s h hands i)) grown
        (holds.good h i);
  }

  -- a take that was stopped or ran out of memory
  pub Holds-before : (new : SeatState) → IsAsBefore old new → Holds content sound s new hands
  Holds-before new same = subst (λ (x : SeatState). Holds content sound s x hands) (sym same.rest) (Holds-seen new.seen new.conflicts same.grown)

-- a take that was stopped or ran out of memory is a step
pub GoesOn-before : (old new : SeatState) → IsAsBefore old new → GoesOn old new
GoesOn-before old new same = GoesOn-seen old new old.held new.conflicts new.seen same.rest same.grown

-- nothing changed, but that conflicts were noted
pub IsAsBefore-noted : (old new : SeatState) → IsOnlyNoted old new → IsAsBefore old new
IsAsBefore-noted old new same = subst (IsAsBefore old) (sym same) (record { rest = refl; grown = Extends-none (IsForeign old) old.seen })

-- a latch was taken, perhaps after waiting, and given back
pub IsAsBefore-again : (old mid new : SeatState) (m : List (ℕ × ℕ)) (l s : ℕ) → mid
    ≡ record old { held = (l, s) ∷ old.held; seen = mid.seen; conflicts = m } → Extends (IsForeign (record old { conflicts = m })) old.seen mid.seen
    → new ≡ without_top mid → IsAsBefore old new
IsAsBefore-again old mid new m l s rest grown last =
    let n : new ≡ record old { seen = mid.seen; conflicts = m } = last ∙ ap without_top rest in
    subst (IsAsBefore old) (sym n) (record { rest = refl; grown = Extends-conflicts old m old.seen mid.seen grown })

-- ---- a store that was prepared

-- a store that is prepared for a call is good where it was
pub good_prepared : {C : Type 0} (content : C → Contents) (sound : Decls → ℕ → C → Type 0) (config : TableConfig) (p : List Entry) (l : ℕ) (c d : C)
    → GoodAt content sound config p l (Fiber c) → content d ≡ content c → ((x : Decls) (k : ℕ) → sound x k c → sound x k d)
    → GoodAt content sound config p l (Fiber d)
good_prepared content sound config p l c d g same sounds = (g.0, sounds config.world.decls l g.1, same ∙ g.2)

-- so it is taken as it was
pub IsTaken-prepared : {C : Type 0} (content : C → Contents) (sound : Decls → ℕ → C → Type 0) (l s : ℕ) (old new : SeatState) (c d : C)
    → IsTaken (GoodAt content sound) l s old (Fiber c) new → content d ≡ content c → ((x : Decls) (k : ℕ) → sound x k c → sound x k d)
    → IsTaken (GoodAt content sound) l s old (Fiber d) new
IsTaken-prepared content sound l s old new c d taken same sounds = record {
  rest = taken.rest;
  grown = taken.grown;
  fits = good_prepared content sound old.config new.seen l c d taken.fits same sounds;
}

-- and good for what the seat has seen
pub IsTaken-good : {C : Type 0} (content : C → Contents) (sound : Decls → ℕ → C → Type 0) (l s : ℕ) (old new : SeatState) (c : C)
    → IsTaken (GoodAt content sound) l s old (Fiber c) new → GoodAt content sound new.config new.seen l (Fiber c)
IsTaken-good content sound l s old new c taken =
    subst (λ (x : TableConfig). GoodAt content sound x new.seen l (Fiber c)) (sym (ap (λ (x : SeatState). x.config) taken.rest)) taken.fits

-- ---- giving back

-- the last is one of the list
pub top_in : {A : Type 0} (a : A) (xs ys : List A) → ys ≡ xs ++ a ∷ [] → In a ys
top_in a xs ys e = subst (In a) (sym e) (in_right a xs (a ∷ []) (inl refl))

-- the others are of the list too
pub rest_in : {A : Type 0} (a x : A) (xs ys : List A) → ys ≡ xs ++ x ∷ [] → In a xs → In a ys
rest_in a x xs ys e i = subst (In a) (sym e) (in_left a xs (x ∷ []) i)

-- the last latch was given back
pub gave_top : {C : Type 0} (s : ℕ) (old seat new : SeatState) (items xs : List (Hand C)) (h : Hand C) → seat ≡ record old { held = listed s items }
    → items ≡ xs ++ h ∷ [] → new ≡ without_top seat → new ≡ record old { held = listed s xs }
gave_top s old seat new items xs h is e last = last ∙ ap without_top is
    ∙ ap (λ (z : List (ℕ × ℕ)). record old { held = drop 1 z }) (ap (listed s) e ∙ listed-push s xs h)

-- a store in which its own updates were made is good behind the batch
pub good_made : {C : Type 0} (content : C → Contents) (sound : Decls → ℕ → C
    → Type 0) (config : TableConfig) (before seen : List Entry) (l : ℕ) (us : List Update) (c d : C) → GoodAt content sound config before l (Fiber c)
    → contents_after config.world seen ≡ with_updates (contents_after config.world before) us
    → content d ≡ with_updates (content c) (own config.world.decls l us) → (sound config.world.decls l c → sound config.world.decls l d)
    → GoodAt content sound config seen l (Fiber d)
good_made content sound config before seen l us c d good after made sounds = (
  good.0,
  sounds good.1,
  made ∙ ap (λ (m : Contents). with_updates m (own config.world.decls l us)) good.2 ∙ own_restricted config.world.decls l
      (contents_after config.world before) us
      ∙ ap (λ (m : Contents). restricted_to config.world.decls m l) (sym after),
)
