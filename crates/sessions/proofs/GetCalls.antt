-- A call that needs one fiber: a get.
use Rattle.std.proofs.Common.{◌≡◌, ℕ, ◌<◌, ◌==◌, Bool, true, List, [], ◌∷◌, IsTrue, sym, refl, ap, ◌∙◌, subst, inl, ⊎_elim, drop}
use Rattle.std.proofs.lemmas.Bool.Decides.{Decides-eqb}
use Rattle.commit_core.specs.Machine.{commit_needs}
use Rattle.dt_model.specs.declared.calls.Call.TheVariants.{Get}
use Rattle.dt_model.specs.declared.calls.Cell.{Cell}
use Rattle.dt_model.specs.declared.calls.Entry.{Entry}
use Rattle.dt_model.specs.declared.calls.Turn.{Turn}
use Rattle.dt_model.specs.declared.declared_tensors.Decls.{Decls}
use Rattle.dt_model.specs.declared.replies.Reply.TheVariants.{Value}
use Rattle.dt_model.specs.Contents.{Contents}
use Rattle.dt_model.specs.Latches.{latch_of_cell}
use Rattle.dt_model.specs.Tensors.{latch_count}
use Rattle.dt_model.specs.Verdicts.{call_is_valid}
use Rattle.fiber_latch.specs.declared.view.TableConfig.{TableConfig}
use Rattle.fiber_latch.specs.declared.rule.Kept.TheVariants.{Fiber}
use Rattle.fiber_latch.specs.Views.{In, Extends}
use Rattle.fiber_latch.specs.Rule.{GoodAt}
use Rattle.fiber_latch.specs.Seats.{SeatState, IsOutside, IsTaken, without_top}
use Rattle.sessions.specs.Calling.{CanMake, GoesOn, HasMade, IsGivenUp, entry_at}
use Rattle.sessions.specs.Entering.{CanEnter, HasEntered, IsForeign}
use Rattle.sessions.specs.Holding.{IsOnlyNoted}
use Rattle.sessions.specs.Noting.{Notes}
use Rattle.sessions.proofs.CallingLemmas.{Extends-conflicts, Extends-none, IsNext-taken, GoesOn-seen, IsGivenUp-noted}
use Rattle.sessions.proofs.EnteringLemmas.{good_before, good_behind, good_number, has_made, entered_held}
use Rattle.sessions.proofs.NotingLemmas.{Notes-later, Notes-more, Notes-weaker, commit_needs-own, commit_needs-journal, number_is, same_number}

-- a get needs the latch of its cell
pub commit_needs-cell : (d : Decls) (cell : Cell) (l k : ℕ) → l ≡ latch_of_cell d cell → (k == l) ≡ true → IsTrue (commit_needs d (Get cell) k)
commit_needs-cell d cell l k here is = commit_needs-own d (Get cell) k (same_number (latch_of_cell d cell) k (sym (number_is k l is ∙ here)))

-- the latch of the cell wasn't taken
pub get_unmade : (old new : SeatState) → IsOnlyNoted old new → IsGivenUp old new
get_unmade old new noted = subst (IsGivenUp old) (sym noted) (record { rest = refl; grown = Extends-none (IsOutside old.first old.last) old.seen })

-- a conflict is noted with the latch of the cell alone
pub get_notes-cell : (w : Bool) (l : ℕ) (cell : Cell) (stop : List (ℕ × ℕ)) (old new : SeatState) → l ≡ latch_of_cell old.config.world.decls cell
    → Notes w (λ k. k == l) stop old new → Notes w (commit_needs old.config.world.decls (Get cell)) stop old new
get_notes-cell w l cell stop old new here n =
    Notes-weaker w (λ k. k == l) (commit_needs old.config.world.decls (Get cell)) stop old new
    (λ k is. commit_needs-cell old.config.world.decls cell l k here is) n

module _ {C : Type 0} (content : C → Contents) (sound : Decls → ℕ → C
    → Type 0) (l : ℕ) (turn : Turn) (cell : Cell) (old : SeatState) (m : List (ℕ × ℕ)) (mid : SeatState) (c : C)
    (got : IsTaken (GoodAt content sound) l turn.session (record old { conflicts = m }) (Fiber c) mid)
    (free : old.held ≡ []) (here : l ≡ latch_of_cell old.config.world.decls cell) where
  abbrev e : Entry
  e = entry_at turn (Get cell)

  mid_config : mid.config ≡ old.config
  mid_config = ap (λ (s : SeatState). s.config) got.rest

  mid_held : mid.held ≡ (l, turn.session) ∷ []
  mid_held = ap (λ (s : SeatState). s.held) got.rest ∙ ap (λ (h : List (ℕ × ℕ)). (l, turn.session) ∷ h) free

  mid_good : GoodAt content sound mid.config mid.seen l (Fiber c)
  mid_good = subst (λ (x : TableConfig). GoodAt content sound x mid.seen l (Fiber c)) (sym mid_config) got.fits

  mid_grown : Extends (IsForeign old) old.seen mid.seen
  mid_grown = Extends-conflicts old m old.seen mid.seen got.grown

  mid_goes : GoesOn old mid
  mid_goes = GoesOn-seen old mid ((l, turn.session) ∷ old.held) m mid.seen got.rest mid_grown

  is_here : (latch_of_cell mid.config.world.decls cell == l) ≡ true
  is_here = same_number (latch_of_cell mid.config.world.decls cell) l (ap (λ (x : TableConfig). latch_of_cell x.world.decls cell) mid_config ∙ sym here)

  held_here : (k : ℕ) → (latch_of_cell mid.config.world.decls cell == k) ≡ true → In (k, turn.session) mid.held
  held_here k n =
      let at : l ≡ k = sym ((Decides-eqb (latch_of_cell mid.config.world.decls cell) l).0 is_here)
      ∙ (Decides-eqb (latch_of_cell mid.config.world.decls cell) k).0 n in
      subst (In (k, turn.session)) (sym mid_held) (inl (ap (λ (j : ℕ). (j, turn.session)) (sym at)))

  below_end : l < old.config.end → (h : ℕ × ℕ) → In h mid.held → h.0 < mid.config.end
  below_end b h i = ⊎_elim
      (λ (a : h
      ≡ (l, turn.session)). subst (λ (x : TableConfig). h.0 < x.end) (sym mid_config) (subst (λ (p : ℕ × ℕ). p.0 < old.config.end) (sym a) b))
      (λ (a : ⊥). absurd a)
      (subst (In h) mid_held i)

  -- with the fiber taken, the entry may be entered
  pub get_can_enter : CanMake e old → l < old.config.end → CanEnter e mid
  get_can_enter can b = record {
    next = IsNext-taken turn old mid ((l, turn.session) ∷ old.held) m got.rest mid_grown can.next;
    valid = subst (λ (x : TableConfig). IsTrue (call_is_valid x.world.decls (Get cell))) (sym mid_config) can.valid;
    held = held_here;
    below = below_end b;
  }

  behind_one : (late : SeatState) → late.held ≡ mid.held → without_top late ≡ record late { held = old.held }
  behind_one late e = ap (λ (h : List (ℕ × ℕ)). record late { held = drop 1 h }) (e ∙ mid_held)
      ∙ ap (λ (h : List (ℕ × ℕ)). record late { held = h }) (sym free)

  -- the journal's latch wasn't taken, and the cell's was given back
  pub get_given_up : (late new : SeatState) → IsOnlyNoted mid late → new ≡ without_top late → IsGivenUp old new
  get_given_up late new noted last =
      let n : new ≡ record late { held = old.held } = last ∙ behind_one late (ap (λ (s : SeatState). s.held) noted) in
      let r : new ≡ record mid { held = []; conflicts = late.conflicts } = n ∙ ap (λ (s : SeatState). record s { held = old.held }) noted
      ∙ ap (λ (h : List (ℕ × ℕ)). record mid { held = h; conflicts = late.conflicts }) free in
      IsGivenUp-noted old mid new mid_goes free
      (r ∙ ap (λ (k : List (ℕ × ℕ)). record mid { held = []; conflicts = k }) (sym (ap (λ (s : SeatState). s.conflicts) r)))

  -- then the store is good where it was
  pub get_still_good : (late : SeatState) → IsOnlyNoted mid late → GoodAt content sound late.config late.seen l (Fiber c)
  get_still_good late noted = subst (λ (s : SeatState). GoodAt content sound s.config s.seen l (Fiber c)) (sym noted) mid_good

  -- conflicts are noted with the cell's latch, and then with the journal's
  pub get_notes : (w : Bool) (end : ℕ) (stop : List (ℕ × ℕ)) (late new : SeatState) → end ≡ latch_count old.config.world.decls
      → Notes w (λ k. k == l) [] old mid → Notes w (λ k. k == end) stop mid late → new ≡ without_top late
      → Notes w (commit_needs old.config.world.decls (Get cell)) stop old new
  get_notes w end stop late new journal first second last =
      Notes-later w (commit_needs old.config.world.decls (Get cell)) stop old late new (ap (λ (s : SeatState). s.conflicts) last)
      (Notes-more w (λ k. k == l) (λ k. k == end) (commit_needs old.config.world.decls (Get cell)) stop old mid late mid_goes
      (λ k is. commit_needs-cell old.config.world.decls cell l k here is)
      (λ k is. commit_needs-journal old.config.world.decls (Get cell) k (number_is k end is ∙ journal)) first second)

  -- behind the entry the store is still good
  pub get_good : (late : SeatState) → HasEntered e mid late → GoodAt content sound late.config late.seen l (Fiber c)
  get_good late entered =
      let g = good_before content sound e mid late entered l turn.session c (subst (In (l, turn.session)) (sym mid_held) (inl refl)) mid_good in
      good_behind content sound e mid late entered l c c g (λ s. s) g.2

  -- the number that was read is the reply at the entry's place
  pub get_made : (late new : SeatState) (value : ℕ) → HasEntered e mid late → new ≡ without_top late → value ≡ content c cell.tensor cell.at
      → HasMade e (Value value) old new
  get_made late new value entered last is =
      let g = good_before content sound e mid late entered l turn.session c (subst (In (l, turn.session)) (sym mid_held) (inl refl)) mid_good in
      has_made e (Value value) old mid late new mid_goes entered
      (last ∙ behind_one late (entered_held content sound e mid late entered))
      (ap (λ (v : ℕ). Value v) (sym (is ∙ good_number content sound mid.config entered.before l cell.tensor cell.at c g is_here)))
