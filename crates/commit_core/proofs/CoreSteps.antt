-- What each event makes of a core's lists is what it makes of the progress that they stand for.
use Rattle.std.proofs.Common.{◌≡◌, ℕ, ◌+◌, ◌<◌, ◌≤◌, ◌++◌, Bool, true, false, List, [], ◌∷◌, length, get_or, set, refl, ap, sym, ◌∙◌, arith, Option, Some, None, length-set, take, subst}
use Rattle.std.specs.Prelude.{slice_index, ◌==◌, ◌&&◌, if◌then◌else◌, not, nat_le, nat_lt, option_and_then, slice_get, ◌-◌}
use Rattle.std.proofs.lemmas.List.Sums.{fold_more}
use Rattle.std.proofs.lemmas.Bool.Decides.{nat_tests, Decides-eqb}
use Rattle.dt_model.specs.declared.calls.Call.{Call}
use Rattle.dt_model.specs.declared.calls.Entry.{Entry}
use Rattle.dt_model.specs.declared.calls.Turn.{Turn}
use Rattle.dt_model.specs.declared.declared_tensors.Decls.{Decls}
use Rattle.dt_model.specs.declared.replies.World.{World}
use Rattle.dt_model.specs.Contents.{Contents}
use Rattle.dt_model.specs.Runs.{restricted_to, call_of, accepted_call, after_call, base_of}
use Rattle.dt_model.specs.Functions.{with_value}
use Rattle.dt_model.proofs.Booleans.{both_true}
use Rattle.commit_core.specs.declared.events.Event.{Event}
use Rattle.commit_core.specs.declared.events.Event.TheVariants.{Take, Commit, Give, Quit}
use Rattle.commit_core.specs.declared.events.Position.{Position}
use Rattle.commit_core.specs.Cells.{Cells, contents_of}
use Rattle.commit_core.specs.Machine.{journal_latch, content_after}
use Rattle.commit_core.specs.Events.{Progress, initial, after_if_possible, after_event, run_of, position_after, is_possible_for, is_possible, session_in, read_from_latches, after_take, after_commit, after_give, after_quit, all_under, holds_none, without_session}
use Rattle.commit_core.specs.State.{CoreState, progress_of, content_in, position_in}
use Rattle.commit_core.proofs.MachineLemmas.{content_after-restricted_to}
use Rattle.commit_core.proofs.StateLemmas.{slice_index-set, position_in-set, position_in-past, slice_index-past}

-- lists of an opening stand for the opening
pub opening_is : (w : World) (holders : List ℕ) (positions : List Position) (tensors : List Cells) (entries : List Entry) (replies : List (Option ℕ))
    (lost : List Turn)
    → ((k : ℕ) → slice_index holders k ≡ 0) → ((s : ℕ) → position_in positions s ≡ position_after w s 0) → contents_of tensors ≡ base_of w → entries ≡ []
    → replies ≡ [] → lost ≡ []
    → progress_of (record { world = w; holders = holders; positions = positions; tensors = tensors; entries = entries; replies = replies; lost = lost })
    ≡ initial w
opening_is w holders positions tensors entries replies lost free first is e r l = λ i. record {
  machine = record { holder = λ k. free k i; content = λ k. ap (λ (m : Contents). restricted_to w.decls m k) is i; history = e i };
  position = λ s. first s i;
  lost = l i;
  replies = r i;
}

-- ---- what a possible event says

-- no session has a call number 0
pub no_call_zero : (w : World) (s : ℕ) → call_of w s 0 ≡ None
no_call_zero w s = elim (nat_le 1 s) as (λ b. option_and_then accepted_call (if b
    && nat_le 1 0 then option_and_then (λ script. slice_get script (0 - 1)) (slice_get w.scripts (s - 1)) else None) ≡ None) [ true ↦ refl | false ↦ refl ]

-- a session with a current call has a place of its own
pub has_position : (w : World) (positions : List Position) (s : ℕ) (call : Call) → call_of w s (position_in positions s).number ≡ Some call
    → s < length positions
has_position w positions s call e = elim (nat_lt s (length positions)) as (λ b. nat_lt s (length positions) ≡ b → s < length positions) [
  | true ↦ λ t. grind (arith, nat_tests)
  | false ↦ λ t.
      let past : length positions ≤ s = grind (arith, nat_tests) in
      let none : call_of w s (position_in positions s).number ≡ None = ap (λ x. call_of w s x.number) (position_in-past positions s past) ∙ no_call_zero w s in
      let no : None ≡ Some call = sym none ∙ e in
      cc
] refl

-- a possible event is one of a session with a current call
pub possible_call : (d : Decls) (h : ℕ → ℕ) (f : ℕ → Position) (e : Event) (o : Option Call) → is_possible_for d h f e o ≡ true
    → (call : Call) × (o ≡ Some call) × (is_possible_for d h f e (Some call) ≡ true)
possible_call d h f (Take s l) None p = cc
possible_call d h f (Take s l) (Some call) p = (call, refl, p)
possible_call d h f (Commit s) None p = cc
possible_call d h f (Commit s) (Some call) p = (call, refl, p)
possible_call d h f (Give s l) None p = cc
possible_call d h f (Give s l) (Some call) p = (call, refl, p)
possible_call d h f (Quit s) None p = cc
possible_call d h f (Quit s) (Some call) p = (call, refl, p)

-- ---- contents

-- a call makes of each latch's content what its commit makes of it
content_in-commit : (d : Decls) (tensors new : List Cells) (call : Call) → contents_of new ≡ after_call (contents_of tensors) call → (l : ℕ)
    → content_in d new l ≡ content_after d call l (content_in d tensors l)
content_in-commit d tensors new call is l = ap (λ (m : Contents). restricted_to d m l) is ∙ sym (content_after-restricted_to d (contents_of tensors) call l)

-- ---- events

-- a new holder makes a take
pub take_is : (w : World) (holders new : List ℕ) (positions : List Position) (tensors : List Cells) (entries : List Entry) (replies : List (Option ℕ))
    (lost : List Turn) (s l : ℕ)
    → new ≡ set holders l s → l < length holders
    → progress_of (record { world = w; holders = new; positions = positions; tensors = tensors; entries = entries; replies = replies; lost = lost })
    ≡ after_take (progress_of (record {
      world = w;
      holders = holders;
      positions = positions;
      tensors = tensors;
      entries = entries;
      replies = replies;
      lost =
          lost;
    })) s l
take_is w holders new positions tensors entries replies lost s l is in' =
    let h : slice_index new ≡ with_value (slice_index holders) l s = ap slice_index is ∙ slice_index-set holders l s in' in
    λ i. record {
      machine = record { holder = h i; content = content_in w.decls tensors; history = entries };
      position = position_in positions;
      lost =
          lost;
      replies = replies;
    }

-- a new entry with its reply, the cells after its call and a committed position make a commit
pub commit_is : (w : World) (holders : List ℕ) (positions positions' : List Position) (tensors tensors' : List Cells) (entries entries' : List Entry)
    (replies replies' : List (Option ℕ)) (lost : List Turn) (s n : ℕ) (call : Call)
    → contents_of tensors' ≡ after_call (contents_of tensors) call
    → entries' ≡ entries ++ (record { turn = record { session = s; number = n }; call = call }) ∷ []
    → replies' ≡ replies ++ read_from_latches w.decls (content_in w.decls tensors) call ∷ []
    → positions' ≡ set positions s (record { number = n; committed = true }) → s < length positions → n ≡ (position_in positions s).number
    → progress_of (record { world = w; holders = holders; positions = positions'; tensors = tensors'; entries = entries'; replies = replies'; lost = lost })
    ≡ after_commit w.decls (progress_of (record {
      world = w;
      holders = holders;
      positions = positions;
      tensors = tensors;
      entries = entries;
      replies =
          replies;
      lost = lost;
    })) s (Some call)
commit_is w holders positions positions' tensors tensors' entries entries' replies replies' lost s n call ec ee er es in' en =
    let c = content_in-commit w.decls tensors tensors' call ec in
    let e : entries' ≡ entries ++ (record { turn = record { session = s; number = (position_in positions s).number }; call = call }) ∷ [] = ee
    ∙ ap (λ k. entries ++ (record { turn = record { session = s; number = k }; call = call }) ∷ []) en in
    let f : position_in positions' ≡ with_value (position_in positions) s (record { number = (position_in positions s).number; committed = true }) =
    ap position_in es ∙ position_in-set positions s (record { number = n; committed = true }) in'
    ∙ ap (λ k. with_value (position_in positions) s (record { number = k; committed = true })) en in
    λ i. record { machine = record { holder = slice_index holders; content = λ l. c l i; history = e i }; position = f i; lost = lost; replies = er i }

-- a latch without a holder, and with the last one the next position, make a give
pub give_is : (w : World) (holders new : List ℕ) (positions positions' : List Position) (tensors : List Cells) (entries : List Entry)
    (replies : List (Option ℕ)) (lost : List Turn) (s l : ℕ) (none : Bool)
    → new ≡ set holders l 0 → l < length holders → length holders ≡ journal_latch w.decls + 1
    → all_under (λ k. not (slice_index new k == s)) (length new) ≡ none
    → positions' ≡ (if none then set positions s (position_after w s (position_in positions s).number) else positions) → s < length positions
    → progress_of (record { world = w; holders = new; positions = positions'; tensors = tensors; entries = entries; replies = replies; lost = lost })
    ≡ after_give w (progress_of (record {
      world = w;
      holders = holders;
      positions = positions;
      tensors = tensors;
      entries = entries;
      replies = replies;
      lost =
          lost;
    })) s l
give_is w holders new positions positions' tensors entries replies lost s l none is in' full holds es positioned =
    let h : slice_index new ≡ with_value (slice_index holders) l 0 = ap slice_index is ∙ slice_index-set holders l 0 in' in
    let len : length new ≡ journal_latch w.decls + 1 = ap length is ∙ length-set holders l 0 ∙ full in
    let same : holds_none w.decls (with_value (slice_index holders) l 0) s
    ≡ none = sym (ap (λ f. all_under (λ k. not (f k == s)) (length new)) h
    ∙ ap (λ n. all_under (λ k. not (with_value (slice_index holders) l 0 k == s)) n) len) ∙ holds in
    let f : position_in positions' ≡ (if holds_none w.decls (with_value (slice_index holders) l 0) s then with_value (position_in positions) s
    (position_after w s (position_in positions s).number) else position_in positions) =
    ap position_in es ∙ positions_by none positions s (position_after w s (position_in positions s).number) positioned
    ∙ ap (λ b. if b then with_value (position_in positions) s (position_after w s (position_in positions s).number) else position_in positions)
    (sym same) in
    λ i. record { machine = record { holder = h i; content = content_in w.decls tensors; history = entries }; position = f i; lost = lost; replies = replies }
  where
    positions_by : (b : Bool) (positions : List Position) (s : ℕ) (x : Position) → s < length positions
        → position_in (if b then set positions s x else positions) ≡ (if b then with_value (position_in positions) s x else position_in positions)
    positions_by true positions s x in' = position_in-set positions s x in'
    positions_by false positions s x in' = refl

-- a session's latches without holders, its next position and one lost turn more make a quit
pub quit_is : (w : World) (holders new : List ℕ) (positions positions' : List Position) (tensors : List Cells) (entries : List Entry)
    (replies : List (Option ℕ)) (lost lost' : List Turn) (s n : ℕ)
    → ((k : ℕ) → slice_index new k ≡ without_session (slice_index holders) s k)
    → positions' ≡ set positions s (position_after w s n) → s < length positions → n ≡ (position_in positions s).number
    → lost' ≡ lost ++ (record { session = s; number = n }) ∷ []
    → progress_of (record { world = w; holders = new; positions = positions'; tensors = tensors; entries = entries; replies = replies; lost = lost' })
    ≡ after_quit w (progress_of (record {
      world = w;
      holders = holders;
      positions = positions;
      tensors = tensors;
      entries = entries;
      replies = replies;
      lost =
          lost;
    })) s
quit_is w holders new positions positions' tensors entries replies lost lost' s n h es in' en el =
    let f : position_in positions' ≡ with_value (position_in positions) s (position_after w s (position_in positions s).number) =
    ap position_in es ∙ position_in-set positions s (position_after w s n) in' ∙ ap (λ k. with_value (position_in positions) s (position_after w s k)) en in
    let e : lost' ≡ lost ++ (record { session = s; number = (position_in positions s).number }) ∷ [] = el
    ∙ ap (λ k. lost ++ (record { session = s; number = k }) ∷ []) en in
    λ i. record {
      machine = record { holder = λ k. h k i; content = content_in w.decls tensors; history = entries };
      position = f i;
      lost = e i;
      replies =
          replies;
    }

-- ---- ranges

-- the event is possible over these lists
abbrev pub IsPossible : World → List ℕ → List Position → Event → Type 0
IsPossible w holders positions e = is_possible_for w.decls (slice_index holders) (position_in positions) e
    (call_of w (session_in e) (position_in positions (session_in e)).number) ≡ true

-- a latch that can be taken is one of the World's
pub take_in_range : (w : World) (holders : List ℕ) (positions : List Position) (s l : ℕ) → IsPossible w holders positions (Take s l) → l ≤ journal_latch w.decls
take_in_range w holders positions s l h =
    let t = possible_call w.decls (slice_index holders) (position_in positions) (Take s l) (call_of w s (position_in positions s).number) h in
    let a = both_true _ _ t.2 in
    let b = both_true _ _ a.0 in
    let c = both_true _ _ b.0 in
    let e = both_true _ _ c.0 in
    le_of l (journal_latch w.decls) e.1
  where
    le_of : (a b : ℕ) → nat_le a b ≡ true → a ≤ b
    le_of a b e = grind (arith, nat_tests)

-- a session with a call is counted from 1
pub is_session : (w : World) (s n : ℕ) (call : Call) → call_of w s n ≡ Some call → 1 ≤ s
is_session w s n call e = elim (nat_le 1 s) as (λ b. nat_le 1 s ≡ b → 1 ≤ s) [
  | true ↦ λ t. grind (arith, nat_tests)
  | false ↦ λ t. let none : None ≡ call_of w s n = ap (λ b. option_and_then accepted_call (if b
      && nat_le 1 n then option_and_then (λ script. slice_get script (n - 1)) (slice_get w.scripts (s - 1)) else None)) (sym t) in let no : None
      ≡ Some call = none ∙ e in cc
] refl

-- a latch that a session holds is one of the World's
pub held_in_range : (holders : List ℕ) (s l : ℕ) → 1 ≤ s → slice_index holders l ≡ s → l < length holders
held_in_range holders s l some held = elim (nat_lt l (length holders)) as (λ b. nat_lt l (length holders) ≡ b → l < length holders) [
  | true ↦ λ e. grind (arith, nat_tests)
  | false ↦ λ e. let past : length holders ≤ l = grind (arith, nat_tests) in let zero : slice_index holders l
      ≡ 0 = slice_index-past holders l past in absurd (omega arith)
] refl

-- a latch that can be given is one of the World's
pub give_in_range : (w : World) (holders : List ℕ) (positions : List Position) (s l : ℕ) → IsPossible w holders positions (Give s l) → l < length holders
give_in_range w holders positions s l h =
    let t = possible_call w.decls (slice_index holders) (position_in positions) (Give s l) (call_of w s (position_in positions s).number) h in
    held_in_range holders s l (is_session w s (position_in positions s).number t.0 t.1)
    ((Decides-eqb (slice_index holders l) s).0 (both_true (position_in positions s).committed (slice_index holders l == s) t.2).1)

-- a session of a possible event has a position of its own
pub position_in_range : (w : World) (holders : List ℕ) (positions : List Position) (e : Event) → IsPossible w holders positions e
    → session_in e < length positions
position_in_range w holders positions e h =
    let t = possible_call w.decls (slice_index holders) (position_in positions) e (call_of w (session_in e) (position_in positions (session_in e)).number) h in
    has_position w positions (session_in e) t.0 t.1

-- a commit of the call that is found
pub after_commit_at : (d : Decls) (p : Progress) (s : ℕ) (o : Option Call) (call : Call) → o ≡ Some call → after_commit d p s o ≡ after_commit d p s (Some call)
after_commit_at d p s o call e = ap (after_commit d p s) e

-- ---- runs

after_if_possible-yes : (w : World) (p : Progress) (e : Event) → is_possible w p e ≡ true → after_if_possible w p e ≡ after_event w p e
after_if_possible-yes w p e h = rw h refl

after_if_possible-no : (w : World) (p : Progress) (e : Event) → is_possible w p e ≡ false → after_if_possible w p e ≡ p
after_if_possible-no w p e h = rw h refl

-- the run, one event on, where that was possible
pub run_on : (w : World) (es : List Event) (i : ℕ) (x : Event) (old new : CoreState) → i < length es → old.world ≡ w → progress_of old ≡ run_of w (take i es)
    → is_possible old.world (progress_of old) (get_or es i x) ≡ true → progress_of new ≡ after_event old.world (progress_of old) (get_or es i x)
    → progress_of new ≡ run_of w (take (i + 1) es)
run_on w es i x old new l same so_far can made =
    let p : is_possible w (run_of w (take i es)) (get_or es i x)
    ≡ true = subst (λ q. is_possible w q (get_or es i x) ≡ true) so_far (subst (λ v. is_possible v (progress_of old) (get_or es i x) ≡ true) same can) in
    made ∙ ap (λ v. after_event v (progress_of old) (get_or es i x)) same ∙ ap (λ q. after_event w q (get_or es i x)) so_far
    ∙ sym (after_if_possible-yes w (run_of w (take i es)) (get_or es i x) p) ∙ sym (fold_more (after_if_possible w) (initial w) es i x l)

-- the run, one event on, where that was passed over
pub run_past : (w : World) (es : List Event) (i : ℕ) (x : Event) (old new : CoreState) → i < length es → old.world ≡ w
    → progress_of old ≡ run_of w (take i es) → is_possible old.world (progress_of old) (get_or es i x) ≡ false → new ≡ old
    → progress_of new ≡ run_of w (take (i + 1) es)
run_past w es i x old new l same so_far cannot kept =
    let p : is_possible w (run_of w (take i es)) (get_or es i x)
    ≡ false = subst (λ q. is_possible w q (get_or es i x)
    ≡ false) so_far (subst (λ v. is_possible v (progress_of old) (get_or es i x) ≡ false) same cannot) in
    ap progress_of kept ∙ so_far ∙ sym (after_if_possible-no w (run_of w (take i es)) (get_or es i x) p)
    ∙ sym (fold_more (after_if_possible w) (initial w) es i x l)
