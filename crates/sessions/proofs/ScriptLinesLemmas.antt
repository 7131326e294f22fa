-- One line more of a session's script.
use Rattle.std.proofs.Common.{◌≡◌, ◌≢◌, ℕ, zero, suc, ◌+◌, ◌-◌, ◌<◌, ◌≤◌, Bool, true, false, List, [], ◌∷◌, ◌++◌, length, take, get_or, refl, sym, ap, ◌∙◌, subst, inl, inr, ⊎_elim, arith, Option, Some, None}
use Rattle.std.specs.Prelude.{◌⊎◌, slice_get, nat_le, if◌then◌else◌}
use Rattle.std.proofs.lemmas.Bool.Decides.{nat_tests}
use mathlib.Core.Logic.{dite}
use native.Mathlib.Decide.{ℕ_discrete}
use Rattle.std.proofs.lemmas.List.{append-nil, append_assoc}
use Rattle.std.proofs.lemmas.Option.{none-some, same_Some, slice_get-get_or, slice_get_past}
use Rattle.dt_model.specs.declared.calls.Call.{Call}
use Rattle.dt_model.specs.declared.calls.Call.TheVariants.{Get}
use Rattle.dt_model.specs.declared.calls.Cell.{Cell}
use Rattle.dt_model.specs.declared.calls.Entry.{Entry}
use Rattle.dt_model.specs.declared.calls.Turn.{Turn}
use Rattle.dt_model.specs.declared.replies.Refusal.{Refusal}
use Rattle.dt_model.specs.declared.replies.Reply.{Reply}
use Rattle.dt_model.specs.declared.replies.Verdict.{Verdict}
use Rattle.dt_model.specs.declared.replies.Verdict.TheVariants.{Accepted, Refused}
use Rattle.dt_model.specs.declared.replies.World.{World}
use Rattle.dt_model.specs.Calls.{IsNoGet}
use Rattle.dt_model.specs.Runs.{accepted_call, has_turn, is_turn, reply_of_turn, reply_of_entry, base_of}
use Rattle.dt_model.proofs.RunsLemmas.{reply_of_entry-push, reply_of_turn_from-own, reply_of_turn_from-none, has_turn-own}
use Rattle.fiber_latch.specs.declared.view.TableConfig.{TableConfig}
use Rattle.fiber_latch.specs.Views.{In}
use Rattle.fiber_latch.specs.Seats.{SeatState, TableState, BelongsTo, OwnsSession}
use Rattle.fiber_latch.proofs.ViewsLemmas.{in_append}
use Rattle.sessions.specs.declared.outcomes.Outcome.{Outcome}
use Rattle.sessions.specs.declared.outcomes.Outcome.TheVariants as outcome
use Rattle.sessions.specs.Calling.{entry_at, IsNext, HasMade, IsGivenUp}
use Rattle.sessions.specs.Outcomes.{outcome_of, call_outcome, line_outcomes}
use Rattle.sessions.specs.ScriptLines.{line_call, RunsLine, OwnsAll, IsFresh, IsAtLine}
use Rattle.sessions.proofs.HistoriesLemmas.{is_turn-session, is_turn-number, is_turn-own, has_turn-apart, has_turn-past, reply_of_turn-past, last_number-within, le_or_next}
use Rattle.sessions.proofs.OutcomesLemmas.{line_outcomes-more}

-- ---- the call of a line

none_either_way : {X : Type 0} (b : Bool) → ◌≡◌ {A = Option X} (if b then None else None) None
none_either_way true = refl
none_either_way false = refl

-- the call of a line that is there
pub line_call-verdict : (script : List Verdict) (i : ℕ) (v : Verdict) → i < length script → get_or script i v ≡ v → line_call script (i + 1) ≡ accepted_call v
line_call-verdict script i v l e =
    let one_more : nat_le 1 (i + 1) ≡ true = grind (arith, nat_tests) in
    let less : i + 1 - 1 ≡ i = omega arith in
    let there : slice_get script i ≡ Some v = slice_get-get_or script i v l ∙ ap Some e in
    rw (one_more, less, there) refl

-- there is no call behind the script's last line
pub line_call-past : (script : List Verdict) (n : ℕ) → length script < n → line_call script n ≡ None
line_call-past script n h = rw (slice_get_past script (n - 1) (omega arith)) (none_either_way (nat_le 1 n))

-- a line with a call is one of the script
pub line_call-within : (script : List Verdict) (n : ℕ) (call : Call) → line_call script n ≡ Some call → n ≤ length script
line_call-within script n call e = elim (nat_le n (length script)) as (λ b. nat_le n (length script) ≡ b → n ≤ length script) [
  | true ↦ λ t. grind (arith, nat_tests)
  | false ↦ λ f. let more : length script < n = grind (arith, nat_tests) in absurd (none-some call (sym (line_call-past script n more) ∙ e))
] refl

-- ---- no line, and one line more

no_gets : (script : List Verdict) (n : ℕ) (cell : Cell) → n ≤ 0 → line_call script n ≡ Some (Get cell) → ⊥
no_gets script zero cell l e = none-some (Get cell) e
no_gets script (suc n) cell l e = absurd (omega (arith, l))

-- before the first line
pub IsAtLine-none : (script : List Verdict) (s : ℕ) (seat : SeatState) → IsFresh s seat.seen → IsAtLine script s 0 seat seat
IsAtLine-none script s seat fresh = record {
  rest = refl;
  grown = ([], sym (append-nil seat.seen), λ e i. absurd i);
  own = λ e i q. absurd (fresh e i q);
  gets = λ n cell l e. absurd (no_gets script n cell l e);
}

-- what a line adds: entries of sessions that aren't the seat's, and that of its call
abbrev Added : List Verdict → ℕ → ℕ → SeatState → List Entry → Type 0
Added script s i old more = (e : Entry) → In e more
    → (¬ OwnsSession old e.turn.session) ⊎ ((e.turn.session ≡ s) × (e.turn.number ≡ i + 1) × (line_call script (i + 1) ≡ Some e.call))

module _ (script : List Verdict) (s i : ℕ) (old mid new : SeatState) (owns : OwnsSession old s) (at : IsAtLine script s i old mid) where
  -- what was added brings the seat to the next line
  line_added : new ≡ record mid { seen = new.seen; conflicts = new.conflicts } → (more : List Entry) → new.seen ≡ mid.seen ++ more → Added script s i old more
      → ((cell : Cell) → line_call script (i + 1) ≡ Some (Get cell) → has_turn new.seen s (i + 1) ≡ true) → IsAtLine script s (i + 1) old new
  line_added rest more seen added get = record {
    rest = rest ∙ ap (λ (x : SeatState). record x { seen = new.seen; conflicts = new.conflicts }) at.rest;
    grown = (
      at.grown.0 ++ more,
      seen ∙ ap (λ (x : List Entry). x ++ more) at.grown.1 ∙ append_assoc old.seen at.grown.0 more,
      λ e j o. ⊎_elim (λ (a : In e at.grown.0). at.grown.2 e a o)
          (λ (b : In e more). ⊎_elim (λ (n : ¬ OwnsSession old e.turn.session). absurd (n o)) (λ (q : (e.turn.session ≡ s) × (e.turn.number ≡ i + 1)
          × (line_call script (i + 1) ≡ Some e.call)). q.0) (added e b))
          (in_append e at.grown.0 more j),
    );
    own = λ e j q. ⊎_elim
        (λ (a : In e mid.seen). let line = at.own e a q in record { number = let n = line.number in omega arith; call = line.call })
        (λ (b : In e more). ⊎_elim
        (λ (n : ¬ OwnsSession old e.turn.session). absurd (n (subst (OwnsSession old) (sym q) owns)))
        (λ (p : (e.turn.session ≡ s) × (e.turn.number ≡ i + 1) × (line_call script (i + 1) ≡ Some e.call)).
        let n = p.1 in record { number = omega arith; call = ap (line_call script) p.1 ∙ p.2 })
        (added e b))
        (in_append e mid.seen more (subst (In e) seen j));
    gets = λ n cell l c. ⊎_elim
        (λ (low : n ≤ i). subst (λ (x : List Entry). has_turn x s n ≡ true) (sym seen) (has_turn-past s n mid.seen more (at.gets n cell low c)))
        (λ (q : n ≡ i + 1). subst (λ (k : ℕ). has_turn new.seen s k ≡ true) (sym q) (get cell (subst (λ (k : ℕ). line_call script k ≡ Some (Get cell)) q c)))
        (le_or_next n i l);
  }

  -- the replies of the lines before stay
  replies_stay : (w : World) (more : List Entry) → new.seen ≡ mid.seen ++ more → Added script s i old more → (k : ℕ) → 1 ≤ k → k ≤ i
      → reply_of_turn w new.seen s k ≡ reply_of_turn w mid.seen s k
  replies_stay w more seen added k low high = reply_of_turn-past w mid.seen more new.seen s k seen (λ e j. ⊎_elim
      (λ (n : ¬ OwnsSession old e.turn.session). is_turn-session s k e (λ q. n (subst (OwnsSession old) (sym q) owns)))
      (λ (p : (e.turn.session ≡ s) × (e.turn.number ≡ i + 1) × (line_call script (i + 1) ≡ Some e.call)).
      is_turn-number s k e (λ q. let n = p.1 in absurd (omega (arith, n, q, high))))
      (added e j))

  -- an entry that the seat had seen is at no later turn
  before_next : (e : Entry) → In e mid.seen → is_turn s (i + 1) e ≡ false
  before_next e a = dite (ℕ_discrete e.turn.session s)
      (λ (q : e.turn.session ≡ s). is_turn-number s (i + 1) e (λ n. let line = at.own e a q in let m = line.number in absurd (omega (arith, m, n))))
      (λ (q : e.turn.session ≢ s). is_turn-session s (i + 1) e q)

  -- the next line's turn isn't there, also where entries of other seats' sessions came behind
  not_yet : (more before : List Entry) → before ≡ mid.seen ++ more → ((e : Entry) → In e more → ¬ OwnsSession old e.turn.session)
      → has_turn before s (i + 1) ≡ false
  not_yet more before is outside = has_turn-apart s (i + 1) before (λ e j. ⊎_elim
      (λ (a : In e mid.seen). before_next e a)
      (λ (b : In e more). is_turn-session s (i + 1) e (λ q. outside e b (subst (OwnsSession old) (sym q) owns)))
      (in_append e mid.seen more (subst (In e) is j)))

  -- the old seat's sessions are the seat's
  mid_owns : (k : ℕ) → OwnsSession old k → OwnsSession mid k
  mid_owns k o = subst (λ (x : SeatState). OwnsSession x k) (sym at.rest) o

-- a session has run one line more, and these are the outcomes so far
pub record OneMore (w : World) (script : List Verdict) (s i : ℕ) (old new : SeatState) (os : List Outcome) : Type 0 where
  pub at : IsAtLine script s (i + 1) old new
  pub outcomes : os ≡ line_outcomes (reply_of_turn w new.seen s) 1 (take (i + 1) script)

-- the turn of a session's line
abbrev pub turn_at : ℕ → ℕ → Turn
turn_at s n = record { session = s; number = n }

module _ (w : World) (script : List Verdict) (s i : ℕ) (old mid new : SeatState) (owns : OwnsSession old s) (inside : i < length script) (os : List Outcome)
    (at : IsAtLine script s i old mid) (was : os ≡ line_outcomes (reply_of_turn w mid.seen s) 1 (take i script)) where
  -- the outcomes with one more
  more_outcomes : (v : Verdict) → get_or script i v ≡ v → (o : Outcome)
      → ((k : ℕ) → 1 ≤ k → k ≤ i → reply_of_turn w new.seen s k ≡ reply_of_turn w mid.seen s k) → o ≡ outcome_of v (reply_of_turn w new.seen s (i + 1))
      → os ++ o ∷ [] ≡ line_outcomes (reply_of_turn w new.seen s) 1 (take (i + 1) script)
  more_outcomes v here o stay is =
      ap (λ (x : List Outcome). x ++ o ∷ []) was
      ∙ ap (λ (x : Outcome). line_outcomes (reply_of_turn w mid.seen s) 1 (take i script) ++ x ∷ []) is
      ∙ sym (line_outcomes-more (reply_of_turn w new.seen s) (reply_of_turn w mid.seen s) script i v inside here stay)

  -- a line whose call was made
  line_made : (call : Call) → get_or script i (Accepted call) ≡ Accepted call → mid.config.world ≡ w → (reply : Reply)
      → HasMade (entry_at (turn_at s (i + 1)) call) reply mid new → OneMore w script s i old new (os ++ outcome.Reply reply ∷ [])
  line_made call here world reply made =
      let e : Entry = entry_at (turn_at s (i + 1)) call in
      let g = made.grown in
      let more : List Entry = g.0 ++ e ∷ [] in
      let seen : new.seen ≡ mid.seen ++ more = made.seen ∙ ap (λ (x : List Entry). x ++ e ∷ []) g.1 ∙ append_assoc mid.seen g.0 (e ∷ []) in
      let is : line_call script (i + 1) ≡ Some call = line_call-verdict script i (Accepted call) inside here in
      let outside : (d : Entry) → In d g.0 → ¬ OwnsSession old d.turn.session =
      λ d j o. g.2 d j (mid_owns script s i old mid new owns at d.turn.session o) in
      let added : Added script s i old more = λ d j. ⊎_elim
      (λ (a : In d g.0). inl (outside d a))
      (λ (b : In d (e ∷ [])). ⊎_elim
      (λ (q : d ≡ e). inr (
        ap (λ (x : Entry). x.turn.session) q,
        ap (λ (x : Entry). x.turn.number) q,
        is ∙ ap (λ (x : Entry). Some x.call) (sym q),
      ))
      (λ (n : ⊥). absurd n) b)
      (in_append d g.0 (e ∷ []) j) in
      let gone : has_turn made.before s (i + 1) ≡ false = not_yet script s i old mid new owns at g.0 made.before g.1 outside in
      let own : is_turn s (i + 1) e ≡ true = is_turn-own s (i + 1) e refl refl in
      let there : has_turn new.seen s (i + 1) ≡ true =
      subst (λ (x : List Entry). has_turn x s (i + 1) ≡ true) (sym made.seen) (has_turn-own made.before e s (i + 1) own) in
      let replied : reply_of_turn w new.seen s (i + 1) ≡ Some reply =
      ap (λ (x : List Entry). reply_of_turn w x s (i + 1)) made.seen
      ∙ reply_of_turn_from-own w.decls (base_of w) made.before e s (i + 1) gone own
      ∙ sym (reply_of_entry-push w made.before e)
      ∙ ap (λ (x : List Entry). reply_of_entry w x (length made.before)) (sym made.seen)
      ∙ subst (λ (x : World). reply_of_entry x new.seen (length made.before) ≡ Some reply) world made.answers in
      record {
        at = line_added script s i old mid new owns at made.rest more seen added (λ cell c. there);
        outcomes = more_outcomes (Accepted call) here (outcome.Reply reply) (replies_stay script s i old mid new owns at w more seen added)
            (ap call_outcome (sym replied));
      }

  -- a line whose call ran out of memory
  line_unmade : (call : Call) → get_or script i (Accepted call) ≡ Accepted call → IsNoGet call → IsGivenUp mid new
      → OneMore w script s i old new (os ++ outcome.NoMemory ∷ [])
  line_unmade call here no_get given =
      let g = given.grown in
      let is : line_call script (i + 1) ≡ Some call = line_call-verdict script i (Accepted call) inside here in
      let outside : (d : Entry) → In d g.0 → ¬ OwnsSession old d.turn.session =
      λ d j o. g.2 d j (mid_owns script s i old mid new owns at d.turn.session o) in
      let added : Added script s i old g.0 = λ d j. inl (outside d j) in
      let none = reply_of_turn_from-none w.decls (base_of w) new.seen s (i + 1) (not_yet script s i old mid new owns at g.0 new.seen g.1 outside) in
      record {
        at = line_added script s i old mid new owns at given.rest g.0 g.1 added
            (λ cell c. absurd (subst IsNoGet (same_Some call (Get cell) (sym is ∙ c)) no_get));
        outcomes = more_outcomes (Accepted call) here outcome.NoMemory (replies_stay script s i old mid new owns at w g.0 g.1 added) (ap call_outcome
            (sym none));
      }

  -- a line that is refused
  line_refused : (r : Refusal) → get_or script i (Refused r) ≡ Refused r → new ≡ mid → OneMore w script s i old new (os ++ outcome.Refused r ∷ [])
  line_refused r here same =
      let seen : new.seen ≡ mid.seen ++ [] = ap (λ (x : SeatState). x.seen) same ∙ sym (append-nil mid.seen) in
      let added : Added script s i old [] = λ d j. absurd j in
      let is : line_call script (i + 1) ≡ None = line_call-verdict script i (Refused r) inside here in
      record {
        at = line_added script s i old mid new owns at
            (subst (λ (x : SeatState). x ≡ record mid { seen = x.seen; conflicts = x.conflicts }) (sym same) refl) [] seen added
            (λ cell c. absurd (none-some (Get cell) (sym is ∙ c)));
        outcomes = more_outcomes (Refused r) here (outcome.Refused r) (replies_stay script s i old mid new owns at w [] seen added) refl;
      }

  -- one line more, accepted or refused
  pub one_line_more : (v : Verdict) (o : Outcome) → get_or script i v ≡ v → mid.config.world ≡ w → RunsLine (turn_at s (i + 1)) v mid o new
      → OneMore w script s i old new (os ++ o ∷ [])
  one_line_more (Accepted call) (outcome.Refused r) here world ran = absurd ran
  one_line_more (Accepted call) (outcome.Reply reply) here world ran = line_made call here world reply ran
  one_line_more (Accepted call) outcome.NoMemory here world ran = line_unmade call here ran.0 ran.1
  one_line_more (Refused r) o here world ran =
      subst (λ (x : Outcome). OneMore w script s i old new (os ++ x ∷ [])) (sym ran.0) (line_refused r here ran.1)

-- ---- between two lines

module _ (script : List Verdict) (s i : ℕ) (old mid : SeatState) (owns : OwnsSession old s) (at : IsAtLine script s i old mid) where
  -- the turn of the next line may come next
  pub IsAtLine-next : i < length script → length script ≤ old.config.calls → IsNext (turn_at s (i + 1)) mid
  IsAtLine-next inside few =
      let o = subst (λ (x : SeatState). OwnsSession x s) (sym at.rest) owns in
      let last = last_number-within s i mid.seen (λ e j q. (at.own e j q).number) in
      let same : mid.config.calls ≡ old.config.calls = ap (λ (x : SeatState). x.config.calls) at.rest in
      record { low = o.0; high = o.1; above = omega arith; few = omega arith }

  -- the seat holds no latch
  pub IsAtLine-idle : old.held ≡ [] → mid.held ≡ []
  IsAtLine-idle idle = ap (λ (x : SeatState). x.held) at.rest ∙ idle

  -- the seat is still the table's
  pub IsAtLine-belongs : (table : TableState) → BelongsTo old table → BelongsTo mid table
  IsAtLine-belongs table b = subst (λ (x : SeatState). BelongsTo x table) (sym at.rest) b

  -- the seat's world is still the table's
  pub IsAtLine-world : (table : TableState) → BelongsTo old table → mid.config.world ≡ table.config.world
  IsAtLine-world table b = ap (λ (x : SeatState). x.config.world) at.rest ∙ ap (λ (x : TableConfig). x.world) b.1

  -- the seat still owns all sessions, where it did
  pub IsAtLine-all : OwnsAll old → OwnsAll mid
  IsAtLine-all all = subst OwnsAll (sym at.rest) (record { first = all.first; last = all.last })

  -- its calls still aren't stopped, where they weren't
  pub IsAtLine-unstopped : (waits : Bool) → (waits ≡ true) ⊎ OwnsAll old → (waits ≡ true) ⊎ OwnsAll mid
  IsAtLine-unstopped waits can = ⊎_elim (λ (e : waits ≡ true). inl e) (λ (all : OwnsAll old). inr (IsAtLine-all all)) can
