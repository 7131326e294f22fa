-- Turns and replies in a longer history.
use Rattle.std.proofs.Common.{◌≡◌, ◌≢◌, ℕ, ◌+◌, ◌≤◌, ◌==◌, Bool, true, false, cond, List, [], ◌∷◌, ◌++◌, refl, sym, ap, ◌∙◌, subst, inl, inr, arith, Some, ne_eqb, eq-eqb, fold}
use Rattle.std.specs.Prelude.{◌||◌, ◌&&◌, ◌⊎◌, if◌then◌else◌, nat_le}
use Rattle.std.proofs.lemmas.Bool.Decides.{nat_tests}
use mathlib.Core.Logic.{dite}
use native.Mathlib.Decide.{ℕ_discrete}
use Rattle.dt_model.specs.declared.calls.Entry.{Entry}
use Rattle.dt_model.specs.declared.declared_tensors.Decls.{Decls}
use Rattle.dt_model.specs.declared.replies.World.{World}
use Rattle.dt_model.specs.Contents.{Contents}
use Rattle.dt_model.specs.Runs.{is_turn, has_turn, reply_of_turn, reply_of_turn_from, reply_to, after_call, base_of}
use Rattle.dt_model.proofs.RunsLemmas.{reply_of_turn_from-none}
use Rattle.fiber_latch.specs.Views.{In}
use Rattle.fiber_latch.specs.Seats.{last_number, later_number}
use Rattle.sessions.specs.ScriptLines.{IsFresh}

-- ---- turns

-- an entry of another session is not at the turn
pub is_turn-session : (s n : ℕ) (e : Entry) → e.turn.session ≢ s → is_turn s n e ≡ false
is_turn-session s n e other = ap (λ (b : Bool). b && (e.turn.number == n)) (ne_eqb e.turn.session s other)

-- an entry of another number is not at the turn
pub is_turn-number : (s n : ℕ) (e : Entry) → e.turn.number ≢ n → is_turn s n e ≡ false
is_turn-number s n e other = ap (λ (b : Bool). (e.turn.session == s) && b) (ne_eqb e.turn.number n other) ∙ never (e.turn.session == s)
  where
    never : (b : Bool) → (b && false) ≡ false
    never true = refl
    never false = refl

-- an entry is at its own turn
pub is_turn-own : (s n : ℕ) (e : Entry) → e.turn.session ≡ s → e.turn.number ≡ n → is_turn s n e ≡ true
is_turn-own s n e same number = ap (λ (b : Bool). b && (e.turn.number == n)) (eq-eqb e.turn.session s same) ∙ eq-eqb e.turn.number n number

-- a turn at which no entry is isn't there
pub has_turn-apart : (s n : ℕ) (es : List Entry) → ((e : Entry) → In e es → is_turn s n e ≡ false) → has_turn es s n ≡ false
has_turn-apart s n [] apart = refl
has_turn-apart s n (x ∷ es) apart =
    ap (λ (b : Bool). b || has_turn es s n) (apart x (inl refl)) ∙ has_turn-apart s n es (λ e i. apart e (inr i))

-- a turn that is there stays
pub has_turn-past : (s n : ℕ) (es more : List Entry) → has_turn es s n ≡ true → has_turn (es ++ more) s n ≡ true
has_turn-past s n [] more h = absurd (cc)
has_turn-past s n (x ∷ es) more h = elim (is_turn s n x) as (λ b. (b || has_turn es s n) ≡ true → (b || has_turn (es ++ more) s n) ≡ true) [
  | true ↦ λ _. refl
  | false ↦ λ k. has_turn-past s n es more k
] h

-- ---- replies

-- entries at other turns change no reply
pub reply_of_turn_from-past : (d : Decls) (m : Contents) (es more : List Entry) (s n : ℕ) → has_turn more s n ≡ false
    → reply_of_turn_from d m (es ++ more) s n ≡ reply_of_turn_from d m es s n
reply_of_turn_from-past d m [] more s n h = reply_of_turn_from-none d m more s n h
reply_of_turn_from-past d m (x ∷ es) more s n h =
    ap (λ r. cond (is_turn s n x) (Some (reply_to d m x.call)) r) (reply_of_turn_from-past d (after_call m x.call) es more s n h)

-- the reply of a turn in a history with more entries behind, none of which is at the turn
pub reply_of_turn-past : (w : World) (es more all : List Entry) (s n : ℕ) → all ≡ es ++ more → ((e : Entry) → In e more → is_turn s n e ≡ false)
    → reply_of_turn w all s n ≡ reply_of_turn w es s n
reply_of_turn-past w es more all s n is apart =
    ap (λ (x : List Entry). reply_of_turn w x s n) is ∙ reply_of_turn_from-past w.decls (base_of w) es more s n (has_turn-apart s n more apart)

-- the replies of a session in a history with more entries behind, none of which is of the session
pub reply_of_turn-fresh : (w : World) (es more all : List Entry) (s n : ℕ) → all ≡ es ++ more → IsFresh s more
    → reply_of_turn w all s n ≡ reply_of_turn w es s n
reply_of_turn-fresh w es more all s n is fresh = reply_of_turn-past w es more all s n is (λ e i. is_turn-session s n e (fresh e i))

-- ---- numbers

fold_within : (s i n : ℕ) (es : List Entry) → n ≤ i → ((e : Entry) → In e es → e.turn.session ≡ s → e.turn.number ≤ i)
    → fold (λ n e. later_number s n e) n es ≤ i
fold_within s i n [] low each = low
fold_within s i n (x ∷ es) low each = dite (ℕ_discrete x.turn.session s)
    (λ (q : x.turn.session ≡ s). let same : later_number s n x
    ≡ x.turn.number = ap (λ (b : Bool). if b then x.turn.number else n) (eq-eqb x.turn.session s q) in
    fold_within s i (later_number s n x) es (subst (λ (m : ℕ). m ≤ i) (sym same) (each x (inl refl) q)) (λ e j. each e (inr j)))
    (λ (q : x.turn.session ≢ s). let same : later_number s n x ≡ n = ap (λ (b : Bool). if b then x.turn.number else n) (ne_eqb x.turn.session s q) in
    fold_within s i (later_number s n x) es (subst (λ (m : ℕ). m ≤ i) (sym same) low) (λ e j. each e (inr j)))

-- where each entry of the session has a number up to i, so has its last
pub last_number-within : (s i : ℕ) (es : List Entry) → ((e : Entry) → In e es → e.turn.session ≡ s → e.turn.number ≤ i) → last_number s es ≤ i
last_number-within s i es each = fold_within s i 0 es (omega arith) each

-- a number up to the next is that or lower
pub le_or_next : (k i : ℕ) → k ≤ i + 1 → (k ≤ i) ⊎ (k ≡ i + 1)
le_or_next k i h = elim (nat_le k i) as (λ b. nat_le k i ≡ b → (k ≤ i) ⊎ (k ≡ i + 1)) [
  | true ↦ λ e. inl (grind (arith, nat_tests))
  | false ↦ λ e. inr (grind (arith, nat_tests))
] refl
