-- The core's events are takes, commits and gives of the machine.
use Rattle.std.proofs.Common.{◌≡◌, ℕ, ◌+◌, ◌<◌, ◌≤◌, Bool, true, false, refl, ap, sym, ◌∙◌, arith, subst, Some, zero, suc, inl, inr}
use Rattle.std.specs.Prelude.{◌≢◌, ◌&&◌, ◌==◌, if◌then◌else◌, nat_lt, All}
use Rattle.std.proofs.lemmas.Bool.{cases_eq, or_cases}
use Rattle.std.proofs.lemmas.Bool.Decides.{nat_tests, Decides-eqb}
use Rattle.dt_model.specs.declared.calls.Call.{Call}
use Rattle.dt_model.specs.declared.calls.Entry.{Entry}
use Rattle.dt_model.specs.declared.replies.World.{World}
use Rattle.dt_model.specs.Latches.{needs}
use Rattle.dt_model.specs.Worlds.{IsValid}
use Rattle.dt_model.specs.Runs.{call_of}
use Rattle.dt_model.specs.Functions.{with_value}
use Rattle.commit_core.proofs.EventsLemmas.{with_value-at}
use Rattle.dt_model.proofs.FunctionsLemmas.{with_value-other}
use Rattle.commit_core.specs.declared.events.Position.{Position}
use Rattle.commit_core.specs.Machine.{Machine, Reached, gives, Gives, nothing, one_more, CanTake, CanCommit, journal_latch, commit_needs}
use Rattle.commit_core.specs.Events.{holds_below, without_session}
use Rattle.commit_core.proofs.NeededLatches.{needs_below}
use Rattle.commit_core.proofs.ValidScripts.{call_is_valid_at}
use Rattle.commit_core.proofs.CoreSteps.{is_session}
use Rattle.commit_core.proofs.Holders.{Holds, IsTakePossible, holds_below-at}

-- what a commit needs is among the World's latches
needed_within : (w : World) (s n : ℕ) (call : Call) (l : ℕ) → IsValid w → call_of w s n ≡ Some call → commit_needs w.decls call l ≡ true
    → l < journal_latch w.decls + 1
needed_within w s n call l valid is need = elim (or_cases (needs w.decls call l) (l == journal_latch w.decls) need) [
  | inl own ↦ let below : l < journal_latch w.decls = needs_below w.decls call l valid.decls (call_is_valid_at w s n call valid is) own in omega arith
  | inr last ↦ let same : l ≡ journal_latch w.decls = (Decides-eqb l (journal_latch w.decls)).0 last in omega arith
]

-- the machine can make a possible take
pub CanTake-possible : (w : World) (m : Machine) (position : ℕ → Position) (s l : ℕ) (call : Call) → call_of w s (position s).number ≡ Some call
    → IsTakePossible w.decls m.holder (position s) s l call → Holds w m.holder position → CanTake w.decls m s l
CanTake-possible w m position s l call is t h =
    let some : 1 ≤ s = is_session w s (position s).number call is in
    record { session = omega arith; latch = t.within; free = t.free; above = λ k e. below k some e }
  where
    below : (k : ℕ) → 1 ≤ s → m.holder k ≡ s → k < l
    below k some e = elim (nat_lt k l) as (λ b. nat_lt k l ≡ b → k < l) [
      | true ↦ λ b. grind (arith, nat_tests)
      | false ↦ λ b. elim (cases_eq k l) [
        | inl same ↦ let free : m.holder k ≡ 0 = ap m.holder same ∙ t.free in absurd (omega arith)
        | inr other ↦
            let low : l < k = grind (arith, nat_tests) in
            let own : m.holder l ≡ s = holds_below-at w.decls m.holder s call k l (h.first s k call is t.uncommitted e).1 low t.needed in
            let free : m.holder l ≡ 0 = t.free in
            absurd (omega arith)
      ]
    ] refl

-- the machine can make a possible commit
pub CanCommit-possible : (w : World) (m : Machine) (position : ℕ → Position) (s : ℕ) (e : Entry) → IsValid w → call_of w s (position s).number ≡ Some e.call
    → e.turn.session ≡ s → holds_below w.decls m.holder s e.call (journal_latch w.decls + 1) ≡ true
    → All (λ f. f.turn.session ≡ e.turn.session → f.turn.number < e.turn.number) m.history → CanCommit w.decls m e
CanCommit-possible w m position s e valid is session all above =
    let some : 1 ≤ s = is_session w s (position s).number e.call is in
    record {
      session = omega arith;
      valid = call_is_valid_at w s (position s).number e.call valid is;
      holds = λ l need. holds_below-at w.decls m.holder s e.call (journal_latch w.decls
          + 1) l all (needed_within w s (position s).number e.call l valid is need) need ∙ sym session;
      above = above;
    }

-- ---- a quit is gives

-- the holders after the first n latches are given back by session s
abbrev given_below : (ℕ → ℕ) → ℕ → ℕ → ℕ → ℕ
given_below f s n k = if nat_lt k n && f k == s then 0 else f k

none_given : (f : ℕ → ℕ) (s k : ℕ) → given_below f s 0 k ≡ f k
none_given f s k = let t : nat_lt k 0 ≡ false = grind (arith, nat_tests) in rw t refl

given_more : (f : ℕ → ℕ) (s n k : ℕ) → f n ≡ s → with_value (given_below f s n) n 0 k ≡ given_below f s (suc n) k
given_more f s n k own = elim (cases_eq k n) [
  | inl same ↦ with_value-at (given_below f s n) n 0 k same
      ∙ sym (let a : nat_lt k (suc n) ≡ true = grind (arith, nat_tests) in let own' : f k ≡ s = ap f same ∙ own in let b : (f k == s)
      ≡ true = grind (arith, nat_tests) in rw (a, b) refl)
  | inr other ↦ with_value-other (given_below f s n) n k 0 other ∙ ap (λ t. if t && f k == s then 0 else f k) (same_side k n other)
]
  where
    same_side : (k n : ℕ) → k ≢ n → nat_lt k n ≡ nat_lt k (suc n)
    same_side k n other = grind (arith, nat_tests)

given_no_more : (f : ℕ → ℕ) (s n k : ℕ) → f n ≢ s → given_below f s n k ≡ given_below f s (suc n) k
given_no_more f s n k other = elim (cases_eq k n) [
  | inl same ↦ let not_own : f k ≢ s = λ e. other (sym (ap f same) ∙ e) in let t : (f k == s)
      ≡ false = grind (arith, nat_tests) in ap (λ b. if nat_lt k n && b then 0 else f k) t ∙ neither (nat_lt k n) (f k)
      ∙ sym (ap (λ b. if nat_lt k (suc n) && b then 0 else f k) t ∙ neither (nat_lt k (suc n)) (f k))
  | inr apart ↦ ap (λ t. if t && f k == s then 0 else f k) (same_side k n apart)
]
  where
    same_side : (k n : ℕ) → k ≢ n → nat_lt k n ≡ nat_lt k (suc n)
    same_side k n other = grind (arith, nat_tests)

    neither : (a : Bool) (x : ℕ) → (if a && false then 0 else x) ≡ x
    neither true x = refl
    neither false x = refl

still_held : (f : ℕ → ℕ) (s n : ℕ) → given_below f s n n ≡ f n
still_held f s n = let t : nat_lt n n ≡ false = grind (arith, nat_tests) in rw t refl

-- the machine after the first n latches are given back by session s
abbrev gave : Machine → ℕ → ℕ → Machine
gave m s n = record { holder = given_below m.holder s n; content = m.content; history = m.history }

gives_below : (m : Machine) (s : ℕ) → 0 < s → (n : ℕ) → Gives s m (gave m s n)
gives_below m s some zero = subst (λ f. Gives s m (record { holder = f; content = m.content; history = m.history })) (λ i k. sym (none_given m.holder s k) i)
    nothing
gives_below m s some (suc n) = elim (cases_eq (m.holder n) s) [
  | inl own ↦ subst (λ f. Gives s m (record { holder = f; content = m.content; history = m.history })) (λ i k. given_more m.holder s n k own i)
      (one_more (gave m s n) n (gives_below m s some n) (record { session = some; held = still_held m.holder s n ∙ own }))
  | inr other ↦ subst (λ f. Gives s m (record { holder = f; content = m.content; history = m.history })) (λ i k. given_no_more m.holder s n k other i)
      (gives_below m s some n)
]

all_given : (w : World) (f : ℕ → ℕ) (s : ℕ) → 1 ≤ s → ((l : ℕ) → journal_latch w.decls < l → f l ≡ 0) → (k : ℕ)
    → given_below f s (journal_latch w.decls + 1) k ≡ without_session f s k
all_given w f s some within k = elim (nat_lt k (journal_latch w.decls + 1)) as (λ b. nat_lt k (journal_latch w.decls + 1) ≡ b
    → given_below f s (journal_latch w.decls + 1) k ≡ without_session f s k) [
      | true ↦ λ t. rw t refl
      | false ↦ λ t.
          let past : journal_latch w.decls < k = grind (arith, nat_tests) in
          let free : f k ≡ 0 = within k past in
          let not_own : (f k == s) ≡ false = grind (arith, nat_tests) in
          rw (t, not_own) refl
    ] refl

-- who gives back all that it holds makes gives
pub Gives-quit : (w : World) (m : Machine) (s : ℕ) → 1 ≤ s → ((l : ℕ) → journal_latch w.decls < l → m.holder l ≡ 0)
    → Gives s m (record { holder = without_session m.holder s; content = m.content; history = m.history })
Gives-quit w m s some within = subst (λ f. Gives s m (record { holder = f; content = m.content; history = m.history }))
    (λ i k. all_given w m.holder s some within k i) (gives_below m s (omega arith) (journal_latch w.decls + 1))

-- what gives lead to is reached
pub Reached-gives : (w : World) (s : ℕ) (m n : Machine) → Reached w m → Gives s m n → Reached w n
Reached-gives w s m _ r nothing = r
Reached-gives w s m _ r (one_more n l g can) = gives n s l (Reached-gives w s m n r g) can
