-- The sessions never block each other: while one has a call left, some take, commit or give is possible.
use Rattle.std.proofs.Common.{◌≡◌, ℕ, ◌+◌, ◌<◌, ◌≤◌, Bool, true, false, refl, ap, ◌∙◌, arith, Some, zero, suc, inl, inr}
use Rattle.std.specs.Prelude.{◌⊎◌, ◌≢◌, ◌&&◌, ◌||◌, ◌==◌, not, nat_le}
use Rattle.std.proofs.lemmas.Bool.{cases_eq, cases_Bool}
use Rattle.std.proofs.lemmas.Bool.Decides.{nat_tests}
use Rattle.dt_model.specs.declared.calls.Call.{Call}
use Rattle.dt_model.specs.declared.replies.World.{World}
use Rattle.dt_model.specs.Runs.{call_of}
use Rattle.commit_core.specs.declared.events.Event.{Event}
use Rattle.commit_core.specs.declared.events.Event.TheVariants.{Take, Commit, Give}
use Rattle.commit_core.specs.Machine.{journal_latch, commit_needs}
use Rattle.commit_core.specs.Events.{Progress, is_possible, is_possible_for, holds_below}
use Rattle.commit_core.specs.Sound.{IsNoQuit}
use Rattle.commit_core.proofs.EventsLemmas.{first_failing}
use Rattle.commit_core.proofs.CoreSteps.{is_session}
use Rattle.commit_core.proofs.Holders.{Holds, holds_below-at, holds_below-from}

missing : (needed : Bool) (h s : ℕ) → (not needed || h == s) ≡ false → (needed ≡ true) × (h ≢ s)
missing true h s e = (refl, λ same. differ h s e same)
  where
    differ : (h s : ℕ) → (h == s) ≡ false → h ≡ s → ⊥
    differ h s e same = grind (arith, nat_tests)
missing false h s e = cc

give_test : (committed : Bool) (h s : ℕ) → committed ≡ true → h ≡ s → (committed && h == s) ≡ true
give_test committed h s c e = grind (arith, nat_tests)

commit_test : (committed all : Bool) → committed ≡ false → all ≡ true → (not committed && all) ≡ true
commit_test committed all c e = rw (c, e) refl

take_test : (committed needed below : Bool) (l j h : ℕ) → committed ≡ false → l ≤ j → needed ≡ true → h ≡ 0 → below ≡ true
    → (not committed && nat_le l j && needed && h == 0 && below) ≡ true
take_test committed needed below l j h c in' n free b = let le : nat_le l j ≡ true = grind (arith, nat_tests) in rw (c, le, n, free, b) refl

-- some take, commit or give is possible
abbrev pub GoesOn : World → Progress → Type 0
GoesOn w p = (e : Event) × IsNoQuit e × (is_possible w p e ≡ true)

-- a latch that a session needs, doesn't hold, and that another session holds
pub record Lacks (w : World) (p : Progress) (s low k : ℕ) : Type 0 where
  pub other : 1 ≤ p.machine.holder k
  pub within : k < journal_latch w.decls + 1
  pub above : low ≤ k

some_one : (n : ℕ) → n ≢ 0 → 1 ≤ n
some_one n other = omega arith

not_below : (w : World) (p : Progress) (s low k : ℕ) (call : Call) → holds_below w.decls p.machine.holder s call low ≡ true
    → commit_needs w.decls call k ≡ true → p.machine.holder k ≢ s → low ≤ k
not_below w p s low k call below need other = elim (nat_le low k) as (λ b. nat_le low k ≡ b → low ≤ k) [
  | true ↦ λ b. grind (arith, nat_tests)
  | false ↦ λ b. let l : k < low = grind (arith, nat_tests) in absurd (other (holds_below-at w.decls p.machine.holder s call low k below l need))
] refl

-- a session with a call can do something, or lacks a latch that another holds
one_step : (w : World) (p : Progress) → Holds w p.machine.holder p.position → (s low : ℕ) (call : Call) → call_of w s (p.position s).number ≡ Some call
    → ((p.position s).committed ≡ false → holds_below w.decls p.machine.holder s call low ≡ true) → GoesOn w p ⊎ ((k : ℕ) × Lacks w p s low k)
one_step w p h s low call is below = elim (cases_Bool (p.position s).committed) [
  | inl committed ↦
      let one : 1 ≤ s = is_session w s (p.position s).number call is in
      let held = h.busy s one committed in
      inl (
        Give s held.0,
        tt,
        ap (is_possible_for w.decls p.machine.holder p.position (Give s held.0)) is
            ∙ give_test (p.position s).committed (p.machine.holder held.0) s committed held.1,
      )
  | inr open' ↦ elim (first_failing (λ k. not (commit_needs w.decls call k) || p.machine.holder k == s) (journal_latch w.decls + 1)) [
    | inl all ↦ inl (
      Commit s,
      tt,
      ap (is_possible_for w.decls p.machine.holder p.position (Commit s)) is
          ∙ commit_test (p.position s).committed (holds_below w.decls p.machine.holder s call (journal_latch w.decls + 1)) open' all,
    )
    | inr found ↦
        let lacks = missing (commit_needs w.decls call found.0) (p.machine.holder found.0) s found.2 in
        let within : found.0 < journal_latch w.decls + 1 = found.1 in
        elim (cases_eq (p.machine.holder found.0) 0) [
          | inl free ↦ inl (
            Take s found.0,
            tt,
            ap (is_possible_for w.decls p.machine.holder p.position (Take s found.0)) is
                ∙ take_test (p.position s).committed (commit_needs w.decls call found.0) (holds_below w.decls p.machine.holder s call found.0) found.0
                (journal_latch w.decls) (p.machine.holder found.0) open' (omega arith) lacks.0 free found.3,
          )
          | inr taken ↦ inr (
            found.0,
            record {
              other = some_one (p.machine.holder found.0) taken;
              within = within;
              above =
                  not_below w p s low found.0 call (below open') lacks.0 lacks.1;
            },
          )
        ]
  ]
]

-- who holds a latch before its commit holds all that it needs up to it
holds_up_to : (w : World) (p : Progress) → Holds w p.machine.holder p.position → (s k : ℕ) (call : Call) → call_of w s (p.position s).number ≡ Some call
    → p.machine.holder k ≡ s → (p.position s).committed ≡ false → holds_below w.decls p.machine.holder s call (k + 1) ≡ true
holds_up_to w p h s k call is own open' =
    let first = h.first s k call is open' own in
    holds_below-from w.decls p.machine.holder s call (k + 1) (λ i low need. elim (cases_eq i k) [
      | inl same ↦ ap p.machine.holder same ∙ own
      | inr other ↦ holds_below-at w.decls p.machine.holder s call k i first.1 (less i low other) need
    ])
  where
    less : (i : ℕ) → i < k + 1 → i ≢ k → i < k
    less i low other = omega arith

-- the fewer latches are left above those that it holds, the sooner the search ends
goes_from : (w : World) (p : Progress) → Holds w p.machine.holder p.position → (fuel s low : ℕ) (call : Call) → call_of w s (p.position s).number ≡ Some call
    → ((p.position s).committed ≡ false → holds_below w.decls p.machine.holder s call low ≡ true) → journal_latch w.decls + 1 ≤ low + fuel → GoesOn w p
goes_from w p h zero s low call is below enough = elim (one_step w p h s low call is below) [
  | inl found ↦ found
  | inr lacks ↦ let within : lacks.0 < journal_latch w.decls + 1 = lacks.1.within in let above : low ≤ lacks.0 = lacks.1.above in absurd (omega arith)
]
goes_from w p h (suc rest) s low call is below enough = elim (one_step w p h s low call is below) [
  | inl found ↦ found
  | inr lacks ↦
      let above : low ≤ lacks.0 = lacks.1.above in
      let its = h.held (p.machine.holder lacks.0) lacks.0 lacks.1.other refl in
      goes_from w p h rest (p.machine.holder lacks.0) (lacks.0
      + 1) its.0 its.1 (holds_up_to w p h (p.machine.holder lacks.0) lacks.0 its.0 its.1 refl) (omega arith)
]

-- while a session has a call, some take, commit or give is possible
pub goes_on : (w : World) (p : Progress) → Holds w p.machine.holder p.position → (s : ℕ) (call : Call) → call_of w s (p.position s).number ≡ Some call
    → GoesOn w p
goes_on w p h s call is = goes_from w p h (journal_latch w.decls + 1) s 0 call is (λ c. refl) (omega arith)
