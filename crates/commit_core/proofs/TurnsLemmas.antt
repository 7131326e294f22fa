-- The next accepted call of a session is above the line, and no accepted call is between.
use Rattle.std.proofs.Common.{◌≡◌, ℕ, ◌+◌, ◌-◌, ◌<◌, ◌≤◌, Bool, true, false, List, refl, ap, sym, ◌∙◌, arith, Option, Some, None, zero, suc, inl, inr}
use Rattle.std.specs.Prelude.{◌⊎◌, ◌&&◌, nat_le, slice_get, option_and_then, if◌then◌else◌, find, is_some, unwrap_or}
use Rattle.std.specs.List.{range_with_len}
use Rattle.std.proofs.lemmas.Bool.Decides.{nat_tests}
use Rattle.std.proofs.lemmas.Option.{slice_get_past}
use Rattle.dt_model.specs.declared.calls.Call.{Call}
use Rattle.dt_model.specs.declared.replies.Verdict.{Verdict}
use Rattle.dt_model.specs.declared.replies.World.{World}
use Rattle.dt_model.specs.Runs.{call_of, accepted_call}
use Rattle.commit_core.specs.Turns.{script_of, lines_in, next_after}
use Rattle.commit_core.specs.Events.{position_after}
use Rattle.commit_core.specs.Sound.{IsPast}

-- the first number of a range that passes, with none that passes before it; or none passes
pub record FoundFirst (p : ℕ → Bool) (a n r : ℕ) : Type 0 where
  pub passes : p r ≡ true
  pub low : a ≤ r
  pub before : (k : ℕ) → a ≤ k → k < r → p k ≡ false

find_cases : (p : ℕ → Bool) (a n : ℕ) → ((find p (range_with_len a n) ≡ None) × ((k : ℕ) → a ≤ k → k < a + n → p k ≡ false)) ⊎ ((r : ℕ)
    × (find p (range_with_len a n) ≡ Some r) × FoundFirst p a n r)
find_cases p a zero = inl (refl, λ k low high. absurd (omega arith))
find_cases p a (suc n) = elim (p a) as (λ b. p a ≡ b
    → ((find p (range_with_len a (suc n)) ≡ None) × ((k : ℕ) → a ≤ k → k < a + suc n → p k ≡ false)) ⊎ ((r : ℕ) × (find p (range_with_len a (suc n)) ≡ Some r)
    × FoundFirst p a (suc n) r)) [
      | true ↦ λ e. inr (a, rw e refl, record { passes = e; low = omega arith; before = λ k low high. absurd (omega arith) })
      | false ↦ λ e. elim (find_cases p (a + 1) n) [
        | inl none ↦ inl (rw e none.0, λ k low high. from_first p a e (a + 1 + n) none.1 k low (omega arith))
        | inr found ↦ inr (
          found.0,
          rw e found.1,
          record {
            passes = found.2.passes;
            low = let l = found.2.low in omega arith;
            before =
                from_first p a e found.0 found.2.before;
          },
        )
      ]
    ] refl
  where
    from_first : (p : ℕ → Bool) (a : ℕ) → p a ≡ false → (end : ℕ) → ((k : ℕ) → a + 1 ≤ k → k < end → p k ≡ false) → (k : ℕ) → a ≤ k → k < end → p k ≡ false
    from_first p a e end h k low high = elim (nat_le (a + 1) k) as (λ b. nat_le (a + 1) k ≡ b → p k ≡ false) [
      | true ↦ λ t. h k (grind (arith, nat_tests)) high
      | false ↦ λ t. let same : k ≡ a = grind (arith, nat_tests) in rw same e
    ] refl

no_line : (b c : Bool) (o : Option (List Verdict)) (n : ℕ) → lines_in (if b then o else None) < n
    → option_and_then accepted_call (if b && c then option_and_then (λ script. slice_get script (n - 1)) o else None) ≡ None
no_line false c o n l = refl
no_line true false o n l = refl
no_line true true None n l = refl
no_line true true (Some script) n l = ap (λ x. option_and_then accepted_call x) (slice_get_past script (n - 1) (omega arith))

-- there is no call past the end of a script
call_past : (w : World) (s n : ℕ) → lines_in (script_of w s) < n → call_of w s n ≡ None
call_past w s n l = no_line (nat_le 1 s) (nat_le 1 n) (slice_get w.scripts (s - 1)) n l

none_of : (o : Option Call) → is_some o ≡ false → o ≡ None
none_of None e = refl
none_of (Some x) e = cc

some_of : (o : Option Call) → is_some o ≡ true → (call : Call) × (o ≡ Some call)
some_of None e = cc
some_of (Some x) e = (x, refl)

-- either no accepted call comes after line n, or the next is the first above it
pub next_cases : (w : World) (s n : ℕ) → ((next_after w s n ≡ 0) × ((k : ℕ) → n < k → call_of w s k ≡ None))
    ⊎ ((n < next_after w s n) × ((call : Call) × (call_of w s (next_after w s n) ≡ Some call))
    × ((k : ℕ) → n < k → k < next_after w s n → call_of w s k ≡ None))
next_cases w s n =
    let p : ℕ → Bool = λ k. is_some (call_of w s k) in
    let lines : ℕ = lines_in (script_of w s) in
    elim (find_cases p (n + 1) (lines - n)) [
      | inl none ↦ inl (
        ap (λ o. unwrap_or o 0) none.0,
        λ k above. elim (nat_le k lines) as (λ b. nat_le k lines ≡ b → call_of w s k ≡ None) [
          | true ↦ λ t. let within : k ≤ lines = grind (arith, nat_tests) in none_of (call_of w s k) (none.1 k (omega arith) (omega arith))
          | false ↦ λ t. call_past w s k (grind (arith, nat_tests))
        ] refl,
      )
      | inr found ↦
          let is : next_after w s n ≡ found.0 = ap (λ o. unwrap_or o 0) found.1 in
          let low : n + 1 ≤ found.0 = found.2.low in
          inr (
            omega arith,
            rw is (some_of (call_of w s found.0) found.2.passes),
            λ k above below. none_of (call_of w s k) (found.2.before k (omega arith) (omega arith)),
          )
    ]

-- who goes on after line n has come past it and all before it
pub past_after : (w : World) (s n m : ℕ) → m ≤ n → IsPast (position_after w s n) m
past_after w s n m l = elim (next_cases w s n) [
  | inl none ↦ inl none.0
  | inr found ↦ let above : n < next_after w s n = found.0 in inr (omega arith)
]

-- no accepted call is between line n and the next
pub none_between : (w : World) (s n m : ℕ) (call : Call) → n < m → IsPast (position_after w s n) m → call_of w s m ≡ Some call → ⊥
none_between w s n m call above past e = elim (next_cases w s n) [
  | inl none ↦ let no : None ≡ Some call = sym (none.1 m above) ∙ e in cc
  | inr found ↦ elim past [
    | inl nothing ↦ let l : n < next_after w s n = found.0 in absurd (omega arith)
    | inr below ↦ let no : None ≡ Some call = sym (found.2 m above below) ∙ e in cc
  ]
]

-- who goes on is at an accepted call, or has none left
pub standing_after : (w : World) (s n : ℕ) → (next_after w s n ≡ 0) ⊎ ((call : Call) × (call_of w s (next_after w s n) ≡ Some call))
standing_after w s n = elim (next_cases w s n) [
  | inl none ↦ inl none.0
  | inr found ↦ inr found.1
]
