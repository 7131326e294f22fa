-- Tests of each number below an end, and which needed latches below an end a session holds.
use Rattle.std.proofs.Common.{◌≡◌, ℕ, ◌+◌, ◌<◌, Bool, true, false, refl, sym, ◌∙◌, arith, zero, suc, inl, inr, List, [], ◌∷◌, ap}
use Rattle.std.specs.Prelude.{◌⊎◌, ◌&&◌, ◌||◌, ◌==◌, not, nat_le}
use Rattle.std.proofs.lemmas.Bool.Decides.{Decides-below_and, nat_tests}
use Rattle.std.specs.Bool.{Decides}
use Rattle.commit_core.specs.Events.{all_under, holds_below}
use Rattle.std.specs.List.{list_all, list_any}
use Rattle.std.proofs.lemmas.Bool.{cases_eq}
use Rattle.dt_model.specs.declared.calls.Call.{Call}
use Rattle.dt_model.specs.declared.calls.Update.{Update}
use Rattle.dt_model.specs.declared.declared_tensors.Decls.{Decls}
use Rattle.dt_model.specs.Latches.{needs, latch_of_cell}
use Rattle.dt_model.specs.Verdicts.{update_cell}
use Rattle.dt_model.specs.Functions.{with_value}
use Rattle.dt_model.proofs.FunctionsLemmas.{with_value-same}
use Rattle.commit_core.specs.Machine.{journal_latch}

-- a function that is changed at one place has the new value there
pub with_value-at : {X : Type 0} (f : ℕ → X) (i : ℕ) (v : X) (k : ℕ) → k ≡ i → with_value f i v k ≡ v
with_value-at f i v k e = ap (with_value f i v) e ∙ with_value-same f i v

-- ---- tests of each number below an end

passes : (b : Bool) → Decides b (b ≡ true)
passes b = (λ e. e, λ e. e)

decides : (p : ℕ → Bool) (n : ℕ) → Decides (all_under p n) ((k : ℕ) → k < n → p k ≡ true)
decides p n = Decides-below_and p (λ k. p k ≡ true) (all_under p) (λ k. passes (p k)) refl (λ k. refl) n

-- where all below n pass, each does
pub all_under-at : (p : ℕ → Bool) (n k : ℕ) → all_under p n ≡ true → k < n → p k ≡ true
all_under-at p n k h l = (decides p n).0 h k l

-- where each below n passes, all do
pub all_under-from : (p : ℕ → Bool) (n : ℕ) → ((k : ℕ) → k < n → p k ≡ true) → all_under p n ≡ true
all_under-from p n h = (decides p n).1 h

-- one number more that passes
pub all_under-more : (p : ℕ → Bool) (n : ℕ) → all_under p n ≡ true → p n ≡ true → all_under p (n + 1) ≡ true
all_under-more p n h e = let one : n + 1 ≡ suc n = omega arith in rw (one, h, e) refl

-- where one number fails, not all pass
pub all_under-fails : (p : ℕ → Bool) (n k : ℕ) → k < n → p k ≡ false → all_under p n ≡ false
all_under-fails p n k l e = elim (all_under p n) as (λ b. all_under p n ≡ b → b ≡ false) [
  | true ↦ λ h. sym (all_under-at p n k h l) ∙ e
  | false ↦ λ h. refl
] refl

-- each number passes, or there is a least one that fails
pub first_failing : (p : ℕ → Bool) (n : ℕ) → (all_under p n ≡ true) ⊎ ((k : ℕ) × (k < n) × (p k ≡ false) × (all_under p k ≡ true))
first_failing p zero = inl refl
first_failing p (suc n) = elim (first_failing p n) [
  | inl all ↦ elim (p n) as (λ b. p n ≡ b → (all_under p (suc n) ≡ true) ⊎ ((k : ℕ) × (k < suc n) × (p k ≡ false) × (all_under p k ≡ true))) [
    | true ↦ λ e. inl (rw (all, e) refl)
    | false ↦ λ e. inr (n, omega arith, e, all)
  ] refl
  | inr found ↦ inr (found.0, omega (arith, found.1), found.2, found.3)
]

-- what is asked of each needed number below n, where l is needed as well
all_under-or : (needed held : ℕ → Bool) (l n : ℕ) → all_under (λ k. not ((l == k) || needed k) || held k) n
    ≡ ((nat_le n l || held l) && all_under (λ k. not (needed k) || held k) n)
all_under-or needed held l zero = let t : nat_le 0 l ≡ true = grind (arith, nat_tests) in rw t refl
all_under-or needed held l (suc n) = elim (cases_eq l n) [
  | inl same ↦
      let here : (l == n) ≡ true = grind (arith, nat_tests) in
      let above : nat_le (suc n) l ≡ false = grind (arith, nat_tests) in
      let below : nat_le n l ≡ true = grind (arith, nat_tests) in
      let its : held l ≡ held n = ap held same in
      rw (all_under-or needed held l n, here, above, below, its) (once (held n) (needed n) (all_under (λ k. not (needed k) || held k) n))
  | inr other ↦
      let apart : (l == n) ≡ false = grind (arith, nat_tests) in
      let side : nat_le (suc n) l ≡ nat_le n l = same_side n l other in
      rw (all_under-or needed held l n, apart, side) (swapped (not (needed n) || held n) (nat_le n l || held l) (all_under (λ k. not (needed k) || held k) n))
]
  where
    once : (b p a : Bool) → (b && a) ≡ (b && ((not p || b) && a))
    once true true a = refl
    once true false a = refl
    once false p a = refl

    swapped : (b c a : Bool) → (b && (c && a)) ≡ (c && (b && a))
    swapped true true a = refl
    swapped true false a = refl
    swapped false true a = refl
    swapped false false a = refl

    same_side : (n l : ℕ) → (l ≡ n → ⊥) → nat_le (suc n) l ≡ nat_le n l
    same_side n l other = grind (arith, nat_tests)

-- where nothing is needed nothing is asked
none_needed : (held : ℕ → Bool) (n : ℕ) → all_under (λ k. not false || held k) n ≡ true
none_needed held n = all_under-from (λ k. not false || held k) n (λ k l. refl)

-- a get needs the latch of its cell alone
pub holds-get : (holder : ℕ → ℕ) (s l n : ℕ) → (nat_le n l || holder l == s) ≡ all_under (λ k. not (l == k) || holder k == s) n
holds-get holder s l n =
    and_true (nat_le n l || holder l == s) (all_under (λ k. not false || holder k == s) n) (none_needed (λ k. holder k == s) n)
    ∙ sym (all_under-or (λ k. false) (λ k. holder k == s) l n)
    ∙ ap (λ (f : ℕ → Bool). all_under (λ k. not (f k) || holder k == s) n) (λ i k. or_false (l == k) i)
  where
    and_true : (a b : Bool) → b ≡ true → a ≡ (a && b)
    and_true true b e = sym e
    and_true false b e = refl

    or_false : (a : Bool) → (a || false) ≡ a
    or_false true = refl
    or_false false = refl

-- a batch needs the latches of its updates' cells
pub holds-batch : (d : Decls) (holder : ℕ → ℕ) (s n : ℕ) (us : List Update)
    → list_all (λ u. nat_le n (latch_of_cell d (update_cell u)) || holder (latch_of_cell d (update_cell u)) == s) us
    ≡ all_under (λ k. not (list_any (λ u. latch_of_cell d (update_cell u) == k) us) || holder k == s) n
holds-batch d holder s n [] = sym (none_needed (λ k. holder k == s) n)
holds-batch d holder s n (u ∷ us) =
    ap (λ b. (nat_le n (latch_of_cell d (update_cell u)) || holder (latch_of_cell d (update_cell u)) == s) && b) (holds-batch d holder s n us)
    ∙ sym (all_under-or (λ k. list_any (λ x. latch_of_cell d (update_cell x) == k) us) (λ k. holder k == s) (latch_of_cell d (update_cell u)) n)

-- a commit needs the journal's latch besides the call's own
pub holds-journal : (d : Decls) (holder : ℕ → ℕ) (s n : ℕ) (call : Call)
    → ((nat_le n (journal_latch d) || holder (journal_latch d) == s) && all_under (λ k. not (needs d call k) || holder k == s) n)
    ≡ holds_below d holder s call n
holds-journal d holder s n call =
    sym (all_under-or (needs d call) (λ k. holder k == s) (journal_latch d) n)
    ∙ ap (λ (f : ℕ → Bool). all_under (λ k. not (f k) || holder k == s) n) (λ i k. either_way (needs d call k) (journal_latch d) k i)
  where
    either_way : (b : Bool) (j k : ℕ) → ((j == k) || b) ≡ (b || k == j)
    either_way b j k = elim (cases_eq k j) [
      | inl same ↦ let one : (j == k) ≡ true = grind (arith, nat_tests) in let two : (k == j) ≡ true = grind (arith, nat_tests) in rw (one, two) (or_true b)
      | inr other ↦ let one : (j == k) ≡ false = grind (arith, nat_tests) in let two : (k == j) ≡ false = grind (arith, nat_tests) in rw (one, two) (or_false b)
    ]
      where
        or_true : (b : Bool) → true ≡ (b || true)
        or_true true = refl
        or_true false = refl

        or_false : (b : Bool) → b ≡ (b || false)
        or_false true = refl
        or_false false = refl
