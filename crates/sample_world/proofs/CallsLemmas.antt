-- The calls that the scripts of a sample have for each turn.
use Rattle.std.proofs.Common.{◌≡◌, ℕ, ◌+◌, ◌-◌, ◌<◌, ◌≤◌, Bool, true, false, List, [], ◌∷◌, zero, suc, refl, ap, sym, ◌∙◌, subst, arith, Option, Some, None}
use Rattle.std.specs.Prelude.{map, slice_get, nat_le, ◌&&◌, if◌then◌else◌, option_and_then}
use Rattle.std.specs.List.{range_with_len}
use Rattle.std.proofs.lemmas.Bool.{le-leb, leb-true}
use Rattle.std.proofs.lemmas.Option.{same_Some}
use Rattle.dt_model.specs.declared.calls.Call.{Call}
use Rattle.dt_model.specs.declared.calls.Call.TheVariants.{Batch}
use Rattle.dt_model.specs.declared.replies.Verdict.{Verdict}
use Rattle.dt_model.specs.declared.replies.Verdict.TheVariants.{Accepted}
use Rattle.dt_model.specs.Runs.{call_of, accepted_call, verdict_of_turn}
use Rattle.sample_world.specs.Sample.{calls_each, sample_add, sample_call, sample_script, sample_world}

-- ---- lists by a function of the index

-- an element of the list is there under an index below its length, and has the index' number
pub slice_get-map_range : {X : Type 0} (f : ℕ → X) (a n i : ℕ) (x : X) → slice_get (map f (range_with_len a n)) i ≡ Some x → (i < n) × (x ≡ f (a + i))
slice_get-map_range f a zero i x e = absurd (cc)
slice_get-map_range f a (suc n) zero x e = (omega arith, sym (same_Some (f a) x e) ∙ ap f (omega arith))
slice_get-map_range f a (suc n) (suc i) x e =
    let r = slice_get-map_range f (a + 1) n i x e in
    let b = r.0 in
    (omega arith, r.1 ∙ ap f (omega arith))

-- under each such index there is one
pub slice_get-map_range_at : {X : Type 0} (f : ℕ → X) (a n i : ℕ) → i < n → slice_get (map f (range_with_len a n)) i ≡ Some (f (a + i))
slice_get-map_range_at f a zero i l = absurd (omega arith)
slice_get-map_range_at f a (suc n) zero l = ap (λ k. Some (f k)) (omega arith)
slice_get-map_range_at f a (suc n) (suc i) l = slice_get-map_range_at f (a + 1) n i (omega arith) ∙ ap (λ k. Some (f k)) (omega arith)

-- ---- turns

-- the call of a turn of the sample: its session and number are there, and the call is the batch of its add
pub record IsSampleCall (n s j : ℕ) (call : Call) : Type 0 where
  pub low : 1 ≤ s
  pub high : s ≤ 4
  pub first : 1 ≤ j
  pub last : j ≤ calls_each n
  pub batch : call ≡ Batch (sample_add n s j ∷ [])

verdict_there : (o : Option Verdict) (call : Call) → option_and_then accepted_call o ≡ Some call → (v : Verdict) × (o ≡ Some v)
verdict_there None call e = absurd (cc)
verdict_there (Some v) call e = (v, refl)

turn_there : (a b : Bool) (o : Option (List Verdict)) (j : ℕ) (v : Verdict)
    → (if a && b then option_and_then (λ script. slice_get script (j - 1)) o else None) ≡ Some v
    → (script : List Verdict) × (o ≡ Some script) × (slice_get script (j - 1) ≡ Some v) × (a ≡ true) × (b ≡ true)
turn_there false b o j v e = absurd (cc)
turn_there true false o j v e = absurd (cc)
turn_there true true None j v e = absurd (cc)
turn_there true true (Some script) j v e = (script, refl, e, refl, refl)

accepted_same : (c d : Call) → accepted_call (Accepted c) ≡ Some d → d ≡ c
accepted_same c d e = sym (same_Some c d e)

-- an accepted call of the world is one of the sample
pub call_of-sample : (n s j : ℕ) (call : Call) → call_of (sample_world n) s j ≡ Some call → IsSampleCall n s j call
unfolding sample_world
call_of-sample n s j call e =
    let scripts = map (sample_script n) (range_with_len 1 4) in
    let v = verdict_there (verdict_of_turn scripts s j) call e in
    let t = turn_there (nat_le 1 s) (nat_le 1 j) (slice_get scripts (s - 1)) j v.0 v.1 in
    let own = slice_get-map_range (sample_script n) 1 4 (s - 1) t.0 t.1 in
    let number = slice_get-map_range (sample_call n s) 1 (calls_each n) (j - 1) v.0
    (subst (λ script. slice_get script (j - 1) ≡ Some v.0) (own.1 ∙ ap (sample_script n) (from_one s (leb-true 1 s t.3))) t.2) in
    let below = own.0 in
    let line = number.0 in
    let one_s = leb-true 1 s t.3 in
    let one_j = leb-true 1 j t.4 in
    record {
      low = one_s;
      high = omega arith;
      first = one_j;
      last = omega arith;
      batch = accepted_same (Batch (sample_add n s j ∷ [])) call
          (subst (λ (x : Verdict). accepted_call x ≡ Some call) (number.1 ∙ ap (sample_call n s) (from_one j one_j))
          (subst (λ (o : Option Verdict). option_and_then accepted_call o ≡ Some call) v.1 e));
    }
  where
    from_one : (k : ℕ) → 1 ≤ k → 1 + (k - 1) ≡ k
    from_one k l = omega arith

if_both : (a b : Bool) (o : Option Verdict) → a ≡ true → b ≡ true → (if a && b then o else None) ≡ o
if_both true true o e f = refl
if_both true false o e f = absurd (cc)
if_both false b o e f = absurd (cc)

-- the world has a call for each of its turns
pub call_of-sample_at : (n s j : ℕ) → 1 ≤ s → s ≤ 4 → 1 ≤ j → j ≤ calls_each n → call_of (sample_world n) s j ≡ Some (Batch (sample_add n s j ∷ []))
unfolding sample_world
call_of-sample_at n s j low high first last =
    let scripts = map (sample_script n) (range_with_len 1 4) in
    ap (option_and_then accepted_call)
    (if_both (nat_le 1 s) (nat_le 1 j) (option_and_then (λ script. slice_get script (j - 1)) (slice_get scripts (s - 1))) (le-leb 1 s low) (le-leb 1 j first)
    ∙ ap (option_and_then (λ script. slice_get script (j - 1)))
    (slice_get-map_range_at (sample_script n) 1 4 (s - 1) (omega arith) ∙ ap (λ k. Some (sample_script n k)) (from_one s low))
    ∙ slice_get-map_range_at (sample_call n s) 1 (calls_each n) (j - 1) (omega arith) ∙ ap (λ k. Some (sample_call n s k)) (from_one j first))
  where
    from_one : (k : ℕ) → 1 ≤ k → 1 + (k - 1) ≡ k
    from_one k l = omega arith
