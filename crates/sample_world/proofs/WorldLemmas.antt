-- The world of a number up to 200,000 is valid.
use Rattle.std.proofs.Common.{◌≡◌, ℕ, ◌+◌, ◌-◌, ◌*◌, ◌≤◌, true, List, [], ◌∷◌, length, zero, suc, refl, ap, ◌∙◌, arith, sum_by}
use Rattle.std.specs.Prelude.{map, nat_le, ◌==◌}
use Rattle.std.specs.List.{list_all, range_with_len}
use Rattle.std.proofs.lemmas.Bool.{le-leb}
use Rattle.std.proofs.lemmas.List.FromFn.{length-map-range_with_len}
use Rattle.std.proofs.lemmas.List.Sums.{sum_by-cons}
use Rattle.dt_model.specs.declared.replies.Verdict.{Verdict}
use Rattle.dt_model.specs.declared.limits.TheConstants.{MOST_CALLS}
use Rattle.dt_model.specs.Verdicts.{all_in_range}
use Rattle.dt_model.specs.Worlds.{IsValid, updates_in, verdict_is_valid, loads_are_valid, decls_are_valid}
use Rattle.dt_model.proofs.Booleans.{true_both}
use Rattle.sample_world.specs.Sample.{sample_decls, sample_line, sample_lines, calls_each, sample_call, sample_script, sample_world, place_at}
use Rattle.sample_world.proofs.CellsLemmas.{place_at-in_range, list_all-map_range}

-- equal terms add up to a multiple
sum_by-equal : {X : Type 0} (g : X → ℕ) (f : ℕ → X) (a n v : ℕ) → ((k : ℕ) → g (f k) ≡ v) → sum_by g (map f (range_with_len a n)) ≡ n * v
sum_by-equal g f a zero v h = zero_times v
  where
    zero_times : (v : ℕ) → 0 ≡ 0 * v
    zero_times v = omega arith
sum_by-equal g f a (suc n) v h =
    sum_by-cons g (f a) (map f (range_with_len (a + 1) n)) ∙ ap (λ x. g (f a) + x) (sum_by-equal g f (a + 1) n v h) ∙ ap (λ x. x + n * v) (h a) ∙ one_more n v
  where
    one_more : (n v : ℕ) → v + n * v ≡ suc n * v
    one_more n v = omega arith

-- the declarations are valid
pub decls_are_valid-sample : decls_are_valid sample_decls ≡ true
unfolding sample_decls
decls_are_valid-sample = refl

-- each loaded line is in range
line_in_range : (n : ℕ) → loads_are_valid sample_decls (0, sample_lines n) ≡ true
unfolding sample_decls
line_in_range n = list_all-map_range (λ (line : List ℕ × ℕ). all_in_range (1000 ∷ 66 ∷ []) line.0) sample_line 1 n (λ k. place_at-in_range k)

-- each call is valid
script_is_valid : (n s : ℕ) → list_all (verdict_is_valid sample_decls) (sample_script n s) ≡ true
unfolding sample_decls
script_is_valid n s = list_all-map_range (verdict_is_valid sample_decls) _ 1 (calls_each n) (λ j.
    true_both (all_in_range (1000 ∷ 66 ∷ []) (place_at (n + (s - 1) * calls_each n + j))) true (place_at-in_range (n + (s - 1) * calls_each n + j)) refl)

-- how many calls and updates a script has
length-sample_script : (n s : ℕ) → length (sample_script n s) ≡ calls_each n
length-sample_script n s = length-map-range_with_len _ 1 (calls_each n)

updates-sample_script : (n s : ℕ) → sum_by updates_in (sample_script n s) ≡ calls_each n
updates-sample_script n s = sum_by-equal updates_in (sample_call n s) 1 (calls_each n) 1 (λ j. refl) ∙ times_one (calls_each n)
  where
    times_one : (q : ℕ) → q * 1 ≡ q
    times_one q = omega arith

-- no session has more than a quarter as many calls
pub calls_each-quarter : (n : ℕ) → calls_each n * 4 ≤ n
calls_each-quarter n = omega arith

-- how many lines and updates there are together
sizes : (n : ℕ) → n ≤ 200000 → sum_by length (sample_lines n ∷ []) + sum_by (λ s. sum_by updates_in s) (map (sample_script n) (range_with_len 1 4)) ≤ 700000
sizes n few =
    let lines = sum_by-cons length (sample_lines n) [] in
    let count : length (sample_lines n) ≡ n = length-map-range_with_len sample_line 1 n in
    let updates = sum_by-equal (λ (s : List Verdict). sum_by updates_in s) (sample_script n) 1 4 (calls_each n) (updates-sample_script n) in
    let quarter = calls_each-quarter n in
    fits (calls_each n) n _ _ _ few quarter lines count updates
  where
    fits : (q n a b c : ℕ) → n ≤ 200000 → q * 4 ≤ n → a ≡ b + 0 → b ≡ n → c ≡ 4 * q → a + c ≤ 700000
    fits q n a b c few quarter lines count updates = omega arith

-- there are loaded lines for the tensor
tensors_of : (n : ℕ) → (length (sample_lines n ∷ []) == length sample_decls.tensors) ≡ true
unfolding sample_decls
tensors_of n = refl

-- the world is valid
pub IsValid-sample : (n : ℕ) → n ≤ 200000 → IsValid (sample_world n)
unfolding sample_world
IsValid-sample n few =
    record {
      decls = decls_are_valid-sample;
      sessions = refl;
      calls = list_all-map_range (λ (s : List Verdict). nat_le (length s) MOST_CALLS) (sample_script n) 1 4
          (λ s. let is = length-sample_script n s in le-leb (length (sample_script n s)) 65536 (omega arith));
      sizes = le-leb _ 700000 (sizes n few);
      tensors = tensors_of n;
      loads = true_both (loads_are_valid sample_decls (0, sample_lines n)) true (line_in_range n) refl;
      accepted = list_all-map_range (list_all (verdict_is_valid sample_decls)) (sample_script n) 1 4 (script_is_valid n);
    }
