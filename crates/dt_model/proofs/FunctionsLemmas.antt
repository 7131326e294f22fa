-- A function that is changed at one place: its value there, and elsewhere.
use Rattle.std.proofs.Common.{◌≡◌, ◌≢◌, ℕ, true, false, refl, arith}
use Rattle.std.specs.Prelude.{◌==◌}
use Rattle.std.proofs.lemmas.Bool.Decides.{nat_tests}
use Rattle.dt_model.specs.Functions.{with_value}

same : (i : ℕ) → (i == i) ≡ true
same i = grind (arith, nat_tests)

other : (i j : ℕ) → j ≢ i → (j == i) ≡ false
other i j d = grind (arith, nat_tests)

-- there it is the new value
pub with_value-same : {X : Type 0} (f : ℕ → X) (i : ℕ) (v : X) → with_value f i v i ≡ v
with_value-same f i v = rw (same i) refl

-- elsewhere it is as before
pub with_value-other : {X : Type 0} (f : ℕ → X) (i j : ℕ) (v : X) → j ≢ i → with_value f i v j ≡ f j
with_value-other f i j v d = rw (other i j d) refl
