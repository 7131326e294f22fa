-- The name at a place.
use Rattle.std.proofs.Common.{◌≡◌, ℕ, ◌<◌, ◌-◌, List, [], ◌∷◌, false, cond, eqb, length, get_or, zero, suc, refl, ap, sym, ◌∙◌, arith}
use Rattle.std.proofs.lemmas.Bool.Decides.{nat_tests}
use Rattle.dt_model.specs.Refusals.{nth_name}

not_zero : (m n : ℕ) → m ≡ suc n → eqb m 0 ≡ false
not_zero m n h = grind (arith, nat_tests)

one_less : (n : ℕ) → suc n - 1 ≡ n
one_less n = omega arith

-- the name at a place, by the two ways to look it up
pub nth_name_at : (names : List (List ℕ)) (n : ℕ) (d : List ℕ) → n < length names → get_or names n d ≡ nth_name names n
nth_name_at [] n d l = absurd (omega (arith, l))
nth_name_at (x ∷ xs) zero d l = refl
nth_name_at (x ∷ xs) (suc n) d l = nth_name_at xs n d (omega (arith, l)) ∙ ap (nth_name xs) (sym (one_less n))
    ∙ ap (λ b. cond b x (nth_name xs (suc n - 1))) (sym (not_zero (suc n) n refl))
