-- Numbers of the generator, and the cells that they stand for.
use Rattle.std.proofs.Common.{◌≡◌, ℕ, ◌+◌, ◌*◌, ◌/◌, ◌%◌, ◌<◌, Bool, true, ltb, List, [], ◌∷◌, ◌++◌, zero, suc, refl, ap, sym, ◌∙◌, add-one, arith}
use Rattle.std.specs.Prelude.{◌&&◌, map}
use Rattle.std.specs.List.{list_all, range_with_len}
use Rattle.std.proofs.lemmas.Bool.{lt-ltb}
use Rattle.std.proofs.lemmas.List.FromFn.{map-range_with_len_more}
use Rattle.dt_model.specs.Verdicts.{all_in_range}
use Rattle.dt_model.proofs.Booleans.{true_both}
use Rattle.sample_world.specs.Sample.{next_number, generated, place_at}

-- ---- numbers

-- the number after the k-th is the next one
pub generated-next : (k : ℕ) → generated (k + 1) ≡ next_number (generated k)
unfolding generated
generated-next k = rw add-one refl

-- as many numbers as j are k and one more
pub generated-after : (k j : ℕ) → j ≡ k + 1 → generated j ≡ next_number (generated k)
generated-after k j e = ap generated e ∙ generated-next k

-- the generator begins with 0
pub generated-none : generated 0 ≡ 0
unfolding generated
generated-none = refl

below : (x : ℕ) → x % 65537 < 65537
below x = omega arith

-- each number is below the prime
pub generated-small : (k : ℕ) → generated k < 65537
unfolding generated
generated-small zero = omega arith
generated-small (suc k) = below (75 * generated k + 74)

-- so is a number that it gave
pub given_small : (x k : ℕ) → x ≡ generated k → x < 65537
given_small x k e = let small = generated-small k in omega arith

-- the number that comes after the k-th
pub given_next : (x y k j : ℕ) → x ≡ generated k → y ≡ next_number x → j ≡ k + 1 → y ≡ generated j
given_next x y k j e next more = next ∙ ap next_number e ∙ sym (generated-after k j more)

-- ---- cells

in_range : (a b : ℕ) → a < 1000 → b < 66 → all_in_range (1000 ∷ 66 ∷ []) (a ∷ b ∷ []) ≡ true
in_range a b h k = true_both (ltb a 1000) (ltb b 66 && true) (lt-ltb a 1000 h) (true_both (ltb b 66) true (lt-ltb b 66 k) refl)

column : (x : ℕ) → x < 65537 → x / 1000 < 66
column x h = omega arith

row : (x : ℕ) → x % 1000 < 1000
row x = omega arith

-- each cell is in the tensor
pub place_at-in_range : (k : ℕ) → all_in_range (1000 ∷ 66 ∷ []) (place_at k) ≡ true
place_at-in_range k = in_range (generated k % 1000) (generated k / 1000) (row (generated k)) (column (generated k) (generated-small k))

-- ---- lists by a function of the index

-- a test that passes for each number passes for all
pub list_all-map_range : {X : Type 0} (p : X → Bool) (f : ℕ → X) (a n : ℕ) → ((k : ℕ) → p (f k) ≡ true) → list_all p (map f (range_with_len a n)) ≡ true
list_all-map_range p f a zero h = refl
list_all-map_range p f a (suc n) h = true_both (p (f a)) (list_all p (map f (range_with_len (a + 1) n))) (h a) (list_all-map_range p f (a + 1) n h)

-- one more at the end, whose number is j
pub map_range-push : {X : Type 0} (f : ℕ → X) (xs : List X) (x : X) (a n j : ℕ) → a + n ≡ j → xs ≡ map f (range_with_len a n) → x ≡ f j
    → xs ++ x ∷ [] ≡ map f (range_with_len a (n + 1))
map_range-push f xs x a n j e is own = ap (λ ys. ys ++ x ∷ []) is ∙ ap (λ y. map f (range_with_len a n) ++ y ∷ []) own ∙ sym (map-range_with_len_more f a n j e)
