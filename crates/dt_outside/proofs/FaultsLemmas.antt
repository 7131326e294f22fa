-- What was written, piece by piece.
use Rattle.std.proofs.Common.{◌≡◌, ◌++◌, ◌+◌, ◌-◌, ◌≤◌, List, ℕ, ap, sym, ◌∙◌, append_assoc, Option, Some, None, take, drop, length, arith, length-take, length-drop}
use Rattle.std.proofs.lemmas.Grind.{common_steps}
use Rattle.std.proofs.Math.Seq.{take-add}
use Rattle.dt_outside.specs.Faults.{IsAppended}

-- what grew by some bytes and then by others grew by all of them
pub IsAppended-trans : (old mid new : Option (List ℕ)) (xs ys : List ℕ) → IsAppended old xs mid → IsAppended mid ys new → IsAppended old (xs ++ ys) new
IsAppended-trans old mid None xs ys p q = tt
IsAppended-trans old None (Some after) xs ys p q = absurd q
IsAppended-trans None (Some m) (Some after) xs ys p q = absurd p
IsAppended-trans (Some before) (Some m) (Some after) xs ys p q = q ∙ ap (λ b. b ++ ys) p ∙ append_assoc before xs ys

-- what is left of a text is all behind a place
pub whole_rest : (s : List ℕ) (a : ℕ) → a ≤ length s → take (length s - a) (drop a s) ≡ drop a s
whole_rest s a h = grind (arith, common_steps)

-- a piece of what is left ends within the text
pub piece_goes_on : (s : List ℕ) (a n : ℕ) → a ≤ length s → n ≤ length (take (length s - a) (drop a s)) → a + n ≤ length s
piece_goes_on s a n h k = omega (arith, k, length-take {A = ℕ}, length-drop {A = ℕ})

-- the first bytes and a piece of what is left are more first bytes
pub piece_joins : (s : List ℕ) (a n : ℕ) → a ≤ length s → take a s ++ take n (take (length s - a) (drop a s)) ≡ take (a + n) s
piece_joins s a n h = rw (whole_rest s a h) (sym (take-add a n s))
