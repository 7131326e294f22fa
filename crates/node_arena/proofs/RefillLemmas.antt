-- A list of which one element is written in place.
use Rattle.std.proofs.Common.{◌≡◌, ℕ, List, length, drop, ◌∙◌, sym, subst, arith}
use Rattle.std.proofs.lemmas.List.{length-set, take-append-le, take_all}
use Rattle.std.specs.List.{refill, slice_set}

refill_whole : {X : Type 0} (xs : List X) (i : ℕ) (x : X) → refill (length xs) xs (slice_set xs i x) ≡ slice_set xs i x
refill_whole xs i x =
    let same : length (slice_set xs i x) ≡ length xs = length-set xs i x in
    take-append-le (length xs) (slice_set xs i x) (drop (length (slice_set xs i x)) xs) (omega (arith, same))
    ∙ take_all (length xs) (slice_set xs i x) (omega (arith, same))

-- what is written into a copy of the list is written into the list
pub refill-set : {X : Type 0} (xs copy : List X) (i : ℕ) (x : X) → copy ≡ xs → refill (length xs) xs (slice_set copy i x) ≡ slice_set xs i x
refill-set xs copy i x e = subst (λ v. refill (length xs) xs (slice_set v i x) ≡ slice_set xs i x) (sym e) (refill_whole xs i x)
