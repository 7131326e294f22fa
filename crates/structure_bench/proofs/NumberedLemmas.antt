-- The list that is timed rises, and grows by one element at its end.
use Rattle.std.proofs.Common.{◌≡◌, ◌<◌, ◌+◌, ◌*◌, ℕ, zero, suc, [], ◌∷◌, ◌++◌, length, refl, ap, ◌∙◌, sym, arith}
use Rattle.node_arena.specs.declared.elements.Elem.{Elem}
use Rattle.node_arena.specs.declared.elements.Held.TheVariants.{Number}
use Rattle.node_arena.specs.Conforming.{IsRising, RisesFrom}
use Rattle.structure_bench.specs.Numbered.{numbered_from}

-- an element by its place
abbrev pub numbered : ℕ → Elem
numbered n = record { at = 3 * n + 1; held = Number (7 * n) }

numbered-more : (n k : ℕ) → numbered_from n k ++ numbered (n + k) ∷ [] ≡ numbered_from n (suc k)
numbered-more n zero = let e : n + 0 ≡ n = omega arith in ap (λ v. numbered v ∷ []) e
numbered-more n (suc k) =
    let e : n + suc k ≡ n + 1 + k = omega arith in
    ap (λ w. numbered n ∷ w) (ap (λ v. numbered_from (n + 1) k ++ numbered v ∷ []) e ∙ numbered-more (n + 1) k)

-- one more element is behind the others
pub numbered-snoc : (k : ℕ) → numbered_from 0 k ++ numbered k ∷ [] ≡ numbered_from 0 (k + 1)
numbered-snoc k =
    let e : suc k ≡ k + 1 = omega arith in
    let f : 0 + k ≡ k = omega arith in
    ap (λ v. numbered_from 0 k ++ numbered v ∷ []) (sym f) ∙ numbered-more 0 k ∙ ap (numbered_from 0) e

numbered-rises : (m n k : ℕ) → m < 3 * n + 1 → RisesFrom m (numbered_from n k)
numbered-rises m n zero h = tt
numbered-rises m n (suc k) h = (h, numbered-rises (3 * n + 1) (n + 1) k (omega arith))

-- the list rises
pub numbered-rising : (n k : ℕ) → IsRising (numbered_from n k)
numbered-rising n zero = tt
numbered-rising n (suc k) = numbered-rises (3 * n + 1) (n + 1) k (omega arith)

-- the list has so many elements
pub numbered-length : (n k : ℕ) → length (numbered_from n k) ≡ k
numbered-length n zero = refl
numbered-length n (suc k) = ap suc (numbered-length (n + 1) k)
