-- Elements at odd coordinates.
use Rattle.std.proofs.Common.{◌≡◌, ◌<◌, ◌+◌, ◌*◌, ℕ, zero, suc, List, [], ◌∷◌, ◌++◌, ap, ◌∙◌, sym, subst, arith}
use Rattle.node_arena.specs.declared.elements.Elem.{Elem}
use Rattle.node_arena.specs.Conforming.{RisesFrom, IsRising}
use Rattle.iter_gen.specs.Trials.{odd, odds_from}

more : (n k : ℕ) → odds_from n k ++ odd (n + k) ∷ [] ≡ odds_from n (suc k)
more n zero = let e : n + 0 ≡ n = omega arith in ap (λ v. odd v ∷ []) e
more n (suc k) = let e : n + suc k ≡ n + 1 + k = omega arith in ap (λ v. odd n ∷ (odds_from (n + 1) k ++ odd v ∷ [])) e ∙ ap (λ r. odd n ∷ r) (more (n + 1) k)

-- one more
pub odds_snoc : (k : ℕ) → odds_from 0 (k + 1) ≡ odds_from 0 k ++ odd k ∷ []
odds_snoc k =
    let e : k + 1 ≡ suc k = omega arith in
    let f : 0 + k ≡ k = omega arith in
    ap (odds_from 0) e ∙ sym (more 0 k) ∙ ap (λ v. odds_from 0 k ++ odd v ∷ []) f

rises : (m n k : ℕ) → m < 2 * n + 1 → RisesFrom m (odds_from n k)
rises m n zero h = tt
rises m n (suc k) h = (h, rises (2 * n + 1) (n + 1) k (omega arith))

odds-rising : (k : ℕ) → IsRising (odds_from 0 k)
odds-rising zero = tt
odds-rising (suc k) = rises (2 * 0 + 1) (0 + 1) k (omega arith)

-- the elements at odd coordinates rise
pub rising_of : (xs : List Elem) (k : ℕ) → xs ≡ odds_from 0 k → IsRising xs
rising_of xs k e = subst IsRising (sym e) (odds-rising k)
