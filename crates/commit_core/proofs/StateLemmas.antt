-- A core's lists as the functions that they stand for.
use Rattle.std.proofs.Common.{◌≡◌, ℕ, ◌<◌, ◌≤◌, true, false, List, [], ◌∷◌, length, get_or, set, refl, ap, ◌∙◌, arith, zero, suc, get_or-set_same, get_or-set_other, ◌≢◌}
use Rattle.std.specs.Prelude.{slice_index, ◌==◌, if◌then◌else◌}
use Rattle.std.proofs.lemmas.Bool.Decides.{nat_tests}
use Rattle.commit_core.specs.declared.events.Position.{Position}
use Rattle.commit_core.specs.State.{position_in, no_position}
use Rattle.dt_model.specs.Functions.{with_value}

get_or-past : {X : Type 0} (xs : List X) (i : ℕ) (d : X) → length xs ≤ i → get_or xs i d ≡ d
get_or-past [] i d l = refl
get_or-past (x ∷ xs) zero d l = absurd (omega arith)
get_or-past (x ∷ xs) (suc i) d l = get_or-past xs i d (omega arith)

-- a session behind the last has no call
pub position_in-past : (positions : List Position) (s : ℕ) → length positions ≤ s → position_in positions s ≡ no_position
position_in-past positions s l = get_or-past positions s no_position l

-- a latch behind the last has no holder
pub slice_index-past : (xs : List ℕ) (i : ℕ) → length xs ≤ i → slice_index xs i ≡ 0
slice_index-past xs i l = get_or-past xs i 0 l

changed_at : {X : Type 0} (xs : List X) (i : ℕ) (x d : X) (k : ℕ) → i < length xs → get_or (set xs i x) k d ≡ (if k == i then x else get_or xs k d)
changed_at xs i x d k l = elim (k == i) as (λ b. (k == i) ≡ b → get_or (set xs i x) k d ≡ (if b then x else get_or xs k d)) [
  | true ↦ λ e. let same : k ≡ i = grind (arith, nat_tests) in ap (λ j. get_or (set xs i x) j d) same ∙ get_or-set_same xs i x d l
  | false ↦ λ e. let other : k ≢ i = grind (arith, nat_tests) in get_or-set_other xs i k x d other
] refl

-- a latch with a new holder
pub slice_index-set : (xs : List ℕ) (l s : ℕ) → l < length xs → slice_index (set xs l s) ≡ with_value (slice_index xs) l s
slice_index-set xs l s in' = λ i k. changed_at xs l s 0 k in' i

-- a session at a new place
pub position_in-set : (positions : List Position) (s : ℕ) (x : Position) → s < length positions
    → position_in (set positions s x) ≡ with_value (position_in positions) s x
position_in-set positions s x in' = λ i k. changed_at positions s x no_position k in' i
