-- What adding up neighbours leaves of the totals and of the order.
use Rattle.std.proofs.Common.{◌≡◌, ℕ, ◌+◌, ◌%◌, ◌^◌, ◌<◌, Bool, true, false, cond, List, [], ◌∷◌}
use Rattle.std.proofs.Common.{get_or, refl, ap, sym, ◌∙◌, arith, add-one, All, sum_by, Ordering, Less, Equal, Greater}
use Rattle.std.specs.Prelude.{◌==◌, nat_eq}
use Rattle.std.specs.Cmp.Lexicographic.{pointwise, slice_cmp, bytes_decides, texts_ties}
use Rattle.std.specs.Ordering.{nat_cmp, is_lt, is_eq, ordering_reverse, ordering_then}
use Rattle.std.specs.List.Sorted.{IsPermutation, IsSorted}
use Rattle.std.proofs.Math.Nat.{mod-add-mod, add-mod-mod}
use Rattle.std.proofs.lemmas.Bool.Decides.{nat_tests}
use Rattle.std.proofs.lemmas.Cmp.{nat_list_cmp_total, alike_right}
use Rattle.std.proofs.lemmas.List.Elements.{All-nil, All-cons}
use Rattle.std.proofs.lemmas.List.Kept.{AllPairs-cons}
use Rattle.std.proofs.lemmas.List.Sorted.{sum_by-IsPermutation}
use Rattle.std.proofs.lemmas.List.Sums.{sum_by-cons}
use Rattle.dt_model.specs.Pairs.{total_at, IsAscending}
use Rattle.dt_model.specs.Gathering.{with_nonzero, gathered_onto, gathered, IsNonDescending}

-- ---- totals

-- a pair's value, where it has these coordinates
abbrev value_at : List ℕ → List ℕ × ℕ → ℕ
value_at c p = cond (pointwise nat_eq p.0 c) p.1 0

-- the sum of the values at these coordinates
abbrev sum_at : List ℕ → List (List ℕ × ℕ) → ℕ
sum_at c ps = sum_by (value_at c) ps

-- a zero adds nothing
sum_at-with_nonzero : (c : List ℕ) (p : List ℕ × ℕ) (ps : List (List ℕ × ℕ)) → sum_at c (with_nonzero p ps) ≡ value_at c p + sum_at c ps
sum_at-with_nonzero c p ps = by_zero (p.1 == 0) refl
  where
    by_zero : (b : Bool) → (p.1 == 0) ≡ b → sum_at c (cond b ps (p ∷ ps)) ≡ value_at c p + sum_at c ps
    by_zero true e = let none : p.1 ≡ 0 = grind (arith, nat_tests) in rw none
        (elim (pointwise nat_eq p.0 c) as (λ b. sum_at c ps ≡ cond b 0 0 + sum_at c ps) [ true ↦ omega arith | false ↦ omega arith ])
    by_zero false e = sum_by-cons (value_at c) p ps

-- equal numbers modulo 2^64 stay equal with more
more_same : (a x y : ℕ) → x % 2 ^ 64 ≡ y % 2 ^ 64 → (a + x) % 2 ^ 64 ≡ (a + y) % 2 ^ 64
more_same a x y e = sym (add-mod-mod a x (2 ^ 64)) ∙ ap (λ z. (a + z) % 2 ^ 64) e ∙ add-mod-mod a y (2 ^ 64)

-- two values at the same coordinates, added up first
both_at : (b : Bool) (x y s : ℕ) → (cond b ((x + y) % 2 ^ 64) 0 + s) % 2 ^ 64 ≡ (cond b x 0 + (cond b y 0 + s)) % 2 ^ 64
both_at true x y s = mod-add-mod (x + y) (2 ^ 64) s ∙ ap (λ z. z % 2 ^ 64) (omega arith)
both_at false x y s = ap (λ z. z % 2 ^ 64) (omega arith)

sum_at-gathered_onto : (c : List ℕ) (p : List ℕ × ℕ) (qs : List (List ℕ × ℕ)) → sum_at c (gathered_onto p qs) % 2 ^ 64 ≡ (value_at c p + sum_at c qs) % 2 ^ 64
sum_at-gathered_onto c p [] = ap (λ z. z % 2 ^ 64) (sum_at-with_nonzero c p [])
sum_at-gathered_onto c p (q ∷ qs) =
    by_same (pointwise nat_eq p.0 q.0) refl (sum_at-gathered_onto c (p.0, (p.1 + q.1) % 2 ^ 64) qs) (sum_at-gathered_onto c q qs)
    ∙ ap (λ z. (value_at c p + z) % 2 ^ 64) (sym (sum_by-cons (value_at c) q qs))
  where
    by_same : (b : Bool) → pointwise nat_eq p.0 q.0 ≡ b
        → sum_at c (gathered_onto (p.0, (p.1 + q.1) % 2 ^ 64) qs) % 2 ^ 64 ≡ (cond (pointwise nat_eq p.0 c) ((p.1 + q.1) % 2 ^ 64) 0 + sum_at c qs) % 2 ^ 64
        → sum_at c (gathered_onto q qs) % 2 ^ 64 ≡ (value_at c q + sum_at c qs) % 2 ^ 64
        → sum_at c (cond b (gathered_onto (p.0, (p.1 + q.1) % 2 ^ 64) qs) (with_nonzero p (gathered_onto q qs))) % 2 ^ 64
        ≡ (value_at c p + (value_at c q + sum_at c qs)) % 2 ^ 64
    by_same true e one other =
        let same : p.0 ≡ q.0 = (bytes_decides p.0 q.0).0 e in
        one ∙ both_at (pointwise nat_eq p.0 c) p.1 q.1 (sum_at c qs)
        ∙ ap (λ t. (value_at c p + (cond (pointwise nat_eq t c) q.1 0 + sum_at c qs)) % 2 ^ 64) same
    by_same false e one other =
        ap (λ z. z % 2 ^ 64) (sum_at-with_nonzero c p (gathered_onto q qs))
        ∙ more_same (value_at c p) (sum_at c (gathered_onto q qs)) (value_at c q + sum_at c qs) other

-- adding up neighbours keeps every total
pub total_at-gathered : (ps : List (List ℕ × ℕ)) (c : List ℕ) → total_at (gathered ps) c ≡ total_at ps c
total_at-gathered [] c = refl
total_at-gathered (p ∷ ps) c = sum_at-gathered_onto c p ps ∙ ap (λ z. z % 2 ^ 64) (sym (sum_by-cons (value_at c) p ps))

-- another order keeps every total
pub total_at-IsPermutation : (ps qs : List (List ℕ × ℕ)) (c : List ℕ) → IsPermutation ps qs → total_at qs c ≡ total_at ps c
total_at-IsPermutation ps qs c h = ap (λ z. z % 2 ^ 64) (sum_by-IsPermutation (value_at c) ps qs h)

-- ---- zeros

All-with_nonzero : (p : List ℕ × ℕ) (ps : List (List ℕ × ℕ)) → All (λ (q : List ℕ × ℕ). 0 < q.1) ps → All (λ (q : List ℕ × ℕ). 0 < q.1) (with_nonzero p ps)
All-with_nonzero p ps h = by_zero (p.1 == 0) refl
  where
    by_zero : (b : Bool) → (p.1 == 0) ≡ b → All (λ (q : List ℕ × ℕ). 0 < q.1) (cond b ps (p ∷ ps))
    by_zero true e = h
    by_zero false e = let some : 0 < p.1 = grind (arith, nat_tests) in All-cons (λ (q : List ℕ × ℕ). 0 < q.1) p ps some h

All-gathered_onto : (p : List ℕ × ℕ) (qs : List (List ℕ × ℕ)) → All (λ (q : List ℕ × ℕ). 0 < q.1) (gathered_onto p qs)
All-gathered_onto p [] = All-with_nonzero p [] (All-nil (λ (q : List ℕ × ℕ). 0 < q.1))
All-gathered_onto p (q ∷ qs) = elim (pointwise nat_eq p.0 q.0) as
    (λ b. All (λ (q : List ℕ × ℕ). 0 < q.1) (cond b (gathered_onto (p.0, (p.1 + q.1) % 2 ^ 64) qs) (with_nonzero p (gathered_onto q qs)))) [
      | true ↦ All-gathered_onto (p.0, (p.1 + q.1) % 2 ^ 64) qs
      | false ↦ All-with_nonzero p (gathered_onto q qs) (All-gathered_onto q qs)
    ]

-- no zeros are left
pub All-gathered : (ps : List (List ℕ × ℕ)) → All (λ (q : List ℕ × ℕ). 0 < q.1) (gathered ps)
All-gathered [] = All-nil (λ (q : List ℕ × ℕ). 0 < q.1)
All-gathered (p ∷ ps) = All-gathered_onto p ps

-- ---- order

-- coordinates come before those of a pair
abbrev Before : List ℕ → List ℕ × ℕ → Type 0
Before c p = slice_cmp nat_cmp c p.0 ≡ Less

-- no pair of a list comes before the one in front of it, the first of which is given
abbrev IsChain : List ℕ × ℕ → List (List ℕ × ℕ) → Type 0
IsChain p [] = Unit {0}
IsChain p (q ∷ qs) = (is_lt (slice_cmp nat_cmp q.0 p.0) ≡ false) × IsChain q qs

get_or-next : {X : Type 0} (x : X) (xs : List X) (n : ℕ) (d : X) → get_or (x ∷ xs) (n + 1) d ≡ get_or xs n d
get_or-next x xs n d = rw add-one refl

IsChain-from_places : (p : List ℕ × ℕ) (qs : List (List ℕ × ℕ)) → IsNonDescending (p ∷ qs) → IsChain p qs
IsChain-from_places p [] h = tt
IsChain-from_places p (q ∷ qs) h = (h 0 p (omega arith), IsChain-from_places q qs (λ k d l. simp get_or-next (simp get_or-next at (h (k + 1) d (omega arith)))))

IsChain-value : (p : List ℕ × ℕ) (v : ℕ) (qs : List (List ℕ × ℕ)) → IsChain p qs → IsChain (p.0, v) qs
IsChain-value p v [] h = tt
IsChain-value p v (q ∷ qs) h = h

IsChain-first : (c d : List ℕ) (v w : ℕ) (qs : List (List ℕ × ℕ)) → c ≡ d → IsChain (d, w) qs → IsChain (c, v) qs
IsChain-first c d v w [] e h = tt
IsChain-first c d v w (q ∷ qs) e h = (ap (λ x. is_lt (slice_cmp nat_cmp q.0 x)) e ∙ h.0, h.1)

-- what is not before is behind or the same
not_before : (o : Ordering) → is_lt (ordering_reverse o) ≡ false → (o ≡ Less → ⊥) → o ≡ Equal
not_before Less e n = absurd (n refl)
not_before Equal e n = refl
not_before Greater e n = absurd cc

before_far : (c d e : List ℕ) → slice_cmp nat_cmp c d ≡ Less → is_lt (slice_cmp nat_cmp e d) ≡ false → slice_cmp nat_cmp c e ≡ Less
before_far c d e less up = by_order (slice_cmp nat_cmp d e) refl
  where
    by_order : (o : Ordering) → slice_cmp nat_cmp d e ≡ o → slice_cmp nat_cmp c e ≡ Less
    by_order Less h = nat_list_cmp_total.trans c d e less h
    by_order Equal h = sym (alike_right nat_list_cmp_total d e c h) ∙ less
    by_order Greater h = let back : slice_cmp nat_cmp e d ≡ Less = nat_list_cmp_total.antisymm e d ∙ ap ordering_reverse h in absurd cc

All-Before-with_nonzero : (c : List ℕ) (p : List ℕ × ℕ) (ps : List (List ℕ × ℕ)) → Before c p → All (Before c) ps → All (Before c) (with_nonzero p ps)
All-Before-with_nonzero c p ps b h = elim (p.1 == 0) as (λ t. All (Before c) (cond t ps (p ∷ ps))) [ true ↦ h | false ↦ All-cons (Before c) p ps b h ]

All-Before-gathered_onto : (c : List ℕ) (p : List ℕ × ℕ) (qs : List (List ℕ × ℕ)) → Before c p → IsChain p qs → All (Before c) (gathered_onto p qs)
All-Before-gathered_onto c p [] b h = All-Before-with_nonzero c p [] b (All-nil (Before c))
All-Before-gathered_onto c p (q ∷ qs) b h =
    by_same (pointwise nat_eq p.0 q.0) refl (λ chain. All-Before-gathered_onto c (p.0, (p.1 + q.1) % 2 ^ 64) qs b chain)
    (All-Before-gathered_onto c q qs (before_far c p.0 q.0 b h.0) h.1)
  where
    by_same : (t : Bool) → pointwise nat_eq p.0 q.0 ≡ t
        → (IsChain (p.0, (p.1 + q.1) % 2 ^ 64) qs → All (Before c) (gathered_onto (p.0, (p.1 + q.1) % 2 ^ 64) qs)) → All (Before c) (gathered_onto q qs)
        → All (Before c) (cond t (gathered_onto (p.0, (p.1 + q.1) % 2 ^ 64) qs) (with_nonzero p (gathered_onto q qs)))
    by_same true e one other = one (IsChain-first p.0 q.0 ((p.1 + q.1) % 2 ^ 64) q.1 qs ((bytes_decides p.0 q.0).0 e) h.1)
    by_same false e one other = All-Before-with_nonzero c p (gathered_onto q qs) b other

ascending-with_nonzero : (p : List ℕ × ℕ) (ps : List (List ℕ × ℕ)) → All (Before p.0) ps → IsAscending ps → IsAscending (with_nonzero p ps)
ascending-with_nonzero p ps b h = elim (p.1 == 0) as (λ t. IsAscending (cond t ps (p ∷ ps))) [
  | true ↦ h
  | false ↦ AllPairs-cons (λ (x y : List ℕ × ℕ). slice_cmp nat_cmp x.0 y.0 ≡ Less) p ps b h
]

before_other : (c d : List ℕ) → pointwise nat_eq c d ≡ false → is_lt (slice_cmp nat_cmp d c) ≡ false → slice_cmp nat_cmp c d ≡ Less
before_other c d n up = by_order (slice_cmp nat_cmp c d) refl
  where
    by_order : (o : Ordering) → slice_cmp nat_cmp c d ≡ o → slice_cmp nat_cmp c d ≡ Less
    by_order Less h = h
    by_order Equal h = let same : pointwise nat_eq c d ≡ true = texts_ties c d ∙ ap is_eq h in absurd cc
    by_order Greater h = let back : slice_cmp nat_cmp d c ≡ Less = nat_list_cmp_total.antisymm d c ∙ ap ordering_reverse h in absurd cc

ascending-gathered_onto : (p : List ℕ × ℕ) (qs : List (List ℕ × ℕ)) → IsChain p qs → IsAscending (gathered_onto p qs)
ascending-gathered_onto p [] h = ascending-with_nonzero p [] (All-nil (Before p.0)) (λ i j d l m. absurd (omega (arith, l, m)))
ascending-gathered_onto p (q ∷ qs) h =
    by_same (pointwise nat_eq p.0 q.0) refl (λ chain. ascending-gathered_onto (p.0, (p.1 + q.1) % 2 ^ 64) qs chain) (ascending-gathered_onto q qs h.1)
  where
    by_same : (t : Bool) → pointwise nat_eq p.0 q.0 ≡ t
        → (IsChain (p.0, (p.1 + q.1) % 2 ^ 64) qs → IsAscending (gathered_onto (p.0, (p.1 + q.1) % 2 ^ 64) qs)) → IsAscending (gathered_onto q qs)
        → IsAscending (cond t (gathered_onto (p.0, (p.1 + q.1) % 2 ^ 64) qs) (with_nonzero p (gathered_onto q qs)))
    by_same true e one other = one (IsChain-first p.0 q.0 ((p.1 + q.1) % 2 ^ 64) q.1 qs ((bytes_decides p.0 q.0).0 e) h.1)
    by_same false e one other = ascending-with_nonzero p (gathered_onto q qs) (All-Before-gathered_onto p.0 q qs (before_other p.0 q.0 e h.0) h.1) other

-- where no pair comes before the one in front of it, the sums ascend
pub IsAscending-gathered : (ps : List (List ℕ × ℕ)) → IsNonDescending ps → IsAscending (gathered ps)
IsAscending-gathered [] h = λ i j d l m. absurd (omega (arith, l, m))
IsAscending-gathered (p ∷ ps) h = ascending-gathered_onto p ps (IsChain-from_places p ps h)

first_up : (o p : Ordering) → is_lt (ordering_then o p) ≡ false → is_lt o ≡ false
first_up Less p e = absurd cc
first_up Equal p e = refl
first_up Greater p e = refl

-- pairs that are sorted by coordinates and values
pub IsNonDescending-sorted : (ps : List (List ℕ × ℕ)) → IsSorted (λ p q. ordering_then (slice_cmp nat_cmp p.0 q.0) (nat_cmp p.1 q.1)) ps → IsNonDescending ps
IsNonDescending-sorted ps h = λ k d l. first_up _ _ (h k d (omega arith) l)
