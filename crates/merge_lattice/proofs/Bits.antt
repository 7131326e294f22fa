-- The bits of a set of numbers that rise.
use Rattle.std.proofs.Common.{◌≡◌, ℕ, ◌+◌, ◌-◌, ◌*◌, ◌/◌, ◌%◌, ◌^◌, ◌≤◌, zero, suc, Bool, true, false, cond, eqb, List, [], ◌∷◌, refl, ap, sym, ◌∙◌, subst, arith}
use Rattle.std.specs.Prelude.{filter, sum_by}
use Rattle.std.specs.List.{range_with_len}
use Rattle.std.proofs.lemmas.Bool.Decides.{nat_tests}
use Rattle.std.proofs.lemmas.Nat.{shl-shr, pow-add, div-mul-add}
use Rattle.std.proofs.lemmas.List.Sums.{sum_by-cons}
use Rattle.std.proofs.Math.Pow.{pow_mono}
use Rattle.std.proofs.Math.Nat.{div-div-eq-div-mul}
use Rattle.merge_lattice.specs.Lattices.{bit_of}
use Rattle.merge_lattice.proofs.Rises.{Rises}

-- ---- bits of a number

odd : (q : ℕ) → eqb ((1 + q * 2) % 2) 1 ≡ true
odd q = let e : (1 + q * 2) % 2 ≡ 1 = omega arith in ap (λ x. eqb x 1) e

even : (q : ℕ) → eqb ((q * 2) % 2) 1 ≡ false
even q = let e : (q * 2) % 2 ≡ 0 = omega arith in ap (λ x. eqb x 1) e

bit_own : (q n : ℕ) → bit_of ((1 + q * 2) * 2 ^ n) n ≡ true
bit_own q n = ap (λ x. eqb (x % 2) 1) (shl-shr (1 + q * 2) n) ∙ odd q

doubled : (q n : ℕ) → q * 2 ^ (n + 1) ≡ q * 2 * 2 ^ n
doubled q n = ap (λ x. q * x) (pow-add 2 n 1) ∙ regroup q (2 ^ n)
  where
    regroup : (a b : ℕ) → a * (b * 2 ^ 1) ≡ a * 2 * b
    regroup a b = grind arith

bit_below : (q n m j : ℕ) → n ≡ j + 1 + m → bit_of (q * 2 ^ n) m ≡ false
bit_below q n m j e =
    let split : q * 2 ^ n ≡ q * 2 ^ j * 2 * 2 ^ m = ap (λ x. q * 2 ^ x) e ∙ ap (λ x. q * x) (pow-add 2 (j + 1) m) ∙ regroup q (2 ^ (j + 1)) (2 ^ m)
    ∙ ap (λ x. x * 2 ^ m) (doubled q j ∙ swapped q (2 ^ j)) in
    ap (λ x. eqb (x / 2 ^ m % 2) 1) split ∙ ap (λ x. eqb (x % 2) 1) (shl-shr (q * 2 ^ j * 2) m) ∙ even (q * 2 ^ j)
  where
    regroup : (a b c : ℕ) → a * (b * c) ≡ a * b * c
    regroup a b c = grind arith

    swapped : (a b : ℕ) → a * 2 * b ≡ a * b * 2
    swapped a b = grind arith

bit_above : (q n m j : ℕ) → m ≡ n + 1 + j → bit_of ((1 + q * 2) * 2 ^ n) m ≡ bit_of (q * 2 ^ (n + 1)) m
bit_above q n m j e =
    let split : (1 + q * 2) * 2 ^ n ≡ q * 2 ^ (n + 1) + 2 ^ n = spread q (2 ^ n) ∙ ap (λ x. x + 2 ^ n) (sym (doubled q n)) in
    let high : ((1 + q * 2) * 2 ^ n) / 2 ^ (n + 1) ≡ q = ap (λ x. x / 2 ^ (n + 1)) split
    ∙ div-mul-add q (2 ^ (n + 1)) (2 ^ n) (omega (arith, pow-add 2 n 1, positive n)) in
    let power : 2 ^ m ≡ 2 ^ (n + 1) * 2 ^ j = ap (λ x. 2 ^ x) e ∙ pow-add 2 (n + 1) j in
    let one = parted ((1 + q * 2) * 2 ^ n) q power high in
    let two = parted (q * 2 ^ (n + 1)) q power (shl-shr q (n + 1)) in
    ap (λ x. eqb (x % 2) 1) (one ∙ sym two)
  where
    spread : (a b : ℕ) → (1 + a * 2) * b ≡ a * 2 * b + b
    spread a b = grind arith

    positive : (n : ℕ) → 1 ≤ 2 ^ n
    positive n = pow_mono {i = 0} {j = n} (omega arith)

    parted : (x q : ℕ) → 2 ^ m ≡ 2 ^ (n + 1) * 2 ^ j → x / 2 ^ (n + 1) ≡ q → x / 2 ^ m ≡ q / 2 ^ j
    parted x q p h = ap (λ y. x / y) p ∙ sym (div-div-eq-div-mul x (2 ^ (n + 1)) (2 ^ j)) ∙ ap (λ y. y / 2 ^ j) h

-- ---- bits of a set

-- the set of these numbers
abbrev pub bits_of : List ℕ → ℕ
bits_of ns = sum_by (λ n. 2 ^ n) ns

-- numbers from lo on make a multiple of 2^lo
multiple : (lo hi : ℕ) (ns : List ℕ) → Rises lo hi ns → (q : ℕ) × (bits_of ns ≡ q * 2 ^ lo)
multiple lo hi [] r = (0, sym (none (2 ^ lo)))
  where
    none : (a : ℕ) → 0 * a ≡ 0
    none a = grind arith
multiple lo hi (n ∷ ns) r =
    let t = multiple (n + 1) hi ns r.2 in
    let power : 2 ^ n ≡ 2 ^ (n - lo) * 2 ^ lo = ap (λ x. 2 ^ x) (omega (arith, r.0)) ∙ pow-add 2 (n - lo) lo in
    ((1 + t.0 * 2) * 2 ^ (n - lo), odd_times n ns t.0 t.1 ∙ ap (λ x. (1 + t.0 * 2) * x) power ∙ regroup (1 + t.0 * 2) (2 ^ (n - lo)) (2 ^ lo))
  where
    regroup : (a b c : ℕ) → a * (b * c) ≡ a * b * c
    regroup a b c = grind arith

    together : (a b : ℕ) → b + a * 2 * b ≡ (1 + a * 2) * b
    together a b = grind arith

    odd_times : (n : ℕ) (ns : List ℕ) (q : ℕ) → bits_of ns ≡ q * 2 ^ (n + 1) → bits_of (n ∷ ns) ≡ (1 + q * 2) * 2 ^ n
    odd_times n ns q e = sum_by-cons (λ (m : ℕ). 2 ^ m) n ns ∙ ap (λ x. 2 ^ n + x) (e ∙ doubled q n) ∙ together q (2 ^ n)

-- the first of the set
head_form : (hi n : ℕ) (ns : List ℕ) → Rises (n + 1) hi ns → (q : ℕ) × (bits_of ns ≡ q * 2 ^ (n + 1)) × (bits_of (n ∷ ns) ≡ (1 + q * 2) * 2 ^ n)
head_form hi n ns r =
    let t = multiple (n + 1) hi ns r in
    (t.0, t.1, sum_by-cons (λ (m : ℕ). 2 ^ m) n ns ∙ ap (λ x. 2 ^ n + x) (t.1 ∙ doubled t.0 n) ∙ together t.0 (2 ^ n))
  where
    together : (a b : ℕ) → b + a * 2 * b ≡ (1 + a * 2) * b
    together a b = grind arith

-- numbers below hi make a set below 2^hi
pub bits_of-small : (lo hi : ℕ) (ns : List ℕ) → Rises lo hi ns → bits_of ns + 2 ^ lo ≤ 2 ^ hi
bits_of-small lo hi [] r = let l = pow_mono {i = lo} {j = hi} r in omega (arith, l)
bits_of-small lo hi (n ∷ ns) r =
    omega (arith, sum_by-cons (λ (m : ℕ). 2 ^ m) n ns, bits_of-small (n + 1) hi ns r.2, pow-add 2 n 1, pow_mono {i = lo} {j = n} r.0)

filter-same : (p q : ℕ → Bool) (lo len : ℕ) → ((m : ℕ) → lo ≤ m → p m ≡ q m) → filter p (range_with_len lo len) ≡ filter q (range_with_len lo len)
filter-same p q lo zero h = refl
filter-same p q lo (suc len) h =
    ap (λ b. cond b (lo ∷ filter p (range_with_len (lo + 1) len)) (filter p (range_with_len (lo + 1) len))) (h lo (omega arith))
    ∙ ap (λ xs. cond (q lo) (lo ∷ xs) xs) (filter-same p q (lo + 1) len (λ m l. h m (omega (arith, l))))

-- the bits of a set of numbers that rise are these numbers
pub filter-bits : (lo len hi : ℕ) (ns : List ℕ) → hi ≡ lo + len → Rises lo hi ns → filter (bit_of (bits_of ns)) (range_with_len lo len) ≡ ns
filter-bits lo zero hi [] e r = refl
filter-bits lo zero hi (n ∷ ns) e r = absurd (omega (arith, e, r.0, r.1))
filter-bits lo (suc len) hi [] e r =
    ap (λ b. cond b (lo ∷ filter (bit_of 0) (range_with_len (lo + 1) len)) (filter (bit_of 0) (range_with_len (lo + 1) len)))
    (ap (λ x. bit_of x lo) (sym (none (2 ^ (lo + 1)))) ∙ bit_below 0 (lo + 1) lo 0 (omega arith))
    ∙ filter-bits (lo + 1) len hi [] (omega (arith, e)) (omega (arith, e))
  where
    none : (a : ℕ) → 0 * a ≡ 0
    none a = grind arith
filter-bits lo (suc len) hi (n ∷ ns) e r =
    let t = head_form hi n ns r.2 in
    cases_of (eqb n lo) refl t (filter-bits (lo + 1) len hi ns (omega (arith, e))) (λ l. filter-bits (lo + 1) len hi (n ∷ ns) (omega (arith, e)) (l, r.1, r.2))
  where
    eqb-true : (a b : ℕ) → eqb a b ≡ true → a ≡ b
    eqb-true a b h = grind (arith, nat_tests)

    eqb-false : (a b : ℕ) → eqb a b ≡ false → b ≤ a → b + 1 ≤ a
    eqb-false a b h l = grind (arith, nat_tests)

    cases_of : (b : Bool) → eqb n lo ≡ b → ((q : ℕ) × (bits_of ns ≡ q * 2 ^ (n + 1)) × (bits_of (n ∷ ns) ≡ (1 + q * 2) * 2 ^ n))
        → (Rises (lo + 1) hi ns → filter (bit_of (bits_of ns)) (range_with_len (lo + 1) len) ≡ ns)
        → (lo + 1 ≤ n → filter (bit_of (bits_of (n ∷ ns))) (range_with_len (lo + 1) len) ≡ n ∷ ns)
        → cond (bit_of (bits_of (n ∷ ns)) lo) (lo ∷ filter (bit_of (bits_of (n ∷ ns))) (range_with_len (lo + 1) len))
        (filter (bit_of (bits_of (n ∷ ns))) (range_with_len (lo + 1) len)) ≡ n ∷ ns
    cases_of true f t here later =
        let same = eqb-true n lo f in
        ap (λ b. cond b (lo ∷ filter (bit_of (bits_of (n ∷ ns))) (range_with_len (lo + 1) len))
        (filter (bit_of (bits_of (n ∷ ns))) (range_with_len (lo + 1) len)))
        (ap (bit_of (bits_of (n ∷ ns))) (sym same) ∙ ap (λ x. bit_of x n) t.2 ∙ bit_own t.0 n)
        ∙ ap (λ xs. lo ∷ xs) (filter-same (bit_of (bits_of (n ∷ ns))) (bit_of (bits_of ns)) (lo + 1) len
        (λ m l. ap (λ x. bit_of x m) t.2 ∙ bit_above t.0 n m (m - (n + 1)) (omega (arith, l, same)) ∙ ap (λ x. bit_of x m) (sym t.1)))
        ∙ ap (λ xs. lo ∷ xs) (here (subst (λ x. Rises (x + 1) hi ns) same r.2))
        ∙ ap (λ x. x ∷ ns) (sym same)
    cases_of false f t here later =
        let more = eqb-false n lo f r.0 in
        ap (λ b. cond b (lo ∷ filter (bit_of (bits_of (n ∷ ns))) (range_with_len (lo + 1) len))
        (filter (bit_of (bits_of (n ∷ ns))) (range_with_len (lo + 1) len)))
        (ap (λ x. bit_of x lo) t.2 ∙ bit_below (1 + t.0 * 2) n lo (n - (lo + 1)) (omega (arith, more)))
        ∙ later more
