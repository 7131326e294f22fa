-- Levels of woven nodes, and how gaps are dealt out to children.
use Rattle.std.proofs.Common.{◌≡◌, ◌≤◌, ◌<◌, ◌+◌, ◌-◌, ◌*◌, ◌/◌, ◌^◌, ◌⊎◌, inl, inr, ℕ, zero, suc, ap, ◌∙◌, sym, arith}
use Rattle.std.proofs.Math.Nat.{pow-suc, pow-zero, one-le-pow, mul-le-mul_left, mul-le-mul_right, le_of_mul-le-mul_right, le-mul_of_pos_right, eq-or-lt_of_le}
use Rattle.bulk_build.specs.Layouts.{FitsLevels}

-- a power of three or more times that number
pub thrice : (n w : ℕ) → 3 ≤ w → 3 * n ≤ n * w
thrice n w h = let e : n * 3 ≤ n * w = mul-le-mul_left n h in omega arith

-- nothing below the root
pub levels-first : (w g : ℕ) → 1 < g → w ^ zero < g
levels-first w g h = let e : w ^ zero ≡ 1 = pow-zero w in omega arith

-- the room of a root without children
pub first-room : (w : ℕ) → w ≡ w ^ suc zero
first-room w =
    let e : w ^ suc zero ≡ w ^ zero * w = pow-suc w zero in
    let f : w ^ zero ≡ 1 = pow-zero w in
    let g : w ^ zero * w ≡ 1 * w = ap (λ v. v * w) f in
    omega arith

-- one level more
pub more-room : (w n room : ℕ) → room ≡ w ^ suc n → room * w ≡ w ^ suc (suc n)
more-room w n room e = ap (λ v. v * w) e ∙ sym (pow-suc w (suc n))

-- the gaps of a child that is at least half full
pub child-fits : (w n room g : ℕ) → 3 ≤ w → room ≡ w ^ suc n → g ≤ room → room ≤ 2 * g → FitsLevels w n room g
child-fits w n room g wide e fits half = record {
  room_is = e;
  fits = fits;
  needed =
      let p : w ^ suc n ≡ w ^ n * w = pow-suc w n in
      let t : 3 * w ^ n ≤ w ^ n * w = thrice (w ^ n) w wide in
      let some : 1 ≤ w ^ n = one-le-pow n w (omega arith) in
      omega arith;
}

-- a product that is less than one factor more
pub below_of_product : (q x w : ℕ) → 0 < w → q * w < x * w + w → q ≤ x
below_of_product q x w h b =
    let c : q * w < suc x * w = omega arith in
    grind (arith, h, c)

divided : (q w room : ℕ) → 0 < w → room ≡ q * w → room / w ≡ q
divided q w room h e =
    let one : room / w ≤ q = below_of_product (room / w) q w h (omega arith) in
    let two : q ≤ room / w = below_of_product q (room / w) w h (omega arith) in
    omega arith

-- what fits below a child
pub child-room : (w n room : ℕ) → 0 < w → room ≡ w ^ suc n → room / w ≡ w ^ n
child-room w n room h e = divided (w ^ n) w room h (e ∙ pow-suc w n)

-- one more of a factor
pub one_more : (p q w : ℕ) → p ≡ q + 1 → p * w ≡ q * w + w
one_more p q w e = let f : p * w ≡ (q + 1) * w = ap (λ v. v * w) e in omega arith

-- at least one of each
pub enough_of : (n m f : ℕ) → 1 ≤ f → n ≤ m → n ≤ m * f
enough_of n m f h g = let e : m ≤ m * f = le-mul_of_pos_right m h in omega arith

-- how many have been taken, where each has at least one
pub taken-plain : (old new n f : ℕ) → 1 ≤ f → old * f < new * f + n + f → old ≤ new + n
taken-plain old new n f h g =
    let e : n ≤ n * f = le-mul_of_pos_right n h in
    below_of_product old (new + n) f h (omega arith)

-- parts that each are but so large are two where one doesn't suffice
pub two_parts : (p r g : ℕ) → r < g → g ≤ p * r → 2 ≤ p
two_parts zero r g h e = absurd (omega arith)
two_parts (suc zero) r g h e = absurd (omega arith)
two_parts (suc (suc p)) r g h e = omega arith

-- the fewest parts can each be half full
pub half_full : (p r g l : ℕ) → 2 ≤ p → p * r < g + r → 1 ≤ r → 2 * l ≤ r + 1 → p * l ≤ g
half_full zero r g l two h some e = absurd (omega arith)
half_full (suc zero) r g l two h some e = absurd (omega arith)
half_full (suc (suc q)) r g l two h some e =
    let a : suc (suc q) * r ≡ q * r + 2 * r = omega arith in
    let b : suc (suc q) * l ≡ q * l + 2 * l = omega arith in
    let c : q * (2 * l) ≤ q * (r + 1) = mul-le-mul_left q e in
    let d : q ≤ q * r = le-mul_of_pos_right q some in
    let f : q * (2 * l) ≡ 2 * (q * l) = omega arith in
    let j : q * (r + 1) ≡ q * r + q = omega arith in
    omega arith

-- no more parts than that
pub few_parts : (p r g w : ℕ) → 1 ≤ r → p * r < g + r → g ≤ r * w → p ≤ w
few_parts p r g w some h e = let f : r * w ≡ w * r = omega arith in below_of_product p w r some (omega arith)

-- many parts where there is much
pub many_parts : (p r g w : ℕ) → 1 ≤ r → g ≤ p * r → r * w ≤ 2 * g → w ≤ 2 * p
many_parts p r g w some h e =
    let f : r * w ≡ w * r = omega arith in
    let j : 2 * p * r ≡ 2 * (p * r) = omega arith in
    le_of_mul-le-mul_right {k = r} (omega arith) some

-- the room of a node without children
pub leaf-room : (w room g : ℕ) → FitsLevels w 0 room g → room ≡ w
leaf-room w room g f = f.room_is ∙ sym (first-room w)

-- a node without children has an element
pub leaf-long : (w room n : ℕ) → FitsLevels w 0 room (n + 1) → 1 ≤ n
leaf-long w room n f = let e : w ^ zero ≡ 1 = pow-zero w in let h : w ^ zero < n + 1 = f.needed in omega arith

-- ---- two links that lead to one kind

-- what the nodes before the run took
pub pairs_before : (s m a f lower : ℕ) → 1 ≤ f → lower ≡ a * f → s * f < m * f + lower + f → s * f ≤ m * f + a * f
pairs_before s m a f lower h e g =
    let n : s ≤ m + a = below_of_product s (m + a) f h (omega arith) in
    let k : s * f ≤ (m + a) * f = mul-le-mul_right f n in
    omega arith

-- what the nodes behind the run took
pub pairs_behind : (m w f left : ℕ) → 1 ≤ f → m * f < w * f + left + f → left ≡ 0 → m * f ≤ w * f
pairs_behind m w f left h g e =
    let n : m ≤ w = below_of_product m w f h (omega arith) in
    mul-le-mul_right f n

some-product : (w f : ℕ) → 0 < w * f → 0 < w
some-product zero f h = absurd (omega arith)
some-product (suc w) f h = omega arith

-- one is left for the node itself
pub pairs_make : (s m w a f n lower upper : ℕ) → 1 ≤ f → lower ≡ a * f → n ≤ s * f → s * f ≤ m * f + a * f → lower < upper → upper ≤ n
    → (upper < n → upper ≡ lower + f) → m * f < w * f + (n - upper) + f → 0 < w
pairs_make s m w a f n lower upper h e enough took some short full g = by (eq-or-lt_of_le short)
  where
    by : (upper ≡ n) ⊎ (upper < n) → 0 < w
    by (inl last) =
        let k : m * f ≤ w * f = pairs_behind m w f (n - upper) h g (omega arith) in
        some-product w f (omega arith)
    by (inr more) = let k : upper ≡ lower + f = full more in some-product w f (omega arith)

-- what they all took
pub pairs_used : (s m w v a f n lower upper : ℕ) → 1 ≤ f → lower ≡ a * f → s * f ≤ m * f + a * f → lower < upper → upper ≤ n
    → (upper < n → upper ≡ lower + f) → m * f < w * f + (n - upper) + f → w ≡ v + 1 → s * f < v * f + n + f
pairs_used s m w v a f n lower upper h e took some short full g one = by (eq-or-lt_of_le short)
  where
    by : (upper ≡ n) ⊎ (upper < n) → s * f < v * f + n + f
    by (inl last) =
        let k : m * f ≤ w * f = pairs_behind m w f (n - upper) h g (omega arith) in
        let j : w * f ≡ v * f + f = one_more w v f one in
        omega arith
    by (inr more) =
        let k : upper ≡ lower + f = full more in
        let j : w * f ≡ v * f + f = one_more w v f one in
        omega arith
