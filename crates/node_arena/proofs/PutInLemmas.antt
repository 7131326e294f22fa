-- Elements put into a list.
use Rattle.std.proofs.Common.{◌≡◌, ◌≢◌, ◌≤◌, ◌<◌, ◌+◌, ℕ, suc, Bool, true, false, ltb, cond, List, [], ◌∷◌, ◌++◌, length, take, drop}
use Rattle.std.proofs.Common.{refl, ap, ◌∙◌, sym, subst, arith, append_assoc}
use Rattle.std.specs.List.{insert}
use Rattle.node_arena.specs.declared.elements.Elem.{Elem}
use Rattle.node_arena.specs.Arenas.{place_in}
use Rattle.node_arena.specs.Conforming.{RisesFrom, IsRising}
use Rattle.node_arena.specs.Insertions.{put_in, all_put_in, Lacks}
use Rattle.node_arena.specs.Passing.{AllLack}

-- all coordinates are below
abbrev pub AllBelow : ℕ → List Elem → Type 0
AllBelow n [] = Unit {0}
AllBelow n (e ∷ es) = (e.at < n) × AllBelow n es

-- the first coordinate, where there is one, isn't below
abbrev pub Reaches : ℕ → List Elem → Type 0
Reaches n [] = Unit {0}
Reaches n (e ∷ es) = n ≤ e.at

-- ---- lengths

length-step : (x e : Elem) (xs w : List Elem) (b : Bool) → length w ≡ length xs + 1 → length (cond b (e ∷ w) (x ∷ e ∷ xs)) ≡ length (e ∷ xs) + 1
length-step x e xs w true h = omega arith
length-step x e xs w false h = omega arith

-- one more element
pub length-put_in : (x : Elem) (xs : List Elem) → length (put_in x xs) ≡ length xs + 1
length-put_in x [] = refl
length-put_in x (e ∷ xs) = length-step x e xs (put_in x xs) (ltb e.at x.at) (length-put_in x xs)

-- so many more elements
pub length-all_put_in : (xs es : List Elem) → length (all_put_in xs es) ≡ length xs + length es
length-all_put_in [] es = omega arith
length-all_put_in (x ∷ xs) es =
    let ih : length (all_put_in xs (put_in x es)) ≡ length xs + length (put_in x es) = length-all_put_in xs (put_in x es) in
    let one : length (put_in x es) ≡ length es + 1 = length-put_in x es in
    omega arith

-- ---- coordinates that aren't there

Lacks-step : (n : ℕ) (x e : Elem) (es w : List Elem) (b : Bool) → x.at ≢ n → e.at ≢ n → Lacks n es → Lacks n w → Lacks n (cond b (e ∷ w) (x ∷ e ∷ es))
Lacks-step n x e es w true h k l m = (k, m)
Lacks-step n x e es w false h k l m = (h, (k, l))

-- another coordinate is still not there
pub Lacks-put_in : (n : ℕ) (x : Elem) (es : List Elem) → x.at ≢ n → Lacks n es → Lacks n (put_in x es)
Lacks-put_in n x [] h l = (h, tt)
Lacks-put_in n x (e ∷ es) h l = Lacks-step n x e es (put_in x es) (ltb e.at x.at) h l.0 l.1 (Lacks-put_in n x es h l.1)

-- neither of two lists has the coordinate
pub Lacks-append : (n : ℕ) (xs ys : List Elem) → Lacks n xs → Lacks n ys → Lacks n (xs ++ ys)
Lacks-append n [] ys h k = k
Lacks-append n (x ∷ xs) ys h k = (h.0, Lacks-append n xs ys h.1 k)

-- a list that lacks the coordinate, taken apart
pub append-Lacks : (n : ℕ) (xs ys : List Elem) → Lacks n (xs ++ ys) → Lacks n xs × Lacks n ys
append-Lacks n [] ys h = (tt, h)
append-Lacks n (x ∷ xs) ys h = let r = append-Lacks n xs ys h.1 in ((h.0, r.0), r.1)

-- a list that rises lacks what is at most the coordinate before it
pub Lacks-low : (n m : ℕ) (es : List Elem) → RisesFrom m es → n ≤ m → Lacks n es
Lacks-low n m [] up l = tt
Lacks-low n m (e ∷ es) up l =
    let first : m < e.at = up.0 in
    ((λ same. let f : e.at ≡ n = same in absurd (omega arith)), Lacks-low n e.at es up.1 (omega arith))

-- what is put in before doesn't matter to those that were not there
pub AllLack-put_in : (xs : List Elem) (x : Elem) (es : List Elem) → RisesFrom x.at xs → AllLack xs es → AllLack xs (put_in x es)
AllLack-put_in xs x es up l = all xs x.at up (omega arith) l
  where
    all : (ys : List Elem) (m : ℕ) → RisesFrom m ys → x.at ≤ m → AllLack ys es → AllLack ys (put_in x es)
    all [] m up low l = tt
    all (y ∷ ys) m up low l =
        let above : m < y.at = up.0 in
        (Lacks-put_in y.at x es (λ same. let f : x.at ≡ y.at = same in absurd (omega arith)) l.0, all ys y.at up.1 (omega arith) l.1)

-- ---- the order

above-step : (x e : Elem) (es w : List Elem) (n : ℕ) → n < x.at → n < e.at → RisesFrom e.at es → (e.at < x.at → RisesFrom e.at w) → e.at ≢ x.at → (b : Bool)
    → ltb e.at x.at ≡ b → RisesFrom n (cond b (e ∷ w) (x ∷ e ∷ es))
above-step x e es w n h k up f ne true t = (k, f (grind (arith, t)))
above-step x e es w n h k up f ne false t = (h, (grind (arith, t, ne), up))

-- with an element above n put in the coordinates still rise from n
pub RisesFrom-put_in : (x : Elem) (es : List Elem) (n : ℕ) → n < x.at → RisesFrom n es → Lacks x.at es → RisesFrom n (put_in x es)
RisesFrom-put_in x [] n h up lacks = (h, tt)
RisesFrom-put_in x (e ∷ es) n h up lacks =
    above-step x e es (put_in x es) n h up.0 up.1 (λ l. RisesFrom-put_in x es e.at l up.1 lacks.1) lacks.0 (ltb e.at x.at) refl

rising-step : (x e : Elem) (es w : List Elem) → RisesFrom e.at es → (e.at < x.at → RisesFrom e.at w) → e.at ≢ x.at → (b : Bool) → ltb e.at x.at ≡ b
    → IsRising (cond b (e ∷ w) (x ∷ e ∷ es))
rising-step x e es w up f ne true t = f (grind (arith, t))
rising-step x e es w up f ne false t = (grind (arith, t, ne), up)

-- with an element put in the coordinates still rise
pub IsRising-put_in : (x : Elem) (es : List Elem) → IsRising es → Lacks x.at es → IsRising (put_in x es)
IsRising-put_in x [] up lacks = tt
IsRising-put_in x (e ∷ es) up lacks =
    rising-step x e es (put_in x es) up (λ l. RisesFrom-put_in x es e.at l up lacks.1) lacks.0 (ltb e.at x.at) refl

-- coordinates that rise from n rise
pub RisesFrom-rising : (n : ℕ) (es : List Elem) → RisesFrom n es → IsRising es
RisesFrom-rising n [] up = tt
RisesFrom-rising n (e ∷ es) up = up.1

-- with rising elements put in the coordinates still rise
pub IsRising-all_put_in : (xs es : List Elem) → IsRising xs → IsRising es → AllLack xs es → IsRising (all_put_in xs es)
IsRising-all_put_in [] es up h l = h
IsRising-all_put_in (x ∷ xs) es up h l =
    IsRising-all_put_in xs (put_in x es) (RisesFrom-rising x.at xs up) (IsRising-put_in x es h l.0) (AllLack-put_in xs x es up l.1)

-- what rises from n, taken apart before an element
pub RisesFrom-suffix : (n : ℕ) (xs : List Elem) (y : Elem) (ys : List Elem) → RisesFrom n (xs ++ y ∷ ys) → (n < y.at) × RisesFrom y.at ys
RisesFrom-suffix n [] y ys h = h
RisesFrom-suffix n (x ∷ xs) y ys h = let r = RisesFrom-suffix x.at xs y ys h.1 in (omega (arith, h.0, r.0), r.1)

-- the first part of what rises from n
pub RisesFrom-prefix : (n : ℕ) (xs ys : List Elem) → RisesFrom n (xs ++ ys) → RisesFrom n xs
RisesFrom-prefix n [] ys h = tt
RisesFrom-prefix n (x ∷ xs) ys h = (h.0, RisesFrom-prefix x.at xs ys h.1)

-- the last part of what rises
pub IsRising-suffix : (xs ys : List Elem) → IsRising (xs ++ ys) → IsRising ys
IsRising-suffix xs [] h = tt
IsRising-suffix [] (y ∷ ys) h = h
IsRising-suffix (x ∷ xs) (y ∷ ys) h = (RisesFrom-suffix x.at xs y ys h).1

-- the first part of what rises
pub IsRising-prefix : (xs ys : List Elem) → IsRising (xs ++ ys) → IsRising xs
IsRising-prefix [] ys h = tt
IsRising-prefix (x ∷ xs) ys h = RisesFrom-prefix x.at xs ys h

-- ---- where an element goes in

-- behind what is below
pub put_in-past : (x : Elem) (xs ys : List Elem) → AllBelow x.at xs → put_in x (xs ++ ys) ≡ xs ++ put_in x ys
put_in-past x [] ys h = refl
put_in-past x (e ∷ xs) ys h =
    let t : ltb e.at x.at ≡ true = grind (arith, h.0) in
    rw t (ap (λ w. e ∷ w) (put_in-past x xs ys h.1))

-- before what isn't below
pub put_in-first : (x : Elem) (ys : List Elem) → Reaches x.at ys → put_in x ys ≡ x ∷ ys
put_in-first x [] h = refl
put_in-first x (e ∷ ys) h =
    let t : ltb e.at x.at ≡ false = grind (arith, h) in
    rw t refl

before-step : (x e : Elem) (xs ys w : List Elem) (b : Bool) → w ≡ put_in x xs ++ ys
    → cond b (e ∷ w) (x ∷ e ∷ xs ++ ys) ≡ cond b (e ∷ put_in x xs) (x ∷ e ∷ xs) ++ ys
before-step x e xs ys w true h = ap (λ v. e ∷ v) h
before-step x e xs ys w false h = refl

-- into the first of two lists, where the second isn't below
pub put_in-before : (x : Elem) (xs ys : List Elem) → Reaches x.at ys → put_in x (xs ++ ys) ≡ put_in x xs ++ ys
put_in-before x [] ys h = put_in-first x ys h
put_in-before x (e ∷ xs) ys h = before-step x e xs ys (put_in x (xs ++ ys)) (ltb e.at x.at) (put_in-before x xs ys h)

-- between what is below and what isn't
pub put_in-between : (x : Elem) (xs ys : List Elem) → AllBelow x.at xs → Reaches x.at ys → put_in x (xs ++ ys) ≡ xs ++ x ∷ ys
put_in-between x xs ys h k = put_in-past x xs ys h ∙ ap (λ w. xs ++ w) (put_in-first x ys k)

place-step : (x e : Elem) (es : List Elem) (n : ℕ) (w : List Elem) (b : Bool) → w ≡ insert es n x
    → cond b (e ∷ w) (x ∷ e ∷ es) ≡ insert (e ∷ es) (cond b (suc n) 0) x
place-step x e es n w true h = ap (λ v. e ∷ v) h
place-step x e es n w false h = refl

-- at its place
pub put_in-place : (x : Elem) (es : List Elem) → put_in x es ≡ insert es (place_in x.at es) x
put_in-place x [] = refl
put_in-place x (e ∷ es) = place-step x e es (place_in x.at es) (put_in x es) (ltb e.at x.at) (put_in-place x es)

low-step : (b : Bool) (n m : ℕ) → n ≤ m → cond b (suc n) 0 ≤ suc m
low-step true n m h = omega arith
low-step false n m h = omega arith

-- the place is at most the length
pub place_in-low : (n : ℕ) (es : List Elem) → place_in n es ≤ length es
place_in-low n [] = omega arith
place_in-low n (e ∷ es) = low-step (ltb e.at n) (place_in n es) (length es) (place_in-low n es)

-- where an element is put in at its place
pub ruleset run_laws = (place_in-low, put_in-place)

below-step : (n : ℕ) (e : Elem) (es : List Elem) (m : ℕ) (b : Bool) → ltb e.at n ≡ b → AllBelow n (take m es) → AllBelow n (take (cond b (suc m) 0) (e ∷ es))
below-step n e es m true t h = (grind (arith, t), h)
below-step n e es m false t h = tt

-- what is before the place is below
pub AllBelow-place : (n : ℕ) (es : List Elem) → AllBelow n (take (place_in n es) es)
AllBelow-place n [] = tt
AllBelow-place n (e ∷ es) = below-step n e es (place_in n es) (ltb e.at n) refl (AllBelow-place n es)

reach-step : (n : ℕ) (e : Elem) (es : List Elem) (m : ℕ) (b : Bool) → ltb e.at n ≡ b → Reaches n (drop m es) → Reaches n (drop (cond b (suc m) 0) (e ∷ es))
reach-step n e es m true t h = h
reach-step n e es m false t h = grind (arith, t)

-- what is from the place on isn't below
pub Reaches-place : (n : ℕ) (es : List Elem) → Reaches n (drop (place_in n es) es)
Reaches-place n [] = tt
Reaches-place n (e ∷ es) = reach-step n e es (place_in n es) (ltb e.at n) refl (Reaches-place n es)

-- ---- before and behind

-- what is behind rises from what is before
pub RisesFrom-after : (n : ℕ) (xs ys : List Elem) → RisesFrom n (xs ++ ys) → RisesFrom n ys
RisesFrom-after n [] ys h = h
RisesFrom-after n (x ∷ xs) ys h = lower n x.at ys h.0 (RisesFrom-after x.at xs ys h.1)
  where
    lower : (n m : ℕ) (zs : List Elem) → n < m → RisesFrom m zs → RisesFrom n zs
    lower n m [] l up = tt
    lower n m (z ∷ zs) l up = (omega (arith, l, up.0), up.1)

-- what lies before other elements isn't among them
pub AllLack-before : (xs ys : List Elem) → IsRising (xs ++ ys) → AllLack xs ys
AllLack-before [] ys h = tt
AllLack-before (x ∷ xs) ys h = (Lacks-low x.at x.at ys (RisesFrom-after x.at xs ys h) (omega arith), AllLack-before xs ys (RisesFrom-rising x.at (xs ++ ys) h))

-- ---- below

-- both lists are below
pub AllBelow-append : (n : ℕ) (xs ys : List Elem) → AllBelow n xs → AllBelow n ys → AllBelow n (xs ++ ys)
AllBelow-append n [] ys h k = k
AllBelow-append n (x ∷ xs) ys h k = (h.0, AllBelow-append n xs ys h.1 k)

rises-below : (n m : ℕ) (xs : List Elem) (y : Elem) (ys : List Elem) → RisesFrom m (xs ++ y ∷ ys) → y.at ≤ n → AllBelow n xs × (m < n)
rises-below n m [] y ys h l = (tt, omega (arith, h.0, l))
rises-below n m (x ∷ xs) y ys h l = let r = rises-below n x.at xs y ys h.1 l in ((r.1, r.0), omega (arith, h.0, r.1))

-- in a list that rises, what comes before an element is below it, and below what is above it
pub AllBelow-rising : (n : ℕ) (xs : List Elem) (y : Elem) (ys : List Elem) → IsRising (xs ++ y ∷ ys) → y.at ≤ n → AllBelow n xs
AllBelow-rising n [] y ys h l = tt
AllBelow-rising n (x ∷ xs) y ys h l = let r = rises-below n x.at xs y ys h l in (r.1, r.0)

reaches-rising : (x : Elem) (xs ys : List Elem) → RisesFrom x.at (xs ++ ys) → Reaches x.at ys
reaches-rising x xs [] up = tt
reaches-rising x xs (y ∷ ys) up = let r = RisesFrom-suffix x.at xs y ys up in omega (arith, r.0)

-- elements that come between in a list that rises go in between
pub all_put_in-between : (before xs later : List Elem) → IsRising (before ++ (xs ++ later)) → all_put_in xs (before ++ later) ≡ before ++ (xs ++ later)
all_put_in-between before [] later up = refl
all_put_in-between before (x ∷ xs) later up =
    let low : AllBelow x.at before = AllBelow-rising x.at before x (xs ++ later) up (omega arith) in
    let high : Reaches x.at later = reaches-rising x xs later (IsRising-suffix before (x ∷ (xs ++ later)) up) in
    let one : put_in x (before ++ later) ≡ (before ++ (x ∷ [])) ++ later = put_in-between x before later low high ∙ sym (append_assoc before (x ∷ []) later) in
    let more : (before ++ (x ∷ [])) ++ (xs ++ later) ≡ before ++ (x ∷ (xs ++ later)) = append_assoc before (x ∷ []) (xs ++ later) in
    ap (all_put_in xs) one ∙ all_put_in-between (before ++ (x ∷ [])) xs later (subst IsRising (sym more) up) ∙ more

-- elements that come before all others in a list that rises go in before
pub all_put_in-first : (xs later : List Elem) → IsRising (xs ++ later) → all_put_in xs later ≡ xs ++ later
all_put_in-first xs later up = all_put_in-between [] xs later up
