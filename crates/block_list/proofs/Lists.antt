-- Where an element goes in a run that rises, and in what follows it.
use Rattle.std.proofs.Common.{◌≡◌, ◌≤◌, ◌<◌, ◌-◌, inl, inr, ℕ, List, [], ◌∷◌, ◌++◌, length, Some, refl, ap, subst, arith, Bool, true, false, ltb, cond}
use Rattle.node_arena.specs.declared.elements.Elem.{Elem}
use Rattle.node_arena.specs.Arenas.{coordinate_at}
use Rattle.node_arena.specs.Conforming.{RisesFrom, IsRising}
use Rattle.node_arena.specs.Insertions.{put_in}
use Rattle.node_arena.proofs.PutInLemmas.{RisesFrom-suffix}
use Rattle.block_list.specs.Chains.{AllBelow, Stops, first_of}

-- ---- where x goes

-- x goes behind elements that are below it
pub put_in-past : (x : Elem) (xs ys : List Elem) → AllBelow x.at xs → put_in x (xs ++ ys) ≡ xs ++ put_in x ys
put_in-past x [] ys h = refl
put_in-past x (e ∷ xs) ys h =
    let t : ltb e.at x.at ≡ true = grind (arith, h.0) in
    rw t (ap (λ w. e ∷ w) (put_in-past x xs ys h.1))

within-step : (x e : Elem) (xs ys w : List Elem) (b : Bool) → w ≡ put_in x xs ++ ys
    → cond b (e ∷ w) (x ∷ e ∷ xs ++ ys) ≡ cond b (e ∷ put_in x xs) (x ∷ e ∷ xs) ++ ys
within-step x e xs ys w true h = ap (λ v. e ∷ v) h
within-step x e xs ys w false h = refl

-- x goes into the first of two lists, where an element there isn't below it
pub put_in-within : (x : Elem) (xs ys : List Elem) → Stops x.at xs → put_in x (xs ++ ys) ≡ put_in x xs ++ ys
put_in-within x [] ys h = absurd h
put_in-within x (e ∷ xs) ys (inl h) =
    let t : ltb e.at x.at ≡ false = grind (arith, h) in
    rw t refl
put_in-within x (e ∷ xs) ys (inr h) = within-step x e xs ys (put_in x (xs ++ ys)) (ltb e.at x.at) (put_in-within x xs ys h)

-- ---- the order

RisesFrom-end : (n : ℕ) (xs : List Elem) (x : Elem) → n < x.at → RisesFrom n xs → AllBelow x.at xs → RisesFrom n (xs ++ x ∷ [])
RisesFrom-end n [] x l h b = (l, tt)
RisesFrom-end n (e ∷ xs) x l h b = (h.0, RisesFrom-end e.at xs x b.0 h.1 b.1)

-- a list that rises, and x behind it, where all are below
pub IsRising-end : (xs : List Elem) (x : Elem) → IsRising xs → AllBelow x.at xs → IsRising (xs ++ x ∷ [])
IsRising-end [] x h b = tt
IsRising-end (e ∷ xs) x h b = RisesFrom-end e.at xs x b.0 h b.1

-- the first of what follows is above the first
pub first-rises : (xs ys : List Elem) → 1 ≤ length xs → 1 ≤ length ys → IsRising (xs ++ ys) → first_of xs < first_of ys
first-rises [] ys low high h = absurd (omega arith)
first-rises (x ∷ xs) [] low high h = absurd (omega arith)
first-rises (x ∷ xs) (y ∷ ys) low high h = (RisesFrom-suffix x.at xs y ys h).0

-- the first of two lists, the first of which isn't empty
pub first-append : (xs ys : List Elem) → 1 ≤ length xs → first_of (xs ++ ys) ≡ first_of xs
first-append [] ys h = absurd (omega arith)
first-append (x ∷ xs) ys h = refl

-- where all are below, the first is
pub first-below : (n : ℕ) (xs : List Elem) → AllBelow n xs → 1 ≤ length xs → first_of xs < n
first-below n [] b l = absurd (omega arith)
first-below n (y ∷ ys) b l = b.0

-- ---- the last element

abbrev Reads : List Elem → ℕ → ℕ → Type 0
Reads xs i last = coordinate_at xs i ≡ Some last

some-same : (n m : ℕ) → Some n ≡ Some m → n ≡ m
some-same n m e = cc

last-below : (n : ℕ) (y : Elem) (ys : List Elem) (last : ℕ) → RisesFrom y.at ys → Reads (y ∷ ys) (length ys) last → last < n → AllBelow n (y ∷ ys)
last-below n y [] last up e l = let s : y.at ≡ last = some-same y.at last e in (omega arith, tt)
last-below n y (z ∷ zs) last up e l =
    let ih : AllBelow n (z ∷ zs) = last-below n z zs last up.1 e l in
    (omega (arith, ih.0, up.0), ih)

-- all are below what the last one is below
pub AllBelow-last : (n : ℕ) (xs : List Elem) (last : ℕ) → IsRising xs → coordinate_at xs (length xs - 1) ≡ Some last → last < n → AllBelow n xs
AllBelow-last n [] last up e l = tt
AllBelow-last n (x ∷ xs) last up e l =
    let s : length (x ∷ xs) - 1 ≡ length xs = omega arith in
    last-below n x xs last up (subst (λ m. Reads (x ∷ xs) m last) s e) l

last-stops : (n : ℕ) (y : Elem) (ys : List Elem) (last : ℕ) → Reads (y ∷ ys) (length ys) last → n ≤ last → Stops n (y ∷ ys)
last-stops n y [] last e l = let s : y.at ≡ last = some-same y.at last e in inl (omega arith)
last-stops n y (z ∷ zs) last e l = inr (last-stops n z zs last e l)

-- the last one isn't below n
pub Stops-last : (n : ℕ) (xs : List Elem) (last : ℕ) → 1 ≤ length xs → coordinate_at xs (length xs - 1) ≡ Some last → n ≤ last → Stops n xs
Stops-last n [] last low e l = absurd (omega arith)
Stops-last n (x ∷ xs) last low e l =
    let s : length (x ∷ xs) - 1 ≡ length xs = omega arith in
    last-stops n x xs last (subst (λ m. Reads (x ∷ xs) m last) s e) l
