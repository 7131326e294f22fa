-- Where an element goes in a list that rises.
use Rattle.std.proofs.Common.{◌≡◌, ◌≤◌, ◌<◌, ◌-◌, ◌⊎◌, inl, inr, ℕ, List, [], ◌∷◌, ◌++◌, length, refl, ap, ◌∙◌, sym, subst, arith, append-nil, Bool, true, false, ltb, cond, unwrap_or}
use Rattle.node_arena.specs.declared.elements.Elem.{Elem}
use Rattle.node_arena.specs.Arenas.{coordinate_at}
use Rattle.node_arena.specs.Conforming.{RisesFrom, IsRising}
use Rattle.node_arena.specs.Insertions.{put_in}
use Rattle.node_arena.proofs.PutInLemmas.{AllBelow, Reaches, AllBelow-rising, IsRising-prefix, IsRising-suffix, put_in-past, put_in-before}
use Rattle.chunk_tree.specs.Ways.{first_of, last_of}

-- ---- one element put into a list

-- an element of the list isn't below
abbrev pub Stops : ℕ → List Elem → Type 0
Stops n [] = ⊥
Stops n (e ∷ es) = (n ≤ e.at) ⊎ Stops n es

step : (x e : Elem) (xs ys w : List Elem) (b : Bool) → w ≡ put_in x xs ++ ys
    → cond b (e ∷ w) (x ∷ e ∷ xs ++ ys) ≡ cond b (e ∷ put_in x xs) (x ∷ e ∷ xs) ++ ys
step x e xs ys w true h = ap (λ v. e ∷ v) h
step x e xs ys w false h = refl

-- x goes into the first list where that has an element that isn't below
pub put_in-within : (x : Elem) (xs ys : List Elem) → Stops x.at xs → put_in x (xs ++ ys) ≡ put_in x xs ++ ys
put_in-within x [] ys h = absurd h
put_in-within x (e ∷ xs) ys (inl h) =
    let t : ltb e.at x.at ≡ false = grind (arith, h) in
    rw t refl
put_in-within x (e ∷ xs) ys (inr h) = step x e xs ys (put_in x (xs ++ ys)) (ltb e.at x.at) (put_in-within x xs ys h)

-- ---- first and last

-- the coordinate of the last element; n where there is none
abbrev last_from : ℕ → List Elem → ℕ
last_from n [] = n
last_from n (e ∷ es) = last_from e.at es

last-at : (y : Elem) (ys : List Elem) → unwrap_or (coordinate_at (y ∷ ys) (length ys)) 0 ≡ last_from y.at ys
last-at y [] = refl
last-at y (z ∷ zs) = last-at z zs

last-is : (y : Elem) (ys : List Elem) → last_of (y ∷ ys) ≡ last_from y.at ys
last-is y ys =
    let e : length (y ∷ ys) - 1 ≡ length ys = omega arith in
    ap (λ m. unwrap_or (coordinate_at (y ∷ ys) m) 0) e ∙ last-at y ys

last-below : (n : ℕ) (y : Elem) (ys : List Elem) → RisesFrom y.at ys → last_from y.at ys < n → AllBelow n (y ∷ ys)
last-below n y [] up last = (last, tt)
last-below n y (z ∷ zs) up last =
    let ih : AllBelow n (z ∷ zs) = last-below n z zs up.1 last in
    (omega (arith, ih.0, up.0), ih)

-- all are below where the last is
pub AllBelow-last : (n : ℕ) (xs : List Elem) → IsRising xs → last_of xs < n → AllBelow n xs
AllBelow-last n [] up last = tt
AllBelow-last n (x ∷ xs) up last = last-below n x xs up (subst (λ m. m < n) (last-is x xs) last)

last-stops : (n : ℕ) (y : Elem) (ys : List Elem) → n ≤ last_from y.at ys → Stops n (y ∷ ys)
last-stops n y [] last = inl last
last-stops n y (z ∷ zs) last = inr (last-stops n z zs last)

Stops-last : (n : ℕ) (xs : List Elem) → 1 ≤ length xs → n ≤ last_of xs → Stops n xs
Stops-last n [] low last = absurd (omega arith)
Stops-last n (x ∷ xs) low last = last-stops n x xs (subst (λ m. n ≤ m) (last-is x xs) last)

-- ---- three lists in a row

-- all that comes before the run is below what the run's first doesn't exceed
below-run : (n : ℕ) (xs run ys : List Elem) → 1 ≤ length run → IsRising (xs ++ (run ++ ys)) → first_of run ≤ n → AllBelow n xs
below-run n xs [] ys low h l = absurd (omega arith)
below-run n xs (y ∷ run) ys low h l = AllBelow-rising n xs y (run ++ ys) h l

first-last : (n : ℕ) (run : List Elem) → 1 ≤ length run → AllBelow n run → first_of run ≤ n
first-last n [] low h = absurd (omega arith)
first-last n (y ∷ run) low h = omega (arith, h.0)

reach : (x : Elem) (ys r : List Elem) → 1 ≤ length r → x.at < first_of r → Reaches x.at (r ++ ys)
reach x ys [] l g = absurd (omega arith)
reach x ys (y ∷ r) l g = omega (arith, g)

module _ (x : Elem) (xs run ys : List Elem) where
  -- x goes into the first part
  pub goes-pre : 1 ≤ length run → x.at < first_of run → put_in x (xs ++ (run ++ ys)) ≡ put_in x xs ++ (run ++ ys)
  goes-pre low h = put_in-before x xs (run ++ ys) (reach x ys run low h)

  -- x goes into the last part
  pub goes-post : 1 ≤ length run → IsRising (xs ++ (run ++ ys)) → last_of run < x.at → put_in x (xs ++ (run ++ ys)) ≡ xs ++ (run ++ put_in x ys)
  goes-post low up h =
      let in_run : AllBelow x.at run = AllBelow-last x.at run (IsRising-prefix run ys (IsRising-suffix xs (run ++ ys) up)) h in
      put_in-past x xs (run ++ ys) (below-run x.at xs run ys low up (first-last x.at run low in_run))
      ∙ ap (λ v. xs ++ v) (put_in-past x run ys in_run)

  -- x goes into the run
  pub goes-run : 1 ≤ length run → IsRising (xs ++ (run ++ ys)) → (first_of run ≤ x.at) ⊎ (xs ≡ []) → (x.at ≤ last_of run) ⊎ (ys ≡ [])
      → put_in x (xs ++ (run ++ ys)) ≡ xs ++ (put_in x run ++ ys)
  goes-run low up f l = past f ∙ ap (λ v. xs ++ v) (within l)
    where
      past : (first_of run ≤ x.at) ⊎ (xs ≡ []) → put_in x (xs ++ (run ++ ys)) ≡ xs ++ put_in x (run ++ ys)
      past (inl g) = put_in-past x xs (run ++ ys) (below-run x.at xs run ys low up g)
      past (inr g) = subst (λ v. put_in x (v ++ (run ++ ys)) ≡ v ++ put_in x (run ++ ys)) (sym g) refl

      within : (x.at ≤ last_of run) ⊎ (ys ≡ []) → put_in x (run ++ ys) ≡ put_in x run ++ ys
      within (inl g) = put_in-within x run ys (Stops-last x.at run low g)
      within (inr g) = subst (λ v. put_in x (run ++ v) ≡ put_in x run ++ v) (sym g) (ap (put_in x) (append-nil run) ∙ sym (append-nil (put_in x run)))

  -- behind the run
  pub rises-behind : IsRising run → last_of run < x.at → IsRising (run ++ (x ∷ []))
  rises-behind up h = behind run up (AllBelow-last x.at run up h)
    where
      from : (n : ℕ) (r : List Elem) → RisesFrom n r → n < x.at → AllBelow x.at r → RisesFrom n (r ++ (x ∷ []))
      from n [] g l b = (l, tt)
      from n (y ∷ r) g l b = (g.0, from y.at r g.1 b.0 b.1)

      behind : (r : List Elem) → IsRising r → AllBelow x.at r → IsRising (r ++ (x ∷ []))
      behind [] g b = tt
      behind (y ∷ r) g b = from y.at r g b.0 b.1

  -- before the run
  pub rises-before : IsRising run → x.at < first_of run → IsRising (x ∷ run)
  rises-before up h = before run up h
    where
      before : (r : List Elem) → IsRising r → x.at < first_of r → IsRising (x ∷ r)
      before [] g l = tt
      before (y ∷ r) g l = (l, g)
