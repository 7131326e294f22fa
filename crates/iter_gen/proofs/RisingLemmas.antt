-- Coordinates that rise within bounds, and the element with a coordinate among them.
use Rattle.std.proofs.Common.{◌≡◌, ◌≤◌, ◌<◌, ◌-◌, ℕ, zero, suc, List, [], ◌∷◌, ◌++◌, length, slice_get}
use Rattle.std.proofs.Common.{Some, None, refl, ap, ◌∙◌, subst, arith, Bool, true, false, eqb, ltb, cond}
use Rattle.node_arena.specs.declared.elements.Elem.{Elem}
use Rattle.node_arena.specs.Arenas.{coordinate_at, place_in}
use Rattle.node_arena.specs.Conforming.{IsRising, RisesFrom}
use Rattle.iter_gen.specs.LookingUp.{elem_with}
use Rattle.iter_gen.specs.Searching.{RisesWithin}

-- ---- bounds

-- the number after the last coordinate
abbrev pub after : ℕ → List Elem → ℕ
after low [] = low
after low (e ∷ es) = after (suc e.at) es

-- the bounds leave room
pub RisesWithin-room : (low top : ℕ) (xs : List Elem) → RisesWithin low top xs → low ≤ top
RisesWithin-room low top [] h = h
RisesWithin-room low top (e ∷ es) h = let r : suc e.at ≤ top = RisesWithin-room (suc e.at) top es h.1 in omega (arith, h.0)

-- the lower bound may be lower
pub RisesWithin-lower : (low from top : ℕ) (xs : List Elem) → from ≤ low → RisesWithin low top xs → RisesWithin from top xs
RisesWithin-lower low from top [] le h = omega arith
RisesWithin-lower low from top (e ∷ es) le h = (omega (arith, h.0), h.1)

-- the upper bound may be higher
pub RisesWithin-higher : (low top to : ℕ) (xs : List Elem) → top ≤ to → RisesWithin low top xs → RisesWithin low to xs
RisesWithin-higher low top to [] le h = omega arith
RisesWithin-higher low top to (e ∷ es) le h = (h.0, RisesWithin-higher (suc e.at) top to es le h.1)

-- the first part of a list
pub RisesWithin-left : (low top : ℕ) (xs ys : List Elem) → RisesWithin low top (xs ++ ys) → RisesWithin low (after low xs) xs
RisesWithin-left low top [] ys h = omega arith
RisesWithin-left low top (x ∷ xs) ys h = (h.0, RisesWithin-left (suc x.at) top xs ys h.1)

-- the rest of a list
pub RisesWithin-right : (low top : ℕ) (xs ys : List Elem) → RisesWithin low top (xs ++ ys) → RisesWithin (after low xs) top ys
RisesWithin-right low top [] ys h = h
RisesWithin-right low top (x ∷ xs) ys h = RisesWithin-right (suc x.at) top xs ys h.1

-- what comes before an element is below it
pub RisesWithin-before : (low top : ℕ) (xs : List Elem) (e : Elem) (ys : List Elem) → RisesWithin low top (xs ++ e ∷ ys) → RisesWithin low e.at xs
RisesWithin-before low top [] e ys h = h.0
RisesWithin-before low top (x ∷ xs) e ys h = (h.0, RisesWithin-before (suc x.at) top xs e ys h.1)

-- what comes behind an element is above it
pub RisesWithin-behind : (low top : ℕ) (xs : List Elem) (e : Elem) (ys : List Elem) → RisesWithin low top (xs ++ e ∷ ys) → RisesWithin (suc e.at) top ys
RisesWithin-behind low top [] e ys h = h.1
RisesWithin-behind low top (x ∷ xs) e ys h = RisesWithin-behind (suc x.at) top xs e ys h.1

-- an element is within the bounds
pub RisesWithin-elem : (low top : ℕ) (xs : List Elem) (e : Elem) (ys : List Elem) → RisesWithin low top (xs ++ e ∷ ys) → (low ≤ e.at) × (e.at < top)
RisesWithin-elem low top xs e ys h =
    let l : low ≤ e.at = RisesWithin-room low e.at xs (RisesWithin-before low top xs e ys h) in
    let r : suc e.at ≤ top = RisesWithin-room (suc e.at) top ys (RisesWithin-behind low top xs e ys h) in
    (l, omega arith)

after-low : (low top : ℕ) (xs : List Elem) → RisesWithin low top xs → low ≤ after low xs
after-low low top xs h = RisesWithin-room low (after low xs) xs (whole low top xs h)
  where
    whole : (low top : ℕ) (xs : List Elem) → RisesWithin low top xs → RisesWithin low (after low xs) xs
    whole low top [] h = omega arith
    whole low top (x ∷ xs) h = (h.0, whole (suc x.at) top xs h.1)

same-elem : (x y : Elem) → Some x ≡ Some y → x ≡ y
same-elem x y e = cc

-- each element of a run is below the number after its last coordinate
pub below-after : (low top : ℕ) (xs : List Elem) (j : ℕ) (e : Elem) → RisesWithin low top xs → slice_get xs j ≡ Some e → e.at < after low xs
below-after low top [] j e h g = cc
below-after low top (x ∷ xs) zero e h g =
    let same : x.at ≡ e.at = ap (λ (v : Elem). v.at) (same-elem x e g) in
    let r : suc x.at ≤ after (suc x.at) xs = after-low (suc x.at) top xs h.1 in
    omega arith
below-after low top (x ∷ xs) (suc j) e h g = below-after (suc x.at) top xs j e h.1 g

-- the number after the last coordinate, by the last element
pub after-last : (low : ℕ) (xs : List Elem) (last : ℕ) → coordinate_at xs (length xs - 1) ≡ Some last → after low xs ≡ suc last
after-last low [] last e = cc
after-last low (x ∷ []) last e =
    let same : Some x.at ≡ Some last = e in
    let n : x.at ≡ last = some-number x.at last same in
    ap suc n
  where
    some-number : (i j : ℕ) → Some i ≡ Some j → i ≡ j
    some-number i j e = cc
after-last low (x ∷ y ∷ xs) last e =
    let shorter : length (x ∷ y ∷ xs) - 1 ≡ suc (length (y ∷ xs) - 1) = omega arith in
    after-last (suc x.at) (y ∷ xs) last (subst (λ n. coordinate_at (x ∷ y ∷ xs) n ≡ Some last) shorter e)

-- elements that rise, rise within some bounds
pub RisesWithin-rising : (xs : List Elem) → IsRising xs → (top : ℕ) × RisesWithin 0 top xs
RisesWithin-rising [] h = (0, omega arith)
RisesWithin-rising (x ∷ xs) h = let r = from x.at xs h in (r.0, (omega arith, r.1))
  where
    from : (n : ℕ) (xs : List Elem) → RisesFrom n xs → (top : ℕ) × RisesWithin (suc n) top xs
    from n [] h = (suc n, omega arith)
    from n (x ∷ xs) h = let r = from x.at xs h.1 in (r.0, (omega (arith, h.0), r.1))

-- ---- the element with a coordinate

module _ (at : ℕ) where
  -- none where all lie above
  pub elem_with-above : (low top : ℕ) (xs : List Elem) → at < low → RisesWithin low top xs → elem_with at xs ≡ None
  elem_with-above low top [] l h = refl
  elem_with-above low top (e ∷ es) l h =
      let t : eqb e.at at ≡ false = grind (arith, h.0, l) in
      rw t (elem_with-above (suc e.at) top es (omega (arith, h.0)) h.1)

  -- none where all lie below
  pub elem_with-below : (low top : ℕ) (xs : List Elem) → top ≤ at → RisesWithin low top xs → elem_with at xs ≡ None
  elem_with-below low top [] l h = refl
  elem_with-below low top (e ∷ es) l h =
      let r : suc e.at ≤ top = RisesWithin-room (suc e.at) top es h.1 in
      let t : eqb e.at at ≡ false = grind (arith, r, l) in
      rw t (elem_with-below (suc e.at) top es l h.1)

  past-one : (e : Elem) (es ys : List Elem) (b : Bool) → cond b (Some e) (elem_with at es) ≡ None
      → (elem_with at es ≡ None → elem_with at (es ++ ys) ≡ elem_with at ys) → cond b (Some e) (elem_with at (es ++ ys)) ≡ elem_with at ys
  past-one e es ys true h f = cc
  past-one e es ys false h f = f h

  -- a first part without it is passed
  pub elem_with-past : (xs ys : List Elem) → elem_with at xs ≡ None → elem_with at (xs ++ ys) ≡ elem_with at ys
  elem_with-past [] ys h = refl
  elem_with-past (e ∷ es) ys h = past-one e es ys (eqb e.at at) h (elem_with-past es ys)

  -- a rest without it is left out
  pub elem_with-within : (xs ys : List Elem) → elem_with at ys ≡ None → elem_with at (xs ++ ys) ≡ elem_with at xs
  elem_with-within [] ys h = h
  elem_with-within (e ∷ es) ys h = ap (λ r. cond (eqb e.at at) (Some e) r) (elem_with-within es ys h)

  -- it is the one with the coordinate
  pub elem_with-found : (low top : ℕ) (xs : List Elem) (e : Elem) (ys : List Elem) → RisesWithin low top (xs ++ e ∷ ys) → e.at ≡ at
      → elem_with at (xs ++ e ∷ ys) ≡ Some e
  elem_with-found low top xs e ys h same =
      let t : eqb e.at at ≡ true = grind (arith, same) in
      elem_with-past xs (e ∷ ys) (elem_with-below low e.at xs (omega (arith, same)) (RisesWithin-before low top xs e ys h)) ∙ rw t refl

  missing-step : (low top : ℕ) (x : Elem) (xs : List Elem) (e : Elem) (b : Bool) → ltb x.at at ≡ b → RisesWithin low top (x ∷ xs)
      → slice_get (x ∷ xs) (cond b (suc (place_in at xs)) 0) ≡ Some e → at < e.at
      → (slice_get xs (place_in at xs) ≡ Some e → elem_with at xs ≡ None) → elem_with at (x ∷ xs) ≡ None
  missing-step low top x xs e true t h g above f =
      let u : eqb x.at at ≡ false = grind (arith, t) in
      rw u (f g)
  missing-step low top x xs e false t h g above f =
      let same : x.at ≡ e.at = ap (λ (v : Elem). v.at) (same-elem x e g) in
      let l : at < x.at = omega arith in
      elem_with-above x.at top (x ∷ xs) l (omega arith, h.1)

  -- a run has none where the element at its place is above
  pub elem_with-missing : (low top : ℕ) (xs : List Elem) (e : Elem) → RisesWithin low top xs → slice_get xs (place_in at xs) ≡ Some e → at < e.at
      → elem_with at xs ≡ None
  elem_with-missing low top [] e h g above = refl
  elem_with-missing low top (x ∷ xs) e h g above =
      missing-step low top x xs e (ltb x.at at) refl h g above (λ k. elem_with-missing (suc x.at) top xs e h.1 k above)
