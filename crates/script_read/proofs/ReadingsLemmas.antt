-- What follows of readings that succeed.
use Rattle.std.proofs.Common.{◌≡◌, ◌++◌, Bool, true, false, List, [], ◌∷◌, length, Option, Some, None, Result, Ok, Err, ap, refl, subst, suc}
use Rattle.std.specs.Prelude.{IfSome, option_map, option_and_then, if◌then◌else◌}
use Rattle.std.specs.List.{list_all}
use Rattle.script_read.specs.Readings.{◌>>=◌, check, every, each_after}

-- ---- values

-- what holds of a value, if there is one, holds of this one
pub IfSome-at : {X : Type 0} (P : X → Type 0) (o : Option X) (x : X) → IfSome o P → o ≡ Some x → P x
IfSome-at P None x h e = absurd (let no : ⊥ = cc in no)
IfSome-at P (Some y) x h e = let same : y ≡ x = cc in subst P same h

-- a choice of two
pub IfSome-if : {X : Type 0} (P : X → Type 0) (b : Bool) (o p : Option X) → IfSome o P → IfSome p P → IfSome (if b then o else p) P
IfSome-if P true o p h k = h
IfSome-if P false o p h k = k

-- a value that is mapped
pub IfSome-map : {X Y : Type 0} (P : Y → Type 0) (f : X → Y) (o : Option X) → ((x : X) → o ≡ Some x → P (f x)) → IfSome (option_map f o) P
IfSome-map P f None h = tt
IfSome-map P f (Some x) h = h x refl

-- a value that another reading follows
pub IfSome-then : {X Y : Type 0} (P : Y → Type 0) (f : X → Option Y) (o : Option X) → ((x : X) → o ≡ Some x → IfSome (f x) P) → IfSome (option_and_then f o) P
IfSome-then P f None h = tt
IfSome-then P f (Some x) h = h x refl

-- as many values as elements, each of which passes the test that all values pass
pub every-passes : {X Y : Type 0} (f : X → Option Y) (p : Y → Bool) → ((x : X) (y : Y) → f x ≡ Some y → p y ≡ true)
    → (xs : List X) → IfSome (every f xs) (λ ys. (length ys ≡ length xs) × (list_all p ys ≡ true))
every-passes f p h [] = (refl, refl)
every-passes {X} {Y} f p h (x ∷ xs) =
    let P : List Y → Type 0 = λ ys. (length ys ≡ length (x ∷ xs)) × (list_all p ys ≡ true) in
    let Q : List Y → Type 0 = λ ys. (length ys ≡ length xs) × (list_all p ys ≡ true) in
    IfSome-then P (λ y. option_map (λ ys. y ∷ ys) (every f xs)) (f x) (λ y is. IfSome-map P (λ ys. y ∷ ys) (every f xs) (λ ys e.
    let rest = IfSome-at Q (every f xs) ys (every-passes f p h xs) e in
    let one : p y ≡ true = h x y is in
    (ap suc rest.0, rw (one, rest.1) refl)))

-- ---- results

-- a check passed
pub check-Ok : {E Y : Type 0} (b : Bool) (e : E) (f : Unit {0} → Result Y E) (y : Y) → (check b e >>= f) ≡ Ok y → (b ≡ true) × (f tt ≡ Ok y)
check-Ok true e f y h = (refl, h)
check-Ok false e f y h = absurd (let no : ⊥ = cc in no)

-- one value
pub Ok-same : {E Y : Type 0} (x y : Y) → ◌≡◌ {A = Result Y E} (Ok x) (Ok y) → x ≡ y
Ok-same x y e = cc

-- a fault is no value
pub Err-Ok : {E Y : Type 0} (e : E) (y : Y) → ◌≡◌ {A = Result Y E} (Err e) (Ok y) → ⊥
Err-Ok e y h = cc

-- what each step keeps
pub each_after-keeps : {X Y E : Type 0} (P : List Y → Type 0) (read : List Y → X → Result Y E)
    → ((before : List Y) (x : X) (y : Y) → P before → read before x ≡ Ok y → P (before ++ y ∷ []))
    → (before : List Y) (xs : List X) (ys : List Y) → P before → each_after read before xs ≡ Ok ys → P ys
each_after-keeps P read step before [] ys h e = subst P (Ok-same before ys e) h
each_after-keeps P read step before (x ∷ xs) ys h e =
    elim (read before x) as (λ r. read before x ≡ r → (r >>= (λ y. each_after read (before ++ y ∷ []) xs)) ≡ Ok ys → P ys) [
      | Ok y ↦ λ is f. each_after-keeps P read step (before ++ y ∷ []) xs ys (step before x y h is) f
      | Err c ↦ λ is f. absurd (Err-Ok c ys f)
    ] refl e
