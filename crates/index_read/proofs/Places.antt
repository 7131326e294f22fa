-- The place of a variable among those so far is its place among all.
use Rattle.std.proofs.Common.{◌≡◌, ℕ, ◌+◌, ◌++◌, Bool, true, false, cond, List, [], ◌∷◌, length, map, refl, ap, sym, ◌∙◌, subst, Some, None, arith, nat_lt}
use Rattle.std.proofs.Common.{nat_eq}
use Rattle.std.specs.Prelude.{◌||◌}
use Rattle.std.specs.Cmp.Lexicographic.{pointwise}
use Rattle.std.proofs.lemmas.Bool.Decides.{nat_tests}
use Rattle.std.proofs.lemmas.List.{append_assoc, append-nil, map-append, length-map}
use Rattle.std.proofs.lemmas.List.Folds.{list_any-append}
use Rattle.index_read.specs.Scans.{has_name, with_variable}
use Rattle.index_read.specs.Building.{place_of, place_from, with_place}
use Rattle.index_read.specs.Excess.{with_name}

-- all that a list begins with
pub record Begun (xs all : List (List ℕ)) : Type 0 where
  pub more : List (List ℕ)
  pub is : all ≡ xs ++ more

-- a text equals itself
pub itself : (xs : List ℕ) → pointwise nat_eq xs xs ≡ true
itself [] = refl
itself (x ∷ xs) = let one : nat_eq x x ≡ true = grind (arith, nat_tests) in rw (one, itself xs) refl

kept_by : (n : ℕ) (b : Bool) (name : List ℕ) (xs more : List (List ℕ)) → (b || has_name xs name) ≡ true
    → (has_name xs name ≡ true → place_from (n + 1) (xs ++ more) name ≡ place_from (n + 1) xs name)
    → cond b n (place_from (n + 1) (xs ++ more) name) ≡ cond b n (place_from (n + 1) xs name)
kept_by n true name xs more h rest = refl
kept_by n false name xs more h rest = rest h

place_from-kept : (xs more : List (List ℕ)) (n : ℕ) (name : List ℕ) → has_name xs name ≡ true → place_from n (xs ++ more) name ≡ place_from n xs name
place_from-kept [] more n name h = absurd (cc)
place_from-kept (x ∷ xs) more n name h = kept_by n (pointwise nat_eq x name) name xs more h (λ k. place_from-kept xs more (n + 1) name k)

-- a name keeps its place when others are added
pub place_of-kept : (xs all : List (List ℕ)) (name : List ℕ) → Begun xs all → has_name xs name ≡ true → place_of xs name ≡ place_of all name
place_of-kept xs all name b h = sym (place_from-kept xs b.more 0 name h) ∙ ap (λ ys. place_of ys name) (sym b.is)

or_true : (a b : Bool) → b ≡ true → (a || b) ≡ true
or_true true b e = refl
or_true false b e = e

-- one more variable is then among them
var_by : (vars vs : List (List ℕ)) (name : List ℕ) (b : Bool) (c : Bool) → has_name vars name ≡ b
    → cond b (Some vars) (cond c (Some (vars ++ name ∷ [])) None) ≡ Some vs
    → (has_name vs name ≡ true) × (vs ≡ cond b vars (vars ++ name ∷ []))
var_by vars vs name true c e h = let same : vars ≡ vs = cc in (subst (λ ys. has_name ys name ≡ true) same e, sym same)
var_by vars vs name false true e h =
    let same : vars ++ name ∷ [] ≡ vs = cc in
    let last : has_name (name ∷ []) name ≡ true = rw (itself name) refl in
    let among : has_name (vars ++ name ∷ []) name ≡ true = list_any-append (λ v. pointwise nat_eq v name) vars (name ∷ [])
    ∙ or_true (has_name vars name) (has_name (name ∷ []) name) last in
    (subst (λ ys. has_name ys name ≡ true) same among, sym same)
var_by vars vs name false false e h = absurd (cc)

-- a variable that is added is among them
pub with_variable-is : (vars vs : List (List ℕ)) (name : List ℕ) → with_variable vars name ≡ Some vs → (has_name vs name ≡ true) × (vs ≡ with_name vars name)
with_variable-is vars vs name h = var_by vars vs name (has_name vars name) (nat_lt (length vars) 8) refl h

with_name_begun : (vars : List (List ℕ)) (name : List ℕ) (b : Bool) → Begun vars (cond b vars (vars ++ name ∷ []))
with_name_begun vars name true = record { more = []; is = sym (append-nil vars) }
with_name_begun vars name false = record { more = name ∷ []; is = refl }

-- a name that is added leaves those before
pub with_name-begun : (vars : List (List ℕ)) (name : List ℕ) → Begun vars (with_name vars name)
with_name-begun vars name = with_name_begun vars name (has_name vars name)

-- names begin with themselves
pub begun-same : (xs : List (List ℕ)) → Begun xs xs
begun-same xs = record { more = []; is = sym (append-nil xs) }

-- what begins a beginning begins the whole
pub begun-trans : (xs ys zs : List (List ℕ)) → Begun xs ys → Begun ys zs → Begun xs zs
begun-trans xs ys zs a b = record { more = a.more ++ b.more; is = b.is ∙ ap (λ r. r ++ b.more) a.is ∙ append_assoc xs a.more b.more }

-- one more place in a list
pub with_place-more : (f : List ℕ → ℕ) (list : List ℕ) (names : List (List ℕ)) (name : List ℕ) (n p : ℕ) → list ≡ map f names → n ≡ length names
    → nat_lt n 8 ≡ true → p ≡ f name
    → with_place list p ≡ map f (names ++ name ∷ [])
with_place-more f list names name n p e l room q =
    let len : length list ≡ n = ap length e ∙ length-map names f ∙ sym l in
    let room' : nat_lt (length list) 8 ≡ true = ap (λ k. nat_lt k 8) len ∙ room in
    rw room' (ap (λ xs. xs ++ p ∷ []) e ∙ ap (λ k. map f names ++ k ∷ []) q ∙ sym (map-append f names (name ∷ [])))
