-- Visits of one list of elements after another.
use Rattle.std.proofs.Common.{◌≡◌, ◌≤◌, inl, inr, ℕ, zero, suc, ◌+◌, length, drop, slice_get, Option, Some, None}
use Rattle.std.proofs.Common.{IfSome, IsSomeAnd, arith, List, [], ◌∷◌, ◌++◌, Result, Ok, Err, IsErr, refl, ap, ◌∙◌, sym, subst}
use Rattle.node_arena.specs.declared.elements.Elem.{Elem}
use Rattle.node_arena.specs.Arenas.{RunState}
use Rattle.iter_gen.specs.Visiting.{Visits, AllowsEach, IsAt}

module _ {V E : Type 0} (visit : V → Elem → Result (Unit {0}) E → V → Type 0) where
  ok-is-no-error : IsErr {T = Unit {0}} {E = E} (Ok tt) → ⊥
  ok-is-no-error e = cc

  error-is-not-ok : (stop : E) → ◌≡◌ {A = Result (Unit {0}) E} (Err stop) (Ok tt) → ⊥
  error-is-not-ok stop e = cc

  -- all of the first list are visited, and then the second list is
  pub Visits-then : (xs ys : List Elem) (old mid : V) (result : Result (Unit {0}) E) (new : V) → Visits visit xs old (Ok tt) mid
      → Visits visit ys mid result new → Visits visit (xs ++ ys) old result new
  Visits-then [] ys old mid result new h g = subst (λ v. Visits visit ys v result new) h.1 g
  Visits-then (x ∷ xs) ys old mid result new (inl h) g = inl (h.0, h.1, Visits-then xs ys h.0 mid result new h.2 g)
  Visits-then (x ∷ xs) ys old mid result new (inr h) g = absurd (ok-is-no-error h.0)

  -- a visit of the first list fails, and none of the second list is visited
  pub Visits-stopped : (xs ys : List Elem) (old : V) (stop : E) (new : V) → Visits visit xs old (Err stop) new → Visits visit (xs ++ ys) old (Err stop) new
  Visits-stopped [] ys old stop new h = absurd (error-is-not-ok stop h.0)
  Visits-stopped (x ∷ xs) ys old stop new (inl h) = inl (h.0, h.1, Visits-stopped xs ys h.0 stop new h.2)
  Visits-stopped (x ∷ xs) ys old stop new (inr h) = inr h

  -- an element is visited, and then the others are
  pub Visits-next : (x : Elem) (xs : List Elem) (old mid : V) (result : Result (Unit {0}) E) (new : V) → visit old x (Ok tt) mid
      → Visits visit xs mid result new → Visits visit (x ∷ xs) old result new
  Visits-next x xs old mid result new h g = inl (mid, h, g)

  -- the visit of an element fails
  pub Visits-first : (x : Elem) (xs : List Elem) (old : V) (stop : E) (new : V) → visit old x (Err stop) new → Visits visit (x ∷ xs) old (Err stop) new
  Visits-first x xs old stop new h = inr (refl, h)

  -- the first of some elements is visited
  pub Visits-at : (all : List Elem) (x : Elem) (xs : List Elem) → all ≡ x ∷ xs → (old mid : V) (result : Result (Unit {0}) E) (new : V)
      → visit old x (Ok tt) mid → Visits visit xs mid result new → Visits visit all old result new
  Visits-at all x xs e old mid result new h g = subst (λ v. Visits visit v old result new) (sym e) (Visits-next x xs old mid result new h g)

  -- the visit of the first of some elements fails
  pub Visits-stopped-at : (all : List Elem) (x : Elem) (xs : List Elem) → all ≡ x ∷ xs → (old : V) (stop : E) (new : V)
      → visit old x (Err stop) new → Visits visit all old (Err stop) new
  Visits-stopped-at all x xs e old stop new h = subst (λ v. Visits visit v old (Err stop) new) (sym e) (Visits-first x xs old stop new h)

module _ (allows : Elem → Type 0) where
  pub AllowsEach-left : (xs ys : List Elem) → AllowsEach allows (xs ++ ys) → AllowsEach allows xs
  AllowsEach-left [] ys h = tt
  AllowsEach-left (x ∷ xs) ys h = (h.0, AllowsEach-left xs ys h.1)

  pub AllowsEach-right : (xs ys : List Elem) → AllowsEach allows (xs ++ ys) → AllowsEach allows ys
  AllowsEach-right [] ys h = h
  AllowsEach-right (x ∷ xs) ys h = AllowsEach-right xs ys h.1

-- what is allowed stays allowed
pub AllowsEach-kept : (old new : Elem → Type 0) (xs : List Elem) → ((e : Elem) → old e → new e) → AllowsEach old xs → AllowsEach new xs
AllowsEach-kept old new [] f h = tt
AllowsEach-kept old new (x ∷ xs) f h = (f x h.0, AllowsEach-kept old new xs f h.1)

same-elem : (x y : Elem) → Some x ≡ Some y → x ≡ y
same-elem x y e = cc

-- from an element on
pub drop-at : (xs : List Elem) (j : ℕ) (x : Elem) → slice_get xs j ≡ Some x → drop j xs ≡ x ∷ drop (j + 1) xs
drop-at [] j x h = cc
drop-at (y ∷ ys) zero x h = ap (λ v. v ∷ ys) (same-elem y x h)
drop-at (y ∷ ys) (suc j) x h = let e : suc j + 1 ≡ suc (j + 1) = omega arith in drop-at ys j x h ∙ ap (λ n. x ∷ drop n (y ∷ ys)) (sym e)

-- nothing is left behind the last element
pub drop-end : (xs : List Elem) (j : ℕ) → length xs ≤ j → drop j xs ≡ []
drop-end [] zero h = refl
drop-end [] (suc j) h = refl
drop-end (x ∷ xs) zero h = absurd (omega arith)
drop-end (x ∷ xs) (suc j) h = drop-end xs j (omega arith)

module _ {V E : Type 0} (allows : V → Elem → Type 0) (visit : V → Elem → Result (Unit {0}) E → V → Type 0) (old now : V) (j : ℕ) (x : Elem) where
  here : (xs : List Elem) → Some x ≡ slice_get xs j → drop j xs ≡ x ∷ drop (j + 1) xs
  here xs e = drop-at xs j x (sym e)

  pub flat-allowed : (o : Option RunState) → IsSomeAnd o (λ r. IsAt allows visit old now j r.elems) → IfSome o (λ r. Some x ≡ slice_get r.elems j)
      → allows now x
  flat-allowed None h e = absurd h
  flat-allowed (Some r) h e = (subst (AllowsEach (allows now)) (here r.elems e) h.allowed).0

  pub flat-next : (mid : V) (o : Option RunState) → IsSomeAnd o (λ r. IsAt allows visit old now j r.elems) → IfSome o (λ r. Some x ≡ slice_get r.elems j)
      → visit now x (Ok tt) mid → ((e : Elem) → allows now e → allows mid e) → IsSomeAnd o (λ r. IsAt allows visit old mid (j + 1) r.elems)
  flat-next mid None h e v kept = absurd h
  flat-next mid (Some r) h e v kept = record {
    allowed = AllowsEach-kept (allows now) (allows mid) (drop (j + 1) r.elems) kept (subst (AllowsEach (allows now)) (here r.elems e) h.allowed).1;
    comes = λ result new g. h.comes result new
        (Visits-at visit (drop j r.elems) x (drop (j + 1) r.elems) (here r.elems e) now mid result new v g);
  }

  pub flat-stopped : (stop : E) (new : V) (o : Option RunState) → IsSomeAnd o (λ r. IsAt allows visit old now j r.elems)
      → IfSome o (λ r. Some x ≡ slice_get r.elems j)
      → visit now x (Err stop) new → IfSome o (λ r. Visits visit r.elems old (Err stop) new)
  flat-stopped stop new None h e v = tt
  flat-stopped stop new (Some r) h e v =
      h.comes (Err stop) new (Visits-stopped-at visit (drop j r.elems) x (drop (j + 1) r.elems) (here r.elems e) now stop new v)

-- what is always allowed is allowed of each
pub AllowsEach-always : (allows : Elem → Type 0) → ((e : Elem) → allows e) → (xs : List Elem) → AllowsEach allows xs
AllowsEach-always allows f [] = tt
AllowsEach-always allows f (x ∷ xs) = (f x, AllowsEach-always allows f xs)
