-- A list with an element put in, read one by one.
use Rattle.std.proofs.Common.{◌≡◌, ◌≤◌, ◌<◌, ◌+◌, ◌-◌, ℕ, zero, suc, List, [], ◌∷◌, ◌++◌, length, take, slice_get, Option, Some, None, IfSome, refl, ap, ◌∙◌, sym, subst, arith}
use Rattle.std.proofs.lemmas.List.{take_more_set}
use Rattle.std.specs.List.{insert, slice_set}
use Rattle.node_arena.specs.declared.elements.Elem.{Elem}
use Rattle.node_arena.specs.Arenas.{NodeState}

-- before its place the elements are the old ones
pub get-insert-before : {A : Type 0} (xs : List A) (p i : ℕ) (x : A) → i < p → p ≤ length xs → slice_get (insert xs p x) i ≡ slice_get xs i
get-insert-before [] p i x l h = absurd (omega arith)
get-insert-before (y ∷ xs) zero i x l h = absurd (omega arith)
get-insert-before (y ∷ xs) (suc p) zero x l h = refl
get-insert-before (y ∷ xs) (suc p) (suc i) x l h = get-insert-before xs p i x (omega arith) (omega arith)

-- at its place is the element
pub get-insert : {A : Type 0} (xs : List A) (p : ℕ) (x : A) → p ≤ length xs → slice_get (insert xs p x) p ≡ Some x
get-insert [] zero x h = refl
get-insert [] (suc p) x h = absurd (omega arith)
get-insert (y ∷ xs) zero x h = refl
get-insert (y ∷ xs) (suc p) x h = get-insert xs p x (omega arith)

-- behind it the old elements are one further on
pub get-insert-behind : {A : Type 0} (xs : List A) (p i : ℕ) (x : A) → p < i → p ≤ length xs → slice_get (insert xs p x) i ≡ slice_get xs (i - 1)
get-insert-behind xs p zero x l h = absurd (omega arith)
get-insert-behind [] zero (suc i) x l h = let e : suc i - 1 ≡ i = omega arith in ap (slice_get []) (sym e)
get-insert-behind (y ∷ xs) zero (suc i) x l h = let e : suc i - 1 ≡ i = omega arith in ap (slice_get (y ∷ xs)) (sym e)
get-insert-behind [] (suc p) i x l h = absurd (omega arith)
get-insert-behind (y ∷ xs) (suc p) (suc zero) x l h = absurd (omega arith)
get-insert-behind (y ∷ xs) (suc p) (suc (suc i)) x l h =
    let e : suc i - 1 ≡ i = omega arith in
    let f : suc (suc i) - 1 ≡ suc i = omega arith in
    get-insert-behind xs p (suc i) x (omega arith) (omega arith) ∙ ap (slice_get xs) e ∙ ap (slice_get (y ∷ xs)) (sym f)

-- one element more of a list
pub take-get : {A : Type 0} (xs : List A) (i : ℕ) (x : A) → slice_get xs i ≡ Some x → take (i + 1) xs ≡ take i xs ++ x ∷ []
take-get [] i x e = cc
take-get (y ∷ xs) zero x e = let same : y ≡ x = cc (e) in ap (λ v. v ∷ []) same
take-get (y ∷ xs) (suc i) x e =
    let n : suc (i + 1) ≡ suc i + 1 = omega arith in
    subst (λ m. take m (y ∷ xs) ≡ y ∷ (take i xs ++ x ∷ [])) n (ap (λ w. y ∷ w) (take-get xs i x e))

-- the next element of another list is written
pub take-set-get : {A : Type 0} (run wide : List A) (i : ℕ) (x : A) → i < length run → take i run ≡ take i wide → slice_get wide i ≡ Some x
    → take (i + 1) (slice_set run i x) ≡ take (i + 1) wide
take-set-get run wide i x l same e = take_more_set run i x l ∙ ap (λ v. v ++ x ∷ []) same ∙ sym (take-get wide i x e)

-- the same of the elements of a node
pub take-set-node : (o : Option NodeState) (p : ℕ) (x : Elem) (run : List Elem) (i : ℕ) (y : Elem) → i < length run
    → IfSome o (λ n. take i run ≡ take i (insert n.run p x)) → IfSome o (λ n. slice_get (insert n.run p x) i ≡ Some y)
    → IfSome o (λ n. take (i + 1) (slice_set run i y) ≡ take (i + 1) (insert n.run p x))
take-set-node None p x run i y l same e = tt
take-set-node (Some n) p x run i y l same e = take-set-get run (insert n.run p x) i y l same e
