-- The first fault of terms that follow one another.
use Rattle.std.proofs.Common.{◌≡◌, ℕ, suc, ◌+◌, ◌++◌, List, [], ◌∷◌, map, length, refl, ap, sym, ◌∙◌, arith, Option, Some, None}
use Rattle.std.specs.List.{enumerate_from}
use Rattle.dt_model.specs.Refusals.{or_else, first_of_all}

or_else-None : {X : Type 0} (o : Option X) → or_else o None ≡ o
or_else-None None = refl
or_else-None (Some x) = refl

or_else-assoc : {X : Type 0} (a b c : Option X) → or_else a (or_else b c) ≡ or_else (or_else a b) c
or_else-assoc None b c = refl
or_else-assoc (Some x) b c = refl

-- the first fault of some terms, or else of those that follow them
faults-append : {X Y : Type 0} (f : ℕ × X → Option Y) (k : ℕ) (xs ys : List X)
    → first_of_all (map f (enumerate_from k (xs ++ ys)))
    ≡ or_else (first_of_all (map f (enumerate_from k xs))) (first_of_all (map f (enumerate_from (k + length xs) ys)))
faults-append f k [] ys = let e : k ≡ k + 0 = omega arith in ap (λ n. first_of_all (map f (enumerate_from n ys))) e
faults-append f k (x ∷ xs) ys =
    let e : k + 1 + length xs ≡ k + suc (length xs) = omega arith in
    ap (or_else (f (k, x))) (faults-append f (k + 1) xs ys)
    ∙ or_else-assoc (f (k, x)) (first_of_all (map f (enumerate_from (k + 1) xs))) (first_of_all (map f (enumerate_from (k + 1 + length xs) ys)))
    ∙ ap (λ n. or_else (or_else (f (k, x)) (first_of_all (map f (enumerate_from (k + 1) xs)))) (first_of_all (map f (enumerate_from n ys)))) e

-- the fault of one term alone
pub fault_alone : {X Y : Type 0} (f : ℕ × X → Option Y) (k : ℕ) (x : X) (zs : List X) (r : Option Y) → zs ≡ x ∷ [] → r ≡ f (k, x)
    → r ≡ first_of_all (map f (enumerate_from k zs))
fault_alone f k x zs r one h = h ∙ sym (or_else-None (f (k, x))) ∙ ap (λ l. first_of_all (map f (enumerate_from k l))) (sym one)

-- a fault of the terms before is the first
pub fault_before : {X Y : Type 0} (f : ℕ × X → Option Y) (k : ℕ) (xs ys zs : List X) (found : Option Y) (r : Y) → zs ≡ xs ++ ys
    → found ≡ first_of_all (map f (enumerate_from k xs)) → found ≡ Some r → Some r ≡ first_of_all (map f (enumerate_from k zs))
fault_before f k xs ys zs found r both h is =
    ap (λ o. or_else o (first_of_all (map f (enumerate_from (k + length xs) ys)))) (sym is ∙ h)
    ∙ sym (faults-append f k xs ys) ∙ ap (λ l. first_of_all (map f (enumerate_from k l))) (sym both)

-- without one the first is that of the terms behind
pub fault_behind : {X Y : Type 0} (f : ℕ × X → Option Y) (k n : ℕ) (xs ys zs : List X) (found r : Option Y) → zs ≡ xs ++ ys
    → found ≡ first_of_all (map f (enumerate_from k xs)) → found ≡ None → n ≡ k + length xs
    → r ≡ first_of_all (map f (enumerate_from n ys)) → r ≡ first_of_all (map f (enumerate_from k zs))
fault_behind f k n xs ys zs found r both h is e later =
    later ∙ ap (λ m. first_of_all (map f (enumerate_from m ys))) e
    ∙ ap (λ o. or_else o (first_of_all (map f (enumerate_from (k + length xs) ys)))) (sym is ∙ h)
    ∙ sym (faults-append f k xs ys) ∙ ap (λ l. first_of_all (map f (enumerate_from k l))) (sym both)
