-- Entries that are listed one after another.
use Rattle.std.proofs.Common.{◌≡◌, ◌<◌, ◌+◌, ℕ, suc, Bool, true, false, cond, List, [], ◌∷◌, ◌++◌, map, length, drop, get_or, flat_map, refl, ap, sym, ◌∙◌, append_assoc, append-nil, add-one}
use Rattle.std.specs.Prelude.{not, ◌==◌, filter}
use Rattle.std.proofs.lemmas.List.{map-append}
use Rattle.std.proofs.lemmas.List.Elements.{filter-append}
use Rattle.std.proofs.Math.Seq.{drop-cons}
use Rattle.node_arena.specs.Modes.{under}
use Rattle.nested_modes.specs.Listing.{listed}

-- whether an entry's number isn't 0
abbrev pub isnt-zero : List ℕ × ℕ → Bool
isnt-zero e = not (e.1 == 0)

-- what is listed of two lists
pub listed-append : (at : List ℕ) (xs ys : List (List ℕ × ℕ)) → listed at (xs ++ ys) ≡ listed at xs ++ listed at ys
listed-append at xs ys =
    ap (map (λ (e : List ℕ × ℕ). (at ++ e.0, e.1))) (filter-append isnt-zero xs ys)
    ∙ map-append (λ (e : List ℕ × ℕ). (at ++ e.0, e.1)) (filter isnt-zero xs) (filter isnt-zero ys)

one-more : (F G : List ℕ × ℕ → List ℕ × ℕ) (x e : List ℕ × ℕ) (xs es : List (List ℕ × ℕ)) (b : Bool) → F x ≡ G e → map F xs ≡ map G es
    → map F (cond b (x ∷ xs) xs) ≡ map G (cond b (e ∷ es) es)
one-more F G x e xs es true f h = ap (λ y. y ∷ map F xs) f ∙ ap (λ l. G e ∷ l) h
one-more F G x e xs es false f h = h

-- entries below one more coordinate are listed below it
pub listed-under : (at : List ℕ) (n : ℕ) (es : List (List ℕ × ℕ)) → listed at (under n es) ≡ listed (at ++ n ∷ []) es
listed-under at n [] = refl
listed-under at n (e ∷ es) =
    one-more (λ p. (at ++ p.0, p.1)) (λ p. ((at ++ n ∷ []) ++ p.0, p.1)) (n ∷ e.0, e.1) e (filter isnt-zero (under n es)) (filter isnt-zero es) (isnt-zero e)
    (ap (λ l. (l, e.1)) (sym (append_assoc at (n ∷ []) e.0))) (listed-under at n es)

map-same : (es : List (List ℕ × ℕ)) → map (λ (e : List ℕ × ℕ). ([] ++ e.0, e.1)) es ≡ es
map-same [] = refl
map-same (e ∷ es) = ap (λ l. e ∷ l) (map-same es)

-- below no coordinates the entries are listed as they are
pub listed-all : (es : List (List ℕ × ℕ)) → listed [] es ≡ filter isnt-zero es
listed-all es = map-same (filter isnt-zero es)

-- a number that isn't 0 is listed
pub listed-number : (at : List ℕ) (v : ℕ) (b : Bool) → (v == 0) ≡ b → listed at (([], v) ∷ []) ≡ cond b [] ((at, v) ∷ [])
listed-number at v true e = ap (λ b. map (λ (p : List ℕ × ℕ). (at ++ p.0, p.1)) (cond (not b) (([], v) ∷ []) [])) e
listed-number at v false e =
    ap (λ b. map (λ (p : List ℕ × ℕ). (at ++ p.0, p.1)) (cond (not b) (([], v) ∷ []) [])) e ∙ ap (λ l. (l, v) ∷ []) (append-nil at)

-- one more element of a walk
pub listed-step : {X : Type 0} (at : List ℕ) (place : X → ℕ) (f : X → List (List ℕ × ℕ)) (xs : List X) (i : ℕ) (x : X) (old new all : List (List ℕ × ℕ))
    → i < length xs → get_or xs i x ≡ x
    → old ++ listed at (flat_map (λ y. under (place y) (f y)) (drop i xs)) ≡ all
    → new ≡ old ++ listed (at ++ place x ∷ []) (f x)
    → new ++ listed at (flat_map (λ y. under (place y) (f y)) (drop (i + 1) xs)) ≡ all
listed-step at place f xs i x old new all l here before more =
    let rest = flat_map (λ y. under (place y) (f y)) (drop (i + 1) xs) in
    let next : drop i xs ≡ x ∷ drop (i + 1) xs = drop-cons xs i x l ∙ ap (λ y. y ∷ drop (suc i) xs) here ∙ ap (λ j. x ∷ drop j xs) (sym (add-one i)) in
    ap (λ z. z ++ listed at rest) more
    ∙ append_assoc old (listed (at ++ place x ∷ []) (f x)) (listed at rest)
    ∙ ap (λ z. old ++ (z ++ listed at rest)) (sym (listed-under at (place x) (f x)))
    ∙ ap (λ z. old ++ z) (sym (listed-append at (under (place x) (f x)) rest))
    ∙ ap (λ ys. old ++ listed at (flat_map (λ y. under (place y) (f y)) ys)) (sym next)
    ∙ before
