-- A list that is seen through a function, with an element put in or taken out.
use Rattle.std.proofs.Common.{◌≡◌, ℕ, suc, List, ◌∷◌, ◌++◌, map, take, drop, ap, ◌∙◌, sym}
use Rattle.std.proofs.lemmas.List.{map-append, take-map, drop-map, map-set, length-map}
use Rattle.std.specs.List.{insert, remove}

-- an element put in
pub insert-map : {X Y : Type 0} (f : X → Y) (xs : List X) (i : ℕ) (x : X) → map f (insert xs i x) ≡ insert (map f xs) i (f x)
insert-map f xs i x =
    map-append f (take i xs) (x ∷ drop i xs) ∙ ap (λ v. v ++ f x ∷ map f (drop i xs)) (sym (take-map f i xs))
    ∙ ap (λ v. take i (map f xs) ++ f x ∷ v) (sym (drop-map f i xs))

-- an element taken out
pub remove-map : {X Y : Type 0} (f : X → Y) (xs : List X) (i : ℕ) → map f (remove xs i) ≡ remove (map f xs) i
remove-map f xs i =
    map-append f (take i xs) (drop (suc i) xs) ∙ ap (λ v. v ++ map f (drop (suc i) xs)) (sym (take-map f i xs))
    ∙ ap (λ v. take i (map f xs) ++ v) (sym (drop-map f (suc i) xs))

-- these, and std's of other changes
pub ruleset list_laws = (insert-map, remove-map, map-set, take-map, map-append, length-map)
