-- The parts of a list between the elements that pass a test, and the places where they are.
use Rattle.std.proofs.Common.{◌≡◌, ℕ, ◌+◌, ◌-◌, ◌<◌, ◌≤◌, ◌++◌, Bool, true, false, cond, List, [], ◌∷◌, length, take, drop, refl, ap, sym, ◌∙◌, subst, arith, append_assoc, Option, Some, None}
use Rattle.std.specs.Prelude.{slice_range}
use Rattle.std.specs.List.{slice_split, onto_first}
use Rattle.std.proofs.Math.Seq.{drop-append_seam}
use Rattle.std.proofs.lemmas.List.{length-append, take-append-le}
use Rattle.dt_model.specs.Texts.{is_nonempty, without_empty_end}
use Rattle.std.specs.Iterator.{MakesProgress, YieldsFirst, item_count}

-- the parts stand in the text one behind another, one byte between two
abbrev pub AreParts : List (List ℕ) → List ℕ → Type 0
AreParts [] text = Unit {0}
AreParts (part ∷ []) text = (tail : List ℕ) × (text ≡ part ++ tail)
AreParts (part ∷ q ∷ qs) text = (byte : ℕ) × (tail : List ℕ) × (text ≡ part ++ byte ∷ tail) × AreParts (q ∷ qs) tail

-- a part more in front
joined : (part : List ℕ) (byte : ℕ) (tail : List ℕ) (parts : List (List ℕ)) → AreParts parts tail → AreParts (part ∷ parts) (part ++ byte ∷ tail)
joined part byte tail [] h = (byte ∷ tail, refl)
joined part byte tail (q ∷ qs) h = (byte, tail, refl, h)

-- a byte more in the first part
onto : (x : ℕ) (parts : List (List ℕ)) (text : List ℕ) → AreParts parts text → AreParts (onto_first x parts) (x ∷ text)
onto x [] text h = (text, refl)
onto x (part ∷ []) text h = (h.0, ap (λ t. x ∷ t) h.1)
onto x (part ∷ q ∷ qs) text h = (h.0, h.1, ap (λ t. x ∷ t) h.2, h.3)

-- what a list is split into are parts of it
pub AreParts-slice_split : (p : ℕ → Bool) (xs : List ℕ) → AreParts (slice_split p xs) xs
AreParts-slice_split p [] = ([], refl)
AreParts-slice_split p (x ∷ xs) = elim (p x) as (λ b. AreParts (cond b ([] ∷ slice_split p xs) (onto_first x (slice_split p xs))) (x ∷ xs)) [
  | true ↦ joined [] x xs (slice_split p xs) (AreParts-slice_split p xs)
  | false ↦ onto x (slice_split p xs) xs (AreParts-slice_split p xs)
]

-- an empty last part may be left out
pub AreParts-without_empty_end : (parts : List (List ℕ)) (text : List ℕ) → AreParts parts text → AreParts (without_empty_end parts) text
AreParts-without_empty_end [] text h = tt
AreParts-without_empty_end (x ∷ []) text h = elim (is_nonempty x) as (λ b. AreParts (cond b (x ∷ []) []) text) [ true ↦ h | false ↦ tt ]
AreParts-without_empty_end (x ∷ y ∷ ys) text h =
    let rest = without_empty_end (y ∷ ys) in
    subst (AreParts (x ∷ rest)) (sym h.2) (joined x h.0 h.1 rest (AreParts-without_empty_end (y ∷ ys) h.1 h.3))

-- a beginning of the part that stands behind `before`
pub slice_range-part : (before part tail whole : List ℕ) (n : ℕ) → whole ≡ before ++ (part ++ tail) → n ≤ length part
    → slice_range whole (length before) (length before + n) ≡ take n part
slice_range-part before part tail whole n is l =
    let count : length before + n - length before ≡ n = omega arith in
    ap (λ k. take k (drop (length before) whole)) count
    ∙ ap (λ w. take n (drop (length before) w)) is
    ∙ ap (take n) (drop-append_seam before (part ++ tail))
    ∙ take-append-le n part tail l

-- the text behind a part and the byte that ends it
pub behind : (before part tail whole : List ℕ) (byte : ℕ) → whole ≡ before ++ (part ++ byte ∷ tail) → whole ≡ (before ++ (part ++ byte ∷ [])) ++ tail
behind before part tail whole byte is = is ∙ ap (λ t. before ++ t) (sym (append_assoc part (byte ∷ []) tail))
    ∙ sym (append_assoc before (part ++ byte ∷ []) tail)

-- the length of what is before the text behind a part
pub length-behind : (before part : List ℕ) (byte : ℕ) → length (before ++ (part ++ byte ∷ [])) ≡ length before + length part + 1
length-behind before part byte =
    let whole : length (before ++ (part ++ byte ∷ [])) ≡ length before + length (part ++ byte ∷ []) = length-append before (part ++ byte ∷ []) in
    let inner : length (part ++ byte ∷ []) ≡ length part + 1 = length-append part (byte ∷ []) in
    omega arith

-- a part that is not empty has an element
pub length-nonempty : (part : List ℕ) → is_nonempty part ≡ true → 0 < length part
length-nonempty [] h = cc
length-nonempty (b ∷ bs) h = omega arith

-- an iterator that gives the first of what is left comes closer to its end
pub progress : {A : Type 0} (s t : List A) (r : Option A) → YieldsFirst (λ xs. xs) s r t → MakesProgress (λ _. Unit {0}) (item_count (λ xs. xs)) s r t
progress s t None e = record { on = λ f. tt; keeps = tt; rests = λ f. f }
progress s t (Some x) e =
    let less : length t < length s = rw e (omega arith) in
    record { on = λ f. (tt, f, less); keeps = tt; rests = λ f. tt }
