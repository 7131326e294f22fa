-- Packed rows, seen as pairs.
use Rattle.std.proofs.Common.{◌≡◌, ◌<◌, ◌≤◌, ◌+◌, ℕ, zero, suc, List, [], ◌∷◌, ◌++◌, map, length, take, get_or}
use Rattle.std.proofs.Common.{false, true, Bool, cond, refl, ap, sym, ◌∙◌, arith, append_assoc, subst, set, Ordering, Less, Equal, Greater}
use Rattle.std.specs.Prelude.{Result, Ok, Err, nat_eq, not, drop, filter, ◌==◌, ◌%◌, ◌^◌}
use Rattle.std.specs.Cmp.Lexicographic.{slice_cmp, pointwise}
use Rattle.std.specs.Ordering.{nat_cmp, is_lt, ordering_then, ordering_index}
use Rattle.std.specs.List.{insert}
use Rattle.std.specs.List.Sorted.{IsBinarySearchResult, IsSearchInRange, IsNonDecreasingBy}
use Rattle.std.proofs.lemmas.List.{get_or-map, length-map, drop_more, map-append, map-set, take-map, drop-map}
use Rattle.dt_model.specs.declared.packed_rows.Row.{Row}
use Rattle.dt_model.specs.Gathering.{IsNonDescending, gathered_onto, with_nonzero}

-- the pair of a row, by the order
abbrev pub pair_of : (N : ℕ) → ℕ → Row N → List ℕ × ℕ
pair_of N order row = (take order row.at, row.value)

-- ---- order

step : (o a b rest : Ordering) → (is_lt (ordering_then a rest) ≡ false → is_lt b ≡ false) → is_lt (ordering_then (ordering_then o a) rest) ≡ false
    → is_lt (ordering_then o b) ≡ false
step Less a b rest h e = absurd cc
step Equal a b rest h e = h e
step Greater a b rest h e = refl

-- what comes no earlier comes no earlier by its front
cmp_take : (r : ℕ) (xs ys : List ℕ) (rest : Ordering) → is_lt (ordering_then (slice_cmp nat_cmp xs ys) rest) ≡ false
    → is_lt (slice_cmp nat_cmp (take r xs) (take r ys)) ≡ false
cmp_take zero xs ys rest e = refl
cmp_take (suc r) [] [] rest e = refl
cmp_take (suc r) [] (y ∷ ys) rest e = absurd cc
cmp_take (suc r) (x ∷ xs) [] rest e = refl
cmp_take (suc r) (x ∷ xs) (y ∷ ys) rest e = step (nat_cmp x y) (slice_cmp nat_cmp xs ys) (slice_cmp nat_cmp (take r xs) (take r ys)) rest
    (cmp_take r xs ys rest) e

-- rows as a sort leaves them
abbrev pub SortedRows : (N : ℕ) → List (Row N) → Type 0
SortedRows N rows = (k : ℕ) (d : Row N) → 0 ≤ k → k + 1 < length rows
    → is_lt (ordering_then (slice_cmp nat_cmp (get_or rows (k + 1) d).at (get_or rows k d).at)
    (nat_cmp (get_or rows (k + 1) d).value (get_or rows k d).value)) ≡ false

-- sorted rows have pairs in order
pub IsNonDescending-rows : (N r : ℕ) (rows : List (Row N)) → SortedRows N rows → IsNonDescending (map (pair_of N r) rows)
IsNonDescending-rows N r [] s k d l = absurd (omega arith)
IsNonDescending-rows N r (x ∷ xs) s k d l =
    let rows : List (Row N) = x ∷ xs in
    let f = pair_of N r in
    let m : k + 1 < length rows = omega (arith, length-map rows f) in
    let one : get_or (map f rows) k d ≡ f (get_or rows k x) = get_or-map f rows k x d (omega arith) in
    let two : get_or (map f rows) (k + 1) d ≡ f (get_or rows (k + 1) x) = get_or-map f rows (k + 1) x d m in
    rw (one, two) (cmp_take r (get_or rows (k + 1) x).at (get_or rows k x).at _ (s k x (omega arith) m))

-- ---- neighbours with the same coordinates

-- the row at a place is the first of those from there on
pub gathered_onto-drop : (N r : ℕ) (last row : Row N) (rows : List (Row N)) (i : ℕ) → i < length rows → row ≡ get_or rows i row
    → gathered_onto (pair_of N r last) (map (pair_of N r) (drop i rows))
    ≡ gathered_onto (pair_of N r last) (pair_of N r row ∷ map (pair_of N r) (drop (i + 1) rows))
gathered_onto-drop N r last row rows i l e = ap (λ t. gathered_onto (pair_of N r last) (map (pair_of N r) t))
    (drop_more rows i row l ∙ ap (λ x. x ∷ drop (i + 1) rows) (sym e))

-- a row with the same coordinates is added to the last
pub gathered_onto-same : (N r : ℕ) (last row : Row N) (rows : List (Row N)) (i : ℕ) → i < length rows → row ≡ get_or rows i row
    → pointwise nat_eq (take r last.at) (take r row.at) ≡ true
    → gathered_onto (pair_of N r last) (map (pair_of N r) (drop i rows))
    ≡ gathered_onto (take r last.at, (last.value + row.value) % 2 ^ 64) (map (pair_of N r) (drop (i + 1) rows))
gathered_onto-same N r last row rows i l e t = gathered_onto-drop N r last row rows i l e ∙ rw t refl

-- a row with other coordinates begins the next sum
pub gathered_onto-other : (N r : ℕ) (last row : Row N) (rows : List (Row N)) (i : ℕ) → i < length rows → row ≡ get_or rows i row
    → pointwise nat_eq (take r last.at) (take r row.at) ≡ false
    → gathered_onto (pair_of N r last) (map (pair_of N r) (drop i rows))
    ≡ with_nonzero (pair_of N r last) (gathered_onto (pair_of N r row) (map (pair_of N r) (drop (i + 1) rows)))
gathered_onto-other N r last row rows i l e t = gathered_onto-drop N r last row rows i l e ∙ rw t refl

-- pairs with one more, unless its value is 0, in front of others
pub append-with_nonzero : (front : List (List ℕ × ℕ)) (p : List ℕ × ℕ) (rest : List (List ℕ × ℕ))
    → (front ++ with_nonzero p []) ++ rest ≡ front ++ with_nonzero p rest
append-with_nonzero front p rest = append_assoc front (with_nonzero p []) rest ∙ ap (λ t. front ++ t) (by_zero (p.1 == 0))
  where
    by_zero : (b : Bool) → cond b [] (p ∷ []) ++ rest ≡ cond b rest (p ∷ rest)
    by_zero true = refl
    by_zero false = refl

-- ---- edits

pair_is : (N r : ℕ) (at : List ℕ) (row : Row N) → length at ≡ r → take (length at) row.at ≡ at → pair_of N r row ≡ (at, row.value)
pair_is N r at row e f = ap (λ c. (c, row.value)) (ap (λ n. take n row.at) (sym e) ∙ f)

-- a row put at a place is a pair put there
pub pairs_after_insert : (N r : ℕ) (at : List ℕ) (row : Row N) (rows : List (Row N)) (pairs : List (List ℕ × ℕ)) (i : ℕ) → length at ≡ r
    → take (length at) row.at ≡ at
    → map (pair_of N r) rows ≡ pairs → map (pair_of N r) (insert rows i row) ≡ insert pairs i (at, row.value)
pairs_after_insert N r at row rows pairs i e f v =
    let g = pair_of N r in
    let split : map g (insert rows i row) ≡ insert (map g rows) i (g row) = map-append g (take i rows) (row ∷ drop i rows)
    ∙ rw (take-map g i rows, drop-map g i rows) refl in
    split ∙ rw (v, pair_is N r at row e f) refl

-- a row put in the place of another is a pair put there
pub pairs_after_set : (N r : ℕ) (at : List ℕ) (row : Row N) (rows : List (Row N)) (pairs : List (List ℕ × ℕ)) (i : ℕ) → length at ≡ r
    → take (length at) row.at ≡ at
    → map (pair_of N r) rows ≡ pairs → map (pair_of N r) (set rows i row) ≡ set pairs i (at, row.value)
pairs_after_set N r at row rows pairs i e f v = map-set (pair_of N r) rows i row ∙ rw (v, pair_is N r at row e f) refl

-- ---- search

-- what holds of a row's pair holds of the pair at its place
at_place : (N r : ℕ) (P : List ℕ × ℕ → Type 0) (rows : List (Row N)) (k : ℕ) (d : List ℕ × ℕ) → k < length rows
    → ((e : Row N) → P (pair_of N r (get_or rows k e))) → P (get_or (map (pair_of N r) rows) k d)
at_place N r P [] k d l h = absurd (omega (arith, l))
at_place N r P (x ∷ xs) k d l h = rw (get_or-map (pair_of N r) (x ∷ xs) k x d l) (h x)

-- what a search among rows finds is what one among their pairs finds
pub IsBinarySearchResult-rows : (N r : ℕ) (at : List ℕ) (rows : List (Row N)) (found : Result ℕ ℕ) → IsSearchInRange found (length rows)
    → IsBinarySearchResult (λ row. slice_cmp nat_cmp (take r row.at) at) rows found
    → IsBinarySearchResult (λ p. slice_cmp nat_cmp p.0 at) (map (pair_of N r) rows) found
IsBinarySearchResult-rows N r at rows (Ok i) l h = λ d. at_place N r (λ p. slice_cmp nat_cmp p.0 at ≡ Equal) rows i d l h
IsBinarySearchResult-rows N r at rows (Err i) l h = λ up.
    let same : length (map (pair_of N r) rows) ≡ length rows = length-map rows (pair_of N r) in
    let rises : IsNonDecreasingBy (λ (row : Row N). ordering_index (slice_cmp nat_cmp (take r row.at) at)) rows =
    λ a b d s t. subst2 (λ x y. ordering_index (slice_cmp nat_cmp x.0 at) ≤ ordering_index (slice_cmp nat_cmp y.0 at))
    (get_or-map (pair_of N r) rows a d (pair_of N r d) (omega (arith, s, t))) (get_or-map (pair_of N r) rows b d (pair_of N r d) t)
    (up a b (pair_of N r d) s (omega (arith, t, same))) in
    let point = h rises in (
      λ k d s t. at_place N r (λ p. slice_cmp nat_cmp p.0 at ≡ Less) rows k d (omega (arith, l, t)) (λ e. point.0 k e s t),
      λ k d s t. at_place N r (λ p. slice_cmp nat_cmp p.0 at ≡ Greater) rows k d (omega (arith, t, same)) (λ e. point.1 k e s (omega (arith, t, same))),
    )
  where
    subst2 : {X : Type 0} (P : X → X → Type 0) {a b c d : X} → a ≡ b → c ≡ d → P a c → P b d
    subst2 P {a} {b} {c} {d} p q h = subst (λ x. P x d) p (subst (λ y. P a y) q h)

-- ---- rows that aren't 0

-- the pairs of the rows that aren't 0 are the pairs that aren't 0
pub pairs_of_nonzero_rows : (N r : ℕ) (rows : List (Row N)) → map (pair_of N r) (filter (λ (row : Row N). not (row.value == 0)) rows)
    ≡ filter (λ (p : List ℕ × ℕ). not (p.1 == 0)) (map (pair_of N r) rows)
pairs_of_nonzero_rows N r [] = refl
pairs_of_nonzero_rows N r (row ∷ rows) = go (not (row.value == 0)) (pairs_of_nonzero_rows N r rows)
  where
    kept : List (Row N)
    kept = filter (λ (r : Row N). not (r.value == 0)) rows

    pairs : List (List ℕ × ℕ)
    pairs = filter (λ (p : List ℕ × ℕ). not (p.1 == 0)) (map (pair_of N r) rows)

    go : (b : Bool) → map (pair_of N r) kept ≡ pairs → map (pair_of N r) (cond b (row ∷ kept) kept) ≡ cond b (pair_of N r row ∷ pairs) pairs
    go false later = later
    go true later = ap (λ ps. pair_of N r row ∷ ps) later
