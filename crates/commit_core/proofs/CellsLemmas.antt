-- The cells of one tensor: what a search finds among them, and what an edit at that index does.
use Rattle.std.proofs.Common.{inl, inr, ◌≡◌, ◌≢◌, ℕ, zero, suc, ◌+◌, ◌-◌, ◌%◌, ◌^◌, ◌<◌, ◌≤◌, true, false, List, [], ◌∷◌, length, get_or, set, length-set, refl, ap, sym, ◌∙◌, subst, arith, sum_by, Result, Ok, Err, IfOk, IfErr}
use Rattle.std.specs.Prelude.{◌⊎◌, if◌then◌else◌, nat_eq}
use Rattle.std.specs.Cmp.Lexicographic.{pointwise, slice_cmp, texts_ties, nat_list_cmp_total}
use Rattle.std.specs.FinMap.{slice_cmp-IsAntisymmetric, nat_cmp-IsAntisymmetric}
use Rattle.std.specs.Ordering.{nat_cmp, ordering_index, ordering_reverse, is_eq, is_lt}
use Rattle.std.specs.declared.cmp.Ordering.{Ordering}
use Rattle.std.specs.declared.cmp.Ordering.TheVariants.{Less, Equal, Greater}
use Rattle.std.specs.List.{insert}
use Rattle.std.specs.List.Sorted.{IsSearchInRange, IsBinarySearchResult, IsNonDecreasingBy}
use Rattle.std.proofs.lemmas.List.{get_or_default, get_or-set_same}
use Rattle.std.proofs.lemmas.List.Sorted.{searchable_from_sorted}
use Rattle.std.proofs.lemmas.List.Edits.{length-insert, get_or-insert_below, get_or-insert_at, get_or-insert_above}
use Rattle.std.proofs.lemmas.List.Sums.{sum_by-cons}
use Rattle.std.proofs.lemmas.Slice.Eq.{bytes_eq-Decides}
use Rattle.std.proofs.lemmas.Bool.{cases_lt}
use Rattle.std.proofs.Math.Nat.{mod-eq_of_lt}
use Rattle.dt_model.specs.Pairs.{total_at, IsAscending}
use Rattle.commit_core.specs.Cells.{Cells, coords_at, IsAt, IsGapFor, Puts}

-- ---- coordinates in their order

-- the order of coordinates, from the first mode on
abbrev before_ : List ℕ → List ℕ → Ordering
before_ = slice_cmp nat_cmp

differ-less : (c d : List ℕ) → before_ c d ≡ Less → pointwise nat_eq c d ≡ false
differ-less c d e = texts_ties c d ∙ ap is_eq e

differ-greater : (c d : List ℕ) → before_ c d ≡ Greater → pointwise nat_eq c d ≡ false
differ-greater c d e = texts_ties c d ∙ ap is_eq e

greater_less : (c d : List ℕ) → before_ c d ≡ Greater → before_ d c ≡ Less
greater_less c d e = nat_list_cmp_total.antisymm d c ∙ ap ordering_reverse e

less_greater : (c d : List ℕ) → before_ c d ≡ Less → before_ d c ≡ Greater
less_greater c d e = nat_list_cmp_total.antisymm d c ∙ ap ordering_reverse e

equal_lists : (c d : List ℕ) → before_ c d ≡ Equal → c ≡ d
equal_lists = slice_cmp-IsAntisymmetric nat_cmp-IsAntisymmetric

-- cells ascend where the coordinates at each index come before those at each later one
pub IsAscending-from : (ps : Cells) → ((i j : ℕ) → i < j → j < length ps → before_ (coords_at ps i) (coords_at ps j) ≡ Less) → IsAscending ps
IsAscending-from ps h i j d low high =
    let one : get_or ps i d ≡ get_or ps i ([], 0) = get_or_default ps i d ([], 0) (omega arith) in
    let two : get_or ps j d ≡ get_or ps j ([], 0) = get_or_default ps j d ([], 0) high in
    rw (one, two) (h i j low high)

-- ---- which cells have the coordinates

-- no cell has the coordinates
abbrev pub NoneOf : Cells → List ℕ → Type 0
NoneOf ps c = (j : ℕ) → j < length ps → pointwise nat_eq (coords_at ps j) c ≡ false

-- no cell except the one at index i has the coordinates
abbrev pub NoneElse : Cells → List ℕ → ℕ → Type 0
NoneElse ps c i = (j : ℕ) → j < length ps → j ≢ i → pointwise nat_eq (coords_at ps j) c ≡ false

-- what was found is the only cell with its coordinates
pub none_else_at : (ps : Cells) (c : List ℕ) (i : ℕ) → IsAscending ps → IsAt ps c i → NoneElse ps c i
none_else_at ps c i up at j l other = elim (cases_lt j i) [
  | inl less ↦ differ-less (coords_at ps j) c (subst (λ x. before_ (coords_at ps j) x ≡ Less) at.same (up j i ([], 0) less at.there))
  | inr more ↦ let low : i < j = omega arith in differ-greater (coords_at ps j) c (less_greater c (coords_at ps j) (subst (λ x. before_ x (coords_at ps j)
      ≡ Less) at.same (up i j ([], 0) low l)))
]

-- where there is a gap no cell has the coordinates
pub none_of_gap : (ps : Cells) (c : List ℕ) (i : ℕ) → IsGapFor ps c i → NoneOf ps c
none_of_gap ps c i gap j l = elim (cases_lt j i) [
  | inl less ↦ differ-less (coords_at ps j) c (gap.before j less)
  | inr more ↦ differ-greater (coords_at ps j) c (gap.behind j more l)
]

at_in_tail : (p : List ℕ × ℕ) (ps : Cells) (c : List ℕ) (i : ℕ) → IsAt (p ∷ ps) c (suc i) → IsAt ps c i
at_in_tail p ps c i at = record { there = omega (arith, at.there); same = at.same }

none_in_tail : (p : List ℕ × ℕ) (ps : Cells) (c : List ℕ) (i : ℕ) → NoneElse (p ∷ ps) c (suc i) → NoneElse ps c i
none_in_tail p ps c i none j l other = none (suc j) (omega arith) (λ same. other (omega arith))

head_differs : (p : List ℕ × ℕ) (ps : Cells) (c : List ℕ) (i : ℕ) → NoneElse (p ∷ ps) c (suc i) → pointwise nat_eq p.0 c ≡ false
head_differs p ps c i none = none 0 (omega arith) (λ same. omega arith)

-- ---- numbers

-- what a cell adds to the number at c
abbrev pub value_at : List ℕ → List ℕ × ℕ → ℕ
value_at c p = if pointwise nat_eq p.0 c then p.1 else 0

-- what cells add up to at c, before it wraps
abbrev pub sum_at : List ℕ → Cells → ℕ
sum_at c ps = sum_by (value_at c) ps

value_same : (c : List ℕ) (p : List ℕ × ℕ) → pointwise nat_eq p.0 c ≡ true → value_at c p ≡ p.1
value_same c p e = rw e refl

value_other : (c : List ℕ) (p : List ℕ × ℕ) → pointwise nat_eq p.0 c ≡ false → value_at c p ≡ 0
value_other c p e = rw e refl

-- a cell that adds nothing
skipped : (c : List ℕ) (p : List ℕ × ℕ) (ps : Cells) → pointwise nat_eq p.0 c ≡ false → sum_at c (p ∷ ps) ≡ sum_at c ps
skipped c p ps e = let none = value_other c p e in let all = sum_by-cons (value_at c) p ps in omega (arith, none, all)

-- where no cell has the coordinates they add up to 0
pub sum_at-absent : (c : List ℕ) (ps : Cells) → NoneOf ps c → sum_at c ps ≡ 0
sum_at-absent c [] none = refl
sum_at-absent c (p ∷ ps) none = skipped c p ps (none 0 (omega arith)) ∙ sum_at-absent c ps (λ j l. none (suc j) (omega arith))

sum_at-present : (c : List ℕ) (ps : Cells) (i : ℕ) (d : List ℕ × ℕ) → IsAt ps c i → NoneElse ps c i → sum_at c ps ≡ (get_or ps i d).1
sum_at-present c [] i d at none = absurd (omega (arith, at.there))
sum_at-present c (p ∷ ps) zero d at none =
    let here = value_same c p ((bytes_eq-Decides p.0 c).1 at.same) in
    let rest = sum_at-absent c ps (λ j l. none (suc j) (omega arith) (λ same. omega arith)) in
    let all = sum_by-cons (value_at c) p ps in
    all ∙ omega (arith, here, rest)
sum_at-present c (p ∷ ps) (suc i) d at none = skipped c p ps (head_differs p ps c i none)
    ∙ sum_at-present c ps i d (at_in_tail p ps c i at) (none_in_tail p ps c i none)

-- coordinates that no cell has are 0
pub total_at-absent : (ps : Cells) (c : List ℕ) → NoneOf ps c → 0 ≡ total_at ps c
total_at-absent ps c none = sym (ap (λ n. n % 2 ^ 64) (sum_at-absent c ps none))

-- the cell with the coordinates has the number there
pub total_at-present : (ps : Cells) (c : List ℕ) (i : ℕ) (d : List ℕ × ℕ) → (get_or ps i d).1 < 2 ^ 64 → IsAt ps c i → NoneElse ps c i
    → (get_or ps i d).1 ≡ total_at ps c
total_at-present ps c i d small at none = sym (ap (λ n. n % 2 ^ 64) (sum_at-present c ps i d at none) ∙ mod-eq_of_lt small)

-- ---- edits

coords_kept : (ps : Cells) (c : List ℕ) (i v : ℕ) → IsAt ps c i → (j : ℕ) → coords_at (set ps i (c, v)) j ≡ coords_at ps j
coords_kept [] c i v at j = refl
coords_kept (p ∷ ps) c zero v at zero = sym at.same
coords_kept (p ∷ ps) c zero v at (suc j) = refl
coords_kept (p ∷ ps) c (suc i) v at zero = refl
coords_kept (p ∷ ps) c (suc i) v at (suc j) = coords_kept ps c i v (at_in_tail p ps c i at) j

-- writing over a cell leaves the numbers at other coordinates
sum_at-set_other : (d : List ℕ) (ps : Cells) (c : List ℕ) (i v : ℕ) → IsAt ps c i → pointwise nat_eq c d ≡ false → sum_at d (set ps i (c, v)) ≡ sum_at d ps
sum_at-set_other d [] c i v at other = refl
sum_at-set_other d (p ∷ ps) c zero v at other =
    let same : p.0 ≡ c = at.same in
    skipped d (c, v) ps other ∙ sym (skipped d p ps (ap (λ x. pointwise nat_eq x d) same ∙ other))
sum_at-set_other d (p ∷ ps) c (suc i) v at other =
    sum_by-cons (value_at d) p (set ps i (c, v)) ∙ ap (λ n. value_at d p + n) (sum_at-set_other d ps c i v (at_in_tail p ps c i at) other)
    ∙ sym (sum_by-cons (value_at d) p ps)

-- a new cell adds its number
sum_at-insert : (d : List ℕ) (ps : Cells) (i : ℕ) (x : List ℕ × ℕ) → sum_at d (insert ps i x) ≡ value_at d x + sum_at d ps
sum_at-insert d ps zero x = sum_by-cons (value_at d) x ps
sum_at-insert d [] (suc i) x = sum_by-cons (value_at d) x []
sum_at-insert d (p ∷ ps) (suc i) x =
    let all = sum_by-cons (value_at d) p (insert ps i x) in
    let rest = sum_at-insert d ps i x in
    let old = sum_by-cons (value_at d) p ps in
    omega (arith, all, rest, old)

-- writing over the cell with the coordinates puts the number there
pub Puts-set : (ps : Cells) (c : List ℕ) (i v : ℕ) → v < 2 ^ 64 → IsAt ps c i → NoneElse ps c i → Puts ps (set ps i (c, v)) c v
Puts-set ps c i v small at none d = elim (pointwise nat_eq c d) as (λ b. pointwise nat_eq c d ≡ b → total_at (set ps i (c, v)) d
    ≡ (if b then v else total_at ps d)) [
      | true ↦ λ e.
          let same : c ≡ d = (bytes_eq-Decides c d).0 e in
          let len : length (set ps i (c, v)) ≡ length ps = length-set ps i (c, v) in
          let new : IsAt (set ps i (c, v)) c i = record { there = omega (arith, at.there); same = coords_kept ps c i v at i ∙ at.same } in
          let rest : NoneElse (set ps i (c, v)) c i = λ j l other. ap (λ x. pointwise nat_eq x c) (coords_kept ps c i v at j) ∙ none j (omega arith) other in
          let number : sum_at c (set ps i (c, v)) ≡ v = sum_at-present c (set ps i (c, v)) i (c, v) new rest
          ∙ ap (λ (p : List ℕ × ℕ). p.1) (get_or-set_same ps i (c, v) (c, v) at.there) in
          ap (λ x. total_at (set ps i (c, v)) x) (sym same) ∙ ap (λ n. n % 2 ^ 64) number ∙ mod-eq_of_lt small
      | false ↦ λ e. ap (λ n. n % 2 ^ 64) (sum_at-set_other d ps c i v at e)
    ] refl

-- so does a new cell where none has the coordinates
pub Puts-insert : (ps : Cells) (c : List ℕ) (i v : ℕ) → v < 2 ^ 64 → NoneOf ps c → Puts ps (insert ps i (c, v)) c v
Puts-insert ps c i v small none d = elim (pointwise nat_eq c d) as (λ b. pointwise nat_eq c d ≡ b → total_at (insert ps i (c, v)) d
    ≡ (if b then v else total_at ps d)) [
      | true ↦ λ e.
          let same : c ≡ d = (bytes_eq-Decides c d).0 e in
          let own = value_same d (c, v) e in
          let rest = ap (λ x. sum_at x ps) (sym same) ∙ sum_at-absent c ps none in
          let number : sum_at d (insert ps i (c, v)) ≡ v = sum_at-insert d ps i (c, v) ∙ omega (arith, own, rest) in
          ap (λ n. n % 2 ^ 64) number ∙ mod-eq_of_lt small
      | false ↦ λ e. let nothing = value_other d (c, v) e in let all : sum_at d (insert ps i (c, v)) ≡ sum_at d ps = sum_at-insert d ps i (c, v)
          ∙ omega (arith, nothing) in ap (λ n. n % 2 ^ 64) all
    ] refl

-- ---- the search

-- the comparisons with c rise along the list
rising : (ps : Cells) (c : List ℕ) → IsAscending ps → IsNonDecreasingBy (λ (p : List ℕ × ℕ). ordering_index (before_ p.0 c)) ps
rising ps c up = searchable_from_sorted nat_list_cmp_total (λ (p : List ℕ × ℕ). p.0) ps c (λ k d low high.
    let here : get_or ps k d ≡ get_or ps k ([], 0) = get_or_default ps k d ([], 0) (omega arith) in
    let next : get_or ps (k + 1) d ≡ get_or ps (k + 1) ([], 0) = get_or_default ps (k + 1) d ([], 0) (omega arith) in
    let less : before_ (coords_at ps k) (coords_at ps (k + 1)) ≡ Less = up k (k + 1) ([], 0) (omega arith) (omega arith) in
    rw (here, next) (ap is_lt (nat_list_cmp_total.antisymm (coords_at ps (k + 1)) (coords_at ps k) ∙ ap ordering_reverse less)))

-- a binary search ends at the cell, or at the gap for it
pub searched : (ps : Cells) (c : List ℕ) → IsAscending ps → (r : Result ℕ ℕ) → IsSearchInRange r (length ps)
    → IsBinarySearchResult (λ (p : List ℕ × ℕ). before_ p.0 c) ps r → IfOk r (IsAt ps c) × IfErr r (IsGapFor ps c)
searched ps c up (Ok i) within found = (record { there = within; same = equal_lists (coords_at ps i) c (found ([], 0)) }, tt)
searched ps c up (Err i) within parted =
    let parts = parted (rising ps c up) in
    (tt, record { within = within; before = λ j l. parts.0 j ([], 0) (omega arith) l; behind = λ j low high. parts.1 j ([], 0) low high })

-- ---- edits keep the order

-- writing over a cell with the same coordinates
pub IsAscending-set : (ps : Cells) (c : List ℕ) (i v : ℕ) → IsAscending ps → IsAt ps c i → IsAscending (set ps i (c, v))
IsAscending-set ps c i v up at = IsAscending-from (set ps i (c, v)) (λ j k l in_range.
    let len : length (set ps i (c, v)) ≡ length ps = length-set ps i (c, v) in
    rw (coords_kept ps c i v at j, coords_kept ps c i v at k) (up j k ([], 0) l (omega arith)))

-- each of the new coordinates is an old one below the gap, c at it, or an old one moved up by one
pub IsAscending-insert : (ps : Cells) (c : List ℕ) (i v : ℕ) → IsGapFor ps c i → IsAscending ps → IsAscending (insert ps i (c, v))
IsAscending-insert ps c i v gap up = IsAscending-from (insert ps i (c, v)) (λ j k l in_range.
    let len : length (insert ps i (c, v)) ≡ length ps + 1 = length-insert ps i (c, v) gap.within in
    elim (le_or_gt k i) [
      | inl k_low ↦ elim (cases_lt k i) [
        | inl k_below ↦ rw (below j (omega arith), below k k_below) (up j k ([], 0) (omega arith) (omega arith))
        | inr k_high ↦ rw (below j (omega arith), here k (omega arith)) (gap.before j (omega arith))
      ]
      | inr k_above ↦ elim (cases_lt j i) [
        | inl j_below ↦ rw (below j j_below, above k k_above) (up j (k - 1) ([], 0) (omega arith) (omega arith))
        | inr j_high ↦ elim (le_or_gt j i) [
          | inl j_here ↦ rw (here j (omega arith), above k k_above) (greater_less (coords_at ps (k - 1)) c (gap.behind (k - 1) (omega arith) (omega arith)))
          | inr j_above ↦ rw (above j j_above, above k k_above) (up (j - 1) (k - 1) ([], 0) (omega arith) (omega arith))
        ]
      ]
    ])
  where
    le_or_gt : (a b : ℕ) → (a ≤ b) ⊎ (b < a)
    le_or_gt a b = elim (cases_lt b a) [ inl less ↦ inr less | inr more ↦ inl more ]

    below : (j : ℕ) → j < i → coords_at (insert ps i (c, v)) j ≡ coords_at ps j
    below j low = ap (λ (p : List ℕ × ℕ). p.0) (get_or-insert_below ps i (c, v) ([], 0) j low gap.within)

    here : (j : ℕ) → j ≡ i → coords_at (insert ps i (c, v)) j ≡ c
    here j e = rw e (ap (λ (p : List ℕ × ℕ). p.0) (get_or-insert_at ps i (c, v) ([], 0) gap.within))

    above : (j : ℕ) → i < j → coords_at (insert ps i (c, v)) j ≡ coords_at ps (j - 1)
    above j high = subst (λ q. coords_at (insert ps i (c, v)) q ≡ coords_at ps (j - 1)) {x = j - 1
        + 1} (omega arith) (ap (λ (p : List ℕ × ℕ). p.0) (get_or-insert_above ps i (c, v) ([], 0) (j - 1) (omega arith) gap.within))
