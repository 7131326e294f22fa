-- The entries of a structure ascend.
use Rattle.std.proofs.Common.{◌≡◌, ◌<◌, ◌≤◌, ℕ, List, [], ◌∷◌, ◌++◌, flat_map, refl, ap, sym, ◌∙◌, Less, Equal, arith}
use Rattle.std.specs.Cmp.{nat_cmp_is}
use Rattle.std.specs.Cmp.Lexicographic.{slice_cmp}
use Rattle.std.specs.List.{All, AllByRecursion}
use Rattle.std.specs.Ordering.{nat_cmp, ordering_then}
use Rattle.std.proofs.lemmas.List.Elements.{All-head, All-tail, All-from_recursion}
use Rattle.std.proofs.lemmas.List.Kept.{AllPairs-cons}
use Rattle.dt_model.specs.Pairs.{IsAscending}
use Rattle.node_arena.specs.declared.elements.Elem.{Elem}
use Rattle.node_arena.specs.declared.elements.Held.{Held}
use Rattle.node_arena.specs.declared.elements.Held.TheVariants.{Number, Inner}
use Rattle.node_arena.specs.declared.elements.Structure.{Structure}
use Rattle.node_arena.specs.Conforming.{IsRising, RisesFrom}
use Rattle.node_arena.specs.Modes.{Mode, walk_in, IsHeldFor, IsNested, under, entries_held, entries_in}
use Rattle.nested_modes.proofs.ContentLemmas.{walk-rising}

-- coordinates come before those of each of the pairs
abbrev Precedes : List ℕ → List (List ℕ × ℕ) → Type 0
Precedes c ps = AllByRecursion (λ q. slice_cmp nat_cmp c q.0 ≡ Less) ps

-- each pair's coordinates come before those of the pairs behind it
abbrev Ascends : List (List ℕ × ℕ) → Type 0
Ascends [] = Unit {0}
Ascends (p ∷ ps) = Precedes p.0 ps × Ascends ps

IsAscending-ascends : (ps : List (List ℕ × ℕ)) → Ascends ps → IsAscending ps
IsAscending-ascends [] h = λ i j d l k. absurd (omega arith)
IsAscending-ascends (p ∷ ps) h =
    AllPairs-cons (λ (p q : List ℕ × ℕ). slice_cmp nat_cmp p.0 q.0 ≡ Less) p ps
    (All-from_recursion (λ (q : List ℕ × ℕ). slice_cmp nat_cmp p.0 q.0 ≡ Less) ps h.0) (IsAscending-ascends ps h.1)

-- ---- one leading coordinate

cmp-same : (n : ℕ) (x y : List ℕ) → slice_cmp nat_cmp (n ∷ x) (n ∷ y) ≡ slice_cmp nat_cmp x y
cmp-same n x y = ap (λ o. ordering_then o (slice_cmp nat_cmp x y)) (sym (nat_cmp_is n n Equal refl))

cmp-less : (n m : ℕ) (x y : List ℕ) → n < m → slice_cmp nat_cmp (n ∷ x) (m ∷ y) ≡ Less
cmp-less n m x y h = ap (λ o. ordering_then o (slice_cmp nat_cmp x y)) (sym (nat_cmp_is n m Less h))

Precedes-under : (n : ℕ) (c : List ℕ) (ps : List (List ℕ × ℕ)) → Precedes c ps → Precedes (n ∷ c) (under n ps)
Precedes-under n c [] h = tt
Precedes-under n c (p ∷ ps) h = (cmp-same n c p.0 ∙ h.0, Precedes-under n c ps h.1)

Ascends-under : (n : ℕ) (ps : List (List ℕ × ℕ)) → Ascends ps → Ascends (under n ps)
Ascends-under n [] h = tt
Ascends-under n (p ∷ ps) h = (Precedes-under n p.0 ps h.0, Ascends-under n ps h.1)

-- ---- one list behind another

Precedes-append : (c : List ℕ) (ps qs : List (List ℕ × ℕ)) → Precedes c ps → Precedes c qs → Precedes c (ps ++ qs)
Precedes-append c [] qs h g = g
Precedes-append c (p ∷ ps) qs h g = (h.0, Precedes-append c ps qs h.1 g)

-- the coordinates begin above n
abbrev BeginAbove : ℕ → List (List ℕ × ℕ) → Type 0
BeginAbove n ps = AllByRecursion (λ q. (m : ℕ) × (c : List ℕ) × (n < m) × (q.0 ≡ m ∷ c)) ps

BeginAbove-append : (n : ℕ) (ps qs : List (List ℕ × ℕ)) → BeginAbove n ps → BeginAbove n qs → BeginAbove n (ps ++ qs)
BeginAbove-append n [] qs h g = g
BeginAbove-append n (p ∷ ps) qs h g = (h.0, BeginAbove-append n ps qs h.1 g)

BeginAbove-under : (n m : ℕ) (ps : List (List ℕ × ℕ)) → n < m → BeginAbove n (under m ps)
BeginAbove-under n m [] l = tt
BeginAbove-under n m (p ∷ ps) l = ((m, p.0, l, refl), BeginAbove-under n m ps l)

Precedes-above : (n : ℕ) (c : List ℕ) (qs : List (List ℕ × ℕ)) → BeginAbove n qs → Precedes (n ∷ c) qs
Precedes-above n c [] h = tt
Precedes-above n c (q ∷ qs) h = (ap (slice_cmp nat_cmp (n ∷ c)) h.0.3 ∙ cmp-less n h.0.0 c h.0.1 h.0.2, Precedes-above n c qs h.1)

Ascends-above : (n : ℕ) (ps qs : List (List ℕ × ℕ)) → Ascends (under n ps) → Ascends qs → BeginAbove n qs → Ascends (under n ps ++ qs)
Ascends-above n [] qs h g b = g
Ascends-above n (p ∷ ps) qs h g b =
    (Precedes-append (n ∷ p.0) (under n ps) qs h.0 (Precedes-above n p.0 qs b), Ascends-above n ps qs h.1 g b)

-- ---- the elements of a walk

module _ (entries : Held → List (List ℕ × ℕ)) where
  -- the entries of elements
  abbrev all_of : List Elem → List (List ℕ × ℕ)
  all_of es = flat_map (λ e. under e.at (entries e.held)) es

  above-rising : (n k : ℕ) (es : List Elem) → RisesFrom n es → k ≤ n → BeginAbove k (all_of es)
  above-rising n k [] r l = tt
  above-rising n k (e ∷ es) r l =
      let up : n < e.at = r.0 in
      BeginAbove-append k (under e.at (entries e.held)) (all_of es) (BeginAbove-under k e.at (entries e.held) (omega arith))
      (above-rising e.at k es r.1 (omega arith))

  ascends-from : (e : Elem) (es : List Elem) → RisesFrom e.at es → Ascends (entries e.held) → AllByRecursion (λ x. Ascends (entries x.held)) es → Ascends
      (all_of (e ∷ es))
  ascends-from e [] r h hs = Ascends-above e.at (entries e.held) [] (Ascends-under e.at (entries e.held) h) tt tt
  ascends-from e (x ∷ es) r h hs =
      Ascends-above e.at (entries e.held) (all_of (x ∷ es)) (Ascends-under e.at (entries e.held) h) (ascends-from x es r.1 hs.0 hs.1)
      (above-rising e.at e.at (x ∷ es) r (omega arith))

  ascends-rising : (es : List Elem) → IsRising es → AllByRecursion (λ x. Ascends (entries x.held)) es → Ascends (all_of es)
  ascends-rising [] r h = tt
  ascends-rising (e ∷ es) r h = ascends-from e es r h.0 h.1

held-ascends : (ms : List Mode) (F : Structure → List (List ℕ × ℕ)) (P : Structure → Type 0) (h : Held) → ((st : Structure) → P st → Ascends (F st))
    → IsHeldFor ms P h → Ascends (entries_held F h)
held-ascends ms F P (Number v) f g = (tt, tt)
held-ascends [] F P (Inner st) f g = absurd g
held-ascends (m ∷ ms) F P (Inner st) f g = f st g.1

all-ascend : (ms : List Mode) (F : Structure → List (List ℕ × ℕ)) (P : Structure → Type 0) (es : List Elem) → ((st : Structure) → P st → Ascends (F st))
    → All (λ e. IsHeldFor ms P e.held) es → AllByRecursion (λ x. Ascends (entries_held F x.held)) es
all-ascend ms F P [] f h = tt
all-ascend ms F P (e ∷ es) f h =
    let Is : Elem → Type 0 = λ z. IsHeldFor ms P z.held in
    (held-ascends ms F P e.held f (All-head Is e es h), all-ascend ms F P es f (All-tail Is e es h))

entries-ascend : (ms : List Mode) (st : Structure) → IsNested ms st → Ascends (entries_in ms st)
entries-ascend [] st h = tt
entries-ascend (m ∷ ms) st h =
    ascends-rising (λ x. entries_held (λ below. entries_in ms below) x) (walk_in m st) (walk-rising m ms st h)
    (all-ascend ms (λ below. entries_in ms below) (λ below. IsNested ms below) (walk_in m st) (λ below g. entries-ascend ms below g) h.holds)

-- the entries of a structure ascend
pub IsAscending-entries : (ms : List Mode) (st : Structure) → IsNested ms st → IsAscending (entries_in ms st)
IsAscending-entries ms st h = IsAscending-ascends (entries_in ms st) (entries-ascend ms st h)
