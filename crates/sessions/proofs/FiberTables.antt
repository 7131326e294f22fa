-- The nonzeros of a tensor, fiber after fiber.
use Rattle.std.proofs.Common.{◌≡◌, ◌≢◌, ◌≤◌, ◌<◌, ◌⊎◌, ◌+◌, ◌-◌, ◌/◌, ◌==◌, ℕ, zero, suc, Bool, true, false, cond, IsTrue, List, [], ◌∷◌, ◌++◌, Some, None, length, sym, refl, ap, ◌∙◌, subst, inl, inr, arith, if◌then◌else◌}
use Rattle.std.specs.Prelude.{◌&&◌, nat_eq, nat_lt, slice_index, All}
use Rattle.std.specs.List.{cons_option}
use Rattle.std.proofs.lemmas.Bool.{cases_lt}
use Rattle.std.proofs.lemmas.Bool.Decides.{Decides-eqb, nat_tests}
use Rattle.std.proofs.lemmas.List.Elements.{All-nil, All-cons, All-head, All-tail, All-append, All-weaker}
use Rattle.std.proofs.lemmas.Nat.{le-div}
use Rattle.std.proofs.Math.Nat.{div-mul-le_self, div-zero}
use Rattle.dt_model.specs.declared.calls.Cell.{Cell}
use Rattle.dt_model.specs.declared.declared_tensors.Decls.{Decls}
use Rattle.dt_model.specs.Contents.{Contents}
use Rattle.dt_model.specs.Runs.{restricted_to}
use Rattle.dt_model.specs.Statements.{all_below, nonzeros}
use Rattle.dt_model.specs.Tensors.{dims_of, first_latch, latch_of, latches_of_tensor, width_of}
use Rattle.dt_model.specs.Verdicts.{all_in_range}
use Rattle.dt_model.specs.Worlds.{decls_are_valid}
use Rattle.dt_model.proofs.Booleans.{true_both}
use Rattle.fiber_store.specs.Stores.{StoreState, store_content}
use Rattle.fiber_store.proofs.LatchRanges.{latch_within}
use Rattle.sums.specs.Coordinates.{precedes, same_coords}
use Rattle.sums.specs.Nonzeros.{number_at, IsBeforeAll, IsNonzeros}
use Rattle.sums.proofs.AnswerLemmas.{InOrder-all_below, IsNonzeros-nonzeros, number_at-nonzeros, nonzeros_unique, stands_in-all_below}
use Rattle.sums.proofs.CoordinatesLemmas.{same_coords-eq}
use Rattle.sums.proofs.NumberTests.{or_left}
use Rattle.sessions.specs.HeldTables.{IsFiberOf, AddsFiber}
use Rattle.sessions.proofs.LatchNumbers.{one_tensor}

abbrev Rows : Type 0
Rows = List (List ℕ × ℕ)

-- ---- leading coordinates

lt_of_div : (a b w : ℕ) → a / w < b / w → a < b
lt_of_div a b zero l = let x = div-zero a in let y = div-zero b in absurd (omega (arith, x, y, l))
lt_of_div a b (suc w) l = elim (cases_lt a b) [
  | inl less ↦ less
  | inr more ↦ let low = div-mul-le_self b (suc w) in let high : b / suc w ≤ a / suc w = le-div (b / suc w) a (suc w) (omega arith)
      (omega (arith, low, more)) in absurd (omega (arith, high, l))
]

lead_precedes : (x y : List ℕ) → slice_index x 0 < slice_index y 0 → precedes x y ≡ true
lead_precedes [] [] l = absurd (omega arith)
lead_precedes [] (b ∷ ys) l = refl
lead_precedes (a ∷ xs) [] l = absurd (omega arith)
lead_precedes (a ∷ xs) (b ∷ ys) l = let less : nat_lt a b ≡ true = grind (arith, nat_tests) in or_left (nat_lt a b) (nat_eq a b && precedes xs ys) less

-- coordinates with a lower latch come first
latch_precedes : (d : Decls) (t : ℕ) (x y : List ℕ) → latch_of d t x < latch_of d t y → precedes x y ≡ true
latch_precedes d t x y l = lead_precedes x y (lt_of_div (slice_index x 0) (slice_index y 0) (width_of d t) (omega arith))

-- ---- rows one after the other

before_append : (c : List ℕ) (xs ys : Rows) → IsBeforeAll c xs → IsBeforeAll c ys → IsBeforeAll c (xs ++ ys)
before_append c [] ys h k = k
before_append c (x ∷ xs) ys h k = (h.0, before_append c xs ys h.1 k)

before_all : (d : Decls) (t k : ℕ) (c : List ℕ) (ys : Rows) → latch_of d t c < k → All (λ (p : List ℕ × ℕ). latch_of d t p.0 ≡ k) ys → IsBeforeAll c ys
before_all d t k c [] l h = tt
before_all d t k c (y ∷ ys) l h =
    let at : latch_of d t y.0 ≡ k = All-head (λ (p : List ℕ × ℕ). latch_of d t p.0 ≡ k) y ys h in
    (latch_precedes d t c y.0 (omega (arith, at, l)), before_all d t k c ys l (All-tail (λ (p : List ℕ × ℕ). latch_of d t p.0 ≡ k) y ys h))

nonzeros_append : (d : Decls) (t k : ℕ) (xs ys : Rows) → IsNonzeros xs → IsNonzeros ys → All (λ (p : List ℕ × ℕ). latch_of d t p.0 < k) xs
    → All (λ (p : List ℕ × ℕ). latch_of d t p.0 ≡ k) ys → IsNonzeros (xs ++ ys)
nonzeros_append d t k [] ys a b h i = b
nonzeros_append d t k (x ∷ xs) ys a b h i = (
  a.0,
  before_append x.0 xs ys a.1 (before_all d t k x.0 ys (All-head (λ (p : List ℕ × ℕ). latch_of d t p.0 < k) x xs h) i),
  nonzeros_append d t k xs ys a.2 b (All-tail (λ (p : List ℕ × ℕ). latch_of d t p.0 < k) x xs h) i,
)

-- where none of the first rows has the coordinates, it's the number of the others
number_behind : (xs ys : Rows) (c : List ℕ) → All (λ (p : List ℕ × ℕ). p.0 ≢ c) xs → number_at (xs ++ ys) c ≡ number_at ys c
number_behind [] ys c h = refl
number_behind (x ∷ xs) ys c h = go (same_coords x.0 c) refl (number_behind xs ys c (All-tail (λ (p : List ℕ × ℕ). p.0 ≢ c) x xs h))
  where
    go : (b : Bool) → same_coords x.0 c ≡ b → number_at (xs ++ ys) c ≡ number_at ys c → (if b then x.1 else number_at (xs ++ ys) c) ≡ number_at ys c
    go true e rest = absurd (All-head (λ (p : List ℕ × ℕ). p.0 ≢ c) x xs h (same_coords-eq x.0 c e))
    go false e rest = rest

-- where the others have nothing at the coordinates, it's the number of the first rows
number_before : (xs ys : Rows) (c : List ℕ) → number_at ys c ≡ 0 → number_at (xs ++ ys) c ≡ number_at xs c
number_before [] ys c none = none
number_before (x ∷ xs) ys c none = ap (λ n. if same_coords x.0 c then x.1 else n) (number_before xs ys c none)

-- each row of the nonzeros of a function is at coordinates where it isn't 0
pub some_at : (f : List ℕ → ℕ) (cs : List (List ℕ)) → All (λ (p : List ℕ × ℕ). f p.0 ≢ 0) (nonzeros f cs)
some_at f [] = All-nil (λ (p : List ℕ × ℕ). f p.0 ≢ 0)
some_at f (c ∷ cs) = go (f c == 0) refl (some_at f cs)
  where
    not_zero : (n : ℕ) → (n == 0) ≡ false → n ≢ 0
    not_zero n e = grind (arith, nat_tests)

    go : (b : Bool) → (f c == 0) ≡ b → All (λ (p : List ℕ × ℕ). f p.0 ≢ 0) (nonzeros f cs)
        → All (λ (p : List ℕ × ℕ). f p.0 ≢ 0) (cons_option (if b then None else Some (c, f c)) (nonzeros f cs))
    go true e rest = rest
    go false e rest = All-cons (λ (p : List ℕ × ℕ). f p.0 ≢ 0) (c, f c) (nonzeros f cs) (not_zero (f c) e) rest

-- ---- a tensor's rows up to a latch

-- the rows are the nonzeros of the tensor's cells of latches below k
pub record IsTableBelow (d : Decls) (m : Contents) (t k : ℕ) (rows : Rows) : Type 0 where
  pub ascend : IsNonzeros rows
  pub below : All (λ (p : List ℕ × ℕ). latch_of d t p.0 < k) rows
  pub covered : (c : List ℕ) → all_in_range (dims_of d t) c ≡ true → latch_of d t c < k → number_at rows c ≡ m t c
  pub other : (c : List ℕ) → (all_in_range (dims_of d t) c ≡ false) ⊎ (k ≤ latch_of d t c) → number_at rows c ≡ 0

-- no rows, below the tensor's first latch
pub IsTableBelow-first : (d : Decls) (m : Contents) (t : ℕ) → IsTableBelow d m t (first_latch d t) []
IsTableBelow-first d m t = record {
  ascend = tt;
  below = All-nil (λ (p : List ℕ × ℕ). latch_of d t p.0 < first_latch d t);
  covered = λ c within l. absurd (omega arith);
  other = λ c h. refl;
}

-- the nonzeros of one fiber
fiber_number : (d : Decls) (m : Contents) (t k : ℕ) (c : List ℕ) → number_at (nonzeros (restricted_to d m k t) (all_below (dims_of d t))) c
    ≡ cond (all_in_range (dims_of d t) c) (restricted_to d m k t c) 0
fiber_number d m t k c =
    number_at-nonzeros (restricted_to d m k t) (all_below (dims_of d t)) (InOrder-all_below (dims_of d t)) c
    ∙ ap (λ b. cond b (restricted_to d m k t c) 0) (stands_in-all_below (dims_of d t) c)

restricted_here : (d : Decls) (m : Contents) (t k : ℕ) (c : List ℕ) → latch_of d t c ≡ k → restricted_to d m k t c ≡ m t c
restricted_here d m t k c e = ap (λ b. if b then m t c else 0) ((Decides-eqb (latch_of d t c) k).1 e)

restricted_else : (d : Decls) (m : Contents) (t k : ℕ) (c : List ℕ) → latch_of d t c ≢ k → restricted_to d m k t c ≡ 0
restricted_else d m t k c n = go (latch_of d t c == k) refl
  where
    go : (b : Bool) → (latch_of d t c == k) ≡ b → (if b then m t c else 0) ≡ 0
    go true e = absurd (n ((Decides-eqb (latch_of d t c) k).0 e))
    go false e = refl

fiber_latches : (d : Decls) (m : Contents) (t k : ℕ) → All (λ (p : List ℕ × ℕ). latch_of d t p.0
    ≡ k) (nonzeros (restricted_to d m k t) (all_below (dims_of d t)))
fiber_latches d m t k = All-weaker (λ (p : List ℕ × ℕ). restricted_to d m k t p.0 ≢ 0) (λ p. latch_of d t p.0
    ≡ k) (λ p some. at p.0 some) (nonzeros (restricted_to d m k t) (all_below (dims_of d t))) (some_at (restricted_to d m k t) (all_below (dims_of d t)))
  where
    at : (c : List ℕ) → restricted_to d m k t c ≢ 0 → latch_of d t c ≡ k
    at c some = go (latch_of d t c == k) refl
      where
        go : (b : Bool) → (latch_of d t c == k) ≡ b → latch_of d t c ≡ k
        go true e = (Decides-eqb (latch_of d t c) k).0 e
        go false e = absurd (some (ap (λ b. if b then m t c else 0) e))

-- the rows of one fiber more
pub IsTableBelow-more : (d : Decls) (m : Contents) (t k : ℕ) (rows pairs : Rows) → pairs ≡ nonzeros (restricted_to d m k t) (all_below (dims_of d t))
    → IsTableBelow d m t k rows → IsTableBelow d m t (k + 1) (rows ++ pairs)
IsTableBelow-more d m t k rows pairs is so = subst (λ ps. IsTableBelow d m t (k + 1) (rows ++ ps)) (sym is) (record {
  ascend = nonzeros_append d t k rows fiber so.ascend (IsNonzeros-nonzeros (restricted_to d m k t) (all_below (dims_of d t))
      (InOrder-all_below (dims_of d t))) so.below (fiber_latches d m t k);
  below = λ i. All-append (λ (p : List ℕ × ℕ). latch_of d t p.0 < k + 1) rows fiber
      (All-weaker (λ (p : List ℕ × ℕ). latch_of d t p.0 < k) (λ p. latch_of d t p.0 < k + 1) (λ p h. omega arith) rows so.below)
      (All-weaker (λ (p : List ℕ × ℕ). latch_of d t p.0 ≡ k) (λ p. latch_of d t p.0 < k + 1) (λ p h. omega arith) fiber (fiber_latches d m t k)) i;
  covered = λ c within l. elim (cases_lt (latch_of d t c) k) [
    | inl less ↦ number_before rows fiber c (none c less) ∙ so.covered c within less
    | inr more ↦ let here : latch_of d t c ≡ k = omega arith in
        number_behind rows fiber c (apart c here) ∙ fiber_number d m t k c ∙ ap (λ b. cond b (restricted_to d m k t c) 0) within ∙ restricted_here d m t k c
        here
  ];
  other = λ c h. elim h [
    | inl out ↦ number_before rows fiber c (fiber_number d m t k c ∙ ap (λ b. cond b (restricted_to d m k t c) 0) out) ∙ so.other c (inl out)
    | inr high ↦ number_before rows fiber c (above c high) ∙ so.other c (inr (omega arith))
  ];
})
  where
    fiber : Rows
    fiber = nonzeros (restricted_to d m k t) (all_below (dims_of d t))

    nothing : (b : Bool) (n : ℕ) → n ≡ 0 → cond b n 0 ≡ 0
    nothing true n e = e
    nothing false n e = refl

    none : (c : List ℕ) → latch_of d t c < k → number_at fiber c ≡ 0
    none c l = fiber_number d m t k c ∙ nothing (all_in_range (dims_of d t) c) (restricted_to d m k t c) (restricted_else d m t k c (λ e. absurd (omega arith)))

    above : (c : List ℕ) → k + 1 ≤ latch_of d t c → number_at fiber c ≡ 0
    above c l = fiber_number d m t k c ∙ nothing (all_in_range (dims_of d t) c) (restricted_to d m k t c)
        (restricted_else d m t k c (λ e. absurd (omega arith)))

    apart : (c : List ℕ) → latch_of d t c ≡ k → All (λ (p : List ℕ × ℕ). p.0 ≢ c) rows
    apart c here = All-weaker (λ (p : List ℕ × ℕ). latch_of d t p.0 < k) (λ p. p.0
        ≢ c) (λ p l e. let same : latch_of d t p.0 ≡ latch_of d t c = ap (latch_of d t) e in absurd (omega arith)) rows so.below

-- the rows of a store that has the fiber of the latch
pub IsTableBelow-store : (d : Decls) (m : Contents) (t f : ℕ) (old new : Rows) (s : StoreState) → t < length d.tensors → f < latches_of_tensor d t
    → IsFiberOf d m (first_latch d t + f) s → AddsFiber old new s → IsTableBelow d m t (first_latch d t + f) old
    → IsTableBelow d m t (first_latch d t + f + 1) new
IsTableBelow-store d m t f old new s declared few fiber adds so =
    let k : ℕ = first_latch d t + f in
    let its : s.tensor ≡ t = one_tensor d t s.tensor f s.fiber declared fiber.sound.declared few fiber.sound.latched fiber.sound.latch in
    let pairs : adds.pairs ≡ nonzeros (restricted_to d m k t) (all_below (dims_of d t)) = adds.value d k fiber.sound
    ∙ ap (λ u. nonzeros (store_content s u) (all_below (dims_of d u))) its ∙ ap (λ n. nonzeros (n t) (all_below (dims_of d t))) fiber.content in
    subst (IsTableBelow d m t (k + 1)) (sym adds.added) (IsTableBelow-more d m t k old adds.pairs pairs so)

-- the same, of a latch that is one of the tensor's
pub IsTableBelow-next : (d : Decls) (m : Contents) (t k : ℕ) (old new : Rows) (s : StoreState) → t < length d.tensors → first_latch d t ≤ k
    → k < first_latch d t + latches_of_tensor d t → IsFiberOf d m k s → AddsFiber old new s → IsTableBelow d m t k old → IsTableBelow d m t (k + 1) new
IsTableBelow-next d m t k old new s declared low high fiber adds so =
    let is : first_latch d t + (k - first_latch d t) ≡ k = omega arith in
    subst (λ n. IsFiberOf d m n s → IsTableBelow d m t n old → IsTableBelow d m t (n + 1) new) is
    (λ f b. IsTableBelow-store d m t (k - first_latch d t) old new s declared (omega arith) f adds b) fiber so

-- with all its latches they are the tensor's nonzeros
pub IsTableBelow-all : (d : Decls) (m : Contents) (t : ℕ) (rows : Rows) → IsTrue (decls_are_valid d) → t < length d.tensors
    → IsTableBelow d m t (first_latch d t + latches_of_tensor d t) rows → rows ≡ nonzeros (m t) (all_below (dims_of d t))
IsTableBelow-all d m t rows valid declared so = nonzeros_unique (m t) (dims_of d t) rows so.ascend (λ c. go c (all_in_range (dims_of d t) c) refl)
  where
    below : (c : List ℕ) → all_in_range (dims_of d t) c ≡ true → latch_of d t c < first_latch d t + latches_of_tensor d t
    below c within =
        let cell : Cell = record { tensor = t; at = c } in
        let known : nat_lt t (length d.tensors) ≡ true = grind (arith, nat_tests) in
        latch_within d cell valid (true_both (nat_lt t (length d.tensors)) (all_in_range (dims_of d t) c) known within)

    go : (c : List ℕ) (b : Bool) → all_in_range (dims_of d t) c ≡ b → number_at rows c ≡ cond b (m t c) 0
    go c true e = so.covered c e (below c e)
    go c false e = so.other c (inl e)
