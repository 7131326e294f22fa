-- The loaded lines of a tensor, cut into the runs of its latches.
use Rattle.std.proofs.Common.{◌≡◌, ◌≢◌, ◌≤◌, ◌<◌, ◌+◌, ◌-◌, ◌/◌, ◌%◌, ◌^◌, ◌==◌, ℕ, zero, suc, Bool, true, false, IsTrue, List, [], ◌∷◌, ◌++◌, length, take, drop, get_or, sym, refl, ap, ◌∙◌, subst, inl, inr, arith, if◌then◌else◌, Less}
use Rattle.std.specs.Prelude.{nat_eq, nat_lt, slice_index, All, not, fold}
use Rattle.std.specs.List.{list_all, enumerate_from}
use Rattle.std.specs.Cmp.Lexicographic.{pointwise, slice_cmp}
use Rattle.std.specs.Ordering.{nat_cmp}
use Rattle.std.proofs.lemmas.Bool.{cases_lt}
use Rattle.std.proofs.lemmas.Bool.Decides.{Decides-eqb, nat_tests}
use Rattle.std.proofs.lemmas.List.{drop_more, take_at, length-append, length-map, length-drop, length-take-le, get_or_append_left, get_or_push}
use Rattle.std.proofs.lemmas.List.Kept.{AllPairs-filter}
use Rattle.std.proofs.lemmas.List.Elements.{All-nil, All-cons, All-head, All-tail, All-append, All-weaker}
use Rattle.std.proofs.lemmas.List.Sums.{sum_by-cons}
use Rattle.std.proofs.lemmas.Nat.{le-div}
use Rattle.std.proofs.lemmas.Slice.Eq.{bytes_eq-Decides}
use Rattle.std.proofs.Math.Nat.{div-mul-le_self}
use Rattle.dt_model.specs.declared.declared_tensors.Decls.{Decls}
use Rattle.dt_model.specs.declared.replies.World.{World}
use Rattle.dt_model.specs.Contents.{Contents, no_cells, same_cell, with_cell, with_more}
use Rattle.dt_model.specs.Pairs.{IsAscending, total_at}
use Rattle.dt_model.specs.Runs.{base_of, restricted_to, with_lines}
use Rattle.dt_model.specs.Statements.{all_below, nonzeros}
use Rattle.dt_model.specs.Tensors.{dims_of, first_latch, latch_of, latches_of_tensor, width_of}
use Rattle.dt_model.specs.Verdicts.{all_in_range, cell_is_valid}
use Rattle.dt_model.specs.Worlds.{IsValid, decls_are_valid, loads_are_valid}
use Rattle.dt_model.proofs.Booleans.{both_true, true_both}
use Rattle.dt_model.proofs.WorldsLemmas.{as_many_bases}
use Rattle.dt_model.specs.declared.declared_tensors.TensorDecl.{TensorDecl}
use Rattle.commit_core.specs.Cells.{Cells, without_zeros}
use Rattle.commit_core.specs.CellListState.{CellListState, all_orders}
use Rattle.commit_core.specs.Orders.{orders_of}
use Rattle.commit_core.proofs.CellsLemmas.{value_at, sum_at}
use Rattle.commit_core.proofs.MachineLemmas.{same_cell-is}
use Rattle.fiber_store.specs.Stores.{StoreState, IsInFiber, content_of}
use Rattle.fiber_store.proofs.LatchRanges.{latch_within}
use Rattle.sessions.specs.HeldTables.{IsFiberOf}
use Rattle.sessions.specs.Loading.{AllHaveLatch, AreFibersBelow, AreRowsOf, IsCutAt, IsInside, IsRunOf}
use Rattle.sessions.specs.QueryTables.{AreNonzerosOf}
use Rattle.sessions.specs.InRange.{IsInRange}
use Rattle.sessions.proofs.FiberTables.{some_at}
use Rattle.sessions.proofs.LatchNumbers.{one_tensor}
use Rattle.sums.proofs.AscendingLemmas.{sum_by-without_zeros}

-- ---- ascending rows have ascending latches

-- of two lists in order the leading numbers don't fall
lead_order : (x y : List ℕ) → slice_cmp nat_cmp x y ≡ Less → slice_index x 0 ≤ slice_index y 0
lead_order [] y h = omega arith
lead_order (a ∷ xs) [] h = absurd (cc)
lead_order (a ∷ xs) (b ∷ ys) h = elim (cases_lt b a) [
  | inl less ↦ absurd (more_first a b xs ys less h)
  | inr more ↦ more
]
  where
    more_first : (a b : ℕ) (xs ys : List ℕ) → b < a → slice_cmp nat_cmp (a ∷ xs) (b ∷ ys) ≡ Less → ⊥
    more_first a b xs ys l h = grind (arith, nat_tests)

div_order : (a b w : ℕ) → a ≤ b → a / w ≤ b / w
div_order a b zero l = omega arith
div_order a b (suc w) l = let low = div-mul-le_self a (suc w) in le-div (a / suc w) b (suc w) (omega arith) (omega (arith, low, l))

-- so their latches don't either
latch_order : (d : Decls) (t : ℕ) (x y : List ℕ) → slice_cmp nat_cmp x y ≡ Less → latch_of d t x ≤ latch_of d t y
latch_order d t x y h = let l = div_order (slice_index x 0) (slice_index y 0) (width_of d t) (lead_order x y h) in omega (arith, l)

ascending_tail : (p : List ℕ × ℕ) (ps : Cells) → IsAscending (p ∷ ps) → IsAscending ps
ascending_tail p ps h i j d low high = h (suc i) (suc j) d (omega arith) (omega arith)

-- behind a row all latches are at least its own
latches_behind : (d : Decls) (t : ℕ) (p : List ℕ × ℕ) (ps : Cells) → IsAscending (p ∷ ps) → AllHaveLatch d t (λ k. latch_of d t p.0 ≤ k) ps
latches_behind d t p ps h i e l = latch_order d t p.0 (get_or ps i e).0 (h 0 (suc i) e (omega arith) (omega arith))

ascending_drop : (ps : Cells) (n : ℕ) → IsAscending ps → IsAscending (drop n ps)
ascending_drop ps zero h = h
ascending_drop [] (suc n) h = h
ascending_drop (p ∷ ps) (suc n) h = ascending_drop ps n (ascending_tail p ps h)

-- ---- a run

-- one row more
pub run_more : (rows run : Cells) (from i : ℕ) (p : List ℕ × ℕ) → i < length rows → p ≡ get_or rows i p → drop from rows ≡ run ++ drop i rows
    → drop from rows ≡ (run ++ p ∷ []) ++ drop (i + 1) rows
run_more rows run from i p l is cut = cut ∙ ap (λ r. run ++ r) (drop_more rows i p l ∙ ap (λ x. x ∷ drop (i + 1) rows) (sym is)) ∙ shift run p
    (drop (i + 1) rows)
  where
    shift : (xs : Cells) (x : List ℕ × ℕ) (ys : Cells) → xs ++ x ∷ ys ≡ (xs ++ x ∷ []) ++ ys
    shift [] x ys = refl
    shift (y ∷ xs) x ys = ap (λ r. y ∷ r) (shift xs x ys)

-- a row that isn't the latch's own ends the run
pub run_ends : (d : Decls) (t l : ℕ) (rows : Cells) (i : ℕ) (x : List ℕ × ℕ) → i < length rows → x ≡ get_or rows i x → latch_of d t x.0 ≢ l
    → (p : List ℕ × ℕ) (rest : Cells) → drop i rows ≡ p ∷ rest → latch_of d t p.0 ≢ l
run_ends d t l rows i x b is other p rest e = subst (λ (y : List ℕ × ℕ). latch_of d t y.0 ≢ l) (same p rest e) other
  where
    heads : (a b : List ℕ × ℕ) (xs ys : Cells) → a ∷ xs ≡ b ∷ ys → a ≡ b
    heads a b xs ys e = ap (λ (r : Cells). get_or r 0 a) e

    same : (p : List ℕ × ℕ) (rest : Cells) → drop i rows ≡ p ∷ rest → x ≡ p
    same p rest e = heads x p (drop (i + 1) rows) rest (sym (drop_more rows i x b ∙ ap (λ y. y ∷ drop (i + 1) rows) (sym is)) ∙ e)

-- a row is a valid cell
pub row_valid : (d : Decls) (t : ℕ) (rows : Cells) (i : ℕ) (p : List ℕ × ℕ) → i < length rows → p ≡ get_or rows i p → t < length d.tensors
    → All (λ q. IsTrue (all_in_range (dims_of d t) q.0)) rows → IsTrue (cell_is_valid d (record { tensor = t; at = p.0 }))
row_valid d t rows i p below is declared within =
    let known : nat_lt t (length d.tensors) ≡ true = grind (arith, nat_tests) in
    true_both (nat_lt t (length d.tensors)) (all_in_range (dims_of d t) p.0) known
    (subst (λ (q : List ℕ × ℕ). IsTrue (all_in_range (dims_of d t) q.0)) (sym is) (within i p below))

-- it is in the latch's fiber too
pub own_more : (d : Decls) (t l : ℕ) (rows run : Cells) (i : ℕ) (p : List ℕ × ℕ) → i < length rows → p ≡ get_or rows i p
    → All (λ q. IsTrue (all_in_range (dims_of d t) q.0)) rows → latch_of d t p.0 ≡ l → All (λ q. IsInFiber d t l q.0) run
    → All (λ q. IsInFiber d t l q.0) (run ++ p ∷ [])
own_more d t l rows run i p below is within latch own =
    let here : IsInFiber d t l p.0 = record {
      in_range = subst (λ (q : List ℕ × ℕ). IsTrue (all_in_range (dims_of d t) q.0)) (sym is) (within i p below);
      latch = latch;
    } in
    λ k. All-append (λ (q : List ℕ × ℕ). IsInFiber d t l q.0) run (p ∷ []) own (All-cons (λ (q : List ℕ × ℕ). IsInFiber d t l q.0) p [] here
    (All-nil (λ (q : List ℕ × ℕ). IsInFiber d t l q.0))) k

-- a run ascends as the rows do
pub run_ascends : (rows run : Cells) (from to : ℕ) → IsAscending rows → drop from rows ≡ run ++ drop to rows → IsAscending run
run_ascends rows run from to up cut i j e low high =
    let all : IsAscending (run ++ drop to rows) = subst IsAscending cut (ascending_drop rows from up) in
    let wide = length-append run (drop to rows) in
    let h = all i j e low (omega (arith, wide, high)) in
    subst (λ (p : (List ℕ × ℕ) × (List ℕ × ℕ)). slice_cmp nat_cmp p.0.0 p.1.0 ≡ Less)
    (λ k. (get_or_append_left run (drop to rows) e i (omega arith) k, get_or_append_left run (drop to rows) e j high k)) h

-- ---- where a tensor's rows are cut

-- before the first row nothing is below the first latch
pub IsCutAt-first : (d : Decls) (t : ℕ) (rows : Cells) → IsCutAt d t (first_latch d t) rows 0
IsCutAt-first d t rows = record {
  within = omega arith;
  below = All-nil (λ (p : List ℕ × ℕ). latch_of d t p.0 < first_latch d t);
  above = λ i e l. omega arith;
}

-- ---- the numbers of a run

apart_sum : (d : Decls) (t : ℕ) (c : List ℕ) (ps : Cells) → AllHaveLatch d t (λ k. k ≢ latch_of d t c) ps → sum_at c ps ≡ 0
apart_sum d t c [] h = refl
apart_sum d t c (p ∷ ps) h =
    let rest = apart_sum d t c ps (All-tail (λ (q : List ℕ × ℕ). latch_of d t q.0 ≢ latch_of d t c) p ps h) in
    let none : value_at c p ≡ 0 = nothing (pointwise nat_eq p.0 c) refl in
    let all = sum_by-cons (value_at c) p ps in
    omega (arith, rest, none, all)
  where
    nothing : (b : Bool) → pointwise nat_eq p.0 c ≡ b → (if b then p.1 else 0) ≡ 0
    nothing true e = absurd (All-head (λ (q : List ℕ × ℕ). latch_of d t q.0 ≢ latch_of d t c) p ps h (ap (latch_of d t) ((bytes_eq-Decides p.0 c).0 e)))
    nothing false e = refl

zero_more : (n : ℕ) → n ≡ 0 + n
zero_more n = omega arith

sum_append : (c : List ℕ) (xs ys : Cells) → sum_at c (xs ++ ys) ≡ sum_at c xs + sum_at c ys
sum_append c [] ys = zero_more (sum_at c ys)
sum_append c (x ∷ xs) ys =
    let rest = sum_append c xs ys in
    let a = sum_by-cons (value_at c) x (xs ++ ys) in
    let b = sum_by-cons (value_at c) x xs in
    omega (arith, rest, a, b)

-- ---- the store of a run

module _ (d : Decls) (m : Contents) (t f : ℕ) (rows run : Cells) (from to : ℕ) (are : AreRowsOf d m t rows) (cut : IsCutAt d t (first_latch d t
    + f) rows from) (is_run : IsRunOf d t (first_latch d t + f) rows from to run) where
  abbrev l : ℕ
  l = first_latch d t + f

  whole : rows ≡ (take from rows ++ run) ++ drop to rows
  whole = sym (take_drop rows from) ∙ ap (λ r. take from rows ++ r) is_run.cut ∙ assoc (take from rows) run (drop to rows)
    where
      take_drop : (xs : Cells) (n : ℕ) → take n xs ++ drop n xs ≡ xs
      take_drop xs zero = refl
      take_drop [] (suc n) = refl
      take_drop (x ∷ xs) (suc n) = ap (λ r. x ∷ r) (take_drop xs n)

      assoc : (xs ys zs : Cells) → xs ++ (ys ++ zs) ≡ (xs ++ ys) ++ zs
      assoc [] ys zs = refl
      assoc (x ∷ xs) ys zs = ap (λ r. x ∷ r) (assoc xs ys zs)

  run_latches : AllHaveLatch d t (λ k. k ≡ l) run
  run_latches = All-weaker (λ (p : List ℕ × ℕ). IsInFiber d t l p.0) (λ p. latch_of d t p.0 ≡ l) (λ p h. h.latch) run is_run.own

  -- all rows behind the run are of later latches
  pub above_run : AllHaveLatch d t (λ k. l + 1 ≤ k) (drop to rows)
  above_run = go (drop to rows) refl (behind run (drop to rows) (subst (AllHaveLatch d t (λ k. l ≤ k)) is_run.cut cut.above))
    where
      behind : (xs ys : Cells) → AllHaveLatch d t (λ k. l ≤ k) (xs ++ ys) → AllHaveLatch d t (λ k. l ≤ k) ys
      behind [] ys h = h
      behind (x ∷ xs) ys h = behind xs ys (All-tail (λ (p : List ℕ × ℕ). l ≤ latch_of d t p.0) x (xs ++ ys) h)

      go : (ds : Cells) → drop to rows ≡ ds → AllHaveLatch d t (λ k. l ≤ k) (drop to rows) → AllHaveLatch d t (λ k. l + 1 ≤ k) (drop to rows)
      go [] e h = subst (AllHaveLatch d t (λ k. l + 1 ≤ k)) (sym e) (All-nil (λ (p : List ℕ × ℕ). l + 1 ≤ latch_of d t p.0))
      go (p ∷ rest) e h =
          let up : IsAscending (p ∷ rest) = subst IsAscending e (ascending_drop rows to are.ascending) in
          let low : l ≤ latch_of d t p.0 = All-head (λ (q : List ℕ × ℕ). l ≤ latch_of d t q.0) p rest (subst (AllHaveLatch d t (λ k. l ≤ k)) e h) in
          let other : latch_of d t p.0 ≢ l = is_run.next p rest e in
          let high : l + 1 ≤ latch_of d t p.0 = above_if l (latch_of d t p.0) low other in
          subst (AllHaveLatch d t (λ k. l + 1 ≤ k)) (sym e) (All-cons (λ (q : List ℕ × ℕ). l + 1 ≤ latch_of d t q.0) p rest high
          (All-weaker (λ (q : List ℕ × ℕ). latch_of d t p.0 ≤ latch_of d t q.0) (λ q. l + 1 ≤ latch_of d t q.0) (λ q k. omega (arith, k, high)) rest
          (latches_behind d t p rest up)))
        where
          above_if : (a b : ℕ) → a ≤ b → b ≢ a → a + 1 ≤ b
          above_if a b low other = elim (cases_lt a b) [ inl less ↦ omega arith | inr more ↦ absurd (other (omega arith)) ]

  -- the rows are cut behind the run, for the next latch
  pub IsCutAt-next : IsCutAt d t (l + 1) rows to
  IsCutAt-next = record {
    within = is_run.within;
    below = subst (AllHaveLatch d t (λ k. k < l + 1)) (sym taken) (λ i. All-append (λ (p : List ℕ × ℕ). latch_of d t p.0 < l + 1) (take from rows) run
        (All-weaker (λ (p : List ℕ × ℕ). latch_of d t p.0 < l) (λ p. latch_of d t p.0 < l + 1) (λ p h. omega arith) (take from rows) cut.below)
        (All-weaker (λ (p : List ℕ × ℕ). latch_of d t p.0 ≡ l) (λ p. latch_of d t p.0 < l + 1) (λ p h. omega arith) run run_latches) i);
    above = above_run;
  }
    where
      taken : take to rows ≡ take from rows ++ run
      taken =
          let low = length-take-le from rows cut.within in
          let all = length-append (take from rows) run in
          let cuts = ap length is_run.cut in
          let parts = length-append run (drop to rows) in
          let behind = length-drop from rows in
          let beyond = length-drop to rows in
          let within = is_run.within in
          let order = is_run.order in
          let high : length (take from rows ++ run) ≡ to = omega (arith, low, all, cuts, parts, behind, beyond, within, order) in
          ap (take to) whole ∙ take_at (take from rows ++ run) (drop to rows) to high

  -- the run has what the contents have in the latch's cells
  pub run_content : IsInside d m → IsTrue (decls_are_valid d) → t < length d.tensors → f < latches_of_tensor d t → content_of t run ≡ restricted_to d m l
  run_content inside valid declared few = λ i u c. at u c (t == u) refl (latch_of d u c == l) refl i
    where
      sums : (c : List ℕ) → latch_of d t c ≡ l → sum_at c run ≡ sum_at c rows
      sums c here =
          let low = apart_sum d t c (take from rows) (All-weaker (λ (p : List ℕ × ℕ). latch_of d t p.0 < l) (λ p. latch_of d t p.0
          ≢ latch_of d t c) (λ p h e. absurd (omega (arith, h, e, here))) (take from rows) cut.below) in
          let high = apart_sum d t c (drop to rows) (All-weaker (λ (p : List ℕ × ℕ). l + 1 ≤ latch_of d t p.0) (λ p. latch_of d t p.0
          ≢ latch_of d t c) (λ p h e. absurd (omega (arith, h, e, here))) (drop to rows) above_run) in
          let all = ap (sum_at c) whole ∙ sum_append c (take from rows ++ run) (drop to rows) in
          let part = sum_append c (take from rows) run in
          omega (arith, low, high, all, part)

      none : (c : List ℕ) → latch_of d t c ≢ l → total_at run c ≡ 0
      none c other = ap (λ n. n % 2 ^ 64) (apart_sum d t c run (All-weaker (λ (p : List ℕ × ℕ). latch_of d t p.0 ≡ l) (λ p. latch_of d t p.0
          ≢ latch_of d t c) (λ p h e. other (sym e ∙ h)) run run_latches))

      here : (u : ℕ) (c : List ℕ) → t ≡ u → latch_of d u c ≡ l → total_at run c ≡ m u c
      here u c same at = subst (λ v. latch_of d v c ≡ l → total_at run c ≡ m v c) same (λ e. ap (λ n. n % 2 ^ 64) (sums c e) ∙ are.total c) at

      elsewhere : (u : ℕ) (c : List ℕ) → t ≢ u → latch_of d u c ≡ l → m u c ≡ 0
      elsewhere u c other at = go (cell_is_valid d (record { tensor = u; at = c })) refl
        where
          go : (b : Bool) → cell_is_valid d (record { tensor = u; at = c }) ≡ b → m u c ≡ 0
          go false e = inside u c e
          go true e =
              let own = latch_within d (record { tensor = u; at = c }) valid e in
              let lt : nat_lt u (length d.tensors) ≡ true = (both_true (nat_lt u (length d.tensors)) (all_in_range (dims_of d u) c) e).0 in
              let known : u < length d.tensors = grind (arith, nat_tests) in
              absurd (other (sym (one_tensor d t u f (latch_of d u c - first_latch d u) declared known few (omega (arith, own)) (omega (arith, at)))))

      at : (u : ℕ) (c : List ℕ) (a : Bool) → (t == u) ≡ a → (b : Bool) → (latch_of d u c == l) ≡ b → (if a then total_at run c else 0) ≡
          (if b then m u c else 0)
      at u c true e true g = here u c ((Decides-eqb t u).0 e) ((Decides-eqb (latch_of d u c) l).0 g)
      at u c true e false g =
          let same : t ≡ u = (Decides-eqb t u).0 e in
          none c (λ is. absurd (clash (latch_of d u c == l) ((Decides-eqb (latch_of d u c) l).1 (ap (λ v. latch_of d v c) (sym same) ∙ is)) g))
        where
          clash : (b : Bool) → b ≡ true → b ≡ false → ⊥
          clash b x y = absurd (cc)
      at u c false e true g = sym (elsewhere u c (λ same. apart same e) ((Decides-eqb (latch_of d u c) l).0 g))
        where
          apart : t ≡ u → (t == u) ≡ false → ⊥
          apart same e = let yes = (Decides-eqb t u).1 same in absurd (cc)
      at u c false e false g = refl

-- ---- the stores so far

-- one store more
pub AreFibersBelow-push : (d : Decls) (m : Contents) (n : ℕ) (old new : List StoreState) (s : StoreState) → AreFibersBelow d m n old → IsFiberOf d m n s
    → new ≡ old ++ s ∷ [] → AreFibersBelow d m (n + 1) new
AreFibersBelow-push d m n old new s are fiber grew = subst (AreFibersBelow d m (n + 1)) (sym grew) (record {
  count = length-append old (s ∷ []) ∙ ap (λ k. k + 1) are.count;
  each = λ l x below. elim (cases_lt l n) [
    | inl less ↦ subst (IsFiberOf d m l) (sym (get_or_append_left old (s ∷ []) x l (omega (arith, are.count, less)))) (are.each l x less)
    | inr more ↦
        let last : l ≡ length old = omega (arith, are.count, below, more) in
        let at : l ≡ n = omega (arith, below, more) in
        subst (λ (p : ℕ × StoreState). IsFiberOf d m p.0 p.1) (λ i. (sym at i, sym (get_or_push old s x l (sym last)) i)) fiber
  ];
})

-- ---- what is loaded

-- the rows of a tensor without zeros are those of the base
pub AreRowsOf-loaded : (d : Decls) (m : Contents) (t : ℕ) (cells pairs : Cells) → IsInRange d m → IsAscending cells → pairs ≡ without_zeros cells
    → ((c : List ℕ) → total_at cells c ≡ m t c) → AreNonzerosOf m t pairs → AreRowsOf d m t pairs
AreRowsOf-loaded d m t cells pairs in_range up is sums are = record {
  ascending = subst IsAscending (sym is) (AllPairs-filter (λ (p q : List ℕ × ℕ). slice_cmp nat_cmp p.0 q.0 ≡ Less) (λ p. not (p.1 == 0)) cells up);
  in_range = subst (λ ps. All (λ (p : List ℕ × ℕ). all_in_range (dims_of d t) p.0 ≡ true) ps) (sym (are d in_range))
      (All-weaker (λ (p : List ℕ × ℕ). m t p.0 ≢ 0) (λ p. all_in_range (dims_of d t) p.0
      ≡ true) (λ p some. within p.0 some) (nonzeros (m t) (all_below (dims_of d t))) (some_at (m t) (all_below (dims_of d t))));
  total = λ c. ap (λ ps. total_at ps c) is ∙ ap (λ n. n % 2 ^ 64) (sum_by-without_zeros c cells) ∙ sums c;
}
  where
    within : (c : List ℕ) → m t c ≢ 0 → all_in_range (dims_of d t) c ≡ true
    within c some = go (all_in_range (dims_of d t) c) refl
      where
        go : (b : Bool) → all_in_range (dims_of d t) c ≡ b → b ≡ true
        go true e = refl
        go false e = absurd (some (in_range t c e))

IsInside-with_cell : (d : Decls) (m : Contents) (t : ℕ) (a : List ℕ) (v : ℕ) → cell_is_valid d (record { tensor = t; at = a }) ≡ true → IsInside d m
    → IsInside d (with_cell m t a v)
IsInside-with_cell d m t a v valid h u c out = go (same_cell t a u c) refl
  where
    go : (b : Bool) → same_cell t a u c ≡ b → (if b then v else m u c) ≡ 0
    go true e =
        let same = same_cell-is t a u c e in
        let inside : cell_is_valid d (record { tensor = u; at = c }) ≡ true = subst (λ (p : ℕ × List ℕ). cell_is_valid d (record { tensor = p.0; at = p.1 })
        ≡ true) (λ i. (same.0 i, same.1 i)) valid in
        absurd (cc (inside, out))
    go false e = h u c out

IsInside-with_lines : (d : Decls) (m : Contents) (t : ℕ) (lines : Cells) → t < length d.tensors
    → list_all (λ line. all_in_range (dims_of d t) line.0) lines ≡ true → IsInside d m → IsInside d (with_lines m t lines)
IsInside-with_lines d m t [] l valid h = h
IsInside-with_lines d m t (x ∷ xs) l valid h =
    let both = both_true (all_in_range (dims_of d t) x.0) (list_all (λ line. all_in_range (dims_of d t) line.0) xs) valid in
    let known : nat_lt t (length d.tensors) ≡ true = grind (arith, nat_tests) in
    IsInside-with_lines d (with_more m t x.0 x.1) t xs l both.1
    (IsInside-with_cell d m t x.0 ((m t x.0 + x.1) % 2 ^ 64) (true_both (nat_lt t (length d.tensors)) (all_in_range (dims_of d t) x.0) known both.0) h)

IsInside-base : (d : Decls) (m : Contents) (n : ℕ) (base : List Cells) → n + length base ≤ length d.tensors
    → list_all (loads_are_valid d) (enumerate_from n base) ≡ true → IsInside d m → IsInside d (fold (λ m p. with_lines m p.0 p.1) m (enumerate_from n base))
IsInside-base d m n [] l valid h = h
IsInside-base d m n (lines ∷ more) l valid h =
    let both = both_true (loads_are_valid d (n, lines)) (list_all (loads_are_valid d) (enumerate_from (n + 1) more)) valid in
    IsInside-base d (with_lines m n lines) (n + 1) more (omega arith) both.1 (IsInside-with_lines d m n lines (omega arith) both.0 h)

-- nothing that a valid world loads lies outside its tensors
pub IsInside-base_of : (w : World) → IsValid w → IsInside w.decls (base_of w)
IsInside-base_of w v = IsInside-base w.decls no_cells 0 w.base (let many = as_many_bases w v in omega (arith, many)) v.loads (λ t c out. refl)

-- there are as many lists as tensors
pub as_many_lists : (w : World) (xs : List CellListState) → all_orders xs ≡ orders_of w.decls → length xs ≡ length w.decls.tensors
as_many_lists w xs same =
    let a = length-map xs (λ (x : CellListState). x.order) in
    let b = length-map w.decls.tensors (λ (t : TensorDecl). length t.dims) in
    let e = ap length same in
    omega (arith, a, b, e)
