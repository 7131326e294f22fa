-- The latches of a call as ranges, and the search for the least of them.
use Rattle.std.proofs.Common.{◌≡◌, ◌≤◌, ◌<◌, ◌+◌, ◌||◌, ◌==◌, ℕ, Bool, true, false, length, List, [], ◌∷◌, ◌++◌, Option, Some, None, IfSome, get_or, drop, sym, refl, ap, ◌∙◌, ⊎_elim, arith, zero, suc, map, append_assoc, length-append}
use Rattle.std.specs.Prelude.{◌&&◌, nat_le, nat_lt}
use Rattle.std.specs.List.{list_any, flat_map}
use Rattle.std.proofs.lemmas.Bool.{cases_lt}
use Rattle.std.proofs.lemmas.Bool.Decides.{nat_tests}
use Rattle.std.proofs.lemmas.Grind.{flat_map-append}
use Rattle.std.proofs.lemmas.List.{at_drop_more, drop_all, get_or-drop, get_or_default, length-drop}
use Rattle.std.proofs.lemmas.List.Concat.{flat_map-cons}
use Rattle.std.proofs.lemmas.List.Folds.{list_any-append}
use Rattle.sums.proofs.NumberTests.{or_cases, or_left}
use Rattle.dt_model.specs.declared.calls.Call.{Call}
use Rattle.dt_model.specs.declared.calls.Call.TheVariants.{Get, Batch, Query}
use Rattle.dt_model.specs.declared.calls.Update.{Update}
use Rattle.dt_model.specs.declared.declared_tensors.Decls.{Decls}
use Rattle.dt_model.specs.declared.statements.Expr.{Expr}
use Rattle.dt_model.specs.Latches.{is_latch_of, latch_of_cell, needs}
use Rattle.dt_model.specs.Statements.{accesses}
use Rattle.dt_model.specs.Tensors.{first_latch, latches_of_tensor, tensor_named}
use Rattle.dt_model.specs.Verdicts.{update_cell}
use Rattle.dt_model.proofs.Booleans.{both_true}
use Rattle.sessions.specs.declared.needing.LatchRange.{LatchRange}
use Rattle.sessions.specs.Needing.{AreAscending, IsLeastFrom, access_ranges, call_ranges, covers, is_in, one_latch, tensor_ranges}

-- ---- lists

or_nothing : (b : Bool) → (b || false) ≡ b
or_nothing true = refl
or_nothing false = refl

-- an element passes, so one does
pub any_at : {X : Type 0} (f : X → Bool) (xs : List X) (i : ℕ) (d : X) → i < length xs → f (get_or xs i d) ≡ true → list_any f xs ≡ true
any_at f [] i d b e = absurd (omega arith)
any_at f (x ∷ xs) zero d b e = or_left (f x) (list_any f xs) e
any_at f (x ∷ xs) (suc i) d b e = ap (λ r. f x || r) (any_at f xs i d (omega arith) e) ∙ or_true (f x)
  where
    or_true : (b : Bool) → (b || true) ≡ true
    or_true true = refl
    or_true false = refl

-- ---- the ranges of a call

in_one : (a l : ℕ) → (nat_le a l && nat_lt l (a + 1)) ≡ (a == l)
in_one a l = go (nat_le a l) (nat_lt l (a + 1)) (a == l) refl refl refl
  where
    go : (p q r : Bool) → nat_le a l ≡ p → nat_lt l (a + 1) ≡ q → (a == l) ≡ r → (p && q) ≡ r
    go true true true e f g = refl
    go true true false e f g = grind (arith, nat_tests)
    go true false true e f g = grind (arith, nat_tests)
    go true false false e f g = refl
    go false true true e f g = grind (arith, nat_tests)
    go false true false e f g = refl
    go false false true e f g = grind (arith, nat_tests)
    go false false false e f g = refl

updates_covered : (d : Decls) (us : List Update) (l : ℕ) → covers (map (λ u. one_latch (latch_of_cell d (update_cell u))) us) l
    ≡ list_any (λ u. latch_of_cell d (update_cell u) == l) us
updates_covered d [] l = refl
updates_covered d (u ∷ us) l =
    ap (λ b. b || covers (map (λ x. one_latch (latch_of_cell d (update_cell x))) us) l) (in_one (latch_of_cell d (update_cell u)) l)
    ∙ ap (λ b. (latch_of_cell d (update_cell u) == l) || b) (updates_covered d us l)

tensor_covered : (d : Decls) (o : Option ℕ) (l : ℕ) → covers (tensor_ranges d o) l ≡ is_latch_of d l o
tensor_covered d None l = refl
tensor_covered d (Some t) l = or_nothing (nat_le (first_latch d t) l && nat_lt l (first_latch d t + latches_of_tensor d t))

accesses_covered : (d : Decls) (accs : List (List ℕ × List ℕ)) (l : ℕ) → covers (access_ranges d accs) l
    ≡ list_any (λ a. is_latch_of d l (tensor_named d a.0)) accs
accesses_covered d [] l = refl
accesses_covered d (a ∷ accs) l =
    ap (λ (rs : List LatchRange). covers rs l) (flat_map-cons (λ (x : List ℕ × List ℕ). tensor_ranges d (tensor_named d x.0)) a accs)
    ∙ list_any-append (λ (r : LatchRange). nat_le r.first l && nat_lt l r.end) (tensor_ranges d (tensor_named d a.0)) (access_ranges d accs)
    ∙ ap (λ b. b || covers (access_ranges d accs) l) (tensor_covered d (tensor_named d a.0) l)
    ∙ ap (λ b. is_latch_of d l (tensor_named d a.0) || b) (accesses_covered d accs l)

-- they cover the latches that the call needs
pub covers-call : (d : Decls) (call : Call) (l : ℕ) → covers (call_ranges d call) l ≡ needs d call l
covers-call d (Get cell) l = or_nothing (nat_le (latch_of_cell d cell) l && nat_lt l (latch_of_cell d cell + 1)) ∙ in_one (latch_of_cell d cell) l
covers-call d (Batch updates) l = updates_covered d updates l
covers-call d (Query s) l = accesses_covered d (accesses s.right) l

-- the ranges of some accesses behind those of others
pub access_ranges-sides : (d : Decls) (old mid new : List LatchRange) (all xs ys : List (List ℕ × List ℕ)) → all ≡ xs ++ ys
    → mid ≡ old ++ access_ranges d xs → new ≡ mid ++ access_ranges d ys → new ≡ old ++ access_ranges d all
access_ranges-sides d old mid new all xs ys split first second =
    second ∙ ap (λ (rs : List LatchRange). rs ++ access_ranges d ys) first ∙ append_assoc old (access_ranges d xs) (access_ranges d ys)
    ∙ ap (λ (rs : List LatchRange). old ++ rs) (sym (ap (access_ranges d) split
    ∙ flat_map-append (λ (x : List ℕ × List ℕ). tensor_ranges d (tensor_named d x.0)) xs ys))

-- there are no more of them than accesses
pub length-access_ranges : (d : Decls) (accs : List (List ℕ × List ℕ)) → length (access_ranges d accs) ≤ length accs
length-access_ranges d [] = omega arith
length-access_ranges d (a ∷ accs) =
    let rest = length-access_ranges d accs in
    let one = few (tensor_named d a.0) in
    let parts = ap (λ (rs : List LatchRange). length rs) (flat_map-cons (λ (x : List ℕ × List ℕ). tensor_ranges d (tensor_named d x.0)) a accs)
    ∙ length-append (tensor_ranges d (tensor_named d a.0)) (access_ranges d accs) in
    omega (arith, rest, one, parts)
  where
    few : (o : Option ℕ) → length (tensor_ranges d o) ≤ 1
    few None = omega arith
    few (Some t) = omega arith

-- ---- the two sides of an expression

-- there is room for the first side
pub room_first : (old limit : ℕ) (whole a b x : Expr) → accesses whole ≡ accesses a ++ accesses b → x ≡ a → old + length (accesses whole) ≤ limit
    → old + length (accesses x) ≤ limit
room_first old limit whole a b x split first room =
    let all = ap (λ (accs : List (List ℕ × List ℕ)). length accs) split ∙ length-append (accesses a) (accesses b) in
    let here = ap (λ (e : Expr). length (accesses e)) first in
    omega (arith, all, here, room)

-- and then for the second
pub room_second : (d : Decls) (old mid : List LatchRange) (limit : ℕ) (whole a b x y : Expr) → accesses whole ≡ accesses a ++ accesses b → x ≡ a → y ≡ b
    → mid ≡ old ++ access_ranges d (accesses x) → length old + length (accesses whole) ≤ limit → length mid + length (accesses y) ≤ limit
room_second d old mid limit whole a b x y split first second added room =
    let all = ap (λ (accs : List (List ℕ × List ℕ)). length accs) split ∙ length-append (accesses a) (accesses b) in
    let one = ap (λ (e : Expr). length (accesses e)) first in
    let two = ap (λ (e : Expr). length (accesses e)) second in
    let more = ap (λ (rs : List LatchRange). length rs) added ∙ length-append old (access_ranges d (accesses x)) in
    let few = length-access_ranges d (accesses x) in
    omega (arith, all, one, two, more, few, room)

-- the ranges of both sides are those of the whole
pub added_sides : (d : Decls) (old mid new : List LatchRange) (whole a b x y : Expr) → accesses whole ≡ accesses a ++ accesses b → x ≡ a → y ≡ b
    → mid ≡ old ++ access_ranges d (accesses x) → new ≡ mid ++ access_ranges d (accesses y) → new ≡ old ++ access_ranges d (accesses whole)
added_sides d old mid new whole a b x y split first second one two =
    access_ranges-sides d old mid new (accesses whole) (accesses x) (accesses y)
    (split ∙ ap (λ (e : Expr). accesses e ++ accesses b) (sym first) ∙ ap (λ (e : Expr). accesses x ++ accesses e) (sym second)) one two

-- ---- the search

-- tests that are equal from there on
pub IsLeastFrom-as : (f g : ℕ → Bool) (from : ℕ) (found : Option ℕ) → ((k : ℕ) → from ≤ k → f k ≡ g k) → IsLeastFrom f from found → IsLeastFrom g from found
IsLeastFrom-as f g from None same so = record { some_latch = tt; least = λ k b h. so.least k b (same k b ∙ h) }
IsLeastFrom-as f g from (Some l) same so = record {
  some_latch = (so.some_latch.0, sym (same l so.some_latch.0) ∙ so.some_latch.1);
  least = λ k b h. so.least k b (same k b ∙ h);
}

-- no range is left
pub IsLeastFrom-none : (ranges : List LatchRange) (i from : ℕ) → length ranges ≤ i → IsLeastFrom (covers (drop i ranges)) from None
IsLeastFrom-none ranges i from all = record {
  some_latch = tt;
  least = λ k b h. absurd (nothing (sym (ap (λ (rs : List LatchRange). covers rs k) (drop_all i ranges all)) ∙ h));
}
  where
    nothing : false ≡ true → ⊥
    nothing e = cc

below_of : (a b : ℕ) → nat_le a b ≡ true → a ≤ b
below_of a b e = grind (arith, nat_tests)

above_of : (a b : ℕ) → nat_lt a b ≡ true → a < b
above_of a b e = grind (arith, nat_tests)

-- where no range begins below a number, none covers a latch below it
covers_above : (f k : ℕ) (xs : List LatchRange) → ((j : ℕ) (d : LatchRange) → j < length xs → f ≤ (get_or xs j d).first) → covers xs k ≡ true → f ≤ k
covers_above f k [] low h = cc
covers_above f k (x ∷ xs) low h = ⊎_elim
    (λ (e : is_in x k ≡ true).
    let a = below_of x.first k (both_true (nat_le x.first k) (nat_lt k x.end) e).0 in
    let b = low 0 x (omega arith) in
    omega (arith, a, b))
    (λ (e : covers xs k ≡ true). covers_above f k xs (λ j d l. low (suc j) d (omega arith)) e)
    (or_cases (is_in x k) (covers xs k) h)

in_both : (a l b : ℕ) → a ≤ l → l < b → (nat_le a l && nat_lt l b) ≡ true
in_both a l b low high = go (nat_le a l) (nat_lt l b) refl refl
  where
    go : (p q : Bool) → nat_le a l ≡ p → nat_lt l b ≡ q → (p && q) ≡ true
    go true true e f = refl
    go true false e f = grind (arith, nat_tests)
    go false q e f = grind (arith, nat_tests)

module _ (ranges : List LatchRange) (i from : ℕ) (r : LatchRange) (within : i < length ranges) (is : r ≡ get_or ranges i r) where
  first_left : drop i ranges ≡ r ∷ drop (i + 1) ranges
  first_left = at_drop_more (λ (rs : List LatchRange). rs) ranges i r within ∙ ap (λ x. x ∷ drop (i + 1) ranges) (sym is)

  begins : AreAscending ranges → (j : ℕ) (d : LatchRange) → j < length (drop i ranges) → r.first ≤ (get_or (drop i ranges) j d).first
  begins up j d below =
      let many = length-drop i ranges in
      let one = up i (i + j) d (omega arith) (omega (arith, many, below)) in
      let here = ap (λ (x : LatchRange). x.first) (get_or_default ranges i d r within ∙ sym is) in
      let there = ap (λ (x : LatchRange). x.first) (get_or-drop i ranges j d) in
      omega (arith, one, here, there)

  -- the least latch of the first range that has one is the least of all
  pub IsLeastFrom-range : (l : ℕ) → AreAscending ranges → IsLeastFrom (is_in r) from (Some l) → IsLeastFrom (covers (drop i ranges)) from (Some l)
  IsLeastFrom-range l up own = record {
    some_latch = (
      own.some_latch.0,
      ap (λ (rs : List LatchRange). covers rs l) first_left ∙ or_left (is_in r l) (covers (drop (i + 1) ranges) l) own.some_latch.1,
    );
    least = λ k b h.
        let high = above_of l r.end (both_true (nat_le r.first l) (nat_lt l r.end) own.some_latch.1).1 in
        let low = covers_above r.first k (drop i ranges) (begins up) h in
        ⊎_elim
        (λ (e : k < r.end). own.least k b (in_both r.first k r.end low e))
        (λ (e : r.end ≤ k). omega (arith, high, e))
        (cases_lt k r.end);
  }

  -- a range without one covers none from there on
  pub covers-past : IsLeastFrom (is_in r) from None → (k : ℕ) → from ≤ k → covers (drop (i + 1) ranges) k ≡ covers (drop i ranges) k
  covers-past none k b = sym (ap (λ (rs : List LatchRange). covers rs k) first_left
      ∙ ap (λ t. t || covers (drop (i + 1) ranges) k) (past (is_in r k) refl))
    where
      past : (t : Bool) → is_in r k ≡ t → t ≡ false
      past true e = absurd (none.least k b e)
      past false e = refl
