-- Numbers by first appearance, and the room of the limits, as the code counts them.
use Rattle.std.proofs.Common.{◌≡◌, ℕ, zero, suc, ◌+◌, ◌-◌, ◌≤◌, ◌++◌, Bool, true, false, cond, eqb, ltb, List, [], ◌∷◌, length, Option, Some, None, refl, ap, sym, ◌∙◌, arith}
use Rattle.std.specs.Prelude.{◌||◌, ◌&&◌, nat_le, nat_eq, unwrap_or, option_and_then}
use Rattle.std.specs.List.{flat_map, range_with_len}
use Rattle.std.specs.Cmp.Lexicographic.{pointwise}
use Rattle.std.proofs.lemmas.Bool.Decides.{nat_tests}
use Rattle.std.proofs.lemmas.Grind.{flat_map-append}
use Rattle.dt_model.specs.declared.statements.Expr.{Expr}
use Rattle.dt_model.specs.declared.statements.Stmt.{Stmt}
use Rattle.dt_model.specs.Statements.{accesses, literals, contains_number, distinct_after}
use Rattle.dt_model.specs.Verdicts.{is_by_appearance, names_differ, places_of}
use Rattle.index_check.specs.declared.limits.Room.{Room}
use Rattle.index_check.specs.Small.{numbered_up_to, room_less, room_after}

-- ---- numbers by first appearance

-- the numbers of two lists, one after the other
pub numbered_up_to-append : (n : ℕ) (xs ys : List ℕ) → numbered_up_to n (xs ++ ys) ≡ option_and_then (λ m. numbered_up_to m ys) (numbered_up_to n xs)
numbered_up_to-append n [] ys = refl
numbered_up_to-append n (x ∷ xs) ys = cases_of (ltb x n) (eqb x n) (numbered_up_to-append n xs ys) (numbered_up_to-append (n + 1) xs ys)
  where
    cases_of : (b q : Bool) → numbered_up_to n (xs ++ ys) ≡ option_and_then (λ m. numbered_up_to m ys) (numbered_up_to n xs)
        → numbered_up_to (n + 1) (xs ++ ys) ≡ option_and_then (λ m. numbered_up_to m ys) (numbered_up_to (n + 1) xs)
        → cond b (numbered_up_to n (xs ++ ys)) (cond q (numbered_up_to (n + 1) (xs ++ ys)) None)
        ≡ option_and_then (λ m. numbered_up_to m ys) (cond b (numbered_up_to n xs) (cond q (numbered_up_to (n + 1) xs) None))
    cases_of true q i j = i
    cases_of false true i j = j
    cases_of false false i j = refl

-- whether the count is this one
abbrev pub is_count : ℕ → Option ℕ → Bool
is_count n None = false
is_count n (Some m) = eqb m n

-- at least as many as there were
numbered_up_to-least : (n m : ℕ) (vs : List ℕ) → numbered_up_to n vs ≡ Some m → n ≤ m
numbered_up_to-least n m [] h = let e : n ≡ m = ap (λ o. unwrap_or {T = ℕ} o 0) h in omega arith
numbered_up_to-least n m (v ∷ vs) h = cases_of (ltb v n) (eqb v n) h (λ k. numbered_up_to-least n m vs k) (λ k. numbered_up_to-least (n + 1) m vs k)
  where
    cases_of : (b q : Bool) → cond b (numbered_up_to n vs) (cond q (numbered_up_to (n + 1) vs) None) ≡ Some m → (numbered_up_to n vs ≡ Some m → n ≤ m)
        → (numbered_up_to (n + 1) vs ≡ Some m → n + 1 ≤ m) → n ≤ m
    cases_of true q h i j = i h
    cases_of false true h i j = omega (arith, j h)
    cases_of false false h i j = absurd (cc)

too_many : (k : ℕ) (vs : List ℕ) → is_count (k + 0) (numbered_up_to (k + 1) vs) ≡ false
too_many k vs = cases_of (numbered_up_to (k + 1) vs) refl
  where
    other : (m : ℕ) → k + 1 ≤ m → eqb m (k + 0) ≡ false
    other m l = grind (arith, nat_tests)

    cases_of : (o : Option ℕ) → numbered_up_to (k + 1) vs ≡ o → is_count (k + 0) o ≡ false
    cases_of None e = refl
    cases_of (Some m) e = other m (numbered_up_to-least (k + 1) m vs e)

-- the variables that are seen are the first k; then the different ones that follow are the next m exactly where the count ends at k + m
counted : (seen : List ℕ) (k m : ℕ) (vs : List ℕ) → ((v : ℕ) → contains_number seen v ≡ ltb v k)
    → pointwise nat_eq (distinct_after seen vs) (range_with_len k m) ≡ is_count (k + m) (numbered_up_to k vs)
counted seen k m [] h = ends m
  where
    own : eqb k (k + 0) ≡ true
    own = grind (arith, nat_tests)

    other : (m : ℕ) → eqb k (k + suc m) ≡ false
    other m = grind (arith, nat_tests)

    ends : (m : ℕ) → pointwise nat_eq [] (range_with_len k m) ≡ eqb k (k + m)
    ends zero = sym own
    ends (suc m) = sym (other m)
counted seen k m (v ∷ vs) h =
    ap (λ b. pointwise nat_eq (cond b (distinct_after seen vs) (v ∷ distinct_after (v ∷ seen) vs)) (range_with_len k m)) (h v)
    ∙ cases_of (ltb v k) (eqb v k) refl m (λ n. counted seen k n vs h) (λ n g. counted (v ∷ seen) (k + 1) n vs g)
  where
    joined : (w : ℕ) → eqb v k ≡ true → (eqb v w || ltb w k) ≡ ltb w (k + 1)
    joined w e = grind (arith, nat_tests)

    more : eqb v k ≡ true → (w : ℕ) → contains_number (v ∷ seen) w ≡ ltb w (k + 1)
    more e w = ap (λ b. eqb v w || b) (h w) ∙ joined w e

    one_more : (n : ℕ) → k + 1 + n ≡ k + suc n
    one_more n = omega arith

    cases_of : (b q : Bool) → eqb v k ≡ q → (m : ℕ)
        → ((n : ℕ) → pointwise nat_eq (distinct_after seen vs) (range_with_len k n) ≡ is_count (k + n) (numbered_up_to k vs))
        → ((n : ℕ) → ((w : ℕ) → contains_number (v ∷ seen) w ≡ ltb w (k + 1))
        → pointwise nat_eq (distinct_after (v ∷ seen) vs) (range_with_len (k + 1) n) ≡ is_count (k + 1 + n) (numbered_up_to (k + 1) vs))
        → pointwise nat_eq (cond b (distinct_after seen vs) (v ∷ distinct_after (v ∷ seen) vs)) (range_with_len k m)
        ≡ is_count (k + m) (cond b (numbered_up_to k vs) (cond q (numbered_up_to (k + 1) vs) None))
    cases_of true q e m i j = i m
    cases_of false true e zero i j = sym (too_many k vs)
    cases_of false true e (suc n) i j = ap (λ b. b && pointwise nat_eq (distinct_after (v ∷ seen) vs) (range_with_len (k + 1) n)) e
        ∙ j n (more e) ∙ ap (λ l. is_count l (numbered_up_to (k + 1) vs)) (one_more n)
    cases_of false false e zero i j = refl
    cases_of false false e (suc n) i j = ap (λ b. b && pointwise nat_eq (distinct_after (v ∷ seen) vs) (range_with_len (k + 1) n)) e

-- the different variables of a list are the first n exactly where its numbers end there
pub distinct_after-numbered : (n : ℕ) (vs : List ℕ) → pointwise nat_eq (distinct_after [] vs) (range_with_len 0 n) ≡ is_count n (numbered_up_to 0 vs)
distinct_after-numbered n vs = counted [] 0 n vs none ∙ ap (λ m. is_count m (numbered_up_to 0 vs)) from_none
  where
    none : (v : ℕ) → false ≡ ltb v 0
    none v = grind (arith, nat_tests)

    from_none : 0 + n ≡ n
    from_none = omega arith

-- a statement whose numbers have a gap is not listed by appearance
pub by_appearance-none : (s : Stmt) (found : Option ℕ) → names_differ s.vars.items ≡ true → found ≡ numbered_up_to 0 (places_of s) → found ≡ None
    → false ≡ is_by_appearance s
by_appearance-none s found differ h none =
    ap (is_count (length s.vars.items)) (sym none ∙ h) ∙ sym (distinct_after-numbered (length s.vars.items) (places_of s))
    ∙ ap (λ b. b && pointwise nat_eq (distinct_after [] (places_of s)) (range_with_len 0 (length s.vars.items))) (sym differ)

-- another is where there are as many numbers as names
pub by_appearance-some : (s : Stmt) (found : Option ℕ) (m n : ℕ) → names_differ s.vars.items ≡ true → found ≡ numbered_up_to 0 (places_of s)
    → found ≡ Some m → n ≡ length s.vars.items → eqb m n ≡ is_by_appearance s
by_appearance-some s found m n differ h some len =
    ap (eqb m) len ∙ ap (is_count (length s.vars.items)) (sym some ∙ h) ∙ sym (distinct_after-numbered (length s.vars.items) (places_of s))
    ∙ ap (λ b. b && pointwise nat_eq (distinct_after [] (places_of s)) (range_with_len 0 (length s.vars.items))) (sym differ)

-- ---- room

over : (a m p : ℕ) → nat_le m a ≡ false → nat_le (m + p) a ≡ false
over a m p h = grind (arith, nat_tests)

within : (a m p : ℕ) → nat_le m a ≡ true → nat_le p (a - m) ≡ nat_le (m + p) a
within a m p h = grind (arith, nat_tests)

twice : (a m p : ℕ) → a - m - p ≡ a - (m + p)
twice a m p = omega arith

-- what is needed twice is needed together
pub room_less-twice : (r : Room) (m n p q : ℕ) → option_and_then (λ s. room_less s p q) (room_less r m n) ≡ room_less r (m + p) (n + q)
room_less-twice r m n p q = cases_of (nat_le m r.accesses) refl (nat_le n r.literals) refl
  where
    left : Room
    left = record { accesses = r.accesses - (m + p); literals = r.literals - (n + q) }

    cases_of : (b : Bool) → nat_le m r.accesses ≡ b → (c : Bool) → nat_le n r.literals ≡ c
        → option_and_then (λ s. room_less s p q) (cond (b && c) (Some (record { accesses = r.accesses - m; literals = r.literals - n })) None)
        ≡ cond (nat_le (m + p) r.accesses && nat_le (n + q) r.literals) (Some left) None
    cases_of false e c f = ap (λ t. cond (t && nat_le (n + q) r.literals) (Some left) None) (sym (over r.accesses m p e))
    cases_of true e false f = none (nat_le (m + p) r.accesses) ∙ ap (λ t. cond (nat_le (m + p) r.accesses && t) (Some left) None) (sym (over r.literals n q f))
      where
        none : (t : Bool) → None ≡ cond (t && false) (Some left) None
        none true = refl
        none false = refl
    cases_of true e true f =
        ap (λ t. cond (t && nat_le q (r.literals - n)) (Some (record { accesses = r.accesses - m - p; literals = r.literals - n - q })) None)
        (within r.accesses m p e)
        ∙ ap (λ t. cond (nat_le (m + p) r.accesses && t) (Some (record { accesses = r.accesses - m - p; literals = r.literals - n - q })) None)
        (within r.literals n q f)
        ∙ ap (λ t. cond (nat_le (m + p) r.accesses && nat_le (n + q) r.literals) (Some (record { accesses = t; literals = r.literals - n - q })) None)
        (twice r.accesses m p)
        ∙ ap (λ t. cond (nat_le (m + p) r.accesses && nat_le (n + q) r.literals) (Some (record { accesses = r.accesses - (m + p); literals = t })) None)
        (twice r.literals n q)

-- ---- one side, then the other

-- what the first side refuses is refused
pub then_none : {S : Type 0} (f g : S → Option S) (s : S) (whole found : Option S) → whole ≡ option_and_then g (f s) → found ≡ f s → found ≡ None
    → None ≡ whole
then_none f g s whole found law h none = ap (option_and_then g) (sym none ∙ h) ∙ sym law

-- the second side goes on from what the first answered
pub then_some : {S : Type 0} (f g : S → Option S) (s : S) (whole found r : Option S) (x : S) → whole ≡ option_and_then g (f s) → found ≡ f s
    → found ≡ Some x → r ≡ g x → r ≡ whole
then_some f g s whole found r x law h some later = later ∙ ap (option_and_then g) (sym some ∙ h) ∙ sym law

-- the variables of the accesses of both sides are numbered in turn
pub numbered-both : (n : ℕ) (xs ys zs : List (List ℕ × List ℕ)) → zs ≡ xs ++ ys
    → numbered_up_to n (flat_map (λ (a : List ℕ × List ℕ). a.1) zs)
    ≡ option_and_then (λ m. numbered_up_to m (flat_map (λ (a : List ℕ × List ℕ). a.1) ys)) (numbered_up_to n (flat_map (λ (a : List ℕ × List ℕ). a.1) xs))
numbered-both n xs ys zs both =
    ap (λ (l : List (List ℕ × List ℕ)). numbered_up_to n (flat_map (λ (a : List ℕ × List ℕ). a.1) l)) both
    ∙ ap (numbered_up_to n) (flat_map-append (λ (a : List ℕ × List ℕ). a.1) xs ys)
    ∙ numbered_up_to-append n (flat_map (λ (a : List ℕ × List ℕ). a.1) xs) (flat_map (λ (a : List ℕ × List ℕ). a.1) ys)

-- what two sides leave, where the whole has as many accesses and literals as both
pub room_after-both : (r : Room) (a b e : Expr) → length (accesses e) ≡ length (accesses a) + length (accesses b)
    → length (literals e) ≡ length (literals a) + length (literals b) → room_after r e ≡ option_and_then (λ s. room_after s b) (room_after r a)
room_after-both r a b e m n = ap (λ k. room_less r k (length (literals e))) m ∙ ap (room_less r (length (accesses a) + length (accesses b))) n
    ∙ sym (room_less-twice r (length (accesses a)) (length (literals a)) (length (accesses b)) (length (literals b)))
