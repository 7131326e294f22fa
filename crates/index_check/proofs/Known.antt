-- A small statement's variables are among its names.
use Rattle.std.proofs.Common.{◌≡◌, ℕ, zero, suc, ◌+◌, ◌<◌, ◌≤◌, ◌++◌, Bool, true, false, not, cond, eqb, ltb, List, [], ◌∷◌, length, length-append, get_or, All, refl, ap, sym, ◌∙◌, arith, subst}
use native.Mathlib.Nat.{zero-add}
use Rattle.std.specs.Prelude.{◌||◌, ◌&&◌, nat_lt, nat_le, nat_eq}
use Rattle.std.specs.List.{flat_map, list_all, range_with_len}
use Rattle.std.specs.Cmp.Lexicographic.{pointwise, same_text}
use Rattle.std.proofs.lemmas.Bool.Decides.{nat_tests}
use Rattle.std.proofs.Math.ListN.{get_or-append}
use Rattle.std.proofs.lemmas.List.{get_or-append-add}
use Rattle.std.proofs.lemmas.List.Folds.{list_all-append}
use Rattle.dt_model.specs.declared.statements.Expr.{Expr, end_of-Expr, more_of-Expr}
use Rattle.dt_model.specs.declared.statements.Expr.TheVariants.{Literal, Access, Plus', Minus', Times', Negate'}
use Rattle.dt_model.specs.declared.statements.Stmt.{Stmt}
use Rattle.dt_model.specs.declared.declared_tensors.Decls.{Decls}
use Rattle.dt_model.specs.Statements.{accesses, literals, terms_under, contains_number, distinct_after}
use Rattle.dt_model.specs.Refusals.{places_with_dims}
use Rattle.dt_model.specs.Verdicts.{is_small, is_by_appearance, names_differ, places_of}
use Rattle.dt_model.proofs.Booleans.{both_true, list_all-at}
use Rattle.index_check.specs.Parts.{AllVarsBelow, all_places}

-- whether a variable is among the first n
abbrev pub below : ℕ → ℕ → Bool
below n v = nat_lt v n

one : (a b : ℕ) → eqb a b ≡ true → a ≡ b
one a b h = grind (arith, nat_tests)

less : (a b : ℕ) → ltb a b ≡ true → a < b
less a b h = grind (arith, nat_tests)

low : (a b : ℕ) → a < b → ltb a b ≡ true
low a b h = grind (arith, nat_tests)

own : (a : ℕ) → eqb a a ≡ true
own a = grind (arith, nat_tests)

-- a range has only numbers below its end
in_range : (k a n v : ℕ) → n ≡ a + k → contains_number (range_with_len a k) v ≡ true → v < n
in_range zero a n v e h = absurd (cc)
in_range (suc k) a n v e h = by_head (eqb a v) refl h (λ g. in_range k (a + 1) n v (omega (arith, e)) g)
  where
    by_head : (b : Bool) → eqb a v ≡ b → (b || contains_number (range_with_len (a + 1) k) v) ≡ true
        → (contains_number (range_with_len (a + 1) k) v ≡ true → v < n) → v < n
    by_head true f h later = let s = one a v f in omega (arith, s, e)
    by_head false f h later = later h

-- what is in a list is among its different ones, or was seen
kept : (seen xs : List ℕ) (v : ℕ) → contains_number xs v ≡ true → contains_number seen v ≡ false → contains_number (distinct_after seen xs) v ≡ true
kept seen [] v h s = absurd (cc)
kept seen (x ∷ xs) v h s = cases_of (eqb x v) refl (contains_number seen x) refl h (λ k. kept seen xs v k s) (λ k s2. kept (x ∷ seen) xs v k s2)
  where
    cases_of : (b : Bool) → eqb x v ≡ b → (q : Bool) → contains_number seen x ≡ q → (b || contains_number xs v) ≡ true
        → (contains_number xs v ≡ true → contains_number (distinct_after seen xs) v ≡ true)
        → (contains_number xs v ≡ true → contains_number (x ∷ seen) v ≡ false → contains_number (distinct_after (x ∷ seen) xs) v ≡ true)
        → contains_number (cond q (distinct_after seen xs) (x ∷ distinct_after (x ∷ seen) xs)) v ≡ true
    cases_of true e true f h i j = absurd (let p : contains_number seen v ≡ true = sym (ap (contains_number seen) (one x v e)) ∙ f in cc)
    cases_of true e false f h i j = ap (λ b. b || contains_number (distinct_after (x ∷ seen) xs) v) e
    cases_of false e true f h i j = i h
    cases_of false e false f h i j = ap (λ b. b || contains_number (distinct_after (x ∷ seen) xs) v) e ∙ j h (ap (λ b. b || contains_number seen v) e ∙ s)

all_kept : (p : ℕ → Bool) (xs : List ℕ) → ((v : ℕ) → contains_number xs v ≡ true → p v ≡ true) → list_all p xs ≡ true
all_kept p [] h = refl
all_kept p (x ∷ xs) h = ap (λ b. b && list_all p xs) (h x (ap (λ b. b || contains_number xs x) (own x)))
    ∙ all_kept p xs (λ v k. h v (later (eqb x v) (contains_number xs v) k))
  where
    later : (a b : Bool) → b ≡ true → (a || b) ≡ true
    later true b k = refl
    later false b k = k

-- a statement's variables are among its names
pub places_below : (s : Stmt) → is_by_appearance s ≡ true → list_all (below (length s.vars.items)) (places_of s) ≡ true
places_below s h =
    let same = same_text (distinct_after [] (places_of s)) (range_with_len 0 (length s.vars.items))
    (sym ((both_true (names_differ s.vars.items) (pointwise nat_eq (distinct_after [] (places_of s)) (range_with_len 0 (length s.vars.items))) h).1)) in
    all_kept (below (length s.vars.items)) (places_of s)
    (λ v k. low v (length s.vars.items) (in_range (length s.vars.items) 0 (length s.vars.items) v (sym (zero-add (length s.vars.items)))
    (ap (λ t. contains_number t v) (sym same) ∙ kept [] (places_of s) v k refl)))

-- ---- parts

-- a test that all pass holds of each
pub all_below_n : (n : ℕ) (vs : List ℕ) → list_all (below n) vs ≡ true → All (λ v. v < n) vs
all_below_n n vs h = λ k d l. less (get_or vs k d) n (list_all-at (below n) vs k d l h)

each_below : (n : ℕ) (accs : List (List ℕ × List ℕ)) → list_all (below n) (flat_map (λ (a : List ℕ × List ℕ). a.1) accs) ≡ true
    → list_all (λ (a : List ℕ × List ℕ). list_all (below n) a.1) accs ≡ true
each_below n [] h = refl
each_below n (a ∷ accs) h =
    let both = both_true (list_all (below n) a.1) (list_all (below n) (flat_map (λ (q : List ℕ
    × List ℕ). q.1) accs)) (sym (list_all-append (below n) a.1 (flat_map (λ (q : List ℕ × List ℕ). q.1) accs)) ∙ h) in
    ap (λ b. b && list_all (λ (q : List ℕ × List ℕ). list_all (below n) q.1) accs) both.0 ∙ each_below n accs both.1

-- where each variable of each access passes, each is among the first n
pub vars_below : (n : ℕ) (accs : List (List ℕ × List ℕ)) → list_all (λ (a : List ℕ × List ℕ). list_all (below n) a.1) accs ≡ true → AllVarsBelow n accs
vars_below n accs h = λ k d l. all_below_n n (get_or accs k d).1 (list_all-at (λ (a : List ℕ × List ℕ). list_all (below n) a.1) accs k d l h)

-- the variables of the left side are among the names
pub left_below : (s : Stmt) → is_by_appearance s ≡ true → All (λ v. v < length s.vars.items) s.left
left_below s h =
    let n = length s.vars.items in
    all_below_n n s.left ((both_true (list_all (below n) s.left) (list_all (below n) (flat_map (λ (a : List ℕ
    × List ℕ). a.1) (accesses s.right))) (sym (list_all-append (below n) s.left (flat_map (λ (a : List ℕ × List ℕ). a.1) (accesses s.right)))
    ∙ places_below s h)).0)

-- the variables of the right side are among the names
pub right_below : (s : Stmt) → is_by_appearance s ≡ true
    → list_all (λ (a : List ℕ × List ℕ). list_all (below (length s.vars.items)) a.1) (accesses s.right) ≡ true
right_below s h =
    let n = length s.vars.items in
    each_below n (accesses s.right) ((both_true (list_all (below n) s.left) (list_all (below n) (flat_map (λ (a : List ℕ
    × List ℕ). a.1) (accesses s.right))) (sym (list_all-append (below n) s.left (flat_map (λ (a : List ℕ × List ℕ). a.1) (accesses s.right)))
    ∙ places_below s h)).1)

-- ---- terms

terms_pass : (p : List ℕ × List ℕ → Bool) (added : Bool) (e : Expr) → list_all p (accesses e) ≡ true
    → list_all (λ (t : Bool × Expr). list_all p (accesses t.1)) (terms_under added e) ≡ true
terms_pass p added (Literal v) h = refl
terms_pass p added (Access tensor vars) h = ap (λ b. b && true) h
terms_pass p added (Times' s (more_of-Expr a end_of-Expr) t (more_of-Expr b end_of-Expr)) h = ap (λ b. b && true) h
terms_pass p added (Negate' s (more_of-Expr a end_of-Expr)) h = terms_pass p (not added) a h
terms_pass p added (Plus' s (more_of-Expr a end_of-Expr) t (more_of-Expr b end_of-Expr)) h =
    let both = both_true (list_all p (accesses a)) (list_all p (accesses b)) (sym (list_all-append p (accesses a) (accesses b)) ∙ h) in
    list_all-append (λ (t : Bool × Expr). list_all p (accesses t.1)) (terms_under added a) (terms_under added b)
    ∙ ap (λ q. q && list_all (λ (t : Bool × Expr). list_all p (accesses t.1)) (terms_under added b)) (terms_pass p added a both.0) ∙ terms_pass p added b both.1
terms_pass p added (Minus' s (more_of-Expr a end_of-Expr) t (more_of-Expr b end_of-Expr)) h =
    let both = both_true (list_all p (accesses a)) (list_all p (accesses b)) (sym (list_all-append p (accesses a) (accesses b)) ∙ h) in
    list_all-append (λ (t : Bool × Expr). list_all p (accesses t.1)) (terms_under added a) (terms_under (not added) b)
    ∙ ap (λ q. q && list_all (λ (t : Bool × Expr). list_all p (accesses t.1)) (terms_under (not added) b)) (terms_pass p added a both.0)
    ∙ terms_pass p (not added) b both.1

-- the variables of each term are among the first n where those of the expression are
pub terms_below : (n : ℕ) (added : Bool) (e : Expr) → list_all (λ (a : List ℕ × List ℕ). list_all (below n) a.1) (accesses e) ≡ true
    → All (λ (t : Bool × Expr). AllVarsBelow n (accesses t.1)) (terms_under added e)
terms_below n added e h = λ k d l. vars_below n (accesses (get_or (terms_under added e) k d).1)
    (list_all-at (λ (t : Bool × Expr). list_all (λ (a : List ℕ
    × List ℕ). list_all (below n) a.1) (accesses t.1)) (terms_under added e) k d l (terms_pass (λ (a : List ℕ
    × List ℕ). list_all (below n) a.1) added e h))

some_leaf : (e : Expr) → 1 ≤ length (accesses e) + length (literals e)
some_leaf (Literal n) = omega arith
some_leaf (Access tensor vars) = omega arith
some_leaf (Plus' s (more_of-Expr a end_of-Expr) t (more_of-Expr b end_of-Expr)) = omega (
  arith,
  length-append (accesses a) (accesses b),
  length-append (literals a) (literals b),
  some_leaf a,
)
some_leaf (Minus' s (more_of-Expr a end_of-Expr) t (more_of-Expr b end_of-Expr)) = omega (
  arith,
  length-append (accesses a) (accesses b),
  length-append (literals a) (literals b),
  some_leaf a,
)
some_leaf (Times' s (more_of-Expr a end_of-Expr) t (more_of-Expr b end_of-Expr)) = omega (
  arith,
  length-append (accesses a) (accesses b),
  length-append (literals a) (literals b),
  some_leaf a,
)
some_leaf (Negate' s (more_of-Expr a end_of-Expr)) = some_leaf a

terms_few : (added : Bool) (e : Expr) → length (terms_under added e) ≤ length (accesses e) + length (literals e)
terms_few added (Literal n) = omega arith
terms_few added (Access tensor vars) = omega arith
terms_few added (Plus' s (more_of-Expr a end_of-Expr) t (more_of-Expr b end_of-Expr)) = omega (
  arith,
  length-append (accesses a) (accesses b),
  length-append (literals a) (literals b),
  length-append (terms_under added a) (terms_under added b),
  terms_few added a,
  terms_few added b,
)
terms_few added (Minus' s (more_of-Expr a end_of-Expr) t (more_of-Expr b end_of-Expr)) = omega (
  arith,
  length-append (accesses a) (accesses b),
  length-append (literals a) (literals b),
  length-append (terms_under added a) (terms_under (not added) b),
  terms_few added a,
  terms_few (not added) b,
)
terms_few added (Times' s (more_of-Expr a end_of-Expr) t (more_of-Expr b end_of-Expr)) = omega (
  arith,
  length-append (accesses a) (accesses b),
  length-append (literals a) (literals b),
  some_leaf a,
)
terms_few added (Negate' s (more_of-Expr a end_of-Expr)) = terms_few (not added) a

under : (a b : ℕ) → nat_le a b ≡ true → a ≤ b
under a b h = grind (arith, nat_tests)

-- what the limits on a statement mean: accesses, names, order of appearance and terms
pub record IsSmall (s : Stmt) : Type 0 where
  pub accesses : length (accesses s.right) ≤ 12
  pub names : length s.vars.items ≤ 8
  pub order : is_by_appearance s ≡ true
  pub terms : length (terms_under true s.right) ≤ 24

-- a statement within the limits has these
pub small_parts : (s : Stmt) → is_small s ≡ true → IsSmall s
small_parts s h =
    let three = nat_le (length (accesses s.right)) 12 && nat_le (length (literals s.right)) 12 && nat_le (length s.vars.items) 8 in
    let two = nat_le (length (accesses s.right)) 12 && nat_le (length (literals s.right)) 12 in
    let p = both_true three (is_by_appearance s) h in
    let q = both_true two (nat_le (length s.vars.items) 8) p.0 in
    let r = both_true (nat_le (length (accesses s.right)) 12) (nat_le (length (literals s.right)) 12) q.0 in
    let a = under (length (accesses s.right)) 12 r.0 in
    let l = under (length (literals s.right)) 12 r.1 in
    record { accesses = a; names = under (length s.vars.items) 8 q.1; order = p.1; terms = omega (arith, a, l, terms_few true s.right) }

-- ---- places

places_pass : (n : ℕ) (d : Decls) (name : List ℕ) (k : ℕ) (vs : List ℕ) → list_all (below n) vs ≡ true
    → list_all (λ (p : ℕ × ℕ). below n p.0) (places_with_dims d name k vs) ≡ true
places_pass n d name k [] h = refl
places_pass n d name k (v ∷ vs) h =
    let both = both_true (below n v) (list_all (below n) vs) h in
    ap (λ b. b && list_all (λ (p : ℕ × ℕ). below n p.0) (places_with_dims d name (k + 1) vs)) both.0 ∙ places_pass n d name (k + 1) vs both.1

all_places_pass : (n : ℕ) (d : Decls) (accs : List (List ℕ × List ℕ)) → list_all (λ (a : List ℕ × List ℕ). list_all (below n) a.1) accs ≡ true
    → list_all (λ (p : ℕ × ℕ). below n p.0) (all_places d accs) ≡ true
all_places_pass n d [] h = refl
all_places_pass n d (a ∷ accs) h =
    let both = both_true (list_all (below n) a.1) (list_all (λ (q : List ℕ × List ℕ). list_all (below n) q.1) accs) h in
    list_all-append (λ (p : ℕ × ℕ). below n p.0) (places_with_dims d a.0 0 a.1) (all_places d accs)
    ∙ ap (λ b. b && list_all (λ (p : ℕ × ℕ). below n p.0) (all_places d accs)) (places_pass n d a.0 0 a.1 both.0) ∙ all_places_pass n d accs both.1

-- the places of accesses have variables among the first n where the accesses do
pub all_places_below : (n : ℕ) (d : Decls) (accs : List (List ℕ × List ℕ)) → list_all (λ (a : List ℕ × List ℕ). list_all (below n) a.1) accs ≡ true
    → All (λ (p : ℕ × ℕ). p.0 < n) (all_places d accs)
all_places_below n d accs h = λ k q l. less (get_or (all_places d accs) k q).0 n (list_all-at (λ (p : ℕ
    × ℕ). below n p.0) (all_places d accs) k q l (all_places_pass n d accs h))

-- an access has as many places as variables
pub length-places_with_dims : (d : Decls) (name : List ℕ) (k : ℕ) (vs : List ℕ) → length (places_with_dims d name k vs) ≡ length vs
length-places_with_dims d name k [] = refl
length-places_with_dims d name k (v ∷ vs) = ap suc (length-places_with_dims d name (k + 1) vs)

-- ---- sides

-- what is below n in the whole is so in the first side
pub known_first : (n : ℕ) (xs ys zs us : List (List ℕ × List ℕ)) → zs ≡ xs ++ ys → us ≡ xs → AllVarsBelow n zs → AllVarsBelow n us
known_first n xs ys zs us both first h =
    let P = λ (a : List ℕ × List ℕ). All (λ v. v < n) a.1 in
    let whole : All P (xs ++ ys) = subst (All P) both h in
    let part : All P xs = λ k d l. subst P (get_or-append xs ys d k l) (whole k d (omega (arith, length-append xs ys, l))) in
    subst (All P) (sym first) part

-- what is below n in the whole is so in the second side
pub known_second : (n : ℕ) (xs ys zs us : List (List ℕ × List ℕ)) → zs ≡ xs ++ ys → us ≡ ys → AllVarsBelow n zs → AllVarsBelow n us
known_second n xs ys zs us both second h =
    let P = λ (a : List ℕ × List ℕ). All (λ v. v < n) a.1 in
    let whole : All P (xs ++ ys) = subst (All P) both h in
    let part : All P ys = λ k d l. subst P (get_or-append-add xs ys k d) (whole (length xs + k) d (omega (arith, length-append xs ys, l))) in
    subst (All P) (sym second) part
