-- Declarations with a tensor more, and names that are declared.
use Rattle.std.proofs.Common.{◌≡◌, ℕ, zero, suc, ◌+◌, ◌<◌, ◌≤◌, Bool, true, false, cond, List, [], ◌∷◌, ◌++◌, length, map, refl, ap, sym, ◌∙◌, arith, subst}
use Rattle.std.specs.Prelude.{◌&&◌, ◌||◌, not, nat_eq, nat_le, nat_lt, ◌==◌, slice_get}
use Rattle.std.specs.List.{list_all, list_any, position_or_len}
use Rattle.std.specs.Cmp.Lexicographic.{pointwise}
use Rattle.std.proofs.lemmas.Bool.Decides.{nat_tests}
use Rattle.std.proofs.lemmas.Grind.{common_steps}
use Rattle.std.proofs.lemmas.List.{map-append}
use Rattle.dt_model.specs.declared.declared_tensors.Decls.{Decls}
use Rattle.dt_model.specs.declared.declared_tensors.Schema.{Schema}
use Rattle.dt_model.specs.declared.declared_tensors.TensorDecl.{TensorDecl}
use Rattle.dt_model.specs.declared.limits.TheConstants.{MOST_SCHEMAS, MOST_KINDS, MOST_TENSORS, MOST_LATCHES}
use Rattle.dt_model.specs.Flat.{flat_schema}
use Rattle.dt_model.specs.Tensors.{dims_in, dims_of, total_latches}
use Rattle.dt_model.specs.Verdicts.{names_differ, tensor_number}
use Rattle.dt_model.specs.Worlds.{decls_are_valid, tensor_is_valid}
use Rattle.dt_model.proofs.Booleans.{both_true, true_both, list_all-weaker, list_all-append}
use Rattle.script_read.specs.Sound.{IsSoundTensor}

-- the declarations of these schemas, beside `flat`, and of these tensors
abbrev pub decls_with : List Schema → List TensorDecl → Decls
decls_with ss ts = record { schemas = flat_schema ∷ ss; tensors = ts }

-- the tensor of an item
abbrev pub tensor_with : List ℕ → List ℕ → ℕ → TensorDecl
tensor_with name dims latches = record { name = name; dims = dims; formats = record { items = map (λ d. 0) dims }; latches = latches }

-- ---- names

-- the order of two names doesn't matter
pub pointwise-sym : (xs ys : List ℕ) → pointwise nat_eq xs ys ≡ pointwise nat_eq ys xs
pointwise-sym [] [] = refl
pointwise-sym [] (y ∷ ys) = refl
pointwise-sym (x ∷ xs) [] = refl
pointwise-sym (x ∷ xs) (y ∷ ys) = same (nat_eq x y) (nat_eq y x) refl refl (pointwise nat_eq xs ys) (pointwise nat_eq ys xs) (pointwise-sym xs ys)
  where
    same : (a b : Bool) → nat_eq x y ≡ a → nat_eq y x ≡ b → (p q : Bool) → p ≡ q → (nat_eq x y && p) ≡ (nat_eq y x && q)
    same true true d e p q h = rw (d, e) h
    same false false d e p q h = rw (d, e) refl
    same true false d e p q h = absurd (grind (arith, nat_tests))
    same false true d e p q h = absurd (grind (arith, nat_tests))

-- a name that no tensor has is no other's
new_below : (n m : List ℕ) (ns : List (List ℕ)) → list_any (pointwise nat_eq n) (m ∷ ns) ≡ false
    → (pointwise nat_eq m n ≡ false) × (list_any (pointwise nat_eq n) ns ≡ false)
new_below n m ns h = apart (pointwise nat_eq n m) (list_any (pointwise nat_eq n) ns) h refl
  where
    apart : (a b : Bool) → (a || b) ≡ false → pointwise nat_eq n m ≡ a → (pointwise nat_eq m n ≡ false) × (b ≡ false)
    apart false false e is = (pointwise-sym m n ∙ is, refl)
    apart true b e is = absurd (let no : ⊥ = cc in no)
    apart false true e is = absurd (let no : ⊥ = cc in no)

-- one name more, which none of the others is
none_more : (m n : List ℕ) (ns : List (List ℕ)) → list_any (pointwise nat_eq m) ns ≡ false → pointwise nat_eq m n ≡ false
    → list_any (pointwise nat_eq m) (ns ++ n ∷ []) ≡ false
none_more m n [] h e = rw e refl
none_more m n (k ∷ ns) h e = step (pointwise nat_eq m k) (list_any (pointwise nat_eq m) ns) h (none_more m n ns)
  where
    step : (a b : Bool) → (a || b) ≡ false → (b ≡ false → pointwise nat_eq m n ≡ false → list_any (pointwise nat_eq m) (ns ++ n ∷ []) ≡ false)
        → (a || list_any (pointwise nat_eq m) (ns ++ n ∷ [])) ≡ false
    step false false x later = later refl e
    step true b x later = absurd (let no : ⊥ = cc in no)
    step false true x later = absurd (let no : ⊥ = cc in no)

not_false : (b : Bool) → not b ≡ true → b ≡ false
not_false true h = absurd (let no : ⊥ = cc in no)
not_false false h = refl

-- names still differ with a new one
pub names_differ-push : (ns : List (List ℕ)) (n : List ℕ) → names_differ ns ≡ true → list_any (pointwise nat_eq n) ns ≡ false
    → names_differ (ns ++ n ∷ []) ≡ true
names_differ-push [] n h e = refl
names_differ-push (m ∷ ns) n h e =
    let apart = new_below n m ns e in
    let both = both_true (not (list_any (pointwise nat_eq m) ns)) (names_differ ns) h in
    let none : list_any (pointwise nat_eq m) (ns ++ n ∷ []) ≡ false = none_more m n ns (not_false _ both.0) apart.0 in
    rw none (names_differ-push ns n both.1 apart.1)

-- the place of a name that a tensor has
place_below : (name : List ℕ) (ts : List TensorDecl) → list_any (pointwise nat_eq name) (map (λ t. t.name) ts) ≡ true
    → position_or_len (λ (t : TensorDecl). pointwise nat_eq t.name name) ts < length ts
place_below name [] h = absurd (let no : ⊥ = cc in no)
place_below name (t ∷ ts) h = step (pointwise nat_eq name t.name) (pointwise nat_eq t.name name) refl refl h (place_below name ts)
  where
    step : (a b : Bool) → pointwise nat_eq name t.name ≡ a → pointwise nat_eq t.name name ≡ b
        → (a || list_any (pointwise nat_eq name) (map (λ t. t.name) ts)) ≡ true
        → (list_any (pointwise nat_eq name) (map (λ t. t.name) ts) ≡ true → position_or_len (λ (t : TensorDecl). pointwise nat_eq t.name name) ts < length ts)
        → cond (not b) (1 + position_or_len (λ (t : TensorDecl). pointwise nat_eq t.name name) ts) 0 < suc (length ts)
    step a true is other h later = omega arith
    step true false is other h later = absurd (let same = pointwise-sym name t.name in let no : ⊥ = cc in no)
    step false false is other h later = let below = later h in omega arith

-- a declared name has a tensor
pub tensor_number-declared : (ss : List Schema) (ts : List TensorDecl) (name : List ℕ) → list_any (pointwise nat_eq name) (map (λ t. t.name) ts) ≡ true
    → tensor_number (decls_with ss ts) name < length ts
tensor_number-declared ss ts name h =
    let below : position_or_len (λ (t : TensorDecl). pointwise nat_eq t.name name) ts < length ts = place_below name ts h in
    let test : nat_lt (position_or_len (λ (t : TensorDecl). pointwise nat_eq t.name name) ts) (length ts) ≡ true = grind (arith, nat_tests) in
    rw test below

-- ---- dimensions

-- earlier tensors stay
pub slice_get-push : {X : Type 0} (xs : List X) (y : X) (t : ℕ) → t < length xs → slice_get (xs ++ y ∷ []) t ≡ slice_get xs t
slice_get-push [] y t l = absurd (omega arith)
slice_get-push (x ∷ xs) y zero l = refl
slice_get-push (x ∷ xs) y (suc t) l = slice_get-push xs y t (omega arith)

-- earlier tensors keep their dimensions
pub dims_of-push : (ss : List Schema) (ts : List TensorDecl) (x : TensorDecl) (t : ℕ) → t < length ts
    → dims_of (decls_with ss (ts ++ x ∷ [])) t ≡ dims_of (decls_with ss ts) t
dims_of-push ss ts x t l = ap dims_in (slice_get-push ts x t l)

-- ---- valid declarations

-- whether the kinds of a schema are few
abbrev pub has_few_kinds : Schema → Bool
has_few_kinds s = nat_le (length s.kinds.items) MOST_KINDS

-- what valid declarations say
pub record AreValid (ss : List Schema) (ts : List TensorDecl) : Type 0 where
  pub known : length ss ≤ MOST_SCHEMAS
  pub small : list_all has_few_kinds ss ≡ true
  pub few : length ts ≤ MOST_TENSORS
  pub differ : names_differ (map (λ t. t.name) ts) ≡ true
  pub each : list_all (tensor_is_valid (decls_with ss ts)) ts ≡ true
  pub latches : total_latches ts ≤ MOST_LATCHES

below : (n m : ℕ) → nat_le n m ≡ true → n ≤ m
below n m h = grind (arith, nat_tests)

-- six tests that all passed
six_true : (a b c d e f : Bool) → (a && b && c && d && e && f) ≡ true → (a ≡ true) × (b ≡ true) × (c ≡ true) × (d ≡ true) × (e ≡ true) × (f ≡ true)
six_true a b c d e f h =
    let s = both_true (a && b && c && d && e) f h in
    let r = both_true (a && b && c && d) e s.0 in
    let q = both_true (a && b && c) d r.0 in
    let p = both_true (a && b) c q.0 in
    let o = both_true a b p.0 in
    (o.0, o.1, p.1, q.1, r.1, s.1)

-- declarations that are valid
pub AreValid-from : (ss : List Schema) (ts : List TensorDecl) → decls_are_valid (decls_with ss ts) ≡ true → AreValid ss ts
AreValid-from ss ts h =
    let p = six_true (nat_le (suc (length ss)) (MOST_SCHEMAS + 1)) (list_all has_few_kinds ss) (nat_le (length ts) MOST_TENSORS)
    (names_differ (map (λ t. t.name) ts)) (list_all (tensor_is_valid (decls_with ss ts)) ts) (nat_le (total_latches ts) MOST_LATCHES) h in
    record {
      known = let k = below (suc (length ss)) (MOST_SCHEMAS + 1) p.0 in omega arith;
      small = p.1;
      few = below (length ts) MOST_TENSORS p.2;
      differ = p.3;
      each = p.4;
      latches = below (total_latches ts) MOST_LATCHES p.5;
    }

-- what makes declarations valid
pub decls_are_valid-from : (ss : List Schema) (ts : List TensorDecl) → AreValid ss ts → decls_are_valid (decls_with ss ts) ≡ true
decls_are_valid-from ss ts h =
    let known : nat_le (suc (length ss)) (MOST_SCHEMAS + 1) ≡ true = let k = h.known in grind (arith, nat_tests) in
    let few : nat_le (length ts) MOST_TENSORS ≡ true = let k = h.few in grind (arith, nat_tests) in
    let latches : nat_le (total_latches ts) MOST_LATCHES ≡ true = let k = h.latches in grind (arith, nat_tests) in
    rw (known, h.small, few, h.differ, h.each, latches) refl

-- a tensor stays valid with a schema more
tensor_is_valid-schema : (ss : List Schema) (s : Schema) (ts : List TensorDecl) (t : TensorDecl) → tensor_is_valid (decls_with ss ts) t ≡ true
    → tensor_is_valid (decls_with (ss ++ s ∷ []) ts) t ≡ true
tensor_is_valid-schema ss s ts t h =
    let high = both_true _ (nat_le t.latches 256) h in
    let low = both_true _ (nat_le 1 t.latches) high.0 in
    let formats = both_true _ (list_all (λ f. nat_lt f (suc (length ss))) t.formats.items) low.0 in
    true_both _ _ (true_both _ _ (true_both _ _ formats.0
    (list_all-weaker (λ f. nat_lt f (suc (length ss))) (λ f. nat_lt f (suc (length (ss ++ s ∷ [])))) t.formats.items larger formats.1)) low.1) high.1
  where
    one_more : length (ss ++ s ∷ []) ≡ length ss + 1
    one_more = grind (arith, common_steps)

    larger : (f : ℕ) → nat_lt f (suc (length ss)) ≡ true → nat_lt f (suc (length (ss ++ s ∷ []))) ≡ true
    larger f h = let e = one_more in grind (arith, nat_tests)

-- declarations with a schema more are valid
pub AreValid-schema : (ss : List Schema) (s : Schema) (ts : List TensorDecl) → AreValid ss ts → length ss < MOST_SCHEMAS → has_few_kinds s ≡ true
    → AreValid (ss ++ s ∷ []) ts
AreValid-schema ss s ts h few small = record {
  known = let e : length (ss ++ s ∷ []) ≡ length ss + 1 = grind (arith, common_steps) in omega arith;
  small = list_all-append has_few_kinds ss (s ∷ []) h.small (rw small refl);
  few = h.few;
  differ = h.differ;
  each = list_all-weaker (tensor_is_valid (decls_with ss ts)) (tensor_is_valid (decls_with (ss ++ s ∷ []) ts)) ts (tensor_is_valid-schema ss s ts) h.each;
  latches = h.latches;
}

-- a 0 for each dimension
abbrev zeros : List ℕ → List ℕ
zeros dims = map (λ d. 0) dims

all_zero : (n : ℕ) (dims : List ℕ) → 0 < n → list_all (λ f. nat_lt f n) (zeros dims) ≡ true
all_zero n [] l = refl
all_zero n (d ∷ dims) l = let test : nat_lt 0 n ≡ true = grind (arith, nat_tests) in rw test (all_zero n dims l)

length-zeros : (dims : List ℕ) → length (zeros dims) ≡ length dims
length-zeros [] = refl
length-zeros (d ∷ dims) = ap suc (length-zeros dims)

-- the tensor of a sound item is valid
pub tensor_is_valid-sound : (ss : List Schema) (ts : List TensorDecl) (name dims : List ℕ) (formats : List (List ℕ)) (latches : ℕ)
    → IsSoundTensor name dims formats latches
    → tensor_is_valid (decls_with ss ts) (tensor_with name dims latches) ≡ true
tensor_is_valid-sound ss ts name dims formats latches h =
    let some : nat_le 1 (length dims) ≡ true = let k = h.low_order in grind (arith, nat_tests) in
    let order : nat_le (length dims) 5 ≡ true = let k = h.high_order in grind (arith, nat_tests) in
    let as_many : (length (zeros dims) == length dims) ≡ true = let k = length-zeros dims in grind (arith, nat_tests) in
    let flat : list_all (λ f. nat_lt f (suc (length ss))) (zeros dims) ≡ true = all_zero (suc (length ss)) dims (omega arith) in
    let low : nat_le 1 latches ≡ true = let k = h.low_latches in grind (arith, nat_tests) in
    let high : nat_le latches 256 ≡ true = let k = h.high_latches in grind (arith, nat_tests) in
    rw (h.is_named, some, order, h.in_range, as_many, flat, low, high) refl

-- declarations with a new tensor are valid
pub AreValid-push : (ss : List Schema) (ts : List TensorDecl) (name dims : List ℕ) (formats : List (List ℕ)) (latches : ℕ) → AreValid ss ts
    → IsSoundTensor name dims formats latches
    → list_any (pointwise nat_eq name) (map (λ t. t.name) ts) ≡ false → length (ts ++ tensor_with name dims latches ∷ []) ≤ MOST_TENSORS
    → total_latches (ts ++ tensor_with name dims latches ∷ []) ≤ MOST_LATCHES → AreValid ss (ts ++ tensor_with name dims latches ∷ [])
AreValid-push ss ts name dims formats latches h sound new few low =
    let x = tensor_with name dims latches in
    record {
      known = h.known;
      small = h.small;
      few = few;
      differ = subst (λ ns. names_differ ns ≡ true) (sym (map-append (λ (t : TensorDecl). t.name) ts (x ∷ [])))
          (names_differ-push (map (λ t. t.name) ts) name h.differ new);
      each = list_all-append (tensor_is_valid (decls_with ss (ts ++ x ∷ []))) ts (x ∷ []) h.each
          (let one = tensor_is_valid-sound ss (ts ++ x ∷ []) name dims formats latches sound in rw one refl);
      latches = low;
    }
