-- The limits by the schemas that tokens write.
use Rattle.std.proofs.Common.{◌≡◌, ℕ, ◌+◌, ◌≤◌, ◌++◌, Bool, true, false, List, [], ◌∷◌, length, refl, ap, sym, ◌∙◌, subst, None, arith, nat_lt}
use Rattle.std.specs.Prelude.{IsSome, nat_le}
use Rattle.std.specs.List.{flat_map, list_all}
use Rattle.std.proofs.lemmas.List.{append_assoc}
use Rattle.std.proofs.lemmas.Bool.Decides.{nat_tests}
use Rattle.dt_model.specs.declared.declared_tensors.Schema.{Schema}
use Rattle.dt_model.proofs.Booleans.{true_both, first_true, last_true}
use Rattle.schema_read.specs.declared.lexer.Token.{Token}
use Rattle.schema_read.specs.declared.lexer.Token.TheVariants as a
use Rattle.schema_read.specs.declared.scan.Counts.{Counts}
use Rattle.schema_read.specs.Scans.{nothing, count_tokens}
use Rattle.schema_read.specs.Grammar.{kind_tokens, schema_tokens, file_tokens}
use Rattle.schema_read.specs.Readings.{are_small}
use Rattle.schema_read.proofs.Tallies.{counts, kinds_fit, kinds_few}

-- ---- schemas

-- the tokens behind a schema's opening brace
abbrev inner : Schema → List Token → List Token
inner s ts = flat_map kind_tokens s.kinds.items ++ a.Root ∷ a.Name s.root ∷ a.Close ∷ ts

schema_split : (s : Schema) (ts : List Token) → schema_tokens s ++ ts ≡ a.Schema ∷ a.Name s.name ∷ a.Open ∷ inner s ts
schema_split s ts =
    ap (λ r. a.Schema ∷ a.Name s.name ∷ a.Open ∷ r) (append_assoc (flat_map kind_tokens s.kinds.items) (a.Root ∷ a.Name s.root ∷ a.Close ∷ []) ts)

-- a schema that is within the limits
schema_fits : (s : Schema) (n m : ℕ) (ts : List Token) → nat_lt n 16 ≡ true → length s.kinds.items ≤ 16
    → count_tokens (counts n m) (schema_tokens s ++ ts) ≡ count_tokens (counts (n + 1) (0 + length s.kinds.items)) ts
schema_fits s n m ts e l =
    let few : 0 + length s.kinds.items ≤ 16 = omega (arith, l) in
    ap (count_tokens (counts n m)) (schema_split s ts) ∙ rw e (kinds_fit s.kinds.items (n + 1) 0 (a.Root ∷ a.Name s.root ∷ a.Close ∷ ts) few)

-- whether a schema has no more kinds than is allowed
abbrev pub has_few_kinds : Schema → Bool
has_few_kinds s = nat_le (length s.kinds.items) 16

-- schemas that are within the limits
pub file_fits : (ss : List Schema) (n m : ℕ) → n + length ss ≤ 16 → list_all has_few_kinds ss ≡ true → IsSome (count_tokens (counts n m) (file_tokens ss))
file_fits [] n m l h = refl
file_fits (s ∷ ss) n m l h =
    let less : nat_lt n 16 ≡ true = grind (arith, nat_tests) in
    let rest : n + 1 + length ss ≤ 16 = omega (arith, l) in
    let kinds : nat_le (length s.kinds.items) 16 ≡ true = first_true (has_few_kinds s) (list_all has_few_kinds ss) h in
    let few : length s.kinds.items ≤ 16 = grind (arith, nat_tests, kinds) in
    subst IsSome (sym (schema_fits s n m (file_tokens ss) less few))
    (file_fits ss (n + 1) (0 + length s.kinds.items) rest (last_true (has_few_kinds s) (list_all has_few_kinds ss) h))

-- what is known of a schema that is within the limits
record Fits (s : Schema) (n : ℕ) (ts : List Token) : Type 0 where
  few : length s.kinds.items ≤ 16
  less : n + 1 ≤ 16
  rest : (m : ℕ) × IsSome (count_tokens (counts (n + 1) m) ts)

fits_by : (s : Schema) (n m : ℕ) (ts : List Token) (b : Bool) → nat_lt n 16 ≡ b
    → IsSome (count_tokens (counts n m) (a.Schema ∷ a.Name s.name ∷ a.Open ∷ inner s ts))
    → Fits s n ts
fits_by s n m ts true e h =
    let inside : IsSome (count_tokens (counts (n + 1) 0) (inner s ts)) = rw e at h in
    let few : 0 + length s.kinds.items ≤ 16 = kinds_few s.kinds.items (n + 1) 0 (a.Root ∷ a.Name s.root ∷ a.Close ∷ ts) (omega arith) inside in
    record {
      few = omega (arith, few);
      less = grind (arith, nat_tests, e);
      rest = (0 + length s.kinds.items, subst IsSome (kinds_fit s.kinds.items (n + 1) 0 (a.Root ∷ a.Name s.root ∷ a.Close ∷ ts) few) inside);
    }
fits_by s n m ts false e h =
    let none : IsSome {T = Counts} None = rw e at h in
    absurd (cc)

-- schemas whose tokens are within the limits
file_few : (ss : List Schema) (n m : ℕ) → n ≤ 16 → IsSome (count_tokens (counts n m) (file_tokens ss))
    → (n + length ss ≤ 16) × (list_all has_few_kinds ss ≡ true)
file_few [] n m l h = (omega (arith, l), refl)
file_few (s ∷ ss) n m l h =
    let fits = fits_by s n m (file_tokens ss) (nat_lt n 16) refl (subst (λ us. IsSome (count_tokens (counts n m) us)) (schema_split s (file_tokens ss)) h) in
    let others = file_few ss (n + 1) fits.rest.0 fits.less fits.rest.1 in
    let all : n + 1 + length ss ≤ 16 = others.0 in
    let kinds : length s.kinds.items ≤ 16 = fits.few in
    let few : has_few_kinds s ≡ true = grind (arith, nat_tests, kinds) in
    (omega (arith, all), true_both (has_few_kinds s) (list_all has_few_kinds ss) few others.1)

-- schemas are small where their tokens are within the limits
pub are_small-file : (ss : List Schema) → IsSome (count_tokens nothing (file_tokens ss)) → are_small ss ≡ true
are_small-file ss h =
    let few = file_few ss 0 0 (omega arith) h in
    let length_few : 0 + length ss ≤ 16 = few.0 in
    let number : nat_le (length ss) 16 ≡ true = grind (arith, nat_tests, length_few) in
    true_both (nat_le (length ss) 16) (list_all has_few_kinds ss) number few.1

-- the tokens of small schemas are within the limits
pub file-are_small : (ss : List Schema) → are_small ss ≡ true → IsSome (count_tokens nothing (file_tokens ss))
file-are_small ss h =
    let number : nat_le (length ss) 16 ≡ true = first_true (nat_le (length ss) 16) (list_all has_few_kinds ss) h in
    let few : 0 + length ss ≤ 16 = grind (arith, nat_tests, number) in
    file_fits ss 0 0 few (last_true (nat_le (length ss) 16) (list_all has_few_kinds ss) h)
