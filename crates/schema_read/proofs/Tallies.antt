-- The limits by the kinds that tokens write.
use Rattle.std.proofs.Common.{◌≡◌, ℕ, ◌+◌, ◌≤◌, ◌++◌, Bool, true, false, List, [], ◌∷◌, length, refl, ap, ◌∙◌, subst, Option, Some, None, arith, nat_lt}
use Rattle.std.specs.Prelude.{IsSome}
use Rattle.std.specs.Option.{option_and_then}
use Rattle.std.specs.List.{flat_map}
use Rattle.std.proofs.lemmas.List.{append_assoc}
use Rattle.std.proofs.lemmas.Bool.Decides.{nat_tests}
use Rattle.dt_model.specs.declared.declared_tensors.Links.{Links}
use Rattle.dt_model.specs.declared.declared_tensors.Links.TheVariants as link
use Rattle.dt_model.specs.declared.declared_tensors.Kind.{Kind}
use Rattle.schema_read.specs.declared.lexer.Token.{Token}
use Rattle.schema_read.specs.declared.lexer.Token.TheVariants as a
use Rattle.schema_read.specs.declared.scan.Counts.{Counts}
use Rattle.schema_read.specs.Scans.{count_token, count_tokens}
use Rattle.schema_read.specs.Grammar.{links_tokens, kind_tokens}

-- so many schemas, and so many kinds of the one in front
abbrev pub counts : ℕ → ℕ → Counts
counts n m = record { schemas = n; kinds = m }

-- ---- parts

append_by : (xs ys : List Token) (m : Option Counts) → ((c : Counts) → count_tokens c (xs ++ ys) ≡ option_and_then (λ d. count_tokens d ys) (count_tokens c xs))
    → option_and_then (λ d. count_tokens d (xs ++ ys)) m ≡ option_and_then (λ d. count_tokens d ys) (option_and_then (λ d. count_tokens d xs) m)
append_by xs ys None h = refl
append_by xs ys (Some c) h = h c

-- tokens in two parts
pub count_tokens-append : (xs ys : List Token) (c : Counts) → count_tokens c (xs ++ ys) ≡ option_and_then (λ d. count_tokens d ys) (count_tokens c xs)
count_tokens-append [] ys c = refl
count_tokens-append (x ∷ xs) ys c = append_by xs ys (count_token c x) (λ d. count_tokens-append xs ys d)

some_front : (ys : List Token) (m : Option Counts) → IsSome (option_and_then (λ d. count_tokens d ys) m) → IsSome m
some_front ys None h = absurd (cc)
some_front ys (Some c) h = refl

-- where all tokens are within the limits, the first ones are
pub count_tokens-front : (xs ys : List Token) (c : Counts) → IsSome (count_tokens c (xs ++ ys)) → IsSome (count_tokens c xs)
count_tokens-front xs ys c h = some_front ys (count_tokens c xs) (subst IsSome (count_tokens-append xs ys c) h)

-- ---- kinds

links_count : (l : Links) (c : Counts) (ts : List Token) → count_tokens c ((links_tokens l ++ a.Close ∷ []) ++ ts) ≡ count_tokens c ts
links_count link.Flat c ts = refl
links_count (link.Post p) c ts = refl
links_count (link.Ends p q) c ts = refl
links_count link.Woven c ts = refl

-- a kind that is within the limit
kind_fits : (k : Kind) (n m : ℕ) (ts : List Token) → nat_lt m 16 ≡ true → count_tokens (counts n m) (kind_tokens k ++ ts) ≡ count_tokens (counts n (m + 1)) ts
kind_fits k n m ts e = rw e (links_count k.links (counts n (m + 1)) ts)

-- a kind that is not
kind_exceeds : (k : Kind) (n m : ℕ) (ts : List Token) → nat_lt m 16 ≡ false → count_tokens (counts n m) (kind_tokens k ++ ts) ≡ None
kind_exceeds k n m ts e = rw e refl

-- kinds that are within the limit
pub kinds_fit : (ks : List Kind) (n m : ℕ) (ts : List Token) → m + length ks ≤ 16
    → count_tokens (counts n m) (flat_map kind_tokens ks ++ ts) ≡ count_tokens (counts n (m + length ks)) ts
kinds_fit [] n m ts l = let same : m ≡ m + length {A = Kind} [] = omega arith in ap (λ j. count_tokens (counts n j) ts) same
kinds_fit (k ∷ ks) n m ts l =
    let less : nat_lt m 16 ≡ true = grind (arith, nat_tests) in
    let same : m + 1 + length ks ≡ m + length (k ∷ ks) = omega arith in
    let rest : m + 1 + length ks ≤ 16 = omega (arith, l) in
    ap (count_tokens (counts n m)) (append_assoc (kind_tokens k) (flat_map kind_tokens ks) ts)
    ∙ kind_fits k n m (flat_map kind_tokens ks ++ ts) less
    ∙ kinds_fit ks n (m + 1) ts rest
    ∙ ap (λ j. count_tokens (counts n j) ts) same

few_by : (k : Kind) (ks : List Kind) (n m : ℕ) (ts : List Token) (b : Bool) → nat_lt m 16 ≡ b
    → (nat_lt m 16 ≡ true → IsSome (count_tokens (counts n (m + 1)) (flat_map kind_tokens ks ++ ts)) → m + 1 + length ks ≤ 16)
    → IsSome (count_tokens (counts n m) (kind_tokens k ++ (flat_map kind_tokens ks ++ ts))) → m + length (k ∷ ks) ≤ 16
few_by k ks n m ts true e more h =
    let rest : m + 1 + length ks ≤ 16 = more e (subst IsSome (kind_fits k n m (flat_map kind_tokens ks ++ ts) e) h) in
    omega (arith, rest)
few_by k ks n m ts false e more h =
    let none : IsSome {T = Counts} None = subst IsSome (kind_exceeds k n m (flat_map kind_tokens ks ++ ts) e) h in
    absurd (cc)

-- kinds whose tokens are within the limit
pub kinds_few : (ks : List Kind) (n m : ℕ) (ts : List Token) → m ≤ 16 → IsSome (count_tokens (counts n m) (flat_map kind_tokens ks ++ ts)) → m + length ks ≤ 16
kinds_few [] n m ts l h = omega (arith, l)
kinds_few (k ∷ ks) n m ts l h =
    few_by k ks n m ts (nat_lt m 16) refl
    (λ e r. let less : m + 1 ≤ 16 = grind (arith, nat_tests, e) in kinds_few ks n (m + 1) ts less r)
    (subst (λ us. IsSome (count_tokens (counts n m) us)) (append_assoc (kind_tokens k) (flat_map kind_tokens ks) ts) h)
