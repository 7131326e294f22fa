-- Rule 4: no kind is named for it exactly where it holds.
use Rattle.std.proofs.Common.{◌≡◌, ℕ, ◌++◌, Bool, true, false, not, cond, List, [], ◌∷◌, map, refl, ap, ◌∙◌, Option, Some, None, is_none}
use Rattle.std.specs.Prelude.{◌&&◌, ◌||◌, nat_eq}
use Rattle.std.specs.List.{list_any, list_all}
use Rattle.std.specs.Cmp.Lexicographic.{pointwise}
use Rattle.std.proofs.lemmas.List.Folds.{list_any-append}
use Rattle.dt_model.specs.declared.declared_tensors.Kind.{Kind}
use Rattle.dt_model.specs.declared.declared_tensors.Schema.{Schema}
use Rattle.dt_model.specs.Refusals.{or_else, when}
use Rattle.dt_model.specs.Verdicts.{names_differ}
use Rattle.schema_check.specs.Links.{is_declared}
use Rattle.schema_check.specs.Rules.{has_declared_links}
use Rattle.schema_check.specs.Breaches.{first_failing, first_redeclared, first_misnamed}

-- the names of some kinds
abbrev names : List Kind → List (List ℕ)
names kinds = map (λ (k : Kind). k.name) kinds

-- no kind is named exactly where all pass the test
pub first_failing-none : (test : Kind → Bool) (kinds : List Kind) → is_none (first_failing test kinds) ≡ list_all test kinds
first_failing-none test [] = refl
first_failing-none test (k ∷ kinds) = step (test k) (first_failing-none test kinds)
  where
    step : (b : Bool) → is_none (first_failing test kinds) ≡ list_all test kinds
        → is_none (cond b (first_failing test kinds) (Some k.name)) ≡ (b && list_all test kinds)
    step true h = h
    step false h = refl

-- there is none of two exactly where there is neither
or_else-none : {X : Type 0} (a b : Option X) → is_none (or_else a b) ≡ (is_none a && is_none b)
or_else-none None b = refl
or_else-none (Some x) b = refl

when-none : {X : Type 0} (b : Bool) (x : X) → is_none (when (not b) x) ≡ b
when-none true x = refl
when-none false x = refl

-- one more kind before some others: none of them has its name
one_before : (before : List Kind) (k : Kind) (kinds : List Kind)
    → list_all (λ other. not (is_declared (before ++ k ∷ []) other.name)) kinds
    ≡ (list_all (λ other. not (is_declared before other.name)) kinds && not (list_any (pointwise nat_eq k.name) (names kinds)))
one_before before k [] = refl
one_before before k (x ∷ kinds) =
    ap (λ b. not b && list_all (λ other. not (is_declared (before ++ k ∷ []) other.name)) kinds)
    (list_any-append (λ (other : Kind). pointwise nat_eq other.name x.name) before (k ∷ []))
    ∙ ap (λ b. not (is_declared before x.name || (pointwise nat_eq k.name x.name || false)) && b) (one_before before k kinds)
    ∙ turned (is_declared before x.name) (pointwise nat_eq k.name x.name) (list_all (λ other. not (is_declared before other.name)) kinds)
    (list_any (pointwise nat_eq k.name) (names kinds))
  where
    turned : (p q a m : Bool) → (not (p || (q || false)) && (a && not m)) ≡ ((not p && a) && not (q || m))
    turned true q a m = refl
    turned false true true m = refl
    turned false true false m = refl
    turned false false true m = refl
    turned false false false m = refl

-- no kind is declared again exactly where none has the name of one before, and all names differ
pub first_redeclared-none : (before kinds : List Kind)
    → is_none (first_redeclared before kinds) ≡ (list_all (λ k. not (is_declared before k.name)) kinds && names_differ (names kinds))
first_redeclared-none before [] = refl
first_redeclared-none before (k ∷ kinds) =
    step (is_declared before k.name)
    (first_redeclared-none (before ++ k ∷ []) kinds ∙ ap (λ b. b && names_differ (names kinds)) (one_before before k kinds))
  where
    turned : (a m n : Bool) → ((a && not m) && n) ≡ (a && (not m && n))
    turned true m n = refl
    turned false m n = refl

    step : (d : Bool) → is_none (first_redeclared (before ++ k ∷ []) kinds)
        ≡ ((list_all (λ other. not (is_declared before other.name)) kinds && not (list_any (pointwise nat_eq k.name) (names kinds)))
        && names_differ (names kinds))
        → is_none (cond d (Some k.name) (first_redeclared (before ++ k ∷ []) kinds))
        ≡ ((not d && list_all (λ other. not (is_declared before other.name)) kinds)
        && (not (list_any (pointwise nat_eq k.name) (names kinds)) && names_differ (names kinds)))
    step true h = refl
    step false h = h ∙ turned (list_all (λ other. not (is_declared before other.name)) kinds) (list_any (pointwise nat_eq k.name) (names kinds))
        (names_differ (names kinds))

all_unlike : (kinds : List Kind) → list_all (λ (k : Kind). not (is_declared [] k.name)) kinds ≡ true
all_unlike [] = refl
all_unlike (k ∷ kinds) = all_unlike kinds

-- no kind is named for rule 4 exactly where its three parts hold
pub first_misnamed-none : (s : Schema) → is_none (first_misnamed s)
    ≡ (names_differ (names s.kinds.items) && list_all (has_declared_links s.kinds.items) s.kinds.items && is_declared s.kinds.items s.root)
first_misnamed-none s =
    let kinds = s.kinds.items in
    let last = when (not (is_declared kinds s.root)) s.root in
    let links = first_failing (has_declared_links kinds) kinds in
    or_else-none (first_redeclared [] kinds) (or_else links last)
    ∙ ap (λ b. b && is_none (or_else links last)) (first_redeclared-none [] kinds ∙ ap (λ b. b && names_differ (names kinds)) (all_unlike kinds))
    ∙ ap (λ b. names_differ (names kinds) && b) (or_else-none links last)
    ∙ ap (λ b. names_differ (names kinds) && (b && is_none last)) (first_failing-none (has_declared_links kinds) kinds)
    ∙ ap (λ b. names_differ (names kinds) && (list_all (has_declared_links kinds) kinds && b)) (when-none (is_declared kinds s.root) s.root)
    ∙ joined (names_differ (names kinds)) (list_all (has_declared_links kinds) kinds) (is_declared kinds s.root)
  where
    joined : (a b c : Bool) → (a && (b && c)) ≡ (a && b && c)
    joined true b c = refl
    joined false b c = refl
