-- The canonical trees of an expression are within the limits wherever some way of writing it is: they need no more parentheses.
use Rattle.std.proofs.Common.{◌≡◌, ℕ, ◌+◌, ◌<◌, ◌≤◌, Bool, true, false, cond, List, ◌∷◌, map, refl, ap, ◌∙◌, Option, Some, None, arith, nat_lt}
use Rattle.std.specs.Option.{option_and_then}
use Rattle.std.proofs.lemmas.Bool.Decides.{nat_tests}
use Rattle.dt_model.specs.declared.statements.Expr.{Expr}
use Rattle.dt_model.specs.declared.statements.Expr.TheViews as join
use Rattle.dt_model.specs.declared.limits.TheConstants.{MOST_PARENTHESES}
use Rattle.index_read.specs.Grammar.{Factor, Number, Access, Parens, Factors, One, Times, Terms, First, Negated, Plus, Minus}
use Rattle.index_read.specs.Building.{place_of}
use Rattle.index_read.specs.Meaning.{factor_expr, factors_expr, terms_expr, factor_names, factors_names, terms_names}
use Rattle.index_read.specs.Canonical.{name_at}
use Rattle.index_read.proofs.CanonicalTrees.{factor_of, factors_of, terms_of, terms_of-Plus, terms_of-Minus, terms_of-Times, terms_of-Negate}
use Rattle.index_read.proofs.CanonicalTrees.{factors_of-Plus, factors_of-Minus, factors_of-Times, factors_of-Negate, factor_of-Plus, factor_of-Minus}
use Rattle.index_read.proofs.CanonicalTrees.{factor_of-Times, factor_of-Negate}
use Rattle.index_read.proofs.NamesBack.{AreIn, AreIn-split, name_at-place_of, names_back}
use Rattle.index_read.proofs.Tallies.{Tally, access_tally, factor_tally, factors_tally, terms_tally}

-- ---- one part after another

-- where both parts are counted
record Both (o : Option Tally) (k : Tally → Option Tally) (u : Tally) : Type 0 where
  middle : Tally
  first : o ≡ Some middle
  second : k middle ≡ Some u

both_of : (o : Option Tally) (k : Tally → Option Tally) (u : Tally) → option_and_then k o ≡ Some u → Both o k u
both_of None k u h = absurd (cc)
both_of (Some m) k u h = record { middle = m; first = refl; second = h }

and_then : (o : Option Tally) (k : Tally → Option Tally) (m u : Tally) → o ≡ Some m → k m ≡ Some u → option_and_then k o ≡ Some u
and_then o k m u e f = ap (option_and_then k) e ∙ f

-- ---- parentheses

-- what is counted in parentheses
opened_by : (b : Bool) (o : Option Tally) (u : Tally) → cond b o None ≡ Some u → (b ≡ true) × (o ≡ Some u)
opened_by true o u h = (refl, h)
opened_by false o u h = absurd (cc)

enclosed : (e : Terms) (n : ℕ) (t u : Tally) → n < MOST_PARENTHESES → terms_tally e (n + 1) t ≡ Some u
    → cond (nat_lt n MOST_PARENTHESES) (terms_tally e (n + 1) t) None ≡ Some u
enclosed e n t u l h = let some : nat_lt n MOST_PARENTHESES ≡ true = grind (arith, nat_tests) in rw some h

-- an expression that was written as a factor inside d parentheses
record KeptFactor (V : List (List ℕ)) (x : Expr) (d : ℕ) (t u : Tally) : Type 0 where
  in_terms : (n : ℕ) → n ≤ d → terms_tally (terms_of V x) n t ≡ Some u
  in_factors : (n : ℕ) → n ≤ d → factors_tally (factors_of V x) n t ≡ Some u
  in_factor : (n : ℕ) → n ≤ d → factor_tally (factor_of V x) n t ≡ Some u

-- one that was written as factors
record KeptFactors (V : List (List ℕ)) (x : Expr) (d : ℕ) (t u : Tally) : Type 0 where
  in_terms : (n : ℕ) → n ≤ d → terms_tally (terms_of V x) n t ≡ Some u
  in_factors : (n : ℕ) → n ≤ d → factors_tally (factors_of V x) n t ≡ Some u
  in_factor : (n : ℕ) → n + 1 ≤ d → d ≤ MOST_PARENTHESES → factor_tally (factor_of V x) n t ≡ Some u

-- one that was written as terms
record KeptTerms (V : List (List ℕ)) (x : Expr) (d : ℕ) (t u : Tally) : Type 0 where
  in_terms : (n : ℕ) → n ≤ d → terms_tally (terms_of V x) n t ≡ Some u
  in_factors : (n : ℕ) → n + 1 ≤ d → d ≤ MOST_PARENTHESES → factors_tally (factors_of V x) n t ≡ Some u
  in_factor : (n : ℕ) → n + 1 ≤ d → d ≤ MOST_PARENTHESES → factor_tally (factor_of V x) n t ≡ Some u

-- an access to the names that it had
access_kept : (V : List (List ℕ)) (v : List ℕ) (vs : List (List ℕ)) (t u : Tally) → AreIn V (v ∷ vs) → access_tally v vs t ≡ Some u
    → access_tally (name_at V (place_of V v)) (map (name_at V) (map (place_of V) vs)) t ≡ Some u
access_kept V v vs t u h e =
    ap (λ w. access_tally w (map (name_at V) (map (place_of V) vs)) t) (name_at-place_of V v h.0) ∙ ap (λ ws. access_tally v ws t) (names_back V vs h.1) ∙ e

-- terms that are enclosed where needed: a tree whose factors and factor are the terms in parentheses
kept_enclosed : (V : List (List ℕ)) (x : Expr) (e : Terms) (d : ℕ) (t u : Tally) → terms_of V x ≡ e → factors_of V x ≡ One (Parens e) → factor_of V x ≡ Parens e
    → ((n : ℕ) → n ≤ d → terms_tally e n t ≡ Some u) → KeptTerms V x d t u
kept_enclosed V x e d t u p q r h =
    record {
      in_terms = λ n l. ap (λ y. terms_tally y n t) p ∙ h n l;
      in_factors = λ n l m. ap (λ y. factors_tally y n t) q ∙ enclosed e n t u (omega (arith, l, m)) (h (n + 1) l);
      in_factor = λ n l m. ap (λ y. factor_tally y n t) r ∙ enclosed e n t u (omega (arith, l, m)) (h (n + 1) l);
    }

-- a factor, factors and terms are within the limits as canonical trees
mutual
  factor_kept : (f : Factor) (V : List (List ℕ)) (d : ℕ) (t u : Tally) → AreIn V (factor_names f) → factor_tally f d t ≡ Some u
      → KeptFactor V (factor_expr V f) d t u
  factor_kept (Number None) V d t u names h = absurd (cc)
  factor_kept (Number (Some k)) V d t u names h = record { in_terms = λ n l. h; in_factors = λ n l. h; in_factor = λ n l. h }
  factor_kept (Access m v vs) V d t u names h =
      let same = access_kept V v vs t u names h in
      record { in_terms = λ n l. same; in_factors = λ n l. same; in_factor = λ n l. same }
  factor_kept (Parens e) V d t u names h =
      let inside = opened_by (nat_lt d MOST_PARENTHESES) (terms_tally e (d + 1) t) u h in
      let test = inside.0 in
      let room : d < MOST_PARENTHESES = grind (arith, nat_tests) in
      let kept = terms_kept e V (d + 1) t u names inside.1 in
      record {
        in_terms = λ n l. kept.in_terms n (omega (arith, l));
        in_factors = λ n l. kept.in_factors n (omega (arith, l)) (omega (arith, room));
        in_factor = λ n l. kept.in_factor n (omega (arith, l)) (omega (arith, room));
      }

  factors_kept : (fs : Factors) (V : List (List ℕ)) (d : ℕ) (t u : Tally) → AreIn V (factors_names fs) → factors_tally fs d t ≡ Some u
      → KeptFactors V (factors_expr V fs) d t u
  factors_kept (One f) V d t u names h =
      let kept = factor_kept f V d t u names h in
      record { in_terms = kept.in_terms; in_factors = kept.in_factors; in_factor = λ n l m. kept.in_factor n (omega (arith, l)) }
  factors_kept (Times fs f) V d t u names h =
      let parts = AreIn-split V (factors_names fs) (factor_names f) names in
      let both = both_of (factors_tally fs d t) (factor_tally f d) u h in
      let x = factors_kept fs V d t both.middle parts.0 both.first in
      let y = factor_kept f V d both.middle u parts.1 both.second in
      let A = factors_expr V fs in
      let B = factor_expr V f in
      let product : (n : ℕ) → n ≤ d → factors_tally (Times (factors_of V A) (factor_of V B)) n t ≡ Some u =
      λ n l. and_then (factors_tally (factors_of V A) n t) (factor_tally (factor_of V B) n) both.middle u (x.in_factors n l) (y.in_factor n l) in
      record {
        in_terms = λ n l. ap (λ z. terms_tally z n t) (terms_of-Times V A B) ∙ product n l;
        in_factors = λ n l. ap (λ z. factors_tally z n t) (factors_of-Times V A B) ∙ product n l;
        in_factor = λ n l m. ap (λ z. factor_tally z n t) (factor_of-Times V A B)
            ∙ enclosed (First (Times (factors_of V A) (factor_of V B))) n t u (omega (arith, l, m)) (product (n + 1) l);
      }

  terms_kept : (e : Terms) (V : List (List ℕ)) (d : ℕ) (t u : Tally) → AreIn V (terms_names e) → terms_tally e d t ≡ Some u → KeptTerms V (terms_expr V e) d t u
  terms_kept (First fs) V d t u names h =
      let kept = factors_kept fs V d t u names h in
      record { in_terms = kept.in_terms; in_factors = λ n l m. kept.in_factors n (omega (arith, l)); in_factor = kept.in_factor }
  terms_kept (Negated fs) V d t u names h =
      let kept = factors_kept fs V d t u names h in
      let A = factors_expr V fs in
      kept_enclosed V (join.Negate A) (Negated (factors_of V A)) d t u (terms_of-Negate V A) (factors_of-Negate V A) (factor_of-Negate V A) kept.in_factors
  terms_kept (Plus e fs) V d t u names h =
      let parts = AreIn-split V (terms_names e) (factors_names fs) names in
      let both = both_of (terms_tally e d t) (factors_tally fs d) u h in
      let x = terms_kept e V d t both.middle parts.0 both.first in
      let y = factors_kept fs V d both.middle u parts.1 both.second in
      let A = terms_expr V e in
      let B = factors_expr V fs in
      kept_enclosed V (join.Plus A B) (Plus (terms_of V A) (factors_of V B)) d t u (terms_of-Plus V A B) (factors_of-Plus V A B) (factor_of-Plus V A B)
      (λ n l. and_then (terms_tally (terms_of V A) n t) (factors_tally (factors_of V B) n) both.middle u (x.in_terms n l) (y.in_factors n l))
  terms_kept (Minus e fs) V d t u names h =
      let parts = AreIn-split V (terms_names e) (factors_names fs) names in
      let both = both_of (terms_tally e d t) (factors_tally fs d) u h in
      let x = terms_kept e V d t both.middle parts.0 both.first in
      let y = factors_kept fs V d both.middle u parts.1 both.second in
      let A = terms_expr V e in
      let B = factors_expr V fs in
      kept_enclosed V (join.Minus A B) (Minus (terms_of V A) (factors_of V B)) d t u (terms_of-Minus V A B) (factors_of-Minus V A B) (factor_of-Minus V A B)
      (λ n l. and_then (terms_tally (terms_of V A) n t) (factors_tally (factors_of V B) n) both.middle u (x.in_terms n l) (y.in_factors n l))

-- the canonical right side of a statement is counted as each way of writing it
pub terms_tally-terms_of : (e : Terms) (V : List (List ℕ)) (t u : Tally) → AreIn V (terms_names e) → terms_tally e 0 t ≡ Some u
    → terms_tally (terms_of V (terms_expr V e)) 0 t ≡ Some u
terms_tally-terms_of e V t u names h = (terms_kept e V 0 t u names h).in_terms 0 (omega arith)
