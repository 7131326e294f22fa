-- An expression is what its canonical trees mean, and their text has their tokens.
use Rattle.std.proofs.Common.{◌≡◌, ℕ, ◌<◌, ◌^◌, ◌++◌, true, List, [], ◌∷◌, map, refl, ap, sym, ◌∙◌, subst, Some, None, arith}
use Rattle.dt_model.specs.Names.{is_name}
use Rattle.dt_model.specs.declared.statements.Expr.{Expr}
use Rattle.dt_model.specs.declared.statements.Expr.TheVariants as e
use Rattle.dt_model.specs.declared.statements.Expr.TheViews as join
use Rattle.index_read.specs.declared.lexer.Token.TheVariants as a
use Rattle.index_read.specs.Building.{place_of}
use Rattle.index_read.specs.Grammar.{Factor, Number, Access, Parens, Factors, One, Times, Terms, First, Negated, Plus, Minus, list_tokens, factor_tokens}
use Rattle.index_read.specs.Grammar.{factors_tokens, terms_tokens}
use Rattle.index_read.specs.Meaning.{factor_expr, factors_expr, terms_expr, factor_names, factors_names, terms_names}
use Rattle.index_read.specs.Canonical.{name_at}
use Rattle.index_read.proofs.CanonicalTrees.{factor_of, factors_of, terms_of}
use Rattle.index_read.proofs.CanonicalTokens.{AreNames, FactorIsGood, FactorsAreGood, TermsAreGood, tokens_of-number}
use Rattle.index_read.proofs.NamesBack.{AreIn, AreIn-split, name_at-place_of, names_back}
use Rattle.index_read.proofs.GoodTokens.{AreGood, good_head, good_tail, AreGood-front, AreGood-rest}

-- the canonical trees of an expression mean it, have these variables, and can be read
pub record IsBack (V : List (List ℕ)) (x : Expr) (ns : List (List ℕ)) : Type 0 where
  pub terms_mean : terms_expr V (terms_of V x) ≡ x
  pub factors_mean : factors_expr V (factors_of V x) ≡ x
  pub factor_means : factor_expr V (factor_of V x) ≡ x
  pub terms_have : terms_names (terms_of V x) ≡ ns
  pub factors_have : factors_names (factors_of V x) ≡ ns
  pub factor_has : factor_names (factor_of V x) ≡ ns
  pub good_terms : TermsAreGood (terms_of V x)
  pub good_factors : FactorsAreGood (factors_of V x)
  pub good_factor : FactorIsGood (factor_of V x)

-- ---- by the tree

literal_back : (V : List (List ℕ)) (n : ℕ) → n < 2 ^ 64 → IsBack V (e.Literal n) []
literal_back V n l =
    record {
      terms_mean = refl;
      factors_mean = refl;
      factor_means = refl;
      terms_have = refl;
      factors_have = refl;
      factor_has = refl;
      good_terms = λ rest s. tokens_of-number n rest l s;
      good_factors = λ rest s. tokens_of-number n rest l s;
      good_factor = λ rest s. tokens_of-number n rest l s;
    }

access_back : (V : List (List ℕ)) (t v : List ℕ) (vs : List (List ℕ)) → is_name t ≡ true → AreNames v vs → AreIn V (v ∷ vs)
    → IsBack V (e.Access t (map (place_of V) (v ∷ vs))) (v ∷ vs)
access_back V t v vs n ns h =
    let same : name_at V (place_of V v) ∷ map (name_at V) (map (place_of V) vs) ≡ v ∷ vs = names_back V (v ∷ vs) h in
    let means = ap (λ r. e.Access t (map (place_of V) r)) same in
    let names : AreNames (name_at V (place_of V v)) (map (name_at V) (map (place_of V) vs)) =
    subst (λ r. AreNames r (map (name_at V) (map (place_of V) vs))) (sym (name_at-place_of V v h.0)) (subst (λ rs. AreNames v rs) (sym
    (names_back V vs h.1)) ns) in
    record {
      terms_mean = means;
      factors_mean = means;
      factor_means = means;
      terms_have = same;
      factors_have = same;
      factor_has = same;
      good_terms = (n, names);
      good_factors = (n, names);
      good_factor = (n, names);
    }

plus_back : (V : List (List ℕ)) (x y : Expr) (ns ms : List (List ℕ)) → IsBack V x ns → IsBack V y ms → IsBack V (join.Plus x y) (ns ++ ms)
unfolding Rattle.dt_model.specs.declared.statements.Expr.TheBlock.hidden-the_row-Expr-0 denote.Hole.Carrier.hidden
plus_back V x y ns ms b c =
    let means = ap (λ r. join.Plus r (factors_expr V (factors_of V y))) b.terms_mean ∙ ap (λ r. join.Plus x r) c.factors_mean in
    let names = ap (λ r. r ++ factors_names (factors_of V y)) b.terms_have ∙ ap (λ r. ns ++ r) c.factors_have in
    record {
      terms_mean = means;
      factors_mean = means;
      factor_means = means;
      terms_have = names;
      factors_have = names;
      factor_has = names;
      good_terms = (b.good_terms, c.good_factors);
      good_factors = (b.good_terms, c.good_factors);
      good_factor = (b.good_terms, c.good_factors);
    }

minus_back : (V : List (List ℕ)) (x y : Expr) (ns ms : List (List ℕ)) → IsBack V x ns → IsBack V y ms → IsBack V (join.Minus x y) (ns ++ ms)
unfolding Rattle.dt_model.specs.declared.statements.Expr.TheBlock.hidden-the_row-Expr-0 denote.Hole.Carrier.hidden
minus_back V x y ns ms b c =
    let means = ap (λ r. join.Minus r (factors_expr V (factors_of V y))) b.terms_mean ∙ ap (λ r. join.Minus x r) c.factors_mean in
    let names = ap (λ r. r ++ factors_names (factors_of V y)) b.terms_have ∙ ap (λ r. ns ++ r) c.factors_have in
    record {
      terms_mean = means;
      factors_mean = means;
      factor_means = means;
      terms_have = names;
      factors_have = names;
      factor_has = names;
      good_terms = (b.good_terms, c.good_factors);
      good_factors = (b.good_terms, c.good_factors);
      good_factor = (b.good_terms, c.good_factors);
    }

times_back : (V : List (List ℕ)) (x y : Expr) (ns ms : List (List ℕ)) → IsBack V x ns → IsBack V y ms → IsBack V (join.Times x y) (ns ++ ms)
unfolding Rattle.dt_model.specs.declared.statements.Expr.TheBlock.hidden-the_row-Expr-0 denote.Hole.Carrier.hidden
times_back V x y ns ms b c =
    let means = ap (λ r. join.Times r (factor_expr V (factor_of V y))) b.factors_mean ∙ ap (λ r. join.Times x r) c.factor_means in
    let names = ap (λ r. r ++ factor_names (factor_of V y)) b.factors_have ∙ ap (λ r. ns ++ r) c.factor_has in
    record {
      terms_mean = means;
      factors_mean = means;
      factor_means = means;
      terms_have = names;
      factors_have = names;
      factor_has = names;
      good_terms = (b.good_factors, c.good_factor);
      good_factors = (b.good_factors, c.good_factor);
      good_factor = (b.good_factors, c.good_factor);
    }

negate_back : (V : List (List ℕ)) (x : Expr) (ns : List (List ℕ)) → IsBack V x ns → IsBack V (join.Negate x) ns
unfolding Rattle.dt_model.specs.declared.statements.Expr.TheBlock.hidden-the_row-Expr-0 denote.Hole.Carrier.hidden
negate_back V x ns b =
    let means = ap join.Negate b.factors_mean in
    record {
      terms_mean = means;
      factors_mean = means;
      factor_means = means;
      terms_have = b.factors_have;
      factors_have = b.factors_have;
      factor_has = b.factors_have;
      good_terms = b.good_factors;
      good_factors = b.good_factors;
      good_factor = b.good_factors;
    }

-- ---- by the way in which it was written

-- the names of a list
pub list_names : (v : List ℕ) (vs : List (List ℕ)) → AreGood (list_tokens v vs) → AreNames v vs
list_names v [] h = good_head (a.Word v) [] h
list_names v (w ∷ ws) h = (
  good_head (a.Word v) (a.Comma ∷ list_tokens w ws) h,
  list_names w ws (good_tail a.Comma (list_tokens w ws) (good_tail (a.Word v) (a.Comma ∷ list_tokens w ws) h)),
)

-- a factor, factors and terms
mutual
  factor_back : (f : Factor) (V : List (List ℕ)) → AreGood (factor_tokens f) → AreIn V (factor_names f) → IsBack V (factor_expr V f) (factor_names f)
  factor_back (Number None) V g h = literal_back V 0 (omega arith)
  factor_back (Number (Some n)) V g h = literal_back V n (good_head (a.Number (Some n)) [] g)
  factor_back (Access t v vs) V g h =
      let list = list_tokens v vs ++ a.Close ∷ [] in
      let inner = good_tail a.Open list (good_tail (a.Word t) (a.Open ∷ list) g) in
      access_back V t v vs (good_head (a.Word t) (a.Open ∷ list) g) (list_names v vs (AreGood-front (list_tokens v vs) (a.Close ∷ []) inner)) h
  factor_back (Parens e) V g h =
      terms_back e V (AreGood-front (terms_tokens e) (a.Close ∷ []) (good_tail a.Open (terms_tokens e ++ a.Close ∷ []) g)) h

  factors_back : (fs : Factors) (V : List (List ℕ)) → AreGood (factors_tokens fs) → AreIn V (factors_names fs) → IsBack V (factors_expr V fs) (factors_names fs)
  factors_back (One f) V g h = factor_back f V g h
  factors_back (Times fs f) V g h =
      let parts = AreIn-split V (factors_names fs) (factor_names f) h in
      times_back V (factors_expr V fs) (factor_expr V f) (factors_names fs) (factor_names f)
      (factors_back fs V (AreGood-front (factors_tokens fs) (a.Times ∷ factor_tokens f) g) parts.0)
      (factor_back f V (good_tail a.Times (factor_tokens f) (AreGood-rest (factors_tokens fs) (a.Times ∷ factor_tokens f) g)) parts.1)

  pub terms_back : (e : Terms) (V : List (List ℕ)) → AreGood (terms_tokens e) → AreIn V (terms_names e) → IsBack V (terms_expr V e) (terms_names e)
  terms_back (First fs) V g h = factors_back fs V g h
  terms_back (Negated fs) V g h =
      negate_back V (factors_expr V fs) (factors_names fs) (factors_back fs V (good_tail a.Minus (factors_tokens fs) g) h)
  terms_back (Plus e fs) V g h =
      let parts = AreIn-split V (terms_names e) (factors_names fs) h in
      plus_back V (terms_expr V e) (factors_expr V fs) (terms_names e) (factors_names fs)
      (terms_back e V (AreGood-front (terms_tokens e) (a.Plus ∷ factors_tokens fs) g) parts.0)
      (factors_back fs V (good_tail a.Plus (factors_tokens fs) (AreGood-rest (terms_tokens e) (a.Plus ∷ factors_tokens fs) g)) parts.1)
  terms_back (Minus e fs) V g h =
      let parts = AreIn-split V (terms_names e) (factors_names fs) h in
      minus_back V (terms_expr V e) (factors_expr V fs) (terms_names e) (factors_names fs)
      (terms_back e V (AreGood-front (terms_tokens e) (a.Minus ∷ factors_tokens fs) g) parts.0)
      (factors_back fs V (good_tail a.Minus (factors_tokens fs) (AreGood-rest (terms_tokens e) (a.Minus ∷ factors_tokens fs) g)) parts.1)
