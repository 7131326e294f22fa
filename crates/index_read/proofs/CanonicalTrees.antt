-- The canonical text as it is written: trees with no more parentheses than they need.
use Rattle.std.proofs.Common.{◌≡◌, ℕ, ◌++◌, List, [], ◌∷◌, map, refl, ap, sym, ◌∙◌, Option, Some, None}
use Rattle.std.specs.List.{flat_map}
use Rattle.std.specs.Fmt.{decimal}
use Rattle.std.proofs.lemmas.List.{append-nil}
use Rattle.std.proofs.lemmas.List.Concat.{flat_map-cons}
use Rattle.dt_model.specs.declared.statements.Expr.{Expr, end_of-Expr, more_of-Expr}
use Rattle.dt_model.specs.declared.statements.Expr.TheVariants as e
use Rattle.dt_model.specs.declared.statements.Expr.TheViews as join
use Rattle.index_read.specs.declared.write.Precedence.TheVariants as least
use Rattle.index_read.specs.Grammar.{Factor, Number, Access, Parens, Factors, One, Times, Terms, First, Negated, Plus, Minus}
use Rattle.index_read.specs.Canonical.{name_at, names_text, expr_text}

-- ---- an expression as it is written

-- an access, as it is written
abbrev pub access_of : List (List ℕ) → List ℕ → List ℕ → Factor
access_of vars tensor [] = Access tensor [] []
access_of vars tensor (p ∷ ps) = Access tensor (name_at vars p) (map (name_at vars) ps)

-- an expression as a factor, as factors and as terms
abbrev mutual
  pub factor_of : List (List ℕ) → Expr → Factor
  factor_of vars (e.Literal n) = Number (Some n)
  factor_of vars (e.Access tensor ps) = access_of vars tensor ps
  factor_of vars (e.Plus' s (more_of-Expr a end_of-Expr) t (more_of-Expr b end_of-Expr)) = Parens (Plus (terms_of vars a) (factors_of vars b))
  factor_of vars (e.Minus' s (more_of-Expr a end_of-Expr) t (more_of-Expr b end_of-Expr)) = Parens (Minus (terms_of vars a) (factors_of vars b))
  factor_of vars (e.Times' s (more_of-Expr a end_of-Expr) t (more_of-Expr b end_of-Expr)) = Parens (First (Times (factors_of vars a) (factor_of vars b)))
  factor_of vars (e.Negate' s (more_of-Expr a end_of-Expr)) = Parens (Negated (factors_of vars a))

  pub factors_of : List (List ℕ) → Expr → Factors
  factors_of vars (e.Literal n) = One (Number (Some n))
  factors_of vars (e.Access tensor ps) = One (access_of vars tensor ps)
  factors_of vars (e.Plus' s (more_of-Expr a end_of-Expr) t (more_of-Expr b end_of-Expr)) = One (Parens (Plus (terms_of vars a) (factors_of vars b)))
  factors_of vars (e.Minus' s (more_of-Expr a end_of-Expr) t (more_of-Expr b end_of-Expr)) = One (Parens (Minus (terms_of vars a) (factors_of vars b)))
  factors_of vars (e.Times' s (more_of-Expr a end_of-Expr) t (more_of-Expr b end_of-Expr)) = Times (factors_of vars a) (factor_of vars b)
  factors_of vars (e.Negate' s (more_of-Expr a end_of-Expr)) = One (Parens (Negated (factors_of vars a)))

  pub terms_of : List (List ℕ) → Expr → Terms
  terms_of vars (e.Literal n) = First (One (Number (Some n)))
  terms_of vars (e.Access tensor ps) = First (One (access_of vars tensor ps))
  terms_of vars (e.Plus' s (more_of-Expr a end_of-Expr) t (more_of-Expr b end_of-Expr)) = Plus (terms_of vars a) (factors_of vars b)
  terms_of vars (e.Minus' s (more_of-Expr a end_of-Expr) t (more_of-Expr b end_of-Expr)) = Minus (terms_of vars a) (factors_of vars b)
  terms_of vars (e.Times' s (more_of-Expr a end_of-Expr) t (more_of-Expr b end_of-Expr)) = First (Times (factors_of vars a) (factor_of vars b))
  terms_of vars (e.Negate' s (more_of-Expr a end_of-Expr)) = Negated (factors_of vars a)

-- ---- its bytes

-- the text of variables: a first one and others
abbrev pub list_text : List ℕ → List (List ℕ) → List ℕ
list_text v [] = v
list_text v (w ∷ ws) = v ++ 44 ∷ list_text w ws

-- the text of a number
abbrev pub number_text : Option ℕ → List ℕ
number_text None = []
number_text (Some n) = decimal n

-- the text of a factor, of factors and of terms
abbrev mutual
  pub factor_text : Factor → List ℕ
  factor_text (Number n) = number_text n
  factor_text (Access tensor v vs) = tensor ++ 40 ∷ (list_text v vs ++ 41 ∷ [])
  factor_text (Parens e) = 40 ∷ (terms_text e ++ 41 ∷ [])

  pub factors_text : Factors → List ℕ
  factors_text (One f) = factor_text f
  factors_text (Times fs f) = factors_text fs ++ 32 ∷ 42 ∷ 32 ∷ factor_text f

  pub terms_text : Terms → List ℕ
  terms_text (First fs) = factors_text fs
  terms_text (Negated fs) = 45 ∷ factors_text fs
  terms_text (Plus e fs) = terms_text e ++ 32 ∷ 43 ∷ 32 ∷ factors_text fs
  terms_text (Minus e fs) = terms_text e ++ 32 ∷ 45 ∷ 32 ∷ factors_text fs

-- ---- the trees of sums, differences, products and negations, as code makes them

-- a sum as terms
pub terms_of-Plus : (V : List (List ℕ)) (a b : Expr) → terms_of V (join.Plus a b) ≡ Plus (terms_of V a) (factors_of V b)
unfolding Rattle.dt_model.specs.declared.statements.Expr.TheBlock.hidden-the_row-Expr-0 denote.Hole.Carrier.hidden
terms_of-Plus V a b = refl

-- a difference as terms
pub terms_of-Minus : (V : List (List ℕ)) (a b : Expr) → terms_of V (join.Minus a b) ≡ Minus (terms_of V a) (factors_of V b)
unfolding Rattle.dt_model.specs.declared.statements.Expr.TheBlock.hidden-the_row-Expr-0 denote.Hole.Carrier.hidden
terms_of-Minus V a b = refl

-- a product as terms
pub terms_of-Times : (V : List (List ℕ)) (a b : Expr) → terms_of V (join.Times a b) ≡ First (Times (factors_of V a) (factor_of V b))
unfolding Rattle.dt_model.specs.declared.statements.Expr.TheBlock.hidden-the_row-Expr-0 denote.Hole.Carrier.hidden
terms_of-Times V a b = refl

-- a negation as terms
pub terms_of-Negate : (V : List (List ℕ)) (a : Expr) → terms_of V (join.Negate a) ≡ Negated (factors_of V a)
unfolding Rattle.dt_model.specs.declared.statements.Expr.TheBlock.hidden-the_row-Expr-0 denote.Hole.Carrier.hidden
terms_of-Negate V a = refl

-- a sum as factors
pub factors_of-Plus : (V : List (List ℕ)) (a b : Expr) → factors_of V (join.Plus a b) ≡ One (Parens (Plus (terms_of V a) (factors_of V b)))
unfolding Rattle.dt_model.specs.declared.statements.Expr.TheBlock.hidden-the_row-Expr-0 denote.Hole.Carrier.hidden
factors_of-Plus V a b = refl

-- a difference as factors
pub factors_of-Minus : (V : List (List ℕ)) (a b : Expr) → factors_of V (join.Minus a b) ≡ One (Parens (Minus (terms_of V a) (factors_of V b)))
unfolding Rattle.dt_model.specs.declared.statements.Expr.TheBlock.hidden-the_row-Expr-0 denote.Hole.Carrier.hidden
factors_of-Minus V a b = refl

-- a product as factors
pub factors_of-Times : (V : List (List ℕ)) (a b : Expr) → factors_of V (join.Times a b) ≡ Times (factors_of V a) (factor_of V b)
unfolding Rattle.dt_model.specs.declared.statements.Expr.TheBlock.hidden-the_row-Expr-0 denote.Hole.Carrier.hidden
factors_of-Times V a b = refl

-- a negation as factors
pub factors_of-Negate : (V : List (List ℕ)) (a : Expr) → factors_of V (join.Negate a) ≡ One (Parens (Negated (factors_of V a)))
unfolding Rattle.dt_model.specs.declared.statements.Expr.TheBlock.hidden-the_row-Expr-0 denote.Hole.Carrier.hidden
factors_of-Negate V a = refl

-- a sum as a factor
pub factor_of-Plus : (V : List (List ℕ)) (a b : Expr) → factor_of V (join.Plus a b) ≡ Parens (Plus (terms_of V a) (factors_of V b))
unfolding Rattle.dt_model.specs.declared.statements.Expr.TheBlock.hidden-the_row-Expr-0 denote.Hole.Carrier.hidden
factor_of-Plus V a b = refl

-- a difference as a factor
pub factor_of-Minus : (V : List (List ℕ)) (a b : Expr) → factor_of V (join.Minus a b) ≡ Parens (Minus (terms_of V a) (factors_of V b))
unfolding Rattle.dt_model.specs.declared.statements.Expr.TheBlock.hidden-the_row-Expr-0 denote.Hole.Carrier.hidden
factor_of-Minus V a b = refl

-- a product as a factor
pub factor_of-Times : (V : List (List ℕ)) (a b : Expr) → factor_of V (join.Times a b) ≡ Parens (First (Times (factors_of V a) (factor_of V b)))
unfolding Rattle.dt_model.specs.declared.statements.Expr.TheBlock.hidden-the_row-Expr-0 denote.Hole.Carrier.hidden
factor_of-Times V a b = refl

-- a negation as a factor
pub factor_of-Negate : (V : List (List ℕ)) (a : Expr) → factor_of V (join.Negate a) ≡ Parens (Negated (factors_of V a))
unfolding Rattle.dt_model.specs.declared.statements.Expr.TheBlock.hidden-the_row-Expr-0 denote.Hole.Carrier.hidden
factor_of-Negate V a = refl

-- ---- the canonical text is theirs

-- variables with commas between them
pub list_text-map : (V : List (List ℕ)) (ps : List ℕ) (v : List ℕ) → list_text v (map (name_at V) ps) ≡ v ++ flat_map (λ w. 44 ∷ name_at V w) ps
list_text-map V [] v = sym (append-nil v)
list_text-map V (q ∷ qs) v =
    ap (λ r. v ++ 44 ∷ r) (list_text-map V qs (name_at V q)) ∙ ap (λ r. v ++ r) (sym (flat_map-cons (λ w. 44 ∷ name_at V w) q qs))

-- an access has the text of its tree
access_text : (V : List (List ℕ)) (t ps : List ℕ) → t ++ 40 ∷ (names_text V ps ++ 41 ∷ []) ≡ factor_text (access_of V t ps)
access_text V t [] = refl
access_text V t (p ∷ ps) = ap (λ r. t ++ 40 ∷ (r ++ 41 ∷ [])) (sym (list_text-map V ps (name_at V p)))

-- an expression has the text of its trees
pub expr_text-trees : (x : Expr) (V : List (List ℕ))
    → (expr_text V least.Sum x ≡ terms_text (terms_of V x)) × (expr_text V least.Product x ≡ factors_text (factors_of V x))
    × (expr_text V least.Factor x ≡ factor_text (factor_of V x))
unfolding Rattle.dt_model.specs.declared.statements.Expr.TheBlock.hidden-the_row-Expr-0 denote.Hole.Carrier.hidden
expr_text-trees (e.Literal n) V = (refl, refl, refl)
expr_text-trees (e.Access t ps) V = (access_text V t ps, access_text V t ps, access_text V t ps)
expr_text-trees (e.Plus' s (more_of-Expr a end_of-Expr) t (more_of-Expr b end_of-Expr)) V =
    let x = expr_text-trees a V in
    let y = expr_text-trees b V in
    let one = ap (λ r. r ++ 32 ∷ 43 ∷ 32 ∷ expr_text V least.Product b) x.0 ∙ ap (λ r. terms_text (terms_of V a) ++ 32 ∷ 43 ∷ 32 ∷ r) y.1 in
    (one, ap (λ r. 40 ∷ (r ++ 41 ∷ [])) one, ap (λ r. 40 ∷ (r ++ 41 ∷ [])) one)
expr_text-trees (e.Minus' s (more_of-Expr a end_of-Expr) t (more_of-Expr b end_of-Expr)) V =
    let x = expr_text-trees a V in
    let y = expr_text-trees b V in
    let one = ap (λ r. r ++ 32 ∷ 45 ∷ 32 ∷ expr_text V least.Product b) x.0 ∙ ap (λ r. terms_text (terms_of V a) ++ 32 ∷ 45 ∷ 32 ∷ r) y.1 in
    (one, ap (λ r. 40 ∷ (r ++ 41 ∷ [])) one, ap (λ r. 40 ∷ (r ++ 41 ∷ [])) one)
expr_text-trees (e.Times' s (more_of-Expr a end_of-Expr) t (more_of-Expr b end_of-Expr)) V =
    let x = expr_text-trees a V in
    let y = expr_text-trees b V in
    let one = ap (λ r. r ++ 32 ∷ 42 ∷ 32 ∷ expr_text V least.Factor b) x.1 ∙ ap (λ r. factors_text (factors_of V a) ++ 32 ∷ 42 ∷ 32 ∷ r) y.2 in
    (one, one, ap (λ r. 40 ∷ (r ++ 41 ∷ [])) one)
expr_text-trees (e.Negate' s (more_of-Expr a end_of-Expr)) V =
    let one = ap (λ r. 45 ∷ r) (expr_text-trees a V).1 in
    (one, ap (λ r. 40 ∷ (r ++ 41 ∷ [])) one, ap (λ r. 40 ∷ (r ++ 41 ∷ [])) one)
