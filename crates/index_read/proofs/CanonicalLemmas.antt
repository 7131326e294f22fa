-- The canonical text of a sum, a difference, a product and a negation, as code matches them.
use Rattle.std.proofs.Common.{◌≡◌, ℕ, ◌++◌, Bool, true, false, cond, List, [], ◌∷◌, refl, ap, ◌∙◌}
use Rattle.std.specs.Prelude.{Result, Ok, Err, OnOk}
use Rattle.std.proofs.lemmas.List.{append_assoc, append-nil}
use Rattle.dt_model.specs.declared.statements.Expr.{Expr}
use Rattle.dt_model.specs.declared.statements.Expr.TheViews as join
use Rattle.index_read.specs.declared.write.Precedence.{Precedence}
use Rattle.index_read.specs.declared.write.Precedence.TheVariants as least
use Rattle.index_read.specs.Canonical.{enclose, encloses_sum, encloses_product, expr_text}

-- a sum
pub expr_text_plus : (V : List (List ℕ)) (p : Precedence) (a b : Expr)
    → expr_text V p (join.Plus a b) ≡ enclose (encloses_sum p) (expr_text V least.Sum a ++ 32 ∷ 43 ∷ 32 ∷ expr_text V least.Product b)
unfolding Rattle.dt_model.specs.declared.statements.Expr.TheBlock.hidden-the_row-Expr-0 denote.Hole.Carrier.hidden
expr_text_plus V p a b = refl

-- a difference
pub expr_text_minus : (V : List (List ℕ)) (p : Precedence) (a b : Expr)
    → expr_text V p (join.Minus a b) ≡ enclose (encloses_sum p) (expr_text V least.Sum a ++ 32 ∷ 45 ∷ 32 ∷ expr_text V least.Product b)
unfolding Rattle.dt_model.specs.declared.statements.Expr.TheBlock.hidden-the_row-Expr-0 denote.Hole.Carrier.hidden
expr_text_minus V p a b = refl

-- a product
pub expr_text_times : (V : List (List ℕ)) (p : Precedence) (a b : Expr)
    → expr_text V p (join.Times a b) ≡ enclose (encloses_product p) (expr_text V least.Product a ++ 32 ∷ 42 ∷ 32 ∷ expr_text V least.Factor b)
unfolding Rattle.dt_model.specs.declared.statements.Expr.TheBlock.hidden-the_row-Expr-0 denote.Hole.Carrier.hidden
expr_text_times V p a b = refl

-- a negation
pub expr_text_negate : (V : List (List ℕ)) (p : Precedence) (a : Expr)
    → expr_text V p (join.Negate a) ≡ enclose (encloses_sum p) (45 ∷ expr_text V least.Product a)
unfolding Rattle.dt_model.specs.declared.statements.Expr.TheBlock.hidden-the_row-Expr-0 denote.Hole.Carrier.hidden
expr_text_negate V p a = refl

-- what holds where a call succeeds, and follows from its clause
pub on_ok : {A E : Type 0} (r : Result A E) (P Q : Type 0) → OnOk r P → (P → Q) → OnOk r Q
on_ok (Ok a) P Q h f = f h
on_ok (Err e) P Q h f = tt

-- a text that is written piece by piece: an opening parenthesis, two parts and a closing parenthesis
enclose-pieces : (e : Bool) (old first second third new x y : List ℕ) → first ≡ old ++ cond e (40 ∷ []) [] → second ≡ first ++ x → third ≡ second ++ y
    → new ≡ third ++ cond e (41 ∷ []) [] → new ≡ old ++ enclose e (x ++ y)
enclose-pieces true old first second third new x y f s t n =
    n ∙ ap (λ r. r ++ 41 ∷ []) (t ∙ ap (λ r. r ++ y) (s ∙ ap (λ r. r ++ x) f)) ∙ simp append_assoc refl
enclose-pieces false old first second third new x y f s t n =
    n ∙ ap (λ r. r ++ []) (t ∙ ap (λ r. r ++ y) (s ∙ ap (λ r. r ++ x) f)) ∙ simp (append_assoc, append-nil) refl

-- two operands and what stands between them are written
pub written_pair : (V : List (List ℕ)) (p q : Precedence) (f e : Bool) (a a' b b' : Expr) (between old m1 m2 m3 m4 new : List ℕ) → f ≡ e → a' ≡ a → b' ≡ b
    → m1 ≡ old ++ cond f (40 ∷ []) [] → m2 ≡ m1 ++ expr_text V p a' → m3 ≡ m2 ++ between → m4 ≡ m3 ++ expr_text V q b' → new ≡ m4 ++ cond f (41 ∷ []) []
    → new ≡ old ++ enclose e (expr_text V p a ++ (between ++ expr_text V q b))
written_pair V p q f e a a' b b' between old m1 m2 m3 m4 new g x y h1 h2 h3 h4 h5 =
    let first : m1 ≡ old ++ cond e (40 ∷ []) [] = h1 ∙ ap (λ t. old ++ cond t (40 ∷ []) []) g in
    let left : m2 ≡ m1 ++ expr_text V p a = h2 ∙ ap (λ t. m1 ++ expr_text V p t) x in
    let both : m4 ≡ m2 ++ (between ++ expr_text V q b) = h4 ∙ ap (λ t. t ++ expr_text V q b') h3 ∙ append_assoc m2 between (expr_text V q b')
    ∙ ap (λ t. m2 ++ (between ++ expr_text V q t)) y in
    let last : new ≡ m4 ++ cond e (41 ∷ []) [] = h5 ∙ ap (λ t. m4 ++ cond t (41 ∷ []) []) g in
    enclose-pieces e old m1 m2 m4 new (expr_text V p a) (between ++ expr_text V q b) first left both last

-- a minus and its operand are written
pub written_negation : (V : List (List ℕ)) (q : Precedence) (f e : Bool) (a a' : Expr) (old m1 m2 m3 new : List ℕ) → f ≡ e → a' ≡ a
    → m1 ≡ old ++ cond f (40 ∷ []) [] → m2 ≡ m1 ++ 45 ∷ [] → m3 ≡ m2 ++ expr_text V q a' → new ≡ m3 ++ cond f (41 ∷ []) []
    → new ≡ old ++ enclose e (45 ∷ expr_text V q a)
written_negation V q f e a a' old m1 m2 m3 new g x h1 h2 h3 h4 =
    let first : m1 ≡ old ++ cond e (40 ∷ []) [] = h1 ∙ ap (λ t. old ++ cond t (40 ∷ []) []) g in
    let operand : m3 ≡ m2 ++ expr_text V q a = h3 ∙ ap (λ t. m2 ++ expr_text V q t) x in
    let last : new ≡ m3 ++ cond e (41 ∷ []) [] = h4 ∙ ap (λ t. m3 ++ cond t (41 ∷ []) []) g in
    enclose-pieces e old m1 m2 m3 new (45 ∷ []) (expr_text V q a) first h2 operand last
