-- The counts of a scan are those of the tree.
use Rattle.std.proofs.Common.{◌≡◌, ℕ, ◌+◌, List, [], ◌∷◌, refl, ◌∙◌, Some, None, arith}
use Rattle.std.specs.Prelude.{IfSome}
use Rattle.index_read.specs.declared.lexer.Token.{Token}
use Rattle.index_read.specs.declared.lexer.Token.TheVariants as a
use Rattle.index_read.specs.Grammar.{Factor, Number, Access, Parens, Factors, One, Times, Terms, First, Negated, Plus, Minus, Left}
use Rattle.index_read.proofs.Machine.{Sum, None', Minus', Plus', Less', Before, before, State, S0, S1, S2, S2m, S3, S4, S5, S6, S7, S8, S8m, S9, S10}
use Rattle.index_read.proofs.Machine.{closed, after, bare, leave, next}

-- the sum over an expression's leaves, where an access weighs x and a number y
abbrev mutual
  pub factor_weight : Factor → ℕ → ℕ → ℕ
  factor_weight (Number n) x y = y
  factor_weight (Access t v vs) x y = x
  factor_weight (Parens e) x y = terms_weight e x y

  pub factors_weight : Factors → ℕ → ℕ → ℕ
  factors_weight (One f) x y = factor_weight f x y
  factors_weight (Times fs f) x y = factors_weight fs x y + factor_weight f x y

  pub terms_weight : Terms → ℕ → ℕ → ℕ
  terms_weight (First fs) x y = factors_weight fs x y
  terms_weight (Negated fs) x y = factors_weight fs x y
  terms_weight (Plus e fs) x y = terms_weight e x y + factors_weight fs x y
  terms_weight (Minus e fs) x y = terms_weight e x y + factors_weight fs x y

-- of what is before a term
abbrev pub sum_weight : Sum → ℕ → ℕ → ℕ
sum_weight None' x y = 0
sum_weight Minus' x y = 0
sum_weight (Plus' e) x y = terms_weight e x y
sum_weight (Less' e) x y = terms_weight e x y

-- of what is before a factor
abbrev pub before_weight : Before → ℕ → ℕ → ℕ
before_weight (before s None) x y = sum_weight s x y
before_weight (before s (Some fs)) x y = sum_weight s x y + factors_weight fs x y

-- of the expressions that are open
abbrev pub outer_weight : List Before → ℕ → ℕ → ℕ
outer_weight [] x y = 0
outer_weight (p ∷ o) x y = outer_weight o x y + before_weight p x y

-- of what has been read at a state
abbrev pub weight : State → ℕ → ℕ → ℕ
weight (S5 l o) x y = outer_weight o x y
weight (S6 l o p) x y = outer_weight o x y + before_weight p x y
weight (S7 l o p t) x y = outer_weight o x y + before_weight p x y + x
weight (S8 l o p t) x y = outer_weight o x y + before_weight p x y + x
weight (S8m l o p t v vs) x y = outer_weight o x y + before_weight p x y + x
weight (S9 l o p t v vs) x y = outer_weight o x y + before_weight p x y + x
weight (S10 l o s fs) x y = outer_weight o x y + (sum_weight s x y + factors_weight fs x y)
weight s x y = 0

-- of a token at a state
abbrev pub weight_at : State → Token → ℕ → ℕ → ℕ
weight_at (S5 l o) (a.Word t) x y = x
weight_at (S6 l o p) (a.Word t) x y = x
weight_at (S5 l o) (a.Number k) x y = y
weight_at (S6 l o p) (a.Number k) x y = y
weight_at s t x y = 0

after_weight : (l : Left) (o : List Before) (p : Before) (f : Factor) (x y : ℕ)
    → weight (after l o p f) x y ≡ outer_weight o x y + before_weight p x y + factor_weight f x y
after_weight l o (before s None) f x y = omega arith
after_weight l o (before s (Some fs)) f x y = omega arith

-- terms up to the one in front have the weights of both parts
pub closed_weight : (s : Sum) (fs : Factors) (x y : ℕ) → terms_weight (closed s fs) x y ≡ sum_weight s x y + factors_weight fs x y
closed_weight None' fs x y = omega arith
closed_weight Minus' fs x y = omega arith
closed_weight (Plus' e) fs x y = refl
closed_weight (Less' e) fs x y = refl

leave_weight : (l : Left) (o : List Before) (s : Sum) (fs : Factors) (x y : ℕ)
    → IfSome (leave l o (closed s fs)) (λ u. weight u x y ≡ weight (S10 l o s fs) x y + 0)
leave_weight l [] s fs x y = tt
leave_weight l (p ∷ o) s fs x y = after_weight l o p (Parens (closed s fs)) x y ∙ omega (arith, closed_weight s fs x y)

-- each step adds the weight of its token
pub next_weight : (s : State) (t : Token) (x y : ℕ) → IfSome (next s t) (λ u. weight u x y ≡ weight s x y + weight_at s t x y)
next_weight S0 (a.Word n) x y = omega arith
next_weight (S1 n) a.Open x y = omega arith
next_weight (S1 n) a.Equals x y = omega arith
next_weight (S2 n) (a.Word v) x y = omega arith
next_weight (S2m n v vs) (a.Word w) x y = omega arith
next_weight (S3 n v vs) a.Comma x y = omega arith
next_weight (S3 n v vs) a.Close x y = omega arith
next_weight (S4 n v vs) a.Equals x y = omega arith
next_weight (S5 l o) (a.Word t) x y = omega arith
next_weight (S5 l o) (a.Number k) x y = after_weight l o bare (Number k) x y ∙ omega arith
next_weight (S5 l o) a.Open x y = omega arith
next_weight (S5 l o) a.Minus x y = omega arith
next_weight (S6 l o p) (a.Word t) x y = omega arith
next_weight (S6 l o p) (a.Number k) x y = after_weight l o p (Number k) x y
next_weight (S6 l o p) a.Open x y = omega arith
next_weight (S7 l o p t) a.Open x y = omega arith
next_weight (S8 l o p t) (a.Word v) x y = omega arith
next_weight (S8m l o p t v vs) (a.Word w) x y = omega arith
next_weight (S9 l o p t v vs) a.Comma x y = omega arith
next_weight (S9 l o p t v vs) a.Close x y = after_weight l o p (Access t v vs) x y ∙ omega arith
next_weight (S10 l o s fs) a.Close x y = leave_weight l o s fs x y
next_weight (S10 l o s fs) a.Plus x y = omega (arith, closed_weight s fs x y)
next_weight (S10 l o s fs) a.Minus x y = omega (arith, closed_weight s fs x y)
next_weight (S10 l o s fs) a.Times x y = omega arith
next_weight s t x y = tt
