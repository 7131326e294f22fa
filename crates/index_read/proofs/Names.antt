-- The variables that have been read, by first appearance.
use Rattle.std.proofs.Common.{◌≡◌, ℕ, ◌++◌, List, [], ◌∷◌, refl, sym, ◌∙◌, Some, None}
use Rattle.std.specs.Prelude.{IfSome}
use Rattle.std.proofs.lemmas.List.{append_assoc, append-nil}
use Rattle.index_read.specs.declared.lexer.Token.{Token}
use Rattle.index_read.specs.declared.lexer.Token.TheVariants as a
use Rattle.index_read.specs.Grammar.{Factor, Number, Access, Parens, Factors, Left}
use Rattle.index_read.specs.Meaning.{factor_names, factors_names, terms_names, left_names}
use Rattle.index_read.proofs.Machine.{Sum, None', Minus', Plus', Less', Before, before, State, S0, S1, S2, S2m, S3, S4, S5, S6, S7, S8, S8m, S9, S10}
use Rattle.index_read.proofs.Machine.{closed, after, bare, leave, next}

-- the variables before a term
abbrev pub sum_names : Sum → List (List ℕ)
sum_names None' = []
sum_names Minus' = []
sum_names (Plus' e) = terms_names e
sum_names (Less' e) = terms_names e

-- the variables before a factor
abbrev pub before_names : Before → List (List ℕ)
before_names (before s None) = sum_names s
before_names (before s (Some fs)) = sum_names s ++ factors_names fs

-- the variables up to the open parenthesis in front
abbrev pub outer_names : Left → List Before → List (List ℕ)
outer_names l [] = left_names l
outer_names l (p ∷ o) = outer_names l o ++ before_names p

-- the variables up to a state
abbrev pub names : State → List (List ℕ)
names S0 = []
names (S1 n) = []
names (S2 n) = []
names (S2m n v vs) = v ∷ vs
names (S3 n v vs) = v ∷ vs
names (S4 n v vs) = v ∷ vs
names (S5 l o) = outer_names l o
names (S6 l o p) = outer_names l o ++ before_names p
names (S7 l o p t) = outer_names l o ++ before_names p
names (S8 l o p t) = outer_names l o ++ before_names p
names (S8m l o p t v vs) = (outer_names l o ++ before_names p) ++ v ∷ vs
names (S9 l o p t v vs) = (outer_names l o ++ before_names p) ++ v ∷ vs
names (S10 l o s fs) = outer_names l o ++ (sum_names s ++ factors_names fs)

-- the variable that a token adds where one is expected
abbrev pub name_at : State → Token → List (List ℕ)
name_at (S2 n) (a.Word v) = v ∷ []
name_at (S2m n v vs) (a.Word w) = w ∷ []
name_at (S8 l o p t) (a.Word v) = v ∷ []
name_at (S8m l o p t v vs) (a.Word w) = w ∷ []
name_at s t = []

-- behind one more factor
pub after_names : (l : Left) (o : List Before) (p : Before) (f : Factor) → names (after l o p f) ≡ (outer_names l o ++ before_names p) ++ factor_names f
after_names l o (before s None) f = sym (append_assoc (outer_names l o) (sum_names s) (factor_names f))
after_names l o (before s (Some fs)) f = simp append_assoc refl

-- of terms up to the one in front
pub closed_names : (s : Sum) (fs : Factors) → terms_names (closed s fs) ≡ sum_names s ++ factors_names fs
closed_names None' fs = refl
closed_names Minus' fs = refl
closed_names (Plus' e) fs = refl
closed_names (Less' e) fs = refl

leave_names : (l : Left) (o : List Before) (s : Sum) (fs : Factors) → IfSome (leave l o (closed s fs)) (λ u. names u ≡ names (S10 l o s fs) ++ [])
leave_names l [] s fs = tt
leave_names l (p ∷ o) s fs = after_names l o p (Parens (closed s fs)) ∙ rw (closed_names s fs) (simp (append_assoc, append-nil) refl)

-- each step adds its variable
pub next_names : (s : State) (t : Token) → IfSome (next s t) (λ u. names u ≡ names s ++ name_at s t)
next_names S0 (a.Word n) = refl
next_names (S1 n) a.Open = refl
next_names (S1 n) a.Equals = refl
next_names (S2 n) (a.Word v) = refl
next_names (S2m n v vs) (a.Word w) = refl
next_names (S3 n v vs) a.Comma = simp append-nil refl
next_names (S3 n v vs) a.Close = simp append-nil refl
next_names (S4 n v vs) a.Equals = simp append-nil refl
next_names (S5 l o) (a.Word t) = refl
next_names (S5 l o) (a.Number k) = after_names l o bare (Number k) ∙ simp append-nil refl
next_names (S5 l o) a.Open = refl
next_names (S5 l o) a.Minus = refl
next_names (S6 l o p) (a.Word t) = simp append-nil refl
next_names (S6 l o p) (a.Number k) = after_names l o p (Number k)
next_names (S6 l o p) a.Open = simp append-nil refl
next_names (S7 l o p t) a.Open = simp append-nil refl
next_names (S8 l o p t) (a.Word v) = refl
next_names (S8m l o p t v vs) (a.Word w) = simp append_assoc refl
next_names (S9 l o p t v vs) a.Comma = simp append-nil refl
next_names (S9 l o p t v vs) a.Close = after_names l o p (Access t v vs) ∙ simp append-nil refl
next_names (S10 l o s fs) a.Close = leave_names l o s fs
next_names (S10 l o s fs) a.Plus = rw (closed_names s fs) (simp append-nil refl)
next_names (S10 l o s fs) a.Minus = rw (closed_names s fs) (simp append-nil refl)
next_names (S10 l o s fs) a.Times = simp append-nil refl
next_names s t = tt
