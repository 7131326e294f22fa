-- What each token is that has been read at a state.
use Rattle.std.proofs.Common.{◌≡◌, ℕ, ◌++◌, List, [], ◌∷◌, length, refl, ap, sym, ◌∙◌, Option, Some, None, arith, nat_lt, true}
use Rattle.std.specs.Prelude.{⊤}
use Rattle.std.proofs.lemmas.Bool.Decides.{nat_tests}
use Rattle.std.proofs.lemmas.List.{append_assoc, append-nil}
use Rattle.index_read.specs.declared.lexer.Token.{Token}
use Rattle.index_read.specs.declared.lexer.Token.TheVariants as a
use Rattle.index_read.specs.declared.roles.Place.{Place}
use Rattle.index_read.specs.declared.roles.Place.TheVariants as at
use Rattle.index_read.specs.declared.roles.Role.{Role}
use Rattle.index_read.specs.declared.roles.Role.TheVariants as the
use Rattle.index_read.specs.Roles.{role_of}
use Rattle.index_read.specs.Excess.{list_roles, factor_roles, factors_roles, terms_roles, left_list_roles, left_roles, stmt_roles}
use Rattle.index_read.specs.Grammar.{Factor, Number, Access, Parens, Factors, Left}
use Rattle.index_read.proofs.Machine.{Sum, None', Minus', Plus', Less', Before, before, State, S0, S1, S2, S2m, S3, S4, S5, S6, S7, S8, S8m, S9, S10}
use Rattle.index_read.proofs.Machine.{closed, after, bare, leave, next}
use Rattle.index_read.proofs.Agree.{place, depth}

-- ---- what has been read

-- before a term
abbrev pub sum_roles : Sum → List Role
sum_roles None' = []
sum_roles Minus' = the.Negate ∷ []
sum_roles (Plus' e) = terms_roles e ++ the.Plus ∷ []
sum_roles (Less' e) = terms_roles e ++ the.Minus ∷ []

-- before a factor
abbrev pub before_roles : Before → List Role
before_roles (before s None) = sum_roles s
before_roles (before s (Some fs)) = sum_roles s ++ (factors_roles fs ++ the.Times ∷ [])

-- up to the open parenthesis in front
abbrev pub outer_roles : Left → List Before → List Role
outer_roles l [] = left_roles l ++ the.Mark ∷ []
outer_roles l (p ∷ o) = (outer_roles l o ++ before_roles p) ++ the.Group ∷ []

-- up to a factor
abbrev pub here_roles : Left → List Before → Before → List Role
here_roles l o p = outer_roles l o ++ before_roles p

-- up to a state
abbrev pub roles : State → List Role
roles S0 = []
roles (S1 n) = the.Target n ∷ []
roles (S2 n) = the.Target n ∷ the.Mark ∷ []
roles (S2m n v vs) = the.Target n ∷ the.Mark ∷ (left_list_roles v vs ++ the.Mark ∷ [])
roles (S3 n v vs) = the.Target n ∷ the.Mark ∷ left_list_roles v vs
roles (S4 n v vs) = the.Target n ∷ the.Mark ∷ (left_list_roles v vs ++ the.Mark ∷ [])
roles (S5 l o) = outer_roles l o
roles (S6 l o p) = here_roles l o p
roles (S7 l o p t) = here_roles l o p ++ the.Tensor t ∷ []
roles (S8 l o p t) = here_roles l o p ++ the.Tensor t ∷ the.Mark ∷ []
roles (S8m l o p t v vs) = here_roles l o p ++ the.Tensor t ∷ the.Mark ∷ (list_roles v vs ++ the.Mark ∷ [])
roles (S9 l o p t v vs) = here_roles l o p ++ the.Tensor t ∷ the.Mark ∷ list_roles v vs
roles (S10 l o s fs) = outer_roles l o ++ (sum_roles s ++ factors_roles fs)

-- ---- one token more

list_more : (v w : List ℕ) (vs : List (List ℕ)) → list_roles v (vs ++ w ∷ []) ≡ (list_roles v vs ++ the.Mark ∷ []) ++ the.Variable w ∷ []
list_more v w [] = refl
list_more v w (u ∷ us) = ap (λ rs. the.Variable v ∷ the.Mark ∷ rs) (list_more u w us)

left_more : (v w : List ℕ) (vs : List (List ℕ)) → left_list_roles v (vs ++ w ∷ []) ≡ (left_list_roles v vs ++ the.Mark ∷ []) ++ the.LeftVariable w ∷ []
left_more v w [] = refl
left_more v w (u ∷ us) = ap (λ rs. the.LeftVariable v ∷ the.Mark ∷ rs) (left_more u w us)

after_roles : (l : Left) (o : List Before) (p : Before) (f : Factor) → roles (after l o p f) ≡ here_roles l o p ++ factor_roles f
after_roles l o (before s None) f = sym (append_assoc (outer_roles l o) (sum_roles s) (factor_roles f))
after_roles l o (before s (Some fs)) f = simp append_assoc refl

-- of terms up to the one in front
pub closed_roles : (s : Sum) (fs : Factors) → terms_roles (closed s fs) ≡ sum_roles s ++ factors_roles fs
closed_roles None' fs = refl
closed_roles Minus' fs = refl
closed_roles (Plus' e) fs = sym (append_assoc (terms_roles e) (the.Plus ∷ []) (factors_roles fs))
closed_roles (Less' e) fs = sym (append_assoc (terms_roles e) (the.Minus ∷ []) (factors_roles fs))

-- where everything has been read, these are the tokens of the statement
pub done_roles : (l : Left) (s : Sum) (fs : Factors) → roles (S10 l [] s fs) ≡ stmt_roles l (closed s fs)
done_roles l s fs = append_assoc (left_roles l) (the.Mark ∷ []) (sum_roles s ++ factors_roles fs)
    ∙ ap (λ rs. left_roles l ++ the.Mark ∷ rs) (sym (closed_roles s fs))

-- a step of the grammar reads the role of a table
abbrev pub ReadsRole : State → Option (Role × Place) → Option State → Type 0
ReadsRole u None o = ⊤
ReadsRole u (Some q) None = ⊤
ReadsRole u (Some q) (Some v) = roles v ≡ roles u ++ q.0 ∷ []

leave_roles : (l : Left) (o : List Before) (s : Sum) (fs : Factors) → ReadsRole (S10 l o s fs) (role_of at.After a.Close (length o)) (leave l o (closed s fs))
leave_roles l [] s fs = tt
leave_roles l (p ∷ o) s fs =
    let some : nat_lt 0 (length (p ∷ o)) ≡ true = grind (arith, nat_tests) in
    rw some (after_roles l o p (Parens (closed s fs)) ∙ rw (closed_roles s fs) (simp append_assoc refl))

-- each step reads the role of its token
pub next_roles : (u : State) (k : Token) → ReadsRole u (role_of (place u) k (depth u)) (next u k)
next_roles S0 (a.Word n) = refl
next_roles (S1 n) a.Open = refl
next_roles (S1 n) a.Equals = refl
next_roles (S2 n) (a.Word v) = refl
next_roles (S2m n v vs) (a.Word w) = ap (λ rs. the.Target n ∷ the.Mark ∷ rs) (left_more v w vs)
next_roles (S3 n v vs) a.Comma = refl
next_roles (S3 n v vs) a.Close = refl
next_roles (S4 n v vs) a.Equals = refl
next_roles (S5 l o) (a.Word t) = simp append-nil refl
next_roles (S5 l o) (a.Number k) = after_roles l o bare (Number k) ∙ simp append-nil refl
next_roles (S5 l o) a.Open = simp append-nil refl
next_roles (S5 l o) a.Minus = refl
next_roles (S6 l o p) (a.Word t) = refl
next_roles (S6 l o p) (a.Number k) = after_roles l o p (Number k)
next_roles (S6 l o p) a.Open = refl
next_roles (S7 l o p t) a.Open = simp append_assoc refl
next_roles (S8 l o p t) (a.Word v) = simp append_assoc refl
next_roles (S8m l o p t v vs) (a.Word w) = rw (list_more v w vs) (simp append_assoc refl)
next_roles (S9 l o p t v vs) a.Comma = simp append_assoc refl
next_roles (S9 l o p t v vs) a.Close = after_roles l o p (Access t v vs) ∙ simp append_assoc refl
next_roles (S10 l o s fs) a.Close = leave_roles l o s fs
next_roles (S10 l o s fs) a.Plus = rw (closed_roles s fs) (simp append_assoc refl)
next_roles (S10 l o s fs) a.Minus = rw (closed_roles s fs) (simp append_assoc refl)
next_roles (S10 l o s fs) a.Times = simp append_assoc refl
next_roles u k = tt
