-- Each step reads its token.
use Rattle.std.proofs.Common.{◌≡◌, ℕ, ◌++◌, List, [], ◌∷◌, refl, ap, sym, ◌∙◌, Some, None}
use Rattle.std.specs.Prelude.{IfSome}
use Rattle.std.proofs.lemmas.List.{append_assoc, append-nil}
use Rattle.index_read.specs.declared.lexer.Token.{Token}
use Rattle.index_read.specs.declared.lexer.Token.TheVariants as a
use Rattle.index_read.specs.Grammar.{Factor, Number, Access, Parens, Factors, Left, list_tokens, factor_tokens, factors_tokens, terms_tokens}
use Rattle.index_read.proofs.Machine.{Sum, None', Minus', Plus', Less', Before, before, State, S0, S1, S2, S2m, S3, S4, S5, S6, S7, S8, S8m, S9, S10}
use Rattle.index_read.proofs.Machine.{closed, after, bare, leave, next, sum_read, outer_read, here_read, read}

-- one more variable
pub list_tokens-more : (v w : List ℕ) (vs : List (List ℕ)) → list_tokens v (vs ++ w ∷ []) ≡ (list_tokens v vs ++ a.Comma ∷ []) ++ a.Word w ∷ []
list_tokens-more v w [] = refl
list_tokens-more v w (u ∷ us) = ap (λ ts. a.Word v ∷ a.Comma ∷ ts) (list_tokens-more u w us)

-- one more factor
pub after-read : (l : Left) (o : List Before) (p : Before) (f : Factor) → read (after l o p f) ≡ here_read l o p ++ factor_tokens f
after-read l o (before s None) f = sym (append_assoc (outer_read l o) (sum_read s) (factor_tokens f))
after-read l o (before s (Some fs)) f =
    simp append_assoc refl

-- one more term
pub closed-read : (s : Sum) (fs : Factors) → terms_tokens (closed s fs) ≡ sum_read s ++ factors_tokens fs
closed-read None' fs = refl
closed-read Minus' fs = refl
closed-read (Plus' e) fs = sym (append_assoc (terms_tokens e) (a.Plus ∷ []) (factors_tokens fs))
closed-read (Less' e) fs = sym (append_assoc (terms_tokens e) (a.Minus ∷ []) (factors_tokens fs))

-- a closing parenthesis reads itself
pub leave-read : (l : Left) (o : List Before) (s : Sum) (fs : Factors) → IfSome (leave l o (closed s fs)) (λ u. read u ≡ read (S10 l o s fs) ++ a.Close ∷ [])
leave-read l [] s fs = tt
leave-read l (p ∷ o) s fs = after-read l o p (Parens (closed s fs)) ∙ rw (closed-read s fs) (simp append_assoc refl)

-- a step reads its token
pub next-read : (s : State) (t : Token) → IfSome (next s t) (λ u. read u ≡ read s ++ t ∷ [])
next-read S0 (a.Word n) = refl
next-read (S1 n) a.Open = refl
next-read (S1 n) a.Equals = refl
next-read (S2 n) (a.Word v) = refl
next-read (S2m n v vs) (a.Word w) = ap (λ ts. a.Word n ∷ a.Open ∷ ts) (list_tokens-more v w vs)
next-read (S3 n v vs) a.Comma = refl
next-read (S3 n v vs) a.Close = refl
next-read (S4 n v vs) a.Equals = refl
next-read (S5 l o) (a.Word t) = simp append-nil refl
next-read (S5 l o) (a.Number k) = after-read l o bare (Number k) ∙ simp append-nil refl
next-read (S5 l o) a.Open = simp append-nil refl
next-read (S5 l o) a.Minus = refl
next-read (S6 l o p) (a.Word t) = refl
next-read (S6 l o p) (a.Number k) = after-read l o p (Number k)
next-read (S6 l o p) a.Open = refl
next-read (S7 l o p t) a.Open = simp append_assoc refl
next-read (S8 l o p t) (a.Word v) = simp append_assoc refl
next-read (S8m l o p t v vs) (a.Word w) = rw (list_tokens-more v w vs) (simp append_assoc refl)
next-read (S9 l o p t v vs) a.Comma = simp append_assoc refl
next-read (S9 l o p t v vs) a.Close = after-read l o p (Access t v vs) ∙ simp append_assoc refl
next-read (S10 l o s fs) a.Close = leave-read l o s fs
next-read (S10 l o s fs) a.Plus = rw (closed-read s fs) (simp append_assoc refl)
next-read (S10 l o s fs) a.Minus = rw (closed-read s fs) (simp append_assoc refl)
next-read (S10 l o s fs) a.Times = simp append_assoc refl
next-read s t = tt
