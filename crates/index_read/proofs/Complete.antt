-- A statement as it is written is read, and in one way.
use Rattle.std.proofs.Common.{◌≡◌, ℕ, ◌++◌, List, [], ◌∷◌, refl, ap, sym, ◌∙◌, Some, None}
use Rattle.std.proofs.lemmas.List.{append_assoc}
use Rattle.index_read.specs.declared.lexer.Token.{Token}
use Rattle.index_read.specs.declared.lexer.Token.TheVariants as a
use Rattle.index_read.specs.Grammar.{Factor, Number, Access, Parens, Factors, One, Times, Terms, First, Negated, Plus, Minus, Left, Bare, Listing}
use Rattle.index_read.specs.Grammar.{list_tokens, factor_tokens, factors_tokens, terms_tokens, left_tokens, stmt_tokens}
use Rattle.index_read.proofs.Machine.{Sum, None', Minus', Plus', Less', Before, before, S0, S2, S2m, S4, S5, S6, S8, S8m, S10, closed, after, bare, run}
use Rattle.index_read.proofs.Machine.{sum_of, last_of}

-- terms are those before the last one, and the last one
pub closed-same : (e : Terms) → closed (sum_of e) (last_of e) ≡ e
closed-same (First fs) = refl
closed-same (Negated fs) = refl
closed-same (Plus e fs) = refl
closed-same (Minus e fs) = refl

-- ---- lists of variables

more_run : (w : List ℕ) (ws : List (List ℕ)) (l : Left) (o : List Before) (p : Before) (t v : List ℕ) (vs : List (List ℕ)) (ts : List Token)
    → run (S8m l o p t v vs) (list_tokens w ws ++ a.Close ∷ ts) ≡ run (after l o p (Access t v (vs ++ w ∷ ws))) ts
more_run w [] l o p t v vs ts = refl
more_run w (x ∷ xs) l o p t v vs ts = more_run x xs l o p t v (vs ++ w ∷ []) ts
    ∙ ap (λ us. run (after l o p (Access t v us)) ts) (append_assoc vs (w ∷ []) (x ∷ xs))

list_run : (v : List ℕ) (vs : List (List ℕ)) (l : Left) (o : List Before) (p : Before) (t : List ℕ) (ts : List Token)
    → run (S8 l o p t) (list_tokens v vs ++ a.Close ∷ ts) ≡ run (after l o p (Access t v vs)) ts
list_run v [] l o p t ts = refl
list_run v (w ∷ ws) l o p t ts = more_run w ws l o p t v [] ts

left_more : (w : List ℕ) (ws : List (List ℕ)) (n v : List ℕ) (vs : List (List ℕ)) (ts : List Token)
    → run (S2m n v vs) (list_tokens w ws ++ a.Close ∷ ts) ≡ run (S4 n v (vs ++ w ∷ ws)) ts
left_more w [] n v vs ts = refl
left_more w (x ∷ xs) n v vs ts = left_more x xs n v (vs ++ w ∷ []) ts ∙ ap (λ us. run (S4 n v us) ts) (append_assoc vs (w ∷ []) (x ∷ xs))

left_list : (v : List ℕ) (vs : List (List ℕ)) (n : List ℕ) (ts : List Token)
    → run (S2 n) (list_tokens v vs ++ a.Close ∷ ts) ≡ run (S4 n v vs) ts
left_list v [] n ts = refl
left_list v (w ∷ ws) n ts = left_more w ws n v [] ts

-- a left side is read
pub left_run : (l : Left) (ts : List Token) → run S0 (left_tokens l ++ a.Equals ∷ ts) ≡ run (S5 l []) ts
left_run (Bare n) ts = refl
left_run (Listing n v vs) ts =
    ap (λ us. run (S2 n) us) (append_assoc (list_tokens v vs) (a.Close ∷ []) (a.Equals ∷ ts)) ∙ left_list v vs n (a.Equals ∷ ts)

-- ---- expressions

-- the first factor of an expression is read as any other
first_factor : (f : Factor) (l : Left) (o : List Before) (ts : List Token) → run (S5 l o) (factor_tokens f ++ ts) ≡ run (S6 l o bare) (factor_tokens f ++ ts)
first_factor (Number n) l o ts = refl
first_factor (Access t v vs) l o ts = refl
first_factor (Parens e) l o ts = refl

first_factors : (fs : Factors) (l : Left) (o : List Before) (ts : List Token)
    → run (S5 l o) (factors_tokens fs ++ ts) ≡ run (S6 l o bare) (factors_tokens fs ++ ts)
first_factors (One f) l o ts = first_factor f l o ts
first_factors (Times fs f) l o ts =
    let split = append_assoc (factors_tokens fs) (a.Times ∷ factor_tokens f) ts in
    ap (run (S5 l o)) split ∙ first_factors fs l o (a.Times ∷ (factor_tokens f ++ ts)) ∙ sym (ap (run (S6 l o bare)) split)

-- a factor, factors and terms are read
mutual
  pub factor_run : (f : Factor) (l : Left) (o : List Before) (p : Before) (ts : List Token) → run (S6 l o p) (factor_tokens f ++ ts) ≡ run (after l o p f) ts
  factor_run (Number n) l o p ts = refl
  factor_run (Access t v vs) l o p ts = ap (λ us. run (S8 l o p t) us) (append_assoc (list_tokens v vs) (a.Close ∷ []) ts) ∙ list_run v vs l o p t ts
  factor_run (Parens e) l o p ts =
      ap (λ us. run (S5 l (p ∷ o)) us) (append_assoc (terms_tokens e) (a.Close ∷ []) ts)
      ∙ terms_run e l (p ∷ o) (a.Close ∷ ts)
      ∙ ap (λ r. run (after l o p (Parens r)) ts) (closed-same e)

  pub factors_run : (fs : Factors) (l : Left) (o : List Before) (s : Sum) (ts : List Token)
      → run (S6 l o (before s None)) (factors_tokens fs ++ ts) ≡ run (S10 l o s fs) ts
  factors_run (One f) l o s ts = factor_run f l o (before s None) ts
  factors_run (Times fs f) l o s ts =
      ap (run (S6 l o (before s None))) (append_assoc (factors_tokens fs) (a.Times ∷ factor_tokens f) ts)
      ∙ factors_run fs l o s (a.Times ∷ (factor_tokens f ++ ts))
      ∙ factor_run f l o (before s (Some fs)) ts

  pub terms_run : (e : Terms) (l : Left) (o : List Before) (ts : List Token) → run (S5 l o) (terms_tokens e ++ ts) ≡ run (S10 l o (sum_of e) (last_of e)) ts
  terms_run (First fs) l o ts = first_factors fs l o ts ∙ factors_run fs l o None' ts
  terms_run (Negated fs) l o ts = factors_run fs l o Minus' ts
  terms_run (Plus e fs) l o ts =
      ap (run (S5 l o)) (append_assoc (terms_tokens e) (a.Plus ∷ factors_tokens fs) ts)
      ∙ terms_run e l o (a.Plus ∷ (factors_tokens fs ++ ts))
      ∙ ap (λ r. run (S6 l o (before (Plus' r) None)) (factors_tokens fs ++ ts)) (closed-same e)
      ∙ factors_run fs l o (Plus' e) ts
  terms_run (Minus e fs) l o ts =
      ap (run (S5 l o)) (append_assoc (terms_tokens e) (a.Minus ∷ factors_tokens fs) ts)
      ∙ terms_run e l o (a.Minus ∷ (factors_tokens fs ++ ts))
      ∙ ap (λ r. run (S6 l o (before (Less' r) None)) (factors_tokens fs ++ ts)) (closed-same e)
      ∙ factors_run fs l o (Less' e) ts

-- a statement is read
pub stmt_run : (l : Left) (e : Terms) (ts : List Token) → run S0 (stmt_tokens l e ++ ts) ≡ run (S10 l [] (sum_of e) (last_of e)) ts
stmt_run l e ts =
    ap (run S0) (append_assoc (left_tokens l) (a.Equals ∷ terms_tokens e) ts) ∙ left_run l (terms_tokens e ++ ts) ∙ terms_run e l [] ts
