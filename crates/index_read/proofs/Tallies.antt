-- What a scan counts over a statement as it is written, apart from the text.
use Rattle.std.proofs.Common.{◌≡◌, ℕ, ◌+◌, ◌-◌, ◌++◌, Bool, true, false, cond, List, [], ◌∷◌, refl, ap, sym, ◌∙◌, Option, Some, None, Ok, Err, arith, nat_lt}
use Rattle.std.specs.Prelude.{Result}
use Rattle.std.specs.Option.{option_and_then}
use Rattle.std.proofs.lemmas.Bool.Decides.{nat_tests}
use Rattle.std.proofs.lemmas.List.{append_assoc, append-nil}
use Rattle.dt_model.specs.declared.limits.TheConstants.{MOST_ACCESSES, MOST_LITERALS, MOST_VARIABLES, MOST_PARENTHESES}
use Rattle.index_read.specs.declared.lexer.Token.{Token}
use Rattle.index_read.specs.declared.lexer.Token.TheVariants as a
use Rattle.index_read.specs.declared.roles.Place.{Place}
use Rattle.index_read.specs.declared.roles.Place.TheVariants as at
use Rattle.index_read.specs.declared.roles.Role.{Role}
use Rattle.index_read.specs.declared.roles.Role.TheVariants as the
use Rattle.index_read.specs.declared.scan.Scan.{Scan}
use Rattle.index_read.specs.declared.scan.Fault.{Fault}
use Rattle.index_read.specs.Scans.{at_first, step, in_limits, with_listed, with_variable}
use Rattle.index_read.specs.Grammar.{Factor, Number, Access, Parens, Factors, One, Times, Terms, First, Negated, Plus, Minus, Left, Bare, Listing}
use Rattle.index_read.specs.Grammar.{list_tokens, factor_tokens, factors_tokens, terms_tokens, left_tokens, stmt_tokens}

-- ---- counts

-- what has been counted
pub record Tally : Type 0 where
  pub accesses : ℕ
  pub literals : ℕ
  pub listed : ℕ
  pub vars : List (List ℕ)

-- a scan at a place, with so many open parentheses
abbrev pub scan_at : Place → ℕ → Tally → Scan
scan_at q d t = record { place = q; depth = d; accesses = t.accesses; literals = t.literals; listed = t.listed; vars = record { items = t.vars } }

-- one more access
abbrev pub tensor_tally : Tally → Option Tally
tensor_tally t = cond (nat_lt t.accesses MOST_ACCESSES) (Some (record t { accesses = t.accesses + 1; listed = 0 })) None

-- one more literal
abbrev pub number_tally : Option ℕ → Tally → Option Tally
number_tally None t = None
number_tally (Some n) t = cond (nat_lt t.literals MOST_LITERALS) (Some (record t { literals = t.literals + 1 })) None

-- with these variables, of which one more is in the list in front
abbrev pub listed_tally : Tally → Option (List (List ℕ)) → Option Tally
listed_tally t None = None
listed_tally t (Some vs) = Some (record t { listed = t.listed + 1; vars = vs })

-- one more variable of a list
abbrev pub variable_tally : List ℕ → Tally → Option Tally
variable_tally n t = cond (nat_lt t.listed MOST_VARIABLES) (listed_tally t (with_variable t.vars n)) None

-- a list of variables
abbrev pub list_tally : List ℕ → List (List ℕ) → Tally → Option Tally
list_tally v [] t = variable_tally v t
list_tally v (w ∷ ws) t = option_and_then (list_tally w ws) (variable_tally v t)

-- an access
abbrev pub access_tally : List ℕ → List (List ℕ) → Tally → Option Tally
access_tally v vs t = option_and_then (list_tally v vs) (tensor_tally t)

-- an expression inside so many parentheses
abbrev mutual
  pub factor_tally : Factor → ℕ → Tally → Option Tally
  factor_tally (Number n) d t = number_tally n t
  factor_tally (Access n v vs) d t = access_tally v vs t
  factor_tally (Parens e) d t = cond (nat_lt d MOST_PARENTHESES) (terms_tally e (d + 1) t) None

  pub factors_tally : Factors → ℕ → Tally → Option Tally
  factors_tally (One f) d t = factor_tally f d t
  factors_tally (Times fs f) d t = option_and_then (factor_tally f d) (factors_tally fs d t)

  pub terms_tally : Terms → ℕ → Tally → Option Tally
  terms_tally (First fs) d t = factors_tally fs d t
  terms_tally (Negated fs) d t = factors_tally fs d t
  terms_tally (Plus e fs) d t = option_and_then (factors_tally fs d) (terms_tally e d t)
  terms_tally (Minus e fs) d t = option_and_then (factors_tally fs d) (terms_tally e d t)

-- nothing
abbrev pub no_tally : Tally
no_tally = record { accesses = 0; literals = 0; listed = 0; vars = [] }

-- a left side
abbrev pub left_tally : Left → Option Tally
left_tally (Bare n) = Some no_tally
left_tally (Listing n v vs) = list_tally v vs no_tally

-- ---- runs of a scan

-- what follows where a step is made
abbrev pub go_on : (Scan → Option Scan) → Result (Scan × Role) Fault → Option Scan
go_on k (Err f) = None
go_on k (Ok r) = k r.0

-- a scan behind some more tokens, if none of them has a fault
abbrev pub scan_run : Scan → List Token → Option Scan
scan_run s [] = Some s
scan_run s (t ∷ ts) = go_on (λ r. scan_run r ts) (step s t)

step_cond : (role : Role) (b : Bool) (q : Place) (d : ℕ) (y : Tally) (k : Scan → Option Scan)
    → go_on k (in_limits role (cond b (Some (scan_at q d y)) None)) ≡ option_and_then (λ u. k (scan_at q d u)) (cond b (Some y) None)
step_cond role true q d y k = refl
step_cond role false q d y k = refl

step_listed : (role : Role) (b : Bool) (o : Option (List (List ℕ))) (q : Place) (d : ℕ) (t : Tally) (k : Scan → Option Scan)
    → go_on k (in_limits role (cond b (with_listed (scan_at q d t) o) None)) ≡ option_and_then (λ u. k (scan_at q d u)) (cond b (listed_tally t o) None)
step_listed role true None q d t k = refl
step_listed role true (Some vs) q d t k = refl
step_listed role false o q d t k = refl

-- one part after another
chain : (o : Option Tally) (f : Tally → Option Tally) (g h : Tally → Option Scan) → ((u : Tally) → g u ≡ option_and_then h (f u))
    → option_and_then g o ≡ option_and_then h (option_and_then f o)
chain None f g h e = refl
chain (Some u) f g h e = e u

-- ---- lists of variables

list_scan : (v : List ℕ) (vs : List (List ℕ)) (d : ℕ) (t : Tally) (ts : List Token)
    → scan_run (scan_at at.Variable d t) (list_tokens v vs ++ a.Close ∷ ts) ≡ option_and_then (λ u. scan_run (scan_at at.After d u) ts) (list_tally v vs t)
list_scan v [] d t ts =
    step_listed (the.Variable v) (nat_lt t.listed MOST_VARIABLES) (with_variable t.vars v) at.Next d t (λ r. scan_run r (a.Close ∷ ts))
list_scan v (w ∷ ws) d t ts =
    step_listed (the.Variable v) (nat_lt t.listed MOST_VARIABLES) (with_variable t.vars v) at.Next d t (λ r. scan_run r (a.Comma ∷ (list_tokens w ws
    ++ a.Close ∷ ts)))
    ∙ chain (variable_tally v t) (list_tally w ws) (λ u. scan_run (scan_at at.Variable d u) (list_tokens w ws
    ++ a.Close ∷ ts)) (λ u. scan_run (scan_at at.After d u) ts) (λ u. list_scan w ws d u ts)

left_list : (v : List ℕ) (vs : List (List ℕ)) (t : Tally) (ts : List Token)
    → scan_run (scan_at at.LeftVariable 0 t) (list_tokens v vs ++ a.Close ∷ ts) ≡ option_and_then (λ u. scan_run (scan_at at.Equals 0 u) ts) (list_tally v vs t)
left_list v [] t ts =
    step_listed (the.LeftVariable v) (nat_lt t.listed MOST_VARIABLES) (with_variable t.vars v) at.LeftNext 0 t (λ r. scan_run r (a.Close ∷ ts))
left_list v (w ∷ ws) t ts =
    step_listed (the.LeftVariable v) (nat_lt t.listed MOST_VARIABLES) (with_variable t.vars v) at.LeftNext 0 t (λ r. scan_run r (a.Comma ∷ (list_tokens w ws
    ++ a.Close ∷ ts)))
    ∙ chain (variable_tally v t) (list_tally w ws) (λ u. scan_run (scan_at at.LeftVariable 0 u) (list_tokens w ws
    ++ a.Close ∷ ts)) (λ u. scan_run (scan_at at.Equals 0 u) ts) (λ u. left_list w ws u ts)

left_scan : (l : Left) (ts : List Token) → scan_run at_first (left_tokens l ++ a.Equals ∷ ts)
    ≡ option_and_then (λ u. scan_run (scan_at at.First 0 u) ts) (left_tally l)
left_scan (Bare n) ts = refl
left_scan (Listing n v vs) ts =
    ap (scan_run (scan_at at.LeftVariable 0 no_tally)) (append_assoc (list_tokens v vs) (a.Close ∷ []) (a.Equals ∷ ts))
    ∙ left_list v vs no_tally (a.Equals ∷ ts)

-- ---- expressions

number_scan : (n : Option ℕ) (d : ℕ) (t : Tally) (ts : List Token)
    → scan_run (scan_at at.Operand d t) (a.Number n ∷ ts) ≡ option_and_then (λ u. scan_run (scan_at at.After d u) ts) (number_tally n t)
number_scan None d t ts = refl
number_scan (Some n) d t ts =
    step_cond (the.Literal (Some n)) (nat_lt t.literals MOST_LITERALS) at.After d (record t { literals = t.literals + 1 }) (λ r. scan_run r ts)

access_scan : (n v : List ℕ) (vs : List (List ℕ)) (d : ℕ) (t : Tally) (ts : List Token)
    → scan_run (scan_at at.Operand d t) (a.Word n ∷ a.Open ∷ (list_tokens v vs ++ a.Close ∷ ts))
    ≡ option_and_then (λ u. scan_run (scan_at at.After d u) ts) (access_tally v vs t)
access_scan n v vs d t ts =
    step_cond (the.Tensor n) (nat_lt t.accesses MOST_ACCESSES) at.List d (record t {
      accesses = t.accesses
          + 1;
      listed = 0;
    }) (λ r. scan_run r (a.Open ∷ (list_tokens v vs ++ a.Close ∷ ts)))
    ∙ chain (tensor_tally t) (list_tally v vs) (λ u. scan_run (scan_at at.Variable d u) (list_tokens v vs
    ++ a.Close ∷ ts)) (λ u. scan_run (scan_at at.After d u) ts) (λ u. list_scan v vs d u ts)

close_scan : (d : ℕ) (u : Tally) (ts : List Token) → scan_run (scan_at at.After (d + 1) u) (a.Close ∷ ts) ≡ scan_run (scan_at at.After d u) ts
close_scan d u ts =
    let some : nat_lt 0 (d + 1) ≡ true = grind (arith, nat_tests) in
    let less : d + 1 - 1 ≡ d = omega arith in
    rw some (ap (λ n. scan_run (scan_at at.After n u) ts) less)

group_by : (b : Bool) (d : ℕ) (t : Tally) (o : Option Tally) (k : List Token) (ts : List Token)
    → scan_run (scan_at at.First (d + 1) t) k ≡ option_and_then (λ u. scan_run (scan_at at.After d u) ts) o
    → go_on (λ r. scan_run r k) (in_limits the.Group (cond b (Some (scan_at at.First (d + 1) t)) None))
    ≡ option_and_then (λ u. scan_run (scan_at at.After d u) ts) (cond b o None)
group_by true d t o k ts e = e
group_by false d t o k ts e = refl

same_next : (o : Option Tally) (g h : Tally → Option Scan) → ((u : Tally) → g u ≡ h u) → option_and_then g o ≡ option_and_then h o
same_next None g h e = refl
same_next (Some u) g h e = e u

-- the first factor of an expression is read as any other
first_factor : (f : Factor) (d : ℕ) (t : Tally) (ts : List Token)
    → scan_run (scan_at at.First d t) (factor_tokens f ++ ts) ≡ scan_run (scan_at at.Operand d t) (factor_tokens f ++ ts)
first_factor (Number n) d t ts = refl
first_factor (Access n v vs) d t ts = refl
first_factor (Parens e) d t ts = refl

first_factors : (fs : Factors) (d : ℕ) (t : Tally) (ts : List Token)
    → scan_run (scan_at at.First d t) (factors_tokens fs ++ ts) ≡ scan_run (scan_at at.Operand d t) (factors_tokens fs ++ ts)
first_factors (One f) d t ts = first_factor f d t ts
first_factors (Times fs f) d t ts =
    let split = append_assoc (factors_tokens fs) (a.Times ∷ factor_tokens f) ts in
    ap (scan_run (scan_at at.First d t)) split ∙ first_factors fs d t (a.Times ∷ (factor_tokens f ++ ts)) ∙ sym (ap (scan_run (scan_at at.Operand d t)) split)

-- a scan over a factor, factors and terms counts their tallies
mutual
  factor_scan : (f : Factor) (d : ℕ) (t : Tally) (ts : List Token)
      → scan_run (scan_at at.Operand d t) (factor_tokens f ++ ts) ≡ option_and_then (λ u. scan_run (scan_at at.After d u) ts) (factor_tally f d t)
  factor_scan (Number n) d t ts = number_scan n d t ts
  factor_scan (Access n v vs) d t ts =
      ap (λ us. scan_run (scan_at at.Operand d t) (a.Word n ∷ a.Open ∷ us)) (append_assoc (list_tokens v vs) (a.Close ∷ []) ts) ∙ access_scan n v vs d t ts
  factor_scan (Parens e) d t ts =
      ap (λ us. scan_run (scan_at at.Operand d t) (a.Open ∷ us)) (append_assoc (terms_tokens e) (a.Close ∷ []) ts)
      ∙ group_by (nat_lt d MOST_PARENTHESES) d t (terms_tally e (d + 1) t) (terms_tokens e ++ a.Close ∷ ts) ts
      (terms_scan e (d + 1) t (a.Close ∷ ts)
      ∙ same_next (terms_tally e (d + 1) t) (λ u. scan_run (scan_at at.After (d
      + 1) u) (a.Close ∷ ts)) (λ u. scan_run (scan_at at.After d u) ts) (λ u. close_scan d u ts))

  factors_scan : (fs : Factors) (d : ℕ) (t : Tally) (ts : List Token)
      → scan_run (scan_at at.Operand d t) (factors_tokens fs ++ ts) ≡ option_and_then (λ u. scan_run (scan_at at.After d u) ts) (factors_tally fs d t)
  factors_scan (One f) d t ts = factor_scan f d t ts
  factors_scan (Times fs f) d t ts =
      ap (scan_run (scan_at at.Operand d t)) (append_assoc (factors_tokens fs) (a.Times ∷ factor_tokens f) ts)
      ∙ factors_scan fs d t (a.Times ∷ (factor_tokens f ++ ts))
      ∙ chain (factors_tally fs d t) (factor_tally f d) (λ u. scan_run (scan_at at.Operand d u) (factor_tokens f
      ++ ts)) (λ u. scan_run (scan_at at.After d u) ts) (λ u. factor_scan f d u ts)

  terms_scan : (e : Terms) (d : ℕ) (t : Tally) (ts : List Token)
      → scan_run (scan_at at.First d t) (terms_tokens e ++ ts) ≡ option_and_then (λ u. scan_run (scan_at at.After d u) ts) (terms_tally e d t)
  terms_scan (First fs) d t ts = first_factors fs d t ts ∙ factors_scan fs d t ts
  terms_scan (Negated fs) d t ts = factors_scan fs d t ts
  terms_scan (Plus e fs) d t ts =
      ap (scan_run (scan_at at.First d t)) (append_assoc (terms_tokens e) (a.Plus ∷ factors_tokens fs) ts)
      ∙ terms_scan e d t (a.Plus ∷ (factors_tokens fs ++ ts))
      ∙ chain (terms_tally e d t) (factors_tally fs d) (λ u. scan_run (scan_at at.Operand d u) (factors_tokens fs
      ++ ts)) (λ u. scan_run (scan_at at.After d u) ts) (λ u. factors_scan fs d u ts)
  terms_scan (Minus e fs) d t ts =
      ap (scan_run (scan_at at.First d t)) (append_assoc (terms_tokens e) (a.Minus ∷ factors_tokens fs) ts)
      ∙ terms_scan e d t (a.Minus ∷ (factors_tokens fs ++ ts))
      ∙ chain (terms_tally e d t) (factors_tally fs d) (λ u. scan_run (scan_at at.Operand d u) (factors_tokens fs
      ++ ts)) (λ u. scan_run (scan_at at.After d u) ts) (λ u. factors_scan fs d u ts)

-- a whole statement
pub stmt_scan : (l : Left) (e : Terms) → scan_run at_first (stmt_tokens l e)
    ≡ option_and_then (λ u. Some (scan_at at.After 0 u)) (option_and_then (terms_tally e 0) (left_tally l))
stmt_scan l e =
    left_scan l (terms_tokens e)
    ∙ chain (left_tally l) (terms_tally e 0) (λ u. scan_run (scan_at at.First 0 u) (terms_tokens e)) (λ u. Some (scan_at at.After 0 u))
    (λ u. ap (scan_run (scan_at at.First 0 u)) (sym (append-nil (terms_tokens e))) ∙ terms_scan e 0 u [])
