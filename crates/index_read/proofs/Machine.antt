-- What has been read of a statement, as it is written: it steps from token to token.
use Rattle.std.proofs.Common.{ℕ, ◌++◌, List, [], ◌∷◌, Option, Some, None}
use Rattle.std.specs.Option.{option_and_then}
use Rattle.index_read.specs.declared.lexer.Token.{Token}
use Rattle.index_read.specs.declared.lexer.Token.TheVariants as a
use Rattle.index_read.specs.Grammar.{Factor, Number, Access, Parens, Factors, One, Times, Terms, First, Negated, Plus, Minus, Left, Bare, Listing}
use Rattle.index_read.specs.Grammar.{list_tokens, factors_tokens, terms_tokens, left_tokens}

-- what stands before a term
pub data Sum : Type 0 where
  None' : Sum
  Minus' : Sum
  Plus' : Terms → Sum
  Less' : Terms → Sum

-- what stands before a factor
pub data Before : Type 0 where
  before : Sum → Option Factors → Before

-- what has been read, with all that is known of it
pub data State : Type 0 where
  S0 : State
  S1 : List ℕ → State
  S2 : List ℕ → State
  S2m : List ℕ → List ℕ → List (List ℕ) → State
  S3 : List ℕ → List ℕ → List (List ℕ) → State
  S4 : List ℕ → List ℕ → List (List ℕ) → State
  S5 : Left → List Before → State
  S6 : Left → List Before → Before → State
  S7 : Left → List Before → Before → List ℕ → State
  S8 : Left → List Before → Before → List ℕ → State
  S8m : Left → List Before → Before → List ℕ → List ℕ → List (List ℕ) → State
  S9 : Left → List Before → Before → List ℕ → List ℕ → List (List ℕ) → State
  S10 : Left → List Before → Sum → Factors → State

-- terms up to the one in front
abbrev pub closed : Sum → Factors → Terms
closed None' fs = First fs
closed Minus' fs = Negated fs
closed (Plus' e) fs = Plus e fs
closed (Less' e) fs = Minus e fs

-- behind one more factor
abbrev pub after : Left → List Before → Before → Factor → State
after l o (before s None) f = S10 l o s (One f)
after l o (before s (Some fs)) f = S10 l o s (Times fs f)

-- nothing before a factor
abbrev pub bare : Before
bare = before None' None

-- behind an expression in parentheses
abbrev pub leave : Left → List Before → Terms → Option State
leave l [] e = None
leave l (p ∷ o) e = Some (after l o p (Parens e))

-- behind one more token
abbrev pub next : State → Token → Option State
next S0 (a.Word n) = Some (S1 n)
next (S1 n) a.Open = Some (S2 n)
next (S1 n) a.Equals = Some (S5 (Bare n) [])
next (S2 n) (a.Word v) = Some (S3 n v [])
next (S2m n v vs) (a.Word w) = Some (S3 n v (vs ++ w ∷ []))
next (S3 n v vs) a.Comma = Some (S2m n v vs)
next (S3 n v vs) a.Close = Some (S4 n v vs)
next (S4 n v vs) a.Equals = Some (S5 (Listing n v vs) [])
next (S5 l o) (a.Word t) = Some (S7 l o bare t)
next (S5 l o) (a.Number k) = Some (after l o bare (Number k))
next (S5 l o) a.Open = Some (S5 l (bare ∷ o))
next (S5 l o) a.Minus = Some (S6 l o (before Minus' None))
next (S6 l o p) (a.Word t) = Some (S7 l o p t)
next (S6 l o p) (a.Number k) = Some (after l o p (Number k))
next (S6 l o p) a.Open = Some (S5 l (p ∷ o))
next (S7 l o p t) a.Open = Some (S8 l o p t)
next (S8 l o p t) (a.Word v) = Some (S9 l o p t v [])
next (S8m l o p t v vs) (a.Word w) = Some (S9 l o p t v (vs ++ w ∷ []))
next (S9 l o p t v vs) a.Comma = Some (S8m l o p t v vs)
next (S9 l o p t v vs) a.Close = Some (after l o p (Access t v vs))
next (S10 l o s fs) a.Close = leave l o (closed s fs)
next (S10 l o s fs) a.Plus = Some (S6 l o (before (Plus' (closed s fs)) None))
next (S10 l o s fs) a.Minus = Some (S6 l o (before (Less' (closed s fs)) None))
next (S10 l o s fs) a.Times = Some (S6 l o (before s (Some fs)))
next s t = None

-- ---- what has been read

-- before a term
abbrev pub sum_read : Sum → List Token
sum_read None' = []
sum_read Minus' = a.Minus ∷ []
sum_read (Plus' e) = terms_tokens e ++ a.Plus ∷ []
sum_read (Less' e) = terms_tokens e ++ a.Minus ∷ []

-- before a factor
abbrev pub before_read : Before → List Token
before_read (before s None) = sum_read s
before_read (before s (Some fs)) = sum_read s ++ (factors_tokens fs ++ a.Times ∷ [])

-- up to the open parenthesis in front
abbrev pub outer_read : Left → List Before → List Token
outer_read l [] = left_tokens l ++ a.Equals ∷ []
outer_read l (p ∷ o) = (outer_read l o ++ before_read p) ++ a.Open ∷ []

-- up to a factor
abbrev pub here_read : Left → List Before → Before → List Token
here_read l o p = outer_read l o ++ before_read p

-- up to a state
abbrev pub read : State → List Token
read S0 = []
read (S1 n) = a.Word n ∷ []
read (S2 n) = a.Word n ∷ a.Open ∷ []
read (S2m n v vs) = a.Word n ∷ a.Open ∷ (list_tokens v vs ++ a.Comma ∷ [])
read (S3 n v vs) = a.Word n ∷ a.Open ∷ list_tokens v vs
read (S4 n v vs) = a.Word n ∷ a.Open ∷ (list_tokens v vs ++ a.Close ∷ [])
read (S5 l o) = outer_read l o
read (S6 l o p) = here_read l o p
read (S7 l o p t) = here_read l o p ++ a.Word t ∷ []
read (S8 l o p t) = here_read l o p ++ a.Word t ∷ a.Open ∷ []
read (S8m l o p t v vs) = here_read l o p ++ a.Word t ∷ a.Open ∷ (list_tokens v vs ++ a.Comma ∷ [])
read (S9 l o p t v vs) = here_read l o p ++ a.Word t ∷ a.Open ∷ list_tokens v vs
read (S10 l o s fs) = outer_read l o ++ (sum_read s ++ factors_tokens fs)

-- ---- runs

-- behind some more tokens
abbrev pub run : State → List Token → Option State
run s [] = Some s
run s (t ∷ ts) = option_and_then (λ u. run u ts) (next s t)

-- the terms before the one in front
abbrev pub sum_of : Terms → Sum
sum_of (First fs) = None'
sum_of (Negated fs) = Minus'
sum_of (Plus e fs) = Plus' e
sum_of (Minus e fs) = Less' e

-- the term in front
abbrev pub last_of : Terms → Factors
last_of (First fs) = fs
last_of (Negated fs) = fs
last_of (Plus e fs) = fs
last_of (Minus e fs) = fs
