-- The tree that is built has the meaning of what has been read.
use Rattle.std.proofs.Common.{◌≡◌, ℕ, ◌+◌, ◌++◌, Bool, true, false, cond, List, [], ◌∷◌, length, map, refl, ap, sym, ◌∙◌, Option, Some, None, arith, nat_lt}
use Rattle.std.specs.Prelude.{⊤, unwrap_or}
use Rattle.std.proofs.lemmas.Bool.Decides.{nat_tests}
use Rattle.std.proofs.lemmas.List.{length-append}
use Rattle.dt_model.specs.declared.statements.Expr.{Expr}
use Rattle.dt_model.specs.declared.statements.Expr.TheVariants as leaf
use Rattle.index_read.specs.declared.lexer.Token.{Token}
use Rattle.index_read.specs.declared.lexer.Token.TheVariants as a
use Rattle.index_read.specs.declared.roles.Place.{Place}
use Rattle.index_read.specs.declared.roles.Place.TheVariants as at
use Rattle.index_read.specs.declared.roles.Role.{Role}
use Rattle.index_read.specs.declared.roles.Role.TheVariants as the
use Rattle.index_read.specs.declared.scan.Scan.{Scan}
use Rattle.index_read.specs.declared.trees.Sum.TheVariants as stands
use Rattle.index_read.specs.declared.trees.Sum as Summing
use Rattle.index_read.specs.declared.trees.Level.{Level}
use Rattle.index_read.specs.declared.trees.Levels.{Levels}
use Rattle.index_read.specs.declared.trees.Tree.{Tree}
use Rattle.index_read.specs.Roles.{role_of}
use Rattle.index_read.specs.Scans.{count_role, count_variable, with_listed, with_variable}
use Rattle.index_read.specs.Building.{with_role, place_of, with_place, with_factor_inside, with_factor, product_with, sum_with, expr_of, expr_from}
use Rattle.index_read.specs.Building.{open_group, close_into, pop, begin_added, begin_taken, begin_negated}
use Rattle.index_read.specs.Building as build
use Rattle.index_read.specs.Grammar.{Factor, Number, Access, Parens, Factors, Left, Bare, Listing}
use Rattle.index_read.specs.Meaning.{factor_expr, factors_expr, terms_expr, left_names, left_name}
use Rattle.index_read.proofs.Machine.{Sum, None', Minus', Plus', Less', Before, before, State, S0, S1, S2, S2m, S3, S4, S5, S6, S7, S8, S8m, S9, S10}
use Rattle.index_read.proofs.Machine.{closed, after, bare, leave, next}
use Rattle.index_read.proofs.Agree.{place, depth}
use Rattle.index_read.proofs.BuildLemmas.{pop_push}
use Rattle.index_read.proofs.Places.{Begun, place_of-kept, with_variable-is, with_place-more}

-- ---- what is built at a state, where V are all variables of the statement

-- what is before a term
abbrev pub sum_at : List (List ℕ) → Sum → Summing.Sum
sum_at V None' = stands.Nothing
sum_at V Minus' = stands.Negated
sum_at V (Plus' e) = stands.Added (terms_expr V e)
sum_at V (Less' e) = stands.Taken (terms_expr V e)

-- the factors before one
abbrev pub product_at : List (List ℕ) → Option Factors → Option Expr
product_at V None = None
product_at V (Some fs) = Some (factors_expr V fs)

-- an open expression
abbrev pub level_at : List (List ℕ) → Before → Level
level_at V (before s q) = record { sum = sum_at V s; product = product_at V q }

-- the outer expressions
abbrev pub outer_at : List (List ℕ) → List Before → List Level
outer_at V [] = []
outer_at V (p ∷ o) = outer_at V o ++ level_at V p ∷ []

-- all open expressions
abbrev pub levels_at : List (List ℕ) → List Before → Before → Levels
levels_at V o p = record { outer = outer_at V o; here = level_at V p }

-- the left side is there
abbrev pub HasLeft : List (List ℕ) → Tree → Left → Type 0
HasLeft V t l = (t.name ≡ left_name l) × (t.left ≡ map (place_of V) (left_names l))

-- the tree and the count of variables go with a state
abbrev pub Fits : List (List ℕ) → Tree → ℕ → State → Type 0
Fits V t n S0 = (t.left ≡ []) × (t.levels ≡ levels_at V [] bare) × (n ≡ 0)
Fits V t n (S1 name) = HasLeft V t (Bare name) × (t.levels ≡ levels_at V [] bare) × (n ≡ 0)
Fits V t n (S2 name) = HasLeft V t (Bare name) × (t.levels ≡ levels_at V [] bare) × (n ≡ 0)
Fits V t n (S2m name v vs) = HasLeft V t (Listing name v vs) × (t.levels ≡ levels_at V [] bare) × (n ≡ length (v ∷ vs))
Fits V t n (S3 name v vs) = HasLeft V t (Listing name v vs) × (t.levels ≡ levels_at V [] bare) × (n ≡ length (v ∷ vs))
Fits V t n (S4 name v vs) = HasLeft V t (Listing name v vs) × (t.levels ≡ levels_at V [] bare)
Fits V t n (S5 l o) = HasLeft V t l × (t.levels ≡ levels_at V o bare)
Fits V t n (S6 l o p) = HasLeft V t l × (t.levels ≡ levels_at V o p)
Fits V t n (S7 l o p tensor) = HasLeft V t l × (t.levels ≡ levels_at V o p) × (t.tensor ≡ tensor) × (t.list ≡ []) × (n ≡ 0)
Fits V t n (S8 l o p tensor) = HasLeft V t l × (t.levels ≡ levels_at V o p) × (t.tensor ≡ tensor) × (t.list ≡ []) × (n ≡ 0)
Fits V t n (S8m l o p tensor v vs) = HasLeft V t l × (t.levels ≡ levels_at V o p) × (t.tensor ≡ tensor) × (t.list ≡ map (place_of V) (v ∷ vs))
    × (n ≡ length (v ∷ vs))
Fits V t n (S9 l o p tensor v vs) = HasLeft V t l × (t.levels ≡ levels_at V o p) × (t.tensor ≡ tensor) × (t.list ≡ map (place_of V) (v ∷ vs))
    × (n ≡ length (v ∷ vs))
Fits V t n (S10 l o s fs) = HasLeft V t l × (t.levels ≡ levels_at V o (before s (Some fs)))

-- ---- one token more

-- a step of the tree that goes with a step of the grammar
abbrev pub Builds : List (List ℕ) → Scan → Tree → Option (Role × Place) → Option State → Type 0
Builds V s t None o = ⊤
Builds V s t (Some q) None = ⊤
Builds V s t (Some q) (Some v) = (r : Scan) → count_role q.0 (record s { place = q.1 }) ≡ Some r → Begun r.vars.items V
    → Fits V (with_role t q.0 r.vars.items) r.listed v

some_is : {A : Type 0} (x y : A) → Some x ≡ Some y → x ≡ y
some_is x y e = cc

-- a role that counts nothing
kept : (s r : Scan) (q : Place) → Some (record s { place = q }) ≡ Some r → r.listed ≡ s.listed
kept s r q e = sym (ap (λ x. x.listed) (some_is (record s { place = q }) r e))

-- behind a factor
after_fits : (V : List (List ℕ)) (t : Tree) (n : ℕ) (l : Left) (o : List Before) (p : Before) (f : Factor)
    → HasLeft V t l → t.levels ≡ with_factor_inside (levels_at V o p) (factor_expr V f) → Fits V t n (after l o p f)
after_fits V t n l o (before s None) f h e = (h, e)
after_fits V t n l o (before s (Some fs)) f h e = (h, e)

-- terms up to the one in front
pub expr_of-closed : (V : List (List ℕ)) (s : Sum) (fs : Factors) → sum_with (sum_at V s) (factors_expr V fs) ≡ terms_expr V (closed s fs)
expr_of-closed V None' fs = refl
expr_of-closed V Minus' fs = refl
expr_of-closed V (Plus' e) fs = refl
expr_of-closed V (Less' e) fs = refl

-- ---- roles that count

-- one more variable was count_role
record Counted (s : Scan) (name : List ℕ) (r : Scan) : Type 0 where
  room : nat_lt s.listed 8 ≡ true
  vars_are : with_variable s.vars.items name ≡ Some r.vars.items
  listed_is : r.listed ≡ s.listed + 1

counted_by : (s r : Scan) (name : List ℕ) (b : Bool) (o : Option (List (List ℕ))) → nat_lt s.listed 8 ≡ b → with_variable s.vars.items name ≡ o
    → cond b (with_listed s o) None ≡ Some r → Counted s name r
counted_by s r name true (Some vs) b o e =
    let is = some_is (record s { listed = s.listed + 1; vars = record { items = vs } }) r e in
    record { room = b; vars_are = o ∙ ap (λ x. Some x.vars.items) is; listed_is = sym (ap (λ x. x.listed) is) }
counted_by s r name true None b o e = absurd (cc)
counted_by s r name false o b q e = absurd (cc)

variable_is : (s r : Scan) (name : List ℕ) → count_variable s name ≡ Some r → Counted s name r
variable_is s r name e = counted_by s r name (nat_lt s.listed 8) (with_variable s.vars.items name) refl refl e

-- the place of the variable that was count_role
variable_place : (V : List (List ℕ)) (s r : Scan) (name : List ℕ) → Counted s name r → Begun r.vars.items V → place_of r.vars.items name ≡ place_of V name
variable_place V s r name c b = place_of-kept r.vars.items V name b (with_variable-is s.vars.items r.vars.items name c.vars_are).0

one_listed : (v : List ℕ) (n m : ℕ) → n ≡ m + 1 → m ≡ 0 → n ≡ length (v ∷ [])
one_listed v n m e f = omega arith

more_listed : (v w : List ℕ) (vs : List (List ℕ)) (n m : ℕ) → n ≡ m + 1 → m ≡ length (v ∷ vs) → n ≡ length (v ∷ (vs ++ w ∷ []))
more_listed v w vs n m e f = let len : length (vs ++ w ∷ []) ≡ length vs + 1 = length-append vs (w ∷ []) in omega (arith, len)

tensor_by : (s r : Scan) (b : Bool) → cond b (Some (record s { accesses = s.accesses + 1; listed = 0 })) None ≡ Some r → r.listed ≡ 0
tensor_by s r true e = sym (ap (λ x. x.listed) (some_is (record s { accesses = s.accesses + 1; listed = 0 }) r e))
tensor_by s r false e = absurd (cc)

-- an expression in parentheses is a factor
closed-levels : (V : List (List ℕ)) (o : List Before) (p : Before) (s : Sum) (fs : Factors)
    → build.close_group (levels_at V (p ∷ o) (before s (Some fs))) ≡ with_factor_inside (levels_at V o p) (terms_expr V (closed s fs))
closed-levels V o p s fs = ap (close_into (sum_with (sum_at V s) (factors_expr V fs))) (pop_push (outer_at V o) (level_at V p))
    ∙ ap (with_factor_inside (levels_at V o p)) (expr_of-closed V s fs)

leave_builds : (V : List (List ℕ)) (l : Left) (o : List Before) (s : Sum) (fs : Factors) (m : Scan) (t : Tree) → Fits V t m.listed (S10 l o s fs)
    → Builds V m t (role_of at.After a.Close (length o)) (leave l o (closed s fs))
leave_builds V l [] s fs m t f = tt
leave_builds V l (p ∷ o) s fs m t f =
    let some : nat_lt 0 (length (p ∷ o)) ≡ true = grind (arith, nat_tests) in
    rw some (λ r e b. after_fits V (with_role t the.EndGroup r.vars.items) r.listed l o p (Parens (closed s fs)) f.0 (ap build.close_group f.1
    ∙ closed-levels V o p s fs))

-- each step builds the tree of its state
pub builds : (V : List (List ℕ)) (u : State) (k : Token) (s : Scan) (t : Tree) → Fits V t s.listed u → Builds V s t (role_of (place u) k (depth u)) (next u k)
builds V S0 (a.Word n) s t f = λ r e b. ((refl, f.0), f.1, kept s r at.AfterTarget e ∙ f.2)
builds V (S1 n) a.Open s t f = λ r e b. (f.0, f.1, kept s r at.LeftVariable e ∙ f.2)
builds V (S1 n) a.Equals s t f = λ r e b. (f.0, f.1)
builds V (S2 n) (a.Word v) s t f = λ r e b.
    let c = variable_is (record s { place = at.LeftNext }) r v e in (
      (f.0.0, with_place-more (place_of V) t.left [] v s.listed (place_of r.vars.items v) f.0.1 f.2 c.room (variable_place V _ r v c b)),
      f.1,
      one_listed v r.listed s.listed c.listed_is f.2,
    )
builds V (S2m n v vs) (a.Word w) s t f = λ r e b.
    let c = variable_is (record s { place = at.LeftNext }) r w e in (
      (f.0.0, with_place-more (place_of V) t.left (v ∷ vs) w s.listed (place_of r.vars.items w) f.0.1 f.2 c.room (variable_place V _ r w c b)),
      f.1,
      more_listed v w vs r.listed s.listed c.listed_is f.2,
    )
builds V (S3 n v vs) a.Comma s t f = λ r e b. (f.0, f.1, kept s r at.LeftVariable e ∙ f.2)
builds V (S3 n v vs) a.Close s t f = λ r e b. (f.0, f.1)
builds V (S4 n v vs) a.Equals s t f = λ r e b. (f.0, f.1)
builds V (S5 l o) (a.Word n) s t f = λ r e b. (f.0, f.1, refl, refl, tensor_by (record s { place = at.List }) r (nat_lt s.accesses 12) e)
builds V (S5 l o) (a.Number k) s t f = λ r e b. after_fits V (with_role t (the.Literal k) r.vars.items) r.listed l o bare (Number k) f.0 (ap
    (λ x. with_factor_inside x (leaf.Literal (unwrap_or k 0))) f.1)
builds V (S5 l o) a.Open s t f = λ r e b. (f.0, ap open_group f.1)
builds V (S5 l o) a.Minus s t f = λ r e b. (f.0, ap begin_negated f.1)
builds V (S6 l o p) (a.Word n) s t f = λ r e b. (f.0, f.1, refl, refl, tensor_by (record s { place = at.List }) r (nat_lt s.accesses 12) e)
builds V (S6 l o p) (a.Number k) s t f = λ r e b. after_fits V (with_role t (the.Literal k) r.vars.items) r.listed l o p (Number k) f.0 (ap
    (λ x. with_factor_inside x (leaf.Literal (unwrap_or k 0))) f.1)
builds V (S6 l o p) a.Open s t f = λ r e b. (f.0, ap open_group f.1)
builds V (S7 l o p n) a.Open s t f = λ r e b. (f.0, f.1, f.2, f.3, kept s r at.Variable e ∙ f.4)
builds V (S8 l o p n) (a.Word v) s t f = λ r e b.
    let c = variable_is (record s { place = at.Next }) r v e in (
      f.0,
      f.1,
      f.2,
      with_place-more (place_of V) t.list [] v s.listed (place_of r.vars.items v) f.3 f.4 c.room (variable_place V _ r v c b),
      one_listed v r.listed s.listed c.listed_is f.4,
    )
builds V (S8m l o p n v vs) (a.Word w) s t f = λ r e b.
    let c = variable_is (record s { place = at.Next }) r w e in (
      f.0,
      f.1,
      f.2,
      with_place-more (place_of V) t.list (v ∷ vs) w s.listed (place_of r.vars.items w) f.3 f.4 c.room (variable_place V _ r w c b),
      more_listed v w vs r.listed s.listed c.listed_is f.4,
    )
builds V (S9 l o p n v vs) a.Comma s t f = λ r e b. (f.0, f.1, f.2, f.3, kept s r at.Variable e ∙ f.4)
builds V (S9 l o p n v vs) a.Close s t f = λ r e b.
    after_fits V (with_role t the.EndList r.vars.items) r.listed l o p (Access n v vs) f.0
    (ap (λ x. with_factor_inside x (leaf.Access t.tensor t.list)) f.1 ∙ ap (λ x. with_factor_inside (levels_at V o p) (leaf.Access x t.list)) f.2
    ∙ ap (λ x. with_factor_inside (levels_at V o p) (leaf.Access n x)) f.3)
builds V (S10 l o m fs) a.Close s t f = leave_builds V l o m fs s t f
builds V (S10 l o m fs) a.Plus s t f = λ r e b. (
  f.0,
  ap begin_added f.1
      ∙ ap (λ x. record { outer = outer_at V o; here = record { sum = stands.Added x; product = None } }) (expr_of-closed V m fs),
)
builds V (S10 l o m fs) a.Minus s t f = λ r e b. (
  f.0,
  ap begin_taken f.1
      ∙ ap (λ x. record { outer = outer_at V o; here = record { sum = stands.Taken x; product = None } }) (expr_of-closed V m fs),
)
builds V (S10 l o m fs) a.Times s t f = λ r e b. (f.0, f.1)
builds V u k s t f = tt
