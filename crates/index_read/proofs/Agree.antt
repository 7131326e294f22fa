-- The table of roles lets through what the grammar's steps let through.
use Rattle.std.proofs.Common.{◌≡◌, ℕ, ◌+◌, ◌-◌, Bool, true, false, cond, List, [], ◌∷◌, length, refl, sym, ◌∙◌, subst, Option, Some, None, Ok, Err, arith}
use Rattle.std.proofs.Common.{nat_lt}
use Rattle.std.specs.Prelude.{⊤, Result}
use Rattle.std.proofs.lemmas.Bool.Decides.{nat_tests}
use Rattle.index_read.specs.declared.lexer.Token.{Token}
use Rattle.index_read.specs.declared.lexer.Token.TheVariants as a
use Rattle.index_read.specs.declared.roles.Place.{Place}
use Rattle.index_read.specs.declared.roles.Place.TheVariants as at
use Rattle.index_read.specs.declared.roles.Role.{Role}
use Rattle.index_read.specs.declared.roles.Role.TheVariants as the
use Rattle.index_read.specs.declared.scan.Scan.{Scan}
use Rattle.index_read.specs.declared.scan.Fault.{Fault}
use Rattle.index_read.specs.declared.scan.Fault.TheVariants as because
use Rattle.index_read.specs.Roles.{role_of}
use Rattle.index_read.specs.Excess.{depth_with}
use Rattle.index_read.specs.Scans.{step, step_as, in_limits, count_role, with_listed, with_variable}
use Rattle.index_read.specs.Grammar.{Factor, Number, Access, Parens, Factors, Left}
use Rattle.index_read.proofs.Machine.{Sum, Before, before, State, S0, S1, S2, S2m, S3, S4, S5, S6, S7, S8, S8m, S9, S10, closed, after, bare, leave, next}

-- what is expected
abbrev pub place : State → Place
place S0 = at.Target
place (S1 n) = at.AfterTarget
place (S2 n) = at.LeftVariable
place (S2m n v vs) = at.LeftVariable
place (S3 n v vs) = at.LeftNext
place (S4 n v vs) = at.Equals
place (S5 l o) = at.First
place (S6 l o p) = at.Operand
place (S7 l o p t) = at.List
place (S8 l o p t) = at.Variable
place (S8m l o p t v vs) = at.Variable
place (S9 l o p t v vs) = at.Next
place (S10 l o s fs) = at.After

-- how many parentheses are open
abbrev pub depth : State → ℕ
depth S0 = 0
depth (S1 n) = 0
depth (S2 n) = 0
depth (S2m n v vs) = 0
depth (S3 n v vs) = 0
depth (S4 n v vs) = 0
depth (S5 l o) = length o
depth (S6 l o p) = length o
depth (S7 l o p t) = length o
depth (S8 l o p t) = length o
depth (S8m l o p t v vs) = length o
depth (S9 l o p t v vs) = length o
depth (S10 l o s fs) = length o

-- a role and a step that go together
abbrev pub Same : ℕ → Option (Role × Place) → Option State → Type 0
Same n None None = ⊤
Same n (Some r) (Some u) = (r.1 ≡ place u) × (depth u ≡ depth_with r.0 n)
Same n None (Some u) = ⊥
Same n (Some r) None = ⊥

after_same : (n : ℕ) (role : Role) (l : Left) (o : List Before) (p : Before) (f : Factor) → length o ≡ depth_with role n
    → Same n (Some (role, at.After)) (Some (after l o p f))
after_same n role l o (before s None) f e = (refl, e)
after_same n role l o (before s (Some fs)) f e = (refl, e)

leave_same : (l : Left) (o : List Before) (s : Sum) (fs : Factors) → Same (length o) (role_of at.After a.Close (length o)) (leave l o (closed s fs))
leave_same l [] s fs = tt
leave_same l (p ∷ o) s fs =
    let fewer : length o ≡ length (p ∷ o) - 1 = omega arith in
    let some : nat_lt 0 (length (p ∷ o)) ≡ true = grind (arith, nat_tests) in
    rw some (after_same (length (p ∷ o)) the.EndGroup l o p (Parens (closed s fs)) fewer)

one_more : (p : Before) (o : List Before) → length (p ∷ o) ≡ length o + 1
one_more p o = omega arith

-- the table goes together with each step
pub same : (s : State) (t : Token) → Same (depth s) (role_of (place s) t (depth s)) (next s t)
same S0 (a.Word n) = (refl, refl)
same (S1 n) a.Open = (refl, refl)
same (S1 n) a.Equals = (refl, refl)
same (S2 n) (a.Word v) = (refl, refl)
same (S2m n v vs) (a.Word w) = (refl, refl)
same (S3 n v vs) a.Comma = (refl, refl)
same (S3 n v vs) a.Close = (refl, refl)
same (S4 n v vs) a.Equals = (refl, refl)
same (S5 l o) (a.Word t) = (refl, refl)
same (S5 l o) (a.Number k) = after_same (length o) (the.Literal k) l o bare (Number k) refl
same (S5 l o) a.Open = (refl, one_more bare o)
same (S5 l o) a.Minus = (refl, refl)
same (S6 l o p) (a.Word t) = (refl, refl)
same (S6 l o p) (a.Number k) = after_same (length o) (the.Literal k) l o p (Number k) refl
same (S6 l o p) a.Open = (refl, one_more p o)
same (S7 l o p t) a.Open = (refl, refl)
same (S8 l o p t) (a.Word v) = (refl, refl)
same (S8m l o p t v vs) (a.Word w) = (refl, refl)
same (S9 l o p t v vs) a.Comma = (refl, refl)
same (S9 l o p t v vs) a.Close = after_same (length o) the.EndList l o p (Access t v vs) refl
same (S10 l o s fs) a.Close = leave_same l o s fs
same (S10 l o s fs) a.Plus = (refl, refl)
same (S10 l o s fs) a.Minus = (refl, refl)
same (S10 l o s fs) a.Times = (refl, refl)
same s t = tt

-- ---- counting changes neither

-- a scan that goes on from a place and a depth
abbrev pub Keeps : Role → Scan → Option Scan → Type 0
Keeps role s None = ⊤
Keeps role s (Some r) = (r.place ≡ s.place) × (r.depth ≡ depth_with role s.depth)

cond_keeps : (b : Bool) (role : Role) (s : Scan) (o : Option Scan) → Keeps role s o → Keeps role s (cond b o None)
cond_keeps true role s o h = h
cond_keeps false role s o h = tt

with_listed_keeps : (role : Role) (s : Scan) (o : Option (List (List ℕ))) → s.depth ≡ depth_with role s.depth → Keeps role s (with_listed s o)
with_listed_keeps role s None e = tt
with_listed_keeps role s (Some vars) e = (refl, e)

-- counting changes neither place nor depth beyond the role
pub count_role-keeps : (role : Role) (s : Scan) → Keeps role s (count_role role s)
count_role-keeps (the.Tensor name) s = cond_keeps (nat_lt s.accesses 12) (the.Tensor name) s _ (refl, refl)
count_role-keeps (the.Literal None) s = tt
count_role-keeps (the.Literal (Some n)) s = cond_keeps (nat_lt s.literals 12) (the.Literal (Some n)) s _ (refl, refl)
count_role-keeps the.Group s = cond_keeps (nat_lt s.depth 16) the.Group s _ (refl, refl)
count_role-keeps the.EndGroup s = (refl, refl)
count_role-keeps (the.LeftVariable name) s = cond_keeps (nat_lt s.listed 8) (the.LeftVariable name) s _ (with_listed_keeps (the.LeftVariable name) s
    (with_variable s.vars.items name) refl)
count_role-keeps (the.Variable name) s = cond_keeps (nat_lt s.listed 8) (the.Variable name) s _ (with_listed_keeps (the.Variable name) s
    (with_variable s.vars.items name) refl)
count_role-keeps role s = (refl, refl)

-- ---- one token more

-- what a step of the scan says of the grammar's step
abbrev pub Agrees : Result (Scan × Role) Fault → Option State → Type 0
Agrees (Err because.Form) o = o ≡ None
Agrees (Err because.Limit) None = ⊥
Agrees (Err because.Limit) (Some u) = ⊤
Agrees (Ok r) None = ⊥
Agrees (Ok r) (Some u) = (r.0.place ≡ place u) × (r.0.depth ≡ depth u)

within_agrees : (role : Role) (s : Scan) (u : State) (o : Option Scan) → Keeps role s o → s.place ≡ place u → depth_with role s.depth ≡ depth u
    → Agrees (in_limits role o) (Some u)
within_agrees role s u None h p d = tt
within_agrees role s u (Some r) h p d = (h.0 ∙ p, h.1 ∙ d)

step_as_agrees : (s : Scan) (q : Option (Role × Place)) (o : Option State) → Same s.depth q o → Agrees (step_as s q) o
step_as_agrees s None None h = refl
step_as_agrees s None (Some u) h = absurd h
step_as_agrees s (Some r) None h = absurd h
step_as_agrees s (Some r) (Some u) h =
    within_agrees r.0 (record s { place = r.1 }) u (count_role r.0 (record s { place = r.1 })) (count_role-keeps r.0 (record s { place = r.1 })) h.0 (sym h.1)

-- a step of a scan goes together with a step of the grammar
pub step_agrees : (s : Scan) (u : State) (t : Token) → s.place ≡ place u → s.depth ≡ depth u → Agrees (step s t) (next u t)
step_agrees s u t p d =
    step_as_agrees s (role_of s.place t s.depth) (next u t)
    (subst (λ n. Same n (role_of s.place t n) (next u t)) (sym d) (subst (λ q. Same (depth u) (role_of q t (depth u)) (next u t)) (sym p) (same u t)))
