-- What a scan has count_role stays within the limits.
use Rattle.std.proofs.Common.{◌≡◌, ℕ, ◌+◌, ◌<◌, ◌≤◌, ◌++◌, Bool, true, false, cond, List, [], ◌∷◌, length, refl, ap, ◌∙◌, subst, Option, Some, None, arith}
use Rattle.std.proofs.Common.{nat_lt}
use Rattle.std.specs.Prelude.{IfSome}
use Rattle.std.proofs.lemmas.Bool.Decides.{nat_tests}
use Rattle.std.proofs.lemmas.List.{length-append}
use Rattle.dt_model.specs.Statements.{accesses, literals}
use Rattle.dt_model.proofs.StatementsLemmas.{accesses-Plus, accesses-Minus, accesses-Times, accesses-Negate, literals-Plus, literals-Minus, literals-Times}
use Rattle.dt_model.proofs.StatementsLemmas.{literals-Negate}
use Rattle.index_read.specs.declared.lexer.Token.{Token}
use Rattle.index_read.specs.declared.lexer.Token.TheVariants as a
use Rattle.index_read.specs.declared.roles.Place.{Place}
use Rattle.index_read.specs.declared.roles.Place.TheVariants as at
use Rattle.index_read.specs.declared.roles.Role.{Role}
use Rattle.index_read.specs.declared.roles.Role.TheVariants as the
use Rattle.index_read.specs.declared.scan.Scan.{Scan}
use Rattle.index_read.specs.Roles.{role_of}
use Rattle.index_read.specs.Scans.{count_role, with_listed, with_variable, has_name}
use Rattle.index_read.specs.Grammar.{Factor, Number, Access, Parens, Factors, One, Times, Terms, First, Negated, Plus, Minus}
use Rattle.index_read.specs.Meaning.{factor_expr, factors_expr, terms_expr}
use Rattle.index_read.proofs.Machine.{State, S0, S1, S2, S2m, S3, S4, S5, S6, S7, S8, S8m, S9, S10}
use Rattle.index_read.proofs.Agree.{place, depth}
use Rattle.index_read.proofs.Counts.{factor_weight, factors_weight, terms_weight, weight_at}

-- ---- the weight of a role

-- the weight of a role
abbrev pub role_weight : Role → ℕ → ℕ → ℕ
role_weight (the.Tensor name) x y = x
role_weight (the.Literal value) x y = y
role_weight role x y = 0

close_weight : (b : Bool) (x y : ℕ) → IfSome {T = Role × Place} (cond b (Some (the.EndGroup, at.After)) None) (λ q. role_weight q.0 x y ≡ 0)
close_weight true x y = refl
close_weight false x y = tt

-- a role has the weight of its token
pub role_weights : (u : State) (k : Token) (x y : ℕ) → IfSome (role_of (place u) k (depth u)) (λ q. role_weight q.0 x y ≡ weight_at u k x y)
role_weights S0 (a.Word n) x y = refl
role_weights (S1 n) a.Open x y = refl
role_weights (S1 n) a.Equals x y = refl
role_weights (S2 n) (a.Word v) x y = refl
role_weights (S2m n v vs) (a.Word w) x y = refl
role_weights (S3 n v vs) a.Comma x y = refl
role_weights (S3 n v vs) a.Close x y = refl
role_weights (S4 n v vs) a.Equals x y = refl
role_weights (S5 l o) (a.Word t) x y = refl
role_weights (S5 l o) (a.Number k) x y = refl
role_weights (S5 l o) a.Open x y = refl
role_weights (S5 l o) a.Minus x y = refl
role_weights (S6 l o p) (a.Word t) x y = refl
role_weights (S6 l o p) (a.Number k) x y = refl
role_weights (S6 l o p) a.Open x y = refl
role_weights (S7 l o p t) a.Open x y = refl
role_weights (S8 l o p t) (a.Word v) x y = refl
role_weights (S8m l o p t v vs) (a.Word w) x y = refl
role_weights (S9 l o p t v vs) a.Comma x y = refl
role_weights (S9 l o p t v vs) a.Close x y = refl
role_weights (S10 l o s fs) a.Close x y = close_weight (nat_lt 0 (length o)) x y
role_weights (S10 l o s fs) a.Plus x y = refl
role_weights (S10 l o s fs) a.Minus x y = refl
role_weights (S10 l o s fs) a.Times x y = refl
role_weights s t x y = tt

-- ---- counting keeps the limits

-- within the limits
pub record IsWithin (s : Scan) : Type 0 where
  pub accesses_few : s.accesses ≤ 12
  pub literals_few : s.literals ≤ 12
  pub vars_few : length s.vars.items ≤ 8

-- a scan with one more token of a role
pub record Counts (s : Scan) (role : Role) (r : Scan) : Type 0 where
  pub accesses_is : r.accesses ≡ s.accesses + role_weight role 1 0
  pub literals_is : r.literals ≡ s.literals + role_weight role 0 1
  pub within : IsWithin r

some_is : {A : Type 0} (x y : A) → Some x ≡ Some y → x ≡ y
some_is x y e = cc

plain : (s : Scan) (role : Role) (q : Place) → IsWithin s → role_weight role 1 0 ≡ 0 → role_weight role 0 1 ≡ 0 → Counts s role (record s { place = q })
plain s role q h e f = record {
  accesses_is = omega (arith, e);
  literals_is = omega (
    arith,
    f,
  );
  within = record { accesses_few = h.accesses_few; literals_few = h.literals_few; vars_few = h.vars_few };
}

to_some : (s r x : Scan) (role : Role) → Some x ≡ Some r → Counts s role x → Counts s role r
to_some s r x role e h = subst (λ z. Counts s role z) (some_is x r e) h

tensor_by : (s r : Scan) (name : List ℕ) (q : Place) (b : Bool) → nat_lt s.accesses 12 ≡ b → IsWithin s
    → cond b (Some (record s { place = q; accesses = s.accesses + 1; listed = 0 })) None ≡ Some r → Counts s (the.Tensor name) r
tensor_by s r name q true t h e =
    let less : s.accesses < 12 = grind (arith, nat_tests) in
    to_some s r _ (the.Tensor name) e (record {
      accesses_is = refl;
      literals_is = omega arith;
      within = record {
        accesses_few = omega (
          arith,
          less,
        );
        literals_few = h.literals_few;
        vars_few = h.vars_few;
      };
    })
tensor_by s r name q false t h e = absurd (cc)

literal_by : (s r : Scan) (n : ℕ) (q : Place) (b : Bool) → nat_lt s.literals 12 ≡ b → IsWithin s
    → cond b (Some (record s { place = q; literals = s.literals + 1 })) None ≡ Some r → Counts s (the.Literal (Some n)) r
literal_by s r n q true t h e =
    let less : s.literals < 12 = grind (arith, nat_tests) in
    to_some s r _ (the.Literal (Some n)) e (record {
      accesses_is = omega arith;
      literals_is = refl;
      within = record {
        accesses_few = h.accesses_few;
        literals_few = omega (arith, less);
        vars_few = h.vars_few;
      };
    })
literal_by s r n q false t h e = absurd (cc)

group_by : (s r : Scan) (q : Place) (b : Bool) → IsWithin s → cond b (Some (record s { place = q; depth = s.depth + 1 })) None ≡ Some r → Counts s the.Group r
group_by s r q true h e = to_some s r _ the.Group e (record {
  accesses_is = omega arith;
  literals_is = omega arith;
  within = record { accesses_few = h.accesses_few; literals_few = h.literals_few; vars_few = h.vars_few };
})
group_by s r q false h e = absurd (cc)

vars_by : (vars vs : List (List ℕ)) (name : List ℕ) (b c : Bool) → nat_lt (length vars) 8 ≡ c
    → cond b (Some vars) (cond c (Some (vars ++ name ∷ [])) None) ≡ Some vs → length vars ≤ 8 → length vs ≤ 8
vars_by vars vs name true c t e h = let same : vars ≡ vs = cc in subst (λ xs. length xs ≤ 8) same h
vars_by vars vs name false true t e h =
    let same : vars ++ name ∷ [] ≡ vs = cc in
    let less : length vars < 8 = grind (arith, nat_tests) in
    let len : length (vars ++ name ∷ []) ≡ length vars + 1 = length-append vars (name ∷ []) in
    let few : length (vars ++ name ∷ []) ≤ 8 = omega (arith, less, len) in
    subst (λ xs. length xs ≤ 8) same few
vars_by vars vs name false false t e h = absurd (cc)

with_listed_by : (s r : Scan) (role : Role) (name : List ℕ) (q : Place) (o : Option (List (List ℕ))) → role_weight role 1 0 ≡ 0 → role_weight role 0 1 ≡ 0
    → with_variable s.vars.items name ≡ o → IsWithin s
    → with_listed (record s { place = q }) o ≡ Some r → Counts s role r
with_listed_by s r role name q None x y v h e = absurd (cc)
with_listed_by s r role name q (Some vs) x y v h e =
    let few : length vs ≤ 8 = vars_by s.vars.items vs name (has_name s.vars.items name) (nat_lt (length s.vars.items) 8) refl v h.vars_few in
    to_some s r _ role e (record {
      accesses_is = omega (arith, x);
      literals_is = omega (
        arith,
        y,
      );
      within = record { accesses_few = h.accesses_few; literals_few = h.literals_few; vars_few = few };
    })

variable_by : (s r : Scan) (role : Role) (name : List ℕ) (q : Place) (b : Bool) → role_weight role 1 0 ≡ 0 → role_weight role 0 1 ≡ 0 → IsWithin s
    → cond b (with_listed (record s { place = q }) (with_variable s.vars.items name)) None ≡ Some r → Counts s role r
variable_by s r role name q true x y h e = with_listed_by s r role name q (with_variable s.vars.items name) x y refl h e
variable_by s r role name q false x y h e = absurd (cc)

-- counting adds the weight of the role, and stays within the limits
pub count_role-counts : (role : Role) (s r : Scan) (q : Place) → IsWithin s → count_role role (record s { place = q }) ≡ Some r → Counts s role r
count_role-counts (the.Tensor name) s r q h e = tensor_by s r name q (nat_lt s.accesses 12) refl h e
count_role-counts (the.Literal None) s r q h e = absurd (cc)
count_role-counts (the.Literal (Some n)) s r q h e = literal_by s r n q (nat_lt s.literals 12) refl h e
count_role-counts the.Group s r q h e = group_by s r q (nat_lt s.depth 16) h e
count_role-counts the.EndGroup s r q h e = to_some s r _ the.EndGroup e (record {
  accesses_is = omega arith;
  literals_is = omega arith;
  within = record { accesses_few = h.accesses_few; literals_few = h.literals_few; vars_few = h.vars_few };
})
count_role-counts (the.LeftVariable name) s r q h e = variable_by s r (the.LeftVariable name) name q (nat_lt s.listed 8) refl refl h e
count_role-counts (the.Variable name) s r q h e = variable_by s r (the.Variable name) name q (nat_lt s.listed 8) refl refl h e
count_role-counts (the.Target name) s r q h e = to_some s r _ (the.Target name) e (plain s (the.Target name) q h refl refl)
count_role-counts the.EndList s r q h e = to_some s r _ the.EndList e (plain s the.EndList q h refl refl)
count_role-counts the.Plus s r q h e = to_some s r _ the.Plus e (plain s the.Plus q h refl refl)
count_role-counts the.Minus s r q h e = to_some s r _ the.Minus e (plain s the.Minus q h refl refl)
count_role-counts the.Times s r q h e = to_some s r _ the.Times e (plain s the.Times q h refl refl)
count_role-counts the.Negate s r q h e = to_some s r _ the.Negate e (plain s the.Negate q h refl refl)
count_role-counts the.Mark s r q h e = to_some s r _ the.Mark e (plain s the.Mark q h refl refl)

-- ---- the tree's leaves

-- an expression has as many accesses as its weight says
mutual
  pub factor_accesses : (f : Factor) (V : List (List ℕ)) → length (accesses (factor_expr V f)) ≡ factor_weight f 1 0
  factor_accesses (Number n) V = refl
  factor_accesses (Access t v vs) V = refl
  factor_accesses (Parens e) V = terms_accesses e V

  pub factors_accesses : (fs : Factors) (V : List (List ℕ)) → length (accesses (factors_expr V fs)) ≡ factors_weight fs 1 0
  factors_accesses (One f) V = factor_accesses f V
  factors_accesses (Times fs f) V =
      ap length (accesses-Times (factors_expr V fs) (factor_expr V f)) ∙ length-append (accesses (factors_expr V fs)) (accesses (factor_expr V f))
      ∙ ap (λ n. n + length (accesses (factor_expr V f))) (factors_accesses fs V) ∙ ap (λ n. factors_weight fs 1 0 + n) (factor_accesses f V)

  pub terms_accesses : (e : Terms) (V : List (List ℕ)) → length (accesses (terms_expr V e)) ≡ terms_weight e 1 0
  terms_accesses (First fs) V = factors_accesses fs V
  terms_accesses (Negated fs) V = ap length (accesses-Negate (factors_expr V fs)) ∙ factors_accesses fs V
  terms_accesses (Plus e fs) V =
      ap length (accesses-Plus (terms_expr V e) (factors_expr V fs)) ∙ length-append (accesses (terms_expr V e)) (accesses (factors_expr V fs))
      ∙ ap (λ n. n + length (accesses (factors_expr V fs))) (terms_accesses e V) ∙ ap (λ n. terms_weight e 1 0 + n) (factors_accesses fs V)
  terms_accesses (Minus e fs) V =
      ap length (accesses-Minus (terms_expr V e) (factors_expr V fs)) ∙ length-append (accesses (terms_expr V e)) (accesses (factors_expr V fs))
      ∙ ap (λ n. n + length (accesses (factors_expr V fs))) (terms_accesses e V) ∙ ap (λ n. terms_weight e 1 0 + n) (factors_accesses fs V)

-- an expression has as many literals as its weight says
mutual
  pub factor_literals : (f : Factor) (V : List (List ℕ)) → length (literals (factor_expr V f)) ≡ factor_weight f 0 1
  factor_literals (Number n) V = refl
  factor_literals (Access t v vs) V = refl
  factor_literals (Parens e) V = terms_literals e V

  pub factors_literals : (fs : Factors) (V : List (List ℕ)) → length (literals (factors_expr V fs)) ≡ factors_weight fs 0 1
  factors_literals (One f) V = factor_literals f V
  factors_literals (Times fs f) V =
      ap length (literals-Times (factors_expr V fs) (factor_expr V f)) ∙ length-append (literals (factors_expr V fs)) (literals (factor_expr V f))
      ∙ ap (λ n. n + length (literals (factor_expr V f))) (factors_literals fs V) ∙ ap (λ n. factors_weight fs 0 1 + n) (factor_literals f V)

  pub terms_literals : (e : Terms) (V : List (List ℕ)) → length (literals (terms_expr V e)) ≡ terms_weight e 0 1
  terms_literals (First fs) V = factors_literals fs V
  terms_literals (Negated fs) V = ap length (literals-Negate (factors_expr V fs)) ∙ factors_literals fs V
  terms_literals (Plus e fs) V =
      ap length (literals-Plus (terms_expr V e) (factors_expr V fs)) ∙ length-append (literals (terms_expr V e)) (literals (factors_expr V fs))
      ∙ ap (λ n. n + length (literals (factors_expr V fs))) (terms_literals e V) ∙ ap (λ n. terms_weight e 0 1 + n) (factors_literals fs V)
  terms_literals (Minus e fs) V =
      ap length (literals-Minus (terms_expr V e) (factors_expr V fs)) ∙ length-append (literals (terms_expr V e)) (literals (factors_expr V fs))
      ∙ ap (λ n. n + length (literals (factors_expr V fs))) (terms_literals e V) ∙ ap (λ n. terms_weight e 0 1 + n) (factors_literals fs V)
