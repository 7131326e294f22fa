-- What a scan counts is what its tokens count, and a token that it refuses for a limit passes one.
use Rattle.std.proofs.Common.{◌≡◌, ℕ, ◌+◌, ◌≤◌, ◌<◌, ◌++◌, Bool, true, false, cond, List, [], ◌∷◌, length, fold, refl, ap, sym, ◌∙◌, subst, Option, Some, None, arith}
use Rattle.std.proofs.Common.{nat_lt, inl, inr}
use Rattle.std.specs.Prelude.{count_by, flat_map}
use Rattle.std.proofs.lemmas.Bool.Decides.{nat_tests}
use Rattle.std.proofs.lemmas.List.{append-nil}
use Rattle.std.proofs.lemmas.List.Sums.{fold-append, sum_by-append}
use Rattle.std.proofs.lemmas.List.Concat.{flat_map-append}
use Rattle.index_read.specs.declared.roles.Place.{Place}
use Rattle.index_read.specs.declared.roles.Role.{Role}
use Rattle.index_read.specs.declared.roles.Role.TheVariants as the
use Rattle.index_read.specs.declared.scan.Scan.{Scan}
use Rattle.index_read.specs.Scans.{count_role, with_listed, with_variable, has_name}
use Rattle.index_read.specs.Excess.{is_access, is_literal, depth_with, depth_behind, listed_with, listed_behind, variable_of, with_name, variables_behind}
use Rattle.index_read.specs.Excess.{IsNinthVariable, PassesLimit}
use Rattle.index_read.proofs.Agree.{Keeps, count_role-keeps}
use Rattle.index_read.proofs.Limits.{role_weight, IsWithin, count_role-counts}
use Rattle.index_read.proofs.Built.{count_role-vars}

some_none : {A : Type 0} (x : A) → Some x ≡ None → ⊥
some_none x e = cc

-- ---- variables in the list in front, and open parentheses

-- one more token, with its bounds
record Grows (s : Scan) (role : Role) (r : Scan) : Type 0 where
  listed_is : r.listed ≡ listed_with role s.listed
  listed_few : r.listed ≤ 8
  depth_few : r.depth ≤ 16

grows_to : (s r x : Scan) (role : Role) → Some x ≡ Some r → Grows s role x → Grows s role r
grows_to s r x role e h = let same : x ≡ r = cc in subst (λ z. Grows s role z) same h

grows_cond : (s r x : Scan) (role : Role) (b : Bool) → cond b (Some x) None ≡ Some r → (b ≡ true → Grows s role x) → Grows s role r
grows_cond s r x role true e h = grows_to s r x role e (h refl)
grows_cond s r x role false e h = absurd (cc)

grows_listed : (s r : Scan) (role : Role) (q : Place) (o : Option (List (List ℕ))) → s.listed + 1 ≡ listed_with role s.listed → s.listed < 8 → s.depth ≤ 16
    → with_listed (record s { place = q }) o ≡ Some r → Grows s role r
grows_listed s r role q None w l d e = absurd (cc)
grows_listed s r role q (Some vs) w l d e = grows_to s r _ role e (record { listed_is = w; listed_few = omega (arith, l); depth_few = d })

grows_variable : (s r : Scan) (role : Role) (q : Place) (b : Bool) (o : Option (List (List ℕ))) → nat_lt s.listed 8 ≡ b → s.listed
    + 1 ≡ listed_with role s.listed → s.depth ≤ 16
    → cond b (with_listed (record s { place = q }) o) None ≡ Some r → Grows s role r
grows_variable s r role q true o t w d e = let l : s.listed < 8 = grind (arith, nat_tests) in grows_listed s r role q o w l d e
grows_variable s r role q false o t w d e = absurd (cc)

grows : (role : Role) (s r : Scan) (q : Place) → s.listed ≤ 8 → s.depth ≤ 16 → count_role role (record s { place = q }) ≡ Some r → Grows s role r
grows (the.Tensor name) s r q l d e = grows_cond s r _ (the.Tensor name) (nat_lt s.accesses 12) e
    (λ _. record { listed_is = refl; listed_few = omega arith; depth_few = d })
grows (the.Literal None) s r q l d e = absurd (cc)
grows (the.Literal (Some n)) s r q l d e = grows_cond s r _ (the.Literal (Some n)) (nat_lt s.literals 12) e
    (λ _. record { listed_is = refl; listed_few = l; depth_few = d })
grows the.Group s r q l d e = grows_cond s r _ the.Group (nat_lt s.depth 16) e
    (λ t. let less : s.depth < 16 = grind (arith, nat_tests) in record { listed_is = refl; listed_few = l; depth_few = omega (arith, less) })
grows the.EndGroup s r q l d e = grows_to s r _ the.EndGroup e (record { listed_is = refl; listed_few = l; depth_few = omega (arith, d) })
grows (the.LeftVariable name) s r q l d e =
    grows_variable s r (the.LeftVariable name) q (nat_lt s.listed 8) (with_variable s.vars.items name) refl refl d e
grows (the.Variable name) s r q l d e = grows_variable s r (the.Variable name) q (nat_lt s.listed 8) (with_variable s.vars.items name) refl refl d e
grows (the.Target name) s r q l d e = grows_to s r _ (the.Target name) e (record { listed_is = refl; listed_few = l; depth_few = d })
grows the.EndList s r q l d e = grows_to s r _ the.EndList e (record { listed_is = refl; listed_few = l; depth_few = d })
grows the.Plus s r q l d e = grows_to s r _ the.Plus e (record { listed_is = refl; listed_few = l; depth_few = d })
grows the.Minus s r q l d e = grows_to s r _ the.Minus e (record { listed_is = refl; listed_few = l; depth_few = d })
grows the.Times s r q l d e = grows_to s r _ the.Times e (record { listed_is = refl; listed_few = l; depth_few = d })
grows the.Negate s r q l d e = grows_to s r _ the.Negate e (record { listed_is = refl; listed_few = l; depth_few = d })
grows the.Mark s r q l d e = grows_to s r _ the.Mark e (record { listed_is = refl; listed_few = l; depth_few = d })

-- ---- counts

-- a scan has counted these tokens
pub record HasCounted (s : Scan) (front : List Role) : Type 0 where
  pub accesses_are : s.accesses ≡ count_by is_access front
  pub literals_are : s.literals ≡ count_by is_literal front
  pub depth_is : s.depth ≡ depth_behind front
  pub listed_is : s.listed ≡ listed_behind front
  pub vars_are : s.vars.items ≡ variables_behind front
  pub listed_few : s.listed ≤ 8
  pub depth_few : s.depth ≤ 16
  pub within : IsWithin s

access_weight : (role : Role) → role_weight role 1 0 ≡ count_by is_access (role ∷ [])
access_weight (the.Tensor name) = refl
access_weight (the.Literal value) = refl
access_weight role = refl

literal_weight : (role : Role) → role_weight role 0 1 ≡ count_by is_literal (role ∷ [])
literal_weight (the.Tensor name) = refl
literal_weight (the.Literal value) = refl
literal_weight role = refl

depth_kept : (role : Role) (s r : Scan) (q : Place) → count_role role (record s { place = q }) ≡ Some r → r.depth ≡ depth_with role s.depth
depth_kept role s r q e = (subst (λ o. Keeps role (record s { place = q }) o) e (count_role-keeps role (record s { place = q }))).1

variables_more : (front : List Role) (role : Role) → variables_behind (front ++ role ∷ []) ≡ fold with_name (variables_behind front) (variable_of role)
variables_more front role =
    ap (fold with_name []) (flat_map-append variable_of front (role ∷ [])
    ∙ ap (λ x. flat_map variable_of front ++ x) (append-nil (variable_of role)))
    ∙ fold-append with_name [] (flat_map variable_of front) (variable_of role)

-- one token more
pub HasCounted-more : (role : Role) (s r : Scan) (q : Place) (front : List Role) → HasCounted s front → count_role role (record s { place = q }) ≡ Some r
    → HasCounted r (front ++ role ∷ [])
HasCounted-more role s r q front h e =
    let counts = count_role-counts role s r q h.within e in
    let more = grows role s r q h.listed_few h.depth_few e in
    record {
      accesses_are = counts.accesses_is ∙ ap (λ n. n + role_weight role 1 0) h.accesses_are ∙ ap (λ n. count_by is_access front + n) (access_weight role)
          ∙ sym (sum_by-append (λ x. cond (is_access x) 1 0) front (role ∷ []));
      literals_are = counts.literals_is ∙ ap (λ n. n + role_weight role 0 1) h.literals_are ∙ ap (λ n. count_by is_literal front + n) (literal_weight role)
          ∙ sym (sum_by-append (λ x. cond (is_literal x) 1 0) front (role ∷ []));
      depth_is = depth_kept role s r q e ∙ ap (depth_with role) h.depth_is ∙ sym (fold-append (λ n x. depth_with x n) 0 front (role ∷ []));
      listed_is = more.listed_is ∙ ap (listed_with role) h.listed_is ∙ sym (fold-append (λ n x. listed_with x n) 0 front (role ∷ []));
      vars_are = count_role-vars role s r q e ∙ ap (λ vs. fold with_name vs (variable_of role)) h.vars_are ∙ sym (variables_more front role);
      listed_few = more.listed_few;
      depth_few = more.depth_few;
      within = counts.within;
    }

-- ---- limits

full_by : (n m most : ℕ) (b : Bool) (x : Scan) → nat_lt n most ≡ b → n ≤ most → n ≡ m → cond b (Some x) None ≡ None → m ≡ most
full_by n m most true x t few is e = absurd (some_none x e)
full_by n m most false x t few is e = let no_less : most ≤ n = grind (arith, nat_tests) in omega (arith, few, is)

listed_none : (s : Scan) (o : Option (List (List ℕ))) → with_listed s o ≡ None → o ≡ None
listed_none s None e = refl
listed_none s (Some vs) e = absurd (some_none _ e)

new_by : (vars : List (List ℕ)) (name : List ℕ) (b c : Bool) → has_name vars name ≡ b → nat_lt (length vars) 8 ≡ c → length vars ≤ 8
    → cond b (Some vars) (cond c (Some (vars ++ name ∷ [])) None) ≡ None → (length vars ≡ 8) × (has_name vars name ≡ false)
new_by vars name true c h t few e = absurd (some_none vars e)
new_by vars name false true h t few e = absurd (some_none _ e)
new_by vars name false false h t few e = let no_less : 8 ≤ length vars = grind (arith, nat_tests) in (omega (arith, few, no_less), h)

ninth_by : (s : Scan) (q : Place) (name : List ℕ) (front : List Role) (b : Bool) → nat_lt s.listed 8 ≡ b → HasCounted s front
    → cond b (with_listed (record s { place = q }) (with_variable s.vars.items name)) None ≡ None → IsNinthVariable front name
ninth_by s q name front true t h e =
    let full = new_by s.vars.items name (has_name s.vars.items name) (nat_lt (length s.vars.items) 8) refl refl h.within.vars_few
    (listed_none (record s { place = q }) (with_variable s.vars.items name) e) in
    inr (subst (λ vs. (length vs ≡ 8) × (has_name vs name ≡ false)) h.vars_are full)
ninth_by s q name front false t h e =
    let no_less : 8 ≤ s.listed = grind (arith, nat_tests) in
    let few = h.listed_few in
    let full : s.listed ≡ 8 = omega (arith, few, no_less) in
    inl (sym h.listed_is ∙ full)

-- a token that isn't counted passes a limit
pub passes_limit : (role : Role) (s : Scan) (q : Place) (front : List Role) → HasCounted s front → count_role role (record s { place = q }) ≡ None
    → PassesLimit front role
passes_limit (the.Tensor name) s q front h e =
    full_by s.accesses (count_by is_access front) 12 (nat_lt s.accesses 12) _ refl h.within.accesses_few h.accesses_are e
passes_limit (the.Literal None) s q front h e = tt
passes_limit (the.Literal (Some n)) s q front h e =
    full_by s.literals (count_by is_literal front) 12 (nat_lt s.literals 12) _ refl h.within.literals_few h.literals_are e
passes_limit the.Group s q front h e = full_by s.depth (depth_behind front) 16 (nat_lt s.depth 16) _ refl h.depth_few h.depth_is e
passes_limit (the.LeftVariable name) s q front h e = ninth_by s q name front (nat_lt s.listed 8) refl h e
passes_limit (the.Variable name) s q front h e = ninth_by s q name front (nat_lt s.listed 8) refl h e
passes_limit role s q front h e = absurd (some_none _ e)
