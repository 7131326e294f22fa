-- A text without a fault is read as what it means.
use Rattle.std.proofs.Common.{◌≡◌, ℕ, suc, ◌+◌, ◌++◌, Bool, true, false, cond, List, [], ◌∷◌, length, map, fold, refl, ap, sym, ◌∙◌, subst, Option, Some}
use Rattle.std.proofs.Common.{None, Ok, Err, ◌≤◌, arith, nat_lt}
use Rattle.std.specs.Prelude.{IfSome, Result, ◌==◌}
use Rattle.std.specs.Option.{option_and_then}
use Rattle.std.proofs.lemmas.Bool.Decides.{nat_tests}
use Rattle.std.proofs.lemmas.List.{append-nil}
use Rattle.std.proofs.lemmas.List.Sums.{fold-append}
use Rattle.dt_text.specs.declared.spans.Span.{Span}
use Rattle.dt_text.specs.Spans.{bytes_of}
use Rattle.dt_model.specs.Statements.{accesses, literals}
use Rattle.dt_model.specs.declared.statements.Stmt.{Stmt}
use Rattle.dt_model.specs.declared.statements.Expr.{Expr}
use Rattle.index_read.specs.declared.lexer.Token.{Token}
use Rattle.index_read.specs.declared.lexer.Token.TheVariants as a
use Rattle.index_read.specs.declared.roles.Place.{Place}
use Rattle.index_read.specs.declared.roles.Place.TheVariants as at
use Rattle.index_read.specs.declared.roles.Role.{Role}
use Rattle.index_read.specs.declared.roles.Role.TheVariants as the
use Rattle.index_read.specs.declared.scan.Scan.{Scan}
use Rattle.index_read.specs.declared.scan.Fault.{Fault}
use Rattle.index_read.specs.declared.trees.Tree.{Tree}
use Rattle.index_read.specs.declared.read.StmtFault.{StmtFault}
use Rattle.index_read.specs.Tokens.{spans_of, token_of, tokens_of}
use Rattle.index_read.specs.Roles.{role_of}
use Rattle.index_read.specs.Scans.{at_first, step, step_as, in_limits, count_role, with_listed, with_variable}
use Rattle.index_read.specs.Faults.{fault_from, fault_or, is_end, may_end, first_fault}
use Rattle.index_read.specs.Building.{with_role, read_from, read_or, read_of, empty_tree, stmt_of, expr_of, place_of}
use Rattle.index_read.specs.Readings.{tokens_in}
use Rattle.index_read.specs.Grammar.{stmt_tokens}
use Rattle.index_read.specs.Excess.{with_name, distinct, variable_of}
use Rattle.index_read.specs.Meaning.{meaning, StmtText, terms_expr, vars_of, left_names, left_name}
use Rattle.index_read.proofs.Machine.{State, S0, S1, S2, S2m, S3, S4, S5, S6, S7, S8, S8m, S9, S10, next, run, closed}
use Rattle.index_read.proofs.Machine.{sum_of, last_of}
use Rattle.index_read.proofs.Complete.{stmt_run, closed-same}
use Rattle.index_read.proofs.Runs.{run-read, done-read}
use Rattle.index_read.proofs.Agree.{place, depth, Agrees, step_agrees}
use Rattle.index_read.proofs.Names.{names, name_at, next_names, closed_names}
use Rattle.index_read.proofs.Places.{Begun, with_variable-is, with_name-begun, begun-same, begun-trans}
use Rattle.index_read.proofs.Counts.{weight, weight_at, next_weight, closed_weight, terms_weight}
use Rattle.index_read.proofs.Limits.{role_weight, role_weights, IsWithin, count_role-counts, terms_accesses, terms_literals}
use Rattle.index_read.proofs.Fits.{Fits, Builds, builds, expr_of-closed}

-- ---- a step apart

some_is : {A : Type 0} (x y : A) → Some x ≡ Some y → x ≡ y
some_is x y e = cc

pair_is : (x y : Scan × Role) → ◌≡◌ {A = Result (Scan × Role) Fault} (Ok x) (Ok y) → x ≡ y
pair_is x y e = cc

-- what a step that is made says
pub record Made (s : Scan) (q : Option (Role × Place)) (r : Scan) (role : Role) : Type 0 where
  pub to : Place
  pub role_is : q ≡ Some (role, to)
  pub counts : count_role role (record s { place = to }) ≡ Some r

made_by : (s r : Scan) (p : Role × Place) (role : Role) (o : Option Scan) → count_role p.0 (record s { place = p.1 }) ≡ o → in_limits p.0 o ≡ Ok (r, role)
    → Made s (Some p) r role
made_by s r p role None c e = absurd (cc)
made_by s r p role (Some m) c e =
    let x : Scan × Role = (m, p.0) in
    let y : Scan × Role = (r, role) in
    let is : x ≡ y = pair_is x y e in
    let same : p.0 ≡ role = ap (λ z. z.1) is in
    record {
      to = p.1;
      role_is = ap (λ x. Some (x, p.1)) same;
      counts = ap (λ x. count_role x (record s { place = p.1 })) (sym same) ∙ c ∙ ap (λ z. Some z.0) is;
    }

made : (s r : Scan) (q : Option (Role × Place)) (role : Role) → step_as s q ≡ Ok (r, role) → Made s q r role
made s r None role e = absurd (cc)
made s r (Some p) role e = made_by s r p role (count_role p.0 (record s { place = p.1 })) refl e

-- ---- variables

vars_kept : (s r : Scan) (q : Place) → Some (record s { place = q }) ≡ Some r → r.vars.items ≡ s.vars.items
vars_kept s r q e = sym (ap (λ x. x.vars.items) (some_is (record s { place = q }) r e))

cond_vars : (b : Bool) (x r : Scan) (vs : List (List ℕ)) → x.vars.items ≡ vs → cond b (Some x) None ≡ Some r → r.vars.items ≡ vs
cond_vars true x r vs h e = sym (ap (λ z. z.vars.items) (some_is x r e)) ∙ h
cond_vars false x r vs h e = absurd (cc)

with_listed_vars : (s r : Scan) (name : List ℕ) (o : Option (List (List ℕ))) → with_variable s.vars.items name ≡ o → with_listed s o ≡ Some r
    → r.vars.items ≡ with_name s.vars.items name
with_listed_vars s r name None h e = absurd (cc)
with_listed_vars s r name (Some vs) h e =
    let is = some_is (record s { listed = s.listed + 1; vars = record { items = vs } }) r e in
    sym (ap (λ z. z.vars.items) is) ∙ (with_variable-is s.vars.items vs name h).1

variable_vars : (s r : Scan) (name : List ℕ) (b : Bool) → cond b (with_listed s (with_variable s.vars.items name)) None ≡ Some r
    → r.vars.items ≡ with_name s.vars.items name
variable_vars s r name true e = with_listed_vars s r name (with_variable s.vars.items name) refl e
variable_vars s r name false e = absurd (cc)

-- a role adds its variable
pub count_role-vars : (role : Role) (s r : Scan) (q : Place) → count_role role (record s { place = q }) ≡ Some r
    → r.vars.items ≡ fold with_name s.vars.items (variable_of role)
count_role-vars (the.Tensor name) s r q e = cond_vars (nat_lt s.accesses 12) _ r s.vars.items refl e
count_role-vars (the.Literal None) s r q e = absurd (cc)
count_role-vars (the.Literal (Some n)) s r q e = cond_vars (nat_lt s.literals 12) _ r s.vars.items refl e
count_role-vars the.Group s r q e = cond_vars (nat_lt s.depth 16) _ r s.vars.items refl e
count_role-vars the.EndGroup s r q e = sym (ap (λ x. x.vars.items) (some_is _ r e))
count_role-vars (the.LeftVariable name) s r q e = variable_vars (record s { place = q }) r name (nat_lt s.listed 8) e
count_role-vars (the.Variable name) s r q e = variable_vars (record s { place = q }) r name (nat_lt s.listed 8) e
count_role-vars role s r q e = vars_kept s r q e

-- the table's role adds the grammar's variable
close_names : (b : Bool) → IfSome {T = Role × Place} (cond b (Some (the.EndGroup, at.After)) None) (λ q. variable_of q.0 ≡ [])
close_names true = refl
close_names false = tt

role_names : (u : State) (k : Token) → IfSome (role_of (place u) k (depth u)) (λ q. variable_of q.0 ≡ name_at u k)
role_names S0 (a.Word n) = refl
role_names (S1 n) a.Open = refl
role_names (S1 n) a.Equals = refl
role_names (S2 n) (a.Word v) = refl
role_names (S2m n v vs) (a.Word w) = refl
role_names (S3 n v vs) a.Comma = refl
role_names (S3 n v vs) a.Close = refl
role_names (S4 n v vs) a.Equals = refl
role_names (S5 l o) (a.Word t) = refl
role_names (S5 l o) (a.Number k) = refl
role_names (S5 l o) a.Open = refl
role_names (S5 l o) a.Minus = refl
role_names (S6 l o p) (a.Word t) = refl
role_names (S6 l o p) (a.Number k) = refl
role_names (S6 l o p) a.Open = refl
role_names (S7 l o p t) a.Open = refl
role_names (S8 l o p t) (a.Word v) = refl
role_names (S8m l o p t v vs) (a.Word w) = refl
role_names (S9 l o p t v vs) a.Comma = refl
role_names (S9 l o p t v vs) a.Close = refl
role_names (S10 l o s fs) a.Close = close_names (nat_lt 0 (length o))
role_names (S10 l o s fs) a.Plus = refl
role_names (S10 l o s fs) a.Minus = refl
role_names (S10 l o s fs) a.Times = refl
role_names s t = tt

-- ---- one token more

-- the state of what has been read, apart from the tree
record Stands (s : Scan) (u : State) : Type 0 where
  place_is : s.place ≡ place u
  depth_is : s.depth ≡ depth u
  vars_are : s.vars.items ≡ distinct (names u)
  accesses_are : s.accesses ≡ weight u 1 0
  literals_are : s.literals ≡ weight u 0 1
  within_limits : IsWithin s

-- what a step that is made at a state says
pub made_at : (s r : Scan) (u : State) (k : Token) (role : Role) → s.place ≡ place u → s.depth ≡ depth u → step s k ≡ Ok (r, role)
    → Made s (role_of (place u) k (depth u)) r role
made_at s r u k role p d e =
    subst (λ n. Made s (role_of (place u) k n) r role) d (subst (λ q. Made s (role_of q k s.depth) r role) p (made s r (role_of s.place k s.depth) role e))

-- the variables of a role and of a token
made_names : (s r : Scan) (u : State) (k : Token) (role : Role) → Made s (role_of (place u) k (depth u)) r role → variable_of role ≡ name_at u k
made_names s r u k role m =
    let it : IfSome {T = Role × Place} (Some (role, m.to)) (λ q. variable_of q.0
    ≡ name_at u k) = subst (λ q. IfSome q (λ q. variable_of q.0 ≡ name_at u k)) m.role_is (role_names u k) in it

made_vars : (s r : Scan) (u v : State) (k : Token) (role : Role) → Stands s u → Made s (role_of (place u) k (depth u)) r role → next u k ≡ Some v
    → r.vars.items ≡ distinct (names v)
made_vars s r u v k role h m e =
    let more : names v ≡ names u ++ name_at u k = subst (λ o. IfSome o (λ w. names w ≡ names u ++ name_at u k)) e (next_names u k) in
    count_role-vars role s r m.to m.counts
    ∙ ap (fold with_name s.vars.items) (made_names s r u k role m)
    ∙ ap (λ vs. fold with_name vs (name_at u k)) h.vars_are
    ∙ sym (fold-append with_name [] (names u) (name_at u k))
    ∙ ap distinct (sym more)

-- the weight of a role and of a token
made_weight : (s r : Scan) (u v : State) (k : Token) (role : Role) (x y : ℕ) → Made s (role_of (place u) k (depth u)) r role → next u k ≡ Some v
    → weight v x y ≡ weight u x y + role_weight role x y
made_weight s r u v k role x y m e =
    let more : weight v x y ≡ weight u x y + weight_at u k x y = subst (λ o. IfSome o (λ w. weight w x y ≡ weight u x y
    + weight_at u k x y)) e (next_weight u k x y) in
    let same : IfSome {T = Role × Place} (Some (role, m.to)) (λ q. role_weight q.0 x y
    ≡ weight_at u k x y) = subst (λ q. IfSome q (λ q. role_weight q.0 x y ≡ weight_at u k x y)) m.role_is (role_weights u k x y) in
    more ∙ ap (λ n. weight u x y + n) (sym same)

made_fits : (V : List (List ℕ)) (s r : Scan) (t : Tree) (u v : State) (k : Token) (role : Role) → Made s (role_of (place u) k (depth u)) r role
    → next u k ≡ Some v → Fits V t s.listed u → Begun r.vars.items V
    → Fits V (with_role t role r.vars.items) r.listed v
made_fits V s r t u v k role m e f b =
    let all : Builds V s t (Some (role, m.to)) (Some v) = subst (λ o. Builds V s t (Some (
      role,
      m.to,
    )) o) e (subst (λ q. Builds V s t q (next u k)) m.role_is (builds V u k s t f)) in
    all r m.counts b

-- ---- variables are only added

-- names that are added leave those before
pub fold_begun : (more xs : List (List ℕ)) → Begun xs (fold with_name xs more)
fold_begun [] xs = begun-same xs
fold_begun (n ∷ more) xs = begun-trans xs (with_name xs n) (fold with_name (with_name xs n) more) (with_name-begun xs n) (fold_begun more (with_name xs n))

step_begun : (s r : Scan) (k : Token) (role : Role) → step s k ≡ Ok (r, role) → Begun s.vars.items r.vars.items
step_begun s r k role e =
    let m = made s r (role_of s.place k s.depth) role e in
    subst (λ vs. Begun s.vars.items vs) (sym (count_role-vars role s r m.to m.counts)) (fold_begun (variable_of role) s.vars.items)

begun_by : (text : List ℕ) (s : Scan) (t : Tree) (k : Token) (xs : List Span) (q : Result (Scan × Role) Fault) → step s k ≡ q
    → ((r : Scan) (role : Role) → Begun r.vars.items (read_from text r (with_role t role r.vars.items) xs).0.vars.items)
    → Begun s.vars.items (read_or (s, t) q (λ r role. read_from text r (with_role t role r.vars.items) xs)).0.vars.items
begun_by text s t k xs (Err f) e h = begun-same s.vars.items
begun_by text s t k xs (Ok p) e h = begun-trans s.vars.items p.0.vars.items _ (step_begun s p.0 k p.1 e) (h p.0 p.1)

begun_all : (xs : List Span) (text : List ℕ) (s : Scan) (t : Tree) → Begun s.vars.items (read_from text s t xs).0.vars.items
begun_all [] text s t = begun-same s.vars.items
begun_all (x ∷ xs) text s t =
    let k = token_of (bytes_of text x) in
    begun_by text s t k xs (step s k) refl (λ r role. begun_all xs text r (with_role t role r.vars.items))

-- ---- all tokens

-- what is known where all has been read
record Done (text : List ℕ) (V : List (List ℕ)) (u : State) (xs : List Span) (out : Scan × Tree) : Type 0 where
  to : State
  goes : run u (tokens_in text xs) ≡ Some to
  stands : Stands out.0 to
  fits : Fits V out.1 out.0.listed to
  ends : is_end out.0 ≡ true

end_none : (b : Bool) (f : StmtFault) → cond b None (Some f) ≡ None → b ≡ true
end_none true f e = refl
end_none false f e = absurd (cc)

done_by : (text : List ℕ) (V : List (List ℕ)) (s : Scan) (t : Tree) (u : State) (x : Span) (xs : List Span) (q : Result (Scan × Role) Fault) (o : Option State)
    → step s (token_of (bytes_of text x)) ≡ q → next u (token_of (bytes_of text x)) ≡ o → Agrees q o → Stands s u → Fits V t s.listed u
    → ((r : Scan) (role : Role) (v : State) → Stands r v → Fits V (with_role t role r.vars.items) r.listed v → V
    ≡ (read_from text r (with_role t role r.vars.items) xs).0.vars.items → fault_from text r x.to xs ≡ None
    → Done text V v xs (read_from text r (with_role t role r.vars.items) xs))
    → V ≡ (read_or (s, t) q (λ r role. read_from text r (with_role t role r.vars.items) xs)).0.vars.items
    → fault_or (x.from + 1) q (λ r. fault_from text r x.to xs) ≡ None
    → Done text V u (x ∷ xs) (read_or (s, t) q (λ r role. read_from text r (with_role t role r.vars.items) xs))
done_by text V s t u x xs (Err f) o e n d h fits more vs none = absurd (cc)
done_by text V s t u x xs (Ok p) None e n d h fits more vs none = absurd d
done_by text V s t u x xs (Ok p) (Some v) e n d h fits more vs none =
    let k = token_of (bytes_of text x) in
    let m = made_at s p.0 u k p.1 h.place_is h.depth_is e in
    let among : Begun p.0.vars.items V = subst (λ ys. Begun p.0.vars.items ys) (sym vs) (begun_all xs text p.0 (with_role t p.1 p.0.vars.items)) in
    let counts = count_role-counts p.1 s p.0 m.to h.within_limits m.counts in
    let stands : Stands p.0 v = record {
      place_is = d.0;
      depth_is = d.1;
      vars_are = made_vars s p.0 u v k p.1 h m n;
      accesses_are = counts.accesses_is ∙ ap (λ x. x + role_weight p.1 1 0) h.accesses_are ∙ sym (made_weight s p.0 u v k p.1 1 0 m n);
      literals_are = counts.literals_is ∙ ap (λ x. x + role_weight p.1 0 1) h.literals_are ∙ sym (made_weight s p.0 u v k p.1 0 1 m n);
      within_limits = counts.within;
    } in
    let rest = more p.0 p.1 v stands (made_fits V s p.0 t u v k p.1 m n fits among) vs none in
    record {
      to = rest.to;
      goes = ap (option_and_then (λ w. run w (tokens_in text xs))) n
          ∙ rest.goes;
      stands = rest.stands;
      fits = rest.fits;
      ends = rest.ends;
    }

done_from : (xs : List Span) (text : List ℕ) (V : List (List ℕ)) (end : ℕ) (s : Scan) (t : Tree) (u : State) → Stands s u → Fits V t s.listed u
    → V ≡ (read_from text s t xs).0.vars.items
    → fault_from text s end xs ≡ None → Done text V u xs (read_from text s t xs)
done_from [] text V end s t u h f vs none = record { to = u; goes = refl; stands = h; fits = f; ends = end_none (is_end s) _ none }
done_from (x ∷ xs) text V end s t u h f vs none =
    let k = token_of (bytes_of text x) in
    done_by text V s t u x xs (step s k) (next u k) refl refl (step_agrees s u k h.place_is h.depth_is) h f
    (λ r role v stands fits all n. done_from xs text V x.to r (with_role t role r.vars.items) v stands fits all n) vs none

-- ---- the statement

stmt_by : (text : List ℕ) (out : Scan × Tree) (u : State) → run S0 (tokens_of text) ≡ Some u → Stands out.0 u → Fits out.0.vars.items out.1 out.0.listed u
    → may_end (place u) (depth u) ≡ true → StmtText text (stmt_of out)
stmt_by text out (S10 l [] s fs) goes h f e =
    let V = out.0.vars.items in
    let e = closed s fs in
    let make : List ℕ → List (List ℕ) → List ℕ → Expr → Stmt = λ n vs xs r. record { name = n; vars = record { items = vs }; left = xs; right = r } in
    let vars : V ≡ vars_of l e = h.vars_are ∙ ap (λ ns. distinct (left_names l ++ ns)) (sym (closed_names s fs)) in
    let right : expr_of out.1.levels.here ≡ terms_expr V e = ap (λ x. expr_of x.here) f.1 ∙ expr_of-closed V s fs in
    record {
      left = l;
      right = e;
      written = sym (run-read (tokens_of text) S0 (S10 l [] s fs) goes) ∙ done-read l s fs;
      means = ap (λ n. make n V out.1.left (expr_of out.1.levels.here)) f.0.0
          ∙ ap (λ xs. make (left_name l) V xs (expr_of out.1.levels.here)) f.0.1
          ∙ ap (λ r. make (left_name l) V (map (place_of V) (left_names l)) r) right
          ∙ ap (λ vs. make (left_name l) vs (map (place_of vs) (left_names l)) (terms_expr vs e)) vars;
    }
stmt_by text out (S10 l (p ∷ o) s fs) goes h f e = absurd (positive (length o) e) where
  positive : (n : ℕ) → (suc n == 0) ≡ true → ⊥
  positive n h = grind (arith, nat_tests)
stmt_by text out u goes h f e = absurd (differ e) where
  differ : false ≡ true → ⊥
  differ d = cc

first_stands : Stands at_first S0
first_stands = record {
  place_is = refl;
  depth_is = refl;
  vars_are = refl;
  accesses_are = refl;
  literals_are = refl;
  within_limits = record { accesses_few = omega arith; literals_few = omega arith; vars_few = omega arith };
}

-- a text without a fault is the statement that is read
pub stmt_text : (text : List ℕ) → first_fault text ≡ None → StmtText text (stmt_of (read_of text))
stmt_text text none =
    let d = done_from (spans_of text) text (read_of text).0.vars.items 0 at_first empty_tree S0 (record {
      place_is = refl;
      depth_is = refl;
      vars_are = refl;
      accesses_are = refl;
      literals_are = refl;
      within_limits = record {
        accesses_few = omega arith;
        literals_few = omega arith;
        vars_few = omega arith;
      };
    }) (refl, refl, refl) refl none in
    stmt_by text (read_of text) d.to d.goes d.stands d.fits (subst (λ p. may_end p (depth d.to)
    ≡ true) d.stands.place_is (subst (λ n. may_end (read_of text).0.place n ≡ true) d.stands.depth_is d.ends))

-- ---- one reading

-- the statement at a state in which one may end
abbrev meaning_at : State → Option Stmt
meaning_at (S10 l o s fs) = Some (meaning l (closed s fs))
meaning_at u = None

meaning_of : (text : List ℕ) (stmt : Stmt) → StmtText text stmt → option_and_then meaning_at (run S0 (tokens_of text)) ≡ Some stmt
meaning_of text stmt w =
    let goes : run S0 (tokens_of text) ≡ Some (S10 w.left [] (sum_of w.right) (last_of w.right)) = ap (run S0) (w.written
    ∙ sym (append-nil (stmt_tokens w.left w.right))) ∙ stmt_run w.left w.right [] in
    ap (option_and_then meaning_at) goes ∙ ap (λ e. Some (meaning w.left e)) (closed-same w.right) ∙ ap Some (sym w.means)

-- a text is at most one statement
pub one_reading : (text : List ℕ) (a b : Stmt) → StmtText text a → StmtText text b → a ≡ b
one_reading text a b v w = some_is a b (sym (meaning_of text a v) ∙ meaning_of text b w)

-- what is read is small
small_by : (text : List ℕ) (out : Scan × Tree) (u : State) → run S0 (tokens_of text) ≡ Some u → Stands out.0 u → (stmt : Stmt) → StmtText text stmt
    → (length (accesses stmt.right) ≤ 12) × (length (literals stmt.right) ≤ 12)
small_by text out u goes h stmt w =
    let e = w.right in
    let at_end : run S0 (tokens_of text) ≡ Some (S10 w.left [] (sum_of e) (last_of e)) = ap (run S0) (w.written ∙ sym (append-nil (stmt_tokens w.left e)))
    ∙ stmt_run w.left e [] in
    let same : u ≡ S10 w.left [] (sum_of e) (last_of e) = some_is u _ (sym goes ∙ at_end) in
    let V = vars_of w.left e in
    let weigh : (x y : ℕ) → weight u x y ≡ terms_weight e x y = λ x y.
    let whole : weight (S10 w.left [] (sum_of e) (last_of e)) x y
    ≡ terms_weight (closed (sum_of e) (last_of e)) x y = omega (arith, closed_weight (sum_of e) (last_of e) x y) in
    ap (λ v. weight v x y) same ∙ whole ∙ ap (λ r. terms_weight r x y) (closed-same e) in
    let few = h.within_limits in
    let many : length (accesses stmt.right) ≡ out.0.accesses = ap (λ s. length (accesses s.right)) w.means ∙ terms_accesses e V ∙ sym (weigh 1 0)
    ∙ sym h.accesses_are in
    let much : length (literals stmt.right) ≡ out.0.literals = ap (λ s. length (literals s.right)) w.means ∙ terms_literals e V ∙ sym (weigh 0 1)
    ∙ sym h.literals_are in
    (omega (arith, many, few.accesses_few), omega (arith, much, few.literals_few))

-- the accesses, literals and variables of a text without a fault
pub stmt_counts : (text : List ℕ) → first_fault text ≡ None → (stmt : Stmt) → StmtText text stmt
    → (length (accesses stmt.right) ≤ 12) × (length (literals stmt.right) ≤ 12) × (length (read_of text).0.vars.items ≤ 8)
stmt_counts text none stmt w =
    let d = done_from (spans_of text) text (read_of text).0.vars.items 0 at_first empty_tree S0 first_stands (refl, refl, refl) refl none in
    let few = small_by text (read_of text) d.to d.goes d.stands stmt w in
    (few.0, few.1, d.stands.within_limits.vars_few)
