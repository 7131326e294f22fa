-- The names in a statement that is read are names.
use Rattle.std.proofs.Common.{◌≡◌, ℕ, ◌++◌, Bool, true, false, cond, List, [], ◌∷◌, fold, refl, ap, sym, ◌∙◌, subst, Option, Some, None}
use Rattle.std.specs.Prelude.{⊤, MatchResult}
use Rattle.std.specs.List.{list_all}
use Rattle.dt_model.specs.declared.statements.Stmt.{Stmt}
use Rattle.dt_model.specs.Names.{is_name}
use Rattle.dt_model.specs.Statements.{accesses}
use Rattle.dt_model.specs.Verdicts.{is_small}
use Rattle.dt_model.proofs.Booleans.{both_true, true_both, list_all-append}
use Rattle.dt_model.proofs.StatementsLemmas.{accesses-Plus, accesses-Minus, accesses-Times, accesses-Negate}
use Rattle.index_read.specs.declared.lexer.Token.TheVariants as a
use Rattle.index_read.specs.declared.read.StmtFault.{StmtFault}
use Rattle.index_read.specs.Scans.{has_name}
use Rattle.index_read.specs.Building.{stmt_of, read_of}
use Rattle.index_read.specs.Faults.{first_fault}
use Rattle.index_read.specs.Grammar.{Factor, Number, Access, Parens, Factors, One, Times, Terms, First, Negated, Plus, Minus, Left, Bare, Listing}
use Rattle.index_read.specs.Grammar.{list_tokens, factor_tokens, factors_tokens, terms_tokens, left_tokens}
use Rattle.index_read.specs.Meaning.{factor_expr, factors_expr, terms_expr, factor_names, factors_names, terms_names, left_names, vars_of, unless_fault, statement_in, StmtText}
use Rattle.index_read.specs.Excess.{with_name}
use Rattle.index_read.proofs.Answering.{small_stmt}
use Rattle.index_read.proofs.Built.{stmt_text}
use Rattle.index_read.proofs.GoodTokens.{AreGood, good_head, good_tail, AreGood-front, AreGood-rest, AreGood-tokens_of}

-- ---- as it is written

-- each of some names is a name
abbrev AreNames : List (List ℕ) → Type 0
AreNames names = list_all is_name names ≡ true

-- some variables are names, and the tensor of each access has a name
abbrev AreNamed : List (List ℕ) → List (List ℕ × List ℕ) → Type 0
AreNamed names accs = AreNames names × (list_all (λ (x : List ℕ × List ℕ). is_name x.0) accs ≡ true)

-- those of two parts
both_named : (ns ms : List (List ℕ)) (xs ys : List (List ℕ × List ℕ)) → AreNamed ns xs → AreNamed ms ys → AreNamed (ns ++ ms) (xs ++ ys)
both_named ns ms xs ys h k =
    (list_all-append is_name ns ms h.0 k.0, list_all-append (λ (x : List ℕ × List ℕ). is_name x.0) xs ys h.1 k.1)

-- those of an expression with these accesses
named_at : (ns : List (List ℕ)) (xs ys : List (List ℕ × List ℕ)) → xs ≡ ys → AreNamed ns ys → AreNamed ns xs
named_at ns xs ys e h = subst (AreNamed ns) (sym e) h

list_named : (v : List ℕ) (vs : List (List ℕ)) → AreGood (list_tokens v vs) → AreNames (v ∷ vs)
list_named v [] h = true_both (is_name v) true (good_head (a.Word v) [] h) refl
list_named v (w ∷ ws) h = true_both (is_name v) (list_all is_name (w ∷ ws)) (good_head (a.Word v) (a.Comma ∷ list_tokens w ws) h)
    (list_named w ws (good_tail a.Comma (list_tokens w ws) (good_tail (a.Word v) (a.Comma ∷ list_tokens w ws) h)))

mutual
  factor_named : (f : Factor) (V : List (List ℕ)) → AreGood (factor_tokens f) → AreNamed (factor_names f) (accesses (factor_expr V f))
  factor_named (Number n) V g = (refl, refl)
  factor_named (Access t v vs) V g =
      let list = list_tokens v vs ++ a.Close ∷ [] in
      let inner = good_tail a.Open list (good_tail (a.Word t) (a.Open ∷ list) g) in
      (list_named v vs (AreGood-front (list_tokens v vs) (a.Close ∷ []) inner), true_both (is_name t) true (good_head (a.Word t) (a.Open ∷ list) g) refl)
  factor_named (Parens e) V g = terms_named e V (AreGood-front (terms_tokens e) (a.Close ∷ []) (good_tail a.Open (terms_tokens e ++ a.Close ∷ []) g))

  factors_named : (fs : Factors) (V : List (List ℕ)) → AreGood (factors_tokens fs) → AreNamed (factors_names fs) (accesses (factors_expr V fs))
  factors_named (One f) V g = factor_named f V g
  factors_named (Times fs f) V g =
      named_at (factors_names fs ++ factor_names f) _ _ (accesses-Times (factors_expr V fs) (factor_expr V f))
      (both_named (factors_names fs) (factor_names f) (accesses (factors_expr V fs)) (accesses (factor_expr V f))
      (factors_named fs V (AreGood-front (factors_tokens fs) (a.Times ∷ factor_tokens f) g))
      (factor_named f V (good_tail a.Times (factor_tokens f) (AreGood-rest (factors_tokens fs) (a.Times ∷ factor_tokens f) g))))

  terms_named : (e : Terms) (V : List (List ℕ)) → AreGood (terms_tokens e) → AreNamed (terms_names e) (accesses (terms_expr V e))
  terms_named (First fs) V g = factors_named fs V g
  terms_named (Negated fs) V g =
      named_at (factors_names fs) _ _ (accesses-Negate (factors_expr V fs)) (factors_named fs V (good_tail a.Minus (factors_tokens fs) g))
  terms_named (Plus e fs) V g =
      named_at (terms_names e ++ factors_names fs) _ _ (accesses-Plus (terms_expr V e) (factors_expr V fs))
      (both_named (terms_names e) (factors_names fs) (accesses (terms_expr V e)) (accesses (factors_expr V fs))
      (terms_named e V (AreGood-front (terms_tokens e) (a.Plus ∷ factors_tokens fs) g))
      (factors_named fs V (good_tail a.Plus (factors_tokens fs) (AreGood-rest (terms_tokens e) (a.Plus ∷ factors_tokens fs) g))))
  terms_named (Minus e fs) V g =
      named_at (terms_names e ++ factors_names fs) _ _ (accesses-Minus (terms_expr V e) (factors_expr V fs))
      (both_named (terms_names e) (factors_names fs) (accesses (terms_expr V e)) (accesses (factors_expr V fs))
      (terms_named e V (AreGood-front (terms_tokens e) (a.Minus ∷ factors_tokens fs) g))
      (factors_named fs V (good_tail a.Minus (factors_tokens fs) (AreGood-rest (terms_tokens e) (a.Minus ∷ factors_tokens fs) g))))

left_named : (l : Left) → AreGood (left_tokens l) → AreNames (left_names l)
left_named (Bare name) g = refl
left_named (Listing name v vs) g =
    let list = list_tokens v vs ++ a.Close ∷ [] in
    list_named v vs (AreGood-front (list_tokens v vs) (a.Close ∷ []) (good_tail a.Open list (good_tail (a.Word name) (a.Open ∷ list) g)))

-- ---- its variables, each once

with_named : (W : List (List ℕ)) (n : List ℕ) (b : Bool) → is_name n ≡ true → AreNames W → AreNames (cond b W (W ++ n ∷ []))
with_named W n true named h = h
with_named W n false named h = list_all-append is_name W (n ∷ []) h (true_both (is_name n) true named refl)

fold_named : (ns W : List (List ℕ)) → AreNames ns → AreNames W → AreNames (fold with_name W ns)
fold_named [] W h k = k
fold_named (n ∷ ns) W h k =
    let both = both_true (is_name n) (list_all is_name ns) h in
    fold_named ns (with_name W n) both.1 (with_named W n (has_name W n) both.0 k)

-- ---- the statement

-- a small statement whose variables are names, and each access of which names a tensor by a name
pub record IsNamedStmt (s : Stmt) : Type 0 where
  pub small : is_small s ≡ true
  pub vars : list_all is_name s.vars.items ≡ true
  pub tensors : list_all (λ (x : List ℕ × List ℕ). is_name x.0) (accesses s.right) ≡ true

-- what is read of a text without a fault is such a statement
stmt_named : (text : List ℕ) → first_fault text ≡ None → (s : Stmt) → s ≡ stmt_of (read_of text) → StmtText text s → IsNamedStmt s
stmt_named text none s is w =
    let good : AreGood (left_tokens w.left ++ a.Equals ∷ terms_tokens w.right) = subst AreGood w.written (AreGood-tokens_of text) in
    let left = left_named w.left (AreGood-front (left_tokens w.left) (a.Equals ∷ terms_tokens w.right) good) in
    let right = terms_named w.right (vars_of w.left w.right)
    (good_tail a.Equals (terms_tokens w.right) (AreGood-rest (left_tokens w.left) (a.Equals ∷ terms_tokens w.right) good)) in
    let vars = fold_named (left_names w.left ++ terms_names w.right) []
    (list_all-append is_name (left_names w.left) (terms_names w.right) left right.0) refl in
    record {
      small = small_stmt text none s is w;
      vars = ap (λ x. list_all is_name x.vars.items) w.means ∙ vars;
      tensors = ap (λ x. list_all (λ (y : List ℕ × List ℕ). is_name y.0) (accesses x.right)) w.means ∙ right.1;
    }

named_by : (text : List ℕ) (o : Option StmtFault) → first_fault text ≡ o → MatchResult (unless_fault o (stmt_of (read_of text))) IsNamedStmt (λ fault. ⊤)
named_by text None e = stmt_named text e (stmt_of (read_of text)) refl (stmt_text text e)
named_by text (Some fault) e = tt

-- the statement in a text is such a statement
pub statement_in-named : (text : List ℕ) → MatchResult (statement_in text) IsNamedStmt (λ fault. ⊤)
statement_in-named text = named_by text (first_fault text) refl
