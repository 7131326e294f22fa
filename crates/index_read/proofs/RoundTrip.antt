-- The canonical text of a statement that was read reads back to it.
use Rattle.std.proofs.Common.{◌≡◌, ℕ, ◌+◌, ◌++◌, true, List, [], ◌∷◌, map, refl, ap, sym, ◌∙◌, subst, Option, Some, None, Ok, Err}
use Rattle.std.specs.Prelude.{Result}
use Rattle.std.specs.Option.{option_and_then}
use Rattle.std.proofs.lemmas.List.{append_assoc, append-nil}
use Rattle.dt_model.specs.declared.statements.Expr.{Expr}
use Rattle.dt_model.specs.declared.statements.Stmt.{Stmt}
use Rattle.dt_text.specs.declared.spans.Span.{Span}
use Rattle.dt_text.specs.Spans.{bytes_of}
use Rattle.index_read.specs.declared.lexer.Token.TheVariants as a
use Rattle.index_read.specs.declared.roles.Place.TheVariants as at
use Rattle.index_read.specs.declared.roles.Role.{Role}
use Rattle.index_read.specs.declared.scan.Scan.{Scan}
use Rattle.index_read.specs.declared.scan.Fault.{Fault}
use Rattle.index_read.specs.declared.write.Precedence.TheVariants as least
use Rattle.index_read.specs.Tokens.{spans_of, token_of, tokens_of}
use Rattle.index_read.specs.Scans.{at_first, step}
use Rattle.index_read.specs.Faults.{is_end, fault_from, fault_or, first_fault}
use Rattle.index_read.specs.Building.{place_of}
use Rattle.index_read.specs.Grammar.{Terms, Left, Bare, Listing, list_tokens, left_tokens, terms_tokens, stmt_tokens}
use Rattle.index_read.specs.Meaning.{StmtText, ReadsAs, terms_expr, terms_names, left_names, left_name, vars_of, meaning}
use Rattle.index_read.specs.Excess.{distinct}
use Rattle.index_read.specs.Readings.{tokens_in}
use Rattle.index_read.specs.Canonical.{name_at, names_text, expr_text, canonical_text}
use Rattle.index_read.proofs.TokensLemmas.{tokens_of-blank, tokens_of-word}
use Rattle.index_read.proofs.CanonicalTrees.{terms_of, terms_text, list_text, list_text-map, expr_text-trees}
use Rattle.index_read.proofs.CanonicalTokens.{TermsAreGood, open_token, tokens_of-name, list_lexed, terms_lexed}
use Rattle.index_read.proofs.NamesBack.{AreIn, AreIn-split, AreIn-fold, names_back}
use Rattle.index_read.proofs.GoodTokens.{AreGood, good_head, good_tail, AreGood-front, AreGood-rest, AreGood-tokens_of}
use Rattle.index_read.proofs.CanonicalBack.{IsBack, list_names, terms_back}
use Rattle.index_read.proofs.Tallies.{Tally, scan_at, left_tally, terms_tally, go_on, scan_run, stmt_scan}
use Rattle.index_read.proofs.Parentheses.{terms_tally-terms_of}

-- ---- a text without a fault, as a run of the scan

run_by : (text : List ℕ) (x : Span) (xs : List Span) (q : Result (Scan × Role) Fault)
    → ((r : Scan) → fault_from text r x.to xs ≡ None → (to : Scan) × (scan_run r (tokens_in text xs) ≡ Some to))
    → fault_or (x.from + 1) q (λ r. fault_from text r x.to xs) ≡ None → (to : Scan) × (go_on (λ r. scan_run r (tokens_in text xs)) q ≡ Some to)
run_by text x xs (Err f) more h = absurd (cc)
run_by text x xs (Ok r) more h = more r.0 h

run_found : (xs : List Span) (text : List ℕ) (s : Scan) (end : ℕ) → fault_from text s end xs ≡ None → (to : Scan) × (scan_run s (tokens_in text xs) ≡ Some to)
run_found [] text s end h = (s, refl)
run_found (x ∷ xs) text s end h = run_by text x xs (step s (token_of (bytes_of text x))) (λ r. run_found xs text r x.to) h

some_is : (x y : Scan) → Some x ≡ Some y → x ≡ y
some_is x y e = cc

none_by : (text : List ℕ) (x : Span) (xs : List Span) (q : Result (Scan × Role) Fault) (to : Scan)
    → ((r : Scan) → scan_run r (tokens_in text xs) ≡ Some to → fault_from text r x.to xs ≡ None)
    → go_on (λ r. scan_run r (tokens_in text xs)) q ≡ Some to → fault_or (x.from + 1) q (λ r. fault_from text r x.to xs) ≡ None
none_by text x xs (Err f) to more h = absurd (cc)
none_by text x xs (Ok r) to more h = more r.0 h

none_found : (xs : List Span) (text : List ℕ) (s : Scan) (end : ℕ) (to : Scan) → is_end to ≡ true → scan_run s (tokens_in text xs) ≡ Some to
    → fault_from text s end xs ≡ None
none_found [] text s end to e h = let done : is_end s ≡ true = ap is_end (some_is s to h) ∙ e in rw done refl
none_found (x ∷ xs) text s end to e h =
    none_by text x xs (step s (token_of (bytes_of text x))) to (λ r. none_found xs text r x.to to e) h

-- ---- the tokens of the canonical text

equals_token : (rest : List ℕ) → tokens_of (32 ∷ 61 ∷ 32 ∷ rest) ≡ a.Equals ∷ tokens_of rest
equals_token rest = tokens_of-blank (61 ∷ 32 ∷ rest) ∙ tokens_of-word 61 [] (32 ∷ rest) refl refl ∙ ap (λ ts. a.Equals ∷ ts) (tokens_of-blank rest)

-- the right side
right_tokens : (V : List (List ℕ)) (x : Expr) → TermsAreGood (terms_of V x) → tokens_of (expr_text V least.Sum x) ≡ terms_tokens (terms_of V x)
right_tokens V x h =
    ap tokens_of ((expr_text-trees x V).0 ∙ sym (append-nil (terms_text (terms_of V x)))) ∙ terms_lexed (terms_of V x) [] h tt
    ∙ append-nil (terms_tokens (terms_of V x))

-- the whole statement
canonical_tokens : (l : Left) (V : List (List ℕ)) (x : Expr) (vars : List (List ℕ)) → AreGood (left_tokens l) → AreIn V (left_names l)
    → TermsAreGood (terms_of V x)
    → tokens_of (canonical_text (record { name = left_name l; vars = record { items = V }; left = map (place_of V) (left_names l); right = x }))
    ≡ stmt_tokens l (terms_of V x)
canonical_tokens (Bare n) V x vars g names h =
    tokens_of-name n (32 ∷ 61 ∷ 32 ∷ expr_text V least.Sum x) (good_head (a.Word n) [] g) refl
    ∙ ap (λ ts. a.Word n ∷ ts) (equals_token (expr_text V least.Sum x))
    ∙ ap (λ ts. a.Word n ∷ a.Equals ∷ ts) (right_tokens V x h)
canonical_tokens (Listing n v vs) V x vars g names h =
    let list = list_tokens v vs ++ a.Close ∷ [] in
    let inner = good_tail a.Open list (good_tail (a.Word n) (a.Open ∷ list) g) in
    let are = list_names v vs (AreGood-front (list_tokens v vs) (a.Close ∷ []) inner) in
    let text = expr_text V least.Sum x in
    let ps = map (place_of V) (v ∷ vs) in
    let written : names_text V ps ≡ list_text v vs =
    sym (list_text-map V (map (place_of V) vs) (name_at V (place_of V v)))
    ∙ ap (λ w. list_text w (map (name_at V) (map (place_of V) vs))) (first (names_back V (v ∷ vs) names))
    ∙ ap (λ ws. list_text v ws) (names_back V vs names.1) in
    tokens_of-name n ((40 ∷ (names_text V ps ++ 41 ∷ [])) ++ 32 ∷ 61 ∷ 32 ∷ text) (good_head (a.Word n) (a.Open ∷ list) g) refl
    ∙ ap (λ ts. a.Word n ∷ ts) (open_token ((names_text V ps ++ 41 ∷ []) ++ 32 ∷ 61 ∷ 32 ∷ text))
    ∙ ap (λ bs. a.Word n ∷ a.Open ∷ tokens_of bs) (append_assoc (names_text V ps) (41 ∷ []) (32 ∷ 61 ∷ 32 ∷ text)
    ∙ ap (λ bs. bs ++ 41 ∷ 32 ∷ 61 ∷ 32 ∷ text) written)
    ∙ ap (λ ts. a.Word n ∷ a.Open ∷ ts) (list_lexed v vs (32 ∷ 61 ∷ 32 ∷ text) are
    ∙ ap (λ ts. list_tokens v vs ++ a.Close ∷ ts) (equals_token text ∙ ap (λ ts. a.Equals ∷ ts) (right_tokens V x h)))
    ∙ ap (λ ts. a.Word n ∷ a.Open ∷ ts) (sym (append_assoc (list_tokens v vs) (a.Close ∷ []) (a.Equals ∷ terms_tokens (terms_of V x)))) where
      first : {x y : List ℕ} {xs ys : List (List ℕ)} → (x ∷ xs) ≡ (y ∷ ys) → x ≡ y
      first e = cc

-- ---- what it means

canonical_means : (l : Left) (e : Terms) → IsBack (vars_of l e) (terms_expr (vars_of l e) e) (terms_names e)
    → meaning l (terms_of (vars_of l e) (terms_expr (vars_of l e) e)) ≡ meaning l e
canonical_means l e b =
    let V = vars_of l e in
    let r = terms_of V (terms_expr V e) in
    let make : List (List ℕ) → Expr → Stmt = λ W x. record {
      name = left_name l;
      vars = record { items = W };
      left = map (place_of W) (left_names l);
      right = x;
    } in
    let same : vars_of l r ≡ V = ap (λ ns. distinct (left_names l ++ ns)) b.terms_have in
    ap (λ W. make W (terms_expr W r)) same ∙ ap (λ x. make V x) b.terms_mean

-- ---- the limits

-- where both sides are counted
record Counted (l : Left) (e : Terms) : Type 0 where
  middle : Tally
  last : Tally
  left : left_tally l ≡ Some middle
  right : terms_tally e 0 middle ≡ Some last

count_by : (l : Left) (e : Terms) (o : Option Tally) (to : Scan) → left_tally l ≡ o
    → option_and_then (λ u. Some (scan_at at.After 0 u)) (option_and_then (terms_tally e 0) o) ≡ Some to → Counted l e
count_by l e None to p h = absurd (cc)
count_by l e (Some m) to p h = right_by (terms_tally e 0 m) refl h where
  right_by : (q : Option Tally) → terms_tally e 0 m ≡ q → option_and_then (λ u. Some (scan_at at.After 0 u)) q ≡ Some to → Counted l e
  right_by None r k = absurd (cc)
  right_by (Some u) r k = record { middle = m; last = u; left = p; right = r }

-- a statement whose right side is its canonical writing has no fault
scan_back : (l : Left) (e r : Terms) (m u : Tally) → left_tally l ≡ Some m → terms_tally r 0 m ≡ Some u
    → scan_run at_first (stmt_tokens l r) ≡ Some (scan_at at.After 0 u)
scan_back l e r m u p q =
    stmt_scan l r ∙ ap (λ o. option_and_then (λ w. Some (scan_at at.After 0 w)) (option_and_then (terms_tally r 0) o)) p
    ∙ ap (option_and_then (λ w. Some (scan_at at.After 0 w))) q

-- ---- the round trip

back : (text : List ℕ) (l : Left) (e : Terms) → tokens_of text ≡ stmt_tokens l e → first_fault text ≡ None
    → StmtText (canonical_text (meaning l e)) (meaning l e) × (first_fault (canonical_text (meaning l e)) ≡ None)
back text l e written none =
    let V = vars_of l e in
    let x = terms_expr V e in
    let r = terms_of V x in
    let in_all : AreIn V (left_names l ++ terms_names e) = AreIn-fold (left_names l ++ terms_names e) [] V refl in
    let names = AreIn-split V (left_names l) (terms_names e) in_all in
    let good : AreGood (stmt_tokens l e) = subst AreGood written (AreGood-tokens_of text) in
    let good_left = AreGood-front (left_tokens l) (a.Equals ∷ terms_tokens e) good in
    let good_right = good_tail a.Equals (terms_tokens e) (AreGood-rest (left_tokens l) (a.Equals ∷ terms_tokens e) good) in
    let b = terms_back e V good_right names.1 in
    let tokens : tokens_of (canonical_text (meaning l e)) ≡ stmt_tokens l r = canonical_tokens l V x V good_left names.0 b.good_terms in
    let ran = run_found (spans_of text) text at_first 0 none in
    let counted = count_by l e (left_tally l) ran.0 refl (sym (stmt_scan l e) ∙ ap (scan_run at_first) (sym written) ∙ ran.1) in
    let kept = terms_tally-terms_of e V counted.middle counted.last names.1 counted.right in
    let goes = ap (scan_run at_first) tokens ∙ scan_back l e r counted.middle counted.last counted.left kept in (
      record { left = l; right = r; written = tokens; means = sym (canonical_means l e b) },
      none_found (spans_of (canonical_text (meaning l e))) (canonical_text (meaning l e)) at_first 0 (scan_at at.After 0 counted.last) refl goes,
    )

-- the canonical text of a statement that some text reads as reads as it, too
pub ReadsAs-canonical_text : (text : List ℕ) (stmt : Stmt) → ReadsAs text stmt → ReadsAs (canonical_text stmt) stmt
ReadsAs-canonical_text text stmt h =
    let w = h.written in
    let b = back text w.left w.right w.written h.faultless in
    subst (λ s. ReadsAs (canonical_text s) s) (sym w.means) (record { written = b.0; faultless = b.1 })
