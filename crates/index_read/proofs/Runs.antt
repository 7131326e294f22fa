-- What is read so far is what has been read, and more may always follow.
use Rattle.std.proofs.Common.{◌≡◌, ◌++◌, List, [], ◌∷◌, refl, ap, sym, ◌∙◌, Option, Some, None}
use Rattle.std.specs.Prelude.{IfSome}
use Rattle.std.specs.Option.{option_and_then}
use Rattle.std.proofs.lemmas.List.{append_assoc, append-nil}
use Rattle.index_read.specs.declared.lexer.Token.{Token}
use Rattle.index_read.specs.declared.lexer.Token.TheVariants as a
use Rattle.index_read.specs.Grammar.{Factor, Number, Access, Parens, Factors, One, Times, Left, Bare, Listing, factors_tokens, left_tokens, stmt_tokens, Begins}
use Rattle.index_read.proofs.Machine.{Sum, None', Before, before, State, S0, S1, S2, S2m, S3, S4, S5, S6, S7, S8, S8m, S9, S10, closed, after, bare, next}
use Rattle.index_read.proofs.Machine.{sum_read, read, run, sum_of, last_of}
use Rattle.index_read.proofs.Sound.{next-read, closed-read}
use Rattle.index_read.proofs.Complete.{stmt_run}

run_by : (s u : State) (t : Token) (ts : List Token) (m : Option State) → IfSome m (λ r. read r ≡ read s ++ t ∷ [])
    → ((r : State) → run r ts ≡ Some u → read u ≡ read r ++ ts) → option_and_then (λ r. run r ts) m ≡ Some u → read u ≡ read s ++ t ∷ ts
run_by s u t ts None h more e = absurd (cc)
run_by s u t ts (Some r) h more e = more r e ∙ ap (λ x. x ++ ts) h ∙ append_assoc (read s) (t ∷ []) ts

-- the tokens of a run have been read
pub run-read : (ts : List Token) (s u : State) → run s ts ≡ Some u → read u ≡ read s ++ ts
run-read [] s u e = let same : s ≡ u = cc in ap read (sym same) ∙ sym (append-nil (read s))
run-read (t ∷ ts) s u e = run_by s u t ts (next s t) (next-read s t) (λ r. run-read ts r u) e

-- where everything has been read, it is a statement
pub done-read : (l : Left) (s : Sum) (fs : Factors) → read (S10 l [] s fs) ≡ stmt_tokens l (closed s fs)
done-read l s fs = append_assoc (left_tokens l) (a.Equals ∷ []) (sum_read s ++ factors_tokens fs)
    ∙ ap (λ ts. left_tokens l ++ a.Equals ∷ ts) (sym (closed-read s fs))

append_by : (xs ys : List Token) (m : Option State) → ((r : State) → run r (xs ++ ys) ≡ option_and_then (λ u. run u ys) (run r xs))
    → option_and_then (λ u. run u (xs ++ ys)) m ≡ option_and_then (λ u. run u ys) (option_and_then (λ u. run u xs) m)
append_by xs ys None h = refl
append_by xs ys (Some r) h = h r

-- a run in two parts
pub run-append : (xs ys : List Token) (s : State) → run s (xs ++ ys) ≡ option_and_then (λ u. run u ys) (run s xs)
run-append [] ys s = refl
run-append (x ∷ xs) ys s = append_by xs ys (next s x) (λ r. run-append xs ys r)

-- ---- what may follow

-- as many closing parentheses as are open
abbrev pub closes : List Before → List Token
closes [] = []
closes (p ∷ o) = a.Close ∷ closes o

-- tokens that end a statement
abbrev pub ending : State → List Token
ending S0 = a.Word (95 ∷ []) ∷ a.Equals ∷ a.Number (Some 0) ∷ []
ending (S1 n) = a.Equals ∷ a.Number (Some 0) ∷ []
ending (S2 n) = a.Word (95 ∷ []) ∷ a.Close ∷ a.Equals ∷ a.Number (Some 0) ∷ []
ending (S2m n v vs) = a.Word (95 ∷ []) ∷ a.Close ∷ a.Equals ∷ a.Number (Some 0) ∷ []
ending (S3 n v vs) = a.Close ∷ a.Equals ∷ a.Number (Some 0) ∷ []
ending (S4 n v vs) = a.Equals ∷ a.Number (Some 0) ∷ []
ending (S5 l o) = a.Number (Some 0) ∷ closes o
ending (S6 l o p) = a.Number (Some 0) ∷ closes o
ending (S7 l o p t) = a.Open ∷ a.Word (95 ∷ []) ∷ a.Close ∷ closes o
ending (S8 l o p t) = a.Word (95 ∷ []) ∷ a.Close ∷ closes o
ending (S8m l o p t v vs) = a.Word (95 ∷ []) ∷ a.Close ∷ closes o
ending (S9 l o p t v vs) = a.Close ∷ closes o
ending (S10 l o s fs) = closes o

-- a run comes to the end of a statement
pub record Ends (s : State) (ts : List Token) : Type 0 where
  pub left : Left
  pub sum : Sum
  pub last : Factors
  pub is : run s ts ≡ Some (S10 left [] sum last)

closed_by : (o : List Before) (l : Left) (p : Before) (f : Factor) → ((s : Sum) (fs : Factors) → Ends (S10 l o s fs) (closes o))
    → Ends (after l o p f) (closes o)
closed_by o l (before s None) f h = h s (One f)
closed_by o l (before s (Some fs)) f h = h s (Times fs f)

closes_end : (o : List Before) (l : Left) (s : Sum) (fs : Factors) → Ends (S10 l o s fs) (closes o)
closes_end [] l s fs = record { left = l; sum = s; last = fs; is = refl }
closes_end (p ∷ o) l s fs =
    let h = closed_by o l p (Parens (closed s fs)) (λ u gs. closes_end o l u gs) in
    record { left = h.left; sum = h.sum; last = h.last; is = h.is }

factor_end : (l : Left) (o : List Before) (p : Before) (f : Factor) → Ends (after l o p f) (closes o)
factor_end l o p f = closed_by o l p f (λ s fs. closes_end o l s fs)

same_end : (s u : State) (ts us : List Token) → run s ts ≡ run u us → Ends u us → Ends s ts
same_end s u ts us e h = record { left = h.left; sum = h.sum; last = h.last; is = e ∙ h.is }

-- each state has an end
pub ending_ends : (s : State) → Ends s (ending s)
ending_ends S0 = record { left = Bare (95 ∷ []); sum = None'; last = One (Number (Some 0)); is = refl }
ending_ends (S1 n) = record { left = Bare n; sum = None'; last = One (Number (Some 0)); is = refl }
ending_ends (S2 n) = record { left = Listing n (95 ∷ []) []; sum = None'; last = One (Number (Some 0)); is = refl }
ending_ends (S2m n v vs) = record { left = Listing n v (vs ++ (95 ∷ []) ∷ []); sum = None'; last = One (Number (Some 0)); is = refl }
ending_ends (S3 n v vs) = record { left = Listing n v vs; sum = None'; last = One (Number (Some 0)); is = refl }
ending_ends (S4 n v vs) = record { left = Listing n v vs; sum = None'; last = One (Number (Some 0)); is = refl }
ending_ends (S5 l o) = same_end _ (after l o bare (Number (Some 0))) _ (closes o) refl (factor_end l o bare (Number (Some 0)))
ending_ends (S6 l o p) = same_end _ (after l o p (Number (Some 0))) _ (closes o) refl (factor_end l o p (Number (Some 0)))
ending_ends (S7 l o p t) = same_end _ (after l o p (Access t (95 ∷ []) [])) _ (closes o) refl (factor_end l o p (Access t (95 ∷ []) []))
ending_ends (S8 l o p t) = same_end _ (after l o p (Access t (95 ∷ []) [])) _ (closes o) refl (factor_end l o p (Access t (95 ∷ []) []))
ending_ends (S8m l o p t v vs) = same_end _ (after l o p (Access t v (vs ++ (95 ∷ []) ∷ []))) _ (closes o) refl (factor_end l o p (Access t v (vs
    ++ (95 ∷ []) ∷ [])))
ending_ends (S9 l o p t v vs) = same_end _ (after l o p (Access t v vs)) _ (closes o) refl (factor_end l o p (Access t v vs))
ending_ends (S10 l o s fs) = closes_end o l s fs

-- what has been read begins a statement
pub run_begins : (ts : List Token) (s : State) → run S0 ts ≡ Some s → Begins ts
run_begins ts s e =
    let h = ending_ends s in
    let whole : run S0 (ts ++ ending s) ≡ Some (S10 h.left [] h.sum h.last) = run-append ts (ending s) S0 ∙ ap (option_and_then (λ u. run u (ending s))) e
    ∙ h.is in
    record {
      left = h.left;
      right = closed h.sum h.last;
      more = ending s;
      is = sym (run-read (ts ++ ending s) S0 (S10 h.left [] h.sum h.last) whole)
          ∙ done-read h.left h.sum h.last;
    }

-- nothing that begins with tokens that stop the run is a statement
pub stop_begins : (ts : List Token) → run S0 ts ≡ None → Begins ts → ⊥
stop_begins ts e b =
    let stops : run S0 (ts ++ b.more) ≡ None = run-append ts b.more S0 ∙ ap (option_and_then (λ u. run u b.more)) e in
    let goes : run S0 (ts ++ b.more) ≡ Some (S10 b.left [] (sum_of b.right) (last_of b.right)) = ap (run S0) (b.is
    ∙ sym (append-nil (stmt_tokens b.left b.right))) ∙ stmt_run b.left b.right [] in
    cc
