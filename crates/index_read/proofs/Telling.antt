-- The first fault stands where the grammar says.
use Rattle.std.proofs.Common.{◌≡◌, ℕ, ◌+◌, ◌++◌, Bool, true, false, cond, List, [], ◌∷◌, refl, ap, sym, ◌∙◌, subst, Option, Some, None, Ok, Err, inl, inr}
use Rattle.std.proofs.Common.{suc, length, arith}
use Rattle.std.specs.Prelude.{Result, ◌==◌}
use Rattle.std.proofs.lemmas.Bool.Decides.{nat_tests}
use Rattle.std.specs.Option.{option_and_then}
use Rattle.std.proofs.lemmas.List.{append_assoc, append-nil, length-append, length-map}
use Rattle.dt_text.specs.declared.spans.Span.{Span}
use Rattle.dt_text.specs.Spans.{bytes_of}
use Rattle.dt_text.specs.Lexer.{end_of}
use Rattle.index_read.specs.declared.lexer.Token.{Token}
use Rattle.index_read.specs.declared.roles.Role.{Role}
use Rattle.index_read.specs.declared.scan.Scan.{Scan}
use Rattle.index_read.specs.declared.scan.Fault.{Fault}
use Rattle.index_read.specs.declared.scan.Fault.TheVariants as because
use Rattle.index_read.specs.declared.read.StmtFault.TheVariants.{Form}
use Rattle.index_read.specs.Tokens.{spans_of, token_of, tokens_of}
use Rattle.index_read.specs.Roles.{role_of}
use Rattle.index_read.specs.Scans.{step, step_as, in_limits, count_role, at_first}
use Rattle.index_read.specs.Excess.{BeginsAs}
use Rattle.index_read.specs.Faults.{fault_from, fault_or, is_end, may_end, first_fault}
use Rattle.index_read.specs.Grammar.{Left, Terms, stmt_tokens}
use Rattle.index_read.specs.Readings.{tokens_in, IsLimitFaultAt, DescribesFault}
use Rattle.index_read.proofs.Machine.{State, S0, S10, next, run, closed, sum_of, last_of}
use Rattle.index_read.proofs.Complete.{stmt_run}
use Rattle.index_read.proofs.Runs.{run-append, run-read, done-read, run_begins, stop_begins}
use Rattle.index_read.proofs.Agree.{place, depth, Agrees, step_agrees}
use Rattle.index_read.proofs.TokensLemmas.{end_of-spans_of}
use Rattle.index_read.proofs.RolesRead.{roles}
use Rattle.index_read.proofs.ExcessLemmas.{has_role, run_begins_as}
use Rattle.index_read.proofs.Excesses.{HasCounted, HasCounted-more, passes_limit}
use Rattle.index_read.proofs.Built.{made_at}

some_is : {A : Type 0} (x y : A) → Some x ≡ Some y → x ≡ y
some_is x y e = cc

true_not_false : (b : Bool) → b ≡ true → b ≡ false → ⊥
true_not_false true p q = cc
true_not_false false p q = cc

-- what is known behind some tokens
record Reached (text : List ℕ) (front : List Span) (end : ℕ) (s : Scan) (u : State) : Type 0 where
  goes : run S0 (tokens_in text front) ≡ Some u
  place_is : s.place ≡ place u
  depth_is : s.depth ≡ depth u
  end_is : end ≡ end_of 0 front
  counted : HasCounted s (roles u)
  as_many : length (roles u) ≡ length front

tokens_in-more : (text : List ℕ) (front : List Span) (x : Span) → tokens_in text (front ++ x ∷ []) ≡ tokens_in text front ++ token_of (bytes_of text x) ∷ []
tokens_in-more text [] x = refl
tokens_in-more text (y ∷ ys) x = ap (λ ts. token_of (bytes_of text y) ∷ ts) (tokens_in-more text ys x)

end_of-more : (n : ℕ) (front : List Span) (x : Span) → end_of n (front ++ x ∷ []) ≡ x.to
end_of-more n [] x = refl
end_of-more n (y ∷ ys) x = end_of-more y.to ys x

-- one more token
run-more : (text : List ℕ) (front : List Span) (x : Span) (u : State) (o : Option State) → run S0 (tokens_in text front) ≡ Some u
    → next u (token_of (bytes_of text x)) ≡ o
    → run S0 (tokens_in text (front ++ x ∷ [])) ≡ o
run-more text front x u o h e =
    ap (run S0) (tokens_in-more text front x) ∙ run-append (tokens_in text front) (token_of (bytes_of text x) ∷ []) S0
    ∙ ap (option_and_then (λ r. run r (token_of (bytes_of text x) ∷ []))) h ∙ ap (option_and_then (λ r. Some r)) e ∙ same o where
      same : (q : Option State) → option_and_then (λ r. Some r) q ≡ q
      same None = refl
      same (Some r) = refl

roles-more : (front : List Span) (x : Span) (u v : State) (role : Role) → length (roles u) ≡ length front → roles v ≡ roles u ++ role ∷ []
    → length (roles v) ≡ length (front ++ x ∷ [])
roles-more front x u v role l e =
    let more : length (roles u ++ role ∷ []) ≡ length (roles u) + 1 = length-append (roles u) (role ∷ []) in
    let longer : length (front ++ x ∷ []) ≡ length front + 1 = length-append front (x ∷ []) in
    ap length e ∙ more ∙ ap (λ n. n + 1) l ∙ sym longer

reach-more : (text : List ℕ) (front : List Span) (x : Span) (end : ℕ) (s r : Scan) (u v : State) (role : Role) → Reached text front end s u
    → step s (token_of (bytes_of text x)) ≡ Ok (r, role) → next u (token_of (bytes_of text x)) ≡ Some v
    → r.place ≡ place v → r.depth ≡ depth v → Reached text (front ++ x ∷ []) x.to r v
reach-more text front x end s r u v role h c e p d =
    let k = token_of (bytes_of text x) in
    let m = made_at s r u k role h.place_is h.depth_is c in
    let has = has_role u k v e in
    let same_role : has.role ≡ role = ap (λ z. z.0) (some_is (has.role, has.to) (role, m.to) (sym has.is ∙ m.role_is)) in
    let reads : roles v ≡ roles u ++ role ∷ [] = has.reads ∙ ap (λ z. roles u ++ z ∷ []) same_role in
    record {
      goes = run-more text front x u (Some v) h.goes e;
      place_is = p;
      depth_is = d;
      end_is = sym (end_of-more 0 front x);
      counted = subst (HasCounted r) (sym reads) (HasCounted-more role s r m.to (roles u) h.counted m.counts);
      as_many = roles-more front x u v role h.as_many reads;
    }

-- ---- the end

-- where a statement has been read, the scan may end
written_end : (s : Scan) (u : State) (l : Left) (e : Terms) → s.place ≡ place u → s.depth ≡ depth u → u ≡ S10 l [] (sum_of e) (last_of e) → is_end s ≡ true
written_end s u l e p d h = rw (p, d, h) refl

-- where the scan may end, a statement has been read
ended : (ts : List Token) (u : State) → run S0 ts ≡ Some u → may_end (place u) (depth u) ≡ true → (l : Left) × (e : Terms) × (ts ≡ stmt_tokens l e)
ended ts (S10 l [] s fs) h e = (l, closed s fs, sym (run-read ts S0 (S10 l [] s fs) h) ∙ done-read l s fs)
ended ts (S10 l (p ∷ o) s fs) h e = absurd (positive (length o) e) where
  positive : (n : ℕ) → (suc n == 0) ≡ true → ⊥
  positive n h = grind (arith, nat_tests)
ended ts u h e = absurd (differ e) where
  differ : false ≡ true → ⊥
  differ d = cc

-- ---- the first fault

told_at_end : (text : List ℕ) (end : ℕ) (s : Scan) (u : State) (b : Bool) → Reached text (spans_of text) end s u → is_end s ≡ b
    → DescribesFault text (cond b None (Some (Form (end + 1))))
told_at_end text end s u true h e =
    let found = ended (tokens_of text) u h.goes (subst (λ p. may_end p (depth u) ≡ true) h.place_is (subst (λ n. may_end s.place n ≡ true) h.depth_is e)) in
    record { left = found.0; right = found.1; is = found.2 }
told_at_end text end s u false h e =
    inr (record {
      there = ap (λ n. n + 1) (h.end_is ∙ end_of-spans_of text);
      begins = run_begins (tokens_of text) u h.goes;
      lacks = λ w.
          let goes : run S0 (tokens_of text) ≡ Some (S10 w.left [] (sum_of w.right) (last_of w.right)) =
          ap (run S0) (w.is ∙ sym (append-nil (stmt_tokens w.left w.right))) ∙ stmt_run w.left w.right [] in
          let where_it_is : u ≡ S10 w.left [] (sum_of w.right) (last_of w.right) = cc in
          true_not_false (is_end s) (written_end s u w.left w.right h.place_is h.depth_is where_it_is) e;
    })

limit_none : (role : Role) (o : Option Scan) → in_limits role o ≡ Err because.Limit → o ≡ None
limit_none role None e = refl
limit_none role (Some s) e = absurd (cc)

-- a token that a limit forbids
limit_told : (text : List ℕ) (front : List Span) (x : Span) (xs : List Span) (end : ℕ) (s : Scan) (u v : State) → Reached text front end s u
    → spans_of text ≡ front ++ x ∷ xs → step s (token_of (bytes_of text x)) ≡ Err because.Limit → next u (token_of (bytes_of text x)) ≡ Some v
    → IsLimitFaultAt text (x.from + 1)
limit_told text front x xs end s u v h split c e =
    let k = token_of (bytes_of text x) in
    let tokens = tokens_in text (front ++ x ∷ []) in
    let has = has_role u k v e in
    let role_is : role_of s.place k s.depth ≡ Some (has.role, has.to) =
    ap (λ p. role_of p k s.depth) h.place_is ∙ ap (λ n. role_of (place u) k n) h.depth_is ∙ has.is in
    let none = limit_none has.role (count_role has.role (record s { place = has.to })) (sym (ap (step_as s) role_is) ∙ c) in
    let many : length (roles v) ≡ length tokens = roles-more front x u v has.role h.as_many has.reads
    ∙ sym (length-map (front ++ x ∷ []) (λ y. token_of (bytes_of text y))) in
    record {
      front = front;
      token = x;
      behind = xs;
      split = split;
      there = refl;
      before = roles u;
      role = has.role;
      begins = subst (BeginsAs tokens) has.reads (run_begins_as tokens v (run-more text front x u (Some v) h.goes e) many);
      passes = passes_limit has.role s has.to (roles u) h.counted none;
    }

-- what one step says, where the rest is told
told_by : (text : List ℕ) (front : List Span) (x : Span) (xs : List Span) (end : ℕ) (s : Scan) (u : State) (q : Result (Scan × Role) Fault) (o : Option State)
    → Reached text front end s u → spans_of text ≡ front ++ x ∷ xs → step s (token_of (bytes_of text x)) ≡ q → next u (token_of (bytes_of text x)) ≡ o
    → Agrees q o → ((r : Scan) (v : State) → Reached text (front ++ x ∷ []) x.to r v → DescribesFault text (fault_from text r x.to xs))
    → DescribesFault text (fault_or (x.from + 1) q (λ r. fault_from text r x.to xs))
told_by text front x xs end s u (Err because.Form) o h split c e d more =
    inl (record {
      front = front;
      token = x;
      behind = xs;
      split = split;
      there = refl;
      begins = run_begins (tokens_in text front) u h.goes;
      stops = stop_begins (tokens_in text (front ++ x ∷ [])) (run-more text front x u o h.goes e ∙ d);
    })
told_by text front x xs end s u (Err because.Limit) None h split c e d more = absurd d
told_by text front x xs end s u (Err because.Limit) (Some v) h split c e d more = limit_told text front x xs end s u v h split c e
told_by text front x xs end s u (Ok r) None h split c e d more = absurd d
told_by text front x xs end s u (Ok r) (Some v) h split c e d more = more r.0 v (reach-more text front x end s r.0 u v r.1 h c e d.0 d.1)

told_from : (xs : List Span) (text : List ℕ) (front : List Span) (end : ℕ) (s : Scan) (u : State) → Reached text front end s u → spans_of text ≡ front ++ xs
    → DescribesFault text (fault_from text s end xs)
told_from [] text front end s u h split =
    told_at_end text end s u (is_end s) (subst (λ ys. Reached text ys end s u) (sym (split ∙ append-nil front)) h) refl
told_from (x ∷ xs) text front end s u h split =
    let t = token_of (bytes_of text x) in
    told_by text front x xs end s u (step s t) (next u t) h split refl refl (step_agrees s u t h.place_is h.depth_is)
    (λ r v k. told_from xs text (front ++ x ∷ []) x.to r v k (split ∙ sym (append_assoc front (x ∷ []) xs)))

first_reached : (text : List ℕ) → Reached text [] 0 at_first S0
first_reached text = record {
  goes = refl;
  place_is = refl;
  depth_is = refl;
  end_is = refl;
  counted = record {
    accesses_are = refl;
    literals_are = refl;
    depth_is = refl;
    listed_is = refl;
    vars_are = refl;
    listed_few = omega arith;
    depth_few = omega arith;
    within = record { accesses_few = omega arith; literals_few = omega arith; vars_few = omega arith };
  };
  as_many = refl;
}

-- the first fault of a text, in the grammar's own words
pub first_fault_told : (text : List ℕ) → DescribesFault text (first_fault text)
first_fault_told text = told_from (spans_of text) text [] 0 at_first S0 (first_reached text) refl
