-- What begins a statement, and what each of its tokens is.
use Rattle.std.proofs.Common.{◌≡◌, ◌++◌, List, [], ◌∷◌, length, refl, ap, sym, ◌∙◌, Option, Some, None}
use Rattle.std.specs.Option.{option_and_then}
use Rattle.std.proofs.lemmas.List.{append_assoc, append-nil}
use Rattle.index_read.specs.declared.lexer.Token.{Token}
use Rattle.index_read.specs.declared.roles.Place.{Place}
use Rattle.index_read.specs.declared.roles.Role.{Role}
use Rattle.index_read.specs.Roles.{role_of}
use Rattle.index_read.specs.Excess.{BeginsAs}
use Rattle.index_read.proofs.Machine.{State, S0, S10, next, run, closed}
use Rattle.index_read.proofs.Agree.{place, depth, Same, same}
use Rattle.index_read.proofs.Runs.{run-append, run-read, done-read, ending, ending_ends}
use Rattle.index_read.proofs.RolesRead.{roles, ReadsRole, next_roles, done_roles}

some_is : {A : Type 0} (x y : A) → Some x ≡ Some y → x ≡ y
some_is x y e = cc

-- a step with the role of its token
pub record HasRole (u : State) (k : Token) (v : State) : Type 0 where
  pub role : Role
  pub to : Place
  pub is : role_of (place u) k (depth u) ≡ Some (role, to)
  pub reads : roles v ≡ roles u ++ role ∷ []

has_role_by : (u : State) (k : Token) (v : State) (q : Option (Role × Place)) (o : Option State) → role_of (place u) k (depth u) ≡ q → o ≡ Some v
    → Same (depth u) q o → ReadsRole u q o → HasRole u k v
has_role_by u k v None None e f h r = absurd (cc)
has_role_by u k v None (Some w) e f h r = absurd h
has_role_by u k v (Some p) None e f h r = absurd h
has_role_by u k v (Some p) (Some w) e f h r =
    record { role = p.0; to = p.1; is = e; reads = ap roles (sym (some_is w v f)) ∙ r }

-- a step has the role of its token
pub has_role : (u : State) (k : Token) (v : State) → next u k ≡ Some v → HasRole u k v
has_role u k v e = has_role_by u k v (role_of (place u) k (depth u)) (next u k) refl e (same u k) (next_roles u k)

-- what a run reads, behind what has been read
record ReadsMore (u v : State) : Type 0 where
  rest : List Role
  is : roles u ++ rest ≡ roles v

more_by : (u v : State) (k : Token) (ts : List Token) (o : Option State) → next u k ≡ o → ((w : State) → run w ts ≡ Some v → ReadsMore w v)
    → option_and_then (λ w. run w ts) o ≡ Some v → ReadsMore u v
more_by u v k ts None e more h = absurd (cc)
more_by u v k ts (Some w) e more h =
    let one = has_role u k w e in
    let others = more w h in
    record {
      rest = one.role ∷ others.rest;
      is = sym (append_assoc (roles u) (one.role ∷ []) others.rest) ∙ ap (λ rs. rs ++ others.rest) (sym one.reads) ∙ others.is;
    }

reads_more : (ts : List Token) (u v : State) → run u ts ≡ Some v → ReadsMore u v
reads_more [] u v e = record { rest = []; is = append-nil (roles u) ∙ ap roles (some_is u v e) }
reads_more (t ∷ ts) u v e = more_by u v t ts (next u t) refl (λ w. reads_more ts w v) e

-- what has been read begins a statement, and its tokens are these in it
pub run_begins_as : (ts : List Token) (u : State) → run S0 ts ≡ Some u → length (roles u) ≡ length ts → BeginsAs ts (roles u)
run_begins_as ts u e l =
    let h = ending_ends u in
    let whole : run S0 (ts ++ ending u) ≡ Some (S10 h.left [] h.sum h.last) = run-append ts (ending u) S0 ∙ ap (option_and_then (λ w. run w (ending u))) e
    ∙ h.is in
    let more = reads_more (ending u) u (S10 h.left [] h.sum h.last) h.is in
    record {
      left = h.left;
      right = closed h.sum h.last;
      more = ending u;
      is = sym (run-read (ts ++ ending u) S0 (S10 h.left [] h.sum h.last) whole)
          ∙ done-read h.left h.sum h.last;
      rest = more.rest;
      so = more.is ∙ done_roles h.left h.sum h.last;
      as_many = l;
    }
