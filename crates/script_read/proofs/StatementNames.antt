-- Why a statement whose names are names is refused: each name in the refusal is a name.
use Rattle.std.proofs.Common.{◌≡◌, ℕ, ◌+◌, ◌-◌, ◌<◌, ◌++◌, Bool, true, false, not, List, [], ◌∷◌, map, length, All, Option, Some, None, refl, arith}
use Rattle.std.specs.Prelude.{IfSome, find, option_and_then, if◌then◌else◌, ◌==◌, is_none}
use Rattle.std.specs.List.{list_all, flat_map, enumerate_from}
use Rattle.std.specs.Option.{option_map}
use Rattle.std.proofs.lemmas.Bool.Decides.{nat_tests}
use Rattle.std.proofs.lemmas.List.Elements.{All-nil, All-cons, All-head, All-tail, All-append, All-filter}
use Rattle.dt_model.specs.declared.declared_tensors.Decls.{Decls}
use Rattle.dt_model.specs.declared.replies.Refusal.{Refusal}
use Rattle.dt_model.specs.declared.replies.Refusal.TheVariants as because
use Rattle.dt_model.specs.declared.statements.Expr.{Expr}
use Rattle.dt_model.specs.declared.statements.Stmt.{Stmt}
use Rattle.dt_model.specs.Names.{is_name}
use Rattle.dt_model.specs.Tensors.{tensor_named}
use Rattle.dt_model.specs.Statements.{accesses, terms, contains_number, distinct_after, vars_of, own_vars}
use Rattle.dt_model.specs.Refusals.{or_else, when, first_of_all, undeclared_fault, order_named, rank_fault, nth_name, dimension_fault, repeated_in, repeated_fault, covers, access_fault, cover_fault, statement_fault}
use Rattle.dt_model.specs.Worlds.{refusal_is_named}
use Rattle.dt_model.proofs.Booleans.{both_true}
use Rattle.index_check.specs.Parts.{AllVarsBelow, all_places}
use Rattle.index_check.proofs.Known.{small_parts, left_below, right_below, vars_below, terms_below, all_places_below}
use Rattle.index_read.proofs.NamedStatements.{IsNamedStmt}

-- a refusal, if there is one, names names
abbrev pub IsNamedFault : Option Refusal → Type 0
IsNamedFault fault = IfSome fault (λ r. refusal_is_named r ≡ true)

-- ---- the first of some reasons

or_named : (o p : Option Refusal) → IsNamedFault o → IsNamedFault p → IsNamedFault (or_else o p)
or_named None p h k = k
or_named (Some r) p h k = h

when_named : (b : Bool) (r : Refusal) → refusal_is_named r ≡ true → IsNamedFault (when b r)
when_named true r h = h
when_named false r h = tt

then_named : {X : Type 0} (o : Option X) (f : X → Option Refusal) → ((x : X) → IsNamedFault (f x)) → IsNamedFault (option_and_then f o)
then_named None f h = tt
then_named (Some x) f h = h x

mapped_named : {X : Type 0} (P : X → Type 0) (o : Option X) (f : X → Refusal) → IfSome o P → ((x : X) → P x → refusal_is_named (f x) ≡ true)
    → IsNamedFault (option_map f o)
mapped_named P None f h k = tt
mapped_named P (Some x) f h k = k x h

all_named : {X : Type 0} (P : X → Type 0) (f : X → Option Refusal) → ((x : X) → P x → IsNamedFault (f x)) → (xs : List X) → All P xs
    → IsNamedFault (first_of_all (map f xs))
all_named P f each [] h = tt
all_named P f each (x ∷ xs) h = or_named (f x) (first_of_all (map f xs)) (each x (All-head P x xs h)) (all_named P f each xs (All-tail P x xs h))

-- ---- variables

-- the name of a variable that is among the names
nth_named : (names : List (List ℕ)) (v : ℕ) → list_all is_name names ≡ true → v < length names → is_name (nth_name names v) ≡ true
nth_named [] v named l = absurd (omega (arith, l))
nth_named (x ∷ xs) v named l =
    let both = both_true (is_name x) (list_all is_name xs) named in
    elim (v == 0) as (λ b. (v == 0) ≡ b → is_name (if b then x else nth_name xs (v - 1)) ≡ true) [
      | true ↦ λ e. both.0
      | false ↦ λ e. nth_named xs (v - 1) both.1 (grind (arith, nat_tests))
    ] refl

found_by : (P : ℕ → Type 0) (b : Bool) (x : ℕ) (o : Option ℕ) → P x → IfSome o P → IfSome (if b then Some x else o) P
found_by P true x o h k = h
found_by P false x o h k = k

find_keeps : (P : ℕ → Type 0) (p : ℕ → Bool) (xs : List ℕ) → All P xs → IfSome (find p xs) P
find_keeps P p [] h = tt
find_keeps P p (x ∷ xs) h = found_by P (p x) x (find p xs) (All-head P x xs h) (find_keeps P p xs (All-tail P x xs h))

repeated_keeps : (P : ℕ → Type 0) (xs : List ℕ) → All P xs → IfSome (repeated_in xs) P
repeated_keeps P [] h = tt
repeated_keeps P (x ∷ xs) h =
    found_by P (contains_number xs x) x (repeated_in xs) (All-head P x xs h) (repeated_keeps P xs (All-tail P x xs h))

one_kept : (P : ℕ → Type 0) (b : Bool) (x : ℕ) (us vs : List ℕ) → P x → All P us → All P vs → All P (if b then us else x ∷ vs)
one_kept P true x us vs h k l = k
one_kept P false x us vs h k l = All-cons P x vs h l

distinct_kept : (P : ℕ → Type 0) (seen xs : List ℕ) → All P xs → All P (distinct_after seen xs)
distinct_kept P seen [] h = All-nil P
distinct_kept P seen (x ∷ xs) h =
    let rest = All-tail P x xs h in
    one_kept P (contains_number seen x) x (distinct_after seen xs) (distinct_after (x ∷ seen) xs) (All-head P x xs h) (distinct_kept P seen xs rest)
    (distinct_kept P (x ∷ seen) xs rest)

flat_kept : (P : ℕ → Type 0) (accs : List (List ℕ × List ℕ)) → All (λ (a : List ℕ × List ℕ). All P a.1) accs
    → All P (flat_map (λ (a : List ℕ × List ℕ). a.1) accs)
flat_kept P [] h = All-nil P
flat_kept P (a ∷ accs) h =
    All-append P a.1 (flat_map (λ (b : List ℕ × List ℕ). b.1) accs) (All-head (λ (b : List ℕ × List ℕ). All P b.1) a accs h)
    (flat_kept P accs (All-tail (λ (b : List ℕ × List ℕ). All P b.1) a accs h))

numbered_keep : {X : Type 0} (P : X → Type 0) (n : ℕ) (xs : List X) → All P xs → All (λ (p : ℕ × X). P p.1) (enumerate_from n xs)
numbered_keep P n [] h = All-nil (λ p. P p.1)
numbered_keep P n (x ∷ xs) h = All-cons (λ p. P p.1) (n, x) (enumerate_from (n + 1) xs) (All-head P x xs h) (numbered_keep P (n + 1) xs (All-tail P x xs h))

-- ---- reasons

dimension_named : (names : List (List ℕ)) (seen ps : List (ℕ × ℕ)) → list_all is_name names ≡ true → All (λ (p : ℕ × ℕ). p.0 < length names) ps
    → IsNamedFault (dimension_fault names seen ps)
dimension_named names seen [] named h = tt
dimension_named names seen (p ∷ ps) named h =
    let first = nth_named names p.0 named (All-head (λ (q : ℕ × ℕ). q.0 < length names) p ps h) in
    let other : ℕ × ℕ → Option Refusal = λ q. when (not (q.1 == p.1)) (because.Dimension (nth_name names p.0) q.1 p.1) in
    or_named (option_and_then other (find (λ q. q.0 == p.0) seen)) (dimension_fault names (seen ++ p ∷ []) ps)
    (then_named (find (λ q. q.0 == p.0) seen) other (λ q. when_named (not (q.1 == p.1)) (because.Dimension (nth_name names p.0) q.1 p.1) first))
    (dimension_named names (seen ++ p ∷ []) ps named (All-tail (λ (q : ℕ × ℕ). q.0 < length names) p ps h))

repeated_named : (names : List (List ℕ)) (vs : List ℕ) → list_all is_name names ≡ true → All (λ v. v < length names) vs → IsNamedFault (repeated_fault names vs)
repeated_named names vs named h =
    mapped_named (λ v. v < length names) (repeated_in vs) (λ v. because.Repeated (nth_name names v)) (repeated_keeps (λ v. v < length names) vs h)
    (λ v l. nth_named names v named l)

cover_named : (s : Stmt) (p : ℕ × (Bool × Expr)) → list_all is_name s.vars.items ≡ true → All (λ v. v < length s.vars.items) s.left
    → AllVarsBelow (length s.vars.items) (accesses p.1.1) → IsNamedFault (cover_fault s p)
cover_named s p named left own =
    let P : ℕ → Type 0 = λ v. v < length s.vars.items in
    let vars = All-append P s.left (own_vars s.left p.1.1) left
    (All-filter (λ v. not (contains_number s.left v)) P (vars_of p.1.1) (distinct_kept P [] (flat_map (λ (a : List ℕ × List ℕ). a.1) (accesses p.1.1))
    (flat_kept P (accesses p.1.1) own))) in
    mapped_named P (find (λ v. not (covers p.1.1 v)) (s.left ++ own_vars s.left p.1.1)) (λ v. because.Uncovered (p.0 + 1) (nth_name s.vars.items v))
    (find_keeps P (λ v. not (covers p.1.1 v)) (s.left ++ own_vars s.left p.1.1) vars) (λ v l. nth_named s.vars.items v named l)

-- ---- a statement

tensors_named : (accs : List (List ℕ × List ℕ)) → list_all (λ (a : List ℕ × List ℕ). is_name a.0) accs ≡ true
    → All (λ (a : List ℕ × List ℕ). is_name a.0 ≡ true) accs
tensors_named [] h = All-nil (λ (a : List ℕ × List ℕ). is_name a.0 ≡ true)
tensors_named (a ∷ accs) h =
    let both = both_true (is_name a.0) (list_all (λ (b : List ℕ × List ℕ). is_name b.0) accs) h in
    All-cons (λ (b : List ℕ × List ℕ). is_name b.0 ≡ true) a accs both.0 (tensors_named accs both.1)

-- a refusal of a statement whose names are names
pub statement_fault-named : (d : Decls) (s : Stmt) → IsNamedStmt s → IsNamedFault (statement_fault d s)
statement_fault-named d s h =
    let few = small_parts s h.small in
    let names = s.vars.items in
    let n = length names in
    let accs = accesses s.right in
    let numbered = enumerate_from 0 (terms s.right) in
    let tensors = tensors_named accs h.tensors in
    let left = left_below s few.order in
    let right = right_below s few.order in
    let own = vars_below n accs right in
    let of_terms = numbered_keep (λ (t : Bool × Expr). AllVarsBelow n (accesses t.1)) 0 (terms s.right) (terms_below n true s.right right) in
    or_named _ _ (all_named (λ a. is_name a.0 ≡ true) (undeclared_fault d) (λ a e. when_named (is_none (tensor_named d a.0)) (because.Name a.0) e) accs tensors)
    (or_named _ _ (all_named (λ a. is_name a.0 ≡ true) (rank_fault d)
    (λ a e. when_named (not (length a.1 == order_named d a.0)) (because.Rank a.0 (length a.1) (order_named d a.0)) e) accs tensors)
    (or_named _ _ (dimension_named names [] (all_places d accs) h.vars (all_places_below n d accs right))
    (or_named _ _ (repeated_named names s.left h.vars left)
    (or_named _ _ (all_named (λ a. All (λ v. v < n) a.1) (λ a. repeated_fault names a.1) (λ a k. repeated_named names a.1 h.vars k) accs own)
    (or_named _ _ (all_named (λ p. AllVarsBelow n (accesses p.1.1)) access_fault
    (λ p k. when_named (length (accesses p.1.1) == 0) (because.Access (p.0 + 1)) refl) numbered of_terms)
    (all_named (λ p. AllVarsBelow n (accesses p.1.1)) (cover_fault s) (λ p k. cover_named s p h.vars left k) numbered of_terms))))))
