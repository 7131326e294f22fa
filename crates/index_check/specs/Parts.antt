-- What the parts of the check look at.
use Rattle.std.specs.Prelude.{◌≡◌, ℕ, ◌<◌, Bool, List, [], map, length, Option, None, ◌==◌, find, All, slice_index_or}
use Rattle.std.specs.List.{flat_map, enumerate_from}
use Rattle.std.specs.Option.{option_map}
use Rattle.dt_model.specs.declared.statements.Expr.{Expr}
use Rattle.dt_model.specs.declared.statements.Stmt.{Stmt}
use Rattle.dt_model.specs.declared.declared_tensors.Decls.{Decls}
use Rattle.dt_model.specs.declared.replies.Refusal.{Refusal}
use Rattle.dt_model.specs.Statements.{accesses, terms}
use Rattle.dt_model.specs.Refusals.{places_with_dims, or_else, first_of_all, undeclared_fault, rank_fault, dimension_fault, repeated_fault, access_fault, cover_fault}

-- whether an expression has no access
abbrev pub has_no_access : Expr → Bool
has_no_access e = length (accesses e) == 0

-- the dimension of each place of some accesses
abbrev pub all_places : Decls → List (List ℕ × List ℕ) → List (ℕ × ℕ)
all_places d accs = flat_map (λ a. places_with_dims d a.0 0 a.1) accs

-- each variable's first dimension among some places
abbrev pub IsFirsts : List (ℕ × ℕ) → List (Option ℕ) → Type 0
IsFirsts seen firsts = (v : ℕ) → option_map (λ q. q.1) (find (λ q. q.0 == v) seen) ≡ slice_index_or firsts v None

-- the variables are among the first n
abbrev pub AllVarsBelow : ℕ → List (List ℕ × List ℕ) → Type 0
AllVarsBelow n accs = All (λ (a : List ℕ × List ℕ). All (λ v. v < n) a.1) accs

-- the first fault of some accesses, with their places, and of the left side
abbrev pub access_faults : Decls → Stmt → List (List ℕ × List ℕ) → List (ℕ × ℕ) → Option Refusal
access_faults d s accs places =
    or_else (first_of_all (map (undeclared_fault d) accs))
    (or_else (first_of_all (map (rank_fault d) accs))
    (or_else (dimension_fault s.vars.items [] places)
    (or_else (repeated_fault s.vars.items s.left)
    (first_of_all (map (λ a. repeated_fault s.vars.items a.1) accs)))))

-- the first fault of a statement's terms
abbrev pub term_faults : Stmt → Option Refusal
term_faults s = or_else (first_of_all (map access_fault (enumerate_from 0 (terms s.right))))
    (first_of_all (map (cover_fault s) (enumerate_from 0 (terms s.right))))
