-- Worked examples of what may be run: declarations, statements, calls, worlds, and orders of a world's calls.
use Rattle.std.proofs.Common.{◌≡◌, ℕ, ◌<◌, ◌≤◌, [], ◌∷◌, refl, map, replicate, true, false, arith, All, Some, IsTrue}
use Rattle.std.specs.Prelude.{codes}
use Rattle.std.proofs.lemmas.List.Elements.{All-nil, All-cons}
use Rattle.std.proofs.lemmas.List.Kept.{AllPairs-cons}
use Rattle.dt_model.specs.declared.calls.Call.TheVariants.{Get, Batch, Query}
use Rattle.dt_model.specs.declared.calls.Entry.{Entry}
use Rattle.dt_model.specs.declared.calls.Update.{Update}
use Rattle.dt_model.specs.declared.calls.Update.TheVariants.{Set}
use Rattle.dt_model.specs.declared.declared_tensors.TensorDecl.{TensorDecl}
use Rattle.dt_model.specs.declared.statements.Stmt.{Stmt}
use Rattle.dt_model.specs.declared.statements.Expr.TheVariants.{Access}
use Rattle.dt_model.specs.declared.statements.Expr.TheViews.{Times}
use Rattle.dt_model.specs.declared.limits.TheConstants.{MOST_CALLS}
use Rattle.dt_model.specs.Runs.{IsOrder, IsInScriptOrder, call_of}
use Rattle.dt_model.specs.Verdicts.{is_small, call_is_valid}
use Rattle.dt_model.specs.Worlds.{decls_are_valid, IsValid}
use Rattle.dt_model.proofs.Examples.{declared, vector, statement, v_of_five, entries_of}
use Rattle.dt_model.proofs.ExampleLatches.{two_vectors}
use Rattle.dt_model.proofs.ExampleRefusals.{some_tensors}
use Rattle.dt_model.proofs.ExampleReports.{set_then_get}
use Rattle.dt_model.proofs.ExampleStatements.{two_matrices, affine_tensors, product}

-- ---- declarations

-- the tensors that the worked examples name are declared within the limits
pub worked_declarations : map decls_are_valid (v_of_five ∷ two_vectors ∷ some_tensors ∷ two_matrices ∷ affine_tensors ∷ [])
    ≡ true ∷ true ∷ true ∷ true ∷ true ∷ []
worked_declarations = refl

-- a tensor of one mode in the format of this number
abbrev in_format : ℕ → TensorDecl
in_format f = record { name = codes "v"; dims = 5 ∷ []; formats = record { items = f ∷ [] }; latches = 1 }

-- format 0 is `flat`, and a format without a schema is refused
pub format_needs_a_schema : map (λ f. decls_are_valid (declared (in_format f ∷ []))) (0 ∷ 1 ∷ []) ≡ true ∷ false ∷ []
format_needs_a_schema = refl

-- 1 to 256 latches
pub latches_of_one_tensor : map (λ n. decls_are_valid (declared (vector (codes "v") 5 n ∷ []))) (0 ∷ 1 ∷ 256 ∷ 257 ∷ []) ≡ false ∷ true ∷ true ∷ false ∷ []
latches_of_one_tensor = refl

-- a dimension of 0, and one of 2^32
pub dimensions_out_of_range : map (λ n. decls_are_valid (declared (vector (codes "v") n 1 ∷ []))) (0 ∷ 1 ∷ 4294967295 ∷ 4294967296 ∷ [])
    ≡ false ∷ true ∷ true ∷ false ∷ []
dimensions_out_of_range = refl

-- a name that is declared twice
pub name_twice : decls_are_valid (declared (vector (codes "v") 5 1 ∷ vector (codes "v") 4 2 ∷ [])) ≡ false
name_twice = refl

-- ---- statements and calls

-- A(i,j) = B(i,k) * C(k,j), its variables in order of first appearance
pub product_is_small : is_small product ≡ true
unfolding Rattle.dt_model.specs.declared.statements.Expr.TheBlock.hidden-the_row-Expr-0 denote.Hole.Carrier.hidden
product_is_small = refl

-- the same with k before i and j
abbrev out_of_order : Stmt
out_of_order = statement (codes "A") (codes "k" ∷ codes "i" ∷ codes "j" ∷ []) (1 ∷ 2 ∷ [])
    (Times (Access (codes "B") (1 ∷ 0 ∷ [])) (Access (codes "C") (0 ∷ 2 ∷ [])))

-- it is not in order of first appearance
pub order_of_variables_counts : is_small out_of_order ≡ false
unfolding Rattle.dt_model.specs.declared.statements.Expr.TheBlock.hidden-the_row-Expr-0 denote.Hole.Carrier.hidden
order_of_variables_counts = refl

-- only the first of the two may be asked
pub queries_may_be_asked : map (λ s. call_is_valid two_matrices (Query s)) (product ∷ out_of_order ∷ []) ≡ true ∷ false ∷ []
unfolding Rattle.dt_model.specs.declared.statements.Expr.TheBlock.hidden-the_row-Expr-0 denote.Hole.Carrier.hidden
queries_may_be_asked = refl

-- set v COORDINATE 1, of the coordinate counted from 0
abbrev one_set : ℕ → Update
one_set c = Set (record { tensor = 0; at = c ∷ [] }) 1

-- a batch has 1 to 64 updates
pub sizes_of_batches : map (λ n. call_is_valid v_of_five (Batch (replicate n (one_set 0)))) (0 ∷ 1 ∷ 64 ∷ 65 ∷ []) ≡ false ∷ true ∷ true ∷ false ∷ []
sizes_of_batches = refl

-- coordinates 0 to 4 of the five are in range
pub cells_of_batches : map (λ c. call_is_valid v_of_five (Batch (one_set c ∷ []))) (0 ∷ 4 ∷ 5 ∷ []) ≡ true ∷ true ∷ false ∷ []
cells_of_batches = refl

-- ---- worlds and orders

-- the world of `set v 2 7` and `get v 2` may be run
pub two_lines_may_be_run : IsValid set_then_get
two_lines_may_be_run = record { decls = refl; sessions = refl; calls = refl; sizes = refl; tensors = refl; loads = refl; accepted = refl }

-- the entries of its two lines; coordinate 2 is counted from 0
abbrev the_set : Entry
the_set = record { turn = record { session = 1; number = 1 }; call = Batch (Set (record { tensor = 0; at = 1 ∷ [] }) 7 ∷ []) }

-- the second entry
abbrev the_get : Entry
the_get = record { turn = record { session = 1; number = 2 }; call = Get (record { tensor = 0; at = 1 ∷ [] }) }

-- they are the entries of the turns (1, 1) and (1, 2)
pub entries_of_two_lines : entries_of set_then_get ((1, 1) ∷ (1, 2) ∷ []) ≡ the_set ∷ the_get ∷ []
entries_of_two_lines = refl

-- a fact of both
both : (P : Entry → Type 0) → P the_set → P the_get → All P (the_set ∷ the_get ∷ [])
both P p q = All-cons P the_set (the_get ∷ []) p (All-cons P the_get [] q (All-nil P))

-- first the set, then the get
pub set_and_get_are_an_order : IsOrder set_then_get (the_set ∷ the_get ∷ [])
set_and_get_are_an_order = record {
  legal = record {
    sessions = both (λ e. (1 ≤ e.turn.session) × (e.turn.session ≤ 1)) (omega arith, omega arith) (omega arith, omega arith);
    numbers = both (λ e. (1 ≤ e.turn.number) × (e.turn.number ≤ MOST_CALLS)) (omega arith, omega arith) (omega arith, omega arith);
    calls = both (λ e. IsTrue (call_is_valid v_of_five e.call)) refl refl;
    rising = AllPairs-cons IsInScriptOrder the_set (the_get ∷ [])
        (All-cons (IsInScriptOrder the_set) the_get [] (λ same. omega arith) (All-nil (IsInScriptOrder the_set)))
        (λ i j d l m. absurd (omega (arith, l, m)));
  };
  called = both (λ e. call_of set_then_get e.turn.session e.turn.number ≡ Some e.call) refl refl;
}

-- the get first is none, since a session makes its calls in their order
pub get_before_set_is_no_order : IsOrder set_then_get (the_get ∷ the_set ∷ []) → ⊥
get_before_set_is_no_order order = let less : 2 < 1 = order.legal.rising 0 1 the_set (omega arith) (omega arith) refl in omega (arith, less)
