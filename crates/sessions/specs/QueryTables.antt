-- The tables that a query is answered over. No public clause cites this module.
use Rattle.std.specs.Prelude.{ℕ, ◌≡◌, true, List, Some, All}
use Rattle.dt_model.specs.declared.declared_tensors.Decls.{Decls}
use Rattle.dt_model.specs.Contents.{Contents}
use Rattle.dt_model.specs.Statements.{all_below, nonzeros}
use Rattle.dt_model.specs.Tensors.{tensor_named, dims_of}
use Rattle.slow_eval.specs.Given.{has_entry}
use Rattle.sessions.specs.InRange.{IsInRange}

-- these are the nonzeros of a tensor, whatever its dimensions, if nothing lies outside them
abbrev pub AreNonzerosOf : Contents → ℕ → List (List ℕ × ℕ) → Type 0
AreNonzerosOf m t pairs = (d : Decls) → IsInRange d m → pairs ≡ nonzeros (m t) (all_below (dims_of d t))

-- the tensor with this name has a table, if there is one
abbrev pub HasTable : Decls → List (ℕ × List (List ℕ × ℕ)) → List ℕ → Type 0
HasTable d tables name = (t : ℕ) → tensor_named d name ≡ Some t → has_entry tables t ≡ true

-- the tensor of each access has a table
abbrev pub HaveTables : Decls → List (ℕ × List (List ℕ × ℕ)) → List (List ℕ × List ℕ) → Type 0
HaveTables d tables accs = All (λ a. HasTable d tables a.0) accs

-- each tensor with a table still has one
abbrev pub KeepsTables : List (ℕ × List (List ℕ × ℕ)) → List (ℕ × List (List ℕ × ℕ)) → Type 0
KeepsTables old new = (t : ℕ) → has_entry old t ≡ true → has_entry new t ≡ true
