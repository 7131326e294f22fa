-- The latches that a call needs, as ranges of numbers, and the search for the least of them. No public clause cites this module.
use Rattle.std.specs.Prelude.{◌≡◌, ℕ, ◌+◌, ◌≤◌, ◌&&◌, Bool, List, [], ◌∷◌, map, Option, Some, None, IfSome, MatchOption, IsTrue, nat_le, nat_lt}
use Rattle.std.specs.List.{list_any, flat_map}
use Rattle.std.specs.List.Sorted.{IsNonDecreasingBy}
use Rattle.dt_model.specs.declared.calls.Call.{Call}
use Rattle.dt_model.specs.declared.calls.Call.TheVariants.{Get, Batch, Query}
use Rattle.dt_model.specs.declared.declared_tensors.Decls.{Decls}
use Rattle.dt_model.specs.Latches.{latch_of_cell}
use Rattle.dt_model.specs.Statements.{accesses}
use Rattle.dt_model.specs.Tensors.{first_latch, latches_of_tensor, tensor_named}
use Rattle.dt_model.specs.Verdicts.{update_cell}
use Rattle.sessions.specs.declared.needing.LatchRange.{LatchRange}

-- ---- ranges

-- the range of one latch
abbrev pub one_latch : ℕ → LatchRange
one_latch l = record { first = l; end = l + 1 }

-- the range of a tensor's latches, if there is a tensor
abbrev pub tensor_ranges : Decls → Option ℕ → List LatchRange
tensor_ranges d None = []
tensor_ranges d (Some t) = record { first = first_latch d t; end = first_latch d t + latches_of_tensor d t } ∷ []

-- the ranges of the tensors that accesses name
abbrev pub access_ranges : Decls → List (List ℕ × List ℕ) → List LatchRange
access_ranges d accs = flat_map (λ a. tensor_ranges d (tensor_named d a.0)) accs

-- the ranges of a call's latches, in the order in which it names them
abbrev pub call_ranges : Decls → Call → List LatchRange
call_ranges d (Get cell) = one_latch (latch_of_cell d cell) ∷ []
call_ranges d (Batch updates) = map (λ u. one_latch (latch_of_cell d (update_cell u))) updates
call_ranges d (Query s) = access_ranges d (accesses s.right)

-- whether the latch is in the range
abbrev pub is_in : LatchRange → ℕ → Bool
is_in r l = nat_le r.first l && nat_lt l r.end

-- whether the latch is in one of the ranges
abbrev pub covers : List LatchRange → ℕ → Bool
covers ranges l = list_any (λ r. is_in r l) ranges

-- no range begins below the one before it
abbrev pub AreAscending : List LatchRange → Type 0
AreAscending ranges = IsNonDecreasingBy (λ r. r.first) ranges

-- ---- the search

-- the latch that was found is at most k
abbrev pub IsFoundUpTo : Option ℕ → ℕ → Type 0
IsFoundUpTo found k = MatchOption found ⊥ (λ l. l ≤ k)

-- what was found is the least latch from `from` on of which `needs` holds
pub record IsLeastFrom (needs : ℕ → Bool) (from : ℕ) (found : Option ℕ) : Type 0 where
  pub some_latch : IfSome found (λ l. (from ≤ l) × IsTrue (needs l))
  pub least : (k : ℕ) → from ≤ k → IsTrue (needs k) → IsFoundUpTo found k
