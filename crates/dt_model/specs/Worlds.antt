-- Worlds that may be run: declarations, loaded lines and scripts within the limits.
use Rattle.std.specs.Prelude.{ℕ, ◌+◌, ◌^◌, Bool, true, List, map, length, sum_by, ◌==◌, ◌&&◌, nat_lt, nat_le, IsTrue}
use Rattle.std.specs.List.{list_all, enumerate_from}
use Rattle.dt_model.specs.declared.calls.Call.TheVariants.{Batch}
use Rattle.dt_model.specs.declared.declared_tensors.Decls.{Decls}
use Rattle.dt_model.specs.declared.declared_tensors.TensorDecl.{TensorDecl}
use Rattle.dt_model.specs.declared.replies.Refusal.{Refusal}
use Rattle.dt_model.specs.declared.replies.Refusal.TheVariants as because
use Rattle.dt_model.specs.declared.replies.Verdict.{Verdict}
use Rattle.dt_model.specs.declared.replies.Verdict.TheVariants.{Accepted, Refused}
use Rattle.dt_model.specs.declared.replies.World.{World}
use Rattle.dt_model.specs.declared.limits.TheConstants.{MOST_SCHEMAS, MOST_KINDS, MOST_TENSORS, MOST_ORDER, MOST_TENSOR_LATCHES}
use Rattle.dt_model.specs.declared.limits.TheConstants.{MOST_LATCHES, MOST_SESSIONS, MOST_CALLS, MOST_LINES}
use Rattle.dt_model.specs.Flat.{begins_with_flat}
use Rattle.dt_model.specs.Names.{is_name}
use Rattle.dt_model.specs.Tensors.{dims_of, latch_count}
use Rattle.dt_model.specs.Verdicts.{names_differ, all_in_range, call_is_valid}

-- ---- declarations

-- whether a tensor has a name, 1 to 5 dimensions from 1, as many declared formats, and 1 to 256 latches
abbrev pub tensor_is_valid : Decls → TensorDecl → Bool
tensor_is_valid d t = is_name t.name && nat_le 1 (length t.dims) && nat_le (length t.dims) MOST_ORDER
    && list_all (λ n. nat_le 1 n && nat_lt n (2 ^ 32)) t.dims
    && (length t.formats.items == length t.dims)
    && list_all (λ f. nat_lt f (length d.schemas)) t.formats.items
    && nat_le 1 t.latches && nat_le t.latches MOST_TENSOR_LATCHES

-- schema number 0 is `flat`; the limits on schemas, tensors, orders, dimensions and latches
abbrev pub decls_are_valid : Decls → Bool
decls_are_valid d = begins_with_flat d.schemas && nat_le (length d.schemas) (MOST_SCHEMAS + 1)
    && list_all (λ s. nat_le (length s.kinds.items) MOST_KINDS) d.schemas
    && nat_le (length d.tensors) MOST_TENSORS && names_differ (map (λ t. t.name) d.tensors)
    && list_all (tensor_is_valid d) d.tensors && nat_le (latch_count d) MOST_LATCHES

-- ---- worlds

-- whether the names in a refusal are names
abbrev pub refusal_is_named : Refusal → Bool
refusal_is_named (because.Name name) = is_name name
refusal_is_named (because.Rank name given order) = is_name name
refusal_is_named (because.Range name mode dim) = is_name name
refusal_is_named (because.Dimension var first second) = is_name var
refusal_is_named (because.Repeated var) = is_name var
refusal_is_named (because.Uncovered term var) = is_name var
refusal_is_named r = true

-- whether a verdict has a valid call or a refusal that names names
abbrev pub verdict_is_valid : Decls → Verdict → Bool
verdict_is_valid d (Accepted call) = call_is_valid d call
verdict_is_valid d (Refused r) = refusal_is_named r

-- how many updates a verdict's call has
abbrev pub updates_in : Verdict → ℕ
updates_in (Accepted (Batch updates)) = length updates
updates_in v = 0

-- whether each loaded line of a tensor is in range
abbrev pub loads_are_valid : Decls → ℕ × List (List ℕ × ℕ) → Bool
loads_are_valid d p = list_all (λ line. all_in_range (dims_of d p.0) line.0) p.1

-- the declarations are valid, and the limits on sessions, calls, loaded lines and updates are met; there are loaded
-- lines for each tensor, all in range; and every verdict is valid
pub record IsValid (w : World) : Type 0 where
  pub decls : IsTrue (decls_are_valid w.decls)
  pub sessions : IsTrue (nat_le (length w.scripts) MOST_SESSIONS)
  pub calls : IsTrue (list_all (λ s. nat_le (length s) MOST_CALLS) w.scripts)
  pub sizes : IsTrue (nat_le (sum_by length w.base + sum_by (λ s. sum_by updates_in s) w.scripts) MOST_LINES)
  pub tensors : IsTrue (length w.base == length w.decls.tensors)
  pub loads : IsTrue (list_all (loads_are_valid w.decls) (enumerate_from 0 w.base))
  pub accepted : IsTrue (list_all (list_all (verdict_is_valid w.decls)) w.scripts)
