-- Tensors, lines and runs that the worked examples speak of.
use Rattle.std.proofs.Common.{ℕ, List, [], ◌∷◌, map, Some}
use Rattle.std.specs.Prelude.{codes, ◌^◌, ◌-◌}
use Rattle.std.specs.List.{filter_map}
use Rattle.dt_model.specs.declared.declared_tensors.TensorDecl.{TensorDecl}
use Rattle.dt_model.specs.declared.declared_tensors.Decls.{Decls}
use Rattle.dt_model.specs.declared.calls.Entry.{Entry}
use Rattle.dt_model.specs.declared.replies.World.{World}
use Rattle.dt_model.specs.declared.statements.Stmt.{Stmt}
use Rattle.dt_model.specs.declared.statements.Expr.{Expr}
use Rattle.dt_model.specs.declared.written.WrittenNumber.{WrittenNumber}
use Rattle.dt_model.specs.declared.written.WrittenNumber.TheVariants.{Whole}
use Rattle.dt_model.specs.declared.written.WrittenCoordinate.TheVariants.{Number}
use Rattle.dt_model.specs.declared.written.UpdateKind.{UpdateKind}
use Rattle.dt_model.specs.declared.written.UpdateKind.TheVariants.{Set, Add}
use Rattle.dt_model.specs.declared.written.WrittenUpdate.{WrittenUpdate}
use Rattle.dt_model.specs.declared.written.WrittenCall.{WrittenCall}
use Rattle.dt_model.specs.declared.written.WrittenCall.TheVariants.{Get, Batch}
use Rattle.dt_model.specs.Flat.{flat_schema}
use Rattle.dt_model.specs.Verdicts.{verdict}
use Rattle.dt_model.specs.Report.{entry_from}

-- a tensor of one mode
abbrev pub vector : List ℕ → ℕ → ℕ → TensorDecl
vector name dim latches = record { name = name; dims = dim ∷ []; formats = record { items = 0 ∷ [] }; latches = latches }

-- a tensor of two modes with one latch
abbrev pub matrix : List ℕ → ℕ → ℕ → TensorDecl
matrix name rows columns = record { name = name; dims = rows ∷ columns ∷ []; formats = record { items = 0 ∷ 0 ∷ [] }; latches = 1 }

-- these tensors are declared, over the schema `flat` alone
abbrev pub declared : List TensorDecl → Decls
declared tensors = record { schemas = flat_schema ∷ []; tensors = tensors }

-- an update of this kind
abbrev update_of : UpdateKind → List ℕ → List ℕ → WrittenNumber → WrittenUpdate
update_of kind name coordinates number = record { kind = kind; name = name; coordinates = map Number coordinates; number = number }

-- `set NAME COORDINATES VALUE` as an update
abbrev pub set_of : List ℕ → List ℕ → WrittenNumber → WrittenUpdate
set_of name coordinates number = update_of Set name coordinates number

-- `add NAME COORDINATES VALUE` as an update
abbrev pub add_of : List ℕ → List ℕ → WrittenNumber → WrittenUpdate
add_of name coordinates number = update_of Add name coordinates number

-- `set NAME COORDINATES VALUE` as a line
abbrev pub set_line : List ℕ → List ℕ → WrittenNumber → WrittenCall
set_line name coordinates number = Batch (set_of name coordinates number ∷ [])

-- `add NAME COORDINATES VALUE` as a line
abbrev pub add_line : List ℕ → List ℕ → WrittenNumber → WrittenCall
add_line name coordinates number = Batch (add_of name coordinates number ∷ [])

-- `get NAME COORDINATES`
abbrev pub get_line : List ℕ → List ℕ → WrittenCall
get_line name coordinates = Get name (map Number coordinates)

-- the number -n
abbrev pub minus : ℕ → WrittenNumber
minus n = Whole (2 ^ 64 - n)

-- a statement; the variables are numbered by their places in the list of names
abbrev pub statement : List ℕ → List (List ℕ) → List ℕ → Expr → Stmt
statement name vars left right = record { name = name; vars = record { items = vars }; left = left; right = right }

-- a world with one session, whose script has these lines
abbrev pub world_of : Decls → List (List (List ℕ × ℕ)) → List WrittenCall → World
world_of d base lines = record { decls = d; base = base; scripts = map (verdict d) lines ∷ [] }

-- the entries of these turns, in this order
abbrev pub entries_of : World → List (ℕ × ℕ) → List Entry
entries_of w turns = filter_map (λ turn. entry_from w (Some turn.0) (Some turn.1)) turns

-- the tensor `v` of dimension 5 with one latch
abbrev pub v_of_five : Decls
v_of_five = declared (vector (codes "v") 5 1 ∷ [])

-- a session over `v` alone
abbrev pub session_over_v : List WrittenCall → World
session_over_v lines = world_of v_of_five ([] ∷ []) lines
