-- Why a written line is refused: the reasons for cells, numbers and statements, in their order.
use Rattle.std.specs.Prelude.{ℕ, ◌+◌, ◌-◌, Bool, true, false, not, List, [], ◌∷◌, ◌++◌, map, find}
use Rattle.std.specs.Prelude.{length, slice_index, Option, Some, None, ◌==◌, if◌then◌else◌, ◌&&◌, ◌||◌, nat_le, is_none, unwrap_or, option_and_then}
use Rattle.std.specs.List.{flat_map, enumerate_from}
use Rattle.std.specs.Option.{option_map}
use Rattle.dt_model.specs.declared.statements.Expr.{Expr, end_of-Expr, more_of-Expr}
use Rattle.dt_model.specs.declared.statements.Expr.TheVariants.{Literal, Access, Plus', Minus', Times', Negate'}
use Rattle.dt_model.specs.declared.statements.Stmt.{Stmt}
use Rattle.dt_model.specs.declared.declared_tensors.Decls.{Decls}
use Rattle.dt_model.specs.declared.replies.Refusal.{Refusal}
use Rattle.dt_model.specs.declared.replies.Refusal.TheVariants as because
use Rattle.dt_model.specs.declared.written.WrittenNumber.{WrittenNumber}
use Rattle.dt_model.specs.declared.written.WrittenNumber.TheVariants as number
use Rattle.dt_model.specs.declared.written.WrittenCoordinate.{WrittenCoordinate}
use Rattle.dt_model.specs.declared.written.WrittenCoordinate.TheVariants as coordinate
use Rattle.dt_model.specs.declared.written.WrittenUpdate.{WrittenUpdate}
use Rattle.dt_model.specs.Tensors.{tensor_named, dims_of}
use Rattle.dt_model.specs.Statements.{accesses, terms, contains_number, own_vars}

-- ---- the first of some reasons

-- the first that there is of two
abbrev pub or_else : {X : Type 0} → Option X → Option X → Option X
or_else None o = o
or_else (Some x) o = Some x

-- the first that there is of a list
abbrev pub first_of_all : {X : Type 0} → List (Option X) → Option X
first_of_all [] = None
first_of_all (o ∷ os) = or_else o (first_of_all os)

-- x where the test passes
abbrev pub when : {X : Type 0} → Bool → X → Option X
when true x = Some x
when false x = None

-- ---- cells

-- whether a written coordinate is from 1 to the dimension
abbrev pub is_in_dimension : ℕ → WrittenCoordinate → Bool
is_in_dimension d (coordinate.Number n) = nat_le 1 n && nat_le n d
is_in_dimension d coordinate.Huge = false

-- the first mode, counted from 1, whose coordinate isn't from 1 to the dimension
abbrev pub range_fault : List ℕ → ℕ → List ℕ → List WrittenCoordinate → Option Refusal
range_fault name mode (d ∷ ds) (c ∷ cs) = or_else (when (not (is_in_dimension d c)) (because.Range name mode d))
    (range_fault name (mode + 1) ds cs)
range_fault name mode ds cs = None

-- why a cell is refused, where its tensor has this number, if it is declared
abbrev pub cell_fault_in : Decls → List ℕ → List WrittenCoordinate → Option ℕ → Option Refusal
cell_fault_in d name coordinates None = Some (because.Name name)
cell_fault_in d name coordinates (Some t) = or_else
    (when (not (length coordinates == length (dims_of d t))) (because.Rank name (length coordinates) (length (dims_of d t))))
    (range_fault name 1 (dims_of d t) coordinates)

-- why a cell is refused: its tensor's name, then the count of coordinates, then the first mode that is out of range
abbrev pub cell_fault : Decls → List ℕ → List WrittenCoordinate → Option Refusal
cell_fault d name coordinates = cell_fault_in d name coordinates (tensor_named d name)

-- why a written number is refused
abbrev pub number_fault : WrittenNumber → Option Refusal
number_fault (number.Whole v) = None
number_fault number.Fraction = Some because.NotWhole
number_fault number.Huge = Some because.TooLarge

-- why an update is refused: its cell, then its number
abbrev pub update_fault : Decls → WrittenUpdate → Option Refusal
update_fault d u = or_else (cell_fault d u.name u.coordinates) (number_fault u.number)

-- ---- statements

-- an access whose tensor isn't declared
abbrev pub undeclared_fault : Decls → List ℕ × List ℕ → Option Refusal
undeclared_fault d a = when (is_none (tensor_named d a.0)) (because.Name a.0)

-- the order of the tensor with this name
abbrev pub order_named : Decls → List ℕ → ℕ
order_named d name = unwrap_or (option_map (λ t. length (dims_of d t)) (tensor_named d name)) 0

-- an access whose count of variables isn't its tensor's order
abbrev pub rank_fault : Decls → List ℕ × List ℕ → Option Refusal
rank_fault d a = when (not (length a.1 == order_named d a.0)) (because.Rank a.0 (length a.1) (order_named d a.0))

-- the name at an index
abbrev pub nth_name : List (List ℕ) → ℕ → List ℕ
nth_name [] n = []
nth_name (x ∷ xs) n = if n == 0 then x else nth_name xs (n - 1)

-- each variable of an access, with its dimension there
abbrev pub places_with_dims : Decls → List ℕ → ℕ → List ℕ → List (ℕ × ℕ)
places_with_dims d name place [] = []
places_with_dims d name place (v ∷ vs) = (v, unwrap_or (option_map (λ t. slice_index (dims_of d t) place) (tensor_named d name)) 0)
    ∷ places_with_dims d name (place + 1) vs

-- the first variable that was seen before with another dimension
abbrev pub dimension_fault : List (List ℕ) → List (ℕ × ℕ) → List (ℕ × ℕ) → Option Refusal
dimension_fault names seen [] = None
dimension_fault names seen (p ∷ ps) = or_else
    (option_and_then (λ q. when (not (q.1 == p.1)) (because.Dimension (nth_name names p.0) q.1 p.1)) (find (λ q. q.0 == p.0) seen))
    (dimension_fault names (seen ++ p ∷ []) ps)

-- the first variable of a list that is there again later
abbrev pub repeated_in : List ℕ → Option ℕ
repeated_in [] = None
repeated_in (v ∷ vs) = if contains_number vs v then Some v else repeated_in vs

-- a list of variables that has one twice
abbrev pub repeated_fault : List (List ℕ) → List ℕ → Option Refusal
repeated_fault names vs = option_map (λ v. because.Repeated (nth_name names v)) (repeated_in vs)

-- whether an expression covers variable i: a sum where both sides do, a product where either factor does
abbrev pub covers : Expr → ℕ → Bool
covers (Literal v) i = false
covers (Access tensor vars) i = contains_number vars i
covers (Plus' s (more_of-Expr a end_of-Expr) t (more_of-Expr b end_of-Expr)) i = covers a i && covers b i
covers (Minus' s (more_of-Expr a end_of-Expr) t (more_of-Expr b end_of-Expr)) i = covers a i && covers b i
covers (Times' s (more_of-Expr a end_of-Expr) t (more_of-Expr b end_of-Expr)) i = covers a i || covers b i
covers (Negate' s (more_of-Expr a end_of-Expr)) i = covers a i

-- a term without an access; terms are counted from 0 here and from 1 in the refusal
abbrev pub access_fault : ℕ × (Bool × Expr) → Option Refusal
access_fault p = when (length (accesses p.1.1) == 0) (because.Access (p.0 + 1))

-- a term that doesn't cover a variable of the left side or one of its own, with the first such variable
abbrev pub cover_fault : Stmt → ℕ × (Bool × Expr) → Option Refusal
cover_fault s p = option_map (λ v. because.Uncovered (p.0 + 1) (nth_name s.vars.items v))
    (find (λ v. not (covers p.1.1 v)) (s.left ++ own_vars s.left p.1.1))

-- why a statement is refused: name, rank, dimension, repeated (on the left, then by access), access, uncovered
abbrev pub statement_fault : Decls → Stmt → Option Refusal
statement_fault d s =
    or_else (first_of_all (map (undeclared_fault d) (accesses s.right)))
    (or_else (first_of_all (map (rank_fault d) (accesses s.right)))
    (or_else (dimension_fault s.vars.items [] (flat_map (λ a. places_with_dims d a.0 0 a.1) (accesses s.right)))
    (or_else (repeated_fault s.vars.items s.left)
    (or_else (first_of_all (map (λ a. repeated_fault s.vars.items a.1) (accesses s.right)))
    (or_else (first_of_all (map access_fault (enumerate_from 0 (terms s.right))))
    (first_of_all (map (cover_fault s) (enumerate_from 0 (terms s.right)))))))))
