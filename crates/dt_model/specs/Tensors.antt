-- Declared tensors: their dimensions, fibers and latches.
use Rattle.std.specs.Prelude.{ℕ, ◌+◌, ◌-◌, ◌/◌, Option, Some, None, List, [], take, sum_by, slice_index, slice_get, position, nat_eq}
use Rattle.std.specs.Cmp.Lexicographic.{pointwise}
use Rattle.dt_model.specs.declared.declared_tensors.Decls.{Decls}
use Rattle.dt_model.specs.declared.declared_tensors.TensorDecl.{TensorDecl}

-- the number of the tensor with this name
abbrev pub tensor_named : Decls → List ℕ → Option ℕ
tensor_named d name = position (λ t. pointwise nat_eq t.name name) d.tensors

-- the dimensions of a tensor, if there is one
abbrev pub dims_in : Option TensorDecl → List ℕ
dims_in None = []
dims_in (Some t) = t.dims

-- the dimensions of the tensor with this number
abbrev pub dims_of : Decls → ℕ → List ℕ
dims_of d t = dims_in (slice_get d.tensors t)

-- the number of a tensor's latches, if there is one; else 1
abbrev pub latches_in : Option TensorDecl → ℕ
latches_in None = 1
latches_in (Some t) = t.latches

-- the number of latches of the tensor with this number
abbrev pub latches_of_tensor : Decls → ℕ → ℕ
latches_of_tensor d t = latches_in (slice_get d.tensors t)

-- how many leading coordinates a fiber has: the leading dimension by the latches, rounded up
abbrev pub width_in : ℕ → ℕ → ℕ
width_in dimension latches = (dimension + latches - 1) / latches

-- the width of a tensor's fibers
abbrev pub width_of : Decls → ℕ → ℕ
width_of d t = width_in (slice_index (dims_of d t) 0) (latches_of_tensor d t)

-- how many latches these tensors have
abbrev pub total_latches : List TensorDecl → ℕ
total_latches ts = sum_by (λ t. t.latches) ts

-- the number of a tensor's first latch: as many as the tensors before it have
abbrev pub first_latch : Decls → ℕ → ℕ
first_latch d t = total_latches (take t d.tensors)

-- the latch of a cell: its tensor's first, and one more for each fiber before its own
abbrev pub latch_of : Decls → ℕ → List ℕ → ℕ
latch_of d t c = first_latch d t + slice_index c 0 / width_of d t

-- how many latches the tensors have, which is also the number of the journal's latch
abbrev pub latch_count : Decls → ℕ
latch_count d = total_latches d.tensors
