-- The contents of all tensors: the number in each cell, which is 0 where nothing is written.
use Rattle.std.specs.Prelude.{ℕ, ◌+◌, ◌%◌, ◌^◌, Bool, List, ◌==◌, ◌&&◌, if◌then◌else◌, nat_eq, fold}
use Rattle.std.specs.Cmp.Lexicographic.{pointwise}
use Rattle.dt_model.specs.declared.calls.Update.{Update}
use Rattle.dt_model.specs.declared.calls.Update.TheVariants.{Set, Add}

-- the number in each cell, by the tensor's number and the coordinates
abbrev pub Contents : Type 0
Contents = ℕ → List ℕ → ℕ

-- nothing is written anywhere
abbrev pub no_cells : Contents
no_cells t c = 0

-- whether two cells are one
abbrev pub same_cell : ℕ → List ℕ → ℕ → List ℕ → Bool
same_cell t c u d = (t == u) && pointwise nat_eq c d

-- the number v put into a cell
abbrev pub with_cell : Contents → ℕ → List ℕ → ℕ → Contents
with_cell m t c v = λ u d. if same_cell t c u d then v else m u d

-- the number v added to a cell, modulo 2^64
abbrev pub with_more : Contents → ℕ → List ℕ → ℕ → Contents
with_more m t c v = with_cell m t c ((m t c + v) % 2 ^ 64)

-- one update made
abbrev pub with_update : Contents → Update → Contents
with_update m (Set cell v) = with_cell m cell.tensor cell.at v
with_update m (Add cell v) = with_more m cell.tensor cell.at v

-- updates made in their order
abbrev pub with_updates : Contents → List Update → Contents
with_updates m updates = fold with_update m updates
