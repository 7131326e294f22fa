-- Cells in ascending order, one list a tensor, and the contents that they stand for.
use Rattle.std.specs.Prelude.{ℕ, ◌≡◌, ◌<◌, ◌≤◌, ◌==◌, not, List, [], length, filter, if◌then◌else◌, nat_eq, slice_index_or}
use Rattle.std.specs.Cmp.Lexicographic.{pointwise, slice_cmp}
use Rattle.std.specs.Ordering.{nat_cmp}
use Rattle.std.specs.declared.cmp.Ordering.TheVariants.{Less, Greater}
use Rattle.dt_model.specs.Contents.{Contents}
use Rattle.dt_model.specs.Pairs.{total_at}

-- coordinates, and the number there
abbrev pub Cells : Type 0
Cells = List (List ℕ × ℕ)

-- the coordinates of the cell at an index
abbrev pub coords_at : Cells → ℕ → List ℕ
coords_at ps i = let p = slice_index_or ps i ([], 0) in p.0

-- the cell at index i has these coordinates
pub record IsAt (ps : Cells) (c : List ℕ) (i : ℕ) : Type 0 where
  pub there : i < length ps
  pub same : coords_at ps i ≡ c

-- a cell with these coordinates would go to index i
pub record IsGapFor (ps : Cells) (c : List ℕ) (i : ℕ) : Type 0 where
  pub within : i ≤ length ps
  pub before : (j : ℕ) → j < i → slice_cmp nat_cmp (coords_at ps j) c ≡ Less
  pub behind : (j : ℕ) → i ≤ j → j < length ps → slice_cmp nat_cmp (coords_at ps j) c ≡ Greater

-- the number v is at c, and every other number is as before
abbrev pub Puts : Cells → Cells → List ℕ → ℕ → Type 0
Puts old new c v = (d : List ℕ) → total_at new d ≡ (if pointwise nat_eq c d then v else total_at old d)

-- the cells whose number isn't 0
abbrev pub without_zeros : Cells → Cells
without_zeros ps = filter (λ p. not (p.1 == 0)) ps

-- the cells of tensor t among those of all tensors
abbrev pub cells_of : List Cells → ℕ → Cells
cells_of tensors t = slice_index_or tensors t []

-- the contents that the cells of all tensors stand for
abbrev pub contents_of : List Cells → Contents
contents_of tensors t c = total_at (cells_of tensors t) c
