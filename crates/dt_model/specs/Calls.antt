-- What a call asks for.
use Rattle.std.specs.Prelude.{ℕ, ◌≢◌, ◌<◌, length, All}
use Rattle.dt_model.specs.declared.calls.Call.{Call}
use Rattle.dt_model.specs.declared.calls.Call.TheVariants.{Get, Batch, Query}
use Rattle.dt_model.specs.Verdicts.{update_cell}

-- the call is no get
abbrev pub IsNoGet : Call → Type 0
IsNoGet (Get cell) = ⊥
IsNoGet (Batch updates) = Unit {0}
IsNoGet (Query stmt) = Unit {0}

-- the call is no batch of one update
abbrev pub IsNoSingle : Call → Type 0
IsNoSingle (Get cell) = Unit {0}
IsNoSingle (Batch updates) = length updates ≢ 1
IsNoSingle (Query stmt) = Unit {0}

-- each cell of the call is one of the first n tensors
abbrev pub IsWithin : ℕ → Call → Type 0
IsWithin n (Get cell) = cell.tensor < n
IsWithin n (Batch updates) = All (λ u. (update_cell u).tensor < n) updates
IsWithin n (Query stmt) = Unit {0}
